pub mod Every
pub mod Sizes
pub mod Stray
pub mod Cascade
