pub mod Level
pub mod Told
pub mod Positions
pub mod Sizes
