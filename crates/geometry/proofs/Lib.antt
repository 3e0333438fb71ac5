pub mod Assemble
pub mod Sizes
pub mod Places
pub mod Existing
pub mod Halving
pub mod Sizing
pub mod UsualLaws
