pub mod Merged
pub mod Twins
pub mod TwinSteps
pub mod Parts
pub mod Merging
pub mod Halves
pub mod Lent
