pub mod Parts
pub mod SetBits
pub mod Walk
pub mod Filling
pub mod Cases
pub mod Spare
