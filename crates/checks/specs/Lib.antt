pub mod Largest
pub mod Homes
pub mod Verdicts
