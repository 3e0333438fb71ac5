pub mod Power
pub mod PowerLaws
pub mod Division
pub mod Shifts
pub mod Ints
