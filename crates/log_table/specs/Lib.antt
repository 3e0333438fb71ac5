pub mod House
pub mod Logs
