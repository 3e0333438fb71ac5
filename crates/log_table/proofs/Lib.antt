pub mod Walks
pub mod Squares
pub mod HouseLaws
pub mod Leading
pub mod LogLaws
pub mod Entries
pub mod LogHouse
