pub mod FlatLaws
pub mod ListLaws
pub mod Standing
pub mod Passing
pub mod AllLaws
pub mod Stored
