-- The sweep list program's input: its form, and what it asks for.
pub mod Form
pub mod Asked
pub mod Scan
pub mod ScanLaws
pub mod FormLaws
pub mod Heard
pub mod AskedLaws
pub mod SplitLaws
pub mod BeginsLaws
pub mod Sheet
