-- What the sweep list program prints.
pub mod Text
pub mod Writing
pub mod DecimalLaws
pub mod TextLaws
pub mod Sheet
