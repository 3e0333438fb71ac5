pub mod Taking
pub mod Format
pub mod Reading
pub mod Answer
pub mod Writing
