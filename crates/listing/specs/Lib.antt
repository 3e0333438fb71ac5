-- The sweep list program: from the bytes that it reads to the bytes that it prints.
pub mod Listing
pub mod Limits
pub mod Work
pub mod Ends
pub mod Fed
