pub mod Ruled
pub mod Small
pub mod Usual
