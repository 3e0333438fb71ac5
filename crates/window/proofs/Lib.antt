-- The laws of the window.
pub mod Frames
pub mod Members
pub mod KeyLaws
pub mod AscLaws
pub mod QueueLaws
pub mod CyclicLaws
pub mod Later
pub mod LargeLaws
pub mod Sizes
pub mod Foremost
pub mod Drawn
pub mod WindowLaws
pub mod Tops
pub mod Chosen
