-- The laws of `window_runs`.
pub mod Begun
pub mod Grown
