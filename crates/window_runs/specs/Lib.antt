-- What the contracts of `window_runs` cite.
pub mod Sized
