-- Two sweeps side by side: how their keys differ, and what is said of them.
pub mod Alike
pub mod Steady
-- for the proofs
pub mod Begun
