-- What the claim of `run` stands on.
pub mod Frac
-- Inner words.
pub mod Exact
pub mod Size
pub mod Parts
pub mod FracLaws
pub mod Ticks
pub mod TicksLaws
pub mod Widen
