-- What the claim of `run` stands on.
pub mod Forms
pub mod WellTyped
pub mod Asked
pub mod Laws
-- Inner words.
pub mod Rows
pub mod Worked
