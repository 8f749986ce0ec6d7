-- What the claim of `run` stands on.
pub mod Printed
-- Inner words.
pub mod Woven
pub mod Frame
