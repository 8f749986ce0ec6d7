-- What the claim of `run` stands on.
pub mod Translate
pub mod Printer
-- Inner words.
pub mod Laws
pub mod HalfReply
