pub mod Reads
pub mod Writes
pub mod Rows
pub mod Tables
pub mod Listing
pub mod Indexing
pub mod Quiet
pub mod Laws
