pub mod Between
pub mod Looks
pub mod Asked
pub mod Laws
pub mod View
pub mod Told
pub mod Watched
