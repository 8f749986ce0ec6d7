pub mod Standing
pub mod Listed
pub mod Asking
pub mod Simply
