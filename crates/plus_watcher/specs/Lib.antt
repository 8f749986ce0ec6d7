pub mod Fitting
pub mod Told
pub mod Stands
pub mod Looked
pub mod Laws
