pub mod Histories
pub mod Growing
pub mod Calls
pub mod Finding
pub mod RootsFit
pub mod Lengths
