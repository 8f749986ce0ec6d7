pub mod Values
pub mod Effects
pub mod Times
pub mod Rises
pub mod Tank
pub mod Door
pub mod Mixed
pub mod Token
