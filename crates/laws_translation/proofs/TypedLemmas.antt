pub mod Listed
pub mod Wider
pub mod RenamedTyped
pub mod Nested
pub mod Flows
pub mod EventsTyped
pub mod TypedLaws
pub mod Apart
