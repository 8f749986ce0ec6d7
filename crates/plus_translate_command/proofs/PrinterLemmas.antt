pub mod JoinedLemmas
pub mod WovenLemmas
pub mod FrameLemmas
pub mod HalfLemmas
