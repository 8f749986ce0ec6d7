mod Accepted
mod ActLemmas
mod Calls
mod Inside
mod KeptLemmas
mod Reading
mod OneStatus
mod Told
