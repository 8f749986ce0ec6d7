pub mod TranslateLemmas
pub mod OneReply
pub mod PrinterLemmas
