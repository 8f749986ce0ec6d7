pub mod Markup
pub mod MarkupLaws
