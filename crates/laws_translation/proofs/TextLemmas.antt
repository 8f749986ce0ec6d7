pub mod Good
pub mod Rooms
pub mod SpelledGood
pub mod FreshWords
pub mod GoodRenamed
pub mod GoodTranslated
pub mod TextLaws
pub mod Counts
