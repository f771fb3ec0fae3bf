pub mod ReaderTexts
pub mod Texts
