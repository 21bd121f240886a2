pub mod Headline
pub mod Pages
pub mod Whole
pub mod Words
