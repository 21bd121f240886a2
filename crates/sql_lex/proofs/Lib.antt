pub mod KeywordLaws
mod Steps
pub mod Fronts
mod BlankLaws
mod ByLetter
pub mod SpanLaws
pub mod Spelled
