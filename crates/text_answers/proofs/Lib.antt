pub mod Answers
mod Pieces
