pub mod Among
pub mod BodyRanking
pub mod Most
pub mod RefusedFirst
