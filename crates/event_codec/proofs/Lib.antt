pub mod Stepping
pub mod Lying
pub mod PartLaws
pub mod SessionLaws
pub mod TableLaws
pub mod RoundTrip
