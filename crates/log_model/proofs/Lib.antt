pub mod Bits
pub mod Taking
pub mod ImageLaws
pub mod Walking
pub mod Running
pub mod Parsing
pub mod Fronts
pub mod Scanning
pub mod ReadAgain
pub mod Carrying
pub mod OneGroup
pub mod Growing
-- the crates below that this one speaks of, passed on
pub use Rattle.log_entries.proofs as of_log_entries
