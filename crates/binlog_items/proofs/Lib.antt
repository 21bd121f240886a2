pub mod Naming
pub mod Parts
pub mod Fitting
pub mod Encoding
pub mod Forms
pub mod Cutting
-- the crate below that this one speaks of, passed on
pub use Rattle.log_entry_laws.proofs.of_log_model as of_log_model
