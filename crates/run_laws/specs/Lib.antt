pub mod Laws
pub mod Openings
pub mod Fronts
pub mod Replays
pub mod Restarts
-- the crates below that this one speaks of, passed on
pub use Rattle.apply_laws.specs as apply_laws
pub use Rattle.apply_laws.specs.log_entry_laws as log_entry_laws
pub use Rattle.apply_laws.specs.log_entries as log_entries
pub use Rattle.apply_laws.specs.log_model as log_model
pub use Rattle.run_model.specs as run_model
pub use Rattle.apply_laws.specs.session_model as session_model
pub use Rattle.apply_laws.specs.session_replays as session_replays
