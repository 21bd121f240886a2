pub mod Again
pub mod Bodies
pub mod Followed
pub mod Replaying
pub mod Rerun
pub mod Sizes
pub mod Texts
pub mod Worked
-- the crates below that this one speaks of, passed on
pub use Rattle.independence_laws.specs as independence_laws
pub use Rattle.session_model.specs.proc_model as proc_model
pub use Rattle.session_model.specs as session_model
pub use Rattle.name_const_laws.specs.sql_meaning as sql_meaning
pub use Rattle.name_const_laws.specs.sql_reach as sql_reach
pub use Rattle.session_model.specs.text_answers as text_answers
