-- Where nothing fails, all that was asked for is done, or memory was short.
use Rattle.std.specs.Prelude.{◌≡◌, ℕ, List, Option, Some, Ok}
use Rattle.disk_model.specs.Story.{Story}
use Rattle.script_run.specs.run_stores.run_laws.run_model.log_file_model.Walk.{ended, grouped}
use Rattle.script_run.specs.run_stores.run_laws.session_replays.Followed.{EntriesFollow}
use Rattle.script_run.specs.run_stores.run_laws.run_model.Asked.{Asked, asked_of}
use Rattle.script_run.specs.run_stores.run_laws.run_model.Run.{Starts}
use Rattle.script_run.specs.run_stores.run_laws.Fronts.{log_at}
use Rattle.repl_run.specs.Headline.{BeginsBehind}

-- The input tells a script that splits into commands, of which each is carried out by some node.
pub record IsAsked (input : Option (List ℕ)) : Type 0 where
  pub script : List ℕ
  pub tells : input ≡ Some script
  pub commands : List Asked
  pub asks : asked_of script ≡ Ok commands

-- The input tells a log of whole groups, with nothing behind them.
pub record IsWholeLog (input : Option (List ℕ)) : Type 0 where
  pub bytes : List ℕ
  pub tells : input ≡ Some bytes
  pub ends : (grouped bytes).ending ≡ ended

-- The input tells the whole log of a source that a replica is behind, of which all that it owes does the same at every replica.
pub record IsWhollyOwed (t : Option Story) (input : Option (List ℕ)) : Type 0 where
  pub story : Story
  pub told : t ≡ Some story
  pub from : Starts
  pub bytes : List ℕ
  pub behind : BeginsBehind t input from bytes
  pub whole : bytes ≡ log_at from
  pub follow : EntriesFollow from.owed
