-- What all sessions share, as the machine has it, and by the parts that commands do to it.
use Rattle.std.specs.Prelude.{ℕ, Bool, true, false, if◌then◌else◌, List, [], ◌∷◌, drop, take, Option}
use Rattle.val_types.specs.declared.change.Change.{Change}
use Rattle.prog_work.specs.catalog_objects.Keys.{objects_of}
use Rattle.session_model.specs.log_model.Log.{LogPlace}
use Rattle.prog_work.specs.Contents.{Contents, committed_tables}
use Rattle.session_model.specs.Sessions.{Shared}
use Rattle.session_model.specs.Running.{is_other}
use Rattle.session_shared.specs.declared.desk.Desk.{Desk}
use Rattle.session_shared.specs.declared.logged.Logged.{Logged}

-- the base is that of the last commit: the open changes are taken back from the tables as they stand
abbrev pub shared_by : Contents → Option ℕ → ℕ → LogPlace → Shared
shared_by work writer committed place = record {
  base = record { catalog = objects_of work.objects; tables = committed_tables work };
  counters = work.counters;
  changes = work.changes;
  writer = writer;
  committed = committed;
  place = place;
}

-- the place where the next entry is logged
abbrev pub place_of : Logged → LogPlace
place_of l = record { log = l.log; pos = l.pos }

-- what the sessions share
abbrev pub shared_of : Desk → Shared
shared_of d = shared_by d.work d.lock d.committed (place_of d.log)

-- the open changes of a session cut to so many
abbrev pub cut_to : ℕ → ℕ → Shared → Shared
cut_to n count shared = if is_other n shared.writer then shared else record shared { changes = take count shared.changes }

-- those behind so many; a session has none beside another one's
abbrev pub own_behind : ℕ → ℕ → Shared → List Change
own_behind n count shared = if is_other n shared.writer then [] else drop count shared.changes

-- whether one is open
abbrev pub has_any : List Change → Bool
has_any [] = false
has_any (c ∷ cs) = true
