-- What is logged on a desk.
use Rattle.std.specs.Prelude.{◌≡◌, ℕ, List, [], ◌∷◌, ◌++◌}
use Rattle.session_model.specs.log_entries.declared.entries.Item.{Item}
use Rattle.session_model.specs.log_entries.declared.entries.Entry.{Entry}
use Rattle.session_model.specs.log_model.Log.{LogPlace}
use Rattle.waiting_entries.specs.declared.waiting.Waiting.{Waiting}
use Rattle.waiting_entries.specs.Waiting.{CanWaitAll, all_waiting}
use Rattle.session_shared.specs.declared.desk.Desk.{Desk}
use Rattle.session_shared.specs.Desk.{place_of}

-- what waits, with what entries leave behind it, where so many transactions stand before them
abbrev pub logged : List (Entry Item) → List Waiting → (committed : ℕ) → LogPlace → List Waiting
logged [] waiting committed place = waiting
logged (e ∷ es) waiting committed place = waiting ++ all_waiting (e ∷ es) committed place

-- entries are logged: what they leave waits behind what waited before, and each can be logged where it comes
abbrev pub Logs : List (Entry Item) → Desk → Desk → Type 0
Logs es old new = (new.log.waiting ≡ logged es old.log.waiting old.committed (place_of old.log)) × CanWaitAll es old.committed (place_of old.log)
