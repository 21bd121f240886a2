-- What entries put behind the logs of a source.
use Rattle.std.specs.Prelude.{ℕ, ◌+◌, ◌==◌, if◌then◌else◌, List, [], ◌∷◌, ◌++◌}
use Rattle.commit_store.specs.store_model.log_entries.declared.entries.Item.{Item}
use Rattle.commit_store.specs.store_model.log_entries.declared.entries.Entry.{Entry}
use Rattle.commit_store.specs.store_model.log_entries.declared.entries.Entry.TheVariants.{Transaction, Definition, LogStart}
use Rattle.commit_store.specs.store_model.log_model.Log.{LogPlace, rotation, head, behind, counted, entry_bytes}
use Rattle.commit_store.specs.store_model.log_model.Written.{bytes_of}

-- the name of the next log, behind the log in which a writer stands; nothing before the first log
abbrev pub rotation_at : (stamp server : ℕ) → LogPlace → List ℕ
rotation_at stamp server p = if p.log == 0 then [] else bytes_of server p.pos (rotation stamp (p.log + 1))

-- what an entry puts behind log n: a new log has its own head, and the log before it ends with its name
abbrev pub added : (n : ℕ) → Entry Item → (number : ℕ) → LogPlace → List ℕ
added n (Transaction stamp server is) number p = if n == p.log then entry_bytes (Transaction stamp server is) number p else []
added n (Definition stamp server i) number p = if n == p.log then entry_bytes (Definition stamp server i) number p else []
added n (LogStart stamp server) number p =
    if n == p.log then rotation_at stamp server p else if n == p.log + 1 then head stamp server else []

-- what entries put behind log n, one after the other
abbrev pub added_to : (n : ℕ) → List (Entry Item) → (number : ℕ) → LogPlace → List ℕ
added_to n [] number p = []
added_to n (e ∷ es) number p = added n e number p ++ added_to n es (counted e number) (behind e number p)
