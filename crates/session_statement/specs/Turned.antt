-- What a turn of the machine leaves of a desk and a session.
use Rattle.std.specs.Prelude.{◌≡◌, ℕ, false, [], ◌++◌, Result, Ok, Err}
use Rattle.val_types.specs.declared.refusal.SqlRefusal.{SqlRefusal}
use Rattle.val_types.specs.declared.refusal.SqlRefusal.TheVariants.{Sql, NoMemory}
use Rattle.proc_parts.specs.log_entries.declared.entries.Item.{Item}
use Rattle.session_shared.specs.session_model.Sessions.{Session, Shared}
use Rattle.session_shared.specs.session_model.Running.{Fuel, Given, Turn}
use Rattle.session_shared.specs.declared.desk.Desk.{Desk}
use Rattle.session_shared.specs.Desk.{shared_of}
use Rattle.session_shared.specs.Logging.{Logs}
use Rattle.session_statement.specs.declared.keeping.Kept.{Kept}

-- ---- a turn

-- desk and session stand as a turn leaves them
abbrev pub Moves : {A : Type 0} → Desk → Desk → Session Item → Turn Item A → Type 0
Moves old new after t = (shared_of new ≡ t.shared) × (after ≡ t.session) × Logs t.committed old new

-- and it gave this
abbrev pub IsTurn : {A : Type 0} → Desk → Desk → Session Item → A → Turn Item A → Type 0
IsTurn old new after a t = Moves old new after t × (a ≡ t.given)

-- how something ended that an error may end, by the turn that it is; where memory was wanted, nothing is said
abbrev pub EndsAs : {A : Type 0} → Result A SqlRefusal → Desk → Desk → Session Item → Turn Item (Result A ℕ) → Type 0
EndsAs (Ok a) old new after t = Moves old new after t × (t.given ≡ Ok a)
EndsAs (Err (Sql code)) old new after t = Moves old new after t × (t.given ≡ Err code)
EndsAs (Err NoMemory) old new after t = Unit {0}

-- the same of a whole statement, with what is left behind it and whether it is warned
abbrev pub EndsWith : {A : Type 0} → Result (Kept A) SqlRefusal → Fuel → Desk → Desk → Session Item → Turn Item (Given A) → Type 0
EndsWith (Ok kept) fuel old new after t = Moves old new after t × (t.given ≡ record { result = Ok kept.value; fuel = fuel; warned = kept.warned })
EndsWith (Err (Sql code)) fuel old new after t = Moves old new after t × (t.given ≡ record { result = Err code; fuel = fuel; warned = false })
EndsWith (Err NoMemory) fuel old new after t = Unit {0}

-- ---- turns made of turns

-- the same turn that gives something else
abbrev pub giving : {A B : Type 0} → (A → B) → Turn Item A → Turn Item B
giving f t = record { shared = t.shared; session = t.session; committed = t.committed; given = f t.given }

-- nothing was done yet
abbrev pub not_begun : Shared → Session Item → Turn Item (Unit {0})
not_begun shared session = record { shared = shared; session = session; committed = []; given = tt }

-- a turn behind another one, whose entries come first
abbrev pub behind_turn : {A B : Type 0} → Turn Item A → Turn Item B → Turn Item B
behind_turn t u = record { shared = u.shared; session = u.session; committed = t.committed ++ u.committed; given = u.given }
