-- The session variables that SET assigns, but for the log's format: by which values, and to what.
use Rattle.std.specs.Prelude.{◌≡◌, ℕ, max, nat_le, Bool, true, ◌&&◌, ◌||◌, if◌then◌else◌, codes, List, [], ◌∷◌, Option, None, Some, ℤ, pos, negsuc, int_le, is_some, Result, Ok, Err}
use Rattle.std.specs.Ordering.{int_eq}
use Rattle.val_types.specs.declared.value.Value.{Value}
use Rattle.val_types.specs.declared.value.Value.TheVariants.{Null, Int, Text}
use Rattle.sql_meaning.specs.catalog_rules.Names.{same_name, is_among}
use Rattle.sql_meaning.specs.catalog_rules.Bodies.{format_name, session_variables}
use Rattle.sql_meaning.specs.Frames.{Context}
use Rattle.session_ctx.specs.declared.variables.SessionVariable.{SessionVariable}
use Rattle.session_ctx.specs.declared.variables.SessionVariable.TheVariants.{Increment, Offset, Timestamp, LastInsertId, InsertId, RandSeed1, RandSeed2}
use Rattle.session_ctx.specs.declared.session.SessionVars.{SessionVars}

-- ---- names

abbrev pub name_of : SessionVariable → List ℕ
name_of Increment = codes "auto_increment_increment"
name_of Offset = codes "auto_increment_offset"
name_of Timestamp = codes "timestamp"
name_of LastInsertId = codes "last_insert_id"
name_of InsertId = codes "insert_id"
name_of RandSeed1 = codes "rand_seed1"
name_of RandSeed2 = codes "rand_seed2"

-- the first of some variables that has a name
abbrev pub first_named : List ℕ → List SessionVariable → Option SessionVariable
first_named name [] = None
first_named name (v ∷ vs) = if same_name name (name_of v) then Some v else first_named name vs

-- the variable of a name
abbrev pub variable_named : List ℕ → Option SessionVariable
variable_named name = first_named name (Increment ∷ Offset ∷ Timestamp ∷ LastInsertId ∷ InsertId ∷ RandSeed1 ∷ RandSeed2 ∷ [])

-- ---- numbers

-- from 0 to a number
abbrev pub is_up_to : ℕ → ℤ → Bool
is_up_to most n = int_le (pos 0) n && int_le n (pos most)

-- whether a variable may be set to a number; to the AUTO_INCREMENT variables every number is one
abbrev pub takes : SessionVariable → ℤ → Bool
takes Increment n = true
takes Offset n = true
takes Timestamp n = is_up_to 2147483647 n
takes LastInsertId n = is_up_to 9223372036854775807 n
takes InsertId n = is_up_to 9223372036854775807 n
takes RandSeed1 n = is_up_to 1073741822 n
takes RandSeed2 n = is_up_to 1073741822 n

-- the number that a value sets, else 1231
abbrev pub number_for : SessionVariable → Value → Result ℤ ℕ
number_for v Null = Err 1231
number_for v (Int n) = if takes v n then Ok n else Err 1231
number_for v (Text t) = Err 1231

abbrev pub with_variable : SessionVariable → Result ℤ ℕ → Result (SessionVariable × ℤ) ℕ
with_variable v (Ok n) = Ok (v, n)
with_variable v (Err code) = Err code

-- the variable of a name with the number that a value sets: else 1193, no such variable, or 1231
abbrev pub setting : List ℕ → Value → Result (SessionVariable × ℤ) ℕ
setting name value = elim (variable_named name) [ None ↦ Err 1193 | Some v ↦ with_variable v (number_for v value) ]

-- the same without what is set
abbrev pub fitting : Result (SessionVariable × ℤ) ℕ → Result (Unit {0}) ℕ
fitting (Ok s) = Ok tt
fitting (Err code) = Err code

-- ---- assignments

-- what an AUTO_INCREMENT variable becomes: 1 for 0, 65535 for a number out of its range
abbrev pub counted : ℤ → ℕ
counted (pos n) = if nat_le n 65535 then max 1 n else 65535
counted (negsuc n) = 65535

abbrev pub natural : ℤ → ℕ
natural (pos n) = n
natural (negsuc n) = 0

-- nothing for 0
abbrev pub unless_zero : {A : Type 0} → ℤ → A → Option A
unless_zero n a = if int_eq n (pos 0) then None else Some a

-- the context with a variable set to a number; a timestamp counts from the next command on
abbrev pub context_with : SessionVariable → ℤ → Context → Context
context_with Increment n c = record c { increment = counted n }
context_with Offset n c = record c { offset = counted n }
context_with Timestamp n c = c
context_with LastInsertId n c = record c { last_id = n }
context_with InsertId n c = record c { forced = unless_zero n n }
context_with RandSeed1 n c = record c { seeds = (natural n, c.seeds.1) }
context_with RandSeed2 n c = record c { seeds = (c.seeds.0, natural n) }

-- the timestamp behind it: 0 clears it
abbrev pub timestamp_with : SessionVariable → ℤ → Option ℕ → Option ℕ
timestamp_with Timestamp n timestamp = unless_zero n (natural n)
timestamp_with v n timestamp = timestamp

abbrev pub assigned : Result (SessionVariable × ℤ) ℕ → SessionVars → SessionVars
assigned (Ok s) session = record { context = context_with s.0 s.1 session.context; timestamp = timestamp_with s.0 s.1 session.timestamp }
assigned (Err code) session = session

-- ---- laws

-- names and variables are the same, and with the log's format the names are those that SET writes
pub record NamesAreTable : Type 0 where
  pub named : (v : SessionVariable) → variable_named (name_of v) ≡ Some v
  pub known : (name : List ℕ) → is_among session_variables name ≡ is_some (variable_named name) || same_name name format_name
