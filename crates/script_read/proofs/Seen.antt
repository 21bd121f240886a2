-- One more item of a list of commands.
use Rattle.std.proofs.Common.{◌≡◌, ℕ, ◌+◌, ◌≤◌, List, [], ◌∷◌, ◌++◌, length, map, nat_le, true, IsTrue, arith, refl}
use Rattle.std.specs.List.{list_all}
use Rattle.std.proofs.lemmas.List.{map-append, length-append}
use Rattle.std.proofs.lemmas.List.Folds.{list_all-append}
use Rattle.std.proofs.lemmas.Bool.Decides.{nat_tests}
use Rattle.script_read.specs.declared.command.Command.{Command}
use Rattle.script_read.specs.Commands.{what_seen}
use Rattle.script_read.specs.Split.{statement_of, is_numbered, is_short}

pub map_more : {A B : Type 0} (f : A → B) (items : List A) (item : A) → map f (items ++ item ∷ []) ≡ map f items ++ f item ∷ []
map_more f items item = map-append f items (item ∷ [])

pub one_more : {A : Type 0} (items : List A) (item : A) → length (items ++ item ∷ []) ≡ length items + 1
one_more items item = length-append items (item ∷ [])

-- the text of a command within its limit leaves room for the rest of it
pub short_more : (commands : List Command) (c : Command) (size : ℕ) → length (statement_of (what_seen c.what)) + 5 ≤ size → size ≤ 1048576 → IsTrue (list_all is_short commands) → IsTrue (list_all is_short (commands ++ c ∷ []))
short_more commands c size within most all =
    let short : nat_le (length (statement_of (what_seen c.what))) 1048571 ≡ true = grind (arith, nat_tests) in
    rw (list_all-append is_short commands (c ∷ []), all, short) refl

-- one more command of a session with a number of one
pub numbered_more : (commands : List Command) (c : Command) → IsTrue (is_numbered c) → IsTrue (list_all is_numbered commands) → IsTrue (list_all is_numbered (commands ++ c ∷ []))
numbered_more commands c numbered all = rw (list_all-append is_numbered commands (c ∷ []), all, numbered) refl
