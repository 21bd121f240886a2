-- A statement with its locals closed in is well and as deep as it was.
use Rattle.std.proofs.Common.{◌≡◌, ℕ, Bool, true, false, not, ◌&&◌, cond, List, [], ◌∷◌, Option, Some, None, pos, negsuc, refl, arith}
use Rattle.std.specs.Prelude.{◌^◌, ◌-◌, nat_le, nat_eq, int_le, length}
use Rattle.std.specs.List.{list_all}
use Rattle.std.specs.Cmp.Lexicographic.{pointwise}
use Rattle.std.proofs.lemmas.Bool.{and_parts, leb-true, le-leb}
use Rattle.val_types.specs.declared.value.Value.{Value}
use Rattle.val_types.specs.declared.value.Value.TheVariants.{Null, Int, Text}
use Rattle.sql_tree.specs.Statement.{Statement, create_table, create_function, create_procedure, create_trigger, drop_table, drop_function, drop_procedure, drop_trigger, truncate, insert_into, replace_into, update_rows, delete_rows, select, evaluate, set_all, call_procedure, begin, commit, rollback, savepoint, rollback_to, release_savepoint, block, if_steps, while_steps, return_value}
use Rattle.sql_tree.specs.Depth.{depth_of, depth_of_tree}
use Rattle.sql_locals.specs.Locals.{find_from, find_local, has_literal}
use Rattle.sql_tree.specs.Well.{is_name_byte, is_name, is_literal, is_count, is_well_tree, is_whole}
use Rattle.sql_tree.specs.declared.expressions.Count.{Count}
use Rattle.sql_tree.specs.declared.expressions.Count.TheVariants as counts
use Rattle.sql_locals.specs.declared.locals.Local.{Local}
use Rattle.sql_meaning.specs.Frames.{number_or_none}
use Rattle.sql_reach.specs.Closing.{const_if, closed_name, number_if, closed_by, closed_count, statement_mapped, closed, ClosedIsWell, ClosedIsAsDeep}
use Rattle.sql_reach.proofs.Deep.{statement_deep}
use Rattle.sql_reach.proofs.StaysWell.{both, step_well}

-- ---- the local of a name holds a literal

abbrev literal_if : Option Local → Bool
literal_if None = true
literal_if (Some l) = has_literal l

either_literal : (b : Bool) (l : Local) (found : Option Local) → has_literal l ≡ true → literal_if found ≡ true → literal_if (cond b (Some l) found) ≡ true
either_literal true l found e f = e
either_literal false l found e f = f

found_literal : (found : Option Local) (ls : List Local) (n : List ℕ) → literal_if found ≡ true → list_all has_literal ls ≡ true → literal_if (find_from found ls n) ≡ true
found_literal found [] n f e = f
found_literal found (l ∷ ls) n f e =
    let same = pointwise nat_eq l.name n in
    found_literal (cond same (Some l) found) ls n (either_literal same l found (and_parts (has_literal l) (list_all has_literal ls) e).0 f) (and_parts (has_literal l) (list_all has_literal ls) e).1

-- ---- a name in place of which NAME_CONST stands

byte_within : (b : ℕ) → is_name_byte b ≡ true → nat_le b 255 ≡ true
byte_within b e =
    le-leb b 255 (omega (arith, leb-true b 0x7e (and_parts (nat_le 0x20 b) (nat_le b 0x7e) (and_parts (nat_le 0x20 b && nat_le b 0x7e) (not (nat_le 0x41 b && nat_le b 0x5a)) e).0).1))

bytes_within : (n : List ℕ) → list_all is_name_byte n ≡ true → list_all (λ b. nat_le b 255) n ≡ true
bytes_within [] e = refl
bytes_within (b ∷ n) e = both (is_name_byte b) (list_all is_name_byte n) (byte_within b) (bytes_within n) e

const_well : (n : List ℕ) (o : Option Local) → literal_if o ≡ true → is_name n ≡ true → is_well_tree (const_if n o) ≡ true
const_well n None l e = e
const_well n (Some x) l e = rw (bytes_within n (and_parts (nat_le 1 (length n) && nat_le (length n) 64) (list_all is_name_byte n) e).1) l

const_deep : (n : List ℕ) (o : Option Local) → depth_of_tree (const_if n o) ≡ 1
const_deep n None = refl
const_deep n (Some l) = refl

-- ---- a LIMIT

number_well : (v : Value) (n : List ℕ) → is_literal v ≡ true → is_name n ≡ true → is_count (number_if (counts.Name n) (number_or_none v)) ≡ true
number_well Null n l e = e
number_well (Int (pos m)) n l e = (and_parts (int_le (negsuc (2 ^ 63 - 1)) (pos m)) (int_le (pos m) (pos (2 ^ 63 - 1))) l).1
number_well (Int (negsuc m)) n l e = e
number_well (Text t) n l e = e

counted_well : (n : List ℕ) (o : Option Local) → literal_if o ≡ true → is_name n ≡ true → is_count (closed_by (counts.Name n) o) ≡ true
counted_well n None l e = e
counted_well n (Some x) l e = number_well x.value n l e

-- ---- the whole

module _ (locals : List Local) (good : list_all has_literal locals ≡ true) where
  name_well : (n : List ℕ) → is_name n ≡ true → is_well_tree (closed_name locals n) ≡ true
  name_well n e = const_well n (find_local locals n) (found_literal None locals n refl good) e

  count_well : (c : Count) → is_count c ≡ true → is_count (closed_count locals c) ≡ true
  count_well (counts.Number n) e = e
  count_well (counts.Name n) e = counted_well n (find_local locals n) (found_literal None locals n refl good) e

  pub whole_well : (s : Statement) → is_whole s ≡ true → is_whole (statement_mapped (closed_name locals) (closed_count locals) s) ≡ true
  whole_well (insert_into ignore t cs from us) e = step_well (closed_name locals) (closed_count locals) name_well count_well (insert_into ignore t cs from us) e
  whole_well (replace_into t cs from) e = step_well (closed_name locals) (closed_count locals) name_well count_well (replace_into t cs from) e
  whole_well (update_rows t ss w os l) e = step_well (closed_name locals) (closed_count locals) name_well count_well (update_rows t ss w os l) e
  whole_well (delete_rows t w os l) e = step_well (closed_name locals) (closed_count locals) name_well count_well (delete_rows t w os l) e
  whole_well (select q) e = step_well (closed_name locals) (closed_count locals) name_well count_well (select q) e
  whole_well (evaluate ts) e = step_well (closed_name locals) (closed_count locals) name_well count_well (evaluate ts) e
  whole_well (create_table t) e = e
  whole_well (create_function p) e = e
  whole_well (create_procedure p) e = e
  whole_well (create_trigger t) e = e
  whole_well (drop_table n) e = e
  whole_well (drop_function n) e = e
  whole_well (drop_procedure n) e = e
  whole_well (drop_trigger n) e = e
  whole_well (truncate n) e = e
  whole_well (set_all as') e = e
  whole_well (call_procedure n ts) e = e
  whole_well begin e = e
  whole_well commit e = e
  whole_well rollback e = e
  whole_well (savepoint n) e = e
  whole_well (rollback_to n) e = e
  whole_well (release_savepoint n) e = e
  whole_well (block ds ss) e = e
  whole_well (if_steps bs o) e = e
  whole_well (while_steps c ss) e = e
  whole_well (return_value t) e = e

pub closed_deep : ClosedIsAsDeep
unfolding closed
closed_deep s locals = statement_deep (closed_name locals) (closed_count locals) (λ n. const_deep n (find_local locals n)) s

pub closed_well : ClosedIsWell
unfolding closed
closed_well s locals good e =
    both (is_whole s) (nat_le (depth_of s) 200)
    (whole_well locals good s)
    (λ l. rw (statement_deep (closed_name locals) (closed_count locals) (λ n. const_deep n (find_local locals n)) s) l)
    e
