-- A catalog is made again, object by object.
use Rattle.std.proofs.Common.{◌≡◌, ◌≤◌, ℕ, Bool, true, false, cond, List, [], ◌∷◌, ◌++◌, length, Option, Some, None, refl, sym, ap, subst, ◌∙◌, append_assoc}
use Rattle.std.specs.Prelude.{◌&&◌, filter, not, nat_le, IsTrue}
use Rattle.std.specs.List.{AllByRecursion, list_all}
use Rattle.std.proofs.lemmas.Bool.{leb-true}
use Rattle.val_types.specs.declared.definitions.TableDef.{TableDef}
use Rattle.std.proofs.lemmas.List.{append-nil}
use Rattle.sql_tree.specs.Statement.{Statement, create_table, create_function, create_procedure, create_trigger, drop_table, drop_function, drop_procedure, drop_trigger, truncate}
use Rattle.sql_tree.specs.declared.statements.CreateTable.{CreateTable}
use Rattle.sql_tree.specs.Depth.{depth_of}
use Rattle.sql_tree.specs.Well.{IsWell, is_whole, is_name, is_name_byte, is_table, has_table_part, is_column, are_names_if, is_unique}
use Rattle.catalog_show_create.specs.catalog_rules.Bases.{Base, defined, tables_after, creation_of, definitions_in, CanBeMade}
use Rattle.catalog_show_create.specs.catalog_rules.Defined.{definition_of, written_table}
use Rattle.catalog_show_create.specs.catalog_rules.Objects.{Object, table, function, procedure, reaction}
use Rattle.catalog_show_create.specs.catalog_rules.Creating.{ddl_refusal, catalog_after, goes_with_table, is_function_named, is_procedure_named, is_trigger_named}
use Rattle.catalog_show_create.specs.Stated.{statement_of, object_made, HasRoom, IsMade, IsMadeByItsStatement, StatementIsThatOfMaking}
use Rattle.catalog_laws.specs.Making.{IsMadeWell, AreMadeAgain, StillMadeAgain}
use Rattle.catalog_laws.proofs.Room.{room_of}
use Rattle.catalog_laws.proofs.Dropping.{Keep, KeepsFor, room_still, table_goes, function_goes, procedure_goes, trigger_goes}

-- objects that have room in their order, behind others
abbrev HaveRoom : List Object → List Object → Type 0
HaveRoom before [] = Unit {0}
HaveRoom before (o ∷ os) = HasRoom before o × HaveRoom (before ++ o ∷ []) os

have_room : (before os : List Object) → CanBeMade before os → HaveRoom before os
have_room before [] can = tt
have_room before (o ∷ os) can = (room_of before o can.0, have_room (before ++ o ∷ []) os can.1)

same_creation : (o : Object) → statement_of o ≡ creation_of o
same_creation (table d) = refl
same_creation (function p) = refl
same_creation (procedure p) = refl
same_creation (reaction t) = refl

-- ---- fewer objects

kept_behind : (keep : Keep) (xs ys : List Object) → filter keep (xs ++ ys) ≡ filter keep xs ++ filter keep ys
kept_behind keep [] ys = refl
kept_behind keep (x ∷ xs) ys = by (keep x) (kept_behind keep xs ys)
  where
    by : (k : Bool) → filter keep (xs ++ ys) ≡ filter keep xs ++ filter keep ys
        → cond k (x ∷ filter keep (xs ++ ys)) (filter keep (xs ++ ys)) ≡ cond k (x ∷ filter keep xs) (filter keep xs) ++ filter keep ys
    by true same = ap (λ zs. x ∷ zs) same
    by false same = same

module _ (keep : Keep) (stays : (o : Object) → keep o ≡ true → KeepsFor keep o) where
  room_for_fewer : (before os : List Object) → HaveRoom before os → HaveRoom (filter keep before) (filter keep os)
  room_for_fewer before [] room = tt
  room_for_fewer before (o ∷ os) room =
      by (keep o) refl (subst (λ b. HaveRoom b (filter keep os)) (kept_behind keep before (o ∷ [])) (room_for_fewer (before ++ o ∷ []) os room.1))
    where
      by : (k : Bool) → keep o ≡ k → HaveRoom (filter keep before ++ cond k (o ∷ []) []) (filter keep os) → HaveRoom (filter keep before) (cond k (o ∷ filter keep os) (filter keep os))
      by true is rest = (room_still keep before o (stays o is) room.0, rest)
      by false is rest = subst (λ b. HaveRoom b (filter keep os)) (append-nil (filter keep before)) rest

fewer_made : (keep : Keep) (os : List Object) → AllByRecursion IsMadeWell os → AllByRecursion IsMadeWell (filter keep os)
fewer_made keep [] all = tt
fewer_made keep (o ∷ os) all = by (keep o) (fewer_made keep os all.1)
  where
    by : (k : Bool) → AllByRecursion IsMadeWell (filter keep os) → AllByRecursion IsMadeWell (cond k (o ∷ filter keep os) (filter keep os))
    by true rest = (all.0, rest)
    by false rest = rest

-- ---- one object more

more_made : (os : List Object) (o : Object) → AllByRecursion IsMadeWell os → IsMadeWell o → AllByRecursion IsMadeWell (os ++ o ∷ [])
more_made [] o all is = (is, tt)
more_made (p ∷ os) o all is = (all.0, more_made os o all.1 is)

can_more : (before os : List Object) (o : Object) → CanBeMade before os → ddl_refusal (before ++ os) (creation_of o) ≡ None → CanBeMade before (os ++ o ∷ [])
can_more before [] o can none = (subst (λ b. ddl_refusal b (creation_of o) ≡ None) (append-nil before) none, tt)
can_more before (p ∷ os) o can none =
    (can.0, can_more (before ++ p ∷ []) os o can.1 (subst (λ b. ddl_refusal b (creation_of o) ≡ None) (sym (append_assoc before (p ∷ []) os)) none))

module _ (again : IsMadeByItsStatement) (its : StatementIsThatOfMaking) where
  can_be_made : (before os : List Object) → AllByRecursion IsMadeWell os → HaveRoom before os → CanBeMade before os
  can_be_made before [] all room = tt
  can_be_made before (o ∷ os) all room =
      (subst (λ s. ddl_refusal before s ≡ None) (same_creation o) (again o all.0.made before room.0).0, can_be_made (before ++ o ∷ []) os all.1 room.1)

  fewer_again : (keep : Keep) → ((o : Object) → keep o ≡ true → KeepsFor keep o) → (catalog : List Object) → AreMadeAgain catalog → AreMadeAgain (filter keep catalog)
  fewer_again keep stays catalog are =
      let each = fewer_made keep catalog are.each in
      record { each = each; again = can_be_made [] (filter keep catalog) each (room_for_fewer keep stays [] catalog (have_room [] catalog are.again)) }

  more_again : (catalog : List Object) (s : Statement) (o : Object) → object_made s ≡ Some o → IsWell s → ddl_refusal catalog s ≡ None → AreMadeAgain catalog → AreMadeAgain (catalog ++ o ∷ [])
  more_again catalog s o made well none are =
      let is : IsMade o = record { catalog = catalog; by = s; made = made; let_through = none } in
      let same : creation_of o ≡ s = sym (same_creation o) ∙ its o is in
      record {
        each = more_made catalog o are.each (record { made = is; well = subst (λ t. IsWell t) (sym same) well });
        again = can_more [] catalog o are.again (ap (ddl_refusal catalog) same ∙ none);
      }

  pub still_made : StillMadeAgain
  still_made catalog (create_table t) well none are = more_again catalog (create_table t) (table (definition_of t)) refl well none are
  still_made catalog (create_function p) well none are = more_again catalog (create_function p) (function p) refl well none are
  still_made catalog (create_procedure p) well none are = more_again catalog (create_procedure p) (procedure p) refl well none are
  still_made catalog (create_trigger t) well none are = more_again catalog (create_trigger t) (reaction t) refl well none are
  still_made catalog (drop_table name) well none are = fewer_again (λ o. not (goes_with_table name o)) (table_goes name) catalog are
  still_made catalog (drop_function name) well none are = fewer_again (λ o. not (is_function_named name o)) (function_goes name) catalog are
  still_made catalog (drop_procedure name) well none are = fewer_again (λ o. not (is_procedure_named name o)) (procedure_goes name) catalog are
  still_made catalog (drop_trigger name) well none are = fewer_again (λ o. not (is_trigger_named name o)) (trigger_goes name) catalog are
  still_made catalog (truncate name) well none are = are
  still_made catalog s well none are = are

  next_is : (made next : Base) → Some made ≡ Some next → made ≡ next
  next_is made next e = ap (λ (b : Option Base). elim b [ None ↦ made | Some n ↦ n ]) e

  pub defined_again : (s : Statement) (base next : Base) → IsWell s → defined s base ≡ Some next → AreMadeAgain base.catalog → AreMadeAgain next.catalog
  defined_again s base next well e are = by (ddl_refusal base.catalog s) refl e
    where
      made : Base
      made = record { catalog = catalog_after s base.catalog; tables = tables_after s base.tables }

      by : (r : Option ℕ) → ddl_refusal base.catalog s ≡ r → elim r [ None ↦ Some made | Some code ↦ None ] ≡ Some next → AreMadeAgain next.catalog
      by None none e = subst (λ (b : Base). AreMadeAgain b.catalog) (next_is made next e) (still_made base.catalog s well none are)
      by (Some code) refused e = cc

-- ---- names

and_both : (a b : Bool) → IsTrue (a && b) → IsTrue a × IsTrue b
and_both true b e = (refl, e)
and_both false b e = cc

name_short : (n : List ℕ) → IsTrue (is_name n) → length n ≤ 64
name_short n is =
    let first = and_both (nat_le 1 (length n) && nat_le (length n) 64) (list_all is_name_byte n) is in
    leb-true (length n) 64 (and_both (nat_le 1 (length n)) (nat_le (length n) 64) first.0).1

table_short : (t : CreateTable) → IsTrue (is_table t) → length t.name ≤ 64
table_short t is =
    let four = and_both (is_name t.name && has_table_part t && list_all (is_column t.primary) t.columns && are_names_if t.primary) (list_all is_unique t.uniques) is in
    let three = and_both (is_name t.name && has_table_part t && list_all (is_column t.primary) t.columns) (are_names_if t.primary) four.0 in
    let two = and_both (is_name t.name && has_table_part t) (list_all (is_column t.primary) t.columns) three.0 in
    name_short t.name (and_both (is_name t.name) (has_table_part t) two.0).0

named : (d : TableDef) → IsWell (create_table (written_table d)) → length d.name ≤ 64
named d well = table_short (written_table d) (and_both (is_whole (create_table (written_table d))) (nat_le (depth_of (create_table (written_table d))) 200) well).0

pub names_short : (os : List Object) → AllByRecursion IsMadeWell os → AllByRecursion (λ (d : TableDef). length d.name ≤ 64) (definitions_in os)
names_short [] all = tt
names_short (table d ∷ os) all = (named d all.0.well, names_short os all.1)
names_short (function p ∷ os) all = names_short os all.1
names_short (procedure p ∷ os) all = names_short os all.1
names_short (reaction t ∷ os) all = names_short os all.1
