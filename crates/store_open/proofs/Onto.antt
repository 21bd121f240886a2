-- Objects made one after the other, as they are read.
use Rattle.std.proofs.Common.{◌≡◌, ℕ, zero, suc, ◌+◌, ◌-◌, ◌<◌, ◌≤◌, Bool, true, false, cond, eqb, List, [], ◌∷◌, length, Option, Some, None, Result, Ok, Err, refl, sym, ap, ◌∙◌, arith}
use Rattle.std.specs.Prelude.{IfOk}
use Rattle.std.specs.Option.{option_map, option_and_then}
use Rattle.std.specs.Str.{bytes_eq}
use Rattle.val_types.specs.declared.definitions.TableDef.{TableDef}
use Rattle.table_rules.specs.Tables.{Table}
use Rattle.table_rules.specs.Stores.{definitions_of, names_differ}
use Rattle.sql_tree.specs.Statement.{Statement}
use Rattle.sql_print.specs.StatementSpelling.{spelling}
use Rattle.text_answers.specs.Answers.{a_statement, a_syntax_error, text_answer, too_deep}
use Rattle.prog_work.specs.Contents.{Contents, base_of}
use Rattle.store_model.specs.log_model.Images.{Read, and_then}
use Rattle.store_model.specs.sql_reach.catalog_rules.Bases.{Base, defined, empty_base}
use Rattle.store_model.specs.sql_reach.catalog_rules.Defined.{definition_of}
use Rattle.store_model.specs.Reading.{number_of, text_behind}
use Rattle.store_model.specs.Snapshots.{filled, object_made_by, one_more, statement_in, object_onto, objects_onto, base_in}
use Rattle.store_load.specs.Loading.{BaseIs}
use Rattle.store_open.specs.Filling.{IsEmpty}
use Rattle.store_open.specs.Objects.{BaseRead, filled_by, table_made}
use Rattle.store_open.proofs.Made.{MakesTable, just_made, makes_table, other_filled, table_filled}
use denote.Ref.{Bor}

-- ---- the object that a statement makes

abbrev made_one : Statement → Base → Option Base
made_one s before = option_and_then (one_more before) (defined s before)

one_is : (before made : Base) (b : Bool) (other : Base) → cond b (Some other) None ≡ Some made → other ≡ made
one_is before made true other e = cc
one_is before made false other e = cc

defined_is : (before made : Base) (o : Option Base) → option_and_then (one_more before) o ≡ Some made → o ≡ Some made
defined_is before made None e = cc
defined_is before made (Some other) e = ap (λ (b : Base). Some b) (one_is before made (eqb (length other.catalog) (length before.catalog + 1)) other e)

abbrev object_of : Statement → Base → List ℕ → Option Base → Read Base
object_of s before bytes o = and_then (filled s before) (option_map (λ (made : Base). (made, bytes)) o)

pub not_made : (made : Bool) (s : Statement) (before : Base) (bytes : List ℕ) (after : Contents) → made ≡ false → BaseIs made (made_one s before) after → object_made_by before s bytes ≡ None
not_made true s before bytes after nay is = cc
not_made false s before bytes after nay is = ap (object_of s before bytes) is

-- an object without rows
pub made_alone : (made : Bool) (s : Statement) (before : Base) (bytes : List ℕ) (after : Contents) → made ≡ true → table_made s ≡ None → BaseIs made (made_one s before) after
    → (object_made_by before s bytes ≡ Some (base_of after, bytes)) × (after.changes ≡ [])
made_alone false s before bytes after so none is = cc
made_alone true s before bytes after so none is = (ap (object_of s before bytes) is.0 ∙ other_filled s before (base_of after) bytes none, is.1)

-- a table: it is the last, and empty, before its rows are read
pub made_table : (made : Bool) (s : Statement) (name : List ℕ) (before : Base) (bytes : List ℕ) (after : Contents) → made ≡ true → table_made s ≡ Some name → BaseIs made (made_one s before) after
    → names_differ (definitions_of after.tables) ≡ true → (m : MakesTable s name) × IsEmpty before.tables (definition_of m.table) name after.tables
made_table false s name before bytes after so there is differ = cc
made_table true s name before bytes after so there is differ =
    let m = makes_table s name there in
    (m, just_made s name before (base_of after) m (defined_is before (base_of after) (defined s before) is.0) differ)

read_so : (o : Option (Bor (List ℕ))) (p q : Read Base) (after : Contents) → p ≡ q → BaseRead o q after → BaseRead o p after
read_so None p q after same is = same ∙ is
read_so (Some rest) p q after same is = (same ∙ is.0, is.1)

pub made_filled : (made : Bool) (s : Statement) (name : List ℕ) (before : Base) (bytes : List ℕ) (work after : Contents) (o : Option (Bor (List ℕ))) (m : MakesTable s name) → made ≡ true
    → BaseIs made (made_one s before) work → BaseRead o (filled_by (definition_of m.table) before.tables (base_of work) bytes) after → BaseRead o (object_made_by before s bytes) after
made_filled false s name before bytes work after o m so is read = cc
made_filled true s name before bytes work after o m so is read =
    read_so o (object_made_by before s bytes) (filled_by (definition_of m.table) before.tables (base_of work) bytes) after
    (ap (object_of s before bytes) is.0 ∙ table_filled s name before (base_of work) bytes m) read

pub filled_ok : {E : Type 0} (r : Result (Option (Bor (List ℕ))) E) (made : Bool) (s : Statement) (name : List ℕ) (before : Base) (bytes : List ℕ) (work after : Contents) → made ≡ true
    → table_made s ≡ Some name → BaseIs made (made_one s before) work → names_differ (definitions_of work.tables) ≡ true
    → ((ts : List Table) (d : TableDef) → IsEmpty ts d name work.tables → IfOk r (λ o. BaseRead o (filled_by d ts (base_of work) bytes) after)) → IfOk r (λ o. BaseRead o (object_made_by before s bytes) after)
filled_ok (Err e) made s name before bytes work after so there is differ read = tt
filled_ok (Ok o) made s name before bytes work after so there is differ read =
    let m = made_table made s name before bytes work so there is differ in
    made_filled made s name before bytes work after o m.0 so is (read before.tables (definition_of m.0.table) m.1)

-- ---- the statement of a text

by_text : (text : List ℕ) (s : Statement) (b : Bool) → text_answer text ≡ a_statement s → bytes_eq (spelling s) text ≡ b → statement_in text (text_answer text) ≡ cond b (Some s) None
by_text text s b reads is = ap (statement_in text) reads ∙ ap (λ (c : Bool). cond c (Some s) None) is

spelled : (text printed : List ℕ) (s : Statement) (b : Bool) → printed ≡ spelling s → bytes_eq printed text ≡ b → bytes_eq (spelling s) text ≡ b
spelled text printed s b same is = ap (λ (p : List ℕ). bytes_eq p text) (sym same) ∙ is

pub is_canonical : (text printed : List ℕ) (s : Statement) → text_answer text ≡ a_statement s → printed ≡ spelling s → bytes_eq printed text ≡ true → Some s ≡ statement_in text (text_answer text)
is_canonical text printed s reads same is = sym (by_text text s true reads (spelled text printed s true same is))

pub not_canonical : (text printed : List ℕ) (s : Statement) → text_answer text ≡ a_statement s → printed ≡ spelling s → bytes_eq printed text ≡ false → None ≡ statement_in text (text_answer text)
not_canonical text printed s reads same is = sym (by_text text s false reads (spelled text printed s false same is))

pub no_syntax : (text : List ℕ) (at : ℕ) → text_answer text ≡ a_syntax_error at → None ≡ statement_in text (text_answer text)
no_syntax text at is = sym (ap (statement_in text) is)

pub not_so_deep : (text : List ℕ) → text_answer text ≡ too_deep → None ≡ statement_in text (text_answer text)
not_so_deep text is = sym (ap (statement_in text) is)

-- ---- the object of a text

abbrev of_statement : Base → List ℕ → Option Statement → Read Base
of_statement before rest o = and_then (object_made_by before) (option_map (λ (s : Statement). (s, rest)) o)

abbrev of_text : Base → Read (List ℕ) → Read Base
of_text before r = and_then (λ text rest. of_statement before rest (statement_in text (text_answer text))) r

pub no_text : (before : Base) (bytes : List ℕ) → None ≡ text_behind 8 bytes → object_onto before bytes ≡ None
no_text before bytes is = ap (of_text before) (sym is)

pub no_statement : (before : Base) (bytes text rest : List ℕ) → Some (text, rest) ≡ text_behind 8 bytes → None ≡ statement_in text (text_answer text) → object_onto before bytes ≡ None
no_statement before bytes text rest is none = ap (of_text before) (sym is) ∙ ap (of_statement before rest) (sym none)

pub by_statement : (before : Base) (bytes text rest : List ℕ) (s : Statement) (o : Option (Bor (List ℕ))) (after : Contents) → Some (text, rest) ≡ text_behind 8 bytes
    → Some s ≡ statement_in text (text_answer text) → BaseRead o (object_made_by before s rest) after → BaseRead o (object_onto before bytes) after
by_statement before bytes text rest s o after is there read =
    read_so o (object_onto before bytes) (object_made_by before s rest) after (ap (of_text before) (sym is) ∙ ap (of_statement before rest) (sym there)) read

pub onto_ok : {E : Type 0} (r : Result (Option (Bor (List ℕ))) E) (before : Base) (bytes text rest : List ℕ) (s : Statement) (after : Contents) → Some (text, rest) ≡ text_behind 8 bytes
    → Some s ≡ statement_in text (text_answer text) → IfOk r (λ o. BaseRead o (object_made_by before s rest) after) → IfOk r (λ o. BaseRead o (object_onto before bytes) after)
onto_ok (Err e) before bytes text rest s after is there read = tt
onto_ok (Ok o) before bytes text rest s after is there read = by_statement before bytes text rest s o after is there read

-- ---- so many

-- so many are still to be read, onto what was made so far
pub record Ahead (count i : ℕ) (first now : Contents) (bytes rest : List ℕ) : Type 0 where
  pub same : objects_onto count (base_of first) bytes ≡ objects_onto (count - i) (base_of now) rest
  pub none : now.changes ≡ []

pub none_onto : (count : ℕ) (work : Contents) (bytes : List ℕ) → work.changes ≡ [] → Ahead count 0 work work bytes bytes
none_onto count work bytes none =
    let all : count - 0 ≡ count = omega arith in
    record { same = ap (λ (n : ℕ). objects_onto n (base_of work) bytes) (sym all); none = none }

next_onto : (count i : ℕ) (now : Contents) (rest : List ℕ) → i < count → objects_onto (count - i) (base_of now) rest ≡ and_then (objects_onto (count - (i + 1))) (object_onto (base_of now) rest)
next_onto count i now rest low =
    let more : count - i ≡ suc (count - (i + 1)) = omega arith in
    ap (λ (n : ℕ). objects_onto n (base_of now) rest) more

pub one_onto : (count i : ℕ) (first now after : Contents) (bytes rest : List ℕ) (behind : Bor (List ℕ)) → i < count → Ahead count i first now bytes rest
    → BaseRead (Some behind) (object_onto (base_of now) rest) after → Ahead count (i + 1) first after bytes behind.now
one_onto count i first now after bytes rest behind low so_far read = record {
  same = so_far.same ∙ next_onto count i now rest low ∙ ap (and_then (objects_onto (count - (i + 1)))) read.0;
  none = read.1;
}

pub none_more : (count i : ℕ) (first now : Contents) (bytes rest : List ℕ) → i < count → Ahead count i first now bytes rest → object_onto (base_of now) rest ≡ None
    → objects_onto count (base_of first) bytes ≡ None
none_more count i first now bytes rest low so_far none = so_far.same ∙ next_onto count i now rest low ∙ ap (and_then (objects_onto (count - (i + 1)))) none

pub all_onto : (count i : ℕ) (first now : Contents) (bytes rest : List ℕ) → count ≤ i → Ahead count i first now bytes rest → objects_onto count (base_of first) bytes ≡ Some (base_of now, rest)
all_onto count i first now bytes rest high so_far =
    let none : count - i ≡ 0 = omega arith in
    so_far.same ∙ ap (λ (n : ℕ). objects_onto n (base_of now) rest) none

-- ---- a base

pub no_count : (bytes : List ℕ) → None ≡ number_of 4 bytes → base_in bytes ≡ None
no_count bytes is = ap (and_then (λ (count : ℕ) (rest : List ℕ). objects_onto count empty_base rest)) (sym is)

pub by_count : (bytes rest : List ℕ) (count : ℕ) (r : Read Base) → Some (count, rest) ≡ number_of 4 bytes → objects_onto count empty_base rest ≡ r → base_in bytes ≡ r
by_count bytes rest count r is made = ap (and_then (λ (count : ℕ) (rest : List ℕ). objects_onto count empty_base rest)) (sym is) ∙ made
