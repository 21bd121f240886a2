-- A snapshot that is written is read again.
use Rattle.std.proofs.Common.{◌≡◌, ◌<◌, ◌^◌, ℕ, suc, ◌+◌, true, eqb, List, [], ◌∷◌, ◌++◌, length, Option, Some, None, refl, sym, ap, ◌∙◌, append_assoc, arith}
use Rattle.std.specs.Prelude.{flat_map, nat_le}
use Rattle.std.specs.Option.{option_map, option_and_then}
use Rattle.std.specs.Str.{bytes_eq}
use Rattle.std.proofs.lemmas.Bool.{cond-true, eq-eqb}
use Rattle.std.proofs.lemmas.List.{append-nil, length-append}
use Rattle.std.proofs.lemmas.Slice.Eq.{bytes_eq-Decides}
use Rattle.val_types.specs.declared.definitions.TableDef.{TableDef}
use Rattle.table_rules.specs.Tables.{Table}
use Rattle.table_rules.specs.Stored.{rows_of}
use Rattle.sql_tree.specs.Statement.{Statement}
use Rattle.sql_print.specs.StatementSpelling.{spelling}
use Rattle.sql_reach.specs.catalog_rules.Bases.{Base, empty_base, defined, creation_of, tables_after}
use Rattle.sql_reach.specs.catalog_rules.Objects.{Object, table, function, procedure, reaction}
use Rattle.sql_reach.specs.catalog_rules.Defined.{definition_of, written_table}
use Rattle.sql_reach.specs.catalog_rules.Creating.{ddl_refusal, catalog_after}
use Rattle.text_answers.specs.Answers.{text_answer}
use Rattle.byte_fields.specs.Field.{number_bytes}
use Rattle.binlog_sizes.specs.log_model.Images.{Read, and_then}
use Rattle.binlog_sizes.specs.log_model.Log.{LogPlace}
use Rattle.store_model.specs.declared.record.Kind.{Kind}
use Rattle.store_model.specs.declared.record.Kind.TheVariants.{Source, Replica}
use Rattle.store_model.specs.Reading.{read_as, to_the_end, number_of, row_in}
use Rattle.store_model.specs.Bodies.{text_bytes, all_bytes, row_bytes, IsRow}
use Rattle.store_model.specs.Held.{LogEnd, Held, first_read, most_committed}
use Rattle.store_model.specs.Snapshots.{node_of, end_bytes, places_bytes, rows_behind, object_bytes, base_bytes, snapshot_body, ends_if, end_in, ends_in, statement_in, table_of_rows, filled, one_more, object_made_by, object_onto, objects_onto, base_in, held_in, generation_in, snapshot_of, IsAgain, IsFilled, AreAgain, IsSnapshot}
use Rattle.store_model.proofs.Again.{number_again, text_again, all_again, row_again}

-- ---- one object

-- a base with more objects and tables
abbrev with_more : Base → List Object → List Table → Base
with_more before os ts = record { catalog = before.catalog ++ os; tables = before.tables ++ ts }

more_is : (before : Base) (o : Object) (os : List Object) (ts us : List Table)
    → with_more (with_more before (o ∷ []) ts) os us ≡ with_more before (o ∷ os) (ts ++ us)
more_is before o os ts us =
    ap (λ (catalog : List Object). record { catalog = catalog; tables = (before.tables ++ ts) ++ us }) (append_assoc before.catalog (o ∷ []) os)
    ∙ ap (λ (tables : List Table). record { catalog = before.catalog ++ (o ∷ os); tables = tables }) (append_assoc before.tables ts us)

same_text : (text : List ℕ) → bytes_eq text text ≡ true
same_text text = (bytes_eq-Decides text text).1 refl

-- a statement makes a base with one object more
one_more_is : (before made : Base) (o : Object) → made.catalog ≡ before.catalog ++ o ∷ [] → one_more before made ≡ Some made
one_more_is before made o is =
    cond-true (eqb (length made.catalog) (length before.catalog + 1)) (Some made) None
    (eq-eqb (length made.catalog) (length before.catalog + 1) (ap (λ (os : List Object). length os) is ∙ length-append before.catalog (o ∷ [])))

-- what a statement makes where nothing refuses it
abbrev made_by : Statement → Base → Base
made_by s before = record { catalog = catalog_after s before.catalog; tables = tables_after s before.tables }

defined_is : (s : Statement) (before : Base) → ddl_refusal before.catalog s ≡ None → defined s before ≡ Some (made_by s before)
defined_is s before none = ap (λ (r : Option ℕ). elim r [ None ↦ Some (made_by s before) | Some code ↦ None ]) none

module _ (all : List Table) (before : Base) (o : Object) (again : IsAgain before.catalog o) where
  -- up to its rows
  made_again : (rest : List ℕ) → catalog_after (creation_of o) before.catalog ≡ before.catalog ++ o ∷ []
      → object_onto before (text_bytes 8 (spelling (creation_of o)) ++ rest) ≡ filled (creation_of o) before (made_by (creation_of o) before) rest
  made_again rest is =
      let s : Statement = creation_of o in
      ap (and_then (λ text left. and_then (object_made_by before) (option_map (λ t. (t, left)) (statement_in text (text_answer text)))))
      (text_again 8 (spelling s) rest (omega (arith, again.fits)))
      ∙ ap (λ answer. and_then (object_made_by before) (option_map (λ t. (t, rest)) (statement_in (spelling s) answer))) again.text
      ∙ ap (λ x. and_then (object_made_by before) (option_map (λ t. (t, rest)) x)) (cond-true (bytes_eq (spelling s) (spelling s)) (Some s) None (same_text (spelling s)))
      ∙ ap (λ x. and_then (filled s before) (option_map (λ made. (made, rest)) (option_and_then (one_more before) x))) (defined_is s before again.made)
      ∙ ap (λ x. and_then (filled s before) (option_map (λ made. (made, rest)) x)) (one_more_is before (made_by s before) o is)

-- a table, with its rows
table_again : (all : List Table) (before : Base) (d : TableDef) (t : Table) (rest : List ℕ) → IsAgain before.catalog (table d) → t.definition ≡ d → IsFilled all t
    → object_onto before (object_bytes all (table d) ++ rest) ≡ Some (with_more before (table d ∷ []) (t ∷ []), rest)
table_again all before d t rest again is full =
    let s : Statement = creation_of (table d) in
    let catalog : catalog_after s before.catalog ≡ before.catalog ++ table d ∷ [] = ap (λ (e : TableDef). before.catalog ++ table e ∷ []) again.same in
    let rows : rows_of d.name all ≡ t.rows = ap (λ (e : TableDef). rows_of e.name all) (sym is) ∙ full.found in
    ap (object_onto before) (append_assoc (text_bytes 8 (spelling s)) (rows_behind all (table d)) rest)
    ∙ made_again all before (table d) again (rows_behind all (table d) ++ rest) catalog
    ∙ ap (λ rs. filled s before (made_by s before) (all_bytes 8 row_bytes rs ++ rest)) rows
    ∙ ap (and_then (λ rs left. option_map (λ u. (record (made_by s before) { tables = before.tables ++ u ∷ [] }, left)) (table_of_rows (definition_of (written_table d)) rs)))
    (all_again row_in row_bytes IsRow row_again 8 t.rows rest (omega (arith, full.few)) full.rows)
    ∙ ap (λ e. option_map (λ (u : Table). (record (made_by s before) { tables = before.tables ++ u ∷ [] }, rest)) (table_of_rows e t.rows)) (again.same ∙ sym is)
    ∙ ap (option_map (λ (u : Table). (record (made_by s before) { tables = before.tables ++ u ∷ [] }, rest))) full.kept
    ∙ ap (λ (os : List Object). Some (record { catalog = os; tables = before.tables ++ t ∷ [] }, rest)) catalog

-- a program has none
module _ (all : List Table) (before : Base) (rest : List ℕ) where
  program_again : (o : Object) → IsAgain before.catalog o → rows_behind all o ≡ [] → catalog_after (creation_of o) before.catalog ≡ before.catalog ++ o ∷ []
      → filled (creation_of o) before (made_by (creation_of o) before) rest ≡ Some (record { catalog = before.catalog ++ o ∷ []; tables = before.tables }, rest)
      → object_onto before (object_bytes all o ++ rest) ≡ Some (with_more before (o ∷ []) [], rest)
  program_again o again none catalog is =
      ap (λ rows. object_onto before ((text_bytes 8 (spelling (creation_of o)) ++ rows) ++ rest)) none
      ∙ ap (λ bytes. object_onto before (bytes ++ rest)) (append-nil (text_bytes 8 (spelling (creation_of o))))
      ∙ made_again all before o again rest catalog
      ∙ is
      ∙ ap (λ (ts : List Table). Some (record { catalog = before.catalog ++ o ∷ []; tables = ts }, rest)) (sym (append-nil before.tables))

-- ---- all of them

module _ (all : List Table) where
  more_again : (n : ℕ) (before : Base) (o : Object) (os : List Object) (ts us : List Table) (bytes rest : List ℕ)
      → object_onto before (object_bytes all o ++ (bytes ++ rest)) ≡ Some (with_more before (o ∷ []) ts, bytes ++ rest)
      → objects_onto n (with_more before (o ∷ []) ts) (bytes ++ rest) ≡ Some (with_more (with_more before (o ∷ []) ts) os us, rest)
      → objects_onto (suc n) before ((object_bytes all o ++ bytes) ++ rest) ≡ Some (with_more before (o ∷ os) (ts ++ us), rest)
  more_again n before o os ts us bytes rest first behind =
      ap (objects_onto (suc n) before) (append_assoc (object_bytes all o) bytes rest)
      ∙ ap (and_then (objects_onto n)) first
      ∙ behind
      ∙ ap (λ (b : Base). Some (b, rest)) (more_is before o os ts us)

  objects_again : (before : Base) (os : List Object) (ts : List Table) (rest : List ℕ) → AreAgain all before.catalog os ts
      → objects_onto (length os) before (flat_map (object_bytes all) os ++ rest) ≡ Some (with_more before os ts, rest)
  objects_again before [] [] rest are =
      ap (λ (os : List Object). Some (record { catalog = os; tables = before.tables }, rest)) (sym (append-nil before.catalog))
      ∙ ap (λ (ts : List Table). Some (record { catalog = before.catalog ++ []; tables = ts }, rest)) (sym (append-nil before.tables))
  objects_again before [] (t ∷ ts) rest are = absurd are
  objects_again before (table d ∷ os) [] rest are = absurd are
  objects_again before (table d ∷ os) (t ∷ ts) rest are =
      more_again (length os) before (table d) os (t ∷ []) ts (flat_map (object_bytes all) os) rest
      (table_again all before d t (flat_map (object_bytes all) os ++ rest) are.0 are.1.0 are.1.1.0)
      (objects_again (with_more before (table d ∷ []) (t ∷ [])) os ts rest are.1.1.1)
  objects_again before (function p ∷ os) ts rest are =
      more_again (length os) before (function p) os [] ts (flat_map (object_bytes all) os) rest
      (program_again all before (flat_map (object_bytes all) os ++ rest) (function p) are.0 refl refl refl)
      (objects_again (with_more before (function p ∷ []) []) os ts rest are.1)
  objects_again before (procedure p ∷ os) ts rest are =
      more_again (length os) before (procedure p) os [] ts (flat_map (object_bytes all) os) rest
      (program_again all before (flat_map (object_bytes all) os ++ rest) (procedure p) are.0 refl refl refl)
      (objects_again (with_more before (procedure p ∷ []) []) os ts rest are.1)
  objects_again before (reaction t ∷ os) ts rest are =
      more_again (length os) before (reaction t) os [] ts (flat_map (object_bytes all) os) rest
      (program_again all before (flat_map (object_bytes all) os ++ rest) (reaction t) are.0 refl refl refl)
      (objects_again (with_more before (reaction t ∷ []) []) os ts rest are.1)

base_again : (base : Base) → length base.catalog < 2 ^ 32 → AreAgain base.tables [] base.catalog base.tables → base_in (base_bytes base) ≡ Some (base, [])
base_again base few are =
    let objects : List ℕ = flat_map (object_bytes base.tables) base.catalog in
    ap base_in (ap (λ bytes. number_bytes 4 (length base.catalog) ++ bytes) (sym (append-nil objects)))
    ∙ ap (and_then (λ count rest. objects_onto count empty_base rest)) (number_again 4 (length base.catalog) (objects ++ []) (omega (arith, few)))
    ∙ objects_again base.tables empty_base base.catalog base.tables [] are

-- ---- the whole body

end_again : (e : LogEnd) (rest : List ℕ) → e.pos < 2 ^ 32 → end_in (end_bytes e ++ rest) ≡ Some (e, rest)
end_again e rest fits = ap (read_as (λ pos. record { pos = pos })) (number_again 4 e.pos rest (omega arith))

behind_four : (a b c d rest : List ℕ) → (((a ++ b) ++ c) ++ d) ++ rest ≡ a ++ (b ++ (c ++ (d ++ rest)))
behind_four a b c d rest = append_assoc ((a ++ b) ++ c) d rest ∙ append_assoc (a ++ b) c (d ++ rest) ∙ append_assoc a b (c ++ (d ++ rest))

-- up to what is held
module _ (kind : Kind) (generation : ℕ) (h : Held) (is : IsSnapshot kind generation h) where
  first_again : node_of kind < 256 → generation_in kind (node_of kind) (number_bytes 8 generation ++ (number_bytes 8 h.number ++ (places_bytes kind h ++ base_bytes h.base)))
      ≡ read_as (λ k. (generation, k)) (held_in kind h.number (places_bytes kind h ++ base_bytes h.base))
  first_again low =
      let rest : List ℕ = places_bytes kind h ++ base_bytes h.base in
      cond-true (eqb (node_of kind) (node_of kind))
      (and_then (λ g left. read_as (λ k. (g, k)) (and_then (held_in kind) (number_of 8 left))) (number_of 8 (number_bytes 8 generation ++ (number_bytes 8 h.number ++ rest)))) None
      (eq-eqb (node_of kind) (node_of kind) refl)
      ∙ ap (and_then (λ g left. read_as (λ k. (g, k)) (and_then (held_in kind) (number_of 8 left))))
      (number_again 8 generation (number_bytes 8 h.number ++ rest) (omega (arith, is.generation_fits)))
      ∙ ap (λ r. read_as (λ k. (generation, k)) (and_then (held_in kind) r)) (number_again 8 h.number rest (omega (arith, is.number_fits)))

  body_by : node_of kind < 256 → held_in kind h.number (places_bytes kind h ++ base_bytes h.base) ≡ Some (h, [])
      → snapshot_of kind (snapshot_body kind generation h) ≡ Some (generation, h)
  unfolding snapshot_of snapshot_body
  body_by low held =
      let rest : List ℕ = places_bytes kind h ++ base_bytes h.base in
      ap (λ body. to_the_end (and_then (generation_in kind) (number_of 1 body)))
      (behind_four (number_bytes 1 (node_of kind)) (number_bytes 8 generation) (number_bytes 8 h.number) (places_bytes kind h) (base_bytes h.base))
      ∙ ap (λ r. to_the_end (and_then (generation_in kind) r)) (number_again 1 (node_of kind) (number_bytes 8 generation ++ (number_bytes 8 h.number ++ rest)) (omega arith))
      ∙ ap (λ (r : Read (ℕ × Held)). to_the_end r) (first_again low ∙ ap (read_as (λ k. (generation, k))) held)

source_again : (h : Held) (generation : ℕ) → IsSnapshot Source generation h → held_in Source h.number (places_bytes Source h ++ base_bytes h.base) ≡ Some (h, [])
source_again h generation is =
    let rest : List ℕ = base_bytes h.base in
    cond-true (nat_le h.number most_committed) (and_then (λ ends left. read_as (λ base. record { base = base; number = h.number; ends = ends; place = first_read }) (base_in left)) (ends_in (places_bytes Source h ++ rest)))
    None is.places.0.0
    ∙ ap (λ r. and_then (λ ends left. read_as (λ base. record { base = base; number = h.number; ends = ends; place = first_read }) (base_in left)) (and_then (λ ends left. option_map (λ es. (es, left)) (ends_if ends)) r))
    (all_again end_in end_bytes (λ (e : LogEnd). e.pos < 2 ^ 32) end_again 4 h.ends rest (omega (arith, is.places.1.1.0)) is.places.1.1.1)
    ∙ ap (λ r. and_then (λ ends left. read_as (λ base. record { base = base; number = h.number; ends = ends; place = first_read }) (base_in left)) (option_map (λ es. (es, rest)) r)) is.places.1.0
    ∙ ap (read_as (λ base. record { base = base; number = h.number; ends = h.ends; place = first_read })) (base_again h.base is.few is.objects)
    ∙ ap (λ (p : LogPlace). Some (record { base = h.base; number = h.number; ends = h.ends; place = p }, [])) (sym is.places.0.1)

replica_again : (h : Held) (generation : ℕ) → IsSnapshot Replica generation h → held_in Replica h.number (places_bytes Replica h ++ base_bytes h.base) ≡ Some (h, [])
replica_again h generation is =
    let rest : List ℕ = base_bytes h.base in
    ap (held_in Replica h.number) (append_assoc (number_bytes 4 h.place.log) (number_bytes 4 h.place.pos) rest)
    ∙ ap (λ r. and_then (λ place left. read_as (λ base. record { base = base; number = h.number; ends = []; place = place }) (base_in left))
    (and_then (λ log left. read_as (λ pos. record { log = log; pos = pos }) (number_of 4 left)) r)) (number_again 4 h.place.log (number_bytes 4 h.place.pos ++ rest) (omega (arith, is.places.1.0)))
    ∙ ap (λ r. and_then (λ place left. read_as (λ base. record { base = base; number = h.number; ends = []; place = place }) (base_in left))
    (read_as (λ pos. record { log = h.place.log; pos = pos }) r)) (number_again 4 h.place.pos rest (omega (arith, is.places.1.1)))
    ∙ ap (read_as (λ base. record { base = base; number = h.number; ends = []; place = h.place })) (base_again h.base is.few is.objects)
    ∙ ap (λ (es : List LogEnd). Some (record { base = h.base; number = h.number; ends = es; place = h.place }, [])) (sym is.places.0)

pub snapshot_again : (kind : Kind) (generation : ℕ) (h : Held) → IsSnapshot kind generation h → snapshot_of kind (snapshot_body kind generation h) ≡ Some (generation, h)
snapshot_again Source generation h is = body_by Source generation h is (omega arith) (source_again h generation is)
snapshot_again Replica generation h is = body_by Replica generation h is (omega arith) (replica_again h generation is)
