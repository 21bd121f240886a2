-- What is held has a snapshot's body.
use Rattle.std.proofs.Common.{◌≡◌, ℕ, ◌<◌, ◌≤◌, ◌^◌, true, List, [], ◌∷◌, ◌++◌, length, Option, Some, None, refl, sym, ap, subst, ◌∙◌, arith}
use Rattle.std.specs.Prelude.{◌&&◌, flat_map}
use Rattle.std.specs.List.{AllByRecursion, list_all}
use Rattle.std.proofs.lemmas.Bool.{and_from, and_parts, cond-true}
use Rattle.std.proofs.lemmas.List.{length-append}
use Rattle.val_types.specs.declared.value.Value.{Value}
use Rattle.val_types.specs.declared.change.Change.TheVariants.{Insert}
use Rattle.val_types.specs.declared.definitions.TableDef.{TableDef}
use Rattle.val_types.specs.Fitting.{row_fits}
use Rattle.table_rules.specs.Tables.{IsKept, Table, are_apart, rise}
use Rattle.table_rules.specs.Changes.{AreKept, ChangesTurnBack}
use Rattle.table_rules.specs.Stored.{DefinitionsStay, all_applied, rows_of}
use Rattle.table_rules.specs.Stores.{definitions_of}
use Rattle.table_rules.proofs.Places.{name_self}
use Rattle.sql_print.specs.StatementSpelling.{spelling}
use Rattle.catalog_laws.specs.catalog_rules.Bases.{CanBeMade, creation_of, definitions_in}
use Rattle.catalog_laws.specs.catalog_rules.Objects.{Object, table, function, procedure, reaction}
use Rattle.catalog_laws.specs.catalog_rules.Creating.{ddl_refusal}
use Rattle.catalog_laws.specs.catalog_rules.Defined.{definition_of, written_table}
use Rattle.catalog_laws.specs.catalog_show_create.Stated.{IsMade, StatementIsThatOfMaking, object_made}
use Rattle.catalog_laws.specs.Making.{AreMadeAgain, CreationsAreRead, IsMadeWell, TablesHaveNames}
use Rattle.byte_fields.specs.Field.{number_bytes}
use Rattle.byte_fields.proofs.FieldLaws.{field_width}
use Rattle.store_model.specs.declared.record.Kind.{Kind}
use Rattle.store_model.specs.Bodies.{IsRow, row_bytes, text_bytes, value_bytes}
use Rattle.store_model.specs.Held.{Held}
use Rattle.store_model.specs.Snapshots.{AreAgain, HasPlaces, IsAgain, IsFilled, IsSameAgain, IsSnapshot, base_bytes, node_of, object_bytes, places_bytes, rows_behind, snapshot_body}
use Rattle.store_laws.proofs.Forms.{IsSmall, changes_have, small_tables}
use Rattle.snapshot_laws.specs.Laws.{AreTablesOf}
use Rattle.snapshot_laws.proofs.Naming.{AreFound, all_found}

-- ---- rows

row_long : (row : List Value) → 1 ≤ length (row_bytes row)
unfolding row_bytes
row_long row = omega (arith, length-append (number_bytes 1 (length row)) (flat_map value_bytes row), field_width 1 (length row))

rows_long : (rows : List (List Value)) → length rows ≤ length (flat_map row_bytes rows)
rows_long [] = omega arith
rows_long (row ∷ rows) = omega (arith, row_long row, rows_long rows, length-append (row_bytes row) (flat_map row_bytes rows))

-- a table without rows, and with one
abbrev empty : TableDef → Table
empty d = record { definition = d; rows = [] }

abbrev with_one : TableDef → List Value → Table
with_one d row = record { definition = d; rows = row ∷ [] }

one_put : (d : TableDef) (row : List Value) → row_fits d.columns row ≡ true
    → all_applied (Insert d.name row ∷ []) (empty d ∷ []) ≡ Some (with_one d row ∷ [])
unfolding all_applied
one_put d row fits = rw (name_self d.name, fits) refl

module _ (back : ChangesTurnBack) (stay : DefinitionsStay) where
  -- a row that fits a small table has a body: the change that puts it there has one
  row_has : (d : TableDef) (row : List Value) → IsSmall d → row_fits d.columns row ≡ true → IsRow row
  row_has d row small fits =
      (changes_have back stay (Insert d.name row ∷ []) (empty d ∷ []) (with_one d row ∷ []) (small, tt) (record { fit = refl; rising = refl; apart = refl }, tt) (one_put d row fits)).0.1

  rows_have : (d : TableDef) (rows : List (List Value)) → IsSmall d → list_all (row_fits d.columns) rows ≡ true
      → AllByRecursion IsRow rows
  rows_have d [] small fit = tt
  rows_have d (row ∷ rows) small fit =
      let two = and_parts (row_fits d.columns row) (list_all (row_fits d.columns) rows) fit in
      (row_has d row small two.0, rows_have d rows small two.1)

  filled_by : (all : List Table) (t : Table) → rows_of t.definition.name all ≡ t.rows → IsKept t → IsSmall t.definition
      → length t.rows < 2 ^ 64 → IsFilled all t
  filled_by all t found kept small few = record {
    found = found;
    few = few;
    rows = rows_have t.definition t.rows small kept.fit;
    kept = cond-true (list_all (row_fits t.definition.columns) t.rows && rise t.definition t.rows && are_apart t.definition t.rows) (Some t) None
        (and_from (list_all (row_fits t.definition.columns) t.rows && rise t.definition t.rows) (are_apart t.definition t.rows)
        (and_from (list_all (row_fits t.definition.columns) t.rows) (rise t.definition t.rows) kept.fit kept.rising) kept.apart);
  }

-- ---- objects

table_or : TableDef → Option Object → TableDef
table_or d None = d
table_or d (Some (table e)) = e
table_or d (Some (function p)) = d
table_or d (Some (procedure p)) = d
table_or d (Some (reaction t)) = d

-- the text of the first, and its rows, are no longer than all
text_short : (all : List Table) (o : Object) (os : List Object) → length (flat_map (object_bytes all) (o ∷ os)) < 2 ^ 64
    → length (spelling (creation_of o)) < 2 ^ 64
text_short all o os fits =
    omega (
      arith,
      fits,
      length-append (object_bytes all o) (flat_map (object_bytes all) os),
      length-append (text_bytes 8 (spelling (creation_of o))) (rows_behind all o),
      length-append (number_bytes 8 (length (spelling (creation_of o)))) (spelling (creation_of o)),
    )

rest_short : (all : List Table) (o : Object) (os : List Object) → length (flat_map (object_bytes all) (o ∷ os)) < 2 ^ 64
    → length (flat_map (object_bytes all) os) < 2 ^ 64
rest_short all o os fits = omega (arith, fits, length-append (object_bytes all o) (flat_map (object_bytes all) os))

rows_short : (all : List Table) (d : TableDef) (os : List Object)
    → length (flat_map (object_bytes all) (table d ∷ os)) < 2 ^ 64 → length (rows_of d.name all) < 2 ^ 64
rows_short all d os fits =
    omega (
      arith,
      fits,
      rows_long (rows_of d.name all),
      length-append (object_bytes all (table d)) (flat_map (object_bytes all) os),
      length-append (text_bytes 8 (spelling (creation_of (table d)))) (rows_behind all (table d)),
      length-append (number_bytes 8 (length (rows_of d.name all))) (flat_map row_bytes (rows_of d.name all)),
    )

objects_short : (kind : Kind) (generation : ℕ) (h : Held) → length (snapshot_body kind generation h) < 2 ^ 64
    → length (flat_map (object_bytes h.base.tables) h.base.catalog) < 2 ^ 64
unfolding snapshot_body
objects_short kind generation h fits =
    omega (
      arith,
      fits,
      length-append (number_bytes 1 (node_of kind) ++ number_bytes 8 generation ++ number_bytes 8 h.number ++ places_bytes kind h) (base_bytes h.base),
      length-append (number_bytes 4 (length h.base.catalog)) (flat_map (object_bytes h.base.tables) h.base.catalog),
    )

module _ (back : ChangesTurnBack) (stay : DefinitionsStay) (its : StatementIsThatOfMaking) (creations : CreationsAreRead) where
  same_again : (d : TableDef) → IsMade (table d) → definition_of (written_table d) ≡ d
  unfolding table_or
  same_again d is = ap (table_or d) (ap object_made (its (table d) is) ∙ is.made)

  again_by : (before : List Object) (o : Object) → IsMadeWell o → ddl_refusal before (creation_of o) ≡ None
      → length (spelling (creation_of o)) < 2 ^ 64 → IsSameAgain o → IsAgain before o
  again_by before o well none fits same = record { text = creations o well; fits = fits; made = none; same = same }

  are_again : (all : List Table) (before os : List Object) (ts : List Table) → AllByRecursion IsMadeWell os
      → CanBeMade before os → definitions_of ts ≡ definitions_in os → AreFound all ts → AreKept ts
      → AllByRecursion IsSmall (definitions_of ts) → length (flat_map (object_bytes all) os) < 2 ^ 64
      → AreAgain all before os ts
  are_again all before [] [] well can theirs found kept small fits = tt
  are_again all before [] (t ∷ ts) well can theirs found kept small fits = cc
  are_again all before (table d ∷ os) [] well can theirs found kept small fits = cc
  are_again all before (table d ∷ os) (t ∷ ts) well can theirs found kept small fits =
      let same : t.definition ≡ d = cc in
      let rest : definitions_of ts ≡ definitions_in os = cc in
      let few : length t.rows < 2 ^ 64 = omega (arith, rows_short all d os fits, ap length (ap (λ (e : TableDef). rows_of e.name all) (sym same) ∙ found.0)) in (
        again_by before (table d) well.0 can.0 (text_short all (table d) os fits) (same_again d well.0.made),
        (same, (filled_by back stay all t found.0 kept.0 small.0 few, are_again all (before ++ table d ∷ []) os ts well.1 can.1 rest found.1 kept.1 small.1 (rest_short all (table d) os fits))),
      )
  are_again all before (function p ∷ os) ts well can theirs found kept small fits = (
    again_by before (function p) well.0 can.0 (text_short all (function p) os fits) tt,
    are_again all (before ++ function p ∷ []) os ts well.1 can.1 theirs found kept small (rest_short all (function p) os fits),
  )
  are_again all before (procedure p ∷ os) ts well can theirs found kept small fits = (
    again_by before (procedure p) well.0 can.0 (text_short all (procedure p) os fits) tt,
    are_again all (before ++ procedure p ∷ []) os ts well.1 can.1 theirs found kept small (rest_short all (procedure p) os fits),
  )
  are_again all before (reaction t ∷ os) ts well can theirs found kept small fits = (
    again_by before (reaction t) well.0 can.0 (text_short all (reaction t) os fits) tt,
    are_again all (before ++ reaction t ∷ []) os ts well.1 can.1 theirs found kept small (rest_short all (reaction t) os fits),
  )

  -- ---- the whole

  pub is_snapshot : TablesHaveNames → (kind : Kind) (generation : ℕ) (h : Held) → AreMadeAgain h.base.catalog
      → AreTablesOf h.base.catalog h.base.tables → HasPlaces kind h → generation < 2 ^ 64
      → h.number < 2 ^ 64 → length h.base.catalog < 2 ^ 32 → length (snapshot_body kind generation h) < 2 ^ 64
      → IsSnapshot kind generation h
  is_snapshot names kind generation h made tables places generation_fits number_fits few fits = record {
    generation_fits = generation_fits;
    number_fits = number_fits;
    places = places;
    few = few;
    objects = are_again h.base.tables [] h.base.catalog h.base.tables made.each made.again tables.theirs (all_found h.base.tables tables.names) tables.kept
        (subst (AllByRecursion IsSmall) (sym tables.theirs) (small_tables its h.base.catalog made.each (names h.base.catalog made))) (objects_short kind generation h fits);
  }
