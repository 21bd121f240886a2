-- Changes that can be made, carried out by an applier through the map of their table.
use Rattle.std.proofs.Common.{◌≡◌, ℕ, zero, suc, Bool, true, false, not, ◌||◌, cond, List, [], ◌∷◌, ◌++◌, map, Option, Some, None, Result, Ok, refl, sym, ap, subst, ◌∙◌, append_assoc, append-nil}
use Rattle.std.specs.Prelude.{is_some, is_ok, unwrap_or}
use Rattle.std.specs.List.{list_any, list_all}
use Rattle.std.specs.Option.{option_map, option_and_then, option_map_or}
use Rattle.std.proofs.lemmas.Bool.{and_parts, and_from, eq-eqb}
use Rattle.val_types.specs.declared.change.Change.{Change}
use Rattle.val_types.specs.declared.change.Change.TheVariants.{Insert, Update as Replace, Delete as Remove}
use Rattle.val_types.specs.Changes.{table_of}
use Rattle.val_types.specs.declared.definitions.ColType.{ColType}
use Rattle.val_types.specs.declared.definitions.ColType.TheVariants.{Int as IntType, BigInt, Varchar}
use Rattle.val_types.specs.declared.definitions.ColumnDef.{ColumnDef}
use Rattle.val_types.specs.declared.definitions.TableDef.{TableDef}
use Rattle.val_types.specs.declared.value.Value.{Value}
use Rattle.val_types.specs.Fitting.{fitting, is_null, may_hold, row_fits}
use Rattle.val_types.specs.Keys.{collide}
use Rattle.byte_fields.specs.Unroll.{unrolled, unroll, all_from}
use Rattle.table_rules.specs.Tables.{Table}
use Rattle.table_rules.specs.Changes.{without, with_row, may_put, put, rows_after, applied, AreKept}
use Rattle.table_rules.specs.Stored.{table_named, all_applied}
use Rattle.table_rules.specs.Stores.{definitions_of}
use Rattle.table_rules.proofs.Equations.{applied_none, applied_front}
use Rattle.table_rules.proofs.Storing.{applied_where, named_kept, some_same, definitions_kept, turn_back}
use Rattle.table_rules.proofs.Taking.{Kept, as_kept, taken_out, tables_reversible}
use Rattle.event_codec.specs.declared.event.RowsKind.{RowsKind}
use Rattle.event_codec.specs.declared.event.RowsKind.TheVariants.{Write, Update, Delete}
use Rattle.event_codec.specs.Event.{Map, Rows}
use Rattle.log_entry_laws.specs.log_model.Images.{Read, row_at, change_at, changes_at, changes_of, map_types}
use Rattle.log_entry_laws.specs.log_model.Images as images
use Rattle.log_entry_laws.specs.log_model.Items.{types_in, kind_of}
use Rattle.apply_model.specs.Stops.{Differs}
use Rattle.apply_model.specs.Rows.{Store, is_same_type, are_same_types, types_of, takes_row, images_of, matches, taken_if, replacing, removing, storing_refusal, table_refusal, change_refusal, with_change, change_if, carry_change}
use Rattle.apply_model.specs.Texts.{Progress}
use Rattle.apply_model.specs.Groups.{and_then, with_store, carry_changes}
use Rattle.apply_laws.proofs.Columns.{columns_of_named}

-- ---- what a change that can be made asks

same_type : (k : ColType) → is_same_type k k ≡ true
same_type IntType = refl
same_type BigInt = refl
same_type (Varchar n) = eq-eqb n n refl

same_types : (ks : List ColType) → are_same_types ks ks ≡ true
same_types [] = refl
same_types (k ∷ ks) = and_from (is_same_type k k) (are_same_types ks ks) (same_type k) (same_types ks)

-- a row that fits has no NULL where none may stand
takes : (cs : List ColumnDef) (vs : List Value) → row_fits cs vs ≡ true → takes_row cs vs ≡ true
takes [] vs e = refl
takes (c ∷ cs) [] e = refl
takes (c ∷ cs) (v ∷ vs) e =
    let parts = and_parts (may_hold c v) (row_fits cs vs) e in
    let own = and_parts (is_ok (fitting c.kind v)) (c.nullable || not (is_null v)) parts.0 in
    and_from (c.nullable || not (is_null v)) (takes_row cs vs) own.1 (takes cs vs parts.1)

-- nothing refuses it, and its rows stand in the columns
record IsAllowed (d : TableDef) (rows : List (List Value)) (c : Change) : Type 0 where
  stand : list_all (takes_row d.columns) (images_of c) ≡ true
  free : storing_refusal d rows c ≡ None

put_by : (b : Bool) (rows rest : List (List Value)) → cond b (Some rows) None ≡ Some rest → b ≡ true
put_by true rows rest e = refl
put_by false rows rest e = cc

put_may : (d : TableDef) (row : List Value) (rows rest : List (List Value)) → put d row rows ≡ Some rest → may_put d row rows ≡ true
put_may d row rows rest e = put_by (may_put d row rows) (with_row d row rows) rest e

put_fits : (d : TableDef) (row : List Value) (rows : List (List Value)) → may_put d row rows ≡ true → row_fits d.columns row ≡ true
put_fits d row rows e = (and_parts (row_fits d.columns row) (not (list_any (collide d row) rows)) e).0

-- what follows on something that is there
pub then_some : {A B : Type 0} (f : A → Option B) (o : Option A) (y : B) → option_and_then f o ≡ Some y → (z : A) × (o ≡ Some z) × (f z ≡ Some y)
then_some f (Some z) y e = (z, refl, e)
then_some f None y e = cc

one_stands : (d : TableDef) (row : List Value) → row_fits d.columns row ≡ true → list_all (takes_row d.columns) (row ∷ []) ≡ true
one_stands d row e = and_from (takes_row d.columns row) true (takes d.columns row e) refl

allowed : (d : TableDef) (c : Change) (rows rest : List (List Value)) → Kept d rows → rows_after d c rows ≡ Some rest → IsAllowed d rows c
allowed d (Insert name row) rows rest kept e =
    let may = put_may d row rows rest e in
    record { stand = one_stands d row (put_fits d row rows may); free = ap (λ (b : Bool). taken_if b d row) may }
allowed d (Remove name row) rows rest kept e =
    let out = taken_out d row rows rest kept e in
    record { stand = one_stands d row out.fits; free = ap (removing d row) e }
allowed d (Replace name before after) rows rest kept e =
    let mid = then_some (put d after) (without before rows) rest e in
    let out = taken_out d before rows mid.0 kept mid.1 in
    let may = put_may d after mid.0 rest mid.2 in
    record {
      stand = and_from (takes_row d.columns before) (list_all (takes_row d.columns) (after ∷ [])) (takes d.columns before out.fits)
          (one_stands d after (put_fits d after mid.0 may));
      free = ap (replacing d before after) mid.1 ∙ ap (λ (b : Bool). taken_if b d after) may;
    }

-- the table that a change changes, and its rows after it
record IsFound (c : Change) (o : Option Table) : Type 0 where
  table : Table
  named : o ≡ Some table
  rest : List (List Value)
  after : rows_after table.definition c table.rows ≡ Some rest

some_is : {A : Type 0} (o : Option A) → is_some o ≡ true → (a : A) × (o ≡ Some a)
some_is None e = cc
some_is (Some a) e = (a, refl)

found_by : (c : Change) (o : Option Table) → option_map_or (λ (t : Table). is_some (rows_after t.definition c t.rows)) o false ≡ true → IsFound c o
found_by c None e = cc
found_by c (Some t) e =
    let rows = some_is (rows_after t.definition c t.rows) e in
    record { table = t; named = refl; rest = rows.0; after = rows.1 }

found : (c : Change) (tables next : List Table) → applied c tables ≡ Some next → IsFound c (table_named (table_of c) tables)
found c tables next e = found_by c (table_named (table_of c) tables) (sym (applied_where c tables) ∙ ap is_some e)

refused_by : (m : Map) (c : Change) (t : Table) → map_types m ≡ types_of t.definition → IsAllowed t.definition t.rows c → table_refusal m c t ≡ None
refused_by m c t types is =
    let same : are_same_types (map_types m) (types_of t.definition) ≡ true =
    ap (λ (ks : List ColType). are_same_types ks (types_of t.definition)) types ∙ same_types (types_of t.definition) in
    let all : matches m t.definition c ≡ true = and_from (are_same_types (map_types m) (types_of t.definition)) (list_all (takes_row t.definition.columns) (images_of c)) same is.stand in
    ap (λ (b : Bool). cond b (storing_refusal t.definition t.rows c) (Some (30010, []))) all ∙ is.free

-- a change that can be made is not refused, where the map has the types of its table
not_refused : (m : Map) (c : Change) (tables next : List Table) → AreKept tables → applied c tables ≡ Some next → map_types m ≡ types_in (definitions_of tables) (table_of c)
    → change_refusal m tables c ≡ None
not_refused m c tables next kept e types =
    let f = found c tables next e in
    let t : Table = f.table in
    let is = allowed t.definition c t.rows f.rest (as_kept t (named_kept (table_of c) tables t kept f.named)) f.after in
    let columns : types_in (definitions_of tables) (table_of c) ≡ types_of t.definition = ap (map kind_of) (columns_of_named (table_of c) tables t f.named) in
    ap (λ (o : Option Table). option_map_or (table_refusal m c) o (Some (1146, []))) f.named ∙ refused_by m c t (types ∙ columns) is

-- it is made
change_carried : (place : ℕ) (m : Map) (c : Change) (s : Store) (next : List Table) → AreKept s.tables → applied c s.tables ≡ Some next
    → map_types m ≡ types_in (definitions_of s.tables) (table_of c) → (carry_change place m c s ≡ Ok (with_change c s)) × ((with_change c s).tables ≡ next)
change_carried place m c s next kept e types =
    (ap (change_if place c s) (not_refused m c s.tables next kept e types), ap (λ (o : Option (List Table)). unwrap_or o s.tables) e)

-- ---- changes of one map

-- What stands while a transaction is carried out: tables that hold what they have to, with just these definitions.
pub record Stands (all : List TableDef) (p : Progress) : Type 0 where
  pub kept : AreKept p.store.tables
  pub theirs : definitions_of p.store.tables ≡ all

-- changes leave the definitions
pub all_definitions : (xs : List Change) (ts after : List Table) → all_applied xs ts ≡ Some after → definitions_of after ≡ definitions_of ts
all_definitions [] ts after e = ap definitions_of (sym (some_same ts after (sym (applied_none ts) ∙ e)))
all_definitions (x ∷ xs) ts after e =
    let mid = then_some (all_applied xs) (applied x ts) after (sym (applied_front x xs ts) ∙ e) in
    all_definitions xs mid.0 after mid.2 ∙ definitions_kept x ts mid.0 mid.1

-- what stood still stands behind changes
pub stands_behind : (all : List TableDef) (cs : List Change) (p q : Progress) (next : List Table) → Stands all p → all_applied cs p.store.tables ≡ Some next → q.store.tables ≡ next → Stands all q
stands_behind all cs p q next stands made same = record {
  kept = subst (λ (ts : List Table). AreKept ts) (sym same) (turn_back cs p.store.tables next stands.kept made).1;
  theirs = ap definitions_of same ∙ all_definitions cs p.store.tables next made ∙ stands.theirs;
}

-- What changes lead to: these tables and these changes.
pub record Reaches (all : List TableDef) (next : List Table) (made : List Change) (p : Progress) : Type 0 where
  pub tables : p.store.tables ≡ next
  pub changes : p.changes ≡ made
  pub stands : Stands all p

abbrev pub AllOfTable : List ℕ → List Change → Type 0
AllOfTable name [] = Unit {0}
AllOfTable name (c ∷ cs) = (table_of c ≡ name) × AllOfTable name cs

abbrev more_carried : (place : ℕ) → Map → Change → List Change → Progress → Store → Result Progress Differs
more_carried place m c cs p s = carry_changes place m cs (with_store c s p)

carried_front : (place : ℕ) (m : Map) (c : Change) (cs : List Change) (p p' : Progress) (s : Store) → carry_change place m c p.store ≡ Ok s
    → carry_changes place m cs (with_store c s p) ≡ Ok p' → carry_changes place m (c ∷ cs) p ≡ Ok p'
carried_front place m c cs p p' s one more = ap (and_then (more_carried place m c cs p)) one ∙ more

-- the tables after one change stand, too
stands_after : (all : List TableDef) (c : Change) (p : Progress) (s : Store) (mid : List Table) → Stands all p → applied c p.store.tables ≡ Some mid → s.tables ≡ mid
    → Stands all (with_store c s p)
stands_after all c p s mid stands e same = record {
  kept = subst (λ (us : List Table). AreKept us) (sym same) (tables_reversible c p.store.tables mid stands.kept e).1;
  theirs = ap definitions_of same ∙ definitions_kept c p.store.tables mid e ∙ stands.theirs;
}

-- What changes come to: they are carried out, and lead to these tables.
pub record AreCarriedOut (all : List TableDef) (place : ℕ) (m : Map) (cs : List Change) (p : Progress) (next : List Table) : Type 0 where
  pub progress : Progress
  pub carried : carry_changes place m cs p ≡ Ok progress
  pub reaches : Reaches all next (p.changes ++ cs) progress

pub changes_carried : (all : List TableDef) (place : ℕ) (m : Map) (cs : List Change) (p : Progress) (next : List Table) → Stands all p → AllOfTable m.name cs
    → map_types m ≡ types_in all m.name → all_applied cs p.store.tables ≡ Some next → AreCarriedOut all place m cs p next
changes_carried all place m [] p next stands of types e = record {
  progress = p;
  carried = refl;
  reaches = record { tables = some_same p.store.tables next (sym (applied_none p.store.tables) ∙ e); changes = sym (append-nil p.changes); stands = stands };
}
changes_carried all place m (c ∷ cs) p next stands of types e =
    let ts : List Table = p.store.tables in
    let mid = then_some (all_applied cs) (applied c ts) next (sym (applied_front c cs ts) ∙ e) in
    let own : types_in all m.name ≡ types_in (definitions_of ts) (table_of c) =
    ap (types_in all) (sym of.0) ∙ ap (λ (ds : List TableDef). types_in ds (table_of c)) (sym stands.theirs) in
    let one = change_carried place m c p.store mid.0 stands.kept mid.1 (types ∙ own) in
    by (λ q q-stands made. changes_carried all place m cs q next q-stands of.1 types made) (with_change c p.store) one.0
    (stands_after all c p (with_change c p.store) mid.0 stands mid.1 one.1) (ap (all_applied cs) one.1 ∙ mid.2)
  where
    by : ((q : Progress) → Stands all q → all_applied cs q.store.tables ≡ Some next → AreCarriedOut all place m cs q next) → (s : Store) → carry_change place m c p.store ≡ Ok s
        → Stands all (with_store c s p) → all_applied cs s.tables ≡ Some next → AreCarriedOut all place m (c ∷ cs) p next
    by later s one s-stands made =
        let more = later (with_store c s p) s-stands made in
        record {
          progress = more.progress;
          carried = carried_front place m c cs p more.progress s one more.carried;
          reaches = record { tables = more.reaches.tables; changes = more.reaches.changes ∙ append_assoc p.changes (c ∷ []) cs; stands = more.reaches.stands };
        }

-- ---- the changes of rows are of the table of their map

mapped_some : {A B : Type 0} (f : A → B) (o : Option A) (y : B) → option_map f o ≡ Some y → (z : A) × (f z ≡ y)
mapped_some f (Some z) y e = (z, cc)
mapped_some f None y e = cc

read_then : {X Y : Type 0} (more : X → List ℕ → Read Y) (r : Read X) (y : Y × List ℕ) → images.and_then more r ≡ Some y → (x : X × List ℕ) × (more x.0 x.1 ≡ Some y)
read_then more None y e = cc
read_then more (Some x) y e = (x, e)

change_of_table : (kind : RowsKind) (name : List ℕ) (kinds : List ColType) (bytes : List ℕ) (x : Change × List ℕ) → change_at kind name kinds bytes ≡ Some x → table_of x.0 ≡ name
change_of_table Write name kinds bytes x e =
    let r = mapped_some (λ (r : List Value × List ℕ). (Insert name r.0, r.1)) (row_at kinds bytes) x e in ap (λ (y : Change × List ℕ). table_of y.0) (sym r.1)
change_of_table Update name kinds bytes x e =
    let before = read_then (λ (b : List Value) (rest : List ℕ). option_map (λ (r : List Value × List ℕ). (Replace name b r.0, r.1)) (row_at kinds rest)) (row_at kinds bytes) x e in
    let r = mapped_some (λ (r : List Value × List ℕ). (Replace name before.0.0 r.0, r.1)) (row_at kinds before.0.1) x before.1 in
    ap (λ (y : Change × List ℕ). table_of y.0) (sym r.1)
change_of_table Delete name kinds bytes x e =
    let r = mapped_some (λ (r : List Value × List ℕ). (Remove name r.0, r.1)) (row_at kinds bytes) x e in ap (λ (y : Change × List ℕ). table_of y.0) (sym r.1)

all_of_table : (kind : RowsKind) (name : List ℕ) (kinds : List ColType) (n : ℕ) (bytes : List ℕ) → AllOfTable name (unroll (change_at kind name kinds) n bytes).0
all_of_table kind name kinds zero bytes = tt
all_of_table kind name kinds (suc n) bytes = by (λ rest. all_of_table kind name kinds n rest) (change_at kind name kinds bytes) refl
  where
    by : ((rest : List ℕ) → AllOfTable name (unroll (change_at kind name kinds) n rest).0) → (o : Read Change) → change_at kind name kinds bytes ≡ o
        → AllOfTable name (unrolled (unroll (change_at kind name kinds) n) bytes o).0
    by more None e = tt
    by more (Some x) e = (change_of_table kind name kinds bytes x e, more x.1)

pub changes_of_table : (m : Map) (r : Rows) → AllOfTable m.name (changes_of m r)
unfolding changes_at all_from
changes_of_table m r = all_of_table r.kind m.name (map_types m) _ r.rows
