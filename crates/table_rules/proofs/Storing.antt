-- Keys in the way, refusals, and changes taken back one after the other.
use Rattle.std.proofs.Common.{◌≡◌, ℕ, suc, List, [], ◌∷◌, ◌++◌, map, reverse, Bool, true, false, not, ◌&&◌, ◌||◌, cond, Option, Some, None, Ordering, Less, Equal, Greater, refl, sym, ap, subst, ◌∙◌}
use Rattle.std.specs.Prelude.{nat_eq, is_some, is_ok}
use Rattle.std.specs.List.{list_any}
use Rattle.std.specs.Option.{option_map, option_and_then, option_map_or}
use Rattle.std.specs.Ordering.{is_eq, is_lt}
use Rattle.std.specs.Cmp.Lexicographic.{pointwise}
use Rattle.std.proofs.lemmas.List.{reverse-append, map-append}
use Rattle.std.proofs.lemmas.Bool.{false_from_ne_true, true≢false}
use Rattle.val_types.specs.declared.value.Value.{Value}
use Rattle.val_types.specs.declared.definitions.KeyDef.{KeyDef}
use Rattle.val_types.specs.declared.definitions.TableDef.{TableDef}
use Rattle.val_types.specs.declared.change.Change.{Change}
use Rattle.val_types.specs.declared.change.Change.TheVariants.{Insert, Update, Delete}
use Rattle.val_types.specs.Order.{key_order}
use Rattle.val_types.specs.Fitting.{row_fits}
use Rattle.val_types.specs.Keys.{primary_key, same_values, agree_on, collide}
use Rattle.table_rules.specs.Tables.{Table, IsKept}
use Rattle.table_rules.specs.Changes.{without, with_row, put, rows_after, table_after, applied, AreKept}
use Rattle.val_types.specs.Changes.{table_of, inverse}
use Rattle.table_rules.specs.Stored.{table_named, has_key, row_of_key, rows_beside, first_agreed, key_in_way, where_found, unless_taken, all_applied, all_inverse, KeysInWay, InsertsWhereApplied, ReplacesWhereApplied, DeletesWhatIsThere, DefinitionsStay, AllTurnBack}
use Rattle.table_rules.proofs.Equations.{insertion_by, replacement_by, applied_none, applied_front, applied_one, all_applied_behind}
use Rattle.table_rules.proofs.Taking.{Behind, Kept, as_kept, same_is, same_self, tables_reversible}

-- ---- keys in the way

or_shuffled : (a b p q : Bool) → ((a || b) || (p || q)) ≡ ((a || p) || (b || q))
or_shuffled true b p q = refl
or_shuffled false true true q = refl
or_shuffled false true false q = refl
or_shuffled false false p q = refl

-- two tests of each item are two tests of the list
any_of_two : {X : Type 0} (f g : X → Bool) (xs : List X) → list_any (λ x. f x || g x) xs ≡ (list_any f xs || list_any g xs)
any_of_two f g [] = refl
any_of_two f g (x ∷ xs) = ap (λ (b : Bool). (f x || g x) || b) (any_of_two f g xs) ∙ or_shuffled (f x) (g x) (list_any f xs) (list_any g xs)

none_of_none : {X : Type 0} (xs : List X) → list_any (λ x. false) xs ≡ false
none_of_none [] = refl
none_of_none (x ∷ xs) = none_of_none xs

some_mapped : {A B : Type 0} (f : A → B) (o : Option A) → is_some (option_map f o) ≡ is_some o
some_mapped f None = refl
some_mapped f (Some a) = refl

some_or : (b : Bool) (o : Option ℕ) → is_some (cond b (Some 0) (option_map suc o)) ≡ (b || is_some o)
some_or true o = refl
some_or false o = some_mapped suc o

agreed_is_any : (keys : List KeyDef) (row : List Value) (rows : List (List Value))
    → is_some (first_agreed keys row rows) ≡ list_any (λ other. list_any (agree_on row other) keys) rows
agreed_is_any [] row rows = sym (none_of_none rows)
agreed_is_any (key ∷ keys) row rows =
    some_or (list_any (λ other. agree_on row other key) rows) (first_agreed keys row rows)
    ∙ ap (λ (b : Bool). list_any (λ other. agree_on row other key) rows || b) (agreed_is_any keys row rows)
    ∙ sym (any_of_two (λ other. agree_on row other key) (λ other. list_any (agree_on row other) keys) rows)

pub keys_in_way : KeysInWay
keys_in_way d row rows =
    some_or (list_any (has_key d (primary_key d row)) rows) (first_agreed d.uniques row rows)
    ∙ ap (λ (b : Bool). list_any (has_key d (primary_key d row)) rows || b) (agreed_is_any d.uniques row rows)
    ∙ sym (any_of_two (has_key d (primary_key d row)) (λ other. list_any (agree_on row other) d.uniques) rows)

-- ---- a change of the table of its name

some_in_front : {A : Type 0} (t : A) (o : Option (List A)) → is_some (option_map (λ (rest : List A). t ∷ rest) o) ≡ is_some o
some_in_front t None = refl
some_in_front t (Some rest) = refl

-- whether a change can be made to the rows of a table
abbrev changes_rows : Change → Table → Bool
changes_rows change t = is_some (rows_after t.definition change t.rows)

here_or_later : (change : Change) (t : Table) (ts : List Table) (here : Bool)
    → is_some (applied change ts) ≡ option_map_or (changes_rows change) (table_named (table_of change) ts) false
    → is_some (cond here (option_map (λ (changed : Table). changed ∷ ts) (table_after change t)) (option_map (λ (rest : List Table). t ∷ rest) (applied change ts)))
    ≡ option_map_or (changes_rows change) (cond here (Some t) (table_named (table_of change) ts)) false
here_or_later change t ts true e =
    some_mapped (λ (changed : Table). changed ∷ ts) (table_after change t) ∙ some_mapped _ (rows_after t.definition change t.rows)
here_or_later change t ts false e = some_in_front t (applied change ts) ∙ e

pub applied_where : (change : Change) (ts : List Table)
    → is_some (applied change ts) ≡ option_map_or (changes_rows change) (table_named (table_of change) ts) false
applied_where change [] = refl
applied_where change (t ∷ ts) =
    here_or_later change t ts (pointwise nat_eq (table_of change) t.definition.name) (applied_where change ts)

kept_here : (t : Table) (o : Option Table) (here : Bool) (found : Table) → IsKept t → (o ≡ Some found → IsKept found)
    → cond here (Some t) o ≡ Some found → IsKept found
kept_here t o true found kept later e = let same : t ≡ found = cc in subst (λ (u : Table). IsKept u) same kept
kept_here t o false found kept later e = later e

-- the table of a name is kept among tables that are
pub named_kept : (name : List ℕ) (ts : List Table) (found : Table) → AreKept ts → table_named name ts ≡ Some found → IsKept found
named_kept name [] found all e = cc
named_kept name (t ∷ ts) found all e =
    kept_here t (table_named name ts) (pointwise nat_eq name t.definition.name) found all.0 (named_kept name ts found all.1) e

-- ---- putting

ok_unless : (o : Option ℕ) (change : Change) → is_ok (unless_taken o change) ≡ not (is_some o)
ok_unless None change = refl
ok_unless (Some which) change = refl

put_where : (fits taken : Bool) (rows : List (List Value)) → fits ≡ true → is_some (cond (fits && not taken) (Some rows) None) ≡ not taken
put_where true true rows e = refl
put_where true false rows e = refl
put_where false taken rows e = cc

put_unless : (d : TableDef) (row : List Value) (rows : List (List Value)) (change : Change) → row_fits d.columns row ≡ true
    → is_ok (unless_taken (key_in_way d row rows) change) ≡ is_some (put d row rows)
put_unless d row rows change fits =
    ok_unless (key_in_way d row rows) change
    ∙ ap not (keys_in_way d row rows)
    ∙ sym (put_where (row_fits d.columns row) (list_any (collide d row) rows) (with_row d row rows) fits)

inserts_in : (name : List ℕ) (row : List Value) (o : Option Table) → option_map_or (λ (t : Table). row_fits t.definition.columns row) o true ≡ true
    → is_ok (where_found o (λ t. unless_taken (key_in_way t.definition row t.rows) (Insert name row)))
    ≡ option_map_or (changes_rows (Insert name row)) o false
inserts_in name row None fits = refl
inserts_in name row (Some t) fits = put_unless t.definition row t.rows (Insert name row) fits

pub inserts_where : InsertsWhereApplied
inserts_where name row ts fits = ap is_ok (insertion_by name row ts (table_named name ts) refl) ∙ inserts_in name row (table_named name ts) fits ∙ sym (applied_where (Insert name row) ts)

-- ---- replacing

key_is_step : (d : TableDef) (key first row : List Value) (rows : List (List Value)) (here : Bool) → has_key d key first ≡ here
    → (row_of_key d key rows ≡ Some row → key ≡ primary_key d row)
    → cond here (Some first) (row_of_key d key rows) ≡ Some row → key ≡ primary_key d row
key_is_step d key first row rows true e later found = let same : first ≡ row = cc in same_is key (primary_key d first) e ∙ ap (primary_key d) same
key_is_step d key first row rows false e later found = later found

-- the row of a key has it
pub key_is : (d : TableDef) (key row : List Value) (rows : List (List Value)) → row_of_key d key rows ≡ Some row → key ≡ primary_key d row
key_is d key row [] e = cc
key_is d key row (first ∷ rows) e = key_is_step d key first row rows (has_key d key first) refl (key_is d key row rows) e

below_differs : (o : Ordering) → is_lt o ≡ true → is_eq o ≡ false
below_differs Less e = refl
below_differs Equal e = cc
below_differs Greater e = cc

beside_step : (d : TableDef) (key s : List Value) (ss : List (List Value)) → has_key d key s ≡ false → rows_beside d key (s ∷ ss) ≡ s ∷ rows_beside d key ss
beside_step d key s ss e = rw e refl

-- the rows behind a row have other keys
beside_behind : (d : TableDef) (r : List Value) (rs : List (List Value)) → Behind d r rs → rows_beside d (primary_key d r) rs ≡ rs
beside_behind d r [] p = refl
beside_behind d r (s ∷ ss) p =
    beside_step d (primary_key d r) s ss (below_differs (key_order (primary_key d r) (primary_key d s)) p.0)
    ∙ ap (λ (rows : List (List Value)). s ∷ rows) (beside_behind d r ss p.2)

differ : (d : TableDef) (key row s : List Value) → key ≡ primary_key d row → has_key d key s ≡ false → same_values row s ≡ false
differ d key row s e other =
    false_from_ne_true (same_values row s) (λ same.
    let equal : row ≡ s = same_is row s same in
    true≢false (sym (same_self key) ∙ ap (same_values key) (e ∙ ap (primary_key d) equal) ∙ other))

without_step : (d : TableDef) (key s row : List Value) (ss : List (List Value)) (here : Bool) → has_key d key s ≡ here → Kept d (s ∷ ss)
    → (row_of_key d key ss ≡ Some row → without row ss ≡ Some (rows_beside d key ss))
    → cond here (Some s) (row_of_key d key ss) ≡ Some row
    → without row (s ∷ ss) ≡ Some (rows_beside d key (s ∷ ss))
without_step d key s row ss true e kept later found =
    let same : s ≡ row = cc in
    let key_same : key ≡ primary_key d s = same_is key (primary_key d s) e in
    let beside : rows_beside d key ss ≡ ss = ap (λ (k : List Value). rows_beside d k ss) key_same ∙ beside_behind d s ss kept.1 in
    subst (λ (r : List Value). without r (s ∷ ss) ≡ Some (rows_beside d key (s ∷ ss))) same (rw (same_self s, e, beside) refl)
without_step d key s row ss false e kept later found =
    let key_same : key ≡ primary_key d row = key_is d key row ss found in
    rw (differ d key row s key_same e, e, later found) refl

-- taking the row of a key out leaves the rows beside it
pub without_is_beside : (d : TableDef) (key row : List Value) (rs : List (List Value)) → Kept d rs → row_of_key d key rs ≡ Some row
    → without row rs ≡ Some (rows_beside d key rs)
without_is_beside d key row [] kept e = cc
without_is_beside d key row (s ∷ ss) kept e =
    without_step d key s row ss (has_key d key s) refl kept (without_is_beside d key row ss kept.2) e

replaces_table : (name : List ℕ) (key before row : List Value) (t : Table) → IsKept t → row_fits t.definition.columns row ≡ true → row_of_key t.definition key t.rows ≡ Some before
    → is_ok (where_found (row_of_key t.definition key t.rows) (λ r. unless_taken (key_in_way t.definition row (rows_beside t.definition key t.rows)) (Update name r row)))
    ≡ changes_rows (Update name before row) t
replaces_table name key before row t kept fits found =
    ap (λ (o : Option (List Value)). is_ok (where_found o (λ r. unless_taken (key_in_way t.definition row (rows_beside t.definition key t.rows)) (Update name r row)))) found
    ∙ put_unless t.definition row (rows_beside t.definition key t.rows) (Update name before row) fits
    ∙ ap (λ (o : Option (List (List Value))). is_some (option_and_then (put t.definition row) o)) (sym (without_is_beside t.definition key before t.rows (as_kept t kept) found))

replaces_in : (name : List ℕ) (key before row : List Value) (o : Option Table) → ((t : Table) → o ≡ Some t → IsKept t)
    → option_map_or (λ (t : Table). row_fits t.definition.columns row) o true ≡ true
    → option_and_then (λ (t : Table). row_of_key t.definition key t.rows) o ≡ Some before
    → is_ok (where_found o (λ t. where_found (row_of_key t.definition key t.rows) (λ r. unless_taken (key_in_way t.definition row (rows_beside t.definition key t.rows)) (Update name r row))))
    ≡ option_map_or (changes_rows (Update name before row)) o false
replaces_in name key before row None kept fits found = cc
replaces_in name key before row (Some t) kept fits found = replaces_table name key before row t (kept t refl) fits found

pub replaces_where : ReplacesWhereApplied
replaces_where name key before row ts all fits found =
    ap is_ok (replacement_by name key row ts (table_named name ts) refl)
    ∙ replaces_in name key before row (table_named name ts) (λ t e. named_kept name ts t all e) fits found
    ∙ sym (applied_where (Update name before row) ts)

-- ---- taking out

there_step : (d : TableDef) (key s row : List Value) (ss : List (List Value)) (here same : Bool) → same_values row s ≡ same
    → (row_of_key d key ss ≡ Some row → is_some (without row ss) ≡ true)
    → cond here (Some s) (row_of_key d key ss) ≡ Some row
    → is_some (cond same (Some ss) (option_map (λ (rest : List (List Value)). s ∷ rest) (without row ss))) ≡ true
there_step d key s row ss here true e later found = refl
there_step d key s row ss true false e later found =
    let same : s ≡ row = cc in
    absurd (true≢false (sym (same_self row) ∙ ap (same_values row) (sym same) ∙ e))
there_step d key s row ss false false e later found = some_in_front s (without row ss) ∙ later found

there : (d : TableDef) (key row : List Value) (rs : List (List Value)) → row_of_key d key rs ≡ Some row → is_some (without row rs) ≡ true
there d key row [] e = cc
there d key row (s ∷ ss) e = there_step d key s row ss (has_key d key s) (same_values row s) refl (there d key row ss) e

there_in : (name : List ℕ) (key row : List Value) (o : Option Table) → option_and_then (λ (t : Table). row_of_key t.definition key t.rows) o ≡ Some row
    → option_map_or (changes_rows (Delete name row)) o false ≡ true
there_in name key row None e = cc
there_in name key row (Some t) e = there t.definition key row t.rows e

pub deletes_there : DeletesWhatIsThere
deletes_there name key row ts e = applied_where (Delete name row) ts ∙ there_in name key row (table_named name ts) e

-- ---- definitions

some_of : {A B : Type 0} (f : A → B) (o : Option A) (y : B) → option_map f o ≡ Some y → (z : A) × (o ≡ Some z) × (f z ≡ y)
some_of f (Some z) y e = (z, refl, cc)
some_of f None y e = cc

abbrev definitions : List Table → List TableDef
definitions ts = map (λ (t : Table). t.definition) ts

definitions_step : (change : Change) (t : Table) (ts after : List Table) (here : Bool)
    → ((rest : List Table) → applied change ts ≡ Some rest → definitions rest ≡ definitions ts)
    → cond here (option_map (λ (changed : Table). changed ∷ ts) (table_after change t)) (option_map (λ (rest : List Table). t ∷ rest) (applied change ts)) ≡ Some after
    → definitions after ≡ definitions (t ∷ ts)
definitions_step change t ts after true later e =
    let found = some_of (λ (changed : Table). changed ∷ ts) (table_after change t) after e in
    let rows = some_of (λ (rows : List (List Value)). record { definition = t.definition; rows = rows }) (rows_after t.definition change t.rows) found.0 found.1 in
    ap definitions (sym found.2) ∙ ap (λ (u : Table). u.definition ∷ definitions ts) (sym rows.2)
definitions_step change t ts after false later e =
    let found = some_of (λ (rest : List Table). t ∷ rest) (applied change ts) after e in
    ap definitions (sym found.2) ∙ ap (λ (ds : List TableDef). t.definition ∷ ds) (later found.0 found.1)

pub definitions_kept : DefinitionsStay
definitions_kept change [] after e = cc
definitions_kept change (t ∷ ts) after e =
    definitions_step change t ts after (pointwise nat_eq (table_of change) t.definition.name) (definitions_kept change ts) e

-- ---- changes one after the other

then_some : {A B : Type 0} (f : A → Option B) (o : Option A) (y : B) → option_and_then f o ≡ Some y → (z : A) × (o ≡ Some z) × (f z ≡ Some y)
then_some f (Some z) y e = (z, refl, e)
then_some f None y e = cc

pub some_same : {A : Type 0} (a b : A) → Some a ≡ Some b → a ≡ b
some_same a b e = cc

pub all_inverse_front : (x : Change) (xs : List Change) → all_inverse (x ∷ xs) ≡ all_inverse xs ++ inverse x ∷ []
all_inverse_front x xs = ap (map inverse) (reverse-append (x ∷ []) xs) ∙ map-append inverse (reverse xs) (x ∷ [])

pub turn_back : AllTurnBack
turn_back [] ts after all e = let same : ts ≡ after = some_same ts after (sym (applied_none ts) ∙ e) in (applied_none after ∙ ap Some (sym same), subst (λ (us : List Table). AreKept us) same all)
turn_back (x ∷ xs) ts after all e =
    let mid = then_some (all_applied xs) (applied x ts) after (sym (applied_front x xs ts) ∙ e) in
    let first = tables_reversible x ts mid.0 all mid.1 in
    let rest = turn_back xs mid.0 after first.1 mid.2 in (
      ap (λ (cs : List Change). all_applied cs after) (all_inverse_front x xs)
          ∙ all_applied_behind (all_inverse xs) (inverse x ∷ []) after
          ∙ ap (option_and_then (all_applied (inverse x ∷ []))) rest.0
          ∙ applied_one (inverse x) mid.0
          ∙ first.0,
      rest.1,
    )
