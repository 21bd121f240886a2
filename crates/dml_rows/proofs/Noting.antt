-- The change that storing a row makes, and changes noted and taken back.
use Rattle.std.proofs.Common.{◌≡◌, ℕ, ◌+◌, ◌<◌, ◌≤◌, List, [], ◌∷◌, ◌++◌, length, take, drop, Bool, true, false, cond, Option, Some, None, Result, Ok, Err, ◌⊎◌, inl, inr, length-append, refl, sym, ap, subst, ◌∙◌, arith}
use Rattle.std.specs.Prelude.{is_some, slice_get}
use Rattle.std.specs.Option.{option_map, option_and_then}
use Rattle.std.proofs.Math.ListN.{drop_of_length-le}
use Rattle.std.proofs.Math.Seq.{drop-append_seam, take-append_seam}
use Rattle.std.proofs.lemmas.List.{drop-append-le, take-append-le, take_all}
use Rattle.std.proofs.lemmas.Bool.{cases_lt, and_from}
use Rattle.val_types.specs.declared.value.Value.{Value}
use Rattle.val_types.specs.declared.definitions.TableDef.{TableDef}
use Rattle.val_types.specs.declared.change.Change.{Change}
use Rattle.val_types.specs.declared.change.Change.TheVariants.{Insert, Update, Delete}
use Rattle.val_types.specs.Changes.{inverse}
use Rattle.val_types.specs.Keys.{primary_key}
use Rattle.table_rules.specs.Tables.{Table}
use Rattle.table_rules.specs.Changes.{applied}
use Rattle.table_rules.specs.Stored.{table_named, row_of_key, row_at, rows_beside, key_in_way, Obstacle, row_absent, where_found, unless_taken, insertion_in, replacement_in, insertion, replacement, deletion, carried_out, all_applied, all_inverse}
use Rattle.table_rules.specs.Stores.{Store, place_of, definitions_of, keeps, keeps_put, KeepsAll, KeepsSame, Still, IsWhole, can_take_back}
use Rattle.table_rules.specs.Leads.{Leads}
use Rattle.table_rules.proofs.Equations.{insertion_by, replacement_by, deletion_by_row, applied_none, applied_one}
use Rattle.table_rules.proofs.Storing.{some_same}
use Rattle.table_rules.proofs.Places.{place_has_name}
use Rattle.table_rules.proofs.Leading.{still_same, still_on, leads_nowhere, one_change_leads, no_change_leads, leads_back, leads_home, none_taken_back, last_step, back_last, rest_taken_back}
use Rattle.row_store.specs.declared.refusal.RowRefusal.{RowRefusal}
use Rattle.row_store.specs.declared.refusal.RowRefusal.TheVariants.{Taken, Absent, NoMemory}
use Rattle.row_store.specs.Stores.{Stores, is_standing, exchange, exchange_in, removal, removal_in}
use Rattle.row_store.proofs.Exchanging.{exchange_by, removal_by}
use Rattle.dml_rows.specs.Noted.{changes_of, StaysReversible}

-- ---- the change that was made

unless_ok : (o : Option ℕ) (change : Change) (ts after : List Table) → carried_out (unless_taken o change) ts ≡ Some after → unless_taken o change ≡ Ok change
unless_ok None change ts after e = refl
unless_ok (Some which) change ts after e = cc

insertion_ok : (o : Option Table) (name : List ℕ) (row : List Value) (ts after : List Table) → carried_out (where_found o (insertion_in name row)) ts ≡ Some after
    → where_found o (insertion_in name row) ≡ Ok (Insert name row)
insertion_ok None name row ts after e = cc
insertion_ok (Some t) name row ts after e = unless_ok (key_in_way t.definition row t.rows) (Insert name row) ts after e

pub inserted : (name : List ℕ) (row : List Value) (ts after : List Table) → carried_out (insertion name row ts) ts ≡ Some after → insertion name row ts ≡ Ok (Insert name row)
inserted name row ts after e =
    let is = insertion_by name row ts (table_named name ts) refl in
    is ∙ insertion_ok (table_named name ts) name row ts after (ap (λ (step : Result Change Obstacle). carried_out step ts) (sym is) ∙ e)

replacement_row : (o : Option (List Value)) (name : List ℕ) (key row before : List Value) (t : Table) (ts after : List Table) → o ≡ Some before
    → carried_out (where_found o (λ r. unless_taken (key_in_way t.definition row (rows_beside t.definition key t.rows)) (Update name r row))) ts ≡ Some after
    → where_found o (λ r. unless_taken (key_in_way t.definition row (rows_beside t.definition key t.rows)) (Update name r row)) ≡ Ok (Update name before row)
replacement_row None name key row before t ts after is e = cc
replacement_row (Some r) name key row before t ts after is e =
    let same : r ≡ before = cc in
    unless_ok (key_in_way t.definition row (rows_beside t.definition key t.rows)) (Update name r row) ts after e ∙ ap (λ (b : List Value). Ok (Update name b row)) same

replacement_ok : (o : Option Table) (name : List ℕ) (key row before : List Value) (ts after : List Table) → option_and_then (λ (t : Table). row_of_key t.definition key t.rows) o ≡ Some before
    → carried_out (where_found o (replacement_in name key row)) ts ≡ Some after → where_found o (replacement_in name key row) ≡ Ok (Update name before row)
replacement_ok None name key row before ts after is e = cc
replacement_ok (Some t) name key row before ts after is e = replacement_row (row_of_key t.definition key t.rows) name key row before t ts after is e

pub replaced : (name : List ℕ) (key row before : List Value) (ts after : List Table) → row_at name key ts ≡ Some before
    → carried_out (replacement name key row ts) ts ≡ Some after → replacement name key row ts ≡ Ok (Update name before row)
replaced name key row before ts after there e =
    let is = replacement_by name key row ts (table_named name ts) refl in
    is ∙ replacement_ok (table_named name ts) name key row before ts after there (ap (λ (step : Result Change Obstacle). carried_out step ts) (sym is) ∙ e)

-- a row that stands just so, replaced or taken out
exchanged_by : (b : Bool) (way : Option ℕ) (change : Change) (ts after : List Table) → carried_out (cond b (unless_taken way change) (Err row_absent)) ts ≡ Some after
    → cond b (unless_taken way change) (Err row_absent) ≡ Ok change
exchanged_by true way change ts after e = unless_ok way change ts after e
exchanged_by false way change ts after e = cc

exchanged_in : (o : Option Table) (name : List ℕ) (before row : List Value) (ts after : List Table) → carried_out (where_found o (exchange_in name before row)) ts ≡ Some after
    → where_found o (exchange_in name before row) ≡ Ok (Update name before row)
exchanged_in None name before row ts after e = cc
exchanged_in (Some t) name before row ts after e =
    exchanged_by (is_standing t.definition before t.rows) (key_in_way t.definition row (rows_beside t.definition (primary_key t.definition before) t.rows)) (Update name before row) ts after e

pub exchanged : (name : List ℕ) (before row : List Value) (ts after : List Table) → carried_out (exchange name before row ts) ts ≡ Some after → exchange name before row ts ≡ Ok (Update name before row)
exchanged name before row ts after e =
    let is = exchange_by name before row ts (table_named name ts) refl in
    is ∙ exchanged_in (table_named name ts) name before row ts after (ap (λ (step : Result Change Obstacle). carried_out step ts) (sym is) ∙ e)

removed_by : (b : Bool) (change : Change) (ts after : List Table) → carried_out (cond b (Ok change) (Err row_absent)) ts ≡ Some after → cond b (Ok change) (Err row_absent) ≡ Ok change
removed_by true change ts after e = refl
removed_by false change ts after e = cc

removed_in : (o : Option Table) (name : List ℕ) (row : List Value) (ts after : List Table) → carried_out (where_found o (removal_in name row)) ts ≡ Some after
    → where_found o (removal_in name row) ≡ Ok (Delete name row)
removed_in None name row ts after e = cc
removed_in (Some t) name row ts after e = removed_by (is_standing t.definition row t.rows) (Delete name row) ts after e

pub removed : (name : List ℕ) (row : List Value) (ts after : List Table) → carried_out (removal name row ts) ts ≡ Some after → removal name row ts ≡ Ok (Delete name row)
removed name row ts after e =
    let is = removal_by name row ts (table_named name ts) refl in
    is ∙ removed_in (table_named name ts) name row ts after (ap (λ (step : Result Change Obstacle). carried_out step ts) (sym is) ∙ e)

-- ---- refusals

pub refused : (refusal : RowRefusal) (step : Result Change Obstacle) (old new : List Table) → Stores {A = Unit {0}} (Err refusal) step old new → new ≡ old
refused (Taken which) step old new p = p.1
refused Absent step old new p = p.1
refused NoMemory step old new p = p

pub carried : (step : Result Change Obstacle) (change : Change) (old new : List Table) → step ≡ Ok change → carried_out step old ≡ Some new → applied change old ≡ Some new
carried step change old new is e = ap (λ (s : Result Change Obstacle). carried_out s old) (sym is) ∙ e

-- ---- names and places

-- the name at the place of a name is that name
pub name_there : (name there : List ℕ) (ts : List Table) (at : ℕ) → Some there ≡ option_map (λ (d : TableDef). d.name) (slice_get (definitions_of ts) at) → place_of name ts ≡ Some at → there ≡ name
name_there name there ts at is e = let both : Some there ≡ Some name = is ∙ place_has_name name ts at e in cc

-- where no definition stands, no name has its place
pub no_name_there : (name : List ℕ) (ts : List Table) (at : ℕ) → None ≡ option_map (λ (d : TableDef). d.name) (slice_get (definitions_of ts) at) → place_of name ts ≡ Some at → ⊥
no_name_there name ts at none e = let never : None ≡ Some name = none ∙ place_has_name name ts at e in cc

-- ---- a change that was made and noted

-- a row that was inserted leads on
pub insert_leads : (old new : Store) (noted now : List Change) (name : List ℕ) (row : List Value) → IsWhole old → carried_out (insertion name row old.tables) old.tables ≡ Some new.tables
    → keeps new name row ≡ true → KeepsAll old new → Still old new → now ≡ noted ++ Insert name row ∷ [] → Leads old noted new now
insert_leads old new noted now name row whole made kept keys still is =
    subst (λ (cs : List Change). Leads old noted new cs) (sym is)
    (one_change_leads old new noted (Insert name row) whole.rows
    (carried (insertion name row old.tables) (Insert name row) old.tables new.tables (inserted name row old.tables new.tables made) made) kept keys still)

pub update_leads : (old new : Store) (noted now : List Change) (name : List ℕ) (key before row : List Value) → IsWhole old → row_at name key old.tables ≡ Some before
    → carried_out (replacement name key row old.tables) old.tables ≡ Some new.tables → keeps new name row ≡ true → keeps new name before ≡ true
    → KeepsAll old new → Still old new → now ≡ noted ++ Update name before row ∷ [] → Leads old noted new now
update_leads old new noted now name key before row whole there made after kept keys still is =
    subst (λ (cs : List Change). Leads old noted new cs) (sym is)
    (one_change_leads old new noted (Update name before row) whole.rows
    (carried (replacement name key row old.tables) (Update name before row) old.tables new.tables (replaced name key row before old.tables new.tables there made) made) (and_from (keeps new name row) (keeps new name before) after kept) keys still)

pub delete_leads : (old new : Store) (noted now : List Change) (name : List ℕ) (key row : List Value) → IsWhole old → row_at name key old.tables ≡ Some row
    → carried_out (deletion name key old.tables) old.tables ≡ Some new.tables → keeps new name row ≡ true
    → KeepsAll old new → Still old new → now ≡ noted ++ Delete name row ∷ [] → Leads old noted new now
delete_leads old new noted now name key row whole there made kept keys still is =
    subst (λ (cs : List Change). Leads old noted new cs) (sym is)
    (one_change_leads old new noted (Delete name row) whole.rows
    (carried (deletion name key old.tables) (Delete name row) old.tables new.tables (deletion_by_row name key old.tables (Some row) there) made) kept keys still)

pub exchange_leads : (old new : Store) (noted now : List Change) (name : List ℕ) (before row : List Value) → IsWhole old
    → carried_out (exchange name before row old.tables) old.tables ≡ Some new.tables → keeps new name row ≡ true → keeps new name before ≡ true
    → KeepsAll old new → Still old new → now ≡ noted ++ Update name before row ∷ [] → Leads old noted new now
exchange_leads old new noted now name before row whole made after kept keys still is =
    subst (λ (cs : List Change). Leads old noted new cs) (sym is)
    (one_change_leads old new noted (Update name before row) whole.rows
    (carried (exchange name before row old.tables) (Update name before row) old.tables new.tables (exchanged name before row old.tables new.tables made) made) (and_from (keeps new name row) (keeps new name before) after kept) keys still)

pub removal_leads : (old new : Store) (noted now : List Change) (name : List ℕ) (row : List Value) → IsWhole old
    → carried_out (removal name row old.tables) old.tables ≡ Some new.tables → keeps new name row ≡ true
    → KeepsAll old new → Still old new → now ≡ noted ++ Delete name row ∷ [] → Leads old noted new now
removal_leads old new noted now name row whole made kept keys still is =
    subst (λ (cs : List Change). Leads old noted new cs) (sym is)
    (one_change_leads old new noted (Delete name row) whole.rows
    (carried (removal name row old.tables) (Delete name row) old.tables new.tables (removed name row old.tables new.tables made) made) kept keys still)

-- what was noted is the change of storing the row
pub insert_notes : (old new : List Table) (noted now : List Change) (name : List ℕ) (row : List Value) → carried_out (insertion name row old) old ≡ Some new → now ≡ noted ++ Insert name row ∷ []
    → now ≡ noted ++ changes_of (insertion name row old)
insert_notes old new noted now name row made is = is ∙ ap (λ (s : Result Change Obstacle). noted ++ changes_of s) (sym (inserted name row old new made))

pub update_notes : (old new : List Table) (noted now : List Change) (name : List ℕ) (key before row : List Value) → row_at name key old ≡ Some before
    → carried_out (replacement name key row old) old ≡ Some new → now ≡ noted ++ Update name before row ∷ [] → now ≡ noted ++ changes_of (replacement name key row old)
update_notes old new noted now name key before row there made is = is ∙ ap (λ (s : Result Change Obstacle). noted ++ changes_of s) (sym (replaced name key row before old new there made))

pub delete_notes : (old : List Table) (noted now : List Change) (name : List ℕ) (key row : List Value) → row_at name key old ≡ Some row
    → now ≡ noted ++ Delete name row ∷ [] → now ≡ noted ++ changes_of (deletion name key old)
delete_notes old noted now name key row there is = is ∙ ap (λ (s : Result Change Obstacle). noted ++ changes_of s) (sym (deletion_by_row name key old (Some row) there))

pub exchange_notes : (old new : List Table) (noted now : List Change) (name : List ℕ) (before row : List Value)
    → carried_out (exchange name before row old) old ≡ Some new → now ≡ noted ++ Update name before row ∷ [] → now ≡ noted ++ changes_of (exchange name before row old)
exchange_notes old new noted now name before row made is = is ∙ ap (λ (s : Result Change Obstacle). noted ++ changes_of s) (sym (exchanged name before row old new made))

pub removal_notes : (old new : List Table) (noted now : List Change) (name : List ℕ) (row : List Value)
    → carried_out (removal name row old) old ≡ Some new → now ≡ noted ++ Delete name row ∷ [] → now ≡ noted ++ changes_of (removal name row old)
removal_notes old new noted now name row made is = is ∙ ap (λ (s : Result Change Obstacle). noted ++ changes_of s) (sym (removed name row old new made))

-- what was refused leads on, with more keys at most
pub refused_leads : (refusal : RowRefusal) (step : Result Change Obstacle) (old new : Store) (noted now : List Change) → Stores {A = Unit {0}} (Err refusal) step old.tables new.tables → KeepsAll old new → Still old new → now ≡ noted
    → Leads old noted new now
refused_leads refusal step old new noted now p keys still is =
    subst (λ (cs : List Change). Leads old noted new cs) (sym is) (no_change_leads old new noted (refused refusal step old.tables new.tables p) keys still)

pub nothing_leads : (store : Store) (noted now : List Change) → now ≡ noted → Leads store noted store now
nothing_leads store noted now is = subst (λ (cs : List Change). Leads store noted store cs) (sym is) (leads_nowhere store noted)

-- where no change was made and none noted
pub unchanged_leads : (old new : Store) (noted now : List Change) → new.tables ≡ old.tables → KeepsAll old new → Still old new → now ≡ noted → Leads old noted new now
unchanged_leads old new noted now tables keys still is = subst (λ (cs : List Change). Leads old noted new cs) (sym is) (no_change_leads old new noted tables keys still)

-- ---- taking back to a mark

-- what is known where changes are taken back as far as they are
pub record TakenSoFar (mark : ℕ) (first : Store) (all : List Change) (store : Store) (changes : List Change) : Type 0 where
  pub back : all_applied (all_inverse (drop mark changes)) store.tables ≡ all_applied (all_inverse (drop mark all)) first.tables
  pub front : take mark changes ≡ take mark all
  pub can : can_take_back store (drop mark changes) ≡ true
  pub still : StaysReversible first all store changes
  pub same : KeepsSame first store
  pub stays : Still first store
  pub leads : (start : Store) (noted : List Change) → Leads start noted first all → length noted ≤ mark → Leads start noted store changes

-- nothing is taken back yet
pub taken_none : (mark : ℕ) (first : Store) (all : List Change) → can_take_back first (drop mark all) ≡ true → TakenSoFar mark first all first all
taken_none mark first all can =
    record { back = refl; front = refl; can = can; still = λ other can. can; same = λ name row. refl; stays = still_same first; leads = λ start noted leads past. leads }

behind_mark : (mark : ℕ) (store : Store) (changes mid : List Change) (last : Change) → changes ≡ mid ++ last ∷ [] → mark < length changes → mark ≤ length mid
behind_mark mark store changes mid last is h =
    let long : length changes ≡ length mid + 1 = ap length is ∙ length-append mid (last ∷ []) in omega arith

can_last : (mark : ℕ) (store : Store) (changes mid : List Change) (last : Change) → changes ≡ mid ++ last ∷ [] → mark ≤ length mid → can_take_back store (drop mark changes) ≡ true
    → can_take_back store (drop mark mid ++ last ∷ []) ≡ true
can_last mark store changes mid last is h can =
    sym (ap (λ (cs : List Change). can_take_back store (drop mark cs)) is ∙ ap (can_take_back store) (drop-append-le mark mid (last ∷ []) h)) ∙ can

-- the last change behind the mark is a step
pub one_step : (mark : ℕ) (store : Store) (changes mid : List Change) (last : Change) → changes ≡ mid ++ last ∷ [] → mark < length changes → can_take_back store (drop mark changes) ≡ true
    → (is_some (applied (inverse last) store.tables) ≡ true) × (keeps_put store (inverse last) ≡ true)
one_step mark store changes mid last is h can =
    last_step store (drop mark mid) last (can_last mark store changes mid last is (behind_mark mark store changes mid last is h) can)

still_step : (mark : ℕ) (store after : Store) (changes mid : List Change) (last : Change) → changes ≡ mid ++ last ∷ [] → applied (inverse last) store.tables ≡ Some after.tables → KeepsAll store after
    → (length mid < mark) ⊎ (mark ≤ length mid) → can_take_back store (drop mark changes) ≡ true → can_take_back after (drop mark mid) ≡ true
still_step mark store after changes mid last is made keys (inl past) can = ap (can_take_back after) (drop_of_length-le mid (omega arith)) ∙ none_taken_back after
still_step mark store after changes mid last is made keys (inr within) can =
    rest_taken_back store after (drop mark mid) last made keys (can_last mark store changes mid last is within can)

pub taken_one : (mark : ℕ) (first store after : Store) (all changes mid : List Change) (last : Change) → TakenSoFar mark first all store changes
    → changes ≡ mid ++ last ∷ [] → mark < length changes → applied (inverse last) store.tables ≡ Some after.tables → KeepsSame store after → Still store after → IsWhole after
    → TakenSoFar mark first all after mid
taken_one mark first store after all changes mid last so is h made same stays whole =
    let within : mark ≤ length mid = behind_mark mark store changes mid last is h in
    let keys : KeepsAll store after = λ name row kept. same name row ∙ kept in
    record {
      back = sym (ap (λ (cs : List Change). all_applied (all_inverse (drop mark cs)) store.tables) is
          ∙ ap (λ (cs : List Change). all_applied (all_inverse cs) store.tables) (drop-append-le mark mid (last ∷ []) within)
          ∙ back_last (drop mark mid) last store.tables
          ∙ ap (option_and_then (all_applied (all_inverse (drop mark mid)))) made) ∙ so.back;
      front = sym (ap (take mark) is ∙ take-append-le mark mid (last ∷ []) within) ∙ so.front;
      can = still_step mark store after changes mid last is made keys (inr within) so.can;
      still = λ other can. still_step other store after changes mid last is made keys (cases_lt (length mid) other) (so.still other can);
      same = λ name row. same name row ∙ so.same name row;
      stays = still_on first store after so.stays stays;
      leads = λ start noted leads past. leads_back start store after noted changes mid (length mid) whole.rows (so.leads start noted leads past) (omega arith)
          (ap (λ (cs : List Change). all_applied (all_inverse (drop (length mid) cs)) store.tables) is
          ∙ ap (λ (cs : List Change). all_applied (all_inverse cs) store.tables) (drop-append_seam mid (last ∷ []))
          ∙ applied_one (inverse last) store.tables
          ∙ made)
          (sym (ap (take (length mid)) is ∙ take-append_seam mid (last ∷ []))) keys stays;
    }

-- where none is left behind the mark, all were taken back
pub taken_all : (mark : ℕ) (first store : Store) (all changes : List Change) → TakenSoFar mark first all store changes → length changes ≤ mark
    → all_applied (all_inverse (drop mark all)) first.tables ≡ Some store.tables
taken_all mark first store all changes so past =
    sym so.back ∙ ap (λ (cs : List Change). all_applied (all_inverse cs) store.tables) (drop_of_length-le changes past) ∙ applied_none store.tables

-- and where the mark is where something began, that is where all is again
pub taken_home : (mark : ℕ) (first store : Store) (all changes : List Change) → TakenSoFar mark first all store changes → length changes ≤ mark
    → (start : Store) (noted : List Change) → Leads start noted first all → mark ≡ length noted → (store.tables ≡ start.tables) × (changes ≡ noted)
taken_home mark first store all changes so past start noted leads e =
    let home = leads_home start first noted all leads in (
      some_same store.tables start.tables
          (sym (taken_all mark first store all changes so past) ∙ ap (λ (k : ℕ). all_applied (all_inverse (drop k all)) first.tables) e ∙ home.0),
      sym (take_all mark changes past) ∙ so.front ∙ ap (λ (k : ℕ). take k all) e ∙ home.1,
    )
