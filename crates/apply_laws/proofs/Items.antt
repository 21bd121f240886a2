-- The events of items that are logged by their rows, carried out one after the other.
use Rattle.std.proofs.Common.{◌≡◌, ℕ, ◌+◌, ◌≤◌, Bool, true, false, cond, List, [], ◌∷◌, ◌++◌, map, Option, Some, None, Ok, refl, sym, ap, subst, ◌∙◌, append_assoc, append-nil, arith}
use Rattle.std.specs.Prelude.{flat_map}
use Rattle.val_types.specs.declared.change.Change.{Change}
use Rattle.val_types.specs.declared.definitions.TableDef.{TableDef}
use Rattle.table_rules.specs.Tables.{Table}
use Rattle.table_rules.specs.Stored.{all_applied}
use Rattle.table_rules.proofs.Equations.{all_applied_behind}
use Rattle.event_codec.specs.Event.{Body, table_map, rows, Map, Rows}
use Rattle.event_codec.specs.Writing.{size}
use Rattle.log_entry_laws.specs.log_entries.declared.entries.Item.{Item}
use Rattle.log_entry_laws.specs.log_model.Groups.{find}
use Rattle.log_entry_laws.specs.log_model.Images.{changes_of}
use Rattle.log_entry_laws.specs.log_model.Items.{tables_of, maps_from, pieces_of, all_rows, changes_item, spelled, text_of, at_time, item_size, IsCarried, changes_by, CanCarryAll}
use Rattle.log_entry_laws.specs.log_model.Spelling.{rows_item, maps_before, bodies_of, FitsOne, EndWell, IsItem}
use Rattle.log_entry_laws.specs.log_model.Written.{Stamped, placed, total}
use Rattle.log_entry_laws.proofs.of_log_model.Carrying.{carried, item_spelled}
use Rattle.apply_model.specs.binlog_sizes.Sizes.{changes_size, most_bytes}
use Rattle.apply_model.specs.Texts.{Progress, Applier}
use Rattle.apply_model.specs.Groups.{and_then, rows_ended, first_place, carry_rows, items_carried}
use Rattle.apply_laws.proofs.Columns.{changed_among, MapsFit, maps_fit}
use Rattle.apply_laws.proofs.Changes.{then_some, Stands, Reaches, changes_carried, changes_of_table}
use Rattle.apply_laws.proofs.Steps.{going, between, ends, placed_at, went, same_bytes, ItemRead}

-- ---- items by their rows

-- an item that is logged by its rows, with those definitions whose tables it changes
abbrev pub IsByRows : (all : List TableDef) → Item → Type 0
IsByRows all i = (i.rows ≡ true) × (i.defs ≡ changed_among all i.changes)

module _ (a : Applier) (all : List TableDef) where
  -- ---- maps

  -- What stands behind the maps of an item, where bodies are still to come: the maps, and the bytes of their events.
  record MapsRead (before new : List Map) (stamp pos : ℕ) (p : Progress) (bytes : ℕ) (bs : List Body) (more : List Stamped) (ms : List Map) : Type 0 where
    place : ℕ
    now : ℕ
    carried : items_carried a (placed pos (at_time stamp (maps_before new bs) ++ more)) (going p bytes before None)
        ≡ items_carried a (placed place (at_time stamp bs ++ more)) (going p now ms None)
    same : now + total (at_time stamp bs) ≡ bytes + total (at_time stamp (maps_before new bs))

  maps_read : (before new : List Map) (stamp pos : ℕ) (p : Progress) (bytes : ℕ) (bs : List Body) (more : List Stamped) (ms : List Map) → before ++ new ≡ ms
      → MapsRead before new stamp pos p bytes bs more ms
  maps_read before [] stamp pos p bytes bs more ms e = record {
    place = pos;
    now = bytes;
    carried = ap (λ (xs : List Map). items_carried a (placed pos (at_time stamp bs ++ more)) (going p bytes xs None)) (sym (append-nil before) ∙ e);
    same = refl;
  }
  maps_read before (m ∷ new) stamp pos p bytes bs more ms e =
      let later = maps_read (before ++ m ∷ []) new stamp (pos + size (table_map m)) p (bytes + size (table_map m)) bs more ms (append_assoc before (m ∷ []) new ∙ e) in
      let rest = later.same in
      record { place = later.place; now = later.now; carried = later.carried; same = omega (arith, rest) }

  -- ---- rows

  module _ (ms : List Map) (fit : MapsFit all ms) where
    abbrev read_by : Rows → List Change
    read_by r = changes_by (find r.id ms) r

    -- one rows event, whose map is there
    record EventRead (r : Rows) (pos : ℕ) (p : Progress) (bytes : ℕ) (begun : Option ℕ) (next : List Table) (o : Option Map) : Type 0 where
      progress : Progress
      carried : carry_rows pos r (going p bytes ms begun) o ≡ rows_ended r.ends (first_place pos begun) (going progress bytes ms begun)
      reaches : Reaches all next (p.changes ++ changes_by o r) progress

    event_by : (r : Rows) (pos : ℕ) (p : Progress) (bytes : ℕ) (begun : Option ℕ) (next : List Table) (o : Option Map) → find r.id ms ≡ o → FitsOne o r → Stands all p
        → all_applied (changes_by o r) p.store.tables ≡ Some next → EventRead r pos p bytes begun next o
    event_by r pos p bytes begun next None e fits stands made = absurd fits
    event_by r pos p bytes begun next (Some m) e fits stands made =
        let them = changes_carried all pos m (changes_of m r) p next stands (changes_of_table m r) (fit r.id m e) made in
        record {
          progress = them.progress;
          carried = ap (and_then (λ (q : Progress). rows_ended r.ends (first_place pos begun) (going q bytes ms begun))) them.carried;
          reaches = them.reaches;
        }

    event_read : (r : Rows) (pos : ℕ) (p : Progress) (bytes : ℕ) (begun : Option ℕ) (next : List Table) → FitsOne (find r.id ms) r → Stands all p
        → all_applied (read_by r) p.store.tables ≡ Some next → EventRead r pos p bytes begun next (find r.id ms)
    event_read r pos p bytes begun next fits stands made = event_by r pos p bytes begun next (find r.id ms) refl fits stands made

    -- What stands behind the rows of an item.
    record RowsRead (rs : List Rows) (stamp pos : ℕ) (p : Progress) (bytes : ℕ) (begun : Option ℕ) (next : List Table) (more : List Stamped) : Type 0 where
      place : ℕ
      progress : Progress
      carried : items_carried a (placed pos (at_time stamp (map rows rs) ++ more)) (going p bytes ms begun)
          ≡ items_carried a (placed place more) (between progress (bytes + total (at_time stamp (map rows rs))))
      reaches : Reaches all next (p.changes ++ flat_map read_by rs) progress

    -- behind the last rows, which end the item
    last_read : (r : Rows) (stamp pos : ℕ) (p : Progress) (bytes : ℕ) (begun : Option ℕ) (next : List Table) (more : List Stamped) → r.ends ≡ true
        → (one : EventRead r pos p (bytes + size (rows r)) begun next (find r.id ms)) → bytes + total (at_time stamp (map rows (r ∷ []))) ≤ most_bytes
        → changes_size (p.changes ++ flat_map read_by (r ∷ [])) ≤ most_bytes → RowsRead (r ∷ []) stamp pos p bytes begun next more
    last_read r stamp pos p bytes begun next more last one low few =
        let changes : p.changes ++ flat_map read_by (r ∷ []) ≡ p.changes ++ read_by r = ap (λ (cs : List Change). p.changes ++ cs) (append-nil (read_by r)) in
        let size_now : changes_size one.progress.changes ≤ most_bytes = subst (λ (cs : List Change). changes_size cs ≤ most_bytes) (changes ∙ sym one.reaches.changes) few in
        let ended = ends (first_place pos begun) (going one.progress (bytes + size (rows r)) ms begun) (omega (arith, low)) size_now in
        let done : carry_rows pos r (going p (bytes + size (rows r)) ms begun) (find r.id ms) ≡ Ok (between one.progress (bytes + size (rows r))) =
        one.carried ∙ ap (λ (b : Bool). rows_ended b (first_place pos begun) (going one.progress (bytes + size (rows r)) ms begun)) last ∙ ended in
        record {
          place = pos + size (rows r);
          progress = one.progress;
          carried = went a (placed_at pos stamp (rows r)) (placed (pos + size (rows r)) more) (going p bytes ms begun) (between one.progress (bytes + size (rows r))) done
              ∙ same_bytes a (pos + size (rows r)) more one.progress (bytes + size (rows r)) (bytes + total (at_time stamp (map rows (r ∷ [])))) (omega arith);
          reaches = record { tables = one.reaches.tables; changes = one.reaches.changes ∙ sym changes; stands = one.reaches.stands };
        }

    -- behind rows that others follow
    more_read : (r s : Rows) (rs : List Rows) (stamp pos : ℕ) (p : Progress) (bytes : ℕ) (begun : Option ℕ) (mid next : List Table) (more : List Stamped) → r.ends ≡ false
        → (one : EventRead r pos p (bytes + size (rows r)) begun mid (find r.id ms))
        → RowsRead (s ∷ rs) stamp (pos + size (rows r)) one.progress (bytes + size (rows r)) (Some (first_place pos begun)) next more
        → RowsRead (r ∷ s ∷ rs) stamp pos p bytes begun next more
    more_read r s rs stamp pos p bytes begun mid next more last one later =
        let rest : List Change = flat_map read_by (s ∷ rs) in
        let done : carry_rows pos r (going p (bytes + size (rows r)) ms begun) (find r.id ms) ≡ Ok (going one.progress (bytes + size (rows r)) ms (Some (first_place pos begun))) =
        one.carried ∙ ap (λ (b : Bool). rows_ended b (first_place pos begun) (going one.progress (bytes + size (rows r)) ms begun)) last in
        record {
          place = later.place;
          progress = later.progress;
          carried = went a (placed_at pos stamp (rows r)) (placed (pos + size (rows r)) (at_time stamp (map rows (s ∷ rs)) ++ more)) (going p bytes ms begun)
              (going one.progress (bytes + size (rows r)) ms (Some (first_place pos begun))) done
              ∙ later.carried
              ∙ same_bytes a later.place more later.progress (bytes + size (rows r) + total (at_time stamp (map rows (s ∷ rs)))) (bytes + total (at_time stamp (map rows (r ∷ s ∷ rs)))) (omega arith);
          reaches = record {
            tables = later.reaches.tables;
            changes = later.reaches.changes ∙ ap (λ (cs : List Change). cs ++ rest) one.reaches.changes ∙ append_assoc p.changes (read_by r) rest;
            stands = later.reaches.stands;
          };
        }

    rows_read : (rs : List Rows) (stamp pos : ℕ) (p : Progress) (bytes : ℕ) (begun : Option ℕ) (next : List Table) (more : List Stamped) → EndWell ms rs → Stands all p
        → all_applied (flat_map read_by rs) p.store.tables ≡ Some next → bytes + total (at_time stamp (map rows rs)) ≤ most_bytes
        → changes_size (p.changes ++ flat_map read_by rs) ≤ most_bytes → RowsRead rs stamp pos p bytes begun next more
    rows_read [] stamp pos p bytes begun next more well stands made low few = absurd well
    rows_read (r ∷ []) stamp pos p bytes begun next more well stands made low few =
        let here : all_applied (read_by r) p.store.tables ≡ Some next = ap (λ (cs : List Change). all_applied cs p.store.tables) (sym (append-nil (read_by r))) ∙ made in
        last_read r stamp pos p bytes begun next more well.1 (event_read r pos p (bytes + size (rows r)) begun next well.0 stands here) low few
    rows_read (r ∷ s ∷ rs) stamp pos p bytes begun next more well stands made low few =
        let rest : List Change = flat_map read_by (s ∷ rs) in
        let mid = then_some (all_applied rest) (all_applied (read_by r) p.store.tables) next (sym (all_applied_behind (read_by r) rest p.store.tables) ∙ made) in
        let one = event_read r pos p (bytes + size (rows r)) begun mid.0 well.0 stands mid.1 in
        let changes : p.changes ++ (read_by r ++ rest) ≡ one.progress.changes ++ rest = sym (append_assoc p.changes (read_by r) rest) ∙ ap (λ (cs : List Change). cs ++ rest) (sym one.reaches.changes) in
        more_read r s rs stamp pos p bytes begun mid.0 next more well.1 one
        (rows_read (s ∷ rs) stamp (pos + size (rows r)) one.progress (bytes + size (rows r)) (Some (first_place pos begun)) next more well.2 one.reaches.stands
        (ap (all_applied rest) one.reaches.tables ∙ mid.2) (omega (arith, low)) (subst (λ (cs : List Change). changes_size cs ≤ most_bytes) changes few))

  -- ---- one item

  ends_well : (ms : List Map) (rs : List Rows) → IsItem (rows_item ms rs) → EndWell ms rs
  ends_well [] rs is = absurd is
  ends_well (m ∷ ms) rs is = is.1

  rows_item_read : (ms : List Map) (rs : List Rows) (cs : List Change) (stamp pos : ℕ) (p : Progress) (bytes : ℕ) (next : List Table) (more : List Stamped)
      → MapsFit all ms → IsItem (rows_item ms rs) → flat_map (λ r. changes_by (find r.id ms) r) rs ≡ cs → Stands all p → all_applied cs p.store.tables ≡ Some next
      → bytes + total (at_time stamp (maps_before ms (map rows rs))) ≤ most_bytes → changes_size (p.changes ++ cs) ≤ most_bytes
      → ItemRead a all stamp pos (maps_before ms (map rows rs)) cs p bytes next more
  rows_item_read ms rs cs stamp pos p bytes next more fit is read stands made low few =
      let maps = maps_read [] ms stamp pos p bytes (map rows rs) more ms refl in
      let sum = maps.same in
      let them = rows_read ms fit rs stamp maps.place p maps.now None next more (ends_well ms rs is) stands (ap (λ (xs : List Change). all_applied xs p.store.tables) read ∙ made)
      (omega (arith, sum, low)) (subst (λ (xs : List Change). changes_size (p.changes ++ xs) ≤ most_bytes) (sym read) few) in
      record {
        place = them.place;
        progress = them.progress;
        carried = maps.carried ∙ them.carried ∙ ap (λ (n : ℕ). items_carried a (placed them.place more) (between them.progress n)) sum;
        reaches = record { tables = them.reaches.tables; changes = them.reaches.changes ∙ ap (λ (xs : List Change). p.changes ++ xs) read; stands = them.reaches.stands };
      }

  bodies_are : (i : Item) → i.rows ≡ true → bodies_of (spelled i) ≡ bodies_of (changes_item i.defs i.changes)
  bodies_are i e = ap (λ (b : Bool). bodies_of (cond b (changes_item i.defs i.changes) (text_of i.text i.carried))) e

  maps_fit_in : (defs : List TableDef) (cs : List Change) → defs ≡ changed_among all cs → CanCarryAll defs cs → MapsFit all (maps_from 1 defs (tables_of cs))
  maps_fit_in defs cs e can =
      subst (λ (ds : List TableDef). MapsFit all (maps_from 1 ds (tables_of cs))) (sym e) (maps_fit all cs (subst (λ (ds : List TableDef). CanCarryAll ds cs) e can))

  pub item_read : (i : Item) (pos : ℕ) (p : Progress) (bytes : ℕ) (next : List Table) (more : List Stamped) → IsByRows all i → IsCarried i.rows i → Stands all p
      → all_applied i.changes p.store.tables ≡ Some next → bytes + item_size i ≤ most_bytes → changes_size (p.changes ++ i.changes) ≤ most_bytes
      → ItemRead a all i.carried.stamp pos (bodies_of (spelled i)) i.changes p bytes next more
  item_read i pos p bytes next more by-rows is stands made low few =
      let stamp : ℕ = i.carried.stamp in
      let can : IsCarried true i = subst (λ (b : Bool). IsCarried b i) by-rows.0 is in
      let item : IsItem (changes_item i.defs i.changes) = subst (λ (b : Bool). IsItem (cond b (changes_item i.defs i.changes) (text_of i.text i.carried))) by-rows.0 (item_spelled i is) in
      let bodies = bodies_are i by-rows.0 in
      let small : bytes + total (at_time stamp (bodies_of (changes_item i.defs i.changes))) ≤ most_bytes =
      subst (λ (bs : List Body). bytes + total (at_time stamp bs) ≤ most_bytes) bodies low in
      subst (λ (bs : List Body). ItemRead a all stamp pos bs i.changes p bytes next more) (sym bodies)
      (rows_item_read (maps_from 1 i.defs (tables_of i.changes)) (all_rows i.defs (tables_of i.changes) (pieces_of i.defs i.changes)) i.changes stamp pos p bytes next more
      (maps_fit_in i.defs i.changes by-rows.1 can.1) item (carried i.defs i.changes can.0 can.1) stands made small few)
