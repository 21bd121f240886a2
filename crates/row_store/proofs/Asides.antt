-- What was set aside of all shelves, put back and forgotten.
use Rattle.std.proofs.Common.{◌≡◌, ℕ, suc, ◌+◌, ◌<◌, ◌≤◌, List, [], ◌∷◌, ◌++◌, map, length, get_or, true, refl, sym, ap, subst, ◌∙◌, arith}
use Rattle.std.specs.Prelude.{slice_set}
use Rattle.std.proofs.lemmas.List.{length-append}
use Rattle.val_types.specs.declared.value.Value.{Value}
use Rattle.val_types.specs.declared.definitions.TableDef.{TableDef}
use Rattle.table_rules.specs.Tables.{Table}
use Rattle.table_rules.specs.Stores.{Store, names_differ, AreNoLess}
use Rattle.table_sheet.specs.row_sheets.Slots.{Slot, keys_in, rows_in, row_slots}
use Rattle.table_sheet.specs.row_sheets.Over.{over}
use Rattle.table_sheet.specs.declared.overlay.Overlay.{Overlay}
use Rattle.table_sheet.specs.Pages.{Page, Holds, rows_on}
use Rattle.table_sheet.specs.Indexed.{Fits}
use Rattle.table_sheet.specs.Parts.{entry_slots}
use Rattle.row_store.specs.declared.shelf.Shelf.{Shelf}
use Rattle.row_store.specs.declared.setting_aside.Aside.{Aside}
use Rattle.row_store.specs.Shelves.{table_on, tables_on, definitions_on, keys_on, committed_on, room_on, store_of}
use Rattle.row_store.specs.Asides.{page_under, table_over, AreFitting, tables_over, keys_over, FitsIn, with_aside, just_committed, IsAside, AsidesReturn}
use Rattle.row_store.proofs.Setting.{Upto, GoesOn, upto_step, upto_length, upto_next, upto_map, map_set}
use Rattle.row_store.proofs.Walking.{twice}

-- ---- nothing shown but the rows that are there to stay

abbrev pub IsBare : Shelf → Shelf → Type 0
IsBare old new = new.sheet ≡ record old.sheet { entries = [] }

pub bare_store : (before : Store) (k : ℕ) (now : List Shelf) → length now ≤ k → GoesOn IsBare before k now → store_of now ≡ just_committed before
unfolding store_of
bare_store before k now past h =
    let long : length now ≡ length h.olds = upto_length IsBare k h.olds now h.set in
    let all : length h.olds ≤ k = omega arith in
    let tables : tables_on now ≡ map committed_on h.olds = upto_map IsBare table_on committed_on (λ old new e. ap (λ (p : Page). record { definition = p.definition; rows = rows_on p }) e) k h.olds now all h.set in
    let none : map keys_on now ≡ map (λ (s : Shelf). []) h.olds = upto_map IsBare keys_on (λ s. []) (λ old new e. ap (λ (p : Page). keys_in p.entries) e) k h.olds now all h.set in
    let kept : map keys_on now ≡ map (λ (t : Table). []) (map committed_on h.olds) = none ∙ sym (twice committed_on (λ (t : Table). []) h.olds) in
    let committed : map committed_on now ≡ map committed_on h.olds = upto_map IsBare committed_on committed_on (λ old new e. ap (λ (p : Page). record { definition = p.definition; rows = rows_in p.committed }) e) k h.olds now all h.set in
    let room : map room_on now ≡ map room_on h.olds = upto_map IsBare room_on room_on (λ old new e. ap (λ (p : Page). p.room) e) k h.olds now all h.set in
    (λ i. record { tables = tables i; kept = kept i; committed = committed i; room = room i }) ∙ ap just_committed h.is

pub bare_names : (before : Store) (k : ℕ) (now : List Shelf) → length now ≤ k → GoesOn IsBare before k now → names_differ (definitions_on now) ≡ true
bare_names before k now past h =
    let long : length now ≡ length h.olds = upto_length IsBare k h.olds now h.set in
    ap names_differ (upto_map IsBare (λ (s : Shelf). s.sheet.definition) (λ (s : Shelf). s.sheet.definition) (λ old new e. ap (λ (p : Page). p.definition) e) k h.olds now (omega arith) h.set) ∙ h.names

-- ---- set aside

-- what was taken out of a sheet
abbrev pub IsTaken : Overlay → Shelf → Type 0
IsTaken overlay s = (entry_slots s.sheet.definition overlay ≡ s.sheet.entries) × Fits overlay s.sheet

-- what was taken out of the first shelves
abbrev pub AreTaken : List Overlay → List Shelf → Type 0
AreTaken [] ss = Unit {0}
AreTaken (o ∷ os) [] = ⊥
AreTaken (o ∷ os) (s ∷ ss) = IsTaken o s × AreTaken os ss

pub taken_step : (os : List Overlay) (ss : List Shelf) (d : Shelf) (o : Overlay) → length os < length ss → d ≡ get_or ss (length os) d → IsTaken o d → AreTaken os ss → AreTaken (os ++ o ∷ []) ss
taken_step [] [] d o within e taken all = absurd (omega arith)
taken_step [] (s ∷ ss) d o within e taken all = (subst (λ (t : Shelf). IsTaken o t) e taken, tt)
taken_step (p ∷ os) [] d o within e taken all = absurd all
taken_step (p ∷ os) (s ∷ ss) d o within e taken all = (all.0, taken_step os ss d o (omega arith) e taken all.1)

fits_under : (o : Overlay) (s : Shelf) → Fits o s.sheet → Fits o (page_under (committed_on s) (room_on s))
fits_under o s fits = record {
  holds = subst (λ (cs : List Slot). Holds s.sheet.definition cs (entry_slots s.sheet.definition o) s.sheet.room o.fresh) s.rows.own fits.holds;
  above = fits.above;
}

-- the table that is shown with entries over the rows that are there to stay
over_is : (o : Overlay) (s : Shelf) → table_over (entry_slots s.sheet.definition o) (committed_on s) ≡ record { definition = s.sheet.definition; rows = rows_in (over (entry_slots s.sheet.definition o) s.sheet.committed) }
over_is o s = ap (λ (cs : List Slot). record { definition = s.sheet.definition; rows = rows_in (over (entry_slots s.sheet.definition o) cs) }) (sym s.rows.own)

taken_table : (o : Overlay) (s : Shelf) → IsTaken o s → table_over (entry_slots s.sheet.definition o) (committed_on s) ≡ table_on s
taken_table o s taken = over_is o s ∙ ap (λ (es : List Slot). record { definition = s.sheet.definition; rows = rows_in (over es s.sheet.committed) }) taken.0

taken_fit : (os : List Overlay) (ss : List Shelf) → length os ≡ length ss → AreTaken os ss → AreFitting os (map committed_on ss) (map room_on ss)
taken_fit [] [] long all = tt
taken_fit [] (s ∷ ss) long all = absurd (omega arith)
taken_fit (o ∷ os) [] long all = absurd all
taken_fit (o ∷ os) (s ∷ ss) long all = (fits_under o s all.0.1, taken_fit os ss (omega arith) all.1)

taken_tables : (os : List Overlay) (ss : List Shelf) → length os ≡ length ss → AreTaken os ss → tables_over os (map committed_on ss) ≡ tables_on ss
taken_tables [] [] long all = refl
taken_tables [] (s ∷ ss) long all = absurd (omega arith)
taken_tables (o ∷ os) [] long all = absurd all
taken_tables (o ∷ os) (s ∷ ss) long all =
    ap (λ (t : Table). t ∷ tables_over os (map committed_on ss)) (taken_table o s all.0) ∙ ap (λ (ts : List Table). table_on s ∷ ts) (taken_tables os ss (omega arith) all.1)

taken_keys : (os : List Overlay) (ss : List Shelf) → length os ≡ length ss → AreTaken os ss → keys_over os (map committed_on ss) ≡ map keys_on ss
taken_keys [] [] long all = refl
taken_keys [] (s ∷ ss) long all = absurd (omega arith)
taken_keys (o ∷ os) [] long all = absurd all
taken_keys (o ∷ os) (s ∷ ss) long all =
    ap (λ (es : List Slot). keys_in es ∷ keys_over os (map committed_on ss)) all.0.0 ∙ ap (λ (ks : List (List (List Value))). keys_on s ∷ ks) (taken_keys os ss (omega arith) all.1)

pub is_aside : (aside : Aside) (ss : List Shelf) → length aside.overlays.items ≡ length ss → AreTaken aside.overlays.items ss → IsAside aside (store_of ss)
unfolding FitsIn with_aside store_of
is_aside aside ss long all =
    let tables : tables_over aside.overlays.items (map committed_on ss) ≡ tables_on ss = taken_tables aside.overlays.items ss long all in
    let kept : keys_over aside.overlays.items (map committed_on ss) ≡ map keys_on ss = taken_keys aside.overlays.items ss long all in
    record {
      fits = taken_fit aside.overlays.items ss long all;
      is = λ i. record { tables = tables i; kept = kept i; committed = map committed_on ss; room = map room_on ss };
    }

-- what holds while all is set aside
pub record Takes (before : Store) (overlays : List Overlay) (now : List Shelf) : Type 0 where
  pub olds : List Shelf
  pub is : store_of olds ≡ before
  pub names : names_differ (definitions_on olds) ≡ true
  pub set : Upto IsBare (length overlays) olds now
  pub taken : AreTaken overlays olds

pub takes_first : (ss : List Shelf) (before : Store) → store_of ss ≡ before → names_differ (definitions_on ss) ≡ true → Takes before [] ss
takes_first ss before is names = record { olds = ss; is = is; names = names; set = refl; taken = tt }

pub takes_on : (before : Store) (os : List Overlay) (o : Overlay) (now : List Shelf) (d new : Shelf) → d ≡ get_or now (length os) d → length os < length now → IsTaken o d → IsBare d new → Takes before os now
    → Takes before (os ++ o ∷ []) (slice_set now (length os) new)
takes_on before os o now d new e within taken bare h =
    let long : length now ≡ length h.olds = upto_length IsBare (length os) h.olds now h.set in
    let more : length (os ++ o ∷ []) ≡ length os + 1 = length-append os (o ∷ []) in
    let next : suc (length os) ≡ length (os ++ o ∷ []) = omega arith in
    record {
      olds = h.olds;
      is = h.is;
      names = h.names;
      set = subst (λ (n : ℕ). Upto IsBare n h.olds (slice_set now (length os) new)) next (upto_step IsBare (length os) h.olds now d new e within bare h.set);
      taken = taken_step os h.olds d o (omega arith) (upto_next IsBare (length os) h.olds now d h.set e) taken h.taken;
    }

-- the same at a place that is told
pub takes_at : (before : Store) (os : List Overlay) (o : Overlay) (now : List Shelf) (d new : Shelf) (at : ℕ) → length os ≡ at → d ≡ get_or now at d → at < length now → IsTaken o d → IsBare d new → Takes before os now
    → Takes before (os ++ o ∷ []) (slice_set now at new)
takes_at before os o now d new at long e within taken bare h =
    subst (λ (n : ℕ). Takes before (os ++ o ∷ []) (slice_set now n new)) long
    (takes_on before os o now d new (e ∙ ap (λ (n : ℕ). get_or now n d) (sym long)) (omega arith) taken bare h)

-- where all is
pub takes_bare : (before : Store) (overlays : List Overlay) (now : List Shelf) → Takes before overlays now → GoesOn IsBare before (length overlays) now
takes_bare before overlays now h = record { olds = h.olds; is = h.is; names = h.names; set = h.set }

pub takes_all : (before : Store) (aside : Aside) (now : List Shelf) → length now ≡ length aside.overlays.items → Takes before aside.overlays.items now → IsAside aside before
takes_all before aside now all h =
    let long : length now ≡ length h.olds = upto_length IsBare (length aside.overlays.items) h.olds now h.set in
    subst (λ (store : Store). IsAside aside store) h.is (is_aside aside h.olds (omega arith) h.taken)

-- ---- put back, the last one first

-- what is still to be put back fits the first shelves
abbrev pub AreFit : List Overlay → List Shelf → Type 0
AreFit [] ss = Unit {0}
AreFit (o ∷ os) [] = ⊥
AreFit (o ∷ os) (s ∷ ss) = Fits o s.sheet × AreFit os ss

-- what is seen of shelves once that is put back
abbrev pub seen_with : {Y : Type 0} → (Overlay → Shelf → Y) → (Shelf → Y) → List Overlay → List Shelf → List Y
seen_with f g [] ss = map g ss
seen_with f g (o ∷ os) [] = []
seen_with f g (o ∷ os) (s ∷ ss) = f o s ∷ seen_with f g os ss

abbrev pub table_with : Overlay → Shelf → Table
table_with o s = table_over (entry_slots s.sheet.definition o) (committed_on s)

abbrev pub keys_with : Overlay → Shelf → List (List Value)
keys_with o s = keys_in (entry_slots s.sheet.definition o)

-- the last one is put back
abbrev pub IsBack : Overlay → Shelf → Shelf → Type 0
IsBack o old new = new.sheet ≡ record old.sheet { entries = entry_slots old.sheet.definition o }

pub back_table : (o : Overlay) (old new : Shelf) → IsBack o old new → table_on new ≡ table_with o old
back_table o old new e = ap (λ (p : Page). record { definition = p.definition; rows = rows_on p }) e ∙ sym (over_is o old)

pub back_keys : (o : Overlay) (old new : Shelf) → IsBack o old new → keys_on new ≡ keys_with o old
back_keys o old new e = ap (λ (p : Page). keys_in p.entries) e

pub back_committed : (o : Overlay) (old new : Shelf) → IsBack o old new → committed_on new ≡ committed_on old
back_committed o old new e = ap (λ (p : Page). record { definition = p.definition; rows = rows_in p.committed }) e

pub fit_within : (os : List Overlay) (o : Overlay) (ss : List Shelf) → AreFit (os ++ o ∷ []) ss → length os < length ss
fit_within [] o [] all = absurd all
fit_within [] o (s ∷ ss) all = omega arith
fit_within (p ∷ os) o [] all = absurd all
fit_within (p ∷ os) o (s ∷ ss) all = let rest : length os < length ss = fit_within os o ss all.1 in omega arith

pub fit_last : (os : List Overlay) (o : Overlay) (ss : List Shelf) (d : Shelf) → d ≡ get_or ss (length os) d → AreFit (os ++ o ∷ []) ss → Fits o d.sheet
fit_last [] o [] d e all = absurd all
fit_last [] o (s ∷ ss) d e all = subst (λ (t : Shelf). Fits o t.sheet) (sym e) all.0
fit_last (p ∷ os) o [] d e all = absurd all
fit_last (p ∷ os) o (s ∷ ss) d e all = fit_last os o ss d e all.1

pub fit_rest : (os : List Overlay) (o : Overlay) (ss : List Shelf) (new : Shelf) → AreFit (os ++ o ∷ []) ss → AreFit os (slice_set ss (length os) new)
fit_rest [] o ss new all = tt
fit_rest (p ∷ os) o [] new all = absurd all
fit_rest (p ∷ os) o (s ∷ ss) new all = (all.0, fit_rest os o ss new all.1)

pub seen_step : {Y : Type 0} (f : Overlay → Shelf → Y) (g : Shelf → Y) (os : List Overlay) (o : Overlay) (ss : List Shelf) (d new : Shelf) → d ≡ get_or ss (length os) d → g new ≡ f o d → AreFit (os ++ o ∷ []) ss
    → seen_with f g os (slice_set ss (length os) new) ≡ seen_with f g (os ++ o ∷ []) ss
seen_step f g [] o [] d new e same all = absurd all
seen_step {Y = Y} f g [] o (s ∷ ss) d new e same all = ap (λ (y : Y). y ∷ map g ss) (same ∙ ap (f o) e)
seen_step f g (p ∷ os) o [] d new e same all = absurd all
seen_step {Y = Y} f g (p ∷ os) o (s ∷ ss) d new e same all = ap (λ (ys : List Y). f p s ∷ ys) (seen_step f g os o ss d new e same all.1)

-- before the first one is put back
pub fit_first : (os : List Overlay) (ss : List Shelf) → AreFitting os (map committed_on ss) (map room_on ss) → AreFit os ss
fit_first [] ss all = tt
fit_first (o ∷ os) [] all = absurd all
fit_first (o ∷ os) (s ∷ ss) all =
    (record { holds = subst (λ (cs : List Slot). Holds s.sheet.definition cs (entry_slots s.sheet.definition o) s.sheet.room o.fresh) (sym s.rows.own) all.0.holds; above = all.0.above }, fit_first os ss all.1)

pub tables_first : (os : List Overlay) (ss : List Shelf) → AreFitting os (map committed_on ss) (map room_on ss) → seen_with table_with table_on os ss ≡ tables_over os (map committed_on ss)
tables_first [] [] all = refl
tables_first [] (s ∷ ss) all = absurd all
tables_first (o ∷ os) [] all = absurd all
tables_first (o ∷ os) (s ∷ ss) all = ap (λ (ts : List Table). table_with o s ∷ ts) (tables_first os ss all.1)

pub keys_first : (os : List Overlay) (ss : List Shelf) → AreFitting os (map committed_on ss) (map room_on ss) → seen_with keys_with keys_on os ss ≡ keys_over os (map committed_on ss)
keys_first [] [] all = refl
keys_first [] (s ∷ ss) all = absurd all
keys_first (o ∷ os) [] all = absurd all
keys_first (o ∷ os) (s ∷ ss) all = ap (λ (ks : List (List (List Value))). keys_with o s ∷ ks) (keys_first os ss all.1)

-- what holds while what was set aside is put back
pub record PutsBack (os : List Overlay) (now : List Shelf) (aside : Aside) (before : Store) : Type 0 where
  pub fit : AreFit os now
  pub tables : seen_with table_with table_on os now ≡ (with_aside aside before).tables
  pub keys : seen_with keys_with keys_on os now ≡ (with_aside aside before).kept
  pub committed : map committed_on now ≡ before.committed
  pub room : map room_on now ≡ before.room
  pub names : names_differ (definitions_on now) ≡ true

pub puts_first : (aside : Aside) (ss : List Shelf) → FitsIn aside (store_of ss) → names_differ (definitions_on ss) ≡ true → PutsBack aside.overlays.items ss aside (store_of ss)
unfolding FitsIn with_aside store_of
puts_first aside ss fits differ = record {
  fit = fit_first aside.overlays.items ss fits;
  tables = tables_first aside.overlays.items ss fits;
  keys = keys_first aside.overlays.items ss fits;
  committed = refl;
  room = refl;
  names = differ;
}

pub puts_on : (os : List Overlay) (o : Overlay) (now : List Shelf) (aside : Aside) (before : Store) (d new : Shelf) → d ≡ get_or now (length os) d → IsBack o d new
    → PutsBack (os ++ o ∷ []) now aside before → PutsBack os (slice_set now (length os) new) aside before
puts_on os o now aside before d new e back h = record {
  fit = fit_rest os o now new h.fit;
  tables = seen_step table_with table_on os o now d new e (back_table o d new back) h.fit ∙ h.tables;
  keys = seen_step keys_with keys_on os o now d new e (back_keys o d new back) h.fit ∙ h.keys;
  committed = map_set committed_on now (length os) new d e (back_committed o d new back) ∙ h.committed;
  room = map_set room_on now (length os) new d e (ap (λ (p : Page). p.room) back) ∙ h.room;
  names = ap names_differ (map_set (λ (s : Shelf). s.sheet.definition) now (length os) new d e (ap (λ (p : Page). p.definition) back)) ∙ h.names;
}

-- the same at a place that is told
pub puts_at : (os : List Overlay) (o : Overlay) (now : List Shelf) (aside : Aside) (before : Store) (d new : Shelf) (at : ℕ) → length os ≡ at → d ≡ get_or now at d → IsBack o d new
    → PutsBack (os ++ o ∷ []) now aside before → PutsBack os (slice_set now at new) aside before
puts_at os o now aside before d new at long e back h =
    subst (λ (n : ℕ). PutsBack os (slice_set now n new) aside before) long (puts_on os o now aside before d new (e ∙ ap (λ (n : ℕ). get_or now n d) (sym long)) back h)

pub none_left : (os : List Overlay) → length os ≡ 0 → os ≡ []
none_left [] none = refl
none_left (o ∷ os) none = absurd (omega arith)

pub gone_back : (now : List Shelf) (aside : Aside) (before : Store) → PutsBack [] now aside before → store_of now ≡ with_aside aside before
unfolding with_aside store_of
gone_back now aside before h =
    let tables : tables_on now ≡ tables_over aside.overlays.items before.committed = h.tables in
    let kept : map keys_on now ≡ keys_over aside.overlays.items before.committed = h.keys in
    let committed : map committed_on now ≡ before.committed = h.committed in
    let room : map room_on now ≡ before.room = h.room in
    λ i. record { tables = tables i; kept = kept i; committed = committed i; room = room i }

-- ---- where the same rows are there to stay, and no table has less room

holds_more : (d : TableDef) (committed entries : List Slot) (space more fresh : ℕ) → space ≤ more → Holds d committed entries space fresh → Holds d committed entries more fresh
holds_more d committed entries space more fresh less h =
    let enough : fresh ≤ space = h.enough in
    record { whole = h.whole; rising = h.rising; own = h.own; sound = h.sound; counted = h.counted; enough = omega arith; few = h.few }

fitting_more : (os : List Overlay) (ts : List Table) (less more : List ℕ) → AreNoLess less more → AreFitting os ts less → AreFitting os ts more
fitting_more [] [] less more none all = tt
fitting_more [] (t ∷ ts) less more none all = absurd all
fitting_more (o ∷ os) [] less more none all = absurd all
fitting_more (o ∷ os) (t ∷ ts) [] more none all = absurd all
fitting_more (o ∷ os) (t ∷ ts) (a ∷ less) [] none all = absurd none
fitting_more (o ∷ os) (t ∷ ts) (a ∷ less) (b ∷ more) none all =
    (record { holds = holds_more t.definition (row_slots t.definition t.rows) (entry_slots t.definition o) a b o.fresh none.0 all.0.holds; above = all.0.above }, fitting_more os ts less more none.1 all.1)

pub asides_return_so : AsidesReturn
unfolding FitsIn with_aside
asides_return_so aside before now is still = (
  subst (λ (ts : List Table). AreFitting aside.overlays.items ts now.room) (sym still.committed) (fitting_more aside.overlays.items before.committed before.room now.room still.room is.fits),
  (λ i. record now { tables = tables_over aside.overlays.items (still.committed i); kept = keys_over aside.overlays.items (still.committed i); committed = still.committed i })
      ∙ (λ i. record { tables = (is.is i).tables; kept = (is.is i).kept; committed = before.committed; room = now.room }),
)
