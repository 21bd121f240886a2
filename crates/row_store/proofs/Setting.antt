-- Shelves set one after the other, and what is stored then; the rows that are there to stay where one shelf is set.
use Rattle.std.proofs.Common.{◌≡◌, ℕ, zero, suc, true, ◌+◌, ◌<◌, ◌≤◌, List, [], ◌∷◌, map, length, get_or, refl, ap, subst, ◌∙◌, arith}
use Rattle.std.specs.Prelude.{slice_set}
use Rattle.val_types.specs.declared.definitions.TableDef.{TableDef}
use Rattle.table_rules.specs.Stores.{Store, names_differ, AreNoLess, Still}
use Rattle.table_rules.proofs.Leading.{no_less}
use Rattle.table_sheet.specs.row_sheets.Slots.{Slot, rows_in}
use Rattle.table_sheet.specs.Pages.{Stays}
use Rattle.row_store.specs.declared.shelf.Shelf.{Shelf}
use Rattle.row_store.specs.Shelves.{definitions_on, committed_on, room_on, store_of}

-- ---- one shelf set

map_step : {Y : Type 0} (f : Shelf → Y) (k : ℕ) (s new d : Shelf) (ss : List Shelf) → d ≡ get_or (s ∷ ss) k d → f new ≡ f d → ((j : ℕ) → d ≡ get_or ss j d → map f (slice_set ss j new) ≡ map f ss)
    → map f (slice_set (s ∷ ss) k new) ≡ map f (s ∷ ss)
map_step {Y = Y} f zero s new d ss e same later = ap (λ (y : Y). y ∷ map f ss) (same ∙ ap f e)
map_step {Y = Y} f (suc k) s new d ss e same later = ap (λ (ys : List Y). f s ∷ ys) (later k e)

-- what is seen of shelves stays where it stays of one that is set
pub map_set : {Y : Type 0} (f : Shelf → Y) (ss : List Shelf) (k : ℕ) (new d : Shelf) → d ≡ get_or ss k d → f new ≡ f d → map f (slice_set ss k new) ≡ map f ss
map_set f [] k new d e same = refl
map_set f (s ∷ ss) k new d e same = map_step f k s new d ss e same (λ j g. map_set f ss j new d g same)

room_step : (k : ℕ) (s new d : Shelf) (ss : List Shelf) → d ≡ get_or (s ∷ ss) k d → d.sheet.room ≤ new.sheet.room → ((j : ℕ) → d ≡ get_or ss j d → AreNoLess (map room_on ss) (map room_on (slice_set ss j new)))
    → AreNoLess (map room_on (s ∷ ss)) (map room_on (slice_set (s ∷ ss) k new))
room_step zero s new d ss e more later = (subst (λ (t : Shelf). t.sheet.room ≤ new.sheet.room) e more, no_less (map room_on ss))
room_step (suc k) s new d ss e more later = (omega arith, later k e)

room_set : (ss : List Shelf) (k : ℕ) (new d : Shelf) → d ≡ get_or ss k d → d.sheet.room ≤ new.sheet.room → AreNoLess (map room_on ss) (map room_on (slice_set ss k new))
room_set [] k new d e more = tt
room_set (s ∷ ss) k new d e more = room_step k s new d ss e more (λ j g. room_set ss j new d g more)

pub committed_same : (old new : Shelf) → new.sheet.definition ≡ old.sheet.definition → new.sheet.committed ≡ old.sheet.committed → committed_on new ≡ committed_on old
committed_same old new same committed =
    ap (λ (d : TableDef). record { definition = d; rows = rows_in new.sheet.committed }) same
    ∙ ap (λ (cs : List Slot). record { definition = old.sheet.definition; rows = rows_in cs }) committed

-- what stays on one sheet stays of all that is stored
pub still_set : (ss : List Shelf) (at : ℕ) (s new : Shelf) → s ≡ get_or ss at s → Stays s.sheet new.sheet → Still (store_of ss) (store_of (slice_set ss at new))
unfolding store_of
still_set ss at s new is stays = record {
  committed = map_set committed_on ss at new s is (committed_same s new stays.definition stays.committed);
  room = room_set ss at new s is stays.room;
}

-- ---- each shelf set, the first one first

-- the first so many shelves are as a relation has them, the others as they were
abbrev pub Upto : (Shelf → Shelf → Type 0) → ℕ → List Shelf → List Shelf → Type 0
Upto R zero olds news = news ≡ olds
Upto R (suc k) [] news = news ≡ []
Upto R (suc k) (old ∷ olds) [] = ⊥
Upto R (suc k) (old ∷ olds) (new ∷ news) = R old new × Upto R k olds news

pub upto_step : (R : Shelf → Shelf → Type 0) (k : ℕ) (olds news : List Shelf) (d new : Shelf) → d ≡ get_or news k d → k < length news → R d new → Upto R k olds news → Upto R (suc k) olds (slice_set news k new)
upto_step R zero olds [] d new e within r u = absurd (omega arith)
upto_step R zero [] (n ∷ news) d new e within r u = cc
upto_step R zero (o ∷ olds) (n ∷ news) d new e within r u =
    let first : n ≡ o = cc in
    let rest : news ≡ olds = cc in
    (subst (λ (t : Shelf). R t new) (e ∙ first) r, rest)
upto_step R (suc k) [] news d new e within r u = let none : length news ≡ 0 = ap length u in absurd (omega arith)
upto_step R (suc k) (o ∷ olds) [] d new e within r u = absurd u
upto_step R (suc k) (o ∷ olds) (n ∷ news) d new e within r u = (u.0, upto_step R k olds news d new e (omega arith) r u.1)

pub upto_length : (R : Shelf → Shelf → Type 0) (k : ℕ) (olds news : List Shelf) → Upto R k olds news → length news ≡ length olds
upto_length R zero olds news u = ap length u
upto_length R (suc k) [] news u = ap length u
upto_length R (suc k) (o ∷ olds) [] u = absurd u
upto_length R (suc k) (o ∷ olds) (n ∷ news) u = let rest : length news ≡ length olds = upto_length R k olds news u.1 in omega arith

-- the shelf that comes next is as it was
pub upto_next : (R : Shelf → Shelf → Type 0) (k : ℕ) (olds news : List Shelf) (d : Shelf) → Upto R k olds news → d ≡ get_or news k d → d ≡ get_or olds k d
upto_next R zero olds news d u e = e ∙ ap (λ (ss : List Shelf). get_or ss zero d) u
upto_next R (suc k) [] news d u e = refl
upto_next R (suc k) (o ∷ olds) [] d u e = absurd u
upto_next R (suc k) (o ∷ olds) (n ∷ news) d u e = upto_next R k olds news d u.1 e

-- what is seen of all shelves, where all are set
pub upto_map : {Y : Type 0} (R : Shelf → Shelf → Type 0) (f g : Shelf → Y) → ((old new : Shelf) → R old new → f new ≡ g old)
    → (k : ℕ) (olds news : List Shelf) → length olds ≤ k → Upto R k olds news → map f news ≡ map g olds
upto_map R f g same zero [] news past u = ap (map f) u
upto_map R f g same zero (o ∷ olds) news past u = absurd (omega arith)
upto_map R f g same (suc k) [] news past u = ap (map f) u
upto_map R f g same (suc k) (o ∷ olds) [] past u = absurd u
upto_map {Y = Y} R f g same (suc k) (o ∷ olds) (n ∷ news) past u =
    ap (λ (y : Y). y ∷ map f news) (same o n u.0) ∙ ap (λ (ys : List Y). g o ∷ ys) (upto_map R f g same k olds news (omega arith) u.1)

-- What holds while shelves are set one after the other: of those that were there, the first so many are as a relation has them.
pub record GoesOn (R : Shelf → Shelf → Type 0) (before : Store) (count : ℕ) (now : List Shelf) : Type 0 where
  pub olds : List Shelf
  pub is : store_of olds ≡ before
  pub names : names_differ (definitions_on olds) ≡ true
  pub set : Upto R count olds now

pub starts : (R : Shelf → Shelf → Type 0) (ss : List Shelf) (before : Store) → store_of ss ≡ before → names_differ (definitions_on ss) ≡ true → GoesOn R before 0 ss
starts R ss before is names = record { olds = ss; is = is; names = names; set = refl }

pub goes_on : (R : Shelf → Shelf → Type 0) (before : Store) (k : ℕ) (now : List Shelf) (d new : Shelf) → d ≡ get_or now k d → k < length now → R d new → GoesOn R before k now → GoesOn R before (k + 1) (slice_set now k new)
goes_on R before k now d new e within r h =
    let next : suc k ≡ k + 1 = omega arith in
    record {
      olds = h.olds;
      is = h.is;
      names = h.names;
      set = subst (λ (n : ℕ). Upto R n h.olds (slice_set now k new)) next (upto_step R k h.olds now d new e within r h.set);
    }
