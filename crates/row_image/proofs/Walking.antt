-- Changes, one after the other.
use Rattle.std.proofs.Common.{◌≡◌, ℕ, ◌<◌, ◌≤◌, Bool, true, false, List, [], ◌∷◌, ◌++◌, length, Some, None, refl, sym, ap, ◌∙◌, arith, eqb, append_assoc, append-nil}
use Rattle.std.specs.Prelude.{not, ◌&&◌}
use Rattle.std.proofs.lemmas.Bool.{ne_eqb}
use Rattle.val_types.specs.declared.change.Change.{Change}
use Rattle.val_types.specs.declared.definitions.ColType.{ColType}
use Rattle.byte_fields.specs.Unroll.{all_from}
use Rattle.byte_fields.proofs.Unrolling.{all_some, all_none}
use Rattle.event_codec.specs.declared.event.RowsKind.{RowsKind}
use Rattle.event_codec.specs.Event.{Map, Rows}
use Rattle.log_model.specs.Images.{Read, change_at, changes_at, map_types, are_rows}
use Rattle.log_model.proofs.Taking.{changes_shrink}
use Rattle.row_image.specs.Walk.{behind, are_changes}

-- what all changes are, where one stands in front
pub changes_some : (kind : RowsKind) (name : List ℕ) (types : List ColType) (bytes : List ℕ) (x : Change × List ℕ) → change_at kind name types bytes ≡ Some x
    → changes_at kind name types bytes ≡ (x.0 ∷ (changes_at kind name types x.1).0, (changes_at kind name types x.1).1)
unfolding changes_at
changes_some kind name types bytes x e = all_some (change_at kind name types) length (changes_shrink kind name types) bytes x e

pub changes_none : (kind : RowsKind) (name : List ℕ) (types : List ColType) (bytes : List ℕ) → change_at kind name types bytes ≡ None
    → changes_at kind name types bytes ≡ ([], bytes)
unfolding changes_at
changes_none kind name types bytes e = all_none (change_at kind name types) length (changes_shrink kind name types) bytes e

pub changes_nil : (kind : RowsKind) (name : List ℕ) (types : List ColType) → changes_at kind name types [] ≡ ([], [])
unfolding changes_at all_from
changes_nil kind name types = refl

-- ---- where they end

left_by : (kind : RowsKind) (name : List ℕ) (types : List ColType) (bytes : List ℕ) (o : Read Change) → change_at kind name types bytes ≡ o
    → ((next : List ℕ) → behind o ≡ Some next → ((changes_at kind name types bytes).1 ≡ (changes_at kind name types next).1) × (length next < length bytes))
    × (behind o ≡ None → (changes_at kind name types bytes).1 ≡ bytes)
left_by kind name types bytes None e = ((λ next f. cc), (λ f. ap (λ (r : List Change × List ℕ). r.1) (changes_none kind name types bytes e)))
left_by kind name types bytes (Some x) e = ((λ next f. some next f), (λ f. cc))
  where
    some : (next : List ℕ) → Some x.1 ≡ Some next → ((changes_at kind name types bytes).1 ≡ (changes_at kind name types next).1) × (length next < length bytes)
    some next f =
        let same : x.1 ≡ next = cc in
        rw (← same) (ap (λ (r : List Change × List ℕ). r.1) (changes_some kind name types bytes x e), changes_shrink kind name types bytes x e)

-- behind a change stand the others
pub left_some : (kind : RowsKind) (name : List ℕ) (types : List ColType) (bytes next : List ℕ) → behind (change_at kind name types bytes) ≡ Some next
    → ((changes_at kind name types bytes).1 ≡ (changes_at kind name types next).1) × (length next < length bytes)
left_some kind name types bytes next e = (left_by kind name types bytes _ refl).0 next e

-- no change is left
pub left_none : (kind : RowsKind) (name : List ℕ) (types : List ColType) (bytes : List ℕ) → behind (change_at kind name types bytes) ≡ None
    → (changes_at kind name types bytes).1 ≡ bytes
left_none kind name types bytes e = (left_by kind name types bytes _ refl).1 e

not_changes : (bytes left : List ℕ) → 1 ≤ length left → false ≡ (not (eqb (length bytes) 0) && eqb (length left) 0)
not_changes bytes left some =
    let b : eqb (length left) 0 ≡ false = ne_eqb _ _ (λ e. omega arith) in
    rw b (never (not (eqb (length bytes) 0)))
  where
    never : (b : Bool) → false ≡ (b && false)
    never true = refl
    never false = refl

-- something is left that is no change
pub stops : (kind : RowsKind) (m : Map) (bytes rest : List ℕ) → (changes_at kind m.name (map_types m) rest).1 ≡ (changes_at kind m.name (map_types m) bytes).1
    → behind (change_at kind m.name (map_types m) rest) ≡ None → 1 ≤ length rest → false ≡ are_changes kind m bytes
stops kind m bytes rest same none some = rw (← same, left_none kind m.name (map_types m) rest none) (not_changes bytes rest some)

-- nothing is left
pub ends : (kind : RowsKind) (m : Map) (bytes rest : List ℕ) → (changes_at kind m.name (map_types m) rest).1 ≡ (changes_at kind m.name (map_types m) bytes).1
    → length rest < 1 → 1 ≤ length bytes → true ≡ are_changes kind m bytes
ends kind m bytes [] same empty some =
    let b : eqb (length bytes) 0 ≡ false = ne_eqb _ _ (λ e. omega arith) in
    rw (← same, changes_nil kind m.name (map_types m), b) refl
ends kind m bytes (x ∷ rest) same empty some = absurd (omega arith)

-- the count of columns comes first
pub rows_by : (m : Map) (r : Rows) → (eqb r.columns (length m.kinds) && are_changes r.kind m r.rows) ≡ are_rows m r
rows_by m r = by (eqb r.columns (length m.kinds)) (not (eqb (length r.rows) 0)) (eqb (length (changes_at r.kind m.name (map_types m) r.rows).1) 0)
  where
    by : (a b d : Bool) → (a && (b && d)) ≡ ((a && b) && d)
    by true b d = refl
    by false b d = refl

-- ---- what they are

-- a change goes behind those that were read
pub made_some : (kind : RowsKind) (name : List ℕ) (types : List ColType) (made whole : List Change) (bytes : List ℕ) (c : Change) (rest : List ℕ)
    → change_at kind name types bytes ≡ Some (c, rest) → made ++ (changes_at kind name types bytes).0 ≡ whole
    → (made ++ (c ∷ [])) ++ (changes_at kind name types rest).0 ≡ whole
made_some kind name types made whole bytes c rest e before =
    append_assoc made (c ∷ []) (changes_at kind name types rest).0
    ∙ ap (λ (r : List Change × List ℕ). made ++ r.0) (sym (changes_some kind name types bytes (c, rest) e)) ∙ before

-- nothing more is there
pub made_none : (kind : RowsKind) (name : List ℕ) (types : List ColType) (made whole : List Change) (bytes : List ℕ)
    → change_at kind name types bytes ≡ None → made ++ (changes_at kind name types bytes).0 ≡ whole → made ≡ whole
made_none kind name types made whole bytes e before =
    sym (append-nil made) ∙ ap (λ (r : List Change × List ℕ). made ++ r.0) (sym (changes_none kind name types bytes e)) ∙ before

pub made_all : (kind : RowsKind) (name : List ℕ) (types : List ColType) (made whole : List Change) (bytes : List ℕ)
    → length bytes < 1 → made ++ (changes_at kind name types bytes).0 ≡ whole → made ≡ whole
made_all kind name types made whole [] empty before =
    sym (append-nil made) ∙ ap (λ (r : List Change × List ℕ). made ++ r.0) (sym (changes_nil kind name types)) ∙ before
made_all kind name types made whole (x ∷ bytes) empty before = absurd (omega arith)
