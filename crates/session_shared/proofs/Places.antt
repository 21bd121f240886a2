-- Savepoints by their places.
use Rattle.std.proofs.Common.{◌≡◌, ℕ, zero, suc, ◌+◌, List, [], ◌∷◌, Bool, true, false, cond, length, take, min, Option, Some, None, is_some, refl, sym, ap, ◌∙◌, arith}
use Rattle.std.specs.Prelude.{find, position, slice_get, unwrap_or}
use Rattle.std.specs.Option.{option_map}
use Rattle.table_rules.proofs.Places.{place, at_place}
use Rattle.session_model.specs.Sessions.{Open, Save}
use Rattle.session_model.specs.Commands.{is_save_of, saves_up_to}
use Rattle.session_model.specs.log_entries.declared.entries.Item.{Item}
use Rattle.session_shared.specs.Saving.{changes_at, marks_of, went_back}

-- ---- places

module _ {X : Type 0} (test : X → Bool) where
  missing_by : (here : Bool) (x : X) (at : Option ℕ) (o : Option X) → (at ≡ None → o ≡ None) → cond here (Some 0) (option_map suc at) ≡ None → cond here (Some x) o ≡ None
  missing_by true x at o later e = cc
  missing_by false x None o later e = later refl
  missing_by false x (Some j) o later e = cc

  pub missing : (xs : List X) → position test xs ≡ None → find test xs ≡ None
  missing [] e = refl
  missing (x ∷ xs) e = missing_by (test x) x (position test xs) (find test xs) (missing xs) (sym (place test x xs) ∙ e)

up_to_by : (here : Bool) (s : Save) (ss up : List Save) (at : Option ℕ) (i : ℕ) → ((j : ℕ) → at ≡ Some j → up ≡ take (suc j) ss)
    → cond here (Some 0) (option_map suc at) ≡ Some i → cond here (s ∷ []) (s ∷ up) ≡ take (suc i) (s ∷ ss)
up_to_by true s ss up at zero later e = refl
up_to_by true s ss up at (suc i) later e = cc
up_to_by false s ss up None i later e = cc
up_to_by false s ss up (Some j) zero later e = cc
up_to_by false s ss up (Some j) (suc i) later e = let same : Some j ≡ Some i = cc in ap (λ rest. s ∷ rest) (later i same)

pub up_to : (name : List ℕ) (ss : List Save) (i : ℕ) → position (is_save_of name) ss ≡ Some i → saves_up_to name ss ≡ take (suc i) ss
up_to name [] i e = cc
up_to name (s ∷ ss) i e =
    up_to_by (is_save_of name s) s ss (saves_up_to name ss) (position (is_save_of name) ss) i (λ j at. up_to name ss j at) (sym (place (is_save_of name) s ss) ∙ e)

found_by : (o : Option Save) (name : List ℕ) → option_map (is_save_of name) o ≡ Some true → true ≡ is_some o
found_by None name h = cc
found_by (Some s) name h = refl

has_by : (name : List ℕ) (ss : List Save) (at : Option ℕ) → position (is_save_of name) ss ≡ at → is_some (position (is_save_of name) ss) ≡ is_some (find (is_save_of name) ss)
has_by name ss None e = ap is_some e ∙ ap is_some (sym (missing (is_save_of name) ss e))
has_by name ss (Some i) e = ap is_some e ∙ found_by (find (is_save_of name) ss) name (at_place (is_save_of name) ss i e).1

pub has_place : (name : List ℕ) (ss : List Save) → is_some (position (is_save_of name) ss) ≡ is_some (find (is_save_of name) ss)
has_place name ss = has_by name ss (position (is_save_of name) ss) refl

-- ---- going back

take_fewer : (k : ℕ) (is : List Item) → take (min k (length is)) is ≡ take k is
take_fewer zero [] = let none : min 0 0 ≡ 0 = omega arith in ap (λ (n : ℕ). take n []) none
take_fewer (suc k) [] = let none : min (suc k) 0 ≡ 0 = omega arith in ap (λ (n : ℕ). take n []) none
take_fewer zero (i ∷ is) = let none : min 0 (suc (length is)) ≡ 0 = omega arith in ap (λ (n : ℕ). take n (i ∷ is)) none
take_fewer (suc k) (i ∷ is) =
    let one : min (suc k) (suc (length is)) ≡ suc (min k (length is)) = omega arith in
    ap (λ (n : ℕ). take n (i ∷ is)) one ∙ ap (λ rest. i ∷ rest) (take_fewer k is)

gone_by : (name : List ℕ) (is is' : List Item) (ss : List Save) (changed : Bool) (found : Option Save) (i items changes : ℕ) → saves_up_to name ss ≡ take (suc i) ss → Some (items, changes) ≡ marks_of found → is' ≡ take (min items (length is)) is
    → (Some changes ≡ changes_at found)
    × (record { items = is'; saves = take (suc i) ss; changed = changed } ≡ went_back name found (record { items = is; saves = ss; changed = changed }))
gone_by name is is' ss changed None i items changes up marks cut = cc
gone_by name is is' ss changed (Some save) i items changes up marks cut =
    let one : items ≡ save.items = ap (λ (o : Option (ℕ × ℕ)). (unwrap_or o (0, 0)).0) marks in
    let two : changes ≡ save.changes = ap (λ (o : Option (ℕ × ℕ)). (unwrap_or o (0, 0)).1) marks in (
      ap (λ (k : ℕ). Some k) two,
      ap (λ (rest : List Item). record { items = rest; saves = take (suc i) ss; changed = changed }) (cut ∙ take_fewer items is ∙ ap (λ (k : ℕ). take k is) one)
          ∙ ap (λ (rest : List Save). record { items = take save.items is; saves = rest; changed = changed }) (sym up),
    )

-- back to the savepoint at a place
pub gone : (name : List ℕ) (is is' : List Item) (ss : List Save) (changed : Bool) (i items changes : ℕ) → Some i ≡ position (is_save_of name) ss → Some (items, changes) ≡ marks_of (slice_get ss i) → is' ≡ take (min items (length is)) is
    → (Some changes ≡ changes_at (find (is_save_of name) ss))
    × (record { items = is'; saves = take (i + 1) ss; changed = changed } ≡ went_back name (find (is_save_of name) ss) (record { items = is; saves = ss; changed = changed }))
gone name is is' ss changed i items changes at marks cut =
    let next : i + 1 ≡ suc i = omega arith in
    rw next (gone_by name is is' ss changed (find (is_save_of name) ss) i items changes (up_to name ss i (sym at)) (marks ∙ ap marks_of (at_place (is_save_of name) ss i (sym at)).0) cut)

-- nothing where there is none
pub stayed : (name : List ℕ) (o : Open Item) → None ≡ position (is_save_of name) o.saves
    → (None ≡ changes_at (find (is_save_of name) o.saves)) × (o ≡ went_back name (find (is_save_of name) o.saves) o)
stayed name o at =
    let none : find (is_save_of name) o.saves ≡ None = missing (is_save_of name) o.saves (sym at) in
    (ap changes_at (sym none), ap (λ (found : Option Save). went_back name found o) (sym none))

pub stayed_too : (name : List ℕ) (o : Open Item) (i : ℕ) → Some i ≡ position (is_save_of name) o.saves → None ≡ marks_of (slice_get o.saves i)
    → (None ≡ changes_at (find (is_save_of name) o.saves)) × (o ≡ went_back name (find (is_save_of name) o.saves) o)
stayed_too name o i at none = stayed_by name o (find (is_save_of name) o.saves) (none ∙ ap marks_of (at_place (is_save_of name) o.saves i (sym at)).0)
  where
    stayed_by : (name : List ℕ) (o : Open Item) (found : Option Save) → None ≡ marks_of found → (None ≡ changes_at found) × (o ≡ went_back name found o)
    stayed_by name o None e = (refl, refl)
    stayed_by name o (Some save) e = cc
