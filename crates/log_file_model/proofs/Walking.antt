-- A log that is read group by group.
use Rattle.std.proofs.Common.{◌≡◌, ◌≤◌, ◌<◌, ◌⊎◌, inl, inr, ℕ, zero, suc, ◌+◌, Bool, true, false, cond, eqb, leb, ltb, List, [], ◌∷◌, ◌++◌, length, take, drop, None, refl, sym, ap, ◌∙◌, subst, arith, append-nil, append_assoc, length-append, length-drop}
use Rattle.std.specs.Prelude.{◌&&◌, not}
use Rattle.std.specs.Str.{bytes_eq}
use Rattle.std.proofs.lemmas.Bool.{le-leb, lt-leb, leb-true, eqb-true}
use Rattle.std.proofs.lemmas.List.{take_all}
use Rattle.std.proofs.lemmas.Slice.Eq.{bytes_eq-Decides}
use Rattle.std.proofs.Math.Seq.{drop-append_seam}
use Rattle.byte_fields.specs.Field.{number_at}
use Rattle.byte_fields.specs.Unroll.{all_from, unroll, unrolled}
use Rattle.event_codec.specs.Reading as event
use Rattle.event_codec.specs.Reading.{Reading, none, Stop, short, reading}
use Rattle.log_group_laws.specs.log_model.Events.{Place, Placed, next_event, stepped, stop_of, walk}
use Rattle.log_group_laws.specs.log_model.Groups.{Form, start, next_log, ddl, txn, Group, Next, group, not_whole, damaged_at, foreign_at, group_at, group_of, stop_next}
use Rattle.log_group_laws.specs.log_model.Log.{magic}
use Rattle.log_group_laws.proofs.Lying.{group_lies, nothing_there}
use Rattle.log_group_laws.proofs.Staying.{group_stays, stops_stay}
use Rattle.log_file_model.specs.Walk.{Ending, ended, damaged, foreign, Piece, Grouped, nothing_but, with_piece, size_of, piece_of, behind, closed_at, by_form, by_next, groups_from, grouped, reached, grouped_from}
use Rattle.log_file_model.specs.Passing.{walked, TurnsAreEnough, GroupIsFirst, names_next, with_pieces, from_there, ending_with, MagicIsPassed, OthersAreDamaged, AllFromFour, FrontIsPassed, NothingAbove, FrontsAreDamaged, GroupIsPassed, EndIsSeen, StopIsSeen, NothingBehindNames}

-- ---- turns

by_form_same : (a b : Place → Grouped) (q : Place) (f : Form) → a q ≡ b q → by_form a q f ≡ by_form b q f
by_form_same a b q start e = e
by_form_same a b q (next_log next) e = refl
by_form_same a b q (ddl s) e = e
by_form_same a b q (txn opening items number) e = e

-- a group takes some bytes
group_takes : (bytes : List ℕ) (pos : ℕ) (g : Group) → group_at (record { bytes = bytes; pos = pos }) ≡ group g
    → length (drop (size_of g) bytes) + 1 ≤ length bytes
group_takes bytes pos g is =
    let lies = group_lies bytes pos g is in
    omega (arith, lies.begins, lies.header, lies.within, length-drop (size_of g) bytes)

turns_same : (m n : ℕ) (bytes : List ℕ) (pos : ℕ) → length bytes ≤ m → length bytes ≤ n → groups_from m (record { bytes = bytes; pos = pos }) ≡ groups_from n (record { bytes = bytes; pos = pos })
turns_same zero zero [] pos few less = refl
turns_same zero (suc n) [] pos few less = refl
turns_same (suc m) zero [] pos few less = refl
turns_same (suc m) (suc n) [] pos few less = refl
turns_same zero n (b ∷ bs) pos few less = absurd (omega (arith, few))
turns_same (suc m) zero (b ∷ bs) pos few less = absurd (omega (arith, less))
turns_same (suc m) (suc n) (b ∷ bs) pos few less = by (λ rest at low high. turns_same m n rest at low high) (group_at (record { bytes = b ∷ bs; pos = pos })) refl
  where
    by : ((rest : List ℕ) (at : ℕ) → length rest ≤ m → length rest ≤ n → groups_from m (record { bytes = rest; pos = at }) ≡ groups_from n (record { bytes = rest; pos = at }))
        → (next : Next) → group_at (record { bytes = b ∷ bs; pos = pos }) ≡ next → by_next (groups_from m) (record { bytes = b ∷ bs; pos = pos }) next ≡ by_next (groups_from n) (record { bytes = b ∷ bs; pos = pos }) next
    by again (group g) is =
        let takes = group_takes (b ∷ bs) pos g is in
        ap (with_piece (piece_of g (record { bytes = b ∷ bs; pos = pos })))
        (by_form_same (groups_from m) (groups_from n) (behind g (record { bytes = b ∷ bs; pos = pos })) g.form
        (again (drop (size_of g) (b ∷ bs)) g.end (omega (arith, takes, few)) (omega (arith, takes, less))))
    by again not_whole is = refl
    by again (damaged_at at) is = refl
    by again (foreign_at at kind) is = refl

pub turns_are_enough : TurnsAreEnough
turns_are_enough most p few = turns_same most (length p.bytes) p.bytes p.pos few (omega arith)

-- ---- the first step of the walk

walked_some : (b : ℕ) (bs : List ℕ) (pos : ℕ) (next : Next) → group_at (record { bytes = b ∷ bs; pos = pos }) ≡ next
    → walked (record { bytes = b ∷ bs; pos = pos }) ≡ by_next (groups_from (length bs)) (record { bytes = b ∷ bs; pos = pos }) next
walked_some b bs pos next is = ap (by_next (groups_from (length bs)) (record { bytes = b ∷ bs; pos = pos })) is

abbrev IsOther : Next → Type 0
IsOther (group g) = Unit {0}
IsOther not_whole = ⊥
IsOther (damaged_at at) = Unit {0}
IsOther (foreign_at at kind) = Unit {0}

first_group : (bytes : List ℕ) (pos : ℕ) (g : Group) → group_at (record { bytes = bytes; pos = pos }) ≡ group g
    → walked (record { bytes = bytes; pos = pos })
    ≡ with_piece (piece_of g (record { bytes = bytes; pos = pos })) (by_form walked (behind g (record { bytes = bytes; pos = pos })) g.form)
first_group [] pos g is = absurd (subst IsOther (sym (sym (nothing_there pos) ∙ is)) tt)
first_group (b ∷ bs) pos g is =
    let takes = group_takes (b ∷ bs) pos g is in
    walked_some b bs pos (group g) is
    ∙ ap (with_piece (piece_of g (record { bytes = b ∷ bs; pos = pos })))
    (by_form_same (groups_from (length bs)) walked (behind g (record { bytes = b ∷ bs; pos = pos })) g.form
    (turns_same (length bs) (length (drop (size_of g) (b ∷ bs))) (drop (size_of g) (b ∷ bs)) g.end (omega (arith, takes)) (omega arith)))

pub group_is_first : GroupIsFirst
group_is_first p g is = first_group p.bytes p.pos g is

walked_damaged : (bytes : List ℕ) (pos at : ℕ) → group_at (record { bytes = bytes; pos = pos }) ≡ damaged_at at → walked (record { bytes = bytes; pos = pos }) ≡ nothing_but (damaged at)
walked_damaged [] pos at is = absurd (subst IsOther (sym (sym (nothing_there pos) ∙ is)) tt)
walked_damaged (b ∷ bs) pos at is = walked_some b bs pos (damaged_at at) is

walked_foreign : (bytes : List ℕ) (pos at kind : ℕ) → group_at (record { bytes = bytes; pos = pos }) ≡ foreign_at at kind
    → walked (record { bytes = bytes; pos = pos }) ≡ nothing_but (foreign at kind)
walked_foreign [] pos at kind is = absurd (subst IsOther (sym (sym (nothing_there pos) ∙ is)) tt)
walked_foreign (b ∷ bs) pos at kind is = walked_some b bs pos (foreign_at at kind) is

walked_cut : (bytes : List ℕ) (pos : ℕ) → group_at (record { bytes = bytes; pos = pos }) ≡ not_whole → 1 ≤ length bytes → walked (record { bytes = bytes; pos = pos }) ≡ nothing_but (damaged pos)
walked_cut [] pos is some = absurd (omega (arith, some))
walked_cut (b ∷ bs) pos is some = walked_some b bs pos not_whole is

-- ---- the magic

pub magic_is_passed : MagicIsPassed
unfolding grouped
magic_is_passed rest = turns_same (length (magic ++ rest)) (length rest) rest 4 (omega arith) (omega arith)

other_by : (t : Bool) (a : Grouped) (front : List ℕ) → bytes_eq front magic ≡ t → (front ≡ magic → ⊥) → cond t a (nothing_but (damaged 0)) ≡ nothing_but (damaged 0)
other_by true a front is other = absurd (other ((bytes_eq-Decides front magic).0 is))
other_by false a front is other = refl

no_magic : (bytes front : List ℕ) → take 4 bytes ≡ front → (front ≡ magic → ⊥) → grouped bytes ≡ nothing_but (damaged 0)
unfolding grouped
no_magic bytes front is other = rw is (other_by (bytes_eq front magic) _ front refl other)

take_front : (xs ys : List ℕ) → take (length xs) (xs ++ ys) ≡ xs
take_front [] ys = refl
take_front (x ∷ xs) ys = ap (λ (zs : List ℕ). x ∷ zs) (take_front xs ys)

pub others_are_damaged : OthersAreDamaged
others_are_damaged = (
  (λ front rest four other. no_magic (front ++ rest) front (ap (λ (n : ℕ). take n (front ++ rest)) (sym four) ∙ take_front front rest) other),
  (λ bytes few. no_magic bytes bytes (take_all 4 bytes (omega (arith, few))) (λ is. let four : length bytes ≡ 4 = ap length is in omega (arith, four, few))),
)

-- ---- from a position on

magic_within : (bytes : List ℕ) → take 4 bytes ≡ magic → 4 ≤ length bytes
magic_within [] is = cc
magic_within (a ∷ []) is = cc
magic_within (a ∷ b ∷ []) is = cc
magic_within (a ∷ b ∷ c ∷ []) is = cc
magic_within (a ∷ b ∷ c ∷ d ∷ bytes) is = omega arith

begun_by_magic : (bytes : List ℕ) → take 4 bytes ≡ magic → bytes_eq (take 4 bytes) magic ≡ true
begun_by_magic bytes is = rw is refl

from_magic : (pos : ℕ) (bytes : List ℕ) → take 4 bytes ≡ magic → grouped_from pos bytes ≡ reached pos bytes
unfolding grouped_from
from_magic pos bytes is = rw (begun_by_magic bytes is) refl

pub all_from_four : AllFromFour
unfolding grouped grouped_from
all_from_four bytes = by (bytes_eq (take 4 bytes) magic) refl
  where
    by : (t : Bool) → bytes_eq (take 4 bytes) magic ≡ t
        → cond t (reached 4 bytes) (nothing_but (damaged 0)) ≡ cond t (groups_from (length bytes) (record { bytes = drop 4 bytes; pos = 4 })) (nothing_but (damaged 0))
    by true is = let some = magic_within bytes ((bytes_eq-Decides (take 4 bytes) magic).0 is) in rw (le-leb 4 (length bytes) some) refl
    by false is = refl

take_more : (n : ℕ) (xs ys : List ℕ) → n ≤ length xs → take n (xs ++ ys) ≡ take n xs
take_more zero xs ys few = refl
take_more (suc n) [] ys few = absurd (omega (arith, few))
take_more (suc n) (x ∷ xs) ys few = ap (λ (zs : List ℕ). x ∷ zs) (take_more n xs ys (omega (arith, few)))

pub front_is_passed : FrontIsPassed
front_is_passed pos front is four at rest =
    let size : length (front ++ rest) ≡ length front + length rest = length-append front rest in
    let begins : take 4 (front ++ rest) ≡ magic = take_more 4 front rest (magic_within front is) ∙ is in
    let left : drop pos (front ++ rest) ≡ rest = ap (λ (n : ℕ). drop n (front ++ rest)) (sym at) ∙ drop-append_seam front rest in
    from_magic pos (front ++ rest) begins
    ∙ rw (le-leb 4 pos four, le-leb pos (length (front ++ rest)) (omega (arith, size, at)), left) (turns_same (length (front ++ rest)) (length rest) rest pos (omega (arith, size)) (omega arith))

others_from : (pos : ℕ) (bytes front : List ℕ) → take 4 bytes ≡ front → (front ≡ magic → ⊥) → grouped_from pos bytes ≡ nothing_but (damaged 0)
unfolding grouped_from
others_from pos bytes front is other = rw is (other_by (bytes_eq front magic) _ front refl other)

pub fronts_are_damaged : FrontsAreDamaged
fronts_are_damaged = record {
  other = λ pos front rest four not.
      others_from pos (front ++ rest) front (ap (λ (n : ℕ). take n (front ++ rest)) (sym four) ∙ take_front front rest) not;
  short = λ pos bytes few.
      others_from pos bytes bytes (take_all 4 bytes (omega (arith, few))) (λ is. let four : length bytes ≡ 4 = ap length is in omega (arith, four, few));
  within = λ pos rest low. from_magic pos (magic ++ rest) refl ∙ rw (lt-leb 4 pos low) refl;
  few = λ pos bytes is four less. from_magic pos bytes is ∙ rw (le-leb 4 pos four, lt-leb pos (length bytes) less) refl;
}

-- ---- above the greatest position

abbrev NoneStands : ℕ → Reading → Type 0
NoneStands pos r = (r ≡ none (short 19)) ⊎ (r ≡ none (event.damaged pos))

above_by : (pos size next : ℕ) (few low same high : Bool) (more : Reading) → 1200000000 < pos → eqb next (pos + size) ≡ same → leb next 1200000000 ≡ high
    → NoneStands pos (cond few (none (short 19)) (cond (not ((low && same) && high)) (none (event.damaged pos)) more))
above_by pos size next true low same high more above is most = inl refl
above_by pos size next false false same high more above is most = inr refl
above_by pos size next false true false high more above is most = inr refl
above_by pos size next false true true false more above is most = inr refl
above_by pos size next false true true true more above is most =
    let at = eqb-true next (pos + size) is in
    let within = leb-true next 1200000000 most in
    absurd (omega arith)

none_read : (bytes : List ℕ) (pos : ℕ) → 1200000000 < pos → NoneStands pos (reading bytes pos)
unfolding reading
none_read bytes pos above =
    above_by pos (number_at 9 4 bytes) (number_at 13 4 bytes) (ltb (length bytes) 19) (leb 19 (number_at 9 4 bytes)) _ _ _ above refl refl

-- no event stands, so no group does
none_unrolled : (most : ℕ) (p : Place) → next_event p ≡ None → unroll next_event most p ≡ ([], p)
none_unrolled zero p is = refl
none_unrolled (suc most) p is = ap (unrolled (unroll next_event most) p) is

no_events : (p : Place) (stop : Stop) → reading p.bytes p.pos ≡ none stop → group_at p ≡ stop_next stop
unfolding group_at walk all_from
no_events p stop is =
    ap (λ (w : List Placed × Place). group_of w.0 (stop_of (reading w.1.bytes w.1.pos))) (none_unrolled (length p.bytes) p (ap (stepped p) is))
    ∙ ap (λ (r : Reading). stop_next (stop_of r)) is

walked_nowhere : (bytes : List ℕ) (pos : ℕ) → NoneStands pos (reading bytes pos) → walked (record { bytes = bytes; pos = pos }) ≡ closed_at (record { bytes = bytes; pos = pos }) bytes
walked_nowhere [] pos is = refl
walked_nowhere (b ∷ bs) pos (inl is) = walked_some b bs pos not_whole (no_events (record { bytes = b ∷ bs; pos = pos }) (short 19) is)
walked_nowhere (b ∷ bs) pos (inr is) = walked_some b bs pos (damaged_at pos) (no_events (record { bytes = b ∷ bs; pos = pos }) (event.damaged pos) is)

pub nothing_above : NothingAbove
nothing_above p above = walked_nowhere p.bytes p.pos (none_read p.bytes p.pos above)

-- ---- groups

more_pieces : (ps : List Piece) (x : Piece) (g : Grouped) → with_pieces ps (with_piece x g) ≡ with_pieces (ps ++ x ∷ []) g
more_pieces ps x g = ap (λ (qs : List Piece). record { pieces = qs; ending = g.ending }) (sym (append_assoc ps (x ∷ []) g.pieces))

there : (p : Place) (f : Form) → by_form walked p f ≡ from_there (names_next f) p
there p start = refl
there p (next_log next) = refl
there p (ddl s) = refl
there p (txn opening items number) = refl

pub group_is_passed : GroupIsPassed
group_is_passed read front taken ps pos g passed is whole rest =
    let lies = group_lies taken pos g is in
    let here : Place = record { bytes = taken ++ rest; pos = pos } in
    let size : size_of g ≡ length taken = omega (arith, whole, lies.begins) in
    let piece : piece_of g here ≡ record { bytes = taken; group = g } =
    ap (λ (bs : List ℕ). record { bytes = bs; group = g }) (ap (λ (n : ℕ). take n (taken ++ rest)) size ∙ take_front taken rest) in
    let left : drop (size_of g) (taken ++ rest) ≡ rest = ap (λ (n : ℕ). drop n (taken ++ rest)) size ∙ drop-append_seam taken rest in
    let place : behind g here ≡ record { bytes = rest; pos = pos + length taken } = rw (left, whole) refl in
    ap read (append_assoc front taken rest)
    ∙ passed (taken ++ rest)
    ∙ ap (with_pieces ps) (first_group (taken ++ rest) pos g (group_stays taken rest pos g is)
    ∙ ap (λ (x : Piece). with_piece x (by_form walked (behind g here) g.form)) piece
    ∙ ap (with_piece (record { bytes = taken; group = g })) (ap (λ (q : Place). by_form walked q g.form) place ∙ there (record { bytes = rest; pos = pos + length taken }) g.form))
    ∙ more_pieces ps (record { bytes = taken; group = g }) (from_there (names_next g.form) (record { bytes = rest; pos = pos + length taken }))

-- ---- endings

ending_there : (ps : List Piece) (g : Grouped) (e : Ending) → g ≡ nothing_but e → with_pieces ps g ≡ ending_with ps e
ending_there ps g e is = ap (with_pieces ps) is ∙ ap (λ (qs : List Piece). record { pieces = qs; ending = e }) (append-nil ps)

nothing_left : (closed : Bool) (pos : ℕ) → from_there closed (record { bytes = []; pos = pos }) ≡ nothing_but ended
nothing_left true pos = refl
nothing_left false pos = refl

pub end_is_seen : EndIsSeen
end_is_seen read front ps pos closed passed =
    ap read (sym (append-nil front)) ∙ passed [] ∙ ending_there ps (from_there closed (record { bytes = []; pos = pos })) ended (nothing_left closed pos)

pub stop_is_seen : StopIsSeen
stop_is_seen read front taken rest ps pos passed = (
  (λ at is. ap read (append_assoc front taken rest) ∙ passed (taken ++ rest) ∙ ending_there ps _ (damaged at) (walked_damaged (taken ++ rest) pos at ((stops_stay taken rest pos).0 at is))),
  (λ at kind is. ap read (append_assoc front taken rest) ∙ passed (taken ++ rest) ∙ ending_there ps _ (foreign at kind) (walked_foreign (taken ++ rest) pos at kind ((stops_stay taken rest pos).1 at kind is))),
  (λ is some. passed taken ∙ ending_there ps _ (damaged pos) (walked_cut taken pos is some)),
)

closed_some : (taken rest : List ℕ) (p : Place) → 1 ≤ length taken → closed_at p (taken ++ rest) ≡ nothing_but (damaged p.pos)
closed_some [] rest p some = absurd (omega (arith, some))
closed_some (b ∷ bs) rest p some = refl

pub nothing_behind_names : NothingBehindNames
nothing_behind_names read front taken rest ps pos passed some =
    ap read (append_assoc front taken rest) ∙ passed (taken ++ rest)
    ∙ ending_there ps _ (damaged pos) (closed_some taken rest (record { bytes = taken ++ rest; pos = pos }) some)
