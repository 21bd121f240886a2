-- Where bytes of logs lead.
use Rattle.std.proofs.Common.{◌≡◌, ◌≤◌, ℕ, zero, suc, ◌+◌, ◌-◌, List, [], ◌∷◌, ◌++◌, length, drop, length-drop, append-nil, refl, sym, ap, ◌∙◌, arith}
use Rattle.std.proofs.lemmas.List.{drop-drop, drop-append-le}
use Rattle.log_groups.specs.log_model.Events.{Place as Part}
use Rattle.log_groups.specs.log_model.Groups.{Form, start, next_log, ddl, txn, Group, Next, group, not_whole, damaged_at, foreign_at, group_at}
use Rattle.log_groups.specs.log_model.Log.{LogPlace, moved}
use Rattle.replica_model.specs.Replica.{behind_form, behind_group, size_of, past_next, past_groups}
use Rattle.log_groups.specs.log_group_laws.Laws.{Lies}
use Rattle.log_groups.proofs.of_log_group_laws.Lying.{group_lies, nothing_there}
use Rattle.log_groups.proofs.of_log_group_laws.Staying.{group_stays}
use Rattle.relay_log.specs.Reaching.{past_all, Reaches}

-- some bytes from a place on
abbrev part : LogPlace → List ℕ → Part
part place bytes = record { bytes = bytes; pos = place.pos }

-- ---- how far is looked

none_left : (bytes : List ℕ) → length bytes ≤ 0 → bytes ≡ []
none_left [] few = refl
none_left (b ∷ bs) few = absurd (omega (arith, few))

nothing_past : (most : ℕ) (place : LogPlace) (bytes : List ℕ) → length bytes ≤ 0 → past_groups most place bytes ≡ moved place (length bytes)
nothing_past zero place bytes few = refl
nothing_past (suc most) place bytes few =
    ap (past_next (past_groups most) place bytes) (ap (λ (bs : List ℕ). group_at (part place bs)) (none_left bytes few) ∙ nothing_there place.pos)

-- what is left behind a group is shorter
shorter : (place : LogPlace) (bytes : List ℕ) (g : Group) (most : ℕ) → length bytes ≤ suc most → group_at (part place bytes) ≡ group g → length (drop (size_of g) bytes) ≤ most
shorter place bytes g most few is =
    let lies = group_lies bytes place.pos g is in
    omega (arith, few, length-drop (size_of g) bytes, lies.begins, lies.header, lies.within)

-- it does not matter how far is looked past the end
same_past : (m n : ℕ) (place : LogPlace) (bytes : List ℕ) → length bytes ≤ m → length bytes ≤ n → past_groups m place bytes ≡ past_groups n place bytes
same_past zero n place bytes a b = sym (nothing_past n place bytes a)
same_past (suc m) zero place bytes a b = nothing_past (suc m) place bytes b
same_past (suc m) (suc n) place bytes a b =
    by (λ (q : LogPlace) (bs : List ℕ) c d. same_past m n q bs c d) (group_at (part place bytes)) refl
  where
    by : ((q : LogPlace) (bs : List ℕ) → length bs ≤ m → length bs ≤ n → past_groups m q bs ≡ past_groups n q bs) → (next : Next) → group_at (part place bytes) ≡ next
        → past_next (past_groups m) place bytes next ≡ past_next (past_groups n) place bytes next
    by again (group g) is = again (behind_group place g) (drop (size_of g) bytes) (shorter place bytes g m a is) (shorter place bytes g n b is)
    by again not_whole is = refl
    by again (damaged_at p) is = refl
    by again (foreign_at p kind) is = refl

-- ---- one group

pub past_group : (place : LogPlace) (bytes : List ℕ) (g : Group) → group_at (part place bytes) ≡ group g → past_all place bytes ≡ past_all (behind_group place g) (drop (size_of g) bytes)
past_group place [] g is = let no : not_whole ≡ group g = sym (nothing_there place.pos) ∙ is in cc
past_group place (b ∷ bs) g is =
    ap (past_next (past_groups (length bs)) place (b ∷ bs)) is
    ∙ same_past (length bs) (length (drop (size_of g) (b ∷ bs))) (behind_group place g) (drop (size_of g) (b ∷ bs))
    (shorter place (b ∷ bs) g (length bs) (omega arith) is) (omega arith)

-- there is no group
abbrev pub IsNone : Next → Type 0
IsNone (group g) = ⊥
IsNone not_whole = Unit {0}
IsNone (damaged_at p) = Unit {0}
IsNone (foreign_at p kind) = Unit {0}

past_none : (next : Next) (more : LogPlace → List ℕ → LogPlace) (place : LogPlace) (bytes : List ℕ) → IsNone next → past_next more place bytes next ≡ moved place (length bytes)
past_none (group g) more place bytes none = absurd none
past_none not_whole more place bytes none = refl
past_none (damaged_at p) more place bytes none = refl
past_none (foreign_at p kind) more place bytes none = refl

pub past_rest : (place : LogPlace) (bytes : List ℕ) (next : Next) → group_at (part place bytes) ≡ next → IsNone next → past_all place bytes ≡ moved place (length bytes)
past_rest place [] next is none = refl
past_rest place (b ∷ bs) next is none =
    ap (past_next (past_groups (length bs)) place (b ∷ bs)) is ∙ past_none next (past_groups (length bs)) place (b ∷ bs) none

-- ---- whatever follows

pub reaches_group : (place : LogPlace) (bytes : List ℕ) (g : Group) → group_at (part place bytes) ≡ group g → Reaches place bytes (size_of g) (behind_group place g)
reaches_group place bytes g is more =
    let lies = group_lies bytes place.pos g is in
    past_group place (bytes ++ more) g (group_stays bytes more place.pos g is)
    ∙ ap (past_all (behind_group place g)) (drop-append-le (size_of g) bytes more (omega (arith, lies.begins, lies.within)))

pub reaches_here : (place : LogPlace) (bytes : List ℕ) → Reaches place bytes 0 place
reaches_here place bytes more = refl

pub reaches_on : (a b c : LogPlace) (bytes : List ℕ) (n k : ℕ) → Reaches a bytes n b → Reaches b (drop n bytes) k c → Reaches a bytes (n + k) c
reaches_on a b c bytes n k first then more =
    first more ∙ then more ∙ ap (λ (bs : List ℕ). past_all c (bs ++ more)) (drop-drop k n bytes)

-- back from a place that is not further ahead
pub reaches_back : (a b c : LogPlace) (bytes : List ℕ) (n k : ℕ) → Reaches a bytes n b → Reaches a bytes (n + k) c → Reaches b (drop n bytes) k c
reaches_back a b c bytes n k first whole more =
    sym (first more) ∙ whole more ∙ ap (λ (bs : List ℕ). past_all c (bs ++ more)) (sym (drop-drop k n bytes))

pub past_reached : (a b : LogPlace) (bytes : List ℕ) (n : ℕ) → Reaches a bytes n b → past_all a bytes ≡ past_all b (drop n bytes)
past_reached a b bytes n reaches =
    ap (past_all a) (sym (append-nil bytes)) ∙ reaches [] ∙ ap (past_all b) (append-nil (drop n bytes))

-- ---- how far bytes can lead

behind_low : (place : LogPlace) (count : ℕ) (g : Group) (f : Form) → Lies place.pos count g → (behind_form place g.end f).pos + (count - size_of g) ≤ place.pos + count
behind_low place count g start lies = omega (arith, lies.begins, lies.within)
behind_low place count g (next_log next) lies = omega (arith, lies.begins, lies.header, lies.within)
behind_low place count g (ddl s) lies = omega (arith, lies.begins, lies.within)
behind_low place count g (txn opening items number) lies = omega (arith, lies.begins, lies.within)

past_low : (most : ℕ) (place : LogPlace) (bytes : List ℕ) → (past_groups most place bytes).pos ≤ place.pos + length bytes
past_low zero place bytes = omega arith
past_low (suc most) place bytes = by (λ (q : LogPlace) (bs : List ℕ). past_low most q bs) (group_at (part place bytes)) refl
  where
    by : ((q : LogPlace) (bs : List ℕ) → (past_groups most q bs).pos ≤ q.pos + length bs) → (next : Next) → group_at (part place bytes) ≡ next
        → (past_next (past_groups most) place bytes next).pos ≤ place.pos + length bytes
    by again (group g) is =
        let lies = group_lies bytes place.pos g is in
        let low = behind_low place (length bytes) g g.form lies in
        let rest = again (behind_group place g) (drop (size_of g) bytes) in
        omega (arith, low, rest, length-drop (size_of g) bytes)
    by again not_whole is = omega arith
    by again (damaged_at p) is = omega arith
    by again (foreign_at p kind) is = omega arith

pub ends_low : (place : LogPlace) (bytes : List ℕ) → (past_all place bytes).pos ≤ place.pos + length bytes
ends_low place bytes = past_low (length bytes) place bytes
