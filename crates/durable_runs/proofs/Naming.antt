-- What marks name, as they grow and as calls go on.
use Rattle.std.proofs.Common.{◌≡◌, ◌⊎◌, inl, inr, ℕ, ◌+◌, ◌<◌, ◌≤◌, max, Bool, true, false, nat_le, List, [], ◌∷◌, ◌++◌, refl, ap, arith}
use Rattle.std.specs.Prelude.{if◌then◌else◌}
use Rattle.std.proofs.lemmas.Bool.{cases_lt, lt-leb, le-leb}
use Rattle.durable_runs.specs.Marks.{Named, named, Between, NameNow, RiseByOne, AreBehind, last_named}

pub named_least : (start n : ℕ) (marks : List Named) → start ≤ named start marks n
named_least start n [] = omega arith
named_least start n (m ∷ marks) = let h = named_least start n marks in omega (arith, h)

-- marks of later calls name nothing
none_named : (start n calls number : ℕ) (more : List Named) → n < calls → Between calls number more → named start more n ≡ start
none_named start n calls number [] lt between = refl
none_named start n calls number (m ∷ more) lt between =
    let e : nat_le m.calls n ≡ false = lt-leb m.calls n (omega (arith, between.0)) in
    let h = none_named start n calls number more lt between.1.1 in
    rw e (omega (arith, h))

pub later_name_nothing : (start n calls number : ℕ) (marks more : List Named) → n < calls → Between calls number more → named start (marks ++ more) n ≡ named start marks n
later_name_nothing start n calls number [] more lt between = none_named start n calls number more lt between
later_name_nothing start n calls number (m ∷ marks) more lt between =
    ap (λ (k : ℕ). max (if nat_le m.calls n then m.number else 0) k) (later_name_nothing start n calls number marks more lt between)

mark_rises : (k : Named) (n m a b : ℕ) → n ≤ m → a ≤ b → (n < k.calls) ⊎ (k.calls ≤ n)
    → max (if nat_le k.calls n then k.number else 0) a ≤ max (if nat_le k.calls m then k.number else 0) b
mark_rises k n m a b le h (inl lt) = let e : nat_le k.calls n ≡ false = lt-leb k.calls n lt in rw e (omega (arith, h))
mark_rises k n m a b le h (inr ge) =
    let e : nat_le k.calls n ≡ true = le-leb k.calls n ge in
    let e' : nat_le k.calls m ≡ true = le-leb k.calls m (omega arith) in
    rw (e, e') (omega (arith, h))

pub named_rises : (start n m : ℕ) (marks more : List Named) → n ≤ m → named start marks n ≤ named start (marks ++ more) m
named_rises start n m [] more le = named_least start m more
named_rises start n m (k ∷ marks) more le =
    mark_rises k n m (named start marks n) (named start (marks ++ more) m) le (named_rises start n m marks more le) (cases_lt n k.calls)

-- what marks name is at most their greatest number
pub named_low : (start n calls number : ℕ) (marks : List Named) → start ≤ number → Between calls number marks → named start marks n ≤ number
named_low start n calls number [] le between = le
named_low start n calls number (m ∷ marks) le between = low (nat_le m.calls n) (named_low start n calls number marks le between.1.1)
  where
    low : (b : Bool) → named start marks n ≤ number → max (if b then m.number else 0) (named start marks n) ≤ number
    low true h = omega (arith, between.1.0)
    low false h = omega arith

-- marks of two runs name no more than either does, the later one from its own start on
pub named_late : (start later n : ℕ) (marks more : List Named) → start ≤ later → named start (marks ++ more) n ≤ max (named start marks n) (named later more n)
named_late start later n [] [] le = omega arith
named_late start later n [] (m ∷ more) le = let h = named_late start later n [] more le in omega (arith, h)
named_late start later n (m ∷ marks) more le = let h = named_late start later n marks more le in omega (arith, h)

pub between_append : (calls calls' number number' : ℕ) (marks more : List Named) → calls ≤ calls' → number ≤ number' → Between calls number marks → Between calls' number' more
    → Between calls number' (marks ++ more)
between_append calls calls' number number' [] [] le le' a b = tt
between_append calls calls' number number' [] (m ∷ more) le le' a b =
    (omega (arith, b.0), (b.1.0, between_append calls calls' number number' [] more le le' a b.1.1))
between_append calls calls' number number' (m ∷ marks) more le le' a b =
    (a.0, (omega (arith, a.1.0), between_append calls calls' number number' marks more le le' a.1.1 b))

pub now_between : (calls number : ℕ) (marks : List Named) → NameNow calls number marks → Between calls number marks
now_between calls number [] names = tt
now_between calls number (m ∷ marks) names = (omega (arith, names.0), (omega (arith, names.1.0), now_between calls number marks names.1.1))

-- ---- no more calls than there were

pub behind_later : (n m : ℕ) (marks : List Named) → n ≤ m → AreBehind n marks → AreBehind m marks
behind_later n m [] le behind = tt
behind_later n m (k ∷ marks) le behind = (omega (arith, le, behind.0), behind_later n m marks le behind.1)

pub behind_append : (n : ℕ) (marks more : List Named) → AreBehind n marks → AreBehind n more → AreBehind n (marks ++ more)
behind_append n [] more first rest = rest
behind_append n (m ∷ marks) more first rest = (first.0, behind_append n marks more first.1 rest)

pub now_behind : (calls number : ℕ) (marks : List Named) → NameNow calls number marks → AreBehind calls marks
now_behind calls number [] names = tt
now_behind calls number (m ∷ marks) names = (omega (arith, names.0), now_behind calls number marks names.1.1)

-- ---- one after the other

pub rises_join : (start : ℕ) (marks more : List Named) → RiseByOne start marks → RiseByOne (last_named start marks) more → RiseByOne start (marks ++ more)
rises_join start [] more rise next = next
rises_join start (m ∷ marks) more rise next = (rise.0, rises_join m.number marks more rise.1 next)

raised : (start number : ℕ) → (number ≡ start) ⊎ (number ≡ start + 1) → start ≤ number
raised start number (inl e) = omega (arith, e)
raised start number (inr e) = omega (arith, e)

last_least : (start : ℕ) (marks : List Named) → RiseByOne start marks → start ≤ last_named start marks
last_least start [] rise = omega arith
last_least start (m ∷ marks) rise = omega (arith, raised start m.number rise.0, last_least m.number marks rise.1)

-- what is named does not depend on the start below the last number
from_start : (start later n : ℕ) (marks : List Named) → start ≤ later → named later marks n ≡ max later (named start marks n)
from_start start later n [] le = omega arith
from_start start later n (m ∷ marks) le = omega (arith, from_start start later n marks le)

pub rises_end : (start n : ℕ) (marks : List Named) → RiseByOne start marks → AreBehind n marks → named start marks n ≡ last_named start marks
rises_end start n [] rise behind = refl
rises_end start n (m ∷ marks) rise behind =
    let e : nat_le m.calls n ≡ true = le-leb m.calls n behind.0 in
    let rest = rises_end m.number n marks rise.1 behind.1 in
    let same = from_start start m.number n marks (raised start m.number rise.0) in
    let least = named_least start n marks in
    rw e (omega (arith, rest, same, least))
