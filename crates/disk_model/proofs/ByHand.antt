-- What a crash may leave, as a test of bytes that are written out.
use Rattle.std.proofs.Common.{◌≡◌, ℕ, ◌<◌, ◌≤◌, zero, suc, Bool, true, false, ◌==◌, ◌&&◌, List, length, get_or, nat_le, nat_lt, subst, arith, ◌⊎◌, inl, inr}
use Rattle.std.specs.List.{list_any}
use Rattle.std.proofs.lemmas.Bool.{leb-true, ltb-true, lt-ltb, eqb-true, and_parts, cases_lt}
use Rattle.hex.specs.Hex.{IsBytes}
use Rattle.disk_model.specs.declared.call.Call.{Call}
use Rattle.disk_model.specs.Story.{Image}
use Rattle.disk_model.specs.Left.{Unsynced, MayHold, LeftAfter, AreBytes, is_within, unsynced_after}
use Rattle.disk_model.proofs.Bytes.{bytes_within}

unfoldable pub all_below : ℕ → (ℕ → Bool) → Bool
all_below zero test = true
all_below (suc n) test = test n && all_below n test

-- a byte inside the old end that was not written is the same
unfoldable pub stays_at : Bool → Bool → Bool → Bool
stays_at false written same = true
stays_at true true same = true
stays_at true false same = same

unfoldable pub held_test : Unsynced → List ℕ → Bool
held_test u c = nat_le u.least (length c) && (nat_le (length c) u.greatest
    && (all_below (length c) (λ i. stays_at (nat_lt i (length u.synced)) (list_any (is_within i) u.ranges) (get_or c i 0 == get_or u.synced i 0))
    && all_below (length c) (λ i. nat_lt (get_or c i 0) 256)))

below_at : (n : ℕ) (test : ℕ → Bool) → all_below n test ≡ true → (i : ℕ) → i < n → test i ≡ true
unfolding all_below
below_at zero test e i lt = absurd (omega arith)
below_at (suc n) test e i lt = by_place (below_at n test) (cases_lt i n)
  where
    parts : (test n ≡ true) × (all_below n test ≡ true)
    parts = and_parts (test n) (all_below n test) e

    by_place : (all_below n test ≡ true → (i : ℕ) → i < n → test i ≡ true) → (i < n) ⊎ (n ≤ i) → test i ≡ true
    by_place so_far (inl below) = so_far parts.1 i below
    by_place so_far (inr last) = let is : n ≡ i = omega arith in subst (λ k. test k ≡ true) is parts.0

stays_same : (a b c : Bool) → stays_at a b c ≡ true → a ≡ true → b ≡ false → c ≡ true
unfolding stays_at
stays_same a b c e p q = subst (λ b. stays_at true b c ≡ true) q (subst (λ a. stays_at a b c ≡ true) p e)

pub held_by_test : (u : Unsynced) (c : List ℕ) → held_test u c ≡ true → MayHold u c
unfolding held_test
held_by_test u c e =
    let one = and_parts (nat_le u.least (length c)) _ e in
    let two = and_parts (nat_le (length c) u.greatest) _ one.1 in
    let three = and_parts (all_below (length c) (λ i. stays_at (nat_lt i (length u.synced)) (list_any (is_within i) u.ranges) (get_or c i 0 == get_or u.synced i 0))) _ two.1 in
    record {
      no_shorter = leb-true u.least (length c) one.0;
      no_longer = leb-true (length c) u.greatest two.0;
      stays = λ i lt lt' out. eqb-true (get_or c i 0) (get_or u.synced i 0)
          (stays_same (nat_lt i (length u.synced)) (list_any (is_within i) u.ranges) (get_or c i 0 == get_or u.synced i 0)
          (below_at (length c) (λ i. stays_at (nat_lt i (length u.synced)) (list_any (is_within i) u.ranges) (get_or c i 0 == get_or u.synced i 0)) three.0 i lt)
          (lt-ltb i (length u.synced) lt') out);
      bytes = bytes_within c (λ i lt. ltb-true (get_or c i 0) 256 (below_at (length c) (λ i. nat_lt (get_or c i 0) 256) three.1 i lt));
    }

pub bytes_by_test : (xs : List ℕ) → all_below (length xs) (λ i. nat_lt (get_or xs i 0) 256) ≡ true → IsBytes xs
bytes_by_test xs e = bytes_within xs (λ i lt. ltb-true (get_or xs i 0) 256 (below_at (length xs) (λ i. nat_lt (get_or xs i 0) 256) e i lt))

pub left_by_test : (first : Image) (calls : List Call) (f : ℕ) (c : List ℕ) → AreBytes first calls → held_test (unsynced_after first calls f) c ≡ true → LeftAfter first calls f c
left_by_test first calls f c bytes e = record { story = bytes; held = held_by_test (unsynced_after first calls f) c e }
