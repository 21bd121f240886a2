-- What a read gives may be left of a file; after a sync nothing else.
use Rattle.std.proofs.Common.{◌≡◌, ℕ, ◌+◌, ◌<◌, ◌≤◌, Bool, true, false, ◌&&◌, cond, List, [], ◌∷◌, ◌++◌, length, take, drop, get_or, nat_le, nat_lt, refl, ◌∙◌, arith, ◌⊎◌, inl, inr}
use Rattle.std.specs.List.{list_any}
use Rattle.std.proofs.lemmas.List.{ext_get_or, length-take, get_or-take}
use Rattle.std.proofs.lemmas.Bool.{leb-true, leb-false, ltb-false, and_cases, or_parts}
use Rattle.hex.specs.Hex.{IsBytes}
use Rattle.disk_model.specs.declared.call.Call.{Call}
use Rattle.disk_model.specs.declared.call.Call.TheVariants.{Look, Write, Cut, Sync}
use Rattle.disk_model.specs.Story.{Image, concerns, changed, seen_after}
use Rattle.disk_model.specs.Left.{Unsynced, MayHold, AreBytes, is_within, just_synced, then_done, unsynced_after, written_by}
use Rattle.disk_model.proofs.Bytes.{bytes_take, over_length, over_before, over_behind, over_bytes}

-- ---- just synced

pub held_synced : (file : List ℕ) → IsBytes file → MayHold (just_synced file) file
held_synced file bytes = record { no_shorter = omega arith; no_longer = omega arith; stays = λ i lt lt' out. refl; bytes = bytes }

pub synced_only : (file c : List ℕ) → MayHold (just_synced file) c → c ≡ file
synced_only file c held = ext_get_or 0 c file (omega (arith, held.no_shorter, held.no_longer)) (λ i lt. held.stays i lt (omega (arith, held.no_shorter, held.no_longer)) refl)

-- ---- a place outside a range is before or behind it

pub outside : (at n i : ℕ) → (nat_le at i && nat_lt i (at + n)) ≡ false → (i < at) ⊎ (at + n ≤ i)
outside at n i out = by_part (and_cases (nat_le at i) (nat_lt i (at + n)) out)
  where
    by_part : (nat_le at i ≡ false) ⊎ (nat_lt i (at + n) ≡ false) → (i < at) ⊎ (at + n ≤ i)
    by_part (inl e) = inl (leb-false at i e)
    by_part (inr e) = inr (ltb-false i (at + n) e)

-- ---- what a read gives, call by call

module _ (u : Unsynced) (file : List ℕ) (held : MayHold u file) where
  -- a write that was not done
  begun_held : (g at : ℕ) (p : List ℕ) (done : Bool) → MayHold (then_done (Write g at p done) file u) file
  begun_held g at p done = record {
    no_shorter = held.no_shorter;
    no_longer = omega (arith, held.no_longer);
    stays = λ i lt lt' out. held.stays i lt lt' (or_parts (nat_le at i && nat_lt i (at + length p)) (list_any (is_within i) u.ranges) out).1;
    bytes = held.bytes;
  }

  over_held : (g at : ℕ) (p : List ℕ) → IsBytes p → at ≤ length file → MayHold (then_done (Write g at p true) file u) (take at file ++ p ++ drop (at + length p) file)
  over_held g at p bytes within = record {
    no_shorter = omega (arith, held.no_shorter, over_length at p file within);
    no_longer = omega (arith, held.no_longer, over_length at p file within);
    stays = λ i lt lt' out.
        let parts = or_parts (nat_le at i && nat_lt i (at + length p)) (list_any (is_within i) u.ranges) out in
        same i lt (outside at (length p) i parts.0) ∙ held.stays i (inside i lt (outside at (length p) i parts.0)) lt' parts.1;
    bytes = over_bytes at p file within bytes held.bytes;
  }
    where
      same : (i : ℕ) → i < length (take at file ++ p ++ drop (at + length p) file) → (i < at) ⊎ (at + length p ≤ i) → get_or (take at file ++ p ++ drop (at + length p) file) i 0 ≡ get_or file i 0
      same i lt (inl before) = over_before at p file within i before
      same i lt (inr behind) = over_behind at p file within i behind

      inside : (i : ℕ) → i < length (take at file ++ p ++ drop (at + length p) file) → (i < at) ⊎ (at + length p ≤ i) → i < length file
      inside i lt (inl before) = omega arith
      inside i lt (inr behind) = omega (arith, over_length at p file within)

  wrote_held : (g at : ℕ) (p : List ℕ) → IsBytes p → (b : Bool) → nat_le at (length file) ≡ b → MayHold (then_done (Write g at p true) file u) (cond b (take at file ++ p ++ drop (at + length p) file) file)
  wrote_held g at p bytes true e = over_held g at p bytes (leb-true at (length file) e)
  wrote_held g at p bytes false e = begun_held g at p true

  cut_held : (g n : ℕ) (done : Bool) → MayHold (then_done (Cut g n done) file u) (take n file)
  cut_held g n done = record {
    no_shorter = omega (arith, held.no_shorter, length-take n file);
    no_longer = omega (arith, held.no_longer, length-take n file);
    stays = λ i lt lt' out. get_or-take n file i 0 (omega (arith, length-take n file)) ∙ held.stays i (omega (arith, length-take n file)) lt' out;
    bytes = bytes_take n file held.bytes;
  }

  not_cut_held : (g n : ℕ) (done : Bool) → MayHold (then_done (Cut g n done) file u) file
  not_cut_held g n done = record { no_shorter = omega (arith, held.no_shorter); no_longer = held.no_longer; stays = held.stays; bytes = held.bytes }

  done_held : (call : Call) → IsBytes (written_by call) → MayHold (then_done call file u) (changed call file)
  done_held Look bytes = held
  done_held (Write g at p true) bytes = wrote_held g at p bytes (nat_le at (length file)) refl
  done_held (Write g at p false) bytes = begun_held g at p false
  done_held (Cut g n true) bytes = cut_held g n true
  done_held (Cut g n false) bytes = not_cut_held g n false
  done_held (Sync g true) bytes = held_synced file held.bytes
  done_held (Sync g false) bytes = held

  step_held : (b : Bool) (call : Call) → IsBytes (written_by call) → MayHold (cond b (then_done call file u) u) (cond b (changed call file) file)
  step_held true call bytes = done_held call bytes
  step_held false call bytes = held

pub seen_held : (first : Image) (calls : List Call) (f : ℕ) → AreBytes first calls → MayHold (unsynced_after first calls f) (seen_after first calls f)
unfolding seen_after unsynced_after
seen_held first [] f bytes = held_synced (first f) (bytes f)
seen_held first (call ∷ past) f bytes = step_held (unsynced_after first past f) (seen_after first past f) (seen_held first past f bytes.1) (concerns call f) call bytes.0

-- ---- what was synced are bytes

synced_step : (b : Bool) (call : Call) (u : Unsynced) (file : List ℕ) → IsBytes u.synced → IsBytes file → IsBytes (cond b (then_done call file u) u).synced
synced_step false call u file p q = p
synced_step true Look u file p q = p
synced_step true (Write g at x done) u file p q = p
synced_step true (Cut g n done) u file p q = p
synced_step true (Sync g true) u file p q = q
synced_step true (Sync g false) u file p q = p

pub synced_bytes : (first : Image) (calls : List Call) (f : ℕ) → AreBytes first calls → IsBytes (unsynced_after first calls f).synced
unfolding seen_after unsynced_after
synced_bytes first [] f bytes = bytes f
synced_bytes first (call ∷ past) f bytes = synced_step (concerns call f) call (unsynced_after first past f) (seen_after first past f) (synced_bytes first past f bytes.1) (seen_held first past f bytes.1).bytes
