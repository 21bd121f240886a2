-- One write over a durable file: what a crash leaves of it is torn.
use Rattle.std.proofs.Common.{◌≡◌, ℕ, ◌+◌, ◌<◌, ◌≤◌, Bool, true, false, ◌&&◌, min, List, length, take, drop, map, get_or, nat_le, nat_lt, refl, sym, ◌∙◌, ap, arith, ◌⊎◌, inl, inr}
use Rattle.std.specs.List.{list_any, range_with_len}
use Rattle.std.proofs.lemmas.List.{ext_get_or, length-take, length-drop, get_or-take, get_or-drop, drop_all}
use Rattle.std.proofs.lemmas.List.FromFn.{length-map-range_with_len, get_or-map-range_with_len}
use Rattle.std.proofs.lemmas.Bool.{cases_lt, and_left, and_right, lt-leb, le-ltb, or_from}
use Rattle.hex.specs.Hex.{IsBytes}
use Rattle.disk_model.specs.declared.call.Call.TheVariants.{Write}
use Rattle.disk_model.specs.Left.{Unsynced, MayHold, is_within, then_done}
use Rattle.disk_model.specs.Torn.{Torn}
use Rattle.disk_model.proofs.Bytes.{bytes_within}

-- nothing torn at all
pub torn_none : (at n : ℕ) (c : List ℕ) → IsBytes c → Torn at n c c
torn_none at n c bytes = record { before = refl; after = refl; no_shorter = omega arith; no_longer = omega arith; bytes = bytes }

-- What is left after the write, with the bytes of the last sync in its range, might have been left before it, and so is the file.
module _ (u : Unsynced) (file : List ℕ) (only : (d : List ℕ) → MayHold u d → d ≡ file) (synced : IsBytes u.synced) (least : u.least ≤ u.greatest)
    (g at : ℕ) (p : List ℕ) (done : Bool) (old : List ℕ) (c : List ℕ) (held : MayHold (then_done (Write g at p done) old u) c) where
  in_range : ℕ → Bool
  in_range i = nat_le at i && nat_lt i (at + length p)

  patch : Bool → ℕ → ℕ
  patch true i = get_or u.synced i 0
  patch false i = get_or c i 0

  size : ℕ
  size = min (length c) u.greatest

  patched : List ℕ
  unfolding size in_range patch
  patched = map (λ i. patch (in_range i) i) (range_with_len 0 size)

  patched_length : length patched ≡ size
  unfolding patched size in_range patch
  patched_length = length-map-range_with_len (λ i. patch (in_range i) i) 0 size

  patched_at : (i : ℕ) → i < size → get_or patched i 0 ≡ patch (in_range i) i
  unfolding patched size in_range patch
  patched_at i lt = get_or-map-range_with_len (λ i. patch (in_range i) i) 0 size i i 0 lt (omega arith)

  patch_byte : (b : Bool) (i : ℕ) → patch b i < 256
  unfolding patch
  patch_byte true i = synced i
  patch_byte false i = held.bytes i

  patch_stays : (b : Bool) (i : ℕ) → in_range i ≡ b → i < length c → i < length u.synced → list_any (is_within i) u.ranges ≡ false → patch b i ≡ get_or u.synced i 0
  unfolding patch in_range
  patch_stays true i e lt lt' out = refl
  patch_stays false i e lt lt' out = held.stays i lt lt' (or_from (nat_le at i && nat_lt i (at + length p)) (list_any (is_within i) u.ranges) e out)

  patched_held : MayHold u patched
  unfolding size
  patched_held = record {
    no_shorter = omega (arith, patched_length, held.no_shorter, least);
    no_longer = omega (arith, patched_length);
    stays = λ i lt lt' out. patched_at i (omega (arith, patched_length)) ∙ patch_stays (in_range i) i refl (omega (arith, patched_length)) lt' out;
    bytes = bytes_within patched (λ i lt. let e = patched_at i (omega (arith, patched_length)) in omega (arith, e, patch_byte (in_range i) i));
  }

  is_file : patched ≡ file
  is_file = only patched patched_held

  file_length : length file ≡ min (length c) u.greatest
  unfolding size
  file_length = sym (ap length is_file) ∙ patched_length

  patch_out : (b : Bool) (i : ℕ) → b ≡ false → patch b i ≡ get_or c i 0
  unfolding patch
  patch_out b i e = ap (λ b. patch b i) e

  file_at : (i : ℕ) → i < length file → in_range i ≡ false → get_or c i 0 ≡ get_or file i 0
  unfolding size
  file_at i lt out = sym (patch_out (in_range i) i out) ∙ sym (patched_at i (omega (arith, file_length))) ∙ ap (λ l. get_or l i 0) is_file

  before_range : (i : ℕ) → i < at → in_range i ≡ false
  unfolding in_range
  before_range i lt = and_left (nat_le at i) (nat_lt i (at + length p)) (lt-leb at i lt)

  behind_range : (i : ℕ) → at + length p ≤ i → in_range i ≡ false
  unfolding in_range
  behind_range i le = and_right (nat_le at i) (nat_lt i (at + length p)) (le-ltb i (at + length p) le)

  torn_before : at ≤ length file → take at c ≡ take at file
  torn_before within = ext_get_or 0 (take at c) (take at file) (omega (arith, length-take at c, length-take at file, file_length)) (λ i lt.
      let low : i < at = omega (arith, length-take at c) in
      get_or-take at c i 0 low ∙ file_at i (omega arith) (before_range i low) ∙ sym (get_or-take at file i 0 low))

  torn_after : (length c ≤ u.greatest) ⊎ (u.greatest < length c) → drop (at + length p) c ≡ drop (at + length p) file
  torn_after (inl fits) = ext_get_or 0 (drop (at + length p) c) (drop (at + length p) file) (omega (arith, length-drop (at + length p) c, length-drop (at + length p) file, file_length)) (λ i lt.
      get_or-drop (at + length p) c i 0
      ∙ file_at (at + length p + i) (omega (arith, length-drop (at + length p) c, file_length)) (behind_range (at + length p + i) (omega arith))
      ∙ sym (get_or-drop (at + length p) file i 0))
  torn_after (inr longer) = drop_all (at + length p) c (omega (arith, held.no_longer)) ∙ sym (drop_all (at + length p) file (omega (arith, held.no_longer, file_length)))

  cases : (length c ≤ u.greatest) ⊎ (u.greatest < length c)
  cases = turned (cases_lt u.greatest (length c))
    where
      turned : (u.greatest < length c) ⊎ (length c ≤ u.greatest) → (length c ≤ u.greatest) ⊎ (u.greatest < length c)
      turned (inl h) = inr h
      turned (inr h) = inl h

  pub torn_write : at ≤ length file → Torn at (length p) file c
  torn_write within = record {
    before = torn_before within;
    after = torn_after cases;
    no_shorter = omega (arith, file_length);
    no_longer = omega (arith, file_length, held.no_longer);
    bytes = held.bytes;
  }
