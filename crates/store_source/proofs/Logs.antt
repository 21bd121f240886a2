-- Pieces at the ends of logs, and where logs end behind an entry.
use Rattle.std.proofs.Common.{◌≡◌, ◌≢◌, ◌⊎◌, inl, inr, ℕ, ◌+◌, ◌<◌, ◌≤◌, ◌==◌, zero, suc, nat_le, Bool, true, false, List, [], ◌∷◌, ◌++◌, length, take, drop, get_or, refl, sym, ◌∙◌, ap, subst, arith, append_assoc}
use Rattle.std.specs.Prelude.{if◌then◌else◌}
use Rattle.std.proofs.lemmas.Bool.{cases_eq, leb-true, le-leb, eq-eqb, ne_eqb, cond-true, cond-false}
use Rattle.std.proofs.lemmas.List.{append-nil, length-append, length-take-le, take-append-drop, take-append-le, take-take, take_at}
use Rattle.disk_model.specs.Story.{Image, overwritten}
use Rattle.session_model.specs.log_entries.declared.entries.Item.{Item}
use Rattle.session_model.specs.log_entries.declared.entries.Entry.{Entry}
use Rattle.session_model.specs.log_entries.declared.entries.Entry.TheVariants.{Transaction, Definition, LogStart}
use Rattle.session_model.specs.log_model.Log.{LogPlace, transaction, definition, rotation, entry_bytes, head}
use Rattle.session_model.specs.log_model.Written.{bytes_of, total}
use Rattle.store_model.specs.Held.{LogEnd, Held, last_end, with_last_end}
use Rattle.store_model.specs.Stores.{AreLong}
use Rattle.store_model.specs.Entries.{writer_at, old_end, ends_behind}
use Rattle.store_model.specs.Laws.{HasLog}
use Rattle.commit_store.specs.Keeping.{positions}
use Rattle.waiting_entries.specs.Added.{rotation_at, added}
use Rattle.waiting_entries.specs.Waiting.{waiting_of}
use Rattle.durable_runs.specs.Sources.{end_of}
use Rattle.session_model.proofs.of_log_model.Growing.{head_length}
use Rattle.session_model.proofs.of_log_model.ReadAgain.{length-bytes_of}
use Rattle.store_source.specs.Writing.{put_by}
use Rattle.store_source.proofs.Rotations.{rotation_size}

-- ---- a piece over what stands in a file

over_is : (at : ℕ) (p file : List ℕ) → at ≤ length file → overwritten at p file ≡ take at file ++ p ++ drop (at + length p) file
over_is at p file le = cond-true (nat_le at (length file)) (take at file ++ p ++ drop (at + length p) file) file (le-leb at (length file) le)

none_step : (at : ℕ) (file : List ℕ) (b : Bool) → (if b then take at file ++ [] ++ drop (at + 0) file else file) ≡ file
none_step at file true =
    let none : at + 0 ≡ at = omega arith in
    ap (λ (k : ℕ). take at file ++ [] ++ drop k file) none ∙ ap (λ (l : List ℕ). l ++ drop at file) (append-nil (take at file)) ∙ take-append-drop at file
none_step at file false = refl

-- no piece changes nothing
pub over_none : (at : ℕ) (file : List ℕ) → overwritten at [] file ≡ file
over_none at file = none_step at file (nat_le at (length file))

before_step : (e at : ℕ) (p file : List ℕ) (b : Bool) → e ≤ at → nat_le at (length file) ≡ b
    → take e (if b then take at file ++ p ++ drop (at + length p) file else file) ≡ take e file
before_step e at p file false le is = refl
before_step e at p file true le is =
    let within = leb-true at (length file) is in
    let size = length-take-le at file within in
    ap (take e) (append_assoc (take at file) p (drop (at + length p) file))
    ∙ take-append-le e (take at file) (p ++ drop (at + length p) file) (omega (arith, size))
    ∙ take-take e at file le

-- what stands before the piece stays
pub over_before : (e at : ℕ) (p file : List ℕ) → e ≤ at → take e (overwritten at p file) ≡ take e file
over_before e at p file le = before_step e at p file (nat_le at (length file)) le refl

-- the piece stands behind that
pub over_take : (at : ℕ) (p file : List ℕ) → at ≤ length file → take (at + length p) (overwritten at p file) ≡ take at file ++ p
over_take at p file le =
    let size = length-take-le at file le in
    ap (take (at + length p)) (over_is at p file le)
    ∙ take_at (take at file ++ p) (drop (at + length p) file) (at + length p) (omega (arith, size, length-append (take at file) p))

pub over_long : (at : ℕ) (p file : List ℕ) → at ≤ length file → at + length p ≤ length (overwritten at p file)
over_long at p file le =
    let size = length-take-le at file le in
    omega (
      arith,
      ap length (over_is at p file le),
      length-append (take at file ++ p) (drop (at + length p) file),
      length-append (take at file) p,
      size,
    )

-- ---- where logs end

pub end_last : (ends : List LogEnd) → end_of (length ends) ends ≡ last_end ends
end_last [] = refl
end_last (e ∷ []) = refl
end_last (e ∷ f ∷ ends) = end_last (f ∷ ends)

pub end_past : (n : ℕ) (ends : List LogEnd) → length ends < n → end_of n ends ≡ 0
end_past n [] lt = refl
end_past zero (e ∷ ends) lt = refl
end_past (suc zero) (e ∷ ends) lt = absurd (omega (arith, lt))
end_past (suc (suc n)) (e ∷ ends) lt = end_past (suc n) ends (omega (arith, lt))

last_set : (pos : ℕ) (ends : List LogEnd) → 0 < length ends → end_of (length ends) (with_last_end pos ends) ≡ pos
last_set pos [] some = absurd (omega (arith, some))
last_set pos (e ∷ []) some = refl
last_set pos (e ∷ f ∷ ends) some = last_set pos (f ∷ ends) (omega arith)

last_other : (n pos : ℕ) (ends : List LogEnd) → n ≢ length ends → end_of n (with_last_end pos ends) ≡ end_of n ends
last_other n pos [] ne = refl
last_other zero pos (e ∷ []) ne = refl
last_other (suc zero) pos (e ∷ []) ne = absurd (ne refl)
last_other (suc (suc n)) pos (e ∷ []) ne = refl
last_other zero pos (e ∷ f ∷ ends) ne = refl
last_other (suc zero) pos (e ∷ f ∷ ends) ne = refl
last_other (suc (suc n)) pos (e ∷ f ∷ ends) ne = last_other (suc n) pos (f ∷ ends) (λ same. ne (ap suc same))

pub last_count : (pos : ℕ) (ends : List LogEnd) → length (with_last_end pos ends) ≡ length ends
last_count pos [] = refl
last_count pos (e ∷ []) = refl
last_count pos (e ∷ f ∷ ends) = ap suc (last_count pos (f ∷ ends))

more_new : (n : ℕ) (ends : List LogEnd) (x : LogEnd) → n ≡ length ends + 1 → end_of n (ends ++ x ∷ []) ≡ x.pos
more_new zero ends x is = absurd (omega (arith, is))
more_new (suc zero) [] x is = refl
more_new (suc zero) (e ∷ ends) x is = absurd (omega (arith, is))
more_new (suc (suc n)) [] x is = absurd (omega (arith, is))
more_new (suc (suc n)) (e ∷ ends) x is = more_new (suc n) ends x (omega (arith, is))

more_other : (n : ℕ) (ends : List LogEnd) (x : LogEnd) → n ≢ length ends + 1 → end_of n (ends ++ x ∷ []) ≡ end_of n ends
more_other zero [] x ne = refl
more_other (suc zero) [] x ne = absurd (ne refl)
more_other (suc (suc n)) [] x ne = refl
more_other zero (e ∷ ends) x ne = refl
more_other (suc zero) (e ∷ ends) x ne = refl
more_other (suc (suc n)) (e ∷ ends) x ne = more_other (suc n) ends x (λ same. ne (omega (arith, same)))

-- ---- what an entry puts behind a log

added_apart : (n : ℕ) (p : LogPlace) (bytes : List ℕ) → n ≢ p.log → (if n == p.log then bytes else []) ≡ []
added_apart n p bytes ne = cond-false (n == p.log) bytes [] (ne_eqb n p.log ne)

pub added_here : (n : ℕ) (bytes other : List ℕ) → (if n == n then bytes else other) ≡ bytes
added_here n bytes other = cond-true (n == n) bytes other (eq-eqb n n refl)

-- a transaction or a definition
module _ (h : Held) (bytes : List ℕ) (pos : ℕ) (some : 0 < length h.ends) (size : pos ≡ last_end h.ends + length bytes) where
  ends_one : (n : ℕ) → (n ≡ length h.ends) ⊎ (n ≡ length h.ends → ⊥)
      → end_of n (with_last_end pos h.ends) ≡ end_of n h.ends + length (if n == length h.ends then bytes else [])
  ends_one n (inl here) =
      subst (λ (m : ℕ). end_of m (with_last_end pos h.ends) ≡ end_of m h.ends + length (if m == length h.ends then bytes else [])) (sym here)
      (omega (
        arith,
        last_set pos h.ends some,
        end_last h.ends,
        ap length (added_here (length h.ends) bytes []),
        size,
      ))
  ends_one n (inr ne) =
      omega (arith, last_other n pos h.ends ne, ap length (added_apart n (writer_at h) bytes ne))

-- the start of a log
module _ (stamp server : ℕ) (h : Held) where
  abbrev At : ℕ → Type 0
  At n = end_of n (ends_behind (LogStart stamp server) h.number h) ≡ end_of n h.ends + length (added n (LogStart stamp server) h.number (writer_at h))

  abbrev new : LogEnd
  new = record { pos = 123 }

  old : List LogEnd
  old = with_last_end (old_end (writer_at h)) h.ends

  count : length old ≡ length h.ends
  unfolding old
  count = last_count (old_end (writer_at h)) h.ends

  at_next : At (length h.ends + 1)
  unfolding old
  at_next =
      let first : (length h.ends + 1 == length h.ends) ≡ false = ne_eqb (length h.ends + 1) (length h.ends) (λ same. absurd (omega (arith, same))) in
      let bytes : added (length h.ends + 1) (LogStart stamp server) h.number (writer_at h) ≡ head stamp server =
      cond-false (length h.ends + 1 == length h.ends) (rotation_at stamp server (writer_at h)) (if length h.ends + 1 == length h.ends + 1 then head stamp server else []) first
      ∙ added_here (length h.ends + 1) (head stamp server) [] in
      let end : end_of (length h.ends + 1) (old ++ new ∷ []) ≡ 123 = more_new (length h.ends + 1) old new (ap (λ (k : ℕ). k + 1) (sym count)) in
      omega (arith, end, ap length bytes, head_length stamp server, end_past (length h.ends + 1) h.ends (omega arith))

  at_other : (n : ℕ) → n ≢ length h.ends → n ≢ length h.ends + 1 → At n
  unfolding old
  at_other n ne ne' =
      let bytes : added n (LogStart stamp server) h.number (writer_at h) ≡ [] =
      cond-false (n == length h.ends) (rotation_at stamp server (writer_at h)) (if n == length h.ends + 1 then head stamp server else []) (ne_eqb n (length h.ends) ne)
      ∙ cond-false (n == length h.ends + 1) (head stamp server) [] (ne_eqb n (length h.ends + 1) ne') in
      let end = more_other n old new (λ same. ne' (same ∙ ap (λ (k : ℕ). k + 1) count)) ∙ last_other n (old_end (writer_at h)) h.ends ne in
      omega (arith, end, ap length bytes)

  at_last : At (length h.ends)
  unfolding old
  at_last =
      let bytes : added (length h.ends) (LogStart stamp server) h.number (writer_at h) ≡ rotation_at stamp server (writer_at h) =
      added_here (length h.ends) (rotation_at stamp server (writer_at h)) (if length h.ends == length h.ends + 1 then head stamp server else []) in
      let end = more_other (length h.ends) old new (λ same. absurd (omega (arith, same, count))) in
      omega (arith, end, ap length bytes, by h.ends)
    where
      named : (ends : List LogEnd) (pos : ℕ) → length (bytes_of server pos (rotation stamp (length ends + 1))) ≡ 40
      named ends pos = length-bytes_of server pos (rotation stamp (length ends + 1)) ∙ rotation_size stamp (length ends + 1)

      by : (ends : List LogEnd) → end_of (length ends) (with_last_end (old_end (record { log = length ends; pos = last_end ends })) ends)
          ≡ end_of (length ends) ends + length (rotation_at stamp server (record { log = length ends; pos = last_end ends }))
      by [] = refl
      by (e ∷ ends) =
          let begun : (length (e ∷ ends) == 0) ≡ false = ne_eqb (length (e ∷ ends)) 0 (λ same. absurd (omega (arith, same))) in
          let place : LogPlace = record { log = length (e ∷ ends); pos = last_end (e ∷ ends) } in
          let end : old_end place ≡ last_end (e ∷ ends) + 40 = cond-false (length (e ∷ ends) == 0) 0 (last_end (e ∷ ends) + 40) begun in
          let name : rotation_at stamp server place ≡ bytes_of server (last_end (e ∷ ends)) (rotation stamp (length (e ∷ ends) + 1)) =
          cond-false (length (e ∷ ends) == 0) [] (bytes_of server (last_end (e ∷ ends)) (rotation stamp (length (e ∷ ends) + 1))) begun in
          omega (
            arith,
            last_set (old_end place) (e ∷ ends) (omega arith),
            end,
            end_last (e ∷ ends),
            ap length name,
            named (e ∷ ends) (last_end (e ∷ ends)),
          )

  at : (n : ℕ) → At n
  at n = by (cases_eq n (length h.ends)) (cases_eq n (length h.ends + 1))
    where
      by : (n ≡ length h.ends) ⊎ (n ≡ length h.ends → ⊥) → (n ≡ length h.ends + 1) ⊎ (n ≡ length h.ends + 1 → ⊥) → At n
      by (inl here) other = subst (λ (m : ℕ). At m) (sym here) at_last
      by (inr ne) (inl next) = subst (λ (m : ℕ). At m) (sym next) at_next
      by (inr ne) (inr ne') = at_other n ne ne'

-- each log ends behind what an entry puts there
pub ends_are : (e : Entry Item) (h : Held) → HasLog e h → (n : ℕ) → end_of n (ends_behind e h.number h) ≡ end_of n h.ends + length (added n e h.number (writer_at h))
ends_are (Transaction stamp server is) h has n =
    let bytes = length-bytes_of server (last_end h.ends) (transaction stamp (h.number + 1) is) in
    ends_one h (bytes_of server (last_end h.ends) (transaction stamp (h.number + 1) is)) (last_end h.ends + total (transaction stamp (h.number + 1) is)) has
    (omega (arith, bytes)) n (cases_eq n (length h.ends))
ends_are (Definition stamp server i) h has n =
    let bytes = length-bytes_of server (last_end h.ends) (definition stamp i) in
    ends_one h (bytes_of server (last_end h.ends) (definition stamp i)) (last_end h.ends + total (definition stamp i)) has
    (omega (arith, bytes)) n (cases_eq n (length h.ends))
ends_are (LogStart stamp server) h has n = at stamp server h n

-- ---- what waits is that

pub next_apart : (log : ℕ) (bytes other : List ℕ) → (if log + 1 == log then bytes else other) ≡ other
next_apart log bytes other = cond-false (log + 1 == log) bytes other (ne_eqb (log + 1) log (λ same. absurd (omega (arith, same))))

abbrev Put : (tail head : List ℕ) (log n : ℕ) → List ℕ
Put tail head log n = if n == log then tail else if n == log + 1 then head else []

put_none : (b c : Bool) (tail : List ℕ) → (if b then tail else if c then [] else []) ≡ (if b then tail else [])
put_none true c tail = refl
put_none false true tail = refl
put_none false false tail = refl

-- bytes for the last log alone
one_put : (bytes : List ℕ) (log n : ℕ) → (if n == log then bytes else []) ≡ Put (if log == log then bytes else []) (if log + 1 == log then bytes else []) log n
one_put bytes log n =
    sym (ap (λ (tail : List ℕ). Put tail (if log + 1 == log then bytes else []) log n) (added_here log bytes [])
    ∙ ap (λ (head : List ℕ). Put bytes head log n) (next_apart log bytes [])
    ∙ put_none (n == log) (n == log + 1) bytes)

pub added_is : (e : Entry Item) (number : ℕ) (p : LogPlace) (n : ℕ) → added n e number p ≡ put_by (waiting_of e number p) p.log n
added_is (Transaction stamp server is) number p n = one_put (entry_bytes (Transaction stamp server is) number p) p.log n
added_is (Definition stamp server i) number p n = one_put (entry_bytes (Definition stamp server i) number p) p.log n
added_is (LogStart stamp server) number p n =
    let name = rotation_at stamp server p in
    let first = head stamp server in
    sym (ap (λ (tail : List ℕ). Put tail (added (p.log + 1) (LogStart stamp server) number p) p.log n) (added_here p.log name (if p.log == p.log + 1 then first else []))
    ∙ ap (λ (head : List ℕ). Put name head p.log n)
    (next_apart p.log name (if p.log + 1 == p.log + 1 then first else []) ∙ added_here (p.log + 1) first []))

-- where no log has begun, nothing waits for one
pub none_waits : (e : Entry Item) (h : Held) → HasLog e h → h.ends ≡ [] → added (length h.ends) e h.number (writer_at h) ≡ []
none_waits (Transaction stamp server is) h has none = absurd (omega (arith, has, ap length none))
none_waits (Definition stamp server i) h has none = absurd (omega (arith, has, ap length none))
none_waits (LogStart stamp server) h has none =
    subst (λ (ends : List LogEnd). added (length ends) (LogStart stamp server) h.number (record { log = length ends; pos = last_end ends }) ≡ []) (sym none) refl

-- ---- logs as long as they end

long_from : (k : ℕ) (ends : List LogEnd) (image : Image) → AreLong (k + 1) ends image → (n : ℕ) → end_of n ends ≤ length (image (k + n))
long_from k [] image are n = omega arith
long_from k (e ∷ ends) image are zero = omega arith
long_from k (e ∷ ends) image are (suc zero) = are.0
long_from k (e ∷ ends) image are (suc (suc n)) =
    let same : k + 1 + suc n ≡ k + suc (suc n) = omega arith in
    subst (λ (f : ℕ). end_of (suc n) ends ≤ length (image f)) same (long_from (k + 1) ends image are.1 (suc n))

pub long_ends : (ends : List LogEnd) (image : Image) → AreLong 8 ends image → (n : ℕ) → end_of n ends ≤ length (image (7 + n))
long_ends ends image are n = long_from 7 ends image are n

from_ends : (k : ℕ) (ends : List LogEnd) (image : Image) → ((n : ℕ) → end_of (suc n) ends ≤ length (image (k + n))) → AreLong k ends image
from_ends k [] image each = tt
from_ends k (e ∷ ends) image each = (subst (λ (f : ℕ). e.pos ≤ length (image f)) first (each zero), from_ends (k + 1) ends image (λ n. next n))
  where
    first : k + 0 ≡ k
    first = omega arith

    next : (n : ℕ) → end_of (suc n) ends ≤ length (image (k + 1 + n))
    next n = let same : k + suc n ≡ k + 1 + n = omega arith in
        subst (λ (f : ℕ). end_of (suc n) ends ≤ length (image f)) same (each (suc n))

pub ends_long : (ends : List LogEnd) (image : Image) → ((n : ℕ) → end_of n ends ≤ length (image (7 + n))) → AreLong 8 ends image
ends_long ends image each = from_ends 8 ends image (λ n. next n)
  where
    next : (n : ℕ) → end_of (suc n) ends ≤ length (image (8 + n))
    next n = let same : 7 + suc n ≡ 8 + n = omega arith in
        subst (λ (f : ℕ). end_of (suc n) ends ≤ length (image f)) same (each (suc n))

-- ---- the code's ends

pub last_position : (ends : List LogEnd) (n d : ℕ) → length ends ≡ suc n → get_or (positions ends) n d ≡ last_end ends
last_position [] n d is = absurd (omega (arith, is))
last_position (e ∷ []) zero d is = refl
last_position (e ∷ []) (suc n) d is = absurd (omega (arith, is))
last_position (e ∷ f ∷ ends) zero d is = absurd (omega (arith, is))
last_position (e ∷ f ∷ ends) (suc n) d is = last_position (f ∷ ends) n d (omega (arith, is))

pub count_positions : (ends : List LogEnd) → length (positions ends) ≡ length ends
count_positions [] = refl
count_positions (e ∷ ends) = ap suc (count_positions ends)
