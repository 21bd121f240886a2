-- The numbers of a source's store are within its bounds.
use Rattle.std.proofs.Common.{◌≡◌, ℕ, suc, ◌+◌, ◌%◌, ◌<◌, ◌≤◌, ◌^◌, Bool, true, false, cond, eqb, leb, ltb, List, [], ◌∷◌, ◌++◌, length, take, drop, Option, Some, None, Result, Ok, Err, refl, ap, subst, arith}
use Rattle.std.specs.Prelude.{◌&&◌, ◌||◌}
use Rattle.std.specs.List.{AllByRecursion}
use Rattle.std.specs.Option.{option_and_then, option_map}
use Rattle.std.proofs.lemmas.Bool.{and_from, and_parts, cond-true, eqb-true, le-leb, leb-true, lt-ltb}
use Rattle.std.proofs.lemmas.List.{length-append}
use Rattle.byte_fields.specs.Field.{number_at}
use Rattle.disk_model.specs.Story.{Image}
use Rattle.store_model.specs.log_model.Images.{Read, and_then}
use Rattle.store_model.specs.sql_reach.catalog_rules.Bases.{Base}
use Rattle.store_model.specs.declared.record.Kind.TheVariants.{Source}
use Rattle.store_model.specs.declared.record.Head.{Head}
use Rattle.store_model.specs.declared.record.Record.{Record}
use Rattle.store_model.specs.declared.record.Record.TheVariants.{Transaction, Definition, LogStart, TransactionApplied, DefinitionApplied, PlaceMoved}
use Rattle.store_model.specs.Reading.{all_behind, number_of, read_as, text_behind, to_the_end}
use Rattle.store_model.specs.Bodies.{changes_in, head_in, record_of, record_of_kind, with_changes, with_old_end, with_text}
use Rattle.store_model.specs.Held.{Held, LogEnd, applied, begins_log, bodies_applied, body_applied, changed, committed, defined_by, first_read, is_next_commit, latest_end, latest_old_end, log_begun, most_committed, most_logs, nothing_held, where_so, with_last_end}
use Rattle.store_model.specs.Snapshots.{HasPlaces, are_ends, base_in, end_in, ends_if, ends_in, generation_in, held_in, is_open, of_file, snapshot_in, snapshot_of}
use Rattle.store_model.specs.Stores.{Spot, Stands, begun_by, begun_from, begun_in, greater, greater_if}

-- what a source's store holds is within its bounds
record Sound (h : Held) : Type 0 where
  pub number : h.number ≤ most_committed
  pub place : h.place ≡ first_read
  pub few : length h.ends ≤ most_logs
  pub ends : are_ends h.ends ≡ true

-- ---- ends

last_length : (pos : ℕ) (ends : List LogEnd) → length (with_last_end pos ends) ≡ length ends
last_length pos [] = refl
last_length pos (e ∷ []) = refl
last_length pos (e ∷ f ∷ ends) = ap (λ n. suc n) (last_length pos (f ∷ ends))

last_ends : (pos : ℕ) (ends : List LogEnd) → pos ≤ latest_end → are_ends ends ≡ true
    → are_ends (with_last_end pos ends) ≡ true
last_ends pos [] low are = refl
last_ends pos (e ∷ []) low are = le-leb pos latest_end low
last_ends pos (e ∷ f ∷ []) low are = and_from (leb e.pos latest_old_end) (leb pos latest_end) (and_parts (leb e.pos latest_old_end) (leb f.pos latest_end) are).0 (le-leb pos latest_end low)
last_ends pos (e ∷ f ∷ g ∷ ends) low are =
    let two = and_parts (leb e.pos latest_old_end) (are_ends (f ∷ g ∷ ends)) are in
    and_from (leb e.pos latest_old_end) (are_ends (with_last_end pos (f ∷ g ∷ ends))) two.0 (last_ends pos (f ∷ g ∷ ends) low two.1)

abbrev ends_begun : (old pos : ℕ) → List LogEnd → List LogEnd
ends_begun old pos ends = with_last_end old ends ++ record { pos = pos } ∷ []

begun_ends : (old pos : ℕ) (ends : List LogEnd) → old ≤ latest_old_end → pos ≤ latest_end → are_ends ends ≡ true
    → are_ends (ends_begun old pos ends) ≡ true
begun_ends old pos [] low last are = le-leb pos latest_end last
begun_ends old pos (e ∷ []) low last are = and_from (leb old latest_old_end) (leb pos latest_end) (le-leb old latest_old_end low) (le-leb pos latest_end last)
begun_ends old pos (e ∷ f ∷ []) low last are =
    and_from (leb e.pos latest_old_end) (are_ends (ends_begun old pos (f ∷ []))) (and_parts (leb e.pos latest_old_end) (leb f.pos latest_end) are).0
    (begun_ends old pos (f ∷ []) low last (and_parts (leb e.pos latest_old_end) (leb f.pos latest_end) are).1)
begun_ends old pos (e ∷ f ∷ g ∷ ends) low last are =
    let two = and_parts (leb e.pos latest_old_end) (are_ends (f ∷ g ∷ ends)) are in
    and_from (leb e.pos latest_old_end) (are_ends (ends_begun old pos (f ∷ g ∷ ends))) two.0 (begun_ends old pos (f ∷ g ∷ ends) low last two.1)

all_low : (ends : List LogEnd) → are_ends ends ≡ true → AllByRecursion (λ (e : LogEnd). e.pos < 2 ^ 32) ends
all_low [] are = tt
all_low (e ∷ []) are = let low = leb-true e.pos latest_end are in (omega (arith, low), tt)
all_low (e ∷ f ∷ ends) are =
    let two = and_parts (leb e.pos latest_old_end) (are_ends (f ∷ ends)) are in
    let low = leb-true e.pos latest_old_end two.0 in
    (omega (arith, low), all_low (f ∷ ends) two.1)

-- ---- what is read

abbrev Says : {X : Type 0} → (X → Type 0) → Read X → Type 0
Says P None = Unit {0}
Says P (Some (x, rest)) = P x

any_says : {X : Type 0} (r : Read X) → Says (λ _. Unit {0}) r
any_says None = tt
any_says (Some (x, rest)) = tt

then_says : {X Y : Type 0} (P : Y → Type 0) (Q : X → Type 0) (f : X → List ℕ → Read Y) (r : Read X) → Says Q r
    → ((x : X) (rest : List ℕ) → Q x → Says P (f x rest)) → Says P (and_then f r)
then_says P Q f None s g = tt
then_says P Q f (Some (x, rest)) s g = g x rest s

as_says : {X Y : Type 0} (P : Y → Type 0) (Q : X → Type 0) (make : X → Y) (r : Read X) → Says Q r
    → ((x : X) → Q x → P (make x)) → Says P (read_as make r)
as_says P Q make None s g = tt
as_says P Q make (Some (x, rest)) s g = g x s

record AreSound (ends : List LogEnd) : Type 0 where
  pub few : length ends ≤ most_logs
  pub ends_are : are_ends ends ≡ true

ends_say : (bytes : List ℕ) → Says AreSound (ends_in bytes)
ends_say bytes = then_says AreSound (λ _. Unit {0}) (λ ends rest. option_map (λ es. (es, rest)) (ends_if ends)) (all_behind 4 end_in bytes) (any_says (all_behind 4 end_in bytes))
    (λ ends rest u. by ends rest (ltb 0 (length ends) && leb (length ends) most_logs && are_ends ends) refl)
  where
    by : (ends : List LogEnd) (rest : List ℕ) (z : Bool)
        → (ltb 0 (length ends) && leb (length ends) most_logs && are_ends ends) ≡ z
        → Says AreSound (option_map (λ es. (es, rest)) (cond z (Some ends) None))
    by ends rest false is = tt
    by ends rest true is =
        let two = and_parts (ltb 0 (length ends) && leb (length ends) most_logs) (are_ends ends) is in
        let few = and_parts (ltb 0 (length ends)) (leb (length ends) most_logs) two.0 in
        record { few = leb-true (length ends) most_logs few.1; ends_are = two.1 }

held_says : (number : ℕ) (bytes : List ℕ) → Says Sound (held_in Source number bytes)
held_says number bytes = by (leb number most_committed) refl
  where
    read : Read Held
    read = and_then (λ ends rest. read_as (λ base. record { base = base; number = number; ends = ends; place = first_read }) (base_in rest)) (ends_in bytes)

    by : (z : Bool) → leb number most_committed ≡ z → Says Sound (cond z read None)
    by false is = tt
    by true is = then_says Sound AreSound (λ ends rest. read_as (λ base. record { base = base; number = number; ends = ends; place = first_read }) (base_in rest)) (ends_in bytes) (ends_say bytes)
        (λ ends rest sound. as_says Sound (λ _. Unit {0}) (λ base. record { base = base; number = number; ends = ends; place = first_read }) (base_in rest) (any_says (base_in rest))
        (λ base u. record { number = leb-true number most_committed is; place = refl; few = sound.few; ends = sound.ends_are }))

abbrev Begun : Type 0
Begun = ℕ × Held

abbrev SoundBegun : Begun → Type 0
SoundBegun b = Sound b.1

generation_says : (node : ℕ) (bytes : List ℕ) → Says SoundBegun (generation_in Source node bytes)
generation_says node bytes = by (eqb node 1)
  where
    read : Read Begun
    read = and_then (λ generation rest. read_as (λ h. (generation, h)) (and_then (held_in Source) (number_of 8 rest))) (number_of 8 bytes)

    by : (z : Bool) → Says SoundBegun (cond z read None)
    by false = tt
    by true = then_says SoundBegun (λ _. Unit {0}) (λ generation rest. read_as (λ h. (generation, h)) (and_then (held_in Source) (number_of 8 rest))) (number_of 8 bytes) (any_says (number_of 8 bytes))
        (λ generation rest u. as_says SoundBegun Sound (λ h. (generation, h)) (and_then (held_in Source) (number_of 8 rest))
        (then_says Sound (λ _. Unit {0}) (held_in Source) (number_of 8 rest) (any_says (number_of 8 rest)) (λ number rest' u. held_says number rest')) (λ h sound. sound))

abbrev Holds : Option Begun → Type 0
Holds None = Unit {0}
Holds (Some b) = SoundBegun b

end_holds : (r : Read Begun) → Says SoundBegun r → Holds (to_the_end r)
end_holds None s = tt
end_holds (Some (b, [])) s = s
end_holds (Some (b, x ∷ rest)) s = tt

body_holds : (body : List ℕ) → Holds (snapshot_of Source body)
unfolding snapshot_of
body_holds body = end_holds (and_then (generation_in Source) (number_of 1 body))
    (then_says SoundBegun (λ _. Unit {0}) (generation_in Source) (number_of 1 body) (any_says (number_of 1 body)) (λ node rest u. generation_says node rest))

kept_holds : (f : ℕ) (o : Option Begun) → Holds o → Holds (option_and_then (of_file f) o)
kept_holds f None h = tt
kept_holds f (Some b) h = by (eqb (b.0 % 2) f)
  where
    by : (z : Bool) → Holds (cond z (Some b) None)
    by true = h
    by false = tt

file_holds : (f : ℕ) (file : List ℕ) → Holds (snapshot_in Source f file)
file_holds f file = by (leb (9 + number_at 1 8 file) (length file))
  where
    by : (z : Bool)
        → Holds (cond z (option_and_then (of_file f) (snapshot_of Source (take (number_at 1 8 file) (drop 9 file)))) None)
    by true = kept_holds f (snapshot_of Source (take (number_at 1 8 file) (drop 9 file))) (body_holds (take (number_at 1 8 file) (drop 9 file)))
    by false = tt

-- ---- what the journal begins from

abbrev HoldsIf : Result (Option Begun) Spot → Type 0
HoldsIf (Ok o) = Holds o
HoldsIf (Err spot) = Unit {0}

by_holds : (f : ℕ) (o : Option Begun) → Holds o → HoldsIf (begun_by f o)
by_holds f None h = tt
by_holds f (Some b) h = h

in_holds : (image : Image) (f : ℕ) → HoldsIf (begun_in Source image f)
in_holds image f = by (is_open (image f))
  where
    by : (z : Bool) → HoldsIf (cond z (begun_by f (snapshot_in Source f (image f))) (Ok None))
    by true = by_holds f (snapshot_in Source f (image f)) (file_holds f (image f))
    by false = tt

nothing_sound : Sound nothing_held
nothing_sound = record { number = omega arith; place = refl; few = omega arith; ends = refl }

greater_holds : (a b : Option Begun) → Holds a → Holds b → SoundBegun (greater a b)
greater_holds None None p q = nothing_sound
greater_holds (Some x) None p q = p
greater_holds None (Some y) p q = q
greater_holds (Some x) (Some y) p q = by (ltb x.0 y.0)
  where
    by : (z : Bool) → SoundBegun (cond z y x)
    by true = q
    by false = p

from_or : Begun → Result Begun Spot → Begun
from_or d (Ok x) = x
from_or d (Err spot) = d

abbrev goes_from : Begun → Result Begun Spot
goes_from b = Ok b

from_ok : (a b : Begun) → goes_from a ≡ goes_from b → a ≡ b
unfolding from_or
from_ok a b e = ap (from_or a) e

begun_holds : (a b : Result (Option Begun) Spot) (begun : Begun) → HoldsIf a → HoldsIf b → greater_if a b ≡ Ok begun
    → SoundBegun begun
begun_holds (Err spot) b begun p q is = cc
begun_holds (Ok x) (Err spot) begun p q is = cc
begun_holds (Ok x) (Ok y) begun p q is = subst SoundBegun (from_ok (greater x y) begun is) (greater_holds x y p q)

from_holds : (image : Image) (begun : Begun) → begun_from Source image ≡ Ok begun → SoundBegun begun
unfolding begun_from
from_holds image begun is = begun_holds (begun_in Source image 0) (begun_in Source image 1) begun (in_holds image 0) (in_holds image 1) is

-- ---- records

abbrev IsOfSource : Record → Type 0
IsOfSource (Transaction head cs) = Unit {0}
IsOfSource (Definition head text) = Unit {0}
IsOfSource (LogStart head old_end) = Unit {0}
IsOfSource (TransactionApplied head cs) = ⊥
IsOfSource (DefinitionApplied head text) = ⊥
IsOfSource (PlaceMoved head) = ⊥

kind_says : (kind : ℕ) (bytes : List ℕ) → Says IsOfSource (record_of_kind Source kind bytes)
kind_says kind bytes = by (eqb kind 1) (eqb kind 2) (eqb kind 3)
  where
    one : Read Record
    one = and_then (with_changes (λ head cs. Transaction head cs)) (head_in bytes)

    two : Read Record
    two = and_then (with_text (λ head text. Definition head text)) (head_in bytes)

    three : Read Record
    three = and_then with_old_end (head_in bytes)

    by : (a b c : Bool) → Says IsOfSource (cond a one (cond b two (cond c three None)))
    by true b c = then_says IsOfSource (λ _. Unit {0}) (with_changes (λ head cs. Transaction head cs)) (head_in bytes) (any_says (head_in bytes))
        (λ head rest u. as_says IsOfSource (λ _. Unit {0}) (λ cs. Transaction head cs) (changes_in rest) (any_says (changes_in rest)) (λ cs v. tt))
    by false true c = then_says IsOfSource (λ _. Unit {0}) (with_text (λ head text. Definition head text)) (head_in bytes) (any_says (head_in bytes))
        (λ head rest u. as_says IsOfSource (λ _. Unit {0}) (λ text. Definition head text) (text_behind 4 rest) (any_says (text_behind 4 rest)) (λ text v. tt))
    by false false true = then_says IsOfSource (λ _. Unit {0}) with_old_end (head_in bytes) (any_says (head_in bytes))
        (λ head rest u. as_says IsOfSource (λ _. Unit {0}) (λ old_end. LogStart head old_end) (number_of 4 rest) (any_says (number_of 4 rest)) (λ old_end v. tt))
    by false false false = tt

abbrev OfSource : Option Record → Type 0
OfSource None = Unit {0}
OfSource (Some r) = IsOfSource r

end_source : (r : Read Record) → Says IsOfSource r → OfSource (to_the_end r)
end_source None s = tt
end_source (Some (r, [])) s = s
end_source (Some (r, x ∷ rest)) s = tt

record_source : (body : List ℕ) → OfSource (record_of Source body)
unfolding record_of
record_source body = end_source (and_then (record_of_kind Source) (number_of 1 body))
    (then_says IsOfSource (λ _. Unit {0}) (record_of_kind Source) (number_of 1 body) (any_says (number_of 1 body)) (λ kind rest u. kind_says kind rest))

held_or : Held → Option Held → Held
held_or d (Some h) = h
held_or d None = d

held_is : (h k : Held) → Some h ≡ Some k → h ≡ k
unfolding held_or
held_is h k e = ap (held_or h) e

so : (z : Bool) (o : Option Held) (now : Held) → where_so z o ≡ Some now → (z ≡ true) × (o ≡ Some now)
so true o now e = (refl, e)
so false o now e = cc

committed_sound : (head : Head) (h now : Held) (o : Option Base) → is_next_commit head h ≡ true
    → option_map (committed head h) o ≡ Some now → Sound h → Sound now
committed_sound head h now None next e sound = cc
committed_sound head h now (Some base) next e sound =
    let at = and_parts _ (leb head.pos latest_end) next in
    let log = and_parts _ (eqb head.log (length h.ends)) at.0 in
    let positive = and_parts _ (ltb 0 head.log) log.0 in
    let number = and_parts (eqb head.number (h.number + 1)) (leb head.number most_committed) positive.0 in
    subst Sound (held_is (committed head h base) now e) (record {
      number = leb-true head.number most_committed number.1;
      place = sound.place;
      few = omega (arith, last_length head.pos h.ends, sound.few);
      ends = last_ends head.pos h.ends (leb-true head.pos latest_end at.1) sound.ends;
    })

log_sound : (head : Head) (old_end : ℕ) (h now : Held) → begins_log head old_end h ≡ true
    → Some (log_begun head old_end h) ≡ Some now → Sound h → Sound now
log_sound head old_end h now begins e sound =
    let first = and_parts _ (ltb 0 (length h.ends) || eqb old_end 0) begins in
    let old = and_parts _ (leb old_end latest_old_end) first.0 in
    let at = and_parts _ (leb head.pos latest_end) old.0 in
    let most = and_parts _ (leb head.log most_logs) at.0 in
    let log = and_parts _ (eqb head.log (length h.ends + 1)) most.0 in
    let next : head.log ≡ length h.ends + 1 = eqb-true head.log (length h.ends + 1) log.1 in
    let few : head.log ≤ most_logs = leb-true head.log most_logs most.1 in
    subst Sound (held_is (log_begun head old_end h) now e) (record {
      number = sound.number;
      place = sound.place;
      few = omega (arith, next, few, last_length old_end h.ends, length-append (with_last_end old_end h.ends) (record { pos = head.pos } ∷ []));
      ends = begun_ends old_end head.pos h.ends (leb-true old_end latest_old_end old.1) (leb-true head.pos latest_end at.1) sound.ends;
    })

record_sound : (r : Record) (h now : Held) → IsOfSource r → applied r h ≡ Some now → Sound h → Sound now
unfolding applied
record_sound (Transaction head cs) h now is e sound =
    let two = so (is_next_commit head h) (option_map (committed head h) (changed cs h.base)) now e in
    committed_sound head h now (changed cs h.base) two.0 two.1 sound
record_sound (Definition head text) h now is e sound =
    let two = so (is_next_commit head h) (option_map (committed head h) (defined_by text h.base)) now e in
    committed_sound head h now (defined_by text h.base) two.0 two.1 sound
record_sound (LogStart head old_end) h now is e sound =
    let two = so (begins_log head old_end h) (Some (log_begun head old_end h)) now e in
    log_sound head old_end h now two.0 two.1 sound
record_sound (TransactionApplied head cs) h now is e sound = absurd is
record_sound (DefinitionApplied head text) h now is e sound = absurd is
record_sound (PlaceMoved head) h now is e sound = absurd is

body_sound : (o : Option Record) (h now : Held) → OfSource o → option_and_then (λ r. applied r h) o ≡ Some now → Sound h
    → Sound now
body_sound None h now is e sound = cc
body_sound (Some r) h now is e sound = record_sound r h now is e sound

bodies_sound : (bodies : List (List ℕ)) (h now : Held) → bodies_applied Source bodies h ≡ Some now → Sound h → Sound now
bodies_sound [] h now e sound = subst Sound (held_is h now e) sound
bodies_sound (body ∷ bodies) h now e sound = by (body_applied Source body h) refl e (λ k e'. bodies_sound bodies k now e')
  where
    by : (x : Option Held) → body_applied Source body h ≡ x → option_and_then (bodies_applied Source bodies) x ≡ Some now
        → ((k : Held) → bodies_applied Source bodies k ≡ Some now → Sound k → Sound now) → Sound now
    by None is e behind = cc
    by (Some k) is e behind = behind k e (body_sound (record_of Source body) h k (record_source body) is sound)

-- ---- what stands

pub places_held : (generation : ℕ) (image : Image) (held : Held) → Stands Source generation image held
    → 0 < length held.ends → HasPlaces Source held
places_held generation image held stands some =
    let sound = bodies_sound stands.opened.bodies stands.begun held stands.made (from_holds image (generation, stands.begun) stands.from) in (
      (le-leb held.number most_committed sound.number, sound.place),
      (
        cond-true (ltb 0 (length held.ends) && leb (length held.ends) most_logs && are_ends held.ends) (Some held.ends) None
            (and_from (ltb 0 (length held.ends) && leb (length held.ends) most_logs) (are_ends held.ends)
            (and_from (ltb 0 (length held.ends)) (leb (length held.ends) most_logs) (lt-ltb 0 (length held.ends) some) (le-leb (length held.ends) most_logs sound.few)) sound.ends),
        (omega (arith, sound.few), all_low held.ends sound.ends),
      ),
    )
