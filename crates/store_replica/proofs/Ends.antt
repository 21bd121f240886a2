-- A replica's store has no logs.
use Rattle.std.proofs.Common.{◌≡◌, ◌==◌, ◌%◌, ℕ, Bool, true, false, List, [], ◌∷◌, Option, Some, None, Result, Ok, Err, refl, sym, ◌∙◌, ap, subst}
use Rattle.std.specs.Prelude.{if◌then◌else◌}
use Rattle.std.specs.Option.{option_map, option_and_then}
use Rattle.disk_model.specs.Story.{Image}
use Rattle.store_model.specs.declared.record.Kind.TheVariants.{Replica}
use Rattle.store_model.specs.declared.record.Record.{Record}
use Rattle.store_model.specs.declared.record.Record.TheVariants.{Transaction, Definition, LogStart, TransactionApplied, DefinitionApplied, PlaceMoved}
use Rattle.store_model.specs.log_model.Images.{Read, and_then}
use Rattle.store_model.specs.Reading.{read_as, to_the_end, number_of}
use Rattle.store_model.specs.Bodies.{IsRecord, record_of}
use Rattle.store_model.specs.Held.{Held, applied, bodies_applied, body_applied, carried_out, changed, defined_by, where_so}
use Rattle.store_model.specs.Snapshots.{base_in, generation_in, held_in, is_open, of_file, place_in, snapshot_in, snapshot_of}
use Rattle.store_model.specs.Stores.{Spot, begun_by, begun_from, begun_in, greater, greater_if, held_by}
use Rattle.store_model.proofs.Standing.{apart}
use Rattle.store_open.specs.store_load.Whose.{IsOf}
use Rattle.store_open.proofs.of_store_load.Whose.{is_of}

some_same : {A : Type 0} (a b : A) → Some a ≡ Some b → a ≡ b
some_same a b e = cc

-- ---- what a snapshot holds

-- what was read, if anything was, is so
abbrev Says : {X : Type 0} → (X → Type 0) → Read X → Type 0
Says P None = Unit {0}
Says P (Some r) = P r.0

then_says : {X Y : Type 0} (Q : Y → Type 0) (more : X → List ℕ → Read Y) (r : Read X) → ((x : X) (rest : List ℕ) → Says Q (more x rest)) → Says Q (and_then more r)
then_says Q more None each = tt
then_says Q more (Some r) each = each r.0 r.1

as_says : {X Y : Type 0} (P : X → Type 0) (Q : Y → Type 0) (make : X → Y) (r : Read X) → Says P r → ((x : X) → P x → Q (make x)) → Says Q (read_as make r)
as_says P Q make None says each = tt
as_says P Q make (Some r) says each = each r.0 says

any_says : {X : Type 0} (r : Read X) → Says (λ _. Unit {0}) r
any_says None = tt
any_says (Some r) = tt

where_says : {X : Type 0} (Q : X → Type 0) (b : Bool) (r : Read X) → Says Q r → Says Q (if b then r else None)
where_says Q true r says = says
where_says Q false r says = tt

abbrev HasNone : Held → Type 0
HasNone held = held.ends ≡ []

abbrev BeginsNone : ℕ × Held → Type 0
BeginsNone begun = begun.1.ends ≡ []

held_says : (number : ℕ) (bytes : List ℕ) → Says HasNone (held_in Replica number bytes)
held_says number bytes =
    then_says HasNone _ (place_in bytes) (λ place rest.
    as_says (λ _. Unit {0}) HasNone (λ base. record { base = base; number = number; ends = []; place = place }) (base_in rest) (any_says (base_in rest)) (λ base any. refl))

generation_says : (node : ℕ) (bytes : List ℕ) → Says BeginsNone (generation_in Replica node bytes)
generation_says node bytes =
    where_says BeginsNone (node == 2) _
    (then_says BeginsNone _ (number_of 8 bytes) (λ generation rest.
    as_says HasNone BeginsNone (λ h. (generation, h)) (and_then (held_in Replica) (number_of 8 rest))
    (then_says HasNone (held_in Replica) (number_of 8 rest) (λ number more. held_says number more)) (λ h none. none)))

-- what is begun from, if anything is, is so
abbrev Own : Option (ℕ × Held) → Type 0
Own None = Unit {0}
Own (Some begun) = BeginsNone begun

end_own : (r : Read (ℕ × Held)) → Says BeginsNone r → Own (to_the_end r)
end_own None says = tt
end_own (Some (begun, [])) says = says
end_own (Some (begun, b ∷ rest)) says = tt

snapshot_own : (body : List ℕ) → Own (snapshot_of Replica body)
unfolding snapshot_of
snapshot_own body =
    end_own (and_then (generation_in Replica) (number_of 1 body)) (then_says BeginsNone (generation_in Replica) (number_of 1 body) (λ node rest. generation_says node rest))

where_own : (b : Bool) (o : Option (ℕ × Held)) → Own o → Own (if b then o else None)
where_own true o own = own
where_own false o own = tt

of_own : (f : ℕ) (o : Option (ℕ × Held)) → Own o → Own (option_and_then (of_file f) o)
of_own f None own = tt
of_own f (Some begun) own = where_own (begun.0 % 2 == f) (Some begun) own

file_own : (f : ℕ) (file : List ℕ) → Own (snapshot_in Replica f file)
file_own f file = where_own _ _ (of_own f _ (snapshot_own _))

abbrev OwnIf : Result (Option (ℕ × Held)) Spot → Type 0
OwnIf (Err spot) = Unit {0}
OwnIf (Ok o) = Own o

by_own : (f : ℕ) (o : Option (ℕ × Held)) → Own o → OwnIf (begun_by f o)
by_own f None own = tt
by_own f (Some begun) own = own

if_own : (b : Bool) (r : Result (Option (ℕ × Held)) Spot) → OwnIf r → OwnIf (if b then r else Ok None)
if_own true r own = own
if_own false r own = tt

in_own : (image : Image) (f : ℕ) → OwnIf (begun_in Replica image f)
in_own image f = if_own (is_open (image f)) (begun_by f (snapshot_in Replica f (image f))) (by_own f (snapshot_in Replica f (image f)) (file_own f (image f)))

-- ---- what the journal begins from

either_own : (b : Bool) (x y : ℕ × Held) → BeginsNone x → BeginsNone y → BeginsNone (if b then x else y)
either_own true x y p q = p
either_own false x y p q = q

greater_own : (a b : Option (ℕ × Held)) → Own a → Own b → BeginsNone (greater a b)
greater_own None None p q = refl
greater_own (Some x) None p q = p
greater_own None (Some y) p q = q
greater_own (Some x) (Some y) p q = either_own _ y x q p

begun_own : (a b : Result (Option (ℕ × Held)) Spot) (begun : ℕ × Held) → OwnIf a → OwnIf b → greater_if a b ≡ Ok begun → BeginsNone begun
begun_own (Err spot) b begun p q is = cc
begun_own (Ok x) (Err spot) begun p q is = cc
begun_own (Ok x) (Ok y) begun p q is = subst BeginsNone (same (greater x y) begun is) (greater_own x y p q)
  where
    same : (x y : ℕ × Held) → Path (Result (ℕ × Held) Spot) (Ok x) (Ok y) → x ≡ y
    same x y is = cc

from_own : (image : Image) (generation : ℕ) (begun : Held) → begun_from Replica image ≡ Ok (generation, begun) → begun.ends ≡ []
unfolding begun_from
from_own image generation begun is = begun_own (begun_in Replica image 0) (begun_in Replica image 1) (generation, begun) (in_own image 0) (in_own image 1) is

-- ---- its records

parted : {A B : Type 0} (f : A → Option B) (o : Option A) (x : B) → option_and_then f o ≡ Some x → (y : A) × ((o ≡ Some y) × (f y ≡ Some x))
parted f None x is = cc
parted f (Some y) x is = (y, (refl, is))

so : {A : Type 0} (b : Bool) (made : Option A) (x : A) → where_so b made ≡ Some x → made ≡ Some x
so true made x is = is
so false made x is = cc

made_by : {A B : Type 0} (f : A → B) (made : Option A) (x : B) → option_map f made ≡ Some x → (a : A) × (x ≡ f a)
made_by f None x is = cc
made_by f (Some a) x is = (a, sym (some_same (f a) x is))

-- none begins a log
one_own : (r : Record) (h now : Held) → IsOf Replica r → applied r h ≡ Some now → now.ends ≡ h.ends
unfolding applied
one_own (Transaction head cs) h now of is = absurd of
one_own (Definition head text) h now of is = absurd of
one_own (LogStart head old) h now of is = absurd of
one_own (TransactionApplied head cs) h now of is =
    ap (λ (x : Held). x.ends) (made_by (carried_out head h) (changed cs h.base) now (so _ (option_map (carried_out head h) (changed cs h.base)) now is)).1
one_own (DefinitionApplied head text) h now of is =
    ap (λ (x : Held). x.ends) (made_by (carried_out head h) (defined_by text h.base) now (so _ (option_map (carried_out head h) (defined_by text h.base)) now is)).1
one_own (PlaceMoved head) h now of is =
    ap (λ (x : Held). x.ends) (sym (some_same (carried_out head h h.base) now (so _ (Some (carried_out head h h.base)) now is)))

record_of_replica : (r : Record) → IsRecord Replica r → IsOf Replica r
record_of_replica (Transaction head cs) form = absurd form
record_of_replica (Definition head text) form = absurd form
record_of_replica (LogStart head old) form = absurd form
record_of_replica (TransactionApplied head cs) form = tt
record_of_replica (DefinitionApplied head text) form = tt
record_of_replica (PlaceMoved head) form = tt

pub ends_stay : (r : Record) (h now : Held) → IsRecord Replica r → applied r h ≡ Some now → now.ends ≡ h.ends
ends_stay r h now form is = one_own r h now (record_of_replica r form) is

all_own : (bodies : List (List ℕ)) (h now : Held) → bodies_applied Replica bodies h ≡ Some now → now.ends ≡ h.ends
all_own [] h now is = ap (λ (x : Held). x.ends) (sym (some_same h now is))
all_own (body ∷ bodies) h now is =
    let first = parted (bodies_applied Replica bodies) (body_applied Replica body h) now is in
    let one = parted (λ (r : Record). applied r h) (record_of Replica body) first.0 first.1.0 in
    all_own bodies first.0 now first.1.1 ∙ one_own one.0 h first.0 (is_of Replica body one.0 one.1.0) one.1.1

pub no_ends : (image : Image) (held : Held) → held_by Replica image ≡ Ok held → held.ends ≡ []
no_ends image held is =
    let stands = (apart Replica image held is).1 in
    all_own stands.opened.bodies stands.begun held stands.made ∙ from_own image (apart Replica image held is).0 stands.begun stands.from
