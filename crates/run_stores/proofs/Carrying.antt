-- What a replica has carried out of what its source logged.
use Rattle.std.proofs.Common.{◌≡◌, ◌≤◌, inl, inr, ℕ, ◌+◌, ◌-◌, List, [], ◌∷◌, ◌++◌, length, map, take, Some, Ok, refl, sym, ap, ◌∙◌, subst, append_assoc, arith, length-append}
use Rattle.std.specs.Prelude.{◌^◌, min}
use Rattle.std.proofs.Math.Seq.{take-append_seam}
use Rattle.std.proofs.lemmas.List.{map-append, length-map}
use Rattle.port_traits.specs.declared.identity.Draw.{Draw}
use Rattle.disk_model.specs.Story.{Image}
use Rattle.store_model.specs.declared.record.Kind.TheVariants as kinds
use Rattle.store_model.specs.Held.{Held}
use Rattle.store_model.specs.Stores.{held_by}
use Rattle.durable_runs.specs.Marks.{named, served_mark}
use Rattle.durable_runs.specs.Replicas.{IsCarried, ReplicaImage, StateImage}
use Rattle.durable_runs.specs.Sources.{Stored}
use Rattle.durable_runs.proofs.Carried.{carried_entries}
use Rattle.run_laws.specs.apply_laws.catalog_rules.Bases.{Base}
use Rattle.run_laws.specs.log_entries.declared.entries.Item.{Item}
use Rattle.run_laws.specs.log_entries.declared.entries.Entry.{Entry}
use Rattle.run_laws.specs.log_entries.declared.entries.Entry.TheVariants.{Transaction, Definition, LogStart}
use Rattle.run_laws.specs.log_entries.Entries.{after}
use Rattle.run_laws.specs.log_model.Log.{LogPlace, behind, counted_all, end_from, written_to, EntriesHaveLength, HeadsHaveLength}
use Rattle.run_laws.specs.session_model.Machine.{Whole, whole, kept_entry, first_place, step}
use Rattle.run_laws.specs.session_model.Openings.{opening_entries}
use Rattle.run_laws.specs.session_model.Holding.{changes_of, define}
use Rattle.run_laws.specs.session_replays.Followed.{EntriesFollow}
use Rattle.run_laws.specs.run_model.replica_model.Replica.{Replica}
use Rattle.run_laws.specs.run_model.replica_model.Applying.{go_on, going_from}
use Rattle.run_laws.specs.run_model.Asked.{Asked, say, select, take_bytes, take_groups, checkpoint_source, checkpoint_replica, restart_source, restart_replica}
use Rattle.run_laws.specs.run_model.Run.{Names, Both, Read, nothing, bytes_to, Starts, number_before, place_before, applied, next, end_of}
use Rattle.run_laws.specs.run_model.Following.{AreCommitted, Follows, head_entries, reader_at, reader_from}
use Rattle.run_laws.specs.Laws.{FollowsGoOn, FollowsOnTheWay, IsSound}
use Rattle.run_laws.specs.Openings.{Begins, owed_behind}
use Rattle.run_laws.proofs.Carrying.{first_ones}
use Rattle.run_laws.proofs.Openings.{counts_by_one, counts_there}
use Rattle.run_laws.proofs.Places.{front_place}
use Rattle.run_stores.specs.Standing.{StandAt}
use Rattle.run_stores.specs.Carried.{held_in, logged, HasCarried, IsServed, IsHeldState, FollowersHaveCarried, FollowersAreServed, CarriedOnTheWay, StatesHaveCarried, ImagesHaveCarried, ReplayedIsCarried, held_of_replay}

-- ---- places

-- behind transactions and definitions a reader stands where a writer does
ends_written : (es : List (Entry Whole)) (number : ℕ) (p : LogPlace) → AreCommitted es → end_from p (map kept_entry es) number p ≡ written_to (map kept_entry es) number p
ends_written [] number p committed = refl
ends_written (Transaction stamp server items ∷ es) number p committed =
    ends_written es (number + 1) (behind (kept_entry (Transaction stamp server items)) number p) committed
ends_written (Definition stamp server item ∷ es) number p committed =
    ends_written es (number + 1) (behind (kept_entry (Definition stamp server item)) number p) committed
ends_written (LogStart stamp server ∷ es) number p committed = absurd committed

-- wherever it began, if there is one
ends_first : (e : Entry Whole) (es : List (Entry Whole)) (reader : LogPlace) (number : ℕ) (p : LogPlace) → AreCommitted (e ∷ es)
    → end_from reader (map kept_entry (e ∷ es)) number p ≡ written_to (map kept_entry (e ∷ es)) number p
ends_first (Transaction stamp server items) es reader number p committed =
    ends_written es (number + 1) (behind (kept_entry (Transaction stamp server items)) number p) committed
ends_first (Definition stamp server item) es reader number p committed =
    ends_written es (number + 1) (behind (kept_entry (Definition stamp server item)) number p) committed
ends_first (LogStart stamp server) es reader number p committed = absurd committed

-- what was carried out, with the head of the log where that was not read; nothing where nothing was
abbrev front_of : Read → (stamp server : ℕ) → List (Entry Whole) → List (Entry Whole)
front_of read stamp server [] = []
front_of read stamp server (e ∷ es) = head_entries read stamp server ++ (e ∷ es)

-- there a reader stands
reads_to : EntriesHaveLength → HeadsHaveLength → (read : Read) (stamp server : ℕ) (before : LogPlace) (es : List (Entry Whole)) → before ≡ reader_from read → AreCommitted es
    → reader_at read stamp server es ≡ end_from before (map kept_entry (front_of read stamp server es)) (number_before read) (place_before read)
reads_to have heads read stamp server before [] same committed = sym same
reads_to have heads nothing stamp server before (e ∷ es) same committed =
    sym (ends_first e es (record { log = 1; pos = 4 }) 0 first_place committed
    ∙ front_place have heads (record { read = nothing; stamp = stamp; server = server }) (e ∷ es) committed)
reads_to have heads (bytes_to bytes number) stamp server before (e ∷ es) same committed =
    sym (ends_first e es before number (record { log = 1; pos = length bytes }) committed
    ∙ front_place have heads (record { read = bytes_to bytes number; stamp = stamp; server = server }) (e ∷ es) committed)

-- ---- bases

-- the head of a log makes nothing
makes_front : (read : Read) (stamp server : ℕ) (es : List (Entry Whole)) (base now : Base) → (EntriesFollow es → after changes_of define es base ≡ Some now)
    → EntriesFollow (front_of read stamp server es) → after changes_of define (front_of read stamp server es) base ≡ Some now
makes_front read stamp server [] base now makes follow = makes follow
makes_front nothing stamp server (e ∷ es) base now makes follow = makes follow
makes_front (bytes_to bytes number) stamp server (e ∷ es) base now makes follow = makes follow

-- ---- the first of entries

-- what was carried out and what was not are all
parts : (read : Read) (stamp server : ℕ) (carried more : List (Entry Whole))
    → head_entries read stamp server ++ (carried ++ more) ≡ front_of read stamp server carried ++ owed_behind read stamp server carried more
parts read stamp server [] more = refl
parts read stamp server (e ∷ es) more = sym (append_assoc (head_entries read stamp server) (e ∷ es) more)

taken : (front back : List (Entry Whole)) → take (length front) (map kept_entry (front ++ back)) ≡ map kept_entry front
taken front back =
    ap (λ (l : List (Entry Item)). take (length front) l) (map-append kept_entry front back)
    ∙ ap (λ (n : ℕ). take n (map kept_entry front ++ map kept_entry back)) (sym (length-map front kept_entry))
    ∙ take-append_seam (map kept_entry front) (map kept_entry back)

carried_first : (before now : Held) (front back : List (Entry Whole)) (number : ℕ) (writer : LogPlace) → now.place ≡ end_from before.place (map kept_entry front) number writer
    → (EntriesFollow front → after changes_of define front before.base ≡ Some now.base) → IsCarried EntriesFollow before (front ++ back) number writer now
carried_first before now front back number writer place base = record {
  first = length front;
  within = omega (arith, length-append front back);
  place = place ∙ ap (λ (l : List (Entry Item)). end_from before.place l number writer) (sym (taken front back));
  base = subst (λ (l : List (Entry Whole)). EntriesFollow l → after changes_of define l before.base ≡ Some now.base) (sym (take-append_seam front back)) base;
}

-- ---- a replica that follows

pub followers_have_carried : EntriesHaveLength → HeadsHaveLength → FollowersHaveCarried
followers_have_carried have heads names b source replica f begins stand =
    let read : Read = b.from.read in
    let front : List (Entry Whole) = front_of read f.stamp f.server f.carried in
    let left : List (Entry Whole) = owed_behind read f.stamp f.server f.carried f.more in
    let all : b.from.owed ++ b.machine.history ≡ front ++ left = f.history ∙ parts read f.stamp f.server f.carried f.more in
    let place : replica.place ≡ reader_from read = sym (ap (λ (r : Replica). r.place) stand.opens) ∙ begins.behind.place in
    let base : b.from.replica.base ≡ replica.base = ap (λ (r : Replica). r.base) stand.opens in
    let makes : EntriesFollow f.carried → after changes_of define f.carried replica.base ≡ Some b.replica.base =
    subst (λ (x : Base). EntriesFollow f.carried → after changes_of define f.carried x ≡ Some b.replica.base) base f.base in
    subst (λ (es : List (Entry Whole)). IsCarried EntriesFollow replica es (number_before read) (place_before read) (held_in b.replica)) (sym all)
    (carried_first replica (held_in b.replica) front left (number_before read) (place_before read)
    (f.place ∙ reads_to have heads read f.stamp f.server replica.place f.carried place (first_ones f.carried f.more f.committed))
    (makes_front read f.stamp f.server f.carried replica.base b.replica.base makes))

pub followers_are_served : FollowersAreServed
followers_are_served names b f begins holds =
    let all : List (Entry Whole) = f.carried ++ f.more in
    let n : ℕ = number_before b.from.read in
    let count : b.machine.state.shared.committed ≡ counted_all (map kept_entry all) n = counts_there b.from b.machine f.stamp f.server all holds f.history in
    let by_one : counted_all (map kept_entry all) n ≡ n + length all = counts_by_one all n f.committed in
    least b.from.replica.number (length f.carried) (length f.more) b.replica.number b.machine.state.shared.committed n (length all)
    begins.number f.number (count ∙ by_one) (length-append f.carried f.more)
  where
    least : (first k j now committed n a : ℕ) → first ≡ n → now ≡ min (first + k) (2 ^ 64 - 1) → committed ≡ n + a → a ≡ k + j → now ≤ committed
    least first k j now committed n a same is all size = omega (arith, same, is, all, size)

-- ---- on the way of a command

-- a replica that is the one behind the last command
as_it_was : EntriesHaveLength → HeadsHaveLength → (names : Names) (b : Both) (source : Stored) (replica : Held) (r : Replica) → Follows names b → IsSound b.from b.machine
    → Begins b.from → StandAt source replica b.from → r ≡ b.replica → HasCarried replica b r × IsServed b r
as_it_was have heads names b source replica r f sound begins stand same =
    subst (λ (x : Replica). HasCarried replica b x × IsServed b x) (sym same)
    (followers_have_carried have heads names b source replica f begins stand, followers_are_served names b f begins sound.replays.holds)

pub carried_on_the_way : EntriesHaveLength → HeadsHaveLength → FollowsOnTheWay → CarriedOnTheWay
carried_on_the_way have heads way names b (say n text) draw source replica r f sound begins stand same = as_it_was have heads names b source replica r f sound begins stand same
carried_on_the_way have heads way names b (select text) draw source replica r f sound begins stand same = as_it_was have heads names b source replica r f sound begins stand same
carried_on_the_way have heads way names b (take_bytes n) draw source replica r f sound begins stand same = as_it_was have heads names b source replica r f sound begins stand same
carried_on_the_way have heads way names b (take_groups n) draw source replica r f sound begins stand at =
    let there : Both = (applied b draw (go_on at.0 n names.replica draw (going_from b.replica))).both in
    as_it_was have heads names there source replica r (way names b draw at.0 n f sound) sound begins stand at.1
carried_on_the_way have heads way names b checkpoint_source draw source replica r f sound begins stand same = as_it_was have heads names b source replica r f sound begins stand same
carried_on_the_way have heads way names b checkpoint_replica draw source replica r f sound begins stand same = as_it_was have heads names b source replica r f sound begins stand same
carried_on_the_way have heads way names b restart_source draw source replica r f sound begins stand same = as_it_was have heads names b source replica r f sound begins stand same
carried_on_the_way have heads way names b restart_replica draw source replica r f sound begins stand same = as_it_was have heads names b source replica r f sound begins stand same

-- ---- at each moment of a run

-- what was carried out stays so as the source puts out more
put_more : (before : Held) (b : Both) (r : Replica) (more : List (Entry Whole)) → HasCarried before b r
    → IsCarried EntriesFollow before (b.from.owed ++ (b.machine.history ++ more)) (number_before b.from.read) (place_before b.from.read) (held_in r)
put_more before b r more has =
    subst (λ (es : List (Entry Whole)). IsCarried EntriesFollow before es (number_before b.from.read) (place_before b.from.read) (held_in r))
    (append_assoc b.from.owed b.machine.history more)
    (carried_entries EntriesFollow before (b.from.owed ++ b.machine.history) more (number_before b.from.read) (place_before b.from.read) (held_in r) has)

one_later : (before : Held) (names : Names) (b : Both) (c : Asked) (draw : Draw) (r : Replica) → HasCarried before b r → HasCarried before (next names b c draw).both r
one_later before names b (say n text) draw r has = put_more before b r (step whole names.source b.machine.state n text draw).committed has
one_later before names b (select text) draw r has = has
one_later before names b (take_bytes n) draw r has = has
one_later before names b (take_groups n) draw r has = has
one_later before names b checkpoint_source draw r has = has
one_later before names b checkpoint_replica draw r has = has
one_later before names b restart_source draw r has = put_more before b r (opening_entries names.source draw b.machine.state.shared.place) has
one_later before names b restart_replica draw r has = has

later : (before : Held) (names : Names) (b : Both) (cs : List Asked) (ds : List Draw) (r : Replica) → HasCarried before b r → HasCarried before (end_of names b cs ds) r
later before names b [] ds r has = has
later before names b (c ∷ cs) [] r has = has
later before names b (c ∷ cs) (d ∷ ds) r has = later before names (next names b c d).both cs ds r (one_later before names b c d r has)

-- a run goes on from where it began
from_stays : (names : Names) (b : Both) (c : Asked) (draw : Draw) → b.from ≡ (next names b c draw).both.from
from_stays names b (say n text) draw = refl
from_stays names b (select text) draw = refl
from_stays names b (take_bytes n) draw = refl
from_stays names b (take_groups n) draw = refl
from_stays names b checkpoint_source draw = refl
from_stays names b checkpoint_replica draw = refl
from_stays names b restart_source draw = refl
from_stays names b restart_replica draw = refl

all_stays : (names : Names) (b : Both) (cs : List Asked) (ds : List Draw) → b.from ≡ (end_of names b cs ds).from
all_stays names b [] ds = refl
all_stays names b (c ∷ cs) [] = refl
all_stays names b (c ∷ cs) (d ∷ ds) = from_stays names b c d ∙ all_stays names (next names b c d).both cs ds

-- the one behind the last command
at_end : EntriesHaveLength → HeadsHaveLength → (names : Names) (b : Both) (source : Stored) (replica : Held) (r : Replica) → Follows names b
    → Begins b.from → StandAt source replica b.from → r ≡ b.replica → HasCarried replica b r
at_end have heads names b source replica r f begins stand same =
    subst (λ (x : Replica). HasCarried replica b x) (sym same) (followers_have_carried have heads names b source replica f begins stand)

pub states_have_carried : EntriesHaveLength → HeadsHaveLength → FollowsOnTheWay → FollowsGoOn → StatesHaveCarried
states_have_carried have heads way goes names b [] ds source replica r f sound begins stand same = at_end have heads names b source replica r f begins stand same
states_have_carried have heads way goes names b (c ∷ cs) [] source replica r f sound begins stand same = at_end have heads names b source replica r f begins stand same
states_have_carried have heads way goes names b (c ∷ cs) (d ∷ ds) source replica r f sound begins stand (inl on) =
    later replica names b (c ∷ cs) (d ∷ ds) r (carried_on_the_way have heads way names b c d source replica r f sound.0 begins stand on).0
states_have_carried have heads way goes names b (c ∷ cs) (d ∷ ds) source replica r f sound begins stand (inr behind) =
    let stays : b.from ≡ (next names b c d).both.from = from_stays names b c d in
    states_have_carried have heads way goes names (next names b c d).both cs ds source replica r (goes names b c d f sound.0) sound.1
    (subst Begins stays begins) (subst (StandAt source replica) stays stand) behind

-- ---- images

pub images_have_carried : StatesHaveCarried → ImagesHaveCarried
images_have_carried states names b cs ds source replica t calls committed marks f sound begins stand images served = record {
  after = λ n ge le image left. image_is n image (images.after n ge le image left) (served.after n ge le image left);
  during = λ n ge lt image left. image_is n image (images.during n ge lt image left) (served.during n ge lt image left);
}
  where
    entries : List (Entry Whole)
    entries = logged (end_of names b cs ds)

    -- a run goes on from where it began
    carried : (h : Held) → IsHeldState names b cs ds h → IsCarried EntriesFollow replica entries (number_before b.from.read) (place_before b.from.read) h
    carried h at =
        let has : HasCarried replica (end_of names b cs ds) at.0 = states names b cs ds source replica at.0 f sound begins stand at.1.0 in
        subst (IsCarried EntriesFollow replica entries (number_before b.from.read) (place_before b.from.read)) (sym at.1.1)
        (subst (λ (x : Starts). IsCarried EntriesFollow replica entries (number_before x.read) (place_before x.read) (held_in at.0)) (sym (all_stays names b cs ds)) has)

    image_is : (n : ℕ) (image : Image) → StateImage (IsHeldState names b cs ds) replica marks n image
        → ((now : Held) → held_by kinds.Replica image ≡ Ok now → now.number ≤ named committed (map served_mark marks) n)
        → ReplicaImage EntriesFollow replica entries (number_before b.from.read) (place_before b.from.read) committed marks n image
    image_is n image is low = record { now = is.now; stands = is.stands; carried = carried is.now is.state; holds = is.holds; served = low is.now is.stands }

-- ---- a log that is replayed

pub replayed_is_carried : ReplayedIsCarried
replayed_is_carried from s begins h =
    let n : ℕ = number_before from.read in
    let w : LogPlace = place_before from.read in
    subst (λ (es : List (Entry Whole)). IsCarried EntriesFollow (held_in from.replica) es n w (held_of_replay s)) (sym h.all)
    (carried_first (held_in from.replica) (held_of_replay s) h.front h.left n w
    (h.place ∙ ap (λ (q : LogPlace). end_from q (map kept_entry h.front) n w) (sym begins.behind.place)) h.base)
