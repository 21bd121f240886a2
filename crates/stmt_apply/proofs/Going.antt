-- A transaction under way, step by step.
use Rattle.std.proofs.Common.{◌≡◌, ℕ, ◌+◌, ◌<◌, List, [], ◌∷◌, ◌++◌, Bool, true, false, map, reverse, drop, length, Option, Some, None, Result, Ok, Err, refl, sym, ap, subst, ◌∙◌, arith}
use Rattle.std.specs.Prelude.{if◌then◌else◌, unwrap_or}
use Rattle.std.proofs.lemmas.List.{append_assoc, append-nil, map-append, reverse-append}
use Rattle.val_types.specs.declared.change.Change.{Change}
use Rattle.event_codec.specs.declared.event.MapView.{MapView}
use Rattle.event_codec.specs.Event.{Map, Query, Rows, map_of}
use Rattle.log_groups.specs.log_entries.declared.carried.Carried.{Carried}
use Rattle.log_groups.specs.log_model.Events.{Placed}
use Rattle.log_groups.specs.log_model.Groups.{find}
use Rattle.log_groups.specs.log_model.Images.{changes_of}
use Rattle.log_groups.specs.Views.{walked}
use Rattle.port_traits.specs.declared.identity.Identity.{Identity}
use Rattle.port_traits.specs.declared.identity.Draw.{Draw}
use Rattle.log_groups.specs.catalog_rules.Objects.{Object as Tree}
use Rattle.row_apply.specs.catalog_objects.declared.object.Object.{Object}
use Rattle.row_apply.specs.catalog_objects.Keys.{objects_of}
use Rattle.apply_model.specs.Stops.{Differs, stop_at}
use Rattle.apply_model.specs.Rows.{Store, carry_change}
use Rattle.apply_laws.specs.row_events.Sizes.{bounded}
use Rattle.apply_laws.specs.binlog_sizes.Sizes.{changes_size}
use Rattle.apply_model.specs.Texts.{Applier, Needs, Progress, carried_of, carry_text, no_needs, stops_at}
use Rattle.apply_model.specs.Groups.{Applied, Going, and_then, applied_by, carry_changes, carry_rows, event_carried, first_place, going_from, is_too_large, item_ended, items_carried, rows_ended, store_of, text_ended, with_bytes, with_needs, with_store}
use Rattle.row_apply.specs.prog_work.Contents.{Contents, base_of}
use Rattle.row_apply.specs.Changes.{change_carried}
use Rattle.row_apply.specs.Ends.{Ends, progress_in}
use Rattle.row_apply.specs.declared.stop.Stop.{Stop}
use Rattle.row_apply.specs.declared.stop.Stop.TheVariants as stop
use Rattle.stmt_apply.specs.Applying.{Adds, applied_in, applier_in}
use Rattle.stmt_apply.specs.Needing.{needs_of, no_text}
use Rattle.stmt_apply.specs.UnderWay.{ComesTo, Goes, Stands, items_from, text_carried, transaction_carried}
use Rattle.stmt_apply.specs.declared.under_way.UnderWay.{UnderWay}

-- ---- stopping

-- what stops a part stops the whole
pub ends_stopped : {A B : Type 0} (s : Stop) (now : A) (behind : B) (carried : Result A Differs) (more : A → Result B Differs) → Ends (Err s) now carried → Ends (Err s) behind (and_then more carried)
ends_stopped (stop.Differs place code table key) now behind carried more e = ap (and_then more) e
ends_stopped stop.NoMemory now behind carried more e = tt

-- ---- changes one after the other

then_more : (place : ℕ) (m : Map) (c : Change) (cs : List Change) (p : Progress) (r : Result Store Differs)
    → and_then (λ (s : Store). carry_changes place m cs (with_store c s p)) r ≡ and_then (carry_changes place m cs) (and_then (λ (s : Store). Ok (with_store c s p)) r)
then_more place m c cs p (Ok s) = refl
then_more place m c cs p (Err d) = refl

changes_front : (place : ℕ) (m : Map) (c : Change) (cs : List Change) (p : Progress)
    → carry_changes place m (c ∷ cs) p ≡ and_then (carry_changes place m cs) (change_carried place m c p)
changes_front place m c cs p = then_more place m c cs p (carry_change place m c p.store)

last_first : (left less : List Change) (c : Change) → left ≡ less ++ c ∷ [] → reverse left ≡ c ∷ reverse less
last_first left less c is = ap reverse is ∙ reverse-append less (c ∷ [])

changes_last : (place : ℕ) (m : Map) (left less : List Change) (c : Change) (p : Progress) → left ≡ less ++ c ∷ []
    → carry_changes place m (reverse left) p ≡ and_then (carry_changes place m (reverse less)) (change_carried place m c p)
changes_last place m left less c p is = ap (λ (cs : List Change). carry_changes place m cs p) (last_first left less c is) ∙ changes_front place m c (reverse less) p

-- one more was carried out
pub change_on : (place : ℕ) (m : Map) (left less all : List Change) (c : Change) (first p q : Progress) → left ≡ less ++ c ∷ []
    → change_carried place m c p ≡ Ok q → carry_changes place m (reverse left) p ≡ carry_changes place m all first
    → carry_changes place m (reverse less) q ≡ carry_changes place m all first
change_on place m left less all c first p q is e same =
    sym (ap (and_then (carry_changes place m (reverse less))) e) ∙ sym (changes_last place m left less c p is) ∙ same

-- one stopped
pub change_stopped : (s : Stop) (place : ℕ) (m : Map) (left less all : List Change) (c : Change) (first p q behind : Progress) → left ≡ less ++ c ∷ []
    → Ends (Err s) q (change_carried place m c p) → carry_changes place m (reverse left) p ≡ carry_changes place m all first
    → Ends (Err s) behind (carry_changes place m all first)
change_stopped s place m left less all c first p q behind is e same =
    subst (λ (r : Result Progress Differs). Ends (Err s) behind r) (sym (changes_last place m left less c p is) ∙ same)
    (ends_stopped s q behind (change_carried place m c p) (carry_changes place m (reverse less)) e)

-- all were
pub changes_done : (place : ℕ) (m : Map) (left all : List Change) (first p : Progress) → left ≡ [] → carry_changes place m (reverse left) p ≡ carry_changes place m all first
    → carry_changes place m all first ≡ Ok p
changes_done place m left all first p none same = sym same ∙ ap (λ (cs : List Change). carry_changes place m (reverse cs) p) none

-- ---- the changes that were carried out

noted_step : (place : ℕ) (m : Map) (c : Change) (cs : List Change) (p q : Progress) (r : Result Store Differs)
    → ((s : Store) → carry_changes place m cs (with_store c s p) ≡ Ok q → q.changes ≡ (p.changes ++ c ∷ []) ++ cs)
    → and_then (λ (s : Store). carry_changes place m cs (with_store c s p)) r ≡ Ok q → q.changes ≡ p.changes ++ c ∷ cs
noted_step place m c cs p q (Ok s) rest e = rest s e ∙ append_assoc p.changes (c ∷ []) cs
noted_step place m c cs p q (Err d) rest e = cc

changes_noted : (place : ℕ) (m : Map) (cs : List Change) (p q : Progress) → carry_changes place m cs p ≡ Ok q → q.changes ≡ p.changes ++ cs
changes_noted place m [] p q e = let same : p ≡ q = cc in sym (ap (λ (r : Progress). r.changes) same) ∙ sym (append-nil p.changes)
changes_noted place m (c ∷ cs) p q e = noted_step place m c cs p q (carry_change place m c p.store) (λ s f. changes_noted place m cs (with_store c s p) q f) e

sizes_both : (xs ys : List Change) → changes_size (xs ++ ys) ≡ changes_size xs + changes_size ys
sizes_both [] ys = omega arith
sizes_both (x ∷ xs) ys = let e = sizes_both xs ys in omega (arith, e)

-- ---- the end of an item

pub ended_too_large : (first : ℕ) (g : Going) → is_too_large g ≡ true → item_ended first g ≡ Err (stop_at first 1197)
ended_too_large first g e = ap (λ (b : Bool). if b then Err (stop_at first 1197) else Ok (record { progress = g.progress; bytes = g.bytes; needs = no_needs; maps = []; begun = None })) e

pub ended_well : (first : ℕ) (work : Contents) (here : UnderWay) (g : Going) → Stands work here g → is_too_large g ≡ false
    → Goes (Ok tt) work (record { bytes = here.bytes; changed = here.changed; needs = no_text; maps = []; begun = None }) (item_ended first g)
ended_well first work here g h e = (
  record { progress = g.progress; bytes = g.bytes; needs = no_needs; maps = []; begun = None },
  ap (λ (b : Bool). if b then Err (stop_at first 1197) else Ok (record { progress = g.progress; bytes = g.bytes; needs = no_needs; maps = []; begun = None })) e,
  record { progress = h.progress; bytes = h.bytes; changed = h.changed; needs = refl; maps = refl; begun = refl },
)

-- rows that do not end their item
pub rows_go_on : (first : ℕ) (work : Contents) (here : UnderWay) (g : Going) → Stands work here g
    → Goes (Ok tt) work (record { bytes = here.bytes; changed = here.changed; needs = here.needs; maps = here.maps; begun = Some first }) (rows_ended false first g)
rows_go_on first work here g h = (
  record { progress = g.progress; bytes = g.bytes; needs = g.needs; maps = g.maps; begun = Some first },
  refl,
  record { progress = h.progress; bytes = h.bytes; changed = h.changed; needs = h.needs; maps = h.maps; begun = refl },
)

-- ---- the rows of an event

goes_stopped : {A : Type 0} (s : Stop) (now : A) (work : Contents) (here : UnderWay) (carried : Result A Differs) (more : A → Result Going Differs)
    → Ends (Err s) now carried → Goes (Err s) work here (and_then more carried)
goes_stopped (stop.Differs place code table key) now work here carried more e = ap (and_then more) e
goes_stopped stop.NoMemory now work here carried more e = tt

-- no map has their id
pub rows_unknown : (pos : ℕ) (r : Rows) (work : Contents) (here : UnderWay) (g : Going) → Stands work here g → None ≡ find r.id (map map_of here.maps)
    → Goes (Ok tt) work here (carry_rows pos r g (find r.id g.maps))
rows_unknown pos r work here g h none = (g, ap (λ (ms : List Map). carry_rows pos r g (find r.id ms)) h.maps ∙ ap (carry_rows pos r g) (sym none), h)

abbrev rows_then : (pos : ℕ) → Rows → Going → Progress → Result Going Differs
rows_then pos r g p = rows_ended r.ends (first_place pos g.begun) (record g { progress = p })

rows_known : (pos : ℕ) (r : Rows) (work : Contents) (here : UnderWay) (g : Going) (m : Map) → Stands work here g → Some m ≡ find r.id (map map_of here.maps)
    → carry_rows pos r g (find r.id g.maps) ≡ and_then (rows_then pos r g) (carry_changes pos m (changes_of m r) (progress_in work))
rows_known pos r work here g m h some =
    ap (λ (ms : List Map). carry_rows pos r g (find r.id ms)) h.maps
    ∙ ap (carry_rows pos r g) (sym some)
    ∙ ap (λ (p : Progress). and_then (rows_then pos r g) (carry_changes pos m (changes_of m r) p)) h.progress

pub rows_stopped : (s : Stop) (pos : ℕ) (r : Rows) (work after : Contents) (here : UnderWay) (g : Going) (m : Map) → Stands work here g → Some m ≡ find r.id (map map_of here.maps)
    → Ends (Err s) (progress_in after) (carry_changes pos m (changes_of m r) (progress_in work)) → Goes (Err s) after here (carry_rows pos r g (find r.id g.maps))
rows_stopped s pos r work after here g m h some e =
    subst (λ (x : Result Going Differs). Goes (Err s) after here x) (sym (rows_known pos r work here g m h some))
    (goes_stopped s (progress_in after) after here (carry_changes pos m (changes_of m r) (progress_in work)) (rows_then pos r g) e)

-- where they stand when all were carried out
pub rows_stand : (pos : ℕ) (cs : List Change) (old new : Contents) (here : UnderWay) (g : Going) (m : Map) (size changed : ℕ) → Stands old here g
    → carry_changes pos m cs (progress_in old) ≡ Ok (progress_in new) → size ≡ bounded (changes_size cs) → changed ≡ bounded (here.changed + size)
    → Stands new (record { bytes = here.bytes; changed = changed; needs = here.needs; maps = here.maps; begun = here.begun }) (record g { progress = progress_in new })
rows_stand pos cs old new here g m size changed h e sized added = record {
  progress = refl;
  bytes = h.bytes;
  changed =
      let sum : changes_size new.changes ≡ changes_size old.changes + changes_size cs = ap changes_size (changes_noted pos m cs (progress_in old) (progress_in new) e) ∙ sizes_both old.changes cs in
      let before : here.changed ≡ bounded (changes_size old.changes) = h.changed in
      omega arith;
  needs = h.needs;
  maps = h.maps;
  begun = h.begun;
}

first_by : (pos : ℕ) (q : Option ℕ) → unwrap_or q pos ≡ first_place pos q
first_by pos None = refl
first_by pos (Some n) = refl

-- the place of the first rows of their item
pub first_is : (pos : ℕ) (o p : Option ℕ) → o ≡ p → unwrap_or p pos ≡ first_place pos o
first_is pos o p e = first_by pos p ∙ sym (ap (first_place pos) e)

pub rows_ended_so : (res : Result (Unit {0}) Stop) (pos first : ℕ) (r : Rows) (old new : Contents) (here later : UnderWay) (g : Going) (m : Map)
    → Stands old here g → Some m ≡ find r.id (map map_of here.maps) → carry_changes pos m (changes_of m r) (progress_in old) ≡ Ok (progress_in new)
    → first ≡ unwrap_or here.begun pos → Goes res new later (rows_ended r.ends first (record g { progress = progress_in new }))
    → Goes res new later (carry_rows pos r g (find r.id g.maps))
rows_ended_so res pos first r old new here later g m h some e is goes =
    subst (λ (x : Result Going Differs). Goes res new later x)
    (ap (λ (k : ℕ). rows_ended r.ends k (record g { progress = progress_in new })) (is ∙ first_is pos g.begun here.begun h.begun)
    ∙ sym (ap (and_then (rows_then pos r g)) e)
    ∙ sym (rows_known pos r old here g m h some))
    goes

-- ---- other events

pub passes : (work : Contents) (here : UnderWay) (g : Going) → Stands work here g → Goes (Ok tt) work here (Ok g)
passes work here g h = (g, refl, h)

-- a variable of a text
pub needed : (work : Contents) (here : UnderWay) (g : Going) (carried : Carried) (put : Needs → Needs) → Stands work here g → needs_of carried ≡ put (needs_of here.needs)
    → Goes (Ok tt) work (record { bytes = here.bytes; changed = here.changed; needs = carried; maps = here.maps; begun = here.begun }) (Ok (with_needs (put g.needs) g))
needed work here g carried put h is = (
  with_needs (put g.needs) g,
  refl,
  record { progress = h.progress; bytes = h.bytes; changed = h.changed; needs = ap put h.needs ∙ sym is; maps = h.maps; begun = h.begun },
)

-- one more map
pub mapped : (work : Contents) (here : UnderWay) (g : Going) (maps : List MapView) (m : MapView) → Stands work here g → maps ≡ here.maps ++ m ∷ []
    → Goes (Ok tt) work (record { bytes = here.bytes; changed = here.changed; needs = here.needs; maps = maps; begun = here.begun }) (Ok (record g { maps = g.maps ++ map_of m ∷ [] }))
mapped work here g maps m h is = (
  record g { maps = g.maps ++ map_of m ∷ [] },
  refl,
  record {
    progress = h.progress;
    bytes = h.bytes;
    changed = h.changed;
    needs = h.needs;
    maps = ap (λ (ms : List Map). ms ++ map_of m ∷ []) h.maps ∙ sym (map-append map_of here.maps (m ∷ [])) ∙ sym (ap (map map_of) is);
    begun = h.begun;
  },
)

-- the bytes of an event are counted
pub counted : (work : Contents) (here : UnderWay) (g : Going) (size bytes : ℕ) → Stands work here g → bytes ≡ bounded (here.bytes + size)
    → Stands work (record { bytes = bytes; changed = here.changed; needs = here.needs; maps = here.maps; begun = here.begun }) (with_bytes size g)
counted work here g size bytes h is = record {
  progress = h.progress;
  bytes = let before : here.bytes ≡ bounded g.bytes = h.bytes in omega arith;
  changed = h.changed;
  needs = h.needs;
  maps = h.maps;
  begun = h.begun;
}

-- ---- a text

module _ (a : Applier) (pos stamp : ℕ) (q : Query) (old : Contents) (here : UnderWay) (g : Going) (h : Stands old here g) where
  abbrev its_run : Result Progress ℕ
  its_run = carry_text a q.text (carried_of stamp q (needs_of here.needs)) (progress_in old)

  text_at : text_carried a pos stamp q g ≡ and_then (text_ended pos g) (stops_at pos its_run)
  text_at =
      ap (λ (n : Needs). and_then (text_ended pos g) (stops_at pos (carry_text a q.text (carried_of stamp q n) g.progress))) h.needs
      ∙ ap (λ (p : Progress). and_then (text_ended pos g) (stops_at pos (carry_text a q.text (carried_of stamp q (needs_of here.needs)) p))) h.progress

  -- it is refused
  pub text_refused : (code : ℕ) → its_run ≡ Err code → text_carried a pos stamp q g ≡ Err (stop_at pos code)
  text_refused code e = text_at ∙ ap (λ (r : Result Progress ℕ). and_then (text_ended pos g) (stops_at pos r)) e

  module _ (new : Contents) (size changed : ℕ) (needs : Carried) where
    -- it is run, and its item ends
    pub text_run : (res : Result (Unit {0}) Stop) (later : UnderWay) → its_run ≡ Ok (progress_in new) → Goes res new later (item_ended pos (record g { progress = progress_in new }))
        → Goes res new later (text_carried a pos stamp q g)
    text_run res later e goes =
        subst (λ (x : Result Going Differs). Goes res new later x)
        (sym (text_at ∙ ap (λ (r : Result Progress ℕ). and_then (text_ended pos g) (stops_at pos r)) e)) goes

    -- where they stand behind it
    pub text_stands : Adds old new → size ≡ bounded (changes_size (drop (length old.changes) new.changes)) → changed ≡ bounded (here.changed + size) → needs_of needs ≡ needs_of here.needs
        → Stands new (record { bytes = here.bytes; changed = changed; needs = needs; maps = here.maps; begun = here.begun }) (record g { progress = progress_in new })
    text_stands adds sized added same = record {
      progress = refl;
      bytes = h.bytes;
      changed =
          let sum : changes_size new.changes ≡ changes_size old.changes + changes_size (drop (length old.changes) new.changes) =
          ap changes_size adds ∙ sizes_both old.changes (drop (length old.changes) new.changes) in
          let before : here.changed ≡ bounded (changes_size old.changes) = h.changed in
          omega arith;
      needs = h.needs ∙ sym same;
      maps = h.maps;
      begun = h.begun;
    }

-- ---- the events of a transaction

-- so far as the code has come the definition has come, too
pub record Reached (a : Applier) (all : List Placed) (first : Contents) (left : List Placed) (work : Contents) (here : UnderWay) : Type 0 where
  pub going : Going
  pub stands : Stands work here going
  pub same : items_carried a left going ≡ items_from a all first

pub begins : (a : Applier) (all left : List Placed) (first : Contents) (here : UnderWay) → first.changes ≡ [] → left ≡ all → here ≡ record { bytes = 0; changed = 0; needs = no_text; maps = []; begun = None }
    → Reached a all first left first here
begins a all left first here none is new = record {
  going = going_from (store_of (base_of first) first.counters);
  stands = record {
    progress = λ i. record { store = record { tables = first.tables; counters = first.counters }; changes = sym none i };
    bytes = ap (λ (u : UnderWay). u.bytes) new;
    changed = ap (λ (u : UnderWay). u.changed) new ∙ sym (ap (λ (cs : List Change). bounded (changes_size cs)) none);
    needs = sym (ap (λ (u : UnderWay). needs_of u.needs) new);
    maps = sym (ap (λ (u : UnderWay). map map_of u.maps) new);
    begun = sym (ap (λ (u : UnderWay). u.begun) new);
  };
  same = ap (λ (es : List Placed). items_carried a es (going_from (store_of (base_of first) first.counters))) is;
}

-- the catalog of who applies stays
pub same_applier : (identity : Identity) (draw : Draw) (old new : Contents) → new.objects ≡ old.objects → applier_in identity draw new ≡ applier_in identity draw old
same_applier identity draw old new same = ap (λ (os : List Object). record { identity = identity; draw = draw; catalog = objects_of os }) same

walked_some : (xs ys : List Placed) (x : Placed) → (Some x, ys) ≡ walked xs → xs ≡ x ∷ ys
walked_some [] ys x e = let f = ap (λ (r : Option Placed × List Placed). r.0) e in cc
walked_some (y ∷ xs) ys x e =
    let f = ap (λ (r : Option Placed × List Placed). r.0) e in
    let g = ap (λ (r : Option Placed × List Placed). r.1) e in
    cc

abbrev pub nothing_left : List Placed → Option Placed × List Placed
nothing_left ys = (None, ys)

walked_none : (xs ys : List Placed) → nothing_left ys ≡ walked xs → xs ≡ []
walked_none [] ys e = refl
walked_none (x ∷ xs) ys e = let f = ap (λ (r : Option Placed × List Placed). r.0) e in cc

pub fewer : (xs ys : List Placed) (x : Placed) → (Some x, ys) ≡ walked xs → length ys < length xs
fewer xs ys x e = let f = ap (λ (zs : List Placed). length zs) (walked_some xs ys x e) in omega arith

event_first : (a : Applier) (left rest : List Placed) (e : Placed) (g : Going) → (Some e, rest) ≡ walked left
    → items_carried a left g ≡ and_then (items_carried a rest) (event_carried a e (with_bytes e.event.size g) e.event.body)
event_first a left rest e g is = ap (λ (es : List Placed). items_carried a es g) (walked_some left rest e is)

-- one more event was carried out
pub event_on : (a b : Applier) (all left rest : List Placed) (e : Placed) (first work after : Contents) (here later : UnderWay) → (Some e, rest) ≡ walked left
    → b ≡ a → Reached a all first left work here
    → ((g : Going) → Stands work here g → Goes (Ok tt) after later (event_carried b e (with_bytes e.event.size g) e.event.body))
    → Reached a all first rest after later
event_on a b all left rest e first work after here later is same reached goes =
    let went : Goes (Ok tt) after later (event_carried a e (with_bytes e.event.size reached.going) e.event.body) =
    subst (λ (x : Applier). Goes (Ok tt) after later (event_carried x e (with_bytes e.event.size reached.going) e.event.body)) same (goes reached.going reached.stands) in
    record {
      going = went.0;
      stands = went.2;
      same = sym (event_first a left rest e reached.going is ∙ ap (and_then (items_carried a rest)) went.1) ∙ reached.same;
    }

comes_stopped : (s : Stop) (work : Contents) (here : UnderWay) (carried : Result Going Differs) (more : Going → Result Going Differs)
    → Goes (Err s) work here carried → ComesTo (Err s) work (and_then more carried)
comes_stopped (stop.Differs place code table key) work here carried more e = ap (and_then more) e
comes_stopped stop.NoMemory work here carried more e = tt

-- one stopped
pub event_stopped : (s : Stop) (a b : Applier) (all left rest : List Placed) (e : Placed) (first work after : Contents) (here later : UnderWay) → (Some e, rest) ≡ walked left
    → b ≡ a → Reached a all first left work here
    → ((g : Going) → Stands work here g → Goes (Err s) after later (event_carried b e (with_bytes e.event.size g) e.event.body))
    → ComesTo (Err s) after (items_from a all first)
event_stopped s a b all left rest e first work after here later is same reached goes =
    subst (λ (x : Result Going Differs). ComesTo (Err s) after x) (sym (event_first a left rest e reached.going is) ∙ reached.same)
    (comes_stopped s after later (event_carried a e (with_bytes e.event.size reached.going) e.event.body) (items_carried a rest)
    (subst (λ (x : Applier). Goes (Err s) after later (event_carried x e (with_bytes e.event.size reached.going) e.event.body)) same (goes reached.going reached.stands)))

-- all were
pub events_done : (a : Applier) (all left rest : List Placed) (first work : Contents) (here : UnderWay) → nothing_left rest ≡ walked left
    → Reached a all first left work here → ComesTo (Ok tt) work (items_from a all first)
events_done a all left rest first work here is reached =
    (reached.going, sym reached.same ∙ ap (λ (es : List Placed). items_carried a es reached.going) (walked_none left rest is), reached.stands.progress)

-- ---- a whole transaction

abbrev behind_transaction : Contents → Going → Result Applied Differs
behind_transaction c g = Ok (applied_by (base_of c) g)

abbrev came_to : List Tree → Progress → Result Applied Differs
came_to os p = Ok (record { base = record { catalog = os; tables = p.store.tables }; counters = p.store.counters })

pub transaction_done : (a : Applier) (es : List Placed) (old new : Contents) → new.objects ≡ old.objects → ComesTo (Ok tt) new (items_from a es old)
    → transaction_carried a es old ≡ Ok (applied_in new)
transaction_done a es old new same comes =
    ap (and_then (behind_transaction old)) comes.1
    ∙ ap (came_to (objects_of old.objects)) comes.2
    ∙ ap (λ (os : List Object). came_to (objects_of os) (progress_in new)) (sym same)

pub transaction_stopped : (s : Stop) (a : Applier) (es : List Placed) (old work new : Contents) → ComesTo (Err s) work (items_from a es old)
    → Ends (Err s) (applied_in new) (transaction_carried a es old)
transaction_stopped (stop.Differs place code table key) a es old work new comes = ap (and_then (behind_transaction old)) comes
transaction_stopped stop.NoMemory a es old work new comes = tt
