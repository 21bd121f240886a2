-- Entries one after the other.
use Rattle.std.proofs.Common.{◌≡◌, ℕ, ◌+◌, ◌-◌, ◌<◌, ◌≤◌, ◌^◌, Bool, true, false, cond, min, List, [], ◌∷◌, ◌++◌, length, map, Option, Some, None, refl, sym, ◌∙◌, ap, subst, arith, append_assoc, zero-add, ◌==◌}
use Rattle.std.specs.Prelude.{if◌then◌else◌, IfSome}
use Rattle.std.specs.Option.{option_map, option_and_then}
use Rattle.std.proofs.lemmas.Bool.{ne_eqb, cond-false}
use Rattle.std.proofs.lemmas.List.{append-nil, length-append, map-append}
use Rattle.answer_text.specs.declared.report.Mark.{Mark}
use Rattle.disk_model.specs.Story.{Story, count}
use Rattle.disk_model.specs.Moments.{GoesOn}
use Rattle.disk_model.proofs.Moments.{on_refl, on_trans, on_count}
use Rattle.session_model.specs.catalog_rules.Bases.{Base}
use Rattle.session_model.specs.log_entries.declared.entries.Item.{Item}
use Rattle.session_model.specs.log_entries.declared.entries.Entry.{Entry}
use Rattle.session_model.specs.log_entries.declared.entries.Entry.TheVariants.{Transaction, Definition, LogStart}
use Rattle.session_model.specs.log_entries.Entries.{entry_applied}
use Rattle.session_model.specs.log_model.Log.{LogPlace, behind, counted, entry_bytes, head}
use Rattle.session_model.specs.Machine.{Whole, kept_of, kept_entry}
use Rattle.session_model.specs.Holding.{changes_of, define}
use Rattle.store_model.specs.Held.{LogEnd, Held, last_end}
use Rattle.store_model.specs.Entries.{writer_at, entry_of, held_behind}
use Rattle.store_model.specs.Laws.{HasLog}
use Rattle.store_model.proofs.Leading.{writer_goes_on}
use Rattle.commit_store.specs.declared.store.Store.{Store}
use Rattle.commit_store.specs.Keeping.{positions}
use Rattle.durable_runs.specs.Marks.{Named, source_mark}
use Rattle.durable_runs.specs.Runs.{CallsFit, behind_steps, Runs}
use Rattle.durable_runs.specs.Sources.{Stored, entry_stored, stored_behind, held_after, source_side, SourceRuns}
use Rattle.durable_runs.proofs.Storing.{held_append, held_is, stored_rises}
use Rattle.durable_runs.proofs.Joining.{runs_none, runs_failed, runs_committed, runs_join, runs_more}
use Rattle.durable_runs.proofs.Steps.{steps_append}
use Rattle.waiting_entries.specs.declared.waiting.Waiting.{Waiting}
use Rattle.waiting_entries.specs.Added.{rotation_at}
use Rattle.waiting_entries.specs.Waiting.{waiting_of, all_waiting, counts, HaveBodies}
use Rattle.store_source.specs.Writing.{IsOn, CanWrite, LeadsTo, put_calls, calls_of}
use Rattle.store_source.specs.Pushed.{NameInTurn, ArePushed, calls_for, all_calls}
use Rattle.session_model.proofs.of_log_model.Growing.{head_length}
use Rattle.store_source.proofs.Images.{if_map, each_stands}
use Rattle.store_source.proofs.Logs.{added_here, next_apart}
use Rattle.store_source.proofs.Entries.{ends_now, has, counts_are, waits}

-- ---- one entry before others

same_rest : {A : Type 0} (x y : A) (xs ys : List A) → x ∷ xs ≡ y ∷ ys → xs ≡ ys
same_rest x y xs ys e = cc

same_first : {A : Type 0} (x y : A) (xs ys : List A) → x ∷ xs ≡ y ∷ ys → x ≡ y
same_first x y xs ys e = cc

some_same : {A : Type 0} (x y : A) → Some x ≡ Some y → x ≡ y
some_same x y e = cc

parted : (first : Option Held) (es : List (Entry Whole)) (now : Held) → option_and_then (held_after es) first ≡ Some now
    → (mid : Held) × ((first ≡ Some mid) × (held_after es mid ≡ Some now))
parted None es now e = cc
parted (Some mid) es now e = (mid, (refl, e))

part : (e : Entry Whole) (es : List (Entry Whole)) (held now : Held) → held_after (e ∷ es) held ≡ Some now
    → (mid : Held) × ((held_after (e ∷ []) held ≡ Some mid) × (held_after es mid ≡ Some now))
part e es held now is = parted (held_after (e ∷ []) held) es now (sym (held_append (e ∷ []) es held) ∙ is)

number_made : (e : Entry Whole) (held now : Held) (base : Option Base) → option_and_then (held_after []) (option_map (held_behind kept_of changes_of define e held) base) ≡ Some now
    → now.number ≡ counted (entry_of kept_of e) held.number
number_made e held now None is = cc
number_made e held now (Some made) is = sym (ap (λ (h : Held). h.number) (some_same (held_behind kept_of changes_of define e held made) now is))

kept_is : (e : Entry Whole) → entry_of kept_of e ≡ kept_entry e
kept_is (Transaction stamp server items) = refl
kept_is (Definition stamp server i) = refl
kept_is (LogStart stamp server) = refl

number_now : (e : Entry Whole) (held now : Held) → held_after (e ∷ []) held ≡ Some now → now.number ≡ counted (kept_entry e) held.number
number_now e held now is =
    number_made e held now (entry_applied changes_of define e held.base) is ∙ ap (λ (k : Entry Item). counted k held.number) (kept_is e)

writer_now : (e : Entry Whole) (held now : Held) → HasLog (kept_entry e) held → held_after (e ∷ []) held ≡ Some now
    → writer_at now ≡ behind (kept_entry e) held.number (writer_at held)
writer_now e held now has is =
    let at : List LogEnd → LogPlace = λ (ends : List LogEnd). record { log = length ends; pos = last_end ends } in
    ap at (ends_now e held now is) ∙ writer_goes_on (kept_entry e) held has

-- the first entry can be written by itself
pub one : (t : Option Story) (store : Store) (s : Stored) (e : Entry Whole) (es : List (Entry Whole)) (w : Waiting) (ws : List Waiting) → CanWrite t store s (e ∷ es) (w ∷ ws)
    → CanWrite t store s (e ∷ []) (w ∷ [])
one t store s e es w ws can =
    let apart = part e es s.held can.leads.0 can.leads.1 in
    record {
      on = can.on;
      made = (can.made.0, tt);
      within = (can.within.0, λ now is. tt);
      leads = (apart.0, apart.1.0);
      queue = ap (λ (x : Waiting). x ∷ [])
          (same_first w (waiting_of (kept_entry e) s.held.number (writer_at s.held)) ws
          (all_waiting (map kept_entry es) (counted (kept_entry e) s.held.number) (behind (kept_entry e) s.held.number (writer_at s.held))) can.queue);
      bodies = (can.bodies.0, tt);
    }

-- ---- numbers, marks and calls of one entry

counted_is : (e : Entry Item) (number : ℕ) → counted e number ≡ number + cond (counts e) 1 0
counted_is (Transaction stamp server is) number = refl
counted_is (Definition stamp server i) number = refl
counted_is (LogStart stamp server) number = omega arith

name_more : (now : Mark) (number : ℕ) (marks : List Mark) (m : Mark) → NameInTurn now number marks → m ≡ record now { committed = number + length marks + 1; src_calls = m.src_calls }
    → NameInTurn now number (marks ++ m ∷ [])
name_more now number [] m named is =
    let same : number + length {A = Mark} [] + 1 ≡ number + 1 = omega arith in
    (is ∙ ap (λ (n : ℕ). record now { committed = n; src_calls = m.src_calls }) same, tt)
name_more now number (k ∷ marks) m named is =
    let same : number + length (k ∷ marks) + 1 ≡ number + 1 + length marks + 1 = omega arith in
    (named.0, name_more now (number + 1) marks m named.1 (is ∙ ap (λ (n : ℕ). record now { committed = n; src_calls = m.src_calls }) same))

fits_back : (t u : Option Story) → GoesOn t u → CallsFit u → CallsFit t
fits_back None u on fits = tt
fits_back (Some s) None on fits = absurd on
fits_back (Some s) (Some u) on fits = omega (arith, fits, on_count (Some s) (Some u) on)

-- ---- calls

pub put_some : (bytes : List ℕ) → 0 < length bytes → put_calls bytes ≡ 2
put_some [] some = absurd (omega (arith, some))
put_some (b ∷ bytes) some = refl

some_positions : (ends : List LogEnd) → 0 < length ends → put_calls (positions ends) ≡ 2
some_positions [] some = absurd (omega (arith, some))
some_positions (e ∷ ends) some = refl

-- an entry that begins no log
one_calls : (held : Held) (w : Waiting) → 0 < length held.ends → w.head ≡ [] → calls_of (positions held.ends) w ≡ 6
one_calls held w some none = omega (arith, some_positions held.ends some, ap put_calls none)

start_calls : (ends : List LogEnd) (w : Waiting) → put_calls w.head ≡ 2 → calls_of (positions ends) w ≡ (if length ends == 0 then 6 else 8)
start_calls [] w two = omega (arith, two)
start_calls (e ∷ ends) w two =
    let begun : (length (e ∷ ends) == 0) ≡ false = ne_eqb (length (e ∷ ends)) 0 (λ same. absurd (omega (arith, same))) in
    omega (arith, two, cond-false {A = ℕ} (length (e ∷ ends) == 0) 6 8 begun)

calls_are : (e : Entry Item) (held : Held) (w : Waiting) → HasLog e held → w ≡ waiting_of e held.number (writer_at held)
    → calls_of (positions held.ends) w ≡ calls_for e (length held.ends)
calls_are (Transaction stamp server is) held w has waits =
    one_calls held w has (ap (λ (x : Waiting). x.head) waits ∙ next_apart (length held.ends) (entry_bytes (Transaction stamp server is) held.number (writer_at held)) [])
calls_are (Definition stamp server i) held w has waits =
    one_calls held w has (ap (λ (x : Waiting). x.head) waits ∙ next_apart (length held.ends) (entry_bytes (Definition stamp server i) held.number (writer_at held)) [])
calls_are (LogStart stamp server) held w has waits =
    let bytes : w.head ≡ head stamp server =
    ap (λ (x : Waiting). x.head) waits
    ∙ next_apart (length held.ends) (rotation_at stamp server (writer_at held)) (if length held.ends + 1 == length held.ends + 1 then head stamp server else [])
    ∙ added_here (length held.ends + 1) (head stamp server) [] in
    start_calls held.ends w (ap put_calls bytes ∙ put_some (head stamp server) (omega (arith, head_length stamp server)))

called_on : (start t u : Option Story) (a b c d : ℕ) → GoesOn start t → IfSome start (λ _. count t + a ≡ b) → IfSome t (λ _. count u ≡ count t + c)
    → (count t + a ≡ b → count u ≡ count t + c → count u + d ≡ b) → IfSome start (λ _. count u + d ≡ b)
called_on None t u a b c d on before more f = tt
called_on (Some x) None u a b c d on before more f = absurd on
called_on (Some x) (Some y) u a b c d on before more f = f before more

said : (u : Option Story) (calls : ℕ) → CallsFit u → IfSome u (λ (x : Story). calls ≡ min (length x.calls) (2 ^ 64 - 1)) → IfSome u (λ _. calls ≡ count u)
said None calls fits is = tt
said (Some x) calls fits is = omega (arith, is, fits)

-- ---- a source that has gone on from the start of a queue to a place in it

pub record Went (start : Option Story) (s : Stored) (es : List (Entry Whole)) (now : Mark) (old : List Mark) (t : Option Story) (store : Store) (rest : List Waiting) (marks : List Mark) : Type 0 where
  pub mid : Stored
  pub front : List (Entry Whole)
  pub back : List (Entry Whole)
  pub apart : es ≡ front ++ back
  pub made : behind_steps source_side front s ≡ Some mid
  pub can : CanWrite t store mid back rest
  pub on : GoesOn start t
  pub run : CallsFit t → SourceRuns start t s front old marks
  pub pushed : ArePushed now s.held.number mid.held.number old marks
  pub calls : IfSome start (λ _. count t + all_calls (map kept_entry back) mid.held.number (writer_at mid.held)
      ≡ count start + all_calls (map kept_entry es) s.held.number (writer_at s.held))

if_calls : (t : Option Story) (x y : ℕ) → x ≡ y → IfSome t (λ _. x ≡ y)
if_calls None x y e = tt
if_calls (Some s) x y e = e

pub went_start : (t : Option Story) (store : Store) (s : Stored) (es : List (Entry Whole)) (now : Mark) (old : List Mark) (queue : List Waiting) → CanWrite t store s es queue
    → Went t s es now old t store queue old
went_start t store s es now old queue can = record {
  mid = s;
  front = [];
  back = es;
  apart = refl;
  made = refl;
  can = can;
  on = on_refl t;
  run = λ fits. runs_none source_side t s (map source_mark old) (each_stands t store s can.on);
  pushed = record { more = []; marks = sym (append-nil old); named = tt; number = omega arith };
  calls = if_calls t (count t + all_calls (map kept_entry es) s.held.number (writer_at s.held)) (count t + all_calls (map kept_entry es) s.held.number (writer_at s.held)) refl;
}

-- the entry at the place
pub record Next (t : Option Story) (store : Store) (mid : Stored) (back : List (Entry Whole)) (w : Waiting) (ws : List Waiting) : Type 0 where
  pub e : Entry Whole
  pub es : List (Entry Whole)
  pub is : back ≡ e ∷ es
  pub can : CanWrite t store mid (e ∷ es) (w ∷ ws)

pub next : (t : Option Story) (store : Store) (mid : Stored) (back : List (Entry Whole)) (w : Waiting) (ws : List Waiting) → CanWrite t store mid back (w ∷ ws) → Next t store mid back w ws
next t store mid [] w ws can = cc
next t store mid (e ∷ es) w ws can = record { e = e; es = es; is = refl; can = can }

none_left : (back : List (Entry Whole)) (number : ℕ) (p : LogPlace) → [] ≡ all_waiting (map kept_entry back) number p → back ≡ []
none_left [] number p is = refl
none_left (e ∷ es) number p is = cc

module _ (start : Option Story) (s : Stored) (es : List (Entry Whole)) (now : Mark) (old : List Mark) (t : Option Story) (store : Store) where
  -- the queue is written
  pub went_all : (marks : List Mark) → Went start s es now old t store [] marks → (CallsFit t → SourceRuns start t s es old marks)
      × ((after : Stored) → behind_steps source_side es s ≡ Some after → IsOn t store after)
      × IfSome start (λ _. count t ≡ count start + all_calls (map kept_entry es) s.held.number (writer_at s.held))
  went_all marks went = by went.back (none_left went.back went.mid.held.number (writer_at went.mid.held) went.can.queue) went.apart went.calls
    where
      by : (back : List (Entry Whole)) → back ≡ [] → es ≡ went.front ++ back
          → IfSome start (λ _. count t + all_calls (map kept_entry back) went.mid.held.number (writer_at went.mid.held) ≡ count start + all_calls (map kept_entry es) s.held.number (writer_at s.held))
          → (CallsFit t → SourceRuns start t s es old marks) × ((after : Stored) → behind_steps source_side es s ≡ Some after → IsOn t store after)
          × IfSome start (λ _. count t ≡ count start + all_calls (map kept_entry es) s.held.number (writer_at s.held))
      by (e ∷ rest) none apart calls = cc
      by [] none apart calls =
          let whole : es ≡ went.front = apart ∙ append-nil went.front in (
            λ fits. subst (λ (l : List (Entry Whole)). SourceRuns start t s l old marks) (sym whole) (went.run fits),
            λ after is.
                let same : went.mid ≡ after = some_same went.mid after (sym went.made ∙ ap (λ (l : List (Entry Whole)). behind_steps source_side l s) (sym whole) ∙ is) in
                subst (λ (x : Stored). IsOn t store x) same went.can.on,
            if_map start (count t + 0 ≡ count start + all_calls (map kept_entry es) s.held.number (writer_at s.held))
                (count t ≡ count start + all_calls (map kept_entry es) s.held.number (writer_at s.held)) calls (λ same. omega (arith, same)),
          )

  module _ (w : Waiting) (ws : List Waiting) (marks : List Mark) (went : Went start s es now old t store (w ∷ ws) marks) where
    pub first : Next t store went.mid went.back w ws
    first = next t store went.mid went.back w ws went.can

    pub first_can : CanWrite t store went.mid (first.e ∷ []) (w ∷ [])
    first_can = one t store went.mid first.e first.es w ws first.can

    abbrev pub entry : Entry Whole
    entry = first.e

    -- what the entry makes of it
    pub after : Stored
    after = stored_behind first.e went.mid (part first.e first.es went.mid.held first.can.leads.0 first.can.leads.1).0

    pub after_is : entry_stored first.e went.mid ≡ Some after
    unfolding after
    after_is = ap (option_map (stored_behind first.e went.mid)) (part first.e first.es went.mid.held first.can.leads.0 first.can.leads.1).1.0

    held_after_one : held_after (first.e ∷ []) went.mid.held ≡ Some after.held
    held_after_one = held_is first.e went.mid after after_is

    rises : went.mid.held.number ≤ after.held.number
    rises = stored_rises (first.e ∷ []) went.mid after (ap (option_and_then (behind_steps source_side [])) after_is)

    reached : behind_steps source_side (went.front ++ first.e ∷ []) s ≡ Some after
    reached =
        steps_append source_side went.front (first.e ∷ []) s ∙ ap (option_and_then (behind_steps source_side (first.e ∷ []))) went.made
        ∙ ap (option_and_then (behind_steps source_side [])) after_is

    joined : es ≡ (went.front ++ first.e ∷ []) ++ first.es
    joined = went.apart ∙ ap (λ (l : List (Entry Whole)). went.front ++ l) first.is ∙ sym (append_assoc went.front (first.e ∷ []) first.es)

    -- it was not kept, or it needs no mark
    failed : (u : Option Story) → LeadsTo t u went.mid after → CallsFit u → SourceRuns start u s (went.front ++ first.e ∷ []) old marks
    failed u leads fits =
        runs_join source_side start t u s went.mid went.front (first.e ∷ []) (map source_mark old) (map source_mark marks) (map source_mark marks)
        (went.run (fits_back t u leads.on fits)) went.made
        (runs_failed source_side t u went.mid after first.e (map source_mark marks) after_is rises leads.on leads.images)

    pub went_wrong : (u : Option Story) → LeadsTo t u went.mid after → CallsFit u → SourceRuns start u s es old marks
    went_wrong u leads fits =
        subst (λ (l : List (Entry Whole)). SourceRuns start u s l old marks) (sym joined)
        (runs_more source_side start u s (went.front ++ first.e ∷ []) first.es (map source_mark old) (map source_mark marks) (failed u leads fits)
        (λ mid last made is. stored_rises first.es mid last is))

    -- it was kept
    module _ (u : Option Story) (store' : Store) (leads : LeadsTo t u went.mid after) (on : IsOn u store' after)
        (called : IfSome t (λ _. count u ≡ count t + calls_of store.ends.list w)) where
      held_same : (part first.e first.es went.mid.held first.can.leads.0 first.can.leads.1).0 ≡ after.held
      unfolding after
      held_same = refl

      number : after.held.number ≡ counted (kept_entry first.e) went.mid.held.number
      number = number_now first.e went.mid.held after.held held_after_one

      writer : writer_at after.held ≡ behind (kept_entry first.e) went.mid.held.number (writer_at went.mid.held)
      writer = writer_now first.e went.mid.held after.held (has t store went.mid first.e w first_can) held_after_one

      rest_can : CanWrite u store' after first.es ws
      rest_can = record {
        on = on;
        made = first.can.made.1;
        within = first.can.within.1 after.held held_after_one;
        leads = (
          first.can.leads.0,
          subst (λ (h : Held). held_after first.es h ≡ Some first.can.leads.0) held_same (part first.e first.es went.mid.held first.can.leads.0 first.can.leads.1).1.1,
        );
        queue = same_rest w (waiting_of (kept_entry first.e) went.mid.held.number (writer_at went.mid.held)) ws
            (all_waiting (map kept_entry first.es) (counted (kept_entry first.e) went.mid.held.number) (behind (kept_entry first.e) went.mid.held.number (writer_at went.mid.held)))
            first.can.queue
            ∙ ap (λ (n : ℕ). all_waiting (map kept_entry first.es) n (behind (kept_entry first.e) went.mid.held.number (writer_at went.mid.held))) (sym number)
            ∙ ap (all_waiting (map kept_entry first.es) after.held.number) (sym writer);
        bodies =
            subst (λ (p : LogPlace). HaveBodies (map kept_entry first.es) after.held.number p) (sym writer)
            (subst (λ (n : ℕ). HaveBodies (map kept_entry first.es) n (behind (kept_entry first.e) went.mid.held.number (writer_at went.mid.held))) (sym number)
            first.can.bodies.1);
      }

      -- what the calls come to
      calls_on : IfSome start (λ _. count u + all_calls (map kept_entry first.es) after.held.number (writer_at after.held)
          ≡ count start + all_calls (map kept_entry es) s.held.number (writer_at s.held))
      calls_on = called_on start t u (all_calls (map kept_entry went.back) went.mid.held.number (writer_at went.mid.held)) (count start + all_calls (map kept_entry es) s.held.number (writer_at s.held))
          (calls_of store.ends.list w) (all_calls (map kept_entry first.es) after.held.number (writer_at after.held)) went.on went.calls called
          (λ before more.
          let rest : all_calls (map kept_entry first.es) after.held.number (writer_at after.held)
          ≡ all_calls (map kept_entry first.es) (counted (kept_entry first.e) went.mid.held.number) (behind (kept_entry first.e) went.mid.held.number (writer_at went.mid.held)) =
          ap (λ (n : ℕ). all_calls (map kept_entry first.es) n (writer_at after.held)) number
          ∙ ap (all_calls (map kept_entry first.es) (counted (kept_entry first.e) went.mid.held.number)) writer in
          let whole : all_calls (map kept_entry went.back) went.mid.held.number (writer_at went.mid.held)
          ≡ all_calls (map kept_entry (first.e ∷ first.es)) went.mid.held.number (writer_at went.mid.held) =
          ap (λ (l : List (Entry Whole)). all_calls (map kept_entry l) went.mid.held.number (writer_at went.mid.held)) first.is in
          let one_entry : calls_of store.ends.list w ≡ calls_for (kept_entry first.e) (length went.mid.held.ends) =
          ap (λ (ends : List ℕ). calls_of ends w) went.can.on.keeps.holds.shows.ends
          ∙ calls_are (kept_entry first.e) went.mid.held w (has t store went.mid first.e w first_can) (waits t store went.mid first.e w first_can) in
          omega (arith, before, more, rest, whole, one_entry))

      entry_counts : cond w.counts 1 0 + went.mid.held.number ≡ after.held.number
      entry_counts =
          let mark = counted_is (kept_entry first.e) went.mid.held.number in
          let same = ap {B = ℕ} (λ (b : Bool). cond b 1 0) (counts_are t store went.mid first.e w first_can) in
          omega (arith, mark, same, number)

      -- an entry that needs no mark
      pub went_on : w.counts ≡ false → Went start s es now old u store' ws marks
      went_on uncounted = record {
        mid = after;
        front = went.front ++ first.e ∷ [];
        back = first.es;
        apart = joined;
        made = reached;
        can = rest_can;
        on = on_trans start t u went.on leads.on;
        run = failed u leads;
        pushed = record {
          more = went.pushed.more;
          marks = went.pushed.marks;
          named = went.pushed.named;
          number = sym entry_counts ∙ ap (λ (b : Bool). cond b 1 0 + went.mid.held.number) uncounted ∙ zero-add went.mid.held.number ∙ went.pushed.number;
        };
        calls = calls_on;
      }

      -- a transaction, with its mark
      module _ (counted' : w.counts ≡ true) (m : Mark) (is : m ≡ record now { committed = store'.number; src_calls = m.src_calls })
          (called' : IfSome u (λ (x : Story). m.src_calls ≡ min (length x.calls) (2 ^ 64 - 1))) where
        shows : store'.number ≡ after.held.number
        shows = on.keeps.holds.shows.number

        next_number : after.held.number ≡ went.mid.held.number + 1
        next_number =
            let one_more = sym entry_counts ∙ ap (λ (b : Bool). cond b 1 0 + went.mid.held.number) counted' in
            omega (arith, one_more)

        run_on : CallsFit u → SourceRuns start u s (went.front ++ first.e ∷ []) old (marks ++ m ∷ [])
        run_on fits =
            runs_join source_side start t u s went.mid went.front (first.e ∷ []) (map source_mark old) (map source_mark marks) (map source_mark (marks ++ m ∷ []))
            (went.run (fits_back t u leads.on fits)) went.made
            (subst (λ (l : List Named). Runs source_side t u went.mid (first.e ∷ []) (map source_mark marks) l) (sym (map-append source_mark marks (m ∷ [])))
            (runs_committed source_side t u went.mid after first.e (map source_mark marks) (source_mark m) after_is rises leads.on leads.images (each_stands u store' after on)
            (said u m.src_calls fits called') (ap (λ (k : Mark). k.committed) is ∙ shows)))

        pub went_counted : Went start s es now old u store' ws (marks ++ m ∷ [])
        went_counted = record {
          mid = after;
          front = went.front ++ first.e ∷ [];
          back = first.es;
          apart = joined;
          made = reached;
          can = rest_can;
          on = on_trans start t u went.on leads.on;
          run = run_on;
          pushed = record {
            more = went.pushed.more ++ m ∷ [];
            marks = ap (λ (l : List Mark). l ++ m ∷ []) went.pushed.marks ∙ append_assoc old went.pushed.more (m ∷ []);
            named = name_more now s.held.number went.pushed.more m went.pushed.named
                (is ∙ ap (λ (n : ℕ). record now { committed = n; src_calls = m.src_calls })
                (shows ∙ next_number ∙ ap (λ (n : ℕ). n + 1) went.pushed.number));
            number = omega (arith, next_number, went.pushed.number, length-append went.pushed.more (m ∷ []));
          };
          calls = calls_on;
        }
