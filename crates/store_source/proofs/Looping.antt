-- The loop over a queue.
use Rattle.std.proofs.Common.{◌≡◌, ℕ, ◌+◌, ◌-◌, ◌<◌, ◌≤◌, ◌^◌, zero, suc, min, Bool, true, false, cond, List, [], ◌∷◌, ◌++◌, length, map, reverse, take, drop, get_or, set, Option, Some, sym, ◌∙◌, ap, subst, arith}
use Rattle.std.specs.Prelude.{IfSome}
use Rattle.std.proofs.lemmas.List.{append-nil, length-set, reverse-append, reverse-reverse, take_more_set}
use Rattle.answer_text.specs.declared.report.Mark.{Mark}
use Rattle.disk_model.specs.Story.{Story, count}
use Rattle.disk_model.specs.Moments.{GoesOn}
use Rattle.disk_model.proofs.Moments.{on_trans}
use Rattle.session_model.specs.log_entries.declared.entries.Entry.{Entry}
use Rattle.session_model.specs.Machine.{Whole, kept_entry}
use Rattle.store_model.specs.Entries.{writer_at}
use Rattle.commit_store.specs.declared.store.Store.{Store}
use Rattle.durable_runs.specs.Marks.{source_mark}
use Rattle.durable_runs.specs.Runs.{CallsFit, behind_steps}
use Rattle.durable_runs.specs.Sources.{Stored, entry_stored, source_side, SourceRuns}
use Rattle.durable_runs.proofs.Storing.{stored_rises}
use Rattle.durable_runs.proofs.Joining.{runs_none, runs_more}
use Rattle.waiting_entries.specs.declared.waiting.Waiting.{Waiting}
use Rattle.store_source.specs.Writing.{IsOn, CanWrite, LeadsTo, calls_of}
use Rattle.store_source.specs.Pushed.{begun, wanted, ArePushed, all_calls}
use Rattle.store_source.proofs.Images.{each_stands}
use Rattle.store_source.proofs.Queues.{Went, went_all, first_can, entry, after, after_is, went_wrong, went_on, went_counted}

-- the item at a place, and those behind it
pub next_is : {X : Type 0} (xs : List X) (i : ℕ) (x : X) → i < length xs → x ≡ get_or xs i x → drop i xs ≡ x ∷ drop (i + 1) xs
next_is {X} xs i x lt is = let more : suc i ≡ i + 1 = omega arith in from xs i lt is ∙ ap (λ (k : ℕ). x ∷ drop k xs) more
  where
    from : (xs : List X) (i : ℕ) → i < length xs → x ≡ get_or xs i x → drop i xs ≡ x ∷ drop (suc i) xs
    from [] i lt is = absurd (omega (arith, lt))
    from (y ∷ xs) zero lt is = ap (λ (z : X). z ∷ xs) (sym is)
    from (y ∷ xs) (suc i) lt is = from xs i (omega (arith, lt)) is

-- how many marks are still wanted
pub wanted_next : (queue : List Waiting) (i : ℕ) (w : Waiting) → drop i queue ≡ w ∷ drop (i + 1) queue → wanted (drop i queue) ≡ cond w.counts 1 0 + wanted (drop (i + 1) queue)
wanted_next queue i w is = ap wanted is

pub begun_next : (queue : List Waiting) (i : ℕ) (w : Waiting) → drop i queue ≡ w ∷ drop (i + 1) queue → begun (drop i queue) ≡ cond w.counts 0 1 + begun (drop (i + 1) queue)
begun_next queue i w is = ap begun is

-- a queue from its last entry on: the next one is at its end
pub last_next : {X : Type 0} (left less : List X) (x : X) → left ≡ less ++ x ∷ [] → reverse left ≡ x ∷ reverse less
last_next left less x is = ap reverse is ∙ reverse-append less (x ∷ [])

pub begun_last : (left less : List Waiting) (w : Waiting) → left ≡ less ++ w ∷ [] → begun (reverse left) ≡ begun (w ∷ []) + begun (reverse less)
begun_last left less w is =
    let none : begun (w ∷ []) ≡ cond w.counts 0 1 = omega arith in
    omega (arith, none, ap begun (last_next left less w is))

pub wanted_last : (left less : List Waiting) (w : Waiting) → left ≡ less ++ w ∷ [] → wanted (reverse left) ≡ cond w.counts 1 0 + wanted (reverse less)
wanted_last left less w is = ap wanted (last_next left less w is)

module _ (queue left : List Waiting) (is : left ≡ reverse queue) where
  back : reverse left ≡ queue
  back = ap reverse is ∙ reverse-reverse queue

  pub room_first : (at count : ℕ) → at + wanted queue ≤ count → at + wanted (reverse left) ≤ count
  room_first at count room = omega (arith, ap wanted back, room)

  pub logs_first : (room : ℕ) → begun queue ≤ room → begun (reverse left) ≤ room
  logs_first room few = omega (arith, ap begun back, few)

  pub went_first : (start : Option Story) (s : Stored) (es : List (Entry Whole)) (now : Mark) (old : List Mark) (t : Option Story) (store : Store) (marks : List Mark)
      → Went start s es now old t store queue marks → Went start s es now old t store (reverse left) marks
  went_first start s es now old t store marks went = subst (λ (rest : List Waiting). Went start s es now old t store rest marks) (sym back) went

-- none is left
pub last_none : {X : Type 0} (left : List X) → left ≡ [] → reverse left ≡ []
last_none left is = ap reverse is

module _ (start : Option Story) (s : Stored) (es : List (Entry Whole)) (now : Mark) (old : List Mark) (t : Option Story) (store : Store) (left less : List Waiting) (w : Waiting)
    (marks : List Mark) (went : Went start s es now old t store (reverse left) marks) (is : left ≡ less ++ w ∷ []) where
  there : Went start s es now old t store (w ∷ reverse less) marks
  there = subst (λ (rest : List Waiting). Went start s es now old t store rest marks) (last_next left less w is) went

  pub ready : (x : Stored) × ((e : Entry Whole) × CanWrite t store x (e ∷ []) (w ∷ []))
  ready = (there.mid, (entry start s es now old t store w (reverse less) marks there, first_can start s es now old t store w (reverse less) marks there))

  module _ (u : Option Story) (leads : (x y : Stored) (e : Entry Whole) → CanWrite t store x (e ∷ []) (w ∷ []) → entry_stored e x ≡ Some y → LeadsTo t u x y) where
    led : LeadsTo t u there.mid (after start s es now old t store w (reverse less) marks there)
    led = leads there.mid (after start s es now old t store w (reverse less) marks there) (entry start s es now old t store w (reverse less) marks there)
        (first_can start s es now old t store w (reverse less) marks there) (after_is start s es now old t store w (reverse less) marks there)

    pub wrong_goes : GoesOn start u
    wrong_goes = on_trans start t u there.on led.on

    pub wrong : CallsFit u → SourceRuns start u s es old marks
    wrong fits = went_wrong start s es now old t store w (reverse less) marks there u led fits

    module _ (store' : Store) (on : (x y : Stored) (e : Entry Whole) → CanWrite t store x (e ∷ []) (w ∷ []) → entry_stored e x ≡ Some y → IsOn u store' y)
        (called : IfSome t (λ _. count u ≡ count t + calls_of store.ends.list w)) where
      here : IsOn u store' (after start s es now old t store w (reverse less) marks there)
      here = on there.mid (after start s es now old t store w (reverse less) marks there) (entry start s es now old t store w (reverse less) marks there)
          (first_can start s es now old t store w (reverse less) marks there) (after_is start s es now old t store w (reverse less) marks there)

      pub unmarked : w.counts ≡ false → Went start s es now old u store' (reverse less) marks
      unmarked none = went_on start s es now old t store w (reverse less) marks there u store' led here called none

      pub marked : w.counts ≡ true → (m : Mark) → m ≡ record now { committed = store'.number; src_calls = m.src_calls }
          → IfSome u (λ (x : Story). m.src_calls ≡ min (length x.calls) (2 ^ 64 - 1)) → Went start s es now old u store' (reverse less) (marks ++ m ∷ [])
      marked some m same calls = went_counted start s es now old t store w (reverse less) marks there u store' led here called some m same calls

-- where a call failed
pub pushed_at : (start : Option Story) (s : Stored) (es : List (Entry Whole)) (now : Mark) (old : List Mark) (t : Option Story) (store : Store) (rest : List Waiting) (marks : List Mark)
    → Went start s es now old t store rest marks → (number : ℕ) → number ≡ store.number → ArePushed now s.held.number number old marks
pushed_at start s es now old t store rest marks went number same =
    subst (λ (n : ℕ). ArePushed now s.held.number n old marks) (sym (same ∙ went.can.on.keeps.holds.shows.number)) went.pushed

-- ---- before the first call

pub no_runs : (t : Option Story) (store : Store) (s : Stored) (es : List (Entry Whole)) (queue : List Waiting) (marks : List Mark) → CanWrite t store s es queue
    → SourceRuns t t s es marks marks
no_runs t store s es queue marks can =
    runs_more source_side t t s [] es (map source_mark marks) (map source_mark marks) (runs_none source_side t s (map source_mark marks) (each_stands t store s can.on))
    (λ mid last made is. stored_rises es mid last is)

pub none_pushed : (t : Option Story) (store : Store) (s : Stored) (es : List (Entry Whole)) (queue : List Waiting) (now : Mark) (marks : List Mark) → CanWrite t store s es queue
    → ArePushed now s.held.number store.number marks marks
none_pushed t store s es queue now marks can =
    record { more = []; marks = sym (append-nil marks); named = tt; number = omega (arith, can.on.keeps.holds.shows.number) }

-- ---- at the end of the queue

module _ (start : Option Story) (s : Stored) (es : List (Entry Whole)) (now : Mark) (old : List Mark) (t : Option Story) (store : Store) (left : List Waiting) (none : left ≡ [])
    (marks : List Mark) (went : Went start s es now old t store (reverse left) marks) where
  all_there : Went start s es now old t store [] marks
  all_there = subst (λ (rest : List Waiting). Went start s es now old t store rest marks) (last_none left none) went

  pub ended_run : CallsFit t → SourceRuns start t s es old marks
  ended_run = (went_all start s es now old t store marks all_there).0

  pub ended_on : (last : Stored) → behind_steps source_side es s ≡ Some last → IsOn t store last
  ended_on = (went_all start s es now old t store marks all_there).1

  pub ended_calls : IfSome start (λ _. count t ≡ count start + all_calls (map kept_entry es) s.held.number (writer_at s.held))
  ended_calls = (went_all start s es now old t store marks all_there).2

-- ---- the same marks, said otherwise

pub set_is : (marks marks' : List Mark) (at at' : ℕ) (m : Mark) → at < length marks → marks' ≡ set marks at m → at' ≡ at + 1 → take at marks ++ m ∷ [] ≡ take at' marks'
set_is marks marks' at at' m lt is more =
    sym (take_more_set marks at m lt) ∙ sym (ap (λ (k : ℕ). take k (set marks at m)) more) ∙ sym (ap (take at') is)

pub went_same : (start : Option Story) (s : Stored) (es : List (Entry Whole)) (now : Mark) (old : List Mark) (t : Option Story) (store : Store) (rest : List Waiting) (marks marks' : List Mark)
    → marks ≡ marks' → Went start s es now old t store rest marks → Went start s es now old t store rest marks'
went_same start s es now old t store rest marks marks' is went = subst (λ (l : List Mark). Went start s es now old t store rest l) is went

pub room_set : (marks marks' : List Mark) (at at' rest all : ℕ) (m : Mark) (b : Bool) → b ≡ true → all ≡ cond b 1 0 + rest → at + all ≤ length marks → marks' ≡ set marks at m → at' ≡ at + 1
    → at' + rest ≤ length marks'
room_set marks marks' at at' rest all m b counted is room set_to more =
    let one : cond {A = ℕ} b 1 0 ≡ 1 = ap {B = ℕ} (λ (c : Bool). cond c 1 0) counted in
    omega (arith, one, is, room, ap length set_to, length-set marks at m, more)

pub room_same : (marks marks' : List Mark) (at at' rest all : ℕ) (b : Bool) → b ≡ false → all ≡ cond b 1 0 + rest → at + all ≤ length marks → marks' ≡ marks → at' ≡ at → at' + rest ≤ length marks'
room_same marks marks' at at' rest all b counted is room same more =
    let none : cond {A = ℕ} b 1 0 ≡ 0 = ap {B = ℕ} (λ (c : Bool). cond c 1 0) counted in
    omega (arith, none, is, room, ap length same, more)

pub room_now : (marks : List Mark) (at rest all : ℕ) (b : Bool) → b ≡ true → all ≡ cond b 1 0 + rest → at + all ≤ length marks → at < length marks
room_now marks at rest all b counted is room =
    let one : cond {A = ℕ} b 1 0 ≡ 1 = ap {B = ℕ} (λ (c : Bool). cond c 1 0) counted in
    omega (arith, one, is, room)

pub runs_same : (t u : Option Story) (s : Stored) (es : List (Entry Whole)) (a a' b b' : List Mark) → a ≡ a' → b ≡ b' → SourceRuns t u s es a b → SourceRuns t u s es a' b'
runs_same t u s es a a' b b' p q runs = subst (λ (l : List Mark). SourceRuns t u s es a' l) q (subst (λ (l : List Mark). SourceRuns t u s es l b) p runs)

pub pushed_same : (now : Mark) (before after : ℕ) (a a' b b' : List Mark) → a ≡ a' → b ≡ b' → ArePushed now before after a b → ArePushed now before after a' b'
pushed_same now before after a a' b b' p q pushed =
    subst (λ (l : List Mark). ArePushed now before after a' l) q (subst (λ (l : List Mark). ArePushed now before after l b) p pushed)
