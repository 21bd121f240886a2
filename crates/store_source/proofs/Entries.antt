-- One entry that can be written.
use Rattle.std.proofs.Common.{◌≡◌, ℕ, ◌+◌, ◌≤◌, List, [], ◌∷◌, ◌++◌, length, take, Option, Some, None, refl, sym, ◌∙◌, ap, arith}
use Rattle.std.specs.Option.{option_map, option_and_then}
use Rattle.std.proofs.lemmas.List.{length-append}
use Rattle.disk_model.specs.Story.{Image, Story, overwritten, seen}
use Rattle.disk_model.specs.Moments.{GoesOn}
use Rattle.disk_model.proofs.Laws.{if_on, if_both}
use Rattle.session_model.specs.catalog_rules.Bases.{Base}
use Rattle.session_model.specs.log_entries.declared.entries.Item.{Item}
use Rattle.session_model.specs.log_entries.declared.entries.Entry.{Entry}
use Rattle.session_model.specs.log_entries.declared.entries.Entry.TheVariants.{Transaction, Definition, LogStart}
use Rattle.session_model.specs.log_entries.Entries.{entry_applied}
use Rattle.session_model.specs.Machine.{Whole, kept_of, kept_entry}
use Rattle.session_model.specs.Holding.{changes_of, define}
use Rattle.store_model.specs.declared.record.Record.{Record}
use Rattle.store_model.specs.Held.{LogEnd, Held, last_end, most_logs, applied}
use Rattle.store_model.specs.Stores.{first_log, HasLogs}
use Rattle.store_model.specs.Entries.{writer_at, old_end, ends_behind, record_of_entry, IsWithin, entry_of, held_behind}
use Rattle.store_model.specs.Laws.{HasLog}
use Rattle.store_model.proofs.Standing.{long, there}
use Rattle.commit_store.specs.declared.next.Next.{Next}
use Rattle.commit_store.specs.declared.next.Next.TheVariants.{Nothing, Committed, LogBegun, CarriedOut}
use Rattle.commit_store.specs.declared.store.Store.{Store}
use Rattle.commit_store.specs.Next.{passed, prepared_of}
use Rattle.durable_runs.specs.Sources.{Stored, end_of, log_in, stored_behind, entry_stored, held_after}
use Rattle.durable_runs.proofs.Storing.{record_one, held_is}
use Rattle.waiting_entries.specs.declared.waiting.Waiting.{Waiting}
use Rattle.waiting_entries.specs.Added.{added}
use Rattle.waiting_entries.specs.Waiting.{waiting_of, counts, HasBody}
use Rattle.store_source.specs.Writing.{CanWrite, put_by, PutsBehind, HasGrown}
use Rattle.store_source.proofs.Logs.{over_take, over_long, last_count, ends_are, added_is, none_waits, long_ends, ends_long}
use Rattle.store_source.proofs.Images.{told, Told}

-- ---- what an entry leaves

same_first : {A : Type 0} (x y : A) (xs ys : List A) → x ∷ xs ≡ y ∷ ys → x ≡ y
same_first x y xs ys e = cc

some_same : {A : Type 0} (x y : A) → Some x ≡ Some y → x ≡ y
some_same x y e = cc

kept_is : (e : Entry Whole) → entry_of kept_of e ≡ kept_entry e
kept_is (Transaction stamp server items) = refl
kept_is (Definition stamp server i) = refl
kept_is (LogStart stamp server) = refl

ends_made : (e : Entry Whole) (held now : Held) (base : Option Base) → option_and_then (held_after []) (option_map (held_behind kept_of changes_of define e held) base) ≡ Some now
    → now.ends ≡ ends_behind (entry_of kept_of e) held.number held
ends_made e held now None is = cc
ends_made e held now (Some made) is = sym (ap (λ (h : Held). h.ends) (some_same (held_behind kept_of changes_of define e held made) now is))

pub ends_now : (e : Entry Whole) (held now : Held) → held_after (e ∷ []) held ≡ Some now → now.ends ≡ ends_behind (kept_entry e) held.number held
ends_now e held now is =
    ends_made e held now (entry_applied changes_of define e held.base) is ∙ ap (λ (k : Entry Item). ends_behind k held.number held) (kept_is e)

logs_made : (e : Entry Whole) (s now : Stored) (held : Option Held) → option_map (stored_behind e s) held ≡ Some now
    → (n : ℕ) → now.logs n ≡ s.logs n ++ added n (kept_entry e) s.held.number (writer_at s.held)
logs_made e s now None is = cc
logs_made e s now (Some made) is = λ n. sym (ap (λ (x : Stored). x.logs n) (some_same (stored_behind e s made) now is))

logs_now : (e : Entry Whole) (s now : Stored) → entry_stored e s ≡ Some now → (n : ℕ) → now.logs n ≡ s.logs n ++ added n (kept_entry e) s.held.number (writer_at s.held)
logs_now e s now is = logs_made e s now (held_after (e ∷ []) s.held) is

within_log : (e : Entry Item) (held : Held) → IsWithin e held → HasLog e held
within_log (Transaction stamp server is) held within = within.1.0
within_log (Definition stamp server i) held within = within.1.0
within_log (LogStart stamp server) held within = tt

few_behind : (e : Entry Item) (held : Held) → IsWithin e held → length held.ends ≤ most_logs → length (ends_behind e held.number held) ≤ most_logs
few_behind (Transaction stamp server is) held within few =
    let same = last_count (Rattle.session_model.specs.log_model.Log.behind (Transaction stamp server is) held.number (writer_at held)).pos held.ends in
    omega (arith, same, few)
few_behind (Definition stamp server i) held within few =
    let same = last_count (Rattle.session_model.specs.log_model.Log.behind (Definition stamp server i) held.number (writer_at held)).pos held.ends in
    omega (arith, same, few)
few_behind (LogStart stamp server) held within few =
    let new : LogEnd = record { pos = 123 } in
    omega (arith, last_count (old_end (writer_at held)) held.ends, length-append (Rattle.store_model.specs.Held.with_last_end (old_end (writer_at held)) held.ends) (new ∷ []), within.1.0)

-- the readers' node stays
pub node_passed : (n : Next) (store : Store) → (passed n store).node ≡ store.node
node_passed Nothing store = refl
node_passed (Committed head) store = refl
node_passed (LogBegun old_end pos) store = refl
node_passed (CarriedOut head) store = refl

-- ---- an entry that can be written

-- its record
abbrev pub record_for : Entry Whole → Stored → Record
record_for e s = record_of_entry (kept_entry e) s.held.number (writer_at s.held)

module _ (t : Option Story) (store : Store) (s : Stored) (e : Entry Whole) (w : Waiting) (can : CanWrite t store s (e ∷ []) (w ∷ [])) where
  pub waits : w ≡ waiting_of (kept_entry e) s.held.number (writer_at s.held)
  waits = same_first w (waiting_of (kept_entry e) s.held.number (writer_at s.held)) [] [] can.queue

  pub prepared_is : w.prepared ≡ prepared_of (record_for e s)
  prepared_is = ap (λ (x : Waiting). x.prepared) waits

  pub counts_are : w.counts ≡ counts (kept_entry e)
  counts_are = ap (λ (x : Waiting). x.counts) waits

  pub body : HasBody (record_for e s)
  body = can.bodies.0

  pub has : HasLog (kept_entry e) s.held
  has = within_log (kept_entry e) s.held can.within.0

  pub no_tail : s.held.ends ≡ [] → w.tail ≡ []
  no_tail none = ap (λ (x : Waiting). x.tail) waits ∙ none_waits (kept_entry e) s.held has none

  -- where it is made
  pub made : (now : Stored) × (entry_stored e s ≡ Some now)
  made = (stored_behind e s can.leads.0, ap (option_map (stored_behind e s)) can.leads.1)

  module _ (now : Stored) (is : entry_stored e s ≡ Some now) where
    held_now : held_after (e ∷ []) s.held ≡ Some now.held
    held_now = held_is e s now is

    pub makes : applied (record_for e s) s.held ≡ Some now.held
    makes = record_one e s.held now.held can.made.0 can.within.0 held_now

    pub few : length now.held.ends ≤ most_logs
    few = omega (arith, ap length (ends_now e s.held now.held held_now), few_behind (kept_entry e) s.held can.within.0 can.on.few)

    put_is : (n : ℕ) → added n (kept_entry e) s.held.number (writer_at s.held) ≡ put_by w (length s.held.ends) n
    put_is n = added_is (kept_entry e) s.held.number (writer_at s.held) n ∙ ap (λ (x : Waiting). put_by x (length s.held.ends) n) (sym waits)

    end_is : (n : ℕ) → end_of n now.held.ends ≡ end_of n s.held.ends + length (put_by w (length s.held.ends) n)
    end_is n =
        ap (λ (ends : List LogEnd). end_of n ends) (ends_now e s.held now.held held_now) ∙ ends_are (kept_entry e) s.held has n
        ∙ ap (λ (p : List ℕ). end_of n s.held.ends + length p) (put_is n)

    module _ (image image' : Image) (n : ℕ) (reads : image' (7 + n) ≡ overwritten (end_of n s.held.ends) (put_by w (length s.held.ends) n) (image (7 + n)))
        (within : end_of n s.held.ends ≤ length (image (7 + n))) where
      log_grown : log_in n now.held.ends image' ≡ log_in n s.held.ends image ++ put_by w (length s.held.ends) n
      log_grown =
          ap (λ (k : ℕ). take k (image' (7 + n))) (end_is n)
          ∙ ap (take (end_of n s.held.ends + length (put_by w (length s.held.ends) n))) reads
          ∙ over_take (end_of n s.held.ends) (put_by w (length s.held.ends) n) (image (7 + n)) within

      log_long : end_of n now.held.ends ≤ length (image' (7 + n))
      log_long =
          omega (arith, end_is n, ap length reads, over_long (end_of n s.held.ends) (put_by w (length s.held.ends) n) (image (7 + n)) within)

    -- its bytes are put
    pub grown : (u : Option Story) → GoesOn t u → PutsBehind t u s.held.ends (put_by w (length s.held.ends)) → HasGrown u now
    grown u on puts =
        if_on t u (Told t store s can.on × ((n : ℕ) → seen u (7 + n) ≡ overwritten (end_of n s.held.ends) (put_by w (length s.held.ends) n) (seen t (7 + n))))
        (HasLogs first_log now.held.ends (seen u) × ((n : ℕ) → log_in n now.held.ends (seen u) ≡ now.logs n)) on
        (if_both t (Told t store s can.on) ((n : ℕ) → seen u (7 + n) ≡ overwritten (end_of n s.held.ends) (put_by w (length s.held.ends) n) (seen t (7 + n)))
        (Told t store s can.on × ((n : ℕ) → seen u (7 + n) ≡ overwritten (end_of n s.held.ends) (put_by w (length s.held.ends) n) (seen t (7 + n))))
        (told t store s can.on) puts (λ x p. (x, p)))
        (λ x. let least = long_ends s.held.ends (seen t) (long first_log s.held.ends (seen t) x.0.0.logs) in (
          there first_log now.held.ends (seen u) (ends_long now.held.ends (seen u) (λ n. log_long (seen t) (seen u) n (x.1 n) (least n))),
          λ n. log_grown (seen t) (seen u) n (x.1 n) (least n) ∙ ap (λ (l : List ℕ). l ++ put_by w (length s.held.ends) n) (x.0.1 n)
              ∙ ap (λ (p : List ℕ). s.logs n ++ p) (sym (put_is n)) ∙ sym (logs_now e s now is n),
        ))
