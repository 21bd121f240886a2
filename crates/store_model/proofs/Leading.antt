-- Where entries lead on, so do their records.
use Rattle.std.proofs.Common.{◌≡◌, ℕ, zero, suc, ◌+◌, ◌<◌, ◌≤◌, Bool, true, false, cond, eqb, leb, ltb, List, [], ◌∷◌, ◌++◌, length, map, Option, Some, None, refl, sym, ◌∙◌, ap, arith}
use Rattle.std.specs.Prelude.{◌&&◌, ◌||◌, flat_map}
use Rattle.std.specs.Option.{option_map, option_and_then}
use Rattle.std.proofs.lemmas.Bool.{cond-true, eq-eqb, le-leb, lt-ltb}
use Rattle.std.proofs.lemmas.List.{length-append}
use Rattle.val_types.specs.declared.change.Change.{Change}
use Rattle.sql_reach.specs.catalog_rules.Bases.{Base, defined}
use Rattle.sql_tree.specs.Statement.{Statement}
use Rattle.sql_reach.specs.Reach.{is_definition}
use Rattle.text_answers.specs.Answers.{a_statement, text_answer}
use Rattle.binlog_sizes.specs.log_entries.declared.entries.Item.{Item}
use Rattle.binlog_sizes.specs.log_entries.declared.entries.Entry.{Entry}
use Rattle.binlog_sizes.specs.log_entries.declared.entries.Entry.TheVariants.{Transaction, Definition, LogStart}
use Rattle.binlog_sizes.specs.log_model.Log.{LogPlace, behind}
use Rattle.store_model.specs.declared.record.Head.{Head}
use Rattle.store_model.specs.declared.record.Record.TheVariants as records
use Rattle.store_model.specs.Held.{LogEnd, Held, last_end, with_last_end, most_committed, most_logs, latest_end, latest_old_end, is_next_commit, committed, begins_log, log_begun, next_applied, carried_out, changed, definition_in, defined_by, where_so, applied}
use Rattle.store_model.specs.Entries.{writer_at, old_end, ends_behind, head_behind, changes_of_items, record_of_entry, IsWithin, entry_of, held_after, KeptSays}
use Rattle.store_model.specs.Laws.{HasLog}

where_true : {A : Type 0} (b : Bool) (made : Option A) → b ≡ true → where_so b made ≡ made
where_true b made is = cond-true b made None is

-- ---- a source

-- all five tests of a commit
five : (a b c d e : Bool) → a ≡ true → b ≡ true → c ≡ true → d ≡ true → e ≡ true → (a && b && c && d && e) ≡ true
five a b c d e p q r s t = rw (p, q, r, s, t) refl

next_commit : (h : Held) (pos : ℕ) → h.number < most_committed → 0 < length h.ends → pos ≤ latest_end
    → is_next_commit (record { number = h.number + 1; log = length h.ends; pos = pos }) h ≡ true
next_commit h pos few some low =
    five (eqb (h.number + 1) (h.number + 1)) (leb (h.number + 1) most_committed) (ltb 0 (length h.ends)) (eqb (length h.ends) (length h.ends)) (leb pos latest_end)
    (eq-eqb (h.number + 1) (h.number + 1) refl) (le-leb (h.number + 1) most_committed (omega arith)) (lt-ltb 0 (length h.ends) some)
    (eq-eqb (length h.ends) (length h.ends) refl) (le-leb pos latest_end low)

old_end_low : (h : Held) (b : Bool) → last_end h.ends + 40 ≤ latest_old_end → cond b 0 (last_end h.ends + 40) ≤ latest_old_end
old_end_low h true low = omega arith
old_end_low h false low = low

first_or_later : (n old : ℕ) → (ltb 0 n || eqb (cond (eqb n 0) 0 old) 0) ≡ true
first_or_later zero old = refl
first_or_later (suc n) old = rw (lt-ltb 0 (suc n) (omega arith)) refl

-- all seven tests of a log's beginning
seven : (a b c d e f g : Bool) → a ≡ true → b ≡ true → c ≡ true → d ≡ true → e ≡ true → f ≡ true → g ≡ true → (a && b && c && d && e && f && g) ≡ true
seven a b c d e f g p q r s t u v = rw (p, q, r, s, t, u, v) refl

log_begins : (h : Held) → h.number ≤ most_committed → length h.ends < most_logs → last_end h.ends + 40 ≤ latest_old_end
    → begins_log (record { number = h.number; log = length h.ends + 1; pos = 123 }) (old_end (writer_at h)) h ≡ true
log_begins h few fewer low =
    seven (eqb h.number h.number) (leb h.number most_committed) (eqb (length h.ends + 1) (length h.ends + 1)) (leb (length h.ends + 1) most_logs) (leb 123 latest_end)
    (leb (old_end (writer_at h)) latest_old_end) (ltb 0 (length h.ends) || eqb (old_end (writer_at h)) 0)
    (eq-eqb h.number h.number refl) (le-leb h.number most_committed few) (eq-eqb (length h.ends + 1) (length h.ends + 1) refl)
    (le-leb (length h.ends + 1) most_logs (omega arith)) refl
    (le-leb (old_end (writer_at h)) latest_old_end (old_end_low h (eqb (length h.ends) 0) low)) (first_or_later (length h.ends) (last_end h.ends + 40))

-- a statement that a text reads as
defined_is : (text : List ℕ) (tree : Statement) (base : Base) → text_answer text ≡ a_statement tree → is_definition tree ≡ true → defined_by text base ≡ defined tree base
defined_is text tree base reads is =
    ap (λ answer. option_and_then (λ s. defined s base) (definition_in answer)) reads
    ∙ ap (option_and_then (λ s. defined s base)) (cond-true (is_definition tree) (Some tree) None is)

-- one entry more is what is held behind it
module _ {I : Type 0} (kept : I → Item) (changes_of : I → List Change) (define : I → Base → Option Base) (held now : Held) where
  behind_one : (make : Base → Held) (made : Option Base) → option_and_then (held_after kept changes_of define []) (option_map make made) ≡ Some now → option_map make made ≡ Some now
  behind_one make None e = cc
  behind_one make (Some base) e = e

  pub entry_leads : (e : Entry I) → held_after kept changes_of define (e ∷ []) held ≡ Some now → KeptSays kept changes_of define e → IsWithin (entry_of kept e) held
      → applied (record_of_entry (entry_of kept e) held.number (writer_at held)) held ≡ Some now
  unfolding applied
  entry_leads (Transaction stamp server items) after says within =
      let e : Entry Item = entry_of kept (Transaction stamp server items) in
      let head : Head = head_behind e held.number (writer_at held) in
      where_true (is_next_commit head held) (option_map (committed head held) (changed (changes_of_items (map kept items)) held.base))
      (next_commit held head.pos within.0 within.1.0 within.1.1)
      ∙ ap (λ cs. option_map (committed head held) (changed cs held.base)) (sym says)
      ∙ behind_one (committed head held) (changed (flat_map changes_of items) held.base) after
  entry_leads (Definition stamp server i) after says within =
      let e : Entry Item = entry_of kept (Definition stamp server i) in
      let head : Head = head_behind e held.number (writer_at held) in
      where_true (is_next_commit head held) (option_map (committed head held) (defined_by (kept i).text held.base))
      (next_commit held head.pos within.0 within.1.0 within.1.1)
      ∙ ap (option_map (committed head held)) (defined_is (kept i).text says.tree held.base says.text says.is ∙ sym (says.makes held.base))
      ∙ behind_one (committed head held) (define i held.base) after
  entry_leads (LogStart stamp server) after says within =
      let head : Head = head_behind (LogStart stamp server) held.number (writer_at held) in
      where_true (begins_log head (old_end (writer_at held)) held) (Some (log_begun head (old_end (writer_at held)) held))
      (log_begins held within.0 within.1.0 within.1.1)
      ∙ after

-- ---- the ends of logs

length_last : (pos : ℕ) (ends : List LogEnd) → length (with_last_end pos ends) ≡ length ends
length_last pos [] = refl
length_last pos (e ∷ []) = refl
length_last pos (e ∷ f ∷ ends) = ap suc (length_last pos (f ∷ ends))

last_is : (pos : ℕ) (ends : List LogEnd) → 0 < length ends → last_end (with_last_end pos ends) ≡ pos
last_is pos [] some = absurd (omega arith)
last_is pos (e ∷ []) some = refl
last_is pos (e ∷ f ∷ []) some = refl
last_is pos (e ∷ f ∷ g ∷ ends) some = last_is pos (f ∷ g ∷ ends) (omega arith)

last_more : (ends : List LogEnd) (e : LogEnd) → last_end (ends ++ e ∷ []) ≡ e.pos
last_more [] e = refl
last_more (f ∷ []) e = refl
last_more (f ∷ g ∷ ends) e = last_more (g ∷ ends) e

abbrev place_of : ℕ → ℕ → LogPlace
place_of log pos = record { log = log; pos = pos }

place_is : (a b c d : ℕ) → a ≡ c → b ≡ d → place_of a b ≡ place_of c d
place_is a b c d p q = ap (λ (n : ℕ). place_of n b) p ∙ ap (place_of c) q

goes_on : (pos : ℕ) (h : Held) → 0 < length h.ends → writer_at (record h { ends = with_last_end pos h.ends }) ≡ place_of (length h.ends) pos
goes_on pos h some = place_is (length (with_last_end pos h.ends)) (last_end (with_last_end pos h.ends)) (length h.ends) pos (length_last pos h.ends) (last_is pos h.ends some)

pub writer_goes_on : (e : Entry Item) (h : Held) → HasLog e h → writer_at (record h { ends = ends_behind e h.number h }) ≡ behind e h.number (writer_at h)
writer_goes_on (Transaction stamp server is) h has = goes_on (behind (Transaction stamp server is) h.number (writer_at h)).pos h has
writer_goes_on (Definition stamp server i) h has = goes_on (behind (Definition stamp server i) h.number (writer_at h)).pos h has
writer_goes_on (LogStart stamp server) h has =
    let old : List LogEnd = with_last_end (old_end (writer_at h)) h.ends in
    place_is (length (old ++ record { pos = 123 } ∷ [])) (last_end (old ++ record { pos = 123 } ∷ [])) (length h.ends + 1) 123
    (length-append old (record { pos = 123 } ∷ []) ∙ ap (λ n. n + 1) (length_last (old_end (writer_at h)) h.ends)) (last_more old (record { pos = 123 }))

-- ---- a replica

pub changes_lead : (head : Head) (cs : List Change) (held : Held) (base : Base) → changed cs held.base ≡ Some base → head.number ≡ next_applied held.number
    → applied (records.TransactionApplied head cs) held ≡ Some (carried_out head held base)
unfolding applied
changes_lead head cs held base made number =
    where_true (eqb head.number (next_applied held.number)) (option_map (carried_out head held) (changed cs held.base)) (eq-eqb head.number (next_applied held.number) number)
    ∙ ap (option_map (carried_out head held)) made

pub definition_leads : (head : Head) (text : List ℕ) (held : Held) (base : Base) → defined_by text held.base ≡ Some base → head.number ≡ next_applied held.number
    → applied (records.DefinitionApplied head text) held ≡ Some (carried_out head held base)
unfolding applied
definition_leads head text held base made number =
    where_true (eqb head.number (next_applied held.number)) (option_map (carried_out head held) (defined_by text held.base)) (eq-eqb head.number (next_applied held.number) number)
    ∙ ap (option_map (carried_out head held)) made

pub place_leads : (head : Head) (held : Held) → head.number ≡ held.number → applied (records.PlaceMoved head) held ≡ Some (carried_out head held held.base)
unfolding applied
place_leads head held number =
    where_true (eqb head.number held.number) (Some (carried_out head held held.base)) (eq-eqb head.number held.number number)
