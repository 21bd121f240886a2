-- What a source's store has behind entries.
use Rattle.std.proofs.Common.{◌≡◌, ℕ, zero, suc, ◌<◌, ◌≤◌, List, [], ◌∷◌, ◌++◌, length, map, take, Option, Some, None, Ok, refl, sym, ◌∙◌, ap, subst, arith, append_assoc, append-nil}
use Rattle.std.specs.Prelude.{flat_map, IfSome}
use Rattle.std.specs.Option.{option_map, option_and_then}
use Rattle.std.proofs.lemmas.List.{length-append}
use Rattle.disk_model.specs.Story.{Image, Story, count, seen}
use Rattle.disk_model.specs.Moments.{Since, IsSettled}
use Rattle.disk_model.proofs.Moments.{since_map}
use Rattle.answer_text.specs.declared.report.Mark.{Mark}
use Rattle.session_model.specs.catalog_rules.Bases.{Base}
use Rattle.session_model.specs.log_entries.declared.entries.Item.{Item}
use Rattle.session_model.specs.log_entries.declared.entries.Entry.{Entry}
use Rattle.session_model.specs.log_entries.declared.entries.Entry.TheVariants.{Transaction, Definition, LogStart}
use Rattle.session_model.specs.log_entries.Entries.{entry_applied, after}
use Rattle.session_model.specs.log_model.Log.{LogPlace, behind, counted, counted_all, written_to}
use Rattle.session_model.specs.Machine.{Whole, kept_of, kept_entry}
use Rattle.session_model.specs.Holding.{EntryMade, EntriesMade, changes_of, define}
use Rattle.store_model.specs.declared.record.Kind.TheVariants.{Source}
use Rattle.store_model.specs.Held.{LogEnd, Held, with_last_end, applied}
use Rattle.store_model.specs.Stores.{held_by}
use Rattle.store_model.specs.Entries.{writer_at, old_end, ends_behind, changes_of_items, record_of_entry, IsWithin, entry_of, held_behind, KeptSays}
use Rattle.store_model.specs.Laws.{HasLog}
use Rattle.store_model.proofs.Leading.{entry_leads, writer_goes_on}
use Rattle.durable_runs.specs.Marks.{AreBehind, source_mark}
use Rattle.durable_runs.specs.Runs.{behind_steps, Claim}
use Rattle.waiting_entries.specs.Added.{added, added_to}
use Rattle.durable_runs.specs.Sources.{Stored, SourceStands, stored_in, stored_behind, entry_stored, held_after, records_of, records_applied, AreWithin, source_side, SourceLasts, SourceImage}
use Rattle.durable_runs.specs.Laws.{HasFirstLog, StoredBehind}
use Rattle.durable_runs.proofs.Steps.{some_same, steps_part}
use Rattle.durable_runs.proofs.Joining.{lasts_begins, lasts_behind, lasts_ends}

-- ---- what is kept of an entry

kept_is : (e : Entry Whole) → entry_of kept_of e ≡ kept_entry e
kept_is (Transaction stamp server items) = refl
kept_is (Definition stamp server i) = refl
kept_is (LogStart stamp server) = refl

changes_kept : (items : List Whole) → flat_map changes_of items ≡ changes_of_items (map kept_of items)
changes_kept [] = refl
changes_kept (i ∷ items) = ap (λ cs. i.kept.changes ++ cs) (changes_kept items)

kept_says : (e : Entry Whole) → EntryMade e → KeptSays kept_of changes_of define e
kept_says (Transaction stamp server items) made = changes_kept items
kept_says (Definition stamp server i) made = record { tree = i.began.tree; text = made.text; is = made.is; makes = λ base. refl }
kept_says (LogStart stamp server) made = tt

-- ---- held behind entries

held_first : (first : Option Held) (front back : List (Entry Whole))
    → ((held : Held) → held_after (front ++ back) held ≡ option_and_then (held_after back) (held_after front held))
    → option_and_then (held_after (front ++ back)) first ≡ option_and_then (held_after back) (option_and_then (held_after front) first)
held_first None front back rest = refl
held_first (Some held) front back rest = rest held

pub held_append : (front back : List (Entry Whole)) (held : Held) → held_after (front ++ back) held ≡ option_and_then (held_after back) (held_after front held)
held_append [] back held = refl
held_append (e ∷ es) back held =
    held_first (option_map (held_behind kept_of changes_of define e held) (entry_applied changes_of define e held.base)) es back (held_append es back)

held_parted : (first : Option Held) (es : List (Entry Whole)) (now : Held) → option_and_then (held_after es) first ≡ Some now
    → (mid : Held) × ((first ≡ Some mid) × (held_after es mid ≡ Some now))
held_parted None es now e = cc
held_parted (Some mid) es now e = (mid, (refl, e))

held_part : (e : Entry Whole) (es : List (Entry Whole)) (held now : Held) → held_after (e ∷ es) held ≡ Some now
    → (mid : Held) × ((held_after (e ∷ []) held ≡ Some mid) × (held_after es mid ≡ Some now))
held_part e es held now is = held_parted (held_after (e ∷ []) held) es now (sym (held_append (e ∷ []) es held) ∙ is)

-- one entry: its base, and the rest of what is held
made_one : (e : Entry Whole) (held now : Held) (base : Option Base) → option_and_then (held_after []) (option_map (held_behind kept_of changes_of define e held) base) ≡ Some now
    → (made : Base) × ((base ≡ Some made) × (now ≡ held_behind kept_of changes_of define e held made))
made_one e held now None is = cc
made_one e held now (Some made) is = (made, (refl, sym (some_same (held_behind kept_of changes_of define e held made) now is)))

held_one : (e : Entry Whole) (held now : Held) → held_after (e ∷ []) held ≡ Some now
    → (made : Base) × ((entry_applied changes_of define e held.base ≡ Some made) × (now ≡ held_behind kept_of changes_of define e held made))
held_one e held now is = made_one e held now (entry_applied changes_of define e held.base) is

number_one : (e : Entry Whole) (held now : Held) → held_after (e ∷ []) held ≡ Some now → now.number ≡ counted (kept_entry e) held.number
number_one e held now is =
    let one = held_one e held now is in
    ap (λ (h : Held). h.number) one.1.1 ∙ ap (λ (k : Entry Item). counted k held.number) (kept_is e)

writer_one : (e : Entry Whole) (held now : Held) → HasLog (kept_entry e) held → held_after (e ∷ []) held ≡ Some now
    → writer_at now ≡ behind (kept_entry e) held.number (writer_at held)
writer_one e held now has is =
    let one = held_one e held now is in
    ap writer_at one.1.1
    ∙ ap (λ (k : Entry Item). writer_at (record held { ends = ends_behind k held.number held })) (kept_is e)
    ∙ writer_goes_on (kept_entry e) held has

-- ---- logs that have begun

same_count : (at : ℕ) (ends : List LogEnd) → length (with_last_end at ends) ≡ length ends
same_count at [] = refl
same_count at (e ∷ []) = refl
same_count at (e ∷ f ∷ ends) = ap suc (same_count at (f ∷ ends))

some_ends : (e : Entry Item) (held : Held) → HasLog e held → 0 < length (ends_behind e held.number held)
some_ends (Transaction stamp server is) held has =
    omega (arith, same_count (behind (Transaction stamp server is) held.number (writer_at held)).pos held.ends, has)
some_ends (Definition stamp server i) held has =
    omega (arith, same_count (behind (Definition stamp server i) held.number (writer_at held)).pos held.ends, has)
some_ends (LogStart stamp server) held has =
    let last : LogEnd = record { pos = 123 } in
    omega (arith, length-append (with_last_end (old_end (writer_at held)) held.ends) (last ∷ []))

begun_logs : (e : Entry Whole) (held now : Held) → HasLog (kept_entry e) held → held_after (e ∷ []) held ≡ Some now → 0 < length now.ends
begun_logs e held now has is =
    let one = held_one e held now is in
    let same : now.ends ≡ ends_behind (kept_entry e) held.number held =
    ap (λ (h : Held). h.ends) one.1.1 ∙ ap (λ (k : Entry Item). ends_behind k held.number held) (kept_is e) in
    omega (arith, ap length same, some_ends (kept_entry e) held has)

has_log : (e : Entry Item) (held : Held) → 0 < length held.ends → HasLog e held
has_log (Transaction stamp server is) held some = some
has_log (Definition stamp server i) held some = some
has_log (LogStart stamp server) held some = tt

first_log : (es : List (Entry Whole)) (held : Held) → 0 < length held.ends → HasFirstLog es held
first_log [] held some = tt
first_log (e ∷ es) held some = has_log (kept_entry e) held some

within_log : (e : Entry Item) (held : Held) → IsWithin e held → HasLog e held
within_log (Transaction stamp server is) held within = within.1.0
within_log (Definition stamp server i) held within = within.1.0
within_log (LogStart stamp server) held within = tt

-- ---- records

pub record_one : (e : Entry Whole) (held now : Held) → EntryMade e → IsWithin (kept_entry e) held → held_after (e ∷ []) held ≡ Some now
    → applied (record_of_entry (kept_entry e) held.number (writer_at held)) held ≡ Some now
record_one e held now made within is =
    subst (λ (k : Entry Item). applied (record_of_entry k held.number (writer_at held)) held ≡ Some now) (kept_is e)
    (entry_leads kept_of changes_of define held now e is (kept_says e made) (subst (λ (k : Entry Item). IsWithin k held) (sym (kept_is e)) within))

pub records_lead : (es : List (Entry Whole)) (held now : Held) → EntriesMade es → AreWithin es held → held_after es held ≡ Some now
    → records_applied (records_of (map kept_entry es) held.number (writer_at held)) held ≡ Some now
records_lead [] held now made within is = is
records_lead (e ∷ es) held now made within is =
    let part = held_part e es held now is in
    let mid : Held = part.0 in
    let number = number_one e held mid part.1.0 in
    let writer = writer_one e held mid (within_log (kept_entry e) held within.0) part.1.0 in
    let rest : records_applied (records_of (map kept_entry es) (counted (kept_entry e) held.number) (behind (kept_entry e) held.number (writer_at held))) mid ≡ Some now =
    subst (λ (p : LogPlace). records_applied (records_of (map kept_entry es) (counted (kept_entry e) held.number) p) mid ≡ Some now) writer
    (subst (λ (n : ℕ). records_applied (records_of (map kept_entry es) n (writer_at mid)) mid ≡ Some now) number
    (records_lead es mid now made.1 (within.1 mid part.1.0) part.1.1)) in
    ap (option_and_then (records_applied (records_of (map kept_entry es) (counted (kept_entry e) held.number) (behind (kept_entry e) held.number (writer_at held)))))
    (record_one e held mid made.0 within.0 part.1.0) ∙ rest

-- ---- a store with its logs

stored_parted : (e : Entry Whole) (s now : Stored) (held : Option Held) → option_map (stored_behind e s) held ≡ Some now
    → (made : Held) × ((held ≡ Some made) × (now ≡ stored_behind e s made))
stored_parted e s now None is = cc
stored_parted e s now (Some made) is = (made, (refl, sym (some_same (stored_behind e s made) now is)))

stored_one : (e : Entry Whole) (s now : Stored) → entry_stored e s ≡ Some now
    → (made : Held) × ((held_after (e ∷ []) s.held ≡ Some made) × (now ≡ stored_behind e s made))
stored_one e s now is = stored_parted e s now (held_after (e ∷ []) s.held) is

-- one entry
pub held_is : (e : Entry Whole) (s now : Stored) → entry_stored e s ≡ Some now → held_after (e ∷ []) s.held ≡ Some now.held
held_is e s now is = let one = stored_one e s now is in one.1.0 ∙ ap (λ (x : Stored). Some x.held) (sym one.1.1)

logs_are : (e : Entry Whole) (s now : Stored) (n : ℕ) → entry_stored e s ≡ Some now → now.logs n ≡ s.logs n ++ added n (kept_entry e) s.held.number (writer_at s.held)
logs_are e s now n is = let one = stored_one e s now is in ap (λ (x : Stored). x.logs n) one.1.1

base_is : (e : Entry Whole) (held now : Held) → held_after (e ∷ []) held ≡ Some now → entry_applied changes_of define e held.base ≡ Some now.base
base_is e held now is = let one = held_one e held now is in one.1.0 ∙ ap (λ (h : Held). Some h.base) (sym one.1.1)

-- one entry, and then those behind it
module _ (e : Entry Whole) (es : List (Entry Whole)) (s mid now : Stored) (has : HasLog (kept_entry e) s.held) (made : entry_stored e s ≡ Some mid) (rest : StoredBehind es mid now) where
  one_held : held_after (e ∷ []) s.held ≡ Some mid.held
  one_held = held_is e s mid made

  next_number : mid.held.number ≡ counted (kept_entry e) s.held.number
  next_number = number_one e s.held mid.held one_held

  next_writer : writer_at mid.held ≡ behind (kept_entry e) s.held.number (writer_at s.held)
  next_writer = writer_one e s.held mid.held has one_held

  -- what is in a log, with the first entry's bytes apart
  added_apart : (n : ℕ) → ℕ → LogPlace → List ℕ
  added_apart n k p = s.logs n ++ added n (kept_entry e) s.held.number (writer_at s.held) ++ added_to n (map kept_entry es) k p

  logs_more : (n : ℕ) → now.logs n ≡ s.logs n ++ added_to n (map kept_entry (e ∷ es)) s.held.number (writer_at s.held)
  unfolding added_apart
  logs_more n =
      rest.logs n ∙ ap (λ (l : List ℕ). l ++ added_to n (map kept_entry es) mid.held.number (writer_at mid.held)) (logs_are e s mid n made)
      ∙ ap (λ (k : ℕ). added_apart n k (writer_at mid.held)) next_number ∙ ap (added_apart n (counted (kept_entry e) s.held.number)) next_writer
      ∙ append_assoc (s.logs n) (added n (kept_entry e) s.held.number (writer_at s.held))
      (added_to n (map kept_entry es) (counted (kept_entry e) s.held.number) (behind (kept_entry e) s.held.number (writer_at s.held)))

  stored_more : StoredBehind (e ∷ es) s now
  stored_more = record {
    held = held_append (e ∷ []) es s.held ∙ ap (option_and_then (held_after es)) one_held ∙ rest.held;
    base = ap (option_and_then (after changes_of define es)) (base_is e s.held mid.held one_held) ∙ rest.base;
    number = rest.number ∙ ap (counted_all (map kept_entry es)) next_number;
    writer = rest.writer ∙ ap (λ (n : ℕ). written_to (map kept_entry es) n (writer_at mid.held)) next_number
        ∙ ap (written_to (map kept_entry es) (counted (kept_entry e) s.held.number)) next_writer;
    logs = logs_more;
  }

-- where all entries are made, the first is
stored_part : (first : Option Stored) (es : List (Entry Whole)) (now : Stored) → option_and_then (behind_steps source_side es) first ≡ Some now
    → (mid : Stored) × ((first ≡ Some mid) × (behind_steps source_side es mid ≡ Some now))
stored_part None es now is = cc
stored_part (Some mid) es now is = (mid, (refl, is))

pub stored_is : (es : List (Entry Whole)) (s now : Stored) → HasFirstLog es s.held → behind_steps source_side es s ≡ Some now → StoredBehind es s now
stored_is [] s now has is =
    subst (λ (x : Stored). StoredBehind [] s x) (some_same s now is)
    (record { held = refl; base = refl; number = refl; writer = refl; logs = λ n. sym (append-nil (s.logs n)) })
stored_is (e ∷ es) s now has is =
    let part = stored_part (entry_stored e s) es now is in
    let begun = begun_logs e s.held part.0.held has (held_is e s part.0 part.1.0) in
    stored_more e es s part.0 now has part.1.0 (stored_is es part.0 now (first_log es part.0.held begun) part.1.1)

-- where entries can be made a store has something behind them
pub stored_some : (es : List (Entry Whole)) (s : Stored) (held : Held) → held_after es s.held ≡ Some held
    → (now : Stored) × ((behind_steps source_side es s ≡ Some now) × (now.held ≡ held))
stored_some [] s held is = (s, (refl, some_same s.held held is))
stored_some (e ∷ es) s held is =
    let part = held_part e es s.held held is in
    let mid : Stored = stored_behind e s part.0 in
    let rest = stored_some es mid held part.1.1 in
    (rest.0, (ap (λ (first : Option Held). option_and_then (behind_steps source_side es) (option_map (stored_behind e s) first)) part.1.0 ∙ rest.1.0, rest.1.1))

counts : (e : Entry Item) (number : ℕ) → number ≤ counted e number
counts (Transaction stamp server is) number = omega arith
counts (Definition stamp server i) number = omega arith
counts (LogStart stamp server) number = omega arith

pub stored_rises : (es : List (Entry Whole)) (s now : Stored) → behind_steps source_side es s ≡ Some now → s.held.number ≤ now.held.number
stored_rises [] s now is = let same : s ≡ now = some_same s now is in omega (arith, ap (λ (x : Stored). x.held.number) same)
stored_rises (e ∷ es) s now is =
    let part = steps_part source_side (e ∷ []) es s now is in
    let mid : Stored = part.0 in
    let one : entry_stored e s ≡ Some mid = only (entry_stored e s) mid part.1.0 in
    omega (
      arith,
      number_one e s.held mid.held (held_is e s mid one),
      counts (kept_entry e) s.held.number,
      stored_rises es mid now part.1.1,
    )
  where
    only : (first : Option Stored) (mid : Stored) → option_and_then (behind_steps source_side []) first ≡ Some mid → first ≡ Some mid
    only None mid is = cc
    only (Some x) mid is = is

-- ---- what is added to logs

pub added_append : (n : ℕ) (front back : List (Entry Item)) (number : ℕ) (p : LogPlace)
    → added_to n (front ++ back) number p ≡ added_to n front number p ++ added_to n back (counted_all front number) (written_to front number p)
added_append n [] back number p = refl
added_append n (e ∷ es) back number p =
    ap (λ (l : List ℕ). added n e number p ++ l) (added_append n es back (counted e number) (behind e number p))
    ∙ sym (append_assoc (added n e number p) (added_to n es (counted e number) (behind e number p))
    (added_to n back (counted_all es (counted e number)) (written_to es (counted e number) (behind e number p))))

-- ---- whole runs

first_taken : (k : ℕ) (es : List (Entry Whole)) (held : Held) → HasFirstLog es held → HasFirstLog (take k es) held
first_taken zero es held has = tt
first_taken (suc k) [] held has = tt
first_taken (suc k) (e ∷ es) held has = has

image_is : (s : Stored) (es : List (Entry Whole)) (marks : List Mark) (n : ℕ) (image : Image) → HasFirstLog es s.held → Claim source_side s es (map source_mark marks) n image
    → SourceImage s es marks n image
image_is s es marks n image has c =
    let b = stored_is (take c.first es) s c.now (first_taken c.first es s.held has) c.after in
    record {
      first = c.first;
      within = c.within;
      now = c.now.held;
      reached = b.held;
      stands = c.stands.held;
      base = b.base;
      number = b.number;
      logs = λ log. c.stands.logs log ∙ b.logs log;
      holds = c.holds;
    }

pub source_images : (t u : Option Story) (s : Stored) (es : List (Entry Whole)) (marks : List Mark) → HasFirstLog es s.held → SourceLasts t u s es marks
    → Since (count t) u (SourceImage s es marks)
source_images t u s es marks has lasts =
    since_map (count t) u (Claim source_side s es (map source_mark marks)) (SourceImage s es marks) (λ n image le ge c. image_is s es marks n image has c)
    (lasts_ends source_side t u s es (map source_mark marks) lasts)

pub source_behind : (t u : Option Story) (s : Stored) (es : List (Entry Whole)) (marks : List Mark) → SourceLasts t u s es marks
    → IfSome u (λ _. AreBehind (count u) (map source_mark marks))
source_behind t u s es marks lasts = lasts_behind source_side t u s es (map source_mark marks) lasts

seen_stands : (t : Option Story) (held : Held) → IfSome t (λ _. held_by Source (seen t) ≡ Ok held) → IfSome t (λ _. SourceStands (stored_in held (seen t)) (seen t))
seen_stands None held is = tt
seen_stands (Some s) held is = record { held = is; logs = λ n. refl }

pub source_begins : (t : Option Story) (held : Held) → IsSettled t → IfSome t (λ _. held_by Source (seen t) ≡ Ok held) → SourceLasts t t (stored_in held (seen t)) [] []
source_begins t held settled is = lasts_begins source_side t (stored_in held (seen t)) settled (seen_stands t held is)
