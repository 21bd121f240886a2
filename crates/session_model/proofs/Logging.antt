-- Entries that lead from one place of the log to another, and items of one transaction.
use Rattle.std.proofs.Common.{◌≡◌, ◌≤◌, ◌+◌, ℕ, zero, suc, Bool, true, false, List, [], ◌∷◌, ◌++◌, map, take, refl, ◌∙◌, ap, arith}
use Rattle.std.specs.Prelude.{nat_lt, ◌||◌}
use Rattle.std.proofs.lemmas.Bool.{ltb-false, le-ltb}
use Rattle.std.proofs.lemmas.List.{map-append}
use Rattle.binlog_sizes.specs.log_entries.declared.entries.Item.{Item}
use Rattle.binlog_sizes.specs.log_entries.declared.entries.Entry.{Entry}
use Rattle.binlog_sizes.specs.log_entries.declared.entries.Entry.TheVariants.{Transaction, Definition, LogStart}
use Rattle.binlog_sizes.specs.log_model.Items.{item_size}
use Rattle.binlog_sizes.specs.log_model.Log.{LogPlace, behind, counted, counted_all, written_to}
use Rattle.binlog_sizes.specs.Sizes.{all_sizes, all_changes_size, are_too_large, changes_size, most_bytes}
use Rattle.session_model.specs.Machine.{Whole, kept_of, kept_entry}
use Rattle.session_model.specs.Formats.{logs_rows}
use Rattle.session_model.specs.Holding.{reasons_of, IsMade, AreMade, AreIn, AreOne, EntriesIn, EntriesMade}
use Rattle.session_model.specs.declared.format.Format.{Format}

-- ---- entries

counted_behind : (front back : List (Entry Item)) (number : ℕ) → counted_all (front ++ back) number ≡ counted_all back (counted_all front number)
counted_behind [] back number = refl
counted_behind (e ∷ es) back number = counted_behind es back (counted e number)

written_behind : (front back : List (Entry Item)) (number : ℕ) (p : LogPlace) → written_to (front ++ back) number p ≡ written_to back (counted_all front number) (written_to front number p)
written_behind [] back number p = refl
written_behind (e ∷ es) back number p = written_behind es back (counted e number) (behind e number p)

made_behind : (front back : List (Entry Whole)) → EntriesMade front → EntriesMade back → EntriesMade (front ++ back)
made_behind [] back m k = k
made_behind (e ∷ es) back m k = (m.0, made_behind es back m.1 k)

-- those of a format
pub in_behind : (format : Format) (front back : List (Entry Whole)) → EntriesIn format front → EntriesIn format back → EntriesIn format (front ++ back)
in_behind format [] back m k = k
in_behind format (Transaction stamp server items ∷ es) back m k = (m.0, in_behind format es back m.1 k)
in_behind format (Definition stamp server i ∷ es) back m k = in_behind format es back m k
in_behind format (LogStart stamp server ∷ es) back m k = in_behind format es back m k

-- Entries that statements made, where a premise holds of their texts, and that lead from a count of transactions and a place to others.
pub record Logged (P : Type 0) (es : List (Entry Whole)) (from : ℕ) (begin : LogPlace) (to : ℕ) (end : LogPlace) : Type 0 where
  pub count : counted_all (map kept_entry es) from ≡ to
  pub place : written_to (map kept_entry es) from begin ≡ end
  pub made : P → EntriesMade es

pub no_entry : {P : Type 0} (count : ℕ) (place : LogPlace) → Logged P [] count place count place
no_entry count place = record { count = refl; place = refl; made = λ _. tt }

-- one after the other
pub logged_on : {P : Type 0} (front back : List (Entry Whole)) (a b c : ℕ) (p q r : LogPlace) → Logged P front a p b q → Logged P back b q c r → Logged P (front ++ back) a p c r
logged_on front back a b c p q r f g = record {
  count =
      ap (λ (es : List (Entry Item)). counted_all es a) (map-append kept_entry front back)
      ∙ (counted_behind (map kept_entry front) (map kept_entry back) a ∙ (ap (counted_all (map kept_entry back)) f.count ∙ g.count));
  place =
      ap (λ (es : List (Entry Item)). written_to es a p) (map-append kept_entry front back)
      ∙ (written_behind (map kept_entry front) (map kept_entry back) a p
      ∙ (ap (λ (n : ℕ). written_to (map kept_entry back) n (written_to (map kept_entry front) a p)) f.count ∙ (ap (written_to (map kept_entry back) b) f.place ∙ g.place)));
  made = λ holds. made_behind front back (f.made holds) (g.made holds);
}

-- ---- items of one transaction

-- no more than so many bytes, of events and of changes
pub small_sizes : (is : List Item) → are_too_large is ≡ false → (all_sizes is ≤ most_bytes) × (all_changes_size is ≤ most_bytes)
small_sizes is e = by (nat_lt most_bytes (all_sizes is)) (nat_lt most_bytes (all_changes_size is)) refl refl e
  where
    by : (b c : Bool) → nat_lt most_bytes (all_sizes is) ≡ b → nat_lt most_bytes (all_changes_size is) ≡ c → (b || c) ≡ false → (all_sizes is ≤ most_bytes) × (all_changes_size is ≤ most_bytes)
    by true c p q x = cc
    by false true p q x = cc
    by false false p q x = (ltb-false most_bytes (all_sizes is) p, ltb-false most_bytes (all_changes_size is) q)

small_again : (is : List Item) → all_sizes is ≤ most_bytes → all_changes_size is ≤ most_bytes → are_too_large is ≡ false
small_again is a b =
    ap (λ (x : Bool). x || nat_lt most_bytes (all_changes_size is)) (le-ltb most_bytes (all_sizes is) a) ∙ le-ltb most_bytes (all_changes_size is) b

front_sizes : (k : ℕ) (items : List Whole) → (all_sizes (map kept_of (take k items)) ≤ all_sizes (map kept_of items)) × (all_changes_size (map kept_of (take k items)) ≤ all_changes_size (map kept_of items))
front_sizes zero items = (omega arith, omega arith)
front_sizes (suc k) [] = (omega arith, omega arith)
front_sizes (suc k) (i ∷ is) = let f = front_sizes k is in (more (item_size (kept_of i)) f.0, more (changes_size i.kept.changes) f.1)
  where
    more : (n : ℕ) {a b : ℕ} → a ≤ b → n + a ≤ n + b
    more n l = omega (arith, l)

front_made : (k : ℕ) (items : List Whole) → AreMade items → AreMade (take k items)
front_made zero items m = tt
front_made (suc k) [] m = tt
front_made (suc k) (i ∷ is) m = (m.0, front_made k is m.1)

pub none_one : AreOne []
none_one = record { made = tt; small = refl }

-- the first items of some
pub front_one : (k : ℕ) (items : List Whole) → AreOne items → AreOne (take k items)
front_one k items one =
    let small = small_sizes (map kept_of items) one.small in
    let front = front_sizes k items in
    let a : all_sizes (map kept_of (take k items)) ≤ most_bytes = at_most front.0 small.0 in
    let b : all_changes_size (map kept_of (take k items)) ≤ most_bytes = at_most front.1 small.1 in
    record { made = front_made k items one.made; small = small_again (map kept_of (take k items)) a b }
  where
    at_most : {a b c : ℕ} → a ≤ b → b ≤ c → a ≤ c
    at_most l m = omega (arith, l, m)

more_made : (items : List Whole) (item : Whole) → AreMade items → IsMade item → AreMade (items ++ item ∷ [])
more_made [] item m k = (k, tt)
more_made (i ∷ is) item m k = (m.0, more_made is item m.1 k)

-- with one more, where they do not have too many bytes
pub more_one : (items : List Whole) (item : Whole) → AreOne items → IsMade item → are_too_large (map kept_of (items ++ item ∷ [])) ≡ false → AreOne (items ++ item ∷ [])
more_one items item one k small = record { made = more_made items item one.made k; small = small }

-- ---- items of one format

-- the first of some
pub front_in : (format : Format) (k : ℕ) (items : List Whole) → AreIn format items → AreIn format (take k items)
front_in format zero items m = tt
front_in format (suc k) [] m = tt
front_in format (suc k) (i ∷ is) m = (m.0, front_in format k is m.1)

-- with one more
pub more_in : (format : Format) (items : List Whole) (item : Whole) → AreIn format items → item.kept.rows ≡ logs_rows format (reasons_of item) → AreIn format (items ++ item ∷ [])
more_in format [] item m e = (e, tt)
more_in format (i ∷ is) item m e = (m.0, more_in format is item m.1 e)
