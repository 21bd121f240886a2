-- A transaction under way, event by event: how an item of it ends, and what stands behind one.
use Rattle.std.proofs.Common.{◌≡◌, ℕ, ◌+◌, ◌≤◌, Bool, true, false, ◌||◌, cond, List, [], ◌∷◌, ◌++◌, Option, None, Ok, Err, ap, arith}
use Rattle.std.specs.Prelude.{nat_lt}
use Rattle.std.proofs.lemmas.Bool.{le-ltb}
use Rattle.val_types.specs.declared.change.Change.{Change}
use Rattle.val_types.specs.declared.definitions.TableDef.{TableDef}
use Rattle.table_rules.specs.Tables.{Table}
use Rattle.event_codec.specs.Event.{Body, Map}
use Rattle.event_codec.specs.Writing.{size}
use Rattle.log_entry_laws.specs.log_model.Events.{Placed}
use Rattle.log_entry_laws.specs.log_model.Items.{at_time}
use Rattle.log_entry_laws.specs.log_model.Written.{Stamped, placed, total}
use Rattle.apply_model.specs.binlog_sizes.Sizes.{changes_size, most_bytes}
use Rattle.apply_model.specs.Stops.{stop_at}
use Rattle.apply_model.specs.Texts.{Progress, Applier, Needs, no_needs}
use Rattle.apply_model.specs.Groups.{Going, with_bytes, is_too_large, item_ended, and_then, event_carried, items_carried}
use Rattle.apply_laws.proofs.Changes.{Reaches}

-- ---- sizes

pub changes_size_both : (xs ys : List Change) → changes_size (xs ++ ys) ≡ changes_size xs + changes_size ys
changes_size_both [] ys = omega arith
changes_size_both (x ∷ xs) ys = let more = changes_size_both xs ys in omega (arith, more)

or_false : (a b : Bool) → a ≡ false → b ≡ false → (a || b) ≡ false
or_false true b p q = p
or_false false b p q = q

-- ---- in an item and between two

-- a transaction under way in an item by its rows, and in one by its text
abbrev pub going : Progress → ℕ → List Map → Option ℕ → Going
going p bytes maps begun = record { progress = p; bytes = bytes; needs = no_needs; maps = maps; begun = begun }

abbrev pub needing : Progress → ℕ → Needs → Going
needing p bytes needs = record { progress = p; bytes = bytes; needs = needs; maps = []; begun = None }

-- between items
abbrev pub between : Progress → ℕ → Going
between p bytes = going p bytes [] None

few_enough : (g : Going) → g.bytes ≤ most_bytes → changes_size g.progress.changes ≤ most_bytes → is_too_large g ≡ false
few_enough g low few =
    or_false (nat_lt most_bytes g.bytes) (nat_lt most_bytes (changes_size g.progress.changes)) (le-ltb most_bytes g.bytes low)
    (le-ltb most_bytes (changes_size g.progress.changes) few)

-- an item ends where bytes and changes are few enough
pub ends : (place : ℕ) (g : Going) → g.bytes ≤ most_bytes → changes_size g.progress.changes ≤ most_bytes
    → item_ended place g ≡ Ok (between g.progress g.bytes)
ends place g low few = ap (λ (b : Bool). cond b (Err (stop_at place 1197)) (Ok (between g.progress g.bytes))) (few_enough g low few)

-- ---- events

-- an event at a place
abbrev pub placed_at : (pos stamp : ℕ) → Body → Placed
placed_at pos stamp body = record { pos = pos; event = record { stamp = stamp; size = size body; body = body } }

module _ (a : Applier) where
  -- one event, and those behind it
  pub went : (e : Placed) (rest : List Placed) (g now : Going) → event_carried a e (with_bytes e.event.size g) e.event.body ≡ Ok now → items_carried a (e ∷ rest) g ≡ items_carried a rest now
  went e rest g now step = ap (and_then (items_carried a rest)) step

  pub same_bytes : (place : ℕ) (more : List Stamped) (p : Progress) (bytes now : ℕ) → bytes ≡ now
      → items_carried a (placed place more) (between p bytes) ≡ items_carried a (placed place more) (between p now)
  same_bytes place more p bytes now e = ap (λ (n : ℕ). items_carried a (placed place more) (between p n)) e

-- What stands behind an item whose events these are: so many bytes more, and what its changes lead to.
pub record ItemRead (a : Applier) (all : List TableDef) (stamp pos : ℕ) (bs : List Body) (cs : List Change) (p : Progress) (bytes : ℕ) (next : List Table) (more : List Stamped) : Type 0 where
  pub place : ℕ
  pub progress : Progress
  pub carried : items_carried a (placed pos (at_time stamp bs ++ more)) (between p bytes)
      ≡ items_carried a (placed place more) (between progress (bytes + total (at_time stamp bs)))
  pub reaches : Reaches all next (p.changes ++ cs) progress
