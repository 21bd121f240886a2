-- Items with how many bytes all up to each have, at most the greatest number of 64 bits.
use Rattle.std.specs.Prelude.{◌≡◌, ℕ, ◌+◌, List, [], ◌∷◌, flat_map, map}
use Rattle.val_types.specs.declared.change.Change.{Change}
use Rattle.event_codec.specs.Event.{query, xid}
use Rattle.binlog_sizes.specs.log_entries.declared.carried.Carried.{Carried}
use Rattle.binlog_sizes.specs.log_entries.declared.entries.Item.{Item}
use Rattle.binlog_sizes.specs.log_model.Log.{begin_query}
use Rattle.binlog_sizes.specs.log_model.Written.{Stamped}
use Rattle.binlog_sizes.specs.log_model.Items.{item_size}
use Rattle.binlog_sizes.specs.row_events.Sizes.{bounded}
use Rattle.binlog_sizes.specs.Sizes.{changes_size}
use Rattle.binlog_cache.specs.declared.kept.Kept.{Kept}

abbrev pub items_of : List Kept → List Item
items_of ks = map (λ k. k.item) ks

-- the changes of items, one behind the other
abbrev pub changes_in : List Item → List Change
changes_in is = flat_map (λ (i : Item). i.changes) is

-- each is kept with a sum over those before it and itself
abbrev pub AreSummed : (sum : Kept → ℕ) (size : Item → ℕ) (before : ℕ) → List Kept → Type 0
AreSummed sum size before [] = Unit {0}
AreSummed sum size before (k ∷ ks) = (sum k ≡ bounded (before + size k.item)) × AreSummed sum size (before + size k.item) ks

-- in a log, and as changes
abbrev pub log_sum : Kept → ℕ
log_sum k = k.until.log

abbrev pub changes_sum : Kept → ℕ
changes_sum k = k.until.changes

abbrev pub changes_of_item : Item → ℕ
changes_of_item i = changes_size i.changes

-- each is kept with both sums
pub record AreCounted (ks : List Kept) : Type 0 where
  pub log : AreSummed log_sum item_size 0 ks
  pub changes : AreSummed changes_sum changes_of_item 0 ks

-- the first and the last event of a transaction
abbrev pub begin_event : Carried → List Stamped
begin_event c = record { stamp = c.stamp; body = query (begin_query c.connection) } ∷ []

abbrev pub xid_event : (stamp number : ℕ) → List Stamped
xid_event stamp number = record { stamp = stamp; body = xid number } ∷ []
