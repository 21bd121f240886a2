-- The small changes can be written.
use Rattle.std.proofs.Common.{[], ◌∷◌, ◌≡◌, ◌≤◌, ◌+◌, refl, arith, rules}
use Rattle.byte_fields.specs.Field.{number_bytes}
use Rattle.byte_fields.specs.LengthEncoded.{lenenc_bytes}
use Rattle.event_codec.specs.Writing.{size, names_bytes, table_map_bytes, rows_bytes, query_bytes, user_var_bytes}
use Rattle.log_model.specs.Images.{row_bytes}
use Rattle.log_model.specs.Items.{at_time, changes_item, item_events, CanCarryAll}
use Rattle.log_model.specs.Spelling.{bodies_of}
use Rattle.log_model.specs.Written.{total, CanWriteAll}
use Rattle.log_model.specs.Log.{transaction}
use Rattle.row_laws.proofs.Writable.{writable}
use Rattle.test_items.specs.Small.{small_tables, small_changes, text_item, rows_item}

pub can_carry : CanCarryAll small_tables small_changes
can_carry = search rules

all_bytes : total (at_time 1700000002 (bodies_of (changes_item small_tables small_changes))) ≡ 169
unfolding size names_bytes table_map_bytes rows_bytes row_bytes number_bytes lenenc_bytes
all_bytes = refl

pub can_write : CanWriteAll 402 (at_time 1700000002 (bodies_of (changes_item small_tables small_changes)))
can_write = let all = all_bytes in writable small_tables small_changes 1700000002 402 (omega arith, tt) can_carry (omega arith) (omega (arith, all))

pub text_can : CanWriteAll 163 (item_events text_item)
unfolding size query_bytes user_var_bytes number_bytes
text_can = search rules

pub all_can : CanWriteAll 362 (transaction 1700000002 1 (rows_item ∷ []))
unfolding size query_bytes names_bytes table_map_bytes rows_bytes row_bytes number_bytes lenenc_bytes
all_can = search rules
