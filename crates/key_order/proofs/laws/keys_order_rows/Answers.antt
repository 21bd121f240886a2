use Rattle.key_order.proofs.Keys.{rising_keys_stay, falling_keys_turn, keys_order_rows, keys_turn_rows}
use Rattle.key_order.proofs.laws.keys_order_rows.Goals as goal

pub returns-clause-rising : goal.returns-clause-rising
returns-clause-rising c = rising_keys_stay

pub returns-clause-falling : goal.returns-clause-falling
returns-clause-falling c = falling_keys_turn

pub returns-clause-columns : goal.returns-clause-columns
returns-clause-columns c = keys_order_rows

pub returns-clause-turned : goal.returns-clause-turned
returns-clause-turned c = keys_turn_rows
