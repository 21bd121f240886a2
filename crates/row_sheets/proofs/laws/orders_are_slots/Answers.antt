use Rattle.row_sheets.proofs.Orders.{in_order, found_at, missing_at, put_at, taken_at, replaced_at}
use Rattle.row_sheets.proofs.laws.orders_are_slots.Goals as goal

pub returns-clause-in_order : goal.returns-clause-in_order
returns-clause-in_order c = in_order

pub returns-clause-found : goal.returns-clause-found
returns-clause-found c = found_at

pub returns-clause-missing : goal.returns-clause-missing
returns-clause-missing c = missing_at

pub returns-clause-put : goal.returns-clause-put
returns-clause-put c = put_at

pub returns-clause-taken : goal.returns-clause-taken
returns-clause-taken c = taken_at

pub returns-clause-replaced : goal.returns-clause-replaced
returns-clause-replaced c = replaced_at
