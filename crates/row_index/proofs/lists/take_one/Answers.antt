use Rattle.std.proofs.Common.{◌<◌, length, sym, subst, arith}
use Rattle.block_list.specs.Layouts.{Layout, flat}
use Rattle.row_sheets.specs.Orders.{NumbersRise}
use Rattle.row_index.specs.Numbers.{number_slot, IsTaken}
use Rattle.row_index.specs.Lists.{list_at}
use Rattle.row_index.proofs.Listing.{list_read, list_set, list_beside, list_missing}
use Rattle.row_index.proofs.Numbered.{taken_nothing}
use Rattle.row_index.proofs.lists.take_one.Goals as goal

pub take_number-requires : goal.take_number-requires
take_number-requires g c =
    let within : c.args.which < length c.args.lists.now.items = omega (arith, c.args.lists.now.ok.0) in
    subst (λ (l : Layout). NumbersRise (number_slot c.args.key.now (g.R.RowsByNumber.row_of c.args.rows.now)) (flat l.blocks)) (list_read c.args.lists.now.items c.args.which c.index_mut.result.now within c.index_mut.ensures.value) c.requires

pub returns-then-which-len-clause-taken : goal.returns-then-which-len-clause-taken
returns-then-which-len-clause-taken g c =
    let within : c.args.which < length c.args.lists.now.items = omega (arith, c.args.lists.now.ok.0) in
    subst (λ (l : Layout). IsTaken c.args.key.now (g.R.RowsByNumber.row_of c.args.rows.now) c.args.row.now (list_at c.args.lists.now.items c.args.which) l)
    (sym (list_set c.args.lists.now.items c.args.which c.take_number.new.numbers within))
    (subst (λ (l : Layout). IsTaken c.args.key.now (g.R.RowsByNumber.row_of c.args.rows.now) c.args.row.now l c.take_number.new.numbers)
    (sym (list_read c.args.lists.now.items c.args.which c.index_mut.result.now within c.index_mut.ensures.value)) c.take_number.ensures)

pub returns-then-which-len-clause-others : goal.returns-then-which-len-clause-others
returns-then-which-len-clause-others g c = λ other differs. list_beside c.args.lists.now.items c.args.which other c.take_number.new.numbers differs

pub returns-else-which-len-clause-taken : goal.returns-else-which-len-clause-taken
returns-else-which-len-clause-taken g c =
    subst (λ (l : Layout). IsTaken c.args.key.now (g.R.RowsByNumber.row_of c.args.rows.now) c.args.row.now l l) (sym (list_missing c.args.lists.now.items c.args.which (omega (arith, c.args.lists.now.ok.0)))) (taken_nothing c.args.key.now (g.R.RowsByNumber.row_of c.args.rows.now) c.args.row.now)
