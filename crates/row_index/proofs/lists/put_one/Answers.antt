use Rattle.std.proofs.Common.{length, sym, subst, arith}
use Rattle.block_list.specs.Layouts.{Layout}
use Rattle.row_index.specs.Numbers.{CanPut, IsPut}
use Rattle.row_index.specs.Lists.{list_at, numbers_at}
use Rattle.row_index.proofs.Listing.{is_there, list_read, list_set, list_beside}
use Rattle.row_index.proofs.lists.put_one.Goals as goal

pub index_mut-requires : goal.index_mut-requires
index_mut-requires g c = omega (arith, is_there c.args.lists.now.items c.args.which (length (numbers_at c.args.lists.now.items c.args.which)) c.requires.can.room, c.args.lists.now.ok.0)

pub put_number-requires-clause-can : goal.put_number-requires-clause-can
put_number-requires-clause-can g c =
    subst (λ (l : Layout). CanPut c.args.key.now (g.R.RowsByNumber.row_of c.args.rows.now) l)
    (list_read c.args.lists.now.items c.args.which c.index_mut.result.now (is_there c.args.lists.now.items c.args.which (length (numbers_at c.args.lists.now.items c.args.which)) c.requires.can.room) c.index_mut.ensures.value) c.requires.can

pub returns-clause-put : goal.returns-clause-put
returns-clause-put g c =
    subst (λ (l : Layout). IsPut c.args.key.now (g.R.RowsByNumber.row_of c.args.rows.now) c.args.row.now (list_at c.args.lists.now.items c.args.which) l)
    (sym (list_set c.args.lists.now.items c.args.which c.put_number.new.numbers (is_there c.args.lists.now.items c.args.which (length (numbers_at c.args.lists.now.items c.args.which)) c.requires.can.room)))
    (subst (λ (l : Layout). IsPut c.args.key.now (g.R.RowsByNumber.row_of c.args.rows.now) c.args.row.now l c.put_number.new.numbers)
    (sym (list_read c.args.lists.now.items c.args.which c.index_mut.result.now (is_there c.args.lists.now.items c.args.which (length (numbers_at c.args.lists.now.items c.args.which)) c.requires.can.room) c.index_mut.ensures.value)) c.put_number.ensures)

pub returns-clause-others : goal.returns-clause-others
returns-clause-others g c = λ other differs. list_beside c.args.lists.now.items c.args.which other c.put_number.new.numbers differs
