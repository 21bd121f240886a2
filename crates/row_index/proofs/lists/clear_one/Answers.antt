use Rattle.std.proofs.Common.{ap, ◌∙◌, arith}
use Rattle.block_list.specs.Layouts.{Layout, flat}
use Rattle.row_index.proofs.Listing.{list_set, list_beside, holds_set}
use Rattle.row_index.proofs.lists.clear_one.Goals as goal

pub returns-clause-none : goal.returns-clause-none
returns-clause-none c =
    ap (λ (l : Layout). flat l.blocks) (list_set c.args.lists.now.items c.args.which c.clear.new.self (omega (arith, c.requires, c.args.lists.now.ok.0))) ∙ c.clear.ensures.numbers

pub returns-clause-holds : goal.returns-clause-holds
returns-clause-holds c = holds_set c.args.lists.now.items c.args.which c.index_mut.result.now c.clear.new.self (omega (arith, c.requires, c.args.lists.now.ok.0)) c.index_mut.ensures.value c.clear.ensures.holds

pub returns-clause-others : goal.returns-clause-others
returns-clause-others c = λ other differs. list_beside c.args.lists.now.items c.args.which other c.clear.new.self differs
