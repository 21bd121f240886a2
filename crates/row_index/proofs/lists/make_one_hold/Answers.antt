use Rattle.std.proofs.Common.{◌≤◌, sym, ap, subst, arith}
use Rattle.std.specs.Prelude.{OnOk}
use Rattle.block_list.specs.Layouts.{Layout, flat, holds}
use Rattle.row_index.proofs.Listing.{list_set, keeps_set}
use Rattle.row_index.proofs.lists.make_one_hold.Goals as goal

pub returns-clause-made : goal.returns-clause-made
returns-clause-made c =
    subst (λ (l : Layout). OnOk c.make_hold.result (c.args.count ≤ holds l)) (sym (list_set c.args.lists.now.items c.args.which c.make_hold.new.self (omega (arith, c.requires.within, c.args.lists.now.ok.0)))) c.make_hold.ensures.made

pub returns-clause-keeps : goal.returns-clause-keeps
returns-clause-keeps c =
    keeps_set c.args.lists.now.items c.args.which c.index_mut.result.now c.make_hold.new.self (omega (arith, c.requires.within, c.args.lists.now.ok.0)) c.index_mut.ensures.value (ap flat c.make_hold.ensures.numbers) c.make_hold.ensures.holds
