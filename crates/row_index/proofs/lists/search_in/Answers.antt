use Rattle.std.proofs.Common.{◌≡◌, ◌-◌, length, None, refl, sym, subst}
use Rattle.std.specs.Option.{option_map}
use Rattle.block_list.specs.Layouts.{Layout, flat, AreWithinDigits}
use Rattle.row_sheets.specs.Slots.{held}
use Rattle.row_sheets.specs.Orders.{NumbersRise}
use Rattle.row_index.specs.Numbers.{number_slot, number_slots}
use Rattle.row_index.proofs.Listing.{list_got, list_none}
use Rattle.row_index.proofs.lists.search_in.Goals as goal

pub number_in-requires : goal.number_in-requires
number_in-requires g c =
    subst (λ (l : Layout). NumbersRise (number_slot c.args.key.now (g.R.RowsByNumber.row_of c.args.rows.now)) (flat l.blocks)) (list_got c.args.lists.now.items c.args.which c.in-Some.numbers.now c.in-Some.ensures) c.requires

pub returns-in-Some-clause-number : goal.returns-in-Some-clause-number
returns-in-Some-clause-number g c =
    subst (λ (l : Layout). held c.args.values.now (number_slots c.args.key.now (g.R.RowsByNumber.row_of c.args.rows.now) (flat l.blocks)) ≡ option_map (g.R.RowsByNumber.row_of c.args.rows.now) c.number_in.result)
    (sym (list_got c.args.lists.now.items c.args.which c.in-Some.numbers.now c.in-Some.ensures)) c.number_in.ensures.number

pub returns-in-None-clause-number : goal.returns-in-None-clause-number
returns-in-None-clause-number g c =
    subst (λ (l : Layout). held c.args.values.now (number_slots c.args.key.now (g.R.RowsByNumber.row_of c.args.rows.now) (flat l.blocks)) ≡ None) (sym (list_none c.args.lists.now.items c.args.which c.in-None.ensures)) refl

pub returns-in-Some-clause-cost : goal.returns-in-Some-clause-cost
returns-in-Some-clause-cost g c =
    subst (λ (l : Layout). AreWithinDigits (length (flat l.blocks)) (c.number_in.new.steps - c.args.steps.now)) (sym (list_got c.args.lists.now.items c.args.which c.in-Some.numbers.now c.in-Some.ensures)) c.number_in.ensures.cost
