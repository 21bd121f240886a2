use Rattle.std.proofs.Common.{◌≡◌, None, refl, sym, subst}
use Rattle.std.specs.Option.{option_map}
use Rattle.val_types.specs.Keys.{values_at}
use Rattle.block_list.specs.Layouts.{Layout, flat}
use Rattle.row_sheets.specs.Slots.{held}
use Rattle.row_sheets.specs.Orders.{NumbersRise}
use Rattle.row_index.specs.Numbers.{number_slot, number_slots}
use Rattle.row_index.proofs.Listing.{list_got, list_none}
use Rattle.row_index.proofs.lists.found_in.Goals as goal

pub number_of-requires : goal.number_of-requires
number_of-requires g c =
    subst (λ (l : Layout). NumbersRise (number_slot c.args.key.now (g.R.RowsByNumber.row_of c.args.rows.now)) (flat l.blocks)) (list_got c.args.lists.now.items c.args.which c.in-Some.numbers.now c.in-Some.ensures) c.requires

pub returns-in-Some : goal.returns-in-Some
returns-in-Some g c =
    subst (λ (l : Layout). held (values_at c.args.key.now.columns c.args.row.now) (number_slots c.args.key.now (g.R.RowsByNumber.row_of c.args.rows.now) (flat l.blocks)) ≡ option_map (g.R.RowsByNumber.row_of c.args.rows.now) c.number_of.result)
    (sym (list_got c.args.lists.now.items c.args.which c.in-Some.numbers.now c.in-Some.ensures)) c.number_of.ensures

pub returns-in-None : goal.returns-in-None
returns-in-None g c =
    subst (λ (l : Layout). held (values_at c.args.key.now.columns c.args.row.now) (number_slots c.args.key.now (g.R.RowsByNumber.row_of c.args.rows.now) (flat l.blocks)) ≡ None) (sym (list_none c.args.lists.now.items c.args.which c.in-None.ensures)) refl
