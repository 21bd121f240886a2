use Rattle.std.proofs.Common.{codes}
use Rattle.val_types.specs.Text.{text_of}
use Rattle.val_types.specs.declared.value.Value.TheVariants.{Text}
use Rattle.sql_print.proofs.Steps.{start, step, last}
use Rattle.sql_print.proofs.expressions.write_name_const.Goals as goal

pub returns : goal.returns
returns c =
    let opened = start c.args.out.now (codes "NAME_CONST(") c.in_ok-extend_from_slice.ensures.ok in
    let named = step (text_of (Text c.args.name.now)) opened c.in_ok-write_text.ensures in
    let parted = step (codes ", ") named c.in_ok-extend_from_slice-2.ensures.ok in
    last _ (codes ")") _ (step (text_of c.args.value.now) parted c.in_ok-write_value.ensures) c.extend_from_slice-3.ensures.ok
