use Rattle.std.proofs.Common.{sym, ◌∙◌}
use Rattle.std.proofs.lemmas.Bool.{OnTrue_from}
use Rattle.binlog_items.proofs.Fitting.{is_row}
use Rattle.binlog_items.proofs.carrying.is_row.Goals as goal

pub returns : goal.returns
returns c = OnTrue_from c.row_fits.result _ (λ fits. is_row c.args.columns.now c.args.row.now c.requires (sym c.row_fits.ensures ∙ fits))
