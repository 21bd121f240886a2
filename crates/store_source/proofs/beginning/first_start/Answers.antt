use Rattle.store_model.specs.declared.record.Kind.TheVariants.{Source}
use Rattle.store_source.proofs.Begun.{start_body}
use Rattle.store_source.proofs.beginning.first_start.Goals as goal

pub new-requires-2-clause-form : goal.new-requires-2-clause-form
new-requires-2-clause-form c = (Source, (start_body c.args.number c.ranges.number.fits).form)

pub new-requires-2-clause-fits : goal.new-requires-2-clause-fits
new-requires-2-clause-fits c = (start_body c.args.number c.ranges.number.fits).fits
