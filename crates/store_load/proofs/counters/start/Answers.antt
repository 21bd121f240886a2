use Rattle.std.proofs.Common.{◌∙◌}
use Rattle.store_load.proofs.Counted.{none_started, started_ok}
use Rattle.store_load.proofs.counters.start.Goals as goal

pub returns-in-None : goal.returns-in-None
returns-in-None c = none_started c.args.tables.now.tables c.args.at c.args.definition.now c.args.counters.now c.requires.there c.in-None.is c.requires.so_far

pub returns-in_ok-rows-in-Some : goal.returns-in_ok-rows-in-Some
returns-in_ok-rows-in-Some c =
    started_ok c.add.result c.args.tables.now.tables c.args.at c.in-Some.column c.greatest_held-greatest.result c.args.definition.now c.as_slice.result.now c.args.counters.now c.add.new.self
    c.requires.there c.requires.place c.in-Some.is (c.as_slice.ensures ∙ c.in_ok-rows-in-Some.ensures c.args.definition.now.name c.requires.place) c.greatest_held-greatest.ensures.value c.requires.so_far c.add.ensures.ok
