use Rattle.std.proofs.Common.{rules, ◌≡◌, ◌<◌, ◌+◌, ◌∷◌, drop, length}
use Rattle.std.proofs.lemmas.List.{drop_more}
use Rattle.sql_parse_definitions.proofs.NameSets.{holds_on}
use Rattle.sql_parse_definitions.proofs.name_set.NameSet.of.Goals as goal

pub loop-name-preserved : goal.loop-name-preserved
loop-name-preserved c =
    let within : c.loop-name.name-index < length c.args.names.now = search rules in
    let e : drop c.loop-name.name-index c.args.names.now ≡ c.in_ok-duplicate.field-0 ∷ drop (c.loop-name.name-index + 1) c.args.names.now =
    rw (c.in_ok-duplicate.ensures, c.name-item.is) (drop_more c.args.names.now c.loop-name.name-index c.name-item.result within) in
    holds_on c.loop-name.set c.insert.new.self c.in_ok-duplicate.field-0 _ _ _ e c.loop-name.invariant c.in_ok-insert.ensures.updates
