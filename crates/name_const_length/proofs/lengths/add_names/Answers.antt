use Rattle.std.proofs.Common.{◌≡◌, ◌+◌, ℕ, List, cond, drop, map, subst}
use Rattle.sql_print.specs.Names.{quoted_name, commas, more_of, names_of}
use Rattle.name_const_length.specs.Growing.{grown}
use Rattle.name_const_length.specs.Items.{comma}
use Rattle.name_const_length.proofs.Growing.{next, drop-one}
use Rattle.name_const_length.proofs.lengths.add_names.Goals as goal

pub loop-name-preserved : goal.loop-name-preserved
loop-name-preserved c =
    let all = c.as_slice-name-items.result.now in
    let k = c.loop-name.name-index in
    next comma c.loop-name.first c.loop-name.total c.add_comma.new.total c.add_name.new.total (grown c.args.total.now (names_of c.args.names.now))
    (quoted_name c.name-item.result) (more_of (map quoted_name (drop (k + 1) all))) c.add_comma.ensures c.add_name.ensures
    (subst (λ (names : List (List ℕ)). grown c.loop-name.total (cond c.loop-name.first (commas (map quoted_name names)) (more_of (map quoted_name names))) ≡ grown c.args.total.now (names_of c.args.names.now))
    (drop-one all k c.name-item.result c.loop-name-test.true c.name-item.is) c.loop-name.invariant)
