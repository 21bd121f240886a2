use Rattle.std.proofs.Common.{rules, ◌≡◌, ◌<◌, ◌≤◌, [], ◌∷◌, ◌++◌, length, arith}
use Rattle.dml_rows.proofs.Noting.{taken_none, one_step, taken_one, taken_all, taken_home}
use Rattle.dml_rows.proofs.taking_back.take_back_to.Goals as goal

pub loop-undo-init : goal.loop-undo-init
loop-undo-init c = taken_none c.args.mark c.args.tables.now c.args.undo.now c.requires

pub take_back-requires-clause-step : goal.take_back-requires-clause-step
take_back-requires-clause-step c =
    let is : c.loop-undo.undo ≡ c.pop.new.self ++ c.in-Some.change ∷ [] = search rules in
    let more : c.args.mark < length c.loop-undo.undo = omega arith in
    (one_step c.args.mark c.loop-undo.tables c.loop-undo.undo c.pop.new.self c.in-Some.change is more c.loop-undo.invariant.can).0

pub take_back-requires-clause-kept : goal.take_back-requires-clause-kept
take_back-requires-clause-kept c =
    let is : c.loop-undo.undo ≡ c.pop.new.self ++ c.in-Some.change ∷ [] = search rules in
    let more : c.args.mark < length c.loop-undo.undo = omega arith in
    (one_step c.args.mark c.loop-undo.tables c.loop-undo.undo c.pop.new.self c.in-Some.change is more c.loop-undo.invariant.can).1

pub loop-undo-preserved-in-Some : goal.loop-undo-preserved-in-Some
loop-undo-preserved-in-Some c =
    let is : c.loop-undo.undo ≡ c.pop.new.self ++ c.in-Some.change ∷ [] = search rules in
    let more : c.args.mark < length c.loop-undo.undo = omega arith in
    taken_one c.args.mark c.args.tables.now c.loop-undo.tables c.take_back.new.self c.args.undo.now c.loop-undo.undo c.pop.new.self c.in-Some.change c.loop-undo.invariant is more c.take_back.ensures.tables c.take_back.ensures.keys c.take_back.ensures.still c.take_back.ensures.whole

pub returns-clause-tables : goal.returns-clause-tables
returns-clause-tables c =
    let past : length c.loop-undo.undo ≤ c.args.mark = omega arith in
    taken_all c.args.mark c.args.tables.now c.loop-undo.tables c.args.undo.now c.loop-undo.undo c.loop-undo.invariant past

pub returns-clause-home : goal.returns-clause-home
returns-clause-home c =
    let past : length c.loop-undo.undo ≤ c.args.mark = omega arith in
    taken_home c.args.mark c.args.tables.now c.loop-undo.tables c.args.undo.now c.loop-undo.undo c.loop-undo.invariant past
