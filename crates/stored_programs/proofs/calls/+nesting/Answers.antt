use Rattle.std.proofs.Common.{◌≡◌, ◌==◌, true, false, sym, ap, ◌∙◌, arith}
use Rattle.std.proofs.lemmas.Bool.Decides.{nat_tests}
use Rattle.std.specs.Option.{option_copied}
use Rattle.val_types.specs.declared.definitions.TableDef.{TableDef}
use Rattle.sql_tree.specs.StatementView.{view_program, view_trigger}
use Rattle.sql_statements.specs.catalog_objects.Keys.{objects_of}
use Rattle.sql_statements.specs.catalog_rules.Objects.{trigger_for}
use Rattle.exec_state.specs.Stage.{scene_of}
use Rattle.sql_evaluation.specs.Seen.{running_of}
use Rattle.stored_programs.proofs.Nesting.{call_ends, call_miscounted, call_too_deep, call_under_way, counted_is, event_ends}
use Rattle.stored_programs.proofs.calls.+nesting.Goals as goal

pub call_function-returns-then-len-clause-gives : goal.call_function-returns-then-len-clause-gives
call_function-returns-then-len-clause-gives t c =
    let counted : (c.len.result == c.len-2.result) ≡ false = grind (arith, nat_tests) in
    call_miscounted c.args.around.now (running_of c.args.running.now) c.args.name.now c.args.arguments (view_program c.in-Some.routine.now) (scene_of c.args.stage.now) c.in-Some.ensures
    (counted_is c.in-Some.routine.now c.args.arguments c.len.result c.len-2.result false c.len.ensures c.len-2.ensures counted)

pub call_function-returns-then-is_called-clause-gives : goal.call_function-returns-then-is_called-clause-gives
call_function-returns-then-is_called-clause-gives t c =
    let counted : (c.len.result == c.len-2.result) ≡ true = grind (arith, nat_tests) in
    call_under_way c.args.around.now (running_of c.args.running.now) c.args.name.now c.args.arguments (view_program c.in-Some.routine.now) (scene_of c.args.stage.now) c.in-Some.ensures
    (counted_is c.in-Some.routine.now c.args.arguments c.len.result c.len-2.result true c.len.ensures c.len-2.ensures counted) (sym c.is_called.ensures ∙ c.if-is_called.true)

pub call_function-returns-then-around-eq0-clause-gives : goal.call_function-returns-then-around-eq0-clause-gives
call_function-returns-then-around-eq0-clause-gives t c =
    let counted : (c.len.result == c.len-2.result) ≡ true = grind (arith, nat_tests) in
    call_too_deep c.args.around.now (running_of c.args.running.now) c.args.name.now c.args.arguments (view_program c.in-Some.routine.now) (scene_of c.args.stage.now) c.in-Some.ensures
    (counted_is c.in-Some.routine.now c.args.arguments c.len.result c.len-2.result true c.len.ensures c.len-2.ensures counted) (sym c.is_called.ensures ∙ c.if-is_called.false) (omega arith)

pub call_function-returns-clause-gives : goal.call_function-returns-clause-gives
call_function-returns-clause-gives t c =
    let counted : (c.len.result == c.len-2.result) ≡ true = grind (arith, nat_tests) in
    call_ends c.args.around.now c.further_down-inner.result (running_of c.args.running.now) c.args.name.now c.args.arguments (view_program c.in-Some.routine.now) c.run_function.result (scene_of c.args.stage.now) (scene_of c.run_function.new.stage) c.in-Some.ensures
    (counted_is c.in-Some.routine.now c.args.arguments c.len.result c.len-2.result true c.len.ensures c.len-2.ensures counted) (sym c.is_called.ensures ∙ c.if-is_called.false) (omega arith)
    c.further_down-inner.ensures.setting c.further_down-inner.ensures.nesting (c.further_down-inner.ensures.running ∙ c.inside-function.ensures) c.run_function.ensures.gives

pub fire_trigger-returns-clause-gives : goal.fire_trigger-returns-clause-gives
fire_trigger-returns-clause-gives t c =
    event_ends c.args.around.now c.further_down-inner.result (running_of c.args.running.now) c.args.time c.args.event c.args.definition.now (option_copied c.args.new) (option_copied c.args.old) (view_trigger c.in-Some.trigger.now) c.run_trigger.result (scene_of c.args.stage.now) (scene_of c.run_trigger.new.stage)
    (c.in-Some.ensures ∙ ap (λ (d : TableDef). trigger_for (objects_of c.args.around.now.catalog.now) d.name c.args.time c.args.event) c.get.ensures) (omega arith)
    c.further_down-inner.ensures.setting c.further_down-inner.ensures.nesting c.further_down-inner.ensures.running c.run_trigger.ensures.gives
