use Rattle.std.proofs.Common.{◌∙◌, sym, ap, cond, Some, None, length}
use Rattle.std.specs.Option.{option_or}
use Rattle.sql_tree.specs.StatementView.{view}
use Rattle.sql_print.specs.StatementSpelling.{spelling}
use Rattle.name_const_length.specs.sql_reach.Closing.{closed}
use Rattle.proc_model.specs.Closing.{closing_refusal, limit_refusal, literal_refusal}
use Rattle.name_const_checks.proofs.Limits.{too_long, short_enough}
use Rattle.name_const_checks.proofs.closing.check_closing.Goals as goal

pub returns-then-branch-gt-MOST_BYTES : goal.returns-then-branch-gt-MOST_BYTES
unfolding closing_refusal
returns-then-branch-gt-MOST_BYTES c =
    let s = view c.args.s.now in
    let text = spelling (closed s c.args.locals.now) in
    let long = too_long (length text) c.in_ok-closed_length.field-0 c.in_ok-closed_length.ensures c.if-branch-gt-MOST_BYTES.true in
    λ i. cond (long i) (Some 1153) (option_or (limit_refusal s c.args.locals.now) (literal_refusal c.args.locals.now))

pub returns-in-Some : goal.returns-in-Some
unfolding closing_refusal
returns-in-Some c =
    let s = view c.args.s.now in
    let text = spelling (closed s c.args.locals.now) in
    let short = short_enough (length text) c.in_ok-closed_length.field-0 c.in_ok-closed_length.ensures c.if-branch-gt-MOST_BYTES.false in
    (λ i. cond (short i) (Some 1153) (option_or (limit_refusal s c.args.locals.now) (literal_refusal c.args.locals.now)))
    ∙ ap (λ o. option_or o (literal_refusal c.args.locals.now)) (sym c.in_ok-error.ensures ∙ c.in-Some.is)

pub returns : goal.returns
unfolding closing_refusal
returns c =
    let s = view c.args.s.now in
    let text = spelling (closed s c.args.locals.now) in
    let short = short_enough (length text) c.in_ok-closed_length.field-0 c.in_ok-closed_length.ensures c.if-branch-gt-MOST_BYTES.false in
    (λ i. cond (short i) (Some 1153) (option_or (limit_refusal s c.args.locals.now) (literal_refusal c.args.locals.now)))
    ∙ ap (λ o. option_or o (literal_refusal c.args.locals.now)) (sym c.in_ok-error.ensures ∙ c.in_default.is)
    ∙ ap (λ b. cond b None (Some 30002)) c.hold_literals.ensures
