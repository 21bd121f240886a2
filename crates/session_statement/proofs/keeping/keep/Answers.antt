use Rattle.std.proofs.Common.{rules, ◌≡◌, ◌≤◌, length, ap, ◌∙◌, arith}
use Rattle.proc_parts.specs.catalog_objects.Keys.{objects_of}
use Rattle.sql_tree.specs.StatementView.{view}
use Rattle.proc_parts.specs.sql_reach.Reasons.{reasons}
use Rattle.session_shared.specs.session_model.Formats.{logs_rows, warns}
use Rattle.session_shared.specs.Desk.{own_behind, shared_of}
use Rattle.session_statement.specs.Keeping.{item_made}
use Rattle.session_statement.proofs.Keeps.{kept_changes, lost_changes}
use Rattle.session_statement.proofs.keeping.keep.Goals as goal

pub returns-then-branch : goal.returns-then-branch
returns-then-branch c =
    let objects : c.objects-objects.result.now ≡ c.args.desk.now.work.objects = c.objects-objects.ensures ∙ c.catalog.ensures in
    let rows : c.how_logged-logging.result.rows ≡ logs_rows c.args.session.now.format (reasons (objects_of c.args.desk.now.work.objects) (view c.args.statement.now)) =
    c.how_logged-logging.ensures.rows
    ∙ ap (λ os. logs_rows c.session.inside.format (reasons (objects_of os) (view c.args.statement.now))) objects
    ∙ ap (λ s. logs_rows s.format (reasons (objects_of c.args.desk.now.work.objects) (view c.args.statement.now))) c.session.view_is in
    let warned : c.how_logged-logging.result.warned ≡ warns c.args.session.now.format (reasons (objects_of c.args.desk.now.work.objects) (view c.args.statement.now)) =
    c.how_logged-logging.ensures.warned
    ∙ ap (λ os. warns c.session.inside.format (reasons (objects_of os) (view c.args.statement.now))) objects
    ∙ ap (λ s. warns s.format (reasons (objects_of c.args.desk.now.work.objects) (view c.args.statement.now))) c.session.view_is in
    let item : c.in_ok-item.item ≡ item_made c.args.text.now (view c.args.statement.now) c.args.start.before c.args.first (logs_rows c.args.session.now.format (reasons (objects_of c.args.desk.now.work.objects) (view c.args.statement.now))) (objects_of c.args.desk.now.work.objects) c.args.session.now.vars.context c.in_ok-changes.changes =
    c.in_ok-item.ensures
    ∙ ap (λ b. item_made c.args.text.now (view c.args.statement.now) c.args.start.before c.args.first b (objects_of c.objects-objects.result.now) c.session.inside.vars.context c.in_ok-changes.changes) rows
    ∙ ap (λ os. item_made c.args.text.now (view c.args.statement.now) c.args.start.before c.args.first (logs_rows c.args.session.now.format (reasons (objects_of c.args.desk.now.work.objects) (view c.args.statement.now))) (objects_of os) c.session.inside.vars.context c.in_ok-changes.changes) objects
    ∙ ap (λ s. item_made c.args.text.now (view c.args.statement.now) c.args.start.before c.args.first (logs_rows c.args.session.now.format (reasons (objects_of c.args.desk.now.work.objects) (view c.args.statement.now))) (objects_of c.args.desk.now.work.objects) s.vars.context c.in_ok-changes.changes) c.session.view_is in
    let some : 1 ≤ length c.in_ok-changes.changes = omega (arith, c.len.ensures, c.if-len-eq0.false) in
    kept_changes c.args.command.now.identity.now c.args.command.now.draw.now c.args.command.now.number
    (item_made c.args.text.now (view c.args.statement.now) c.args.start.before c.args.first (logs_rows c.args.session.now.format (reasons (objects_of c.args.desk.now.work.objects) (view c.args.statement.now))) (objects_of c.args.desk.now.work.objects) c.args.session.now.vars.context)
    (warns c.args.session.now.format (reasons (objects_of c.args.desk.now.work.objects) (view c.args.statement.now))) c.how_logged-logging.result.warned
    (own_behind c.args.command.now.number c.args.start.mark (shared_of c.args.desk.now)) c.in_ok-changes.changes c.in_ok-item.item c.args.start.mark c.args.start.before.last_id c.args.desk.now c.keep_item.new.desk c.args.session.now c.keep_item.new.session
    c.in_ok-keep_item.field-0 c.in_ok-changes.ensures item warned some c.if-branch.true c.in_ok-keep_item.ensures

pub returns : goal.returns
returns c =
    let objects : c.objects-objects.result.now ≡ c.args.desk.now.work.objects = c.objects-objects.ensures ∙ c.catalog.ensures in
    let rows : c.how_logged-logging.result.rows ≡ logs_rows c.args.session.now.format (reasons (objects_of c.args.desk.now.work.objects) (view c.args.statement.now)) =
    c.how_logged-logging.ensures.rows
    ∙ ap (λ os. logs_rows c.session.inside.format (reasons (objects_of os) (view c.args.statement.now))) objects
    ∙ ap (λ s. logs_rows s.format (reasons (objects_of c.args.desk.now.work.objects) (view c.args.statement.now))) c.session.view_is in
    let item : c.in_ok-item.item ≡ item_made c.args.text.now (view c.args.statement.now) c.args.start.before c.args.first (logs_rows c.args.session.now.format (reasons (objects_of c.args.desk.now.work.objects) (view c.args.statement.now))) (objects_of c.args.desk.now.work.objects) c.args.session.now.vars.context c.in_ok-changes.changes =
    c.in_ok-item.ensures
    ∙ ap (λ b. item_made c.args.text.now (view c.args.statement.now) c.args.start.before c.args.first b (objects_of c.objects-objects.result.now) c.session.inside.vars.context c.in_ok-changes.changes) rows
    ∙ ap (λ os. item_made c.args.text.now (view c.args.statement.now) c.args.start.before c.args.first (logs_rows c.args.session.now.format (reasons (objects_of c.args.desk.now.work.objects) (view c.args.statement.now))) (objects_of os) c.session.inside.vars.context c.in_ok-changes.changes) objects
    ∙ ap (λ s. item_made c.args.text.now (view c.args.statement.now) c.args.start.before c.args.first (logs_rows c.args.session.now.format (reasons (objects_of c.args.desk.now.work.objects) (view c.args.statement.now))) (objects_of c.args.desk.now.work.objects) s.vars.context c.in_ok-changes.changes) c.session.view_is in
    let some : 1 ≤ length c.in_ok-changes.changes = omega (arith, c.len.ensures, c.if-len-eq0.false) in
    lost_changes c.args.command.now.identity.now c.args.command.now.draw.now c.args.command.now.number
    (item_made c.args.text.now (view c.args.statement.now) c.args.start.before c.args.first (logs_rows c.args.session.now.format (reasons (objects_of c.args.desk.now.work.objects) (view c.args.statement.now))) (objects_of c.args.desk.now.work.objects) c.args.session.now.vars.context)
    (warns c.args.session.now.format (reasons (objects_of c.args.desk.now.work.objects) (view c.args.statement.now)))
    (own_behind c.args.command.now.number c.args.start.mark (shared_of c.args.desk.now)) c.in_ok-changes.changes c.in_ok-item.item c.args.start.mark c.args.start.before.last_id c.args.desk.now c.keep_item.new.desk c.args.session.now c.keep_item.new.session _
    c.in_ok-keep_item.field-0 c.in_ok-changes.ensures item some c.if-branch.false (search rules) c.in_ok-keep_item.ensures
