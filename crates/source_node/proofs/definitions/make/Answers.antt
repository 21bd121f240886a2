use Rattle.std.proofs.Common.{rules, ◌≡◌, ◌+◌, ◌<◌, ◌^◌, sym, ap, ◌∙◌, subst, refl, arith}
use Rattle.session_transaction.specs.log_entries.declared.entries.Item.{Item}
use Rattle.session_transaction.specs.log_entries.declared.entries.Entry.TheVariants.{Definition}
use Rattle.session_transaction.specs.binlog_items.Items.{item_by_text}
use Rattle.session_transaction.specs.session_shared.waiting_entries.Waiting.{Leaves}
use Rattle.session_model.specs.Sessions.{Session}
use Rattle.sql_tree.specs.StatementView.{view}
use Rattle.session_transaction.specs.session_shared.Desk.{place_of, shared_of}
use Rattle.source_node.proofs.Making.{leaves_at, made_now, none_if, writing_few}
use Rattle.source_node.proofs.definitions.make.Goals as goal

pub made_definition-requires : goal.made_definition-requires
made_definition-requires c =
    let few : c.args.desk.now.committed < 4294967295 = writing_few c.args.command.now.number (shared_of c.args.desk.now) c.requires.room in
    omega (arith, few, ap (λ h. h.number) c.place.ensures)

pub returns : goal.returns
returns c =
    let leaves : Leaves (Definition c.args.session.now.vars.context.stamp c.args.command.now.identity.now.server_id (item_by_text c.args.text.now c.args.session.now.vars.context)) c.args.desk.now.committed (place_of c.args.desk.now.log) c.in_ok-made.made =
    subst (λ (s : Session Item). Leaves (Definition s.vars.context.stamp c.args.command.now.identity.now.server_id (item_by_text c.args.text.now s.vars.context)) c.args.desk.now.committed (place_of c.args.desk.now.log) c.in_ok-made.made) c.session.view_is
    (leaves_at _ c.place.result c.args.desk.now.committed c.args.desk.now.log c.in_ok-made.made c.place.ensures c.in_ok-made.ensures) in
    made_now c.args.command.now.identity.now c.args.command.now.draw.now c.args.command.now.number c.args.text.now (view c.args.statement.now) c.in_ok-told.told c.args.desk.now
    (record { work = c.run_definition.new.desk.work; lock = c.run_definition.new.desk.lock; committed = c.args.desk.now.committed + 1; log = c.run_definition.new.desk.log }) c.run_definition.new.desk.work c.args.session.now _ c.in_ok-made.made c.ok.result
    (none_if c.args.desk.now.work.changes (sym c.has_changes.ensures ∙ c.if-has_changes.false)) refl c.in_ok-told.ensures.lock refl c.in_ok-told.ensures.made
    (c.in_ok-told.ensures.log ∙ c.in_ok-put.ensures.ok) leaves (search rules) c.ok.ensures

-- a node takes no entry more long before its count would not fit
pub overflow_add-committed : goal.overflow_add-committed
overflow_add-committed c =
    let few : c.args.desk.now.committed < 4294967295 = writing_few c.args.command.now.number (shared_of c.args.desk.now) c.requires.room in
    omega arith
