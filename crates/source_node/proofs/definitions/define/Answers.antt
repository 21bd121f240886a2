use Rattle.sql_tree.specs.StatementView.{view}
use Rattle.source_node.proofs.Making.{defined_if}
use Rattle.source_node.proofs.definitions.define.Goals as goal

pub returns : goal.returns
returns c =
    defined_if c.args.command.now.identity.now c.args.command.now.draw.now c.args.command.now.number c.args.text.now (view c.args.statement.now) c.define_next.result c.args.desk.now c.commit_open.new.desk c.define_next.new.desk
    c.args.session.now c.commit_open.new.session c.define_next.new.session c.in_ok-commit_open.ensures.ok c.define_next.ensures
