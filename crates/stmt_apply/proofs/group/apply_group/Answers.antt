use Rattle.log_groups.specs.Views.{group_seen}
use Rattle.row_apply.specs.prog_work.Contents.{base_of}
use Rattle.stmt_apply.proofs.Following.{follows}
use Rattle.stmt_apply.proofs.group.apply_group.Goals as goal

pub returns-clause-follows : goal.returns-clause-follows
returns-clause-follows c =
    follows c.entry_is_carried.ensures c.args.identity.now c.args.draw.now (base_of c.args.work.now) c.args.work.now.counters (group_seen c.args.group.now) c.apply_form.result c.apply_form.new.work
    c.apply_form.ensures.ends
