use Rattle.source_node.proofs.Standings.{exec_if}
use Rattle.source_node.proofs.source.SourceNode.exec.Goals as goal

pub returns-clause-stands : goal.returns-clause-stands
returns-clause-stands c m stands =
    exec_if c.exec_kept.result c.args.self.now c.exec_kept.new.self c.args.session c.args.text.now c.args.draw.now c.steps_are_kept.ensures
    c.exec_kept.ensures.answer c.exec_kept.ensures.state c.exec_kept.ensures.log m stands
