use Rattle.std.proofs.Common.{◌≡◌, ◌++◌, ◌∷◌, [], ℕ, List, ap, ◌∙◌}
use Rattle.std.specs.Prelude.{codes}
use Rattle.std.specs.Fmt.{decimal}
use Rattle.std.specs.Option.{option_map}
use Rattle.replica_model.specs.Lines.{stop_if}
use Rattle.replica_node.specs.Steps.{stop_of}
use Rattle.replica_node.proofs.Written.{applied_joined}
use Rattle.replica_node.proofs.lines.applied_line.Goals as goal

pub returns : goal.returns
returns c =
    let log : c.put_with.new.text ≡ c.in_ok-text.text ++ codes " " ++ decimal c.args.applied.now.log =
    c.in_ok-put_with.ensures ∙ ap (λ (n : ℕ). c.in_ok-text.text ++ codes " " ++ decimal n) c.from.ensures in
    let place : c.put_with-2.new.text ≡ c.put_with.new.text ++ codes ":" ++ decimal c.args.applied.now.pos =
    c.in_ok-put_with-2.ensures ∙ ap (λ (n : ℕ). c.put_with.new.text ++ codes ":" ++ decimal n) c.from-2.ensures in
    applied_joined (decimal c.args.number) (codes " ") (codes "applied ") (decimal c.args.applied.now.count) (decimal c.args.applied.now.log) (codes ":") (decimal c.args.applied.now.pos)
    (stop_if (option_map stop_of c.args.applied.now.stop)) (0x0a ∷ []) c.in_ok-text.text c.put_with.new.text c.put_with-2.new.text c.put_stop_if.new.text c.push.new.self
    c.in_ok-text.ensures log place c.in_ok-put_stop_if.ensures c.in_ok-push.ensures.ok
