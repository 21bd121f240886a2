use Rattle.std.proofs.Common.{◌≡◌, ◌++◌, ℕ, List, OnOk, ap, subst, ◌∙◌}
use Rattle.std.specs.Prelude.{codes}
use Rattle.std.specs.Fmt.{decimal}
use Rattle.val_types.specs.Text.{row_text_of}
use Rattle.answer_text.specs.Statuses.{table_text}
use Rattle.replica_node.proofs.Written.{differs_joined}
use Rattle.replica_node.proofs.lines.put_differs.Goals as goal

pub returns : goal.returns
returns c =
    let code : c.put_with-2.new.text ≡ c.put_with.new.text ++ codes " " ++ decimal c.args.code =
    c.in_ok-put_with-2.ensures ∙ ap (λ (n : ℕ). c.put_with.new.text ++ codes " " ++ decimal n) c.from.ensures in
    subst (λ (t : List ℕ). OnOk c.put_key.result (c.put_key.new.text ≡ t))
    (differs_joined c.args.text.now c.put_with.new.text c.put_with-2.new.text (codes " stopped differs ") (decimal c.args.pos) (codes " ") (decimal c.args.code) (codes " ")
    (table_text c.args.table.now) (codes " (") (row_text_of c.args.key.now) (codes ")") c.in_ok-put_with.ensures code) c.put_key.ensures
