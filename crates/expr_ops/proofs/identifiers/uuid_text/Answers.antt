use Rattle.std.proofs.Common.{◌≡◌, ◌∙◌, ap}
use Rattle.uuid.specs.Text.{hyphenated_text, lower}
use Rattle.value_rules.specs.Identifiers.{uuid_text}
use Rattle.expr_ops.proofs.Digits.{uuid_same}
use Rattle.expr_ops.proofs.identifiers.uuid_text.Goals as goal

pub returns : goal.returns
returns c =
    let same : c.as_bytes.result.now ≡ uuid_text c.args.n =
    c.as_bytes.ensures.value ∙ c.encode_lower-text.ensures.text
    ∙ ap (hyphenated_text lower) (c.hyphenated.ensures ∙ c.from_u128.ensures) ∙ uuid_same c.args.n in
    rw same at c.from_slice.ensures
