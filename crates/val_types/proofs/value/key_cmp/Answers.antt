use Rattle.std.proofs.Common.{rules, ◌≡◌, ◌∙◌, sym}
use Rattle.val_types.specs.Order.{key_order}
use Rattle.val_types.proofs.Values.{key_exact, key_tied}
use Rattle.val_types.proofs.value.key_cmp.Goals as goal

pub returns-clause-equal : goal.returns-clause-equal
returns-clause-equal c =
    let order : c.cmp.result ≡ key_order c.args.a.now c.args.b.now = search rules in
    (λ e. key_exact c.args.a.now c.args.b.now (sym order ∙ e), λ e. order ∙ key_tied c.args.a.now c.args.b.now e)
