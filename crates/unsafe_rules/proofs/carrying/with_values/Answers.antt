use Rattle.std.proofs.Common.{◌≡◌, ◌+◌, ℕ, suc, List, slice_get, Some, sym, ap, subst, ◌∙◌, arith}
use Rattle.std.proofs.lemmas.Option.{slice_get-get_or}
use Rattle.session_ctx.specs.log_entries.Variables.{variable_value}
use Rattle.statement_names.specs.Rising.{Rises}
use Rattle.unsafe_rules.proofs.Valued.{set_more}
use Rattle.unsafe_rules.proofs.carrying.with_values.Goals as goal

pub loop-name-preserved : goal.loop-name-preserved
loop-name-preserved c =
    let get : slice_get c.all-name-items.result.now c.loop-name.name-index ≡ Some c.name-item.result =
    slice_get-get_or c.all-name-items.result.now c.loop-name.name-index c.name-item.result (omega arith) ∙ ap (λ (n : List ℕ). Some n) (sym c.name-item.is) in
    let after : c.loop-name.name-index + 1 ≡ suc c.loop-name.name-index = omega arith in
    let rising : Rises c.all-name-items.result.now = subst Rises (sym c.all-name-items.ensures.names) c.all-name-items.ensures.rising in
    c.in_ok-set.ensures.ok
    ∙ set_more (variable_value c.args.x.now.variables) c.all-name-items.result.now c.loop-name.name-index _ c.name-item.result c.loop-name.vars c.in_ok-value_of.field-0 after rising get c.loop-name.invariant c.in_ok-value_of.ensures
