use Rattle.std.proofs.Common.{◌≡◌, ◌+◌, List, length, get_or, suc, sym, ap, subst, ◌∙◌, arith}
use Rattle.val_types.specs.declared.definitions.KeyDef.{KeyDef}
use Rattle.sql_tree.specs.View.{view_tree}
use Rattle.where_candidates.proofs.Uniques.{named_here, named_next, named_none}
use Rattle.where_candidates.proofs.seeing.unique_named.Goals as goal

pub returns-in-Some : goal.returns-in-Some
returns-in-Some c =
    named_here c.args.outside.now c.args.definition.now (view_tree c.args.condition.now) (c.loop-i.i + 1) c.args.definition.now.uniques c.loop-i.i c.key-item.result c.in-Some.values (omega (arith, ap length c.as_slice-key-items.ensures))
    (subst (λ (ks : List KeyDef). c.key-item.result ≡ get_or ks c.loop-i.i c.key-item.result) c.as_slice-key-items.ensures c.key-item.is) (sym c.in_ok-named.ensures ∙ c.in-Some.is)
    ∙ c.loop-i.invariant

pub loop-i-preserved : goal.loop-i-preserved
loop-i-preserved c =
    let one : c.loop-i.i + 1 ≡ suc c.loop-i.i = omega arith in
    let next : (c.loop-i.i + 1) + 1 ≡ suc (c.loop-i.i + 1) = omega arith in
    sym (named_next c.args.outside.now c.args.definition.now (view_tree c.args.condition.now) (c.loop-i.i + 1) ((c.loop-i.i + 1) + 1) c.args.definition.now.uniques c.loop-i.i (c.loop-i.i + 1) c.key-item.result next one (omega (arith, ap length c.as_slice-key-items.ensures))
    (subst (λ (ks : List KeyDef). c.key-item.result ≡ get_or ks c.loop-i.i c.key-item.result) c.as_slice-key-items.ensures c.key-item.is) (sym c.in_ok-named.ensures ∙ c.in_default.is))
    ∙ c.loop-i.invariant

pub returns : goal.returns
returns c =
    named_none c.args.outside.now c.args.definition.now (view_tree c.args.condition.now) (c.loop-i.i + 1) c.args.definition.now.uniques c.loop-i.i (omega (arith, c.loop-i-test.false, ap length c.as_slice-key-items.ensures)) ∙ c.loop-i.invariant
