use Rattle.std.proofs.Common.{List, subst}
use Rattle.std.specs.Prelude.{ℕ, nat_eq}
use Rattle.std.specs.List.{IsDistinct}
use Rattle.std.specs.Map.{keys_of}
use Rattle.std.specs.Map.Iter.{deref_pair}
use Rattle.std.specs.Cmp.Lexicographic.{pointwise}
use Rattle.std.proofs.lemmas.Map.Iter.{rest_more}
use Rattle.val_types.specs.declared.value.Value.{Value}
use Rattle.log_entries.proofs.Copying.{copied_more}
use Rattle.log_entries.proofs.variables.VarsDuplicate.duplicate.Goals as goal

pub loop-name-preserved : goal.loop-name-preserved
loop-name-preserved c =
    let distinct : IsDistinct (pointwise nat_eq) (keys_of c.args.self.now) = subst (λ (l : List (List ℕ × Value)). IsDistinct (pointwise nat_eq) (keys_of l)) c.self.view_is c.iter-name-items.ensures.unique in
    copied_more c.args.self.now c.loop-name.copy c.loop-name.name-iterator c.next.new.self c.set.new.self c.in-Some.name.now c.in-Some.value.now c.in_ok-value.value
    c.loop-name.invariant (rest_more deref_pair _ _ c.next.result (c.in-Some.name, c.in-Some.value) c.in-Some.is c.next.ensures.steps)
    distinct c.in_ok-value.ensures c.in_ok-set.ensures.ok
