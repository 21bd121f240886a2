use Rattle.std.proofs.Common.{◌≡◌, ◌<◌, List, length, Option, Some, ap, sym, subst, ◌∙◌, arith}
use Rattle.std.specs.Prelude.{slice_get, slice_set, IsSome}
use Rattle.std.specs.Option.{option_and_then}
use Rattle.val_types.specs.declared.value.Value.{Value}
use Rattle.row_arena.specs.Arenas.{Arena, AreFree, count}
use Rattle.row_arena.proofs.Free.{read_is, replaced_free, within_some}
use Rattle.row_arena.proofs.arena.RowArena.replace.Goals as goal

pub invariant_of-self : goal.invariant_of-self
invariant_of-self c =
    let lt : c.args.number < length c.self.inside.rows.items =
    within_some c.self.inside.rows.items c.args.number (subst (λ (a : Arena). IsSome (option_and_then (λ (row : Option (List Value)). row) (slice_get a.rows c.args.number))) (sym c.self.view_is) c.requires) in
    let there : slice_get c.self.inside.rows.items c.args.number ≡ Some c.index_mut.result.now = read_is c.self.inside.rows.items c.args.number c.index_mut.result.now lt c.index_mut.ensures.value in
    let some : IsSome c.index_mut.result.now =
    subst (λ (o : Option (Option (List Value))). IsSome (option_and_then (λ row. row) o)) (sym (ap (λ (a : Arena). slice_get a.rows c.args.number) c.self.view_is) ∙ there) c.requires in
    let kept : AreFree (slice_set c.self.inside.rows.items c.args.number (Some c.args.row)) c.self.inside.free.items × (count (slice_set c.self.inside.rows.items c.args.number (Some c.args.row)) ≡ count c.self.inside.rows.items) =
    replaced_free c.self.inside.rows.items c.self.inside.free.items c.args.number c.index_mut.result.now c.args.row c.self.invariant.are_free there some in
    rw c.replace.ensures.after (record {
      are_free = kept.0;
      counted = omega (arith, kept.1, c.self.invariant.counted);
      fits = c.self.invariant.fits;
      few = c.self.invariant.few;
    })

pub returns-clause-row : goal.returns-clause-row
returns-clause-row c =
    let lt : c.args.number < length c.self.inside.rows.items =
    within_some c.self.inside.rows.items c.args.number (subst (λ (a : Arena). IsSome (option_and_then (λ (row : Option (List Value)). row) (slice_get a.rows c.args.number))) (sym c.self.view_is) c.requires) in
    let there : slice_get c.self.inside.rows.items c.args.number ≡ Some c.index_mut.result.now = read_is c.self.inside.rows.items c.args.number c.index_mut.result.now lt c.index_mut.ensures.value in
    c.replace.ensures.value ∙ ap (λ (o : Option (Option (List Value))). option_and_then (λ row. row) o) (sym there ∙ ap (λ (a : Arena). slice_get a.rows c.args.number) c.self.view_is)
