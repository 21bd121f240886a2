use Rattle.std.proofs.Common.{◌≡◌, ◌<◌, List, length, Option, Some, ap, sym, ◌∙◌, arith}
use Rattle.std.specs.Prelude.{slice_get}
use Rattle.std.specs.Option.{option_and_then}
use Rattle.val_types.specs.declared.value.Value.{Value}
use Rattle.row_arena.specs.Arenas.{Arena}
use Rattle.row_arena.proofs.Free.{read_is, taken_free, count_taken}
use Rattle.row_arena.proofs.arena.RowArena.take.Goals as goal

pub push_reserved-requires : goal.push_reserved-requires
push_reserved-requires c =
    let lt : c.args.number < length c.self.inside.rows.items = omega (arith, c.if-number-len.false, c.len.ensures, c.self.inside.rows.ok.0) in
    let there : slice_get c.self.inside.rows.items c.args.number ≡ Some (Some c.in_ok-row.row) =
    read_is c.self.inside.rows.items c.args.number c.index_mut.result.now lt c.index_mut.ensures.value ∙ ap (λ (x : Option (List Value)). Some x) (sym c.in_ok-row.ensures.value) in
    omega (arith, count_taken c.self.inside.rows.items c.args.number c.in_ok-row.row there, c.self.invariant.counted, c.self.invariant.fits)

pub invariant_of-self-2 : goal.invariant_of-self-2
invariant_of-self-2 c =
    let lt : c.args.number < length c.self.inside.rows.items = omega (arith, c.if-number-len.false, c.len.ensures, c.self.inside.rows.ok.0) in
    let there : slice_get c.self.inside.rows.items c.args.number ≡ Some (Some c.in_ok-row.row) =
    read_is c.self.inside.rows.items c.args.number c.index_mut.result.now lt c.index_mut.ensures.value ∙ ap (λ (x : Option (List Value)). Some x) (sym c.in_ok-row.ensures.value) in
    rw (c.take.ensures.after, c.push_reserved.ensures.items) (record {
      are_free = taken_free c.self.inside.rows.items c.self.inside.free.items c.args.number c.in_ok-row.row c.self.invariant.are_free lt there;
      counted = omega (arith, count_taken c.self.inside.rows.items c.args.number c.in_ok-row.row there, c.self.invariant.counted, c.push_reserved.ensures.len);
      fits = omega (arith, c.self.invariant.fits, c.push_reserved.ensures.capacity);
      few = c.self.invariant.few;
    })

pub returns-clause-row : goal.returns-clause-row
returns-clause-row c =
    let lt : c.args.number < length c.self.inside.rows.items = omega (arith, c.if-number-len.false, c.len.ensures, c.self.inside.rows.ok.0) in
    let there : slice_get c.self.inside.rows.items c.args.number ≡ Some (Some c.in_ok-row.row) =
    read_is c.self.inside.rows.items c.args.number c.index_mut.result.now lt c.index_mut.ensures.value ∙ ap (λ (x : Option (List Value)). Some x) (sym c.in_ok-row.ensures.value) in
    ap (λ (o : Option (Option (List Value))). option_and_then (λ row. row) o) (sym there ∙ ap (λ (a : Arena). slice_get a.rows c.args.number) c.self.view_is)
