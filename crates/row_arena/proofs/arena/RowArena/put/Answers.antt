use Rattle.std.proofs.Common.{◌<◌, List, [], ◌∷◌, length, Option, Some, None, ap, subst, ◌∙◌, arith}
use Rattle.std.proofs.lemmas.Option.{slice_get_within}
use Rattle.val_types.specs.declared.value.Value.{Value}
use Rattle.row_arena.specs.Arenas.{Arena, IsFree, with_row_at}
use Rattle.row_arena.proofs.Free.{popped_free, none_popped, still_free, count_put, count_more, free_is_free, end_is_free, put_there}
use Rattle.row_arena.proofs.arena.RowArena.put.Goals as goal

pub index_mut-requires : goal.index_mut-requires
index_mut-requires c =
    let last = popped_free c.self.inside.rows.items c.self.inside.free.items c.pop.new.self.items c.in-Some.number c.in-Some.ensures.items c.self.invariant.are_free in
    omega (arith, slice_get_within c.self.inside.rows.items c.in-Some.number None last.0, c.self.inside.rows.ok.0)

pub invariant_of-self : goal.invariant_of-self
invariant_of-self c =
    let last = popped_free c.self.inside.rows.items c.self.inside.free.items c.pop.new.self.items c.in-Some.number c.in-Some.ensures.items c.self.invariant.are_free in
    record {
      are_free = still_free c.self.inside.rows.items c.pop.new.self.items c.in-Some.number (Some c.args.row) last.2 last.1;
      counted = omega (arith, count_put c.self.inside.rows.items c.in-Some.number c.args.row last.0, c.self.invariant.counted, c.in-Some.ensures.cases);
      fits = omega (arith, c.self.invariant.fits, c.pop.ensures.capacity);
      few = c.self.invariant.few;
    }

pub invariant_of-self-in-None : goal.invariant_of-self-in-None
invariant_of-self-in-None c =
    let some : 0 < (c.args.self.now).room = c.requires in
    record {
      are_free = rw c.push_reserved.ensures.items (none_popped c.self.inside.rows.items (Some c.args.row ∷ []) c.self.inside.free.items c.pop.new.self.items c.in-None.ensures.items c.self.invariant.are_free);
      counted = rw c.push_reserved.ensures.items (omega (arith, count_more c.self.inside.rows.items c.args.row, c.self.invariant.counted, c.in-None.ensures.cases, c.push_reserved.ensures.len));
      fits = omega (arith, c.push_reserved.ensures.len, c.pop.ensures.capacity, c.in-None.ensures.cases, c.self.invariant.fits, some, ap (λ (a : Arena). a.room) c.self.view_is);
      few = omega (arith, c.push_reserved.ensures.len, c.in-None.ensures.cases, some, ap (λ (a : Arena). a.room) c.self.view_is);
    }

pub returns-in-Some-clause-free : goal.returns-in-Some-clause-free
returns-in-Some-clause-free c =
    let last = popped_free c.self.inside.rows.items c.self.inside.free.items c.pop.new.self.items c.in-Some.number c.in-Some.ensures.items c.self.invariant.are_free in
    subst (λ (rows : List (Option (List Value))). IsFree rows c.in-Some.number) (ap (λ (a : Arena). a.rows) c.self.view_is) (free_is_free c.self.inside.rows.items c.in-Some.number last.0)

pub returns-in-Some-clause-rows : goal.returns-in-Some-clause-rows
returns-in-Some-clause-rows c =
    let last = popped_free c.self.inside.rows.items c.self.inside.free.items c.pop.new.self.items c.in-Some.number c.in-Some.ensures.items c.self.invariant.are_free in
    put_there c.self.inside.rows.items c.in-Some.number c.args.row (slice_get_within c.self.inside.rows.items c.in-Some.number None last.0)
    ∙ ap (λ (a : Arena). with_row_at a.rows c.in-Some.number c.args.row) c.self.view_is

pub returns-in-None-clause-free : goal.returns-in-None-clause-free
returns-in-None-clause-free c =
    subst (λ (rows : List (Option (List Value))). IsFree rows c.len-number.result) (ap (λ (a : Arena). a.rows) c.self.view_is) (end_is_free c.self.inside.rows.items c.len-number.result (omega (arith, c.len-number.ensures, c.self.inside.rows.ok.0)))

pub returns-in-Some-clause-within : goal.returns-in-Some-clause-within
returns-in-Some-clause-within c =
    let last = popped_free c.self.inside.rows.items c.self.inside.free.items c.pop.new.self.items c.in-Some.number c.in-Some.ensures.items c.self.invariant.are_free in
    omega (arith, slice_get_within c.self.inside.rows.items c.in-Some.number None last.0, ap (λ (a : Arena). length a.rows) c.self.view_is)
