use Rattle.std.proofs.Common.{◌≡◌, ◌≤◌, length, true, false, slice_get, rules, sym, subst, arith}
use Rattle.sql_reach.specs.Carrying.{put_name}
use Rattle.statement_names.specs.Rising.{Rises, is_name_at, place}
use Rattle.statement_names.proofs.Placed.{at_most, put_new, put_there, rises_put}
use Rattle.statement_names.proofs.variables.Names.put.Goals as goal

pub returns-then-is_at : goal.returns-then-is_at
returns-then-is_at c =
    let there : is_name_at (slice_get c.args.self.now (place c.args.name.now c.args.self.now)) c.args.name.now ≡ true = search rules in
    sym (put_there c.args.name.now c.args.self.now there)

pub insert-requires : goal.insert-requires
insert-requires c =
    let at : c.place_of-at.result ≡ place c.args.name.now c.self.inside.sorted = search rules in
    let most : place c.args.name.now c.self.inside.sorted ≤ length c.self.inside.sorted = at_most c.args.name.now c.self.inside.sorted in
    omega arith

pub invariant_of-self-2 : goal.invariant_of-self-2
invariant_of-self-2 c =
    let new : is_name_at (slice_get c.self.inside.sorted (place c.args.name.now c.self.inside.sorted)) c.args.name.now ≡ false = search rules in
    let put : c.insert.new.self ≡ put_name c.args.name.now c.self.inside.sorted = search (rules, put_new c.args.name.now c.self.inside.sorted new) in
    subst Rises (sym put) (rises_put c.args.name.now c.self.inside.sorted c.self.invariant)

pub returns : goal.returns
returns c =
    let new : is_name_at (slice_get c.self.inside.sorted (place c.args.name.now c.self.inside.sorted)) c.args.name.now ≡ false = search rules in
    search (rules, put_new c.args.name.now c.self.inside.sorted new)
