use Rattle.std.proofs.Common.{◌≡◌, ◌<◌, ◌≤◌, length, arith}
use Rattle.std.proofs.Math.ListN.{length-set}
use Rattle.row_store.proofs.Shelved.{whole}
use Rattle.row_store.proofs.Setting.{starts, goes_on}
use Rattle.row_store.proofs.Asides.{IsBare, bare_store, bare_names}
use Rattle.row_store.proofs.tables.Tables.forget.Goals as goal

pub loop-i-init : goal.loop-i-init
loop-i-init c =
    let long : length c.self.inside.shelves.items ≡ c.len-i-end.result = omega (arith, c.self.inside.shelves.ok) in
    record { long = long; bare = starts IsBare c.self.inside.shelves.items c.args.self.now c.self.view_is c.self.invariant }

pub loop-i-preserved : goal.loop-i-preserved
loop-i-preserved c =
    let within : c.loop-i.i < length c.loop-i.self-inside.shelves.items = omega (arith, c.loop-i.invariant.long) in
    record {
      long = simp length-set c.loop-i.invariant.long;
      bare = goes_on IsBare c.args.self.now c.loop-i.i c.loop-i.self-inside.shelves.items c.index_mut.result.now c.forget.new.self c.index_mut.ensures.value within c.forget.ensures c.loop-i.invariant.bare;
    }

pub invariant_of-self : goal.invariant_of-self
invariant_of-self c =
    let past : length c.loop-i.self-inside.shelves.items ≤ c.loop-i.i = omega (arith, c.loop-i.invariant.long) in
    bare_names c.args.self.now c.loop-i.i c.loop-i.self-inside.shelves.items past c.loop-i.invariant.bare

pub returns-clause-is : goal.returns-clause-is
returns-clause-is c =
    let past : length c.loop-i.self-inside.shelves.items ≤ c.loop-i.i = omega (arith, c.loop-i.invariant.long) in
    bare_store c.args.self.now c.loop-i.i c.loop-i.self-inside.shelves.items past c.loop-i.invariant.bare

pub returns-clause-whole : goal.returns-clause-whole
returns-clause-whole c =
    let past : length c.loop-i.self-inside.shelves.items ≤ c.loop-i.i = omega (arith, c.loop-i.invariant.long) in
    whole c.loop-i.self-inside.shelves.items (bare_names c.args.self.now c.loop-i.i c.loop-i.self-inside.shelves.items past c.loop-i.invariant.bare)
