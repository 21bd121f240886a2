use Rattle.std.proofs.Common.{◌≡◌, ◌<◌, ◌≤◌, length, arith}
use Rattle.std.proofs.Math.ListN.{length-set}
use Rattle.row_store.proofs.Shelved.{whole}
use Rattle.row_store.proofs.Setting.{starts, goes_on}
use Rattle.row_store.proofs.Staying.{IsTidied, tidied_tables, tidied_rows, tidied_names}
use Rattle.row_store.proofs.tables.Tables.tidy.Goals as goal

pub loop-i-init : goal.loop-i-init
loop-i-init c =
    let long : length c.self.inside.shelves.items ≡ c.len-i-end.result = omega (arith, c.self.inside.shelves.ok) in
    record { long = long; tidied = starts IsTidied c.self.inside.shelves.items c.args.self.now c.self.view_is c.self.invariant }

pub loop-i-preserved : goal.loop-i-preserved
loop-i-preserved c =
    let within : c.loop-i.i < length c.loop-i.self-inside.shelves.items = omega (arith, c.loop-i.invariant.long) in
    record {
      long = simp length-set c.loop-i.invariant.long;
      tidied = goes_on IsTidied c.args.self.now c.loop-i.i c.loop-i.self-inside.shelves.items c.index_mut.result.now c.tidy.new.self c.index_mut.ensures.value within (c.tidy.ensures.definition, c.tidy.ensures.rows, c.tidy.ensures.committed) c.loop-i.invariant.tidied;
    }

pub invariant_of-self : goal.invariant_of-self
invariant_of-self c =
    let past : length c.loop-i.self-inside.shelves.items ≤ c.loop-i.i = omega (arith, c.loop-i.invariant.long) in
    tidied_names c.args.self.now c.loop-i.i c.loop-i.self-inside.shelves.items past c.loop-i.invariant.tidied

pub returns-clause-tables : goal.returns-clause-tables
returns-clause-tables c =
    let past : length c.loop-i.self-inside.shelves.items ≤ c.loop-i.i = omega (arith, c.loop-i.invariant.long) in
    tidied_tables c.args.self.now c.loop-i.i c.loop-i.self-inside.shelves.items past c.loop-i.invariant.tidied

pub returns-clause-committed : goal.returns-clause-committed
returns-clause-committed c =
    let past : length c.loop-i.self-inside.shelves.items ≤ c.loop-i.i = omega (arith, c.loop-i.invariant.long) in
    tidied_rows c.args.self.now c.loop-i.i c.loop-i.self-inside.shelves.items past c.loop-i.invariant.tidied

pub returns-clause-whole : goal.returns-clause-whole
returns-clause-whole c =
    let past : length c.loop-i.self-inside.shelves.items ≤ c.loop-i.i = omega (arith, c.loop-i.invariant.long) in
    whole c.loop-i.self-inside.shelves.items (tidied_names c.args.self.now c.loop-i.i c.loop-i.self-inside.shelves.items past c.loop-i.invariant.tidied)
