use Rattle.std.proofs.Common.{arith}
use Rattle.std.specs.Option.{option_map}
use Rattle.std.specs.Int.{w64, cast_unsigned}
use Rattle.event_codec.specs.declared.event.IntVarKind.TheVariants.{LastInsertId, InsertId}
use Rattle.event_codec.specs.Event.{int_var, rand}
use Rattle.item_events.specs.Parts.{if_some}
use Rattle.item_events.proofs.Measuring.{numbers_sum}
use Rattle.item_events.proofs.sizes.numbers_size.Goals as goal

pub returns : goal.returns
returns c =
    let sum = numbers_sum (if_some (int_var LastInsertId) (option_map (cast_unsigned w64) c.args.carried.now.last_id)) (if_some (int_var InsertId) (option_map (cast_unsigned w64) c.args.carried.now.first))
    (if_some (λ s. rand s.0 s.1) c.args.carried.now.seeds) in
    omega (arith, sum, c.int_var_size.ensures.exact LastInsertId, c.int_var_size-2.ensures.exact InsertId, c.seeds_size.ensures.exact)
