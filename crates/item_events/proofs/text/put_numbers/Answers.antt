use Rattle.std.proofs.Common.{List, ◌++◌, refl}
use Rattle.std.specs.Option.{option_map}
use Rattle.std.specs.Int.{w64, cast_unsigned}
use Rattle.event_codec.specs.declared.event.IntVarKind.TheVariants.{LastInsertId, InsertId}
use Rattle.event_codec.specs.Event.{Body, int_var, rand}
use Rattle.item_events.specs.Parts.{if_some, numbers}
use Rattle.item_events.proofs.Texting.{begin, part_goes, last}
use Rattle.item_events.proofs.text.put_numbers.Goals as goal

pub returns-clause-ok : goal.returns-clause-ok
returns-clause-ok c =
    let a : List Body = if_some (int_var LastInsertId) (option_map (cast_unsigned w64) c.args.carried.now.last_id) in
    let b : List Body = if_some (int_var InsertId) (option_map (cast_unsigned w64) c.args.carried.now.first) in
    let d : List Body = if_some (λ s. rand s.0 s.1) c.args.carried.now.seeds in
    let all : List Body = numbers c.args.carried.now in
    let first = part_goes all c.args.h c.args.out.now all a (b ++ d) c.args.h c.in_ok-here.here c.args.out.now c.put_int_var.new.out refl (begin all c.args.h c.args.out.now c.requires) c.in_ok-here.ensures.ok in
    let second = part_goes all c.args.h c.args.out.now (b ++ d) b d c.in_ok-here.here c.in_ok-here-2.here c.put_int_var.new.out c.put_int_var-2.new.out refl first c.in_ok-here-2.ensures.ok in
    last all c.args.h c.args.out.now d c.in_ok-here-2.here c.put_int_var-2.new.out c.put_seeds.new.out c.put_seeds.result second c.put_seeds.ensures.ok
