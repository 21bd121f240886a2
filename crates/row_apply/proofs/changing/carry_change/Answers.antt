use Rattle.std.proofs.Common.{◌≡◌, None, rules}
use Rattle.event_codec.specs.Event.{map_of}
use Rattle.row_apply.specs.Changes.{table_code}
use Rattle.row_apply.proofs.Making.{takes_there}
use Rattle.row_apply.proofs.changing.carry_change.Goals as goal

pub make-requires : goal.make-requires
make-requires c =
    let takes : table_code (map_of c.args.map.now) c.args.work.now.tables c.args.change ≡ None = search rules in
    takes_there (map_of c.args.map.now) c.args.change c.args.work.now.tables takes
