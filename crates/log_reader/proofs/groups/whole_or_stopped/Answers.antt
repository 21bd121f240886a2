use Rattle.std.proofs.Common.{◌≤◌, ◌+◌, sym, arith, subst, length}
use Rattle.log_groups.specs.Growing.{IsSettled}
use Rattle.log_groups.specs.Views.{group_seen}
use Rattle.log_groups.specs.log_model.Groups.{Next}
use Rattle.log_groups.proofs.of_log_group_laws.Lying.{group_lies}
use Rattle.log_reader.proofs.groups.whole_or_stopped.Goals as goal

pub returns-in-Group : goal.returns-in-Group
returns-in-Group c =
    let reads = sym c.in-Group.ensures in
    let lies = group_lies c.args.bytes.now c.args.begin (group_seen c.in-Group.group) reads in
    let low : c.args.begin + length c.args.bytes.now ≤ c.in-Group.group.end = subst (λ (n : Next). IsSettled (c.args.begin + length c.args.bytes.now) n) reads c.requires in
    record { one = group_seen c.in-Group.group; reads = reads; whole = omega (arith, low, lies.within); kind = c.names_next.ensures }
