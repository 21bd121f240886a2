use Rattle.run_laws.proofs.Replaying.{Reads, log_is_its_entries}
use Rattle.run_laws.proofs.laws.log_is_its_entries.Goals as goal

pub returns : goal.returns
returns c =
    let reads : Reads = record {
      have = c.entries_have_length.ensures;
      heads = c.heads_have_length.ensures;
      bounds = c.groups_have_bounds.ensures;
      start = c.start_is_read.ensures;
      entry = c.entry_is_read.ensures;
      magic_passed = c.magic_is_passed.ensures;
      group_passed = c.group_is_passed.ensures;
      end_seen = c.end_is_seen.ensures;
    } in
    log_is_its_entries reads
