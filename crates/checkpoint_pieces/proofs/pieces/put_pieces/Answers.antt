use Rattle.std.proofs.Common.{ℕ, sym, subst}
use Rattle.disk_model.specs.Story.{seen}
use Rattle.disk_model.specs.Moments.{Only}
use Rattle.checkpoint_pieces.proofs.Both.{ok_one, ok_two, only_other}
use Rattle.checkpoint_pieces.proofs.Putting.{all_durable, apart, first_exit, last_exit, newest, second_exit, still_shut, third_exit}
use Rattle.checkpoint_pieces.proofs.pieces.put_pieces.Goals as goal

pub close_gate-requires : goal.close_gate-requires
close_gate-requires g c = record { durable = subst (λ (x : ℕ). Only (g.D.Disk.told c.args.d.now) x (seen (g.D.Disk.told c.args.d.now) x)) (sym c.snapshot_file-file.ensures) c.requires.snapshot }

pub close_journal-requires : goal.close_journal-requires
close_journal-requires g c = record {
  durable = only_other _ _ _ _ _ c.close_gate.ensures.steps (λ e. apart c.args.next _ _ c.snapshot_file-file.ensures c.journal_file-journal.ensures (sym e))
      (subst (λ (x : ℕ). Only (g.D.Disk.told c.args.d.now) x (seen (g.D.Disk.told c.args.d.now) x)) (sym c.journal_file-journal.ensures) c.requires.journal);
}

pub write_body-requires-clause-durable : goal.write_body-requires-clause-durable
write_body-requires-clause-durable g c = only_other _ _ _ _ _ c.close_journal.ensures.puts (apart c.args.next _ _ c.snapshot_file-file.ensures c.journal_file-journal.ensures) c.in_ok-close_gate.ensures.durable

pub write_body-requires-clause-within : goal.write_body-requires-clause-within
write_body-requires-clause-within g c = still_shut _ _ _ _ _ _ c.close_gate.ensures.steps.on (apart c.args.next _ _ c.snapshot_file-file.ensures c.journal_file-journal.ensures) c.in_ok-close_gate.ensures.shut c.close_journal.ensures.puts

pub returns-in_err-close_gate-clause-images : goal.returns-in_err-close_gate-clause-images
returns-in_err-close_gate-clause-images g c kind generation held next_is work =
    first_exit kind generation held c.args.next c.args.framed.now _ _ next_is c.snapshot_file-file.ensures c.journal_file-journal.ensures _ work _ c.close_gate.ensures.steps

pub returns-in_err-close_journal-clause-images : goal.returns-in_err-close_journal-clause-images
returns-in_err-close_journal-clause-images g c kind generation held next_is work =
    second_exit kind generation held c.args.next c.args.framed.now _ _ next_is c.snapshot_file-file.ensures c.journal_file-journal.ensures _ work
    _ c.close_gate.ensures.steps c.in_ok-close_gate.ensures.durable c.in_ok-close_gate.ensures.shut _ c.close_journal.ensures.puts

pub returns-in_err-write_body-clause-images : goal.returns-in_err-write_body-clause-images
returns-in_err-write_body-clause-images g c kind generation held next_is work =
    third_exit kind generation held c.args.next c.args.framed.now _ _ next_is c.snapshot_file-file.ensures c.journal_file-journal.ensures _ work
    _ c.close_gate.ensures.steps c.in_ok-close_gate.ensures.durable c.in_ok-close_gate.ensures.shut
    _ c.close_journal.ensures.puts c.in_ok-close_journal.ensures.durable c.in_ok-close_journal.ensures.reads _ c.write_body.ensures.puts

pub returns-clause-images : goal.returns-clause-images
returns-clause-images g c kind generation held next_is work =
    last_exit kind generation held c.args.next c.args.framed.now _ _ next_is c.snapshot_file-file.ensures c.journal_file-journal.ensures _ work
    _ c.close_gate.ensures.steps c.in_ok-close_gate.ensures.durable c.in_ok-close_gate.ensures.shut
    _ c.close_journal.ensures.puts c.in_ok-close_journal.ensures.durable c.in_ok-close_journal.ensures.reads
    _ c.write_body.ensures.puts c.in_ok-write_body.ensures.durable c.in_ok-write_body.ensures.reads _ c.open_gate.ensures.puts

pub returns-clause-newest : goal.returns-clause-newest
returns-clause-newest g c kind generation held next_is work = ok_two c.open_gate.result c.open_gate.ensures.durable c.open_gate.ensures.reads (λ only reads.
    newest kind generation held c.args.next c.args.framed.now _ _ next_is c.snapshot_file-file.ensures c.journal_file-journal.ensures _ work
    _ c.close_gate.ensures.steps c.in_ok-close_gate.ensures.durable c.in_ok-close_gate.ensures.shut
    _ c.close_journal.ensures.puts c.in_ok-close_journal.ensures.durable c.in_ok-close_journal.ensures.reads
    _ c.write_body.ensures.puts c.in_ok-write_body.ensures.durable c.in_ok-write_body.ensures.reads _ c.open_gate.ensures.puts only reads)

pub returns-clause-durable : goal.returns-clause-durable
returns-clause-durable g c kind durable = ok_one c.open_gate.result c.open_gate.ensures.durable (λ only.
    all_durable kind _ _ _ _ _ _ _ _ _ _ _ durable c.close_gate.ensures.steps c.in_ok-close_gate.ensures.durable c.close_journal.ensures.puts c.in_ok-close_journal.ensures.durable
    c.write_body.ensures.puts c.in_ok-write_body.ensures.durable c.open_gate.ensures.puts only)
