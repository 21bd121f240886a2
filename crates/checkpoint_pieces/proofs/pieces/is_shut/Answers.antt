use Rattle.std.proofs.Common.{arith}
use Rattle.disk_model.proofs.Quiet.{quiet_look, quiet_trans}
use Rattle.checkpoint_pieces.proofs.Reading.{long_file, short_file}
use Rattle.checkpoint_pieces.proofs.pieces.is_shut.Goals as goal

pub returns-in_err-size-clause-quiet : goal.returns-in_err-size-clause-quiet
returns-in_err-size-clause-quiet g c = quiet_look _ _ _ c.length.ensures.story

pub returns-then-size-lt2-clause-is : goal.returns-then-size-lt2-clause-is
returns-then-size-lt2-clause-is g c = short_file _ c.args.file _ c.in_ok-size.ensures.value c.if-size-lt2.true

pub returns-then-size-lt2-clause-quiet : goal.returns-then-size-lt2-clause-quiet
returns-then-size-lt2-clause-quiet g c = quiet_look _ _ _ c.length.ensures.story

pub returns-in_err-read-clause-quiet : goal.returns-in_err-read-clause-quiet
returns-in_err-read-clause-quiet g c = quiet_trans _ _ _ (quiet_look _ _ _ c.length.ensures.story) (quiet_look _ _ _ c.read.ensures.story)

pub returns-clause-quiet : goal.returns-clause-quiet
returns-clause-quiet g c = quiet_trans _ _ _ (quiet_look _ _ _ c.length.ensures.story) (quiet_look _ _ _ c.read.ensures.story)

pub returns-clause-is : goal.returns-clause-is
returns-clause-is g c =
    long_file _ _ c.args.file _ _ _ (quiet_look _ _ _ c.length.ensures.story) c.in_ok-size.ensures.value c.if-size-lt2.false c.in_ok-read.ensures.value (omega arith)
