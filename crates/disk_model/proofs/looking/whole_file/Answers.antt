use Rattle.std.proofs.Common.{arith, ◌∙◌}
use Rattle.disk_model.proofs.Quiet.{quiet_look, quiet_trans, file_bytes}
use Rattle.disk_model.proofs.looking.whole_file.Goals as goal

pub returns-in_err-size-clause-quiet : goal.returns-in_err-size-clause-quiet
returns-in_err-size-clause-quiet g c = quiet_look _ _ _ c.length.ensures.story

pub returns-in_err-bytes-clause-quiet : goal.returns-in_err-bytes-clause-quiet
returns-in_err-bytes-clause-quiet g c = quiet_look _ _ _ c.length.ensures.story

pub returns-in_err-count-clause-quiet : goal.returns-in_err-count-clause-quiet
returns-in_err-count-clause-quiet g c = quiet_trans _ _ _ (quiet_look _ _ _ c.length.ensures.story) (quiet_look _ _ _ c.read.ensures.story)

pub returns-clause-bytes : goal.returns-clause-bytes
returns-clause-bytes g c =
    file_bytes _ _ _ _ _ _ _ _ _ (quiet_look _ _ _ c.length.ensures.story) c.in_ok-size.ensures.value c.in_ok-count.ensures.value (omega arith) c.in_ok-bytes.ensures.len (c.from_vec.ensures ∙ c.truncate.ensures.items)

pub returns-clause-quiet : goal.returns-clause-quiet
returns-clause-quiet g c = quiet_trans _ _ _ (quiet_look _ _ _ c.length.ensures.story) (quiet_look _ _ _ c.read.ensures.story)
