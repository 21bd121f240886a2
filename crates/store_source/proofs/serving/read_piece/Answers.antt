use Rattle.std.proofs.Common.{arith, ◌∙◌}
use Rattle.disk_model.proofs.Quiet.{quiet_none, quiet_look}
use Rattle.store_source.proofs.Served.{piece_read}
use Rattle.store_source.proofs.serving.read_piece.Goals as goal

pub returns-in_err-bytes-clause-quiet : goal.returns-in_err-bytes-clause-quiet
returns-in_err-bytes-clause-quiet g c = quiet_none _

pub returns-in_err-read-clause-quiet : goal.returns-in_err-read-clause-quiet
returns-in_err-read-clause-quiet g c = quiet_look _ _ _ c.read.ensures.story

pub returns-clause-bytes : goal.returns-clause-bytes
returns-clause-bytes g c = piece_read _ _ _ _ _ _ _ _ _ c.in_ok-read.ensures.value (omega arith) c.in_ok-bytes.ensures.len (c.from_vec.ensures ∙ c.truncate.ensures.items)

pub returns-clause-quiet : goal.returns-clause-quiet
returns-clause-quiet g c = quiet_look _ _ _ c.read.ensures.story
