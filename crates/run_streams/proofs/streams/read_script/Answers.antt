use Rattle.run_streams.proofs.Reading.{script_read, where_split}
use Rattle.run_streams.proofs.streams.read_script.Goals as goal

pub returns-clause-read : goal.returns-clause-read
returns-clause-read g c = script_read c.in_ok-script.script _ _ c.in_ok-script.ensures.joined c.in_ok-script.ensures.size c.in_ok-script.ensures.end

pub returns-clause-at_end : goal.returns-clause-at_end
returns-clause-at_end g c = where_split _ c.in_ok-script.script c.in_ok-script.ensures.at_end
