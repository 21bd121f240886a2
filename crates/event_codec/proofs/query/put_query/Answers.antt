use Rattle.std.proofs.Common.{rules, append_assoc}
use Rattle.byte_fields.specs.Field.{number_bytes}
use Rattle.event_codec.specs.Writing.{query_bytes}
use Rattle.event_codec.proofs.query.put_query.Goals as goal

pub returns-clause-ok : goal.returns-clause-ok
unfolding query_bytes number_bytes
returns-clause-ok c = search (rules, append_assoc)
