use Rattle.std.proofs.Common.{refl}
use Rattle.byte_fields.specs.Field.{number_at, number_bytes}
use Rattle.byte_fields.specs.Unroll.{all_from}
use Rattle.event_codec.specs.Bodies.{step_at, query_body, xid_body, rotate_body, format_description_body}
use Rattle.event_codec.specs.Parts.{text}
use Rattle.event_codec.specs.Reading.{reading}
use Rattle.event_codec.specs.Writing.{event_bytes, header_bytes, size, query_bytes, rotate_bytes, format_description_bytes, layout_bytes}
use Rattle.log_group_laws.specs.log_model.Events.{walk}
use Rattle.log_group_laws.specs.log_model.Groups.{group_at}
use Rattle.log_group_laws.specs.log_model.Worked.{first_log}
use Rattle.log_file_model.specs.Walk.{grouped}
use Rattle.log_file_model.specs.Worked.{rotated, with_unknown}
use Rattle.event_codec.specs.LogName.{log_number, log_name}
use Rattle.log_file_model.proofs.worked.stops_by_hand.Goals as goal

pub returns-clause-whole : goal.returns-clause-whole
unfolding number_at number_bytes all_from step_at query_body xid_body rotate_body format_description_body text log_number log_name reading event_bytes header_bytes size query_bytes rotate_bytes format_description_bytes layout_bytes walk group_at grouped rotated
returns-clause-whole c = refl

pub returns-clause-behind : goal.returns-clause-behind
unfolding number_at number_bytes all_from step_at query_body xid_body rotate_body format_description_body text log_number log_name reading event_bytes header_bytes size query_bytes rotate_bytes format_description_bytes layout_bytes walk group_at grouped rotated
returns-clause-behind c = refl

pub returns-clause-unknown : goal.returns-clause-unknown
unfolding number_at number_bytes all_from step_at query_body xid_body rotate_body format_description_body text log_number log_name reading event_bytes header_bytes size query_bytes rotate_bytes format_description_bytes layout_bytes walk group_at grouped first_log with_unknown
returns-clause-unknown c = refl
