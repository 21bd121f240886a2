use Rattle.std.proofs.Common.{refl}
use Rattle.byte_fields.specs.Field.{number_at, number_bytes}
use Rattle.byte_fields.specs.Unroll.{all_from}
use Rattle.event_codec.specs.Bodies.{step_at, query_body, xid_body, format_description_body}
use Rattle.event_codec.specs.Parts.{text}
use Rattle.event_codec.specs.Reading.{reading}
use Rattle.event_codec.specs.Writing.{event_bytes, header_bytes, size, query_bytes, format_description_bytes, layout_bytes}
use Rattle.log_group_laws.specs.log_model.Events.{walk}
use Rattle.log_group_laws.specs.log_model.Groups.{group_at}
use Rattle.log_group_laws.specs.log_model.Worked.{first_log}
use Rattle.log_file_model.specs.Walk.{grouped_from}
use Rattle.log_file_model.proofs.worked.positions_by_hand.Goals as goal

pub returns-clause-one : goal.returns-clause-one
unfolding number_at number_bytes all_from step_at query_body xid_body format_description_body text reading event_bytes header_bytes size query_bytes format_description_bytes layout_bytes walk group_at grouped_from first_log
returns-clause-one c = refl

pub returns-clause-whole : goal.returns-clause-whole
unfolding number_at number_bytes all_from step_at query_body xid_body format_description_body text reading event_bytes header_bytes size query_bytes format_description_bytes layout_bytes walk group_at grouped_from first_log
returns-clause-whole c = refl

pub returns-clause-short : goal.returns-clause-short
unfolding number_at number_bytes all_from step_at query_body xid_body format_description_body text reading event_bytes header_bytes size query_bytes format_description_bytes layout_bytes walk group_at grouped_from first_log
returns-clause-short c = refl

pub returns-clause-within : goal.returns-clause-within
unfolding number_at number_bytes all_from step_at query_body xid_body format_description_body text reading event_bytes header_bytes size query_bytes format_description_bytes layout_bytes walk group_at grouped_from first_log
returns-clause-within c = refl

pub returns-clause-other : goal.returns-clause-other
unfolding number_at number_bytes all_from step_at query_body xid_body format_description_body text reading event_bytes header_bytes size query_bytes format_description_bytes layout_bytes walk group_at grouped_from first_log
returns-clause-other c = refl

pub returns-clause-alone : goal.returns-clause-alone
unfolding number_at number_bytes all_from step_at query_body xid_body format_description_body text reading event_bytes header_bytes size query_bytes format_description_bytes layout_bytes walk group_at grouped_from first_log
returns-clause-alone c = refl
