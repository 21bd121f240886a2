use Rattle.std.proofs.Common.{◌≡◌, ℕ, ◌<◌, ◌^◌, true, refl}
use Rattle.std.specs.Fmt.{decimal}
use Rattle.log_print.proofs.Digits.{digits_by_steps, is_short, written}
use Rattle.byte_fields.specs.Field.{number_at, number_bytes}
use Rattle.byte_fields.specs.Unroll.{all_from}
use Rattle.event_codec.specs.Bodies.{step_at, query_body, xid_body, format_description_body}
use Rattle.event_codec.specs.Parts.{text}
use Rattle.event_codec.specs.Reading.{reading}
use Rattle.event_codec.specs.Writing.{event_bytes, header_bytes, size, query_bytes, format_description_bytes, layout_bytes}
use Rattle.log_group_laws.specs.log_model.Events.{walk}
use Rattle.log_group_laws.specs.log_model.Groups.{group_at}
use Rattle.log_group_laws.specs.log_model.Worked.{first_log}
use Rattle.log_file_model.specs.Walk.{grouped}
use Rattle.log_file_model.proofs.worked.first_log_by_hand.Goals as goal

-- a number of at most ten digits
of : (n : ℕ) → n < 2 ^ 64 → is_short 9 n ≡ true → decimal n ≡ written 9 n
of = digits_by_steps 9

pub returns-clause-cut : goal.returns-clause-cut
unfolding number_at number_bytes all_from step_at query_body xid_body format_description_body text reading event_bytes header_bytes size query_bytes format_description_bytes layout_bytes walk group_at first_log grouped
returns-clause-cut c = refl

pub returns-clause-before : goal.returns-clause-before
unfolding number_at number_bytes all_from step_at query_body xid_body format_description_body text reading event_bytes header_bytes size query_bytes format_description_bytes layout_bytes walk group_at first_log grouped
returns-clause-before c = refl
