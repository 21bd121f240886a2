use Rattle.std.proofs.Common.{rules, ◌<◌, ◌≤◌}
use Rattle.std.specs.Prelude.{IfSome}
use Rattle.std.specs.Int.{w64, cast_unsigned}
use Rattle.std.specs.Option.{option_map}
use Rattle.std.proofs.lemmas.Bool.{OnTrue_at, OnTrue_from}
use Rattle.log_entry_laws.specs.Ids.{HasIds, IsId}
use Rattle.binlog_items.proofs.Forms.{text_forms}
use Rattle.binlog_items.proofs.texts.can_carry_text.Goals as goal

pub returns-then-are_seeds : goal.returns-then-are_seeds
returns-then-are_seeds c =
    let last_id : IfSome (option_map (cast_unsigned w64) c.args.carried.now.last_id) (λ n. n ≤ 9223372036854775807) = search rules in
    let first : IfSome (option_map (cast_unsigned w64) c.args.carried.now.first) (λ n. n ≤ 9223372036854775807) = search rules in
    let seeds : IfSome c.args.carried.now.seeds (λ s. (s.0 < 1073741823) × (s.1 < 1073741823)) = search rules in
    let last_is : IfSome c.args.carried.now.last_id IsId = search rules in
    let first_is : IfSome c.args.carried.now.first IsId = search rules in
    let ids : HasIds c.args.carried.now = record { last_id = last_is; first = first_is } in
    OnTrue_from c.are_steps.result _ (λ yes. (
      text_forms c.args.text.now c.args.carried.now c.have_words.ensures.second last_id first seeds c.have_widths.ensures (OnTrue_at yes c.are_steps.ensures),
      ids,
    ))
