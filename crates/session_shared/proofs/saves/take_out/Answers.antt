use Rattle.std.proofs.Common.{rules, not}
use Rattle.std.proofs.lemmas.Fn.{filter_same}
use Rattle.session_model.specs.Sessions.{Save}
use Rattle.session_model.specs.Commands.{is_save_of}
use Rattle.session_shared.proofs.saves.take_out.Goals as goal

pub returns-clause-left : goal.returns-clause-left
returns-clause-left c = filter_same _ (λ (s : Save). not (is_save_of c.args.name.now s)) _ (λ x b f' k. search rules) _ _ c.retain.ensures.filtered
