use Rattle.std.proofs.Common.{◌∙◌, sym}
use Rattle.std.proofs.lemmas.Result.{IfOk-weaker}
use Rattle.program_words.proofs.Parses.{found_asked, refused_asked}
use Rattle.program_words.proofs.words.asked_word.Goals as goal

pub returns-in-Ok : goal.returns-in-Ok
returns-in-Ok c = c.found.ensures ∙ found_asked _ _ c.in-Ok.matches c.in_ok-positional_words.ensures c.in-Ok.ensures.kinds c.in-Ok.ensures.matches

pub returns-in-Err : goal.returns-in-Err
returns-in-Err c =
    IfOk-weaker c.refused.result _ _ (λ asked told. told.0 ∙ sym (refused_asked _ _ c.in-Err.error c.in_ok-positional_words.ensures c.in-Err.ensures.kinds told.1)) c.refused.ensures
