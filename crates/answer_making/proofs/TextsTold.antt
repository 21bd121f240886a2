-- What the parser answers to a text is what the text is.
use Rattle.std.proofs.Common.{◌≡◌, ℕ, List}
use Rattle.sql_tree.specs.Statement.{Statement}
use Rattle.sql_syntax.specs.Texts.{reads}
use Rattle.sql_parse.specs.Answers.{IsCause}
use Rattle.sql_parse.specs.declared.parsing.ParseRefusal.{ParseRefusal}
use Rattle.sql_parse.specs.declared.parsing.ParseRefusal.TheVariants.{Syntax, Deep, NoMemory}
use Rattle.session_model.specs.text_answers.Answers.{IsAnswered, a_statement, text_answer}
use Rattle.answer_making.specs.ReadTexts.{IsRefusedText}

pub is_statement : (text : List ℕ) → IsAnswered text → (s : Statement) → reads text s → text_answer text ≡ a_statement s
is_statement text a s read = (a.statement s).0 read

pub is_refused : (text : List ℕ) → IsAnswered text → (e : ParseRefusal) → IsCause text e → IsRefusedText (text_answer text) e
is_refused text a (Syntax at) cause = (a.refused at).0 cause
is_refused text a Deep cause = a.deep.0 cause
is_refused text a NoMemory cause = tt
