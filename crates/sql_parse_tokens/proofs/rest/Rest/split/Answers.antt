use Rattle.sql_parse_tokens.proofs.Lexemes.{split_seen}
use Rattle.sql_parse_tokens.proofs.rest.Rest.split.Goals as goal

pub returns : goal.returns
returns c =
    rw (c.kind.ensures, c.new-word.ensures, c.new.ensures, ← c.self.view_is) (split_seen c.self.inside.text.now _ _ _ c.in_ok-first.ensures.cases.0)
