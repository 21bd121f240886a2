-- What a function that reads ensures: that it gives what the rule reads, unless memory runs out.
use Rattle.std.specs.Prelude.{◌≡◌, List, Result, Ok, Err}
use Rattle.sql_grammar.specs.Reader.{Read, Syntax, Deep}
use Rattle.sql_syntax.specs.Tokens.{Tok}
use Rattle.sql_parse_tokens.specs.declared.fault.Stop.{Stop}
use Rattle.sql_parse_tokens.specs.declared.fault.Stop.TheVariants as stops

-- the same fault, or want of memory
abbrev pub Fails : {A : Type 0} → Stop → Read Tok A → Type 0
Fails (stops.Syntax rest) read = read ≡ Err (Syntax rest)
Fails (stops.Deep rest) read = read ≡ Err (Deep rest)
Fails stops.NoMemory read = Unit {0}

-- the same value, as it is seen, with the same tokens left, or the same fault
abbrev pub Gives : {X A : Type 0} → (X → A) → Result (X × List Tok) Stop → Read Tok A → Type 0
Gives view (Ok r) read = read ≡ Ok (view r.0, r.1)
Gives view (Err stop) read = Fails stop read
