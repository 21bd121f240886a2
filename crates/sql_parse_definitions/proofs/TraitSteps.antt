-- The steps of reading traits.
use Rattle.std.proofs.Common.{◌≡◌, ℕ, ◌+◌, ◌-◌, ◌<◌, ◌≤◌, true, false, List, Ok, refl}
use Rattle.sql_grammar.specs.Reader.{Reader, Read, steps}
use Rattle.sql_grammar.specs.Sets.{next_in}
use Rattle.sql_parse_tokens.specs.declared.fault.Stop.{Stop}
use Rattle.sql_parse_tokens.specs.Gives.{Fails}
use Rattle.sql_syntax.specs.Programs.{trait', trait_words}
use Rattle.sql_syntax.specs.Tokens.{Tok, kind}
use Rattle.sql_parse_tokens.proofs.Reading.{steps_stop, steps_end, step_goes, step_fails, fails_made}

abbrev dropped : Unit {0} → Unit {0} → Unit {0}
dropped u v = tt

abbrev one_trait : Unit {0} → Reader Tok (Unit {0})
one_trait u = trait'.read

-- traits in so many turns
abbrev pub more_traits : ℕ → Reader Tok (Unit {0})
more_traits n ts = steps dropped (next_in kind trait_words) one_trait n (tt {0}) ts

pub traits_stop : (n : ℕ) (ts : List Tok) → next_in kind trait_words ts ≡ false → more_traits n ts ≡ Ok (tt {0}, ts)
traits_stop n ts e = steps_stop dropped (next_in kind trait_words) one_trait n tt ts e

pub traits_end : (n at : ℕ) (ts : List Tok) → n ≤ at → more_traits (n - at) ts ≡ Ok (tt {0}, ts)
traits_end n at ts h = steps_end dropped (next_in kind trait_words) one_trait n at tt ts h

pub traits_go : (n at : ℕ) (ts us : List Tok) (whole : Read Tok (Unit {0})) → at < n → true ≡ next_in kind trait_words ts → more_traits (n - at) ts ≡ whole
    → trait'.read ts ≡ Ok (tt {0}, us) → more_traits (n - (at + 1)) us ≡ whole
traits_go n at ts us whole h e inv read = step_goes dropped (next_in kind trait_words) one_trait n at tt tt ts us whole h e (rw read refl) inv

pub traits_fail : (n at : ℕ) (ts : List Tok) (whole : Read Tok (Unit {0})) (stop : Stop) → at < n → true ≡ next_in kind trait_words ts → more_traits (n - at) ts ≡ whole
    → Fails stop (trait'.read ts) → Fails stop whole
traits_fail n at ts whole stop h e inv fail = step_fails dropped (next_in kind trait_words) one_trait n at tt ts whole stop h e (fails_made stop (trait'.read ts) (λ y. (tt {0}, y.1)) fail) inv
