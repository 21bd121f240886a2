-- Steps behind a value, turn by turn.
use Rattle.std.proofs.Common.{◌≡◌, ◌∙◌, ℕ, ◌+◌, ◌-◌, ◌<◌, ◌≤◌, Bool, true, false, List, length, Option, Ok, refl, sym, arith}
use Rattle.sql_grammar.specs.Reader.{Reader, Read, steps, read_chain}
use Rattle.sql_syntax.specs.Tokens.{Tok}
use Rattle.sql_parse_tokens.specs.Gives.{Fails}
use Rattle.sql_parse_nodes.specs.Kept.{IsKept, Keeps}
use Rattle.sql_parse_tokens.specs.declared.fault.Stop.{Stop}
use Rattle.sql_parse_nodes.specs.declared.kept.Levelled.{Levelled}
use Rattle.sql_parse_tokens.proofs.Reading.{fails_behind, one_more, steps_end, steps_stop}

none_yet : (n m : ℕ) → n ≡ m → n - 0 ≡ m
none_yet n m h = omega arith

module _ {X A B : Type 0} (view : X → A) (depth_of : A → ℕ) (f : A → B → A) (test : List Tok → Bool) (s : Reader Tok B) where
  -- What is still to come behind a kept value, in so many turns at most, is all.
  abbrev pub Turns : Read Tok A → ℕ → List Tok → Option (Levelled X) → Type 0
  Turns all n rest k = (a : A) × (steps f test (λ b. s) n a rest ≡ all) × IsKept view depth_of a k

  -- no turn yet
  pub turns_begin : (p : Reader Tok A) (ts rest : List Tok) (k : Option (Levelled X)) (n : ℕ) → Keeps view depth_of (Ok (k, rest)) (p ts) → n ≡ length rest
      → Turns (read_chain f test p (λ b. s) ts) (n - 0) rest k
  turns_begin p ts rest k n h e = (h.0, rw (h.1, none_yet n _ e) refl, h.2)

  module _ (all : Read Tok A) (rest : List Tok) (k : Option (Levelled X)) where
    -- nothing more comes
    pub turns_stop : (n : ℕ) → Turns all n rest k → test rest ≡ false → Keeps view depth_of (Ok (k, rest)) all
    turns_stop n h e = (h.0, sym h.1 ∙ steps_stop f test (λ b. s) n h.0 rest e, h.2)

    -- no turn is left
    pub turns_end : (n at : ℕ) → Turns all (n - at) rest k → n ≤ at → Keeps view depth_of (Ok (k, rest)) all
    turns_end n at h e = (h.0, sym h.1 ∙ steps_end f test (λ b. s) n at h.0 rest e, h.2)

    -- one turn
    pub turns_on : (n at : ℕ) (b : B) (rest' : List Tok) (k' : Option (Levelled X)) → Turns all (n - at) rest k → at < n → test rest ≡ true → s rest ≡ Ok (b, rest')
        → ((a : A) → IsKept view depth_of a k → IsKept view depth_of (f a b) k') → Turns all (n - (at + 1)) rest' k'
    unfolding steps
    turns_on n at b rest' k' h less e step keeps = (f h.0 b, rw (one_more n at less, e, step) at h.1, keeps h.0 h.2)

    -- a turn that fails
    pub turns_fail : (n at : ℕ) (stop : Stop) → Turns all (n - at) rest k → at < n → test rest ≡ true → Fails stop (s rest) → Fails stop all
    unfolding steps
    turns_fail n at stop h less e fails =
        let g = fails_behind stop (s rest) (λ y. steps f test (λ b. s) (n - (at + 1)) (f h.0 y.0) y.1) fails in
        rw (← h.1, one_more n at less, e) g
