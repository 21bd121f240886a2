-- Built-ins: what stands behind their names.
use Rattle.std.proofs.Common.{◌≡◌, ℕ, pred, List, [], ◌∷◌, true, false, Some, Option, Result, Ok, Err, refl}
use Rattle.sql_lex.specs.declared.token.Symbol.TheVariants as signs
use Rattle.sql_grammar.specs.Reader.{Read, bind}
use Rattle.sql_grammar.specs.Rule.{Rule, token, mapped}
use Rattle.sql_grammar.specs.Sets.{next_in}
use Rattle.sql_tree.specs.Tree.{Tree}
use Rattle.sql_tree.specs.View.{view_tree}
use Rattle.sql_tree.specs.Depth.{depth_of_tree}
use Rattle.sql_tree.specs.declared.expressions.Expr.{Expr}
use Rattle.sql_syntax.specs.Tokens.{Tok, kind, sign_code}
use Rattle.sql_syntax.specs.Parts.{opening}
use Rattle.sql_parse_nodes.specs.Kept.{Keeps}
use Rattle.sql_syntax.specs.Expressions.{Tail, with_tail, with_arguments, built, built_or_named, named, column_tail}
use Rattle.sql_parse_tokens.specs.declared.fault.Stop.{Stop}
use Rattle.sql_parse_nodes.specs.declared.kept.Levelled.{Levelled}
use Rattle.sql_parse_nodes.proofs.Openings.{opened_as}

module _ {A : Type 0} (set : List ℕ) (make : Tok → A → Tree) where
  tail_as : (t : Tok) (q : Read Tok Tail) → bind (bind q (λ z. Ok (with_tail z.0, z.1))) (λ y. Ok (built make t y.0, y.1)) ≡ bind q (λ z. Ok (named t z.0, z.1))
  tail_as t (Ok y) = refl
  tail_as t (Err e) = refl

  -- the name of a built-in that no parenthesis follows
  pub keeps_tail : (n : ℕ) (r : Rule Tok A) (result : Result (Option (Levelled Expr) × List Tok) Stop) (ts us : List Tok) (t : Tok)
      → (token kind set (λ t. Some t)).read ts ≡ Ok (t, us) → false ≡ next_in kind (sign_code signs.Open ∷ []) us → Keeps view_tree depth_of_tree result ((mapped (named t) column_tail).read us)
      → Keeps view_tree depth_of_tree result ((built_or_named set make n r).read ts)
  keeps_tail n r result ts us t e f h = rw (e, ← f, tail_as t (column_tail.read us)) h

  call_as : (t : Tok) (q : Read Tok A)
      → bind (bind (bind q (λ y. Ok (y.0, y.1))) (λ z. Ok (with_arguments z.0, z.1))) (λ y. Ok (built make t y.0, y.1)) ≡ bind q (λ z. Ok (make t z.0, z.1))
  call_as t (Ok y) = refl
  call_as t (Err e) = refl

  -- a built-in with what stands in its parentheses
  pub called_as : (n m : ℕ) (r : ℕ → Rule Tok A) (ts us ws : List Tok) (t : Tok)
      → (token kind set (λ t. Some t)).read ts ≡ Ok (t, us) → true ≡ next_in kind (sign_code signs.Open ∷ []) us → (opening n (sign_code signs.Open)).read us ≡ Ok (m, ws)
      → (built_or_named set make n (r (pred n))).read ts ≡ bind ((r m).read ws) (λ z. Ok (make t z.0, z.1))
  called_as n m r ts us ws t e f o = rw (e, ← f, opened_as n (sign_code signs.Open) (λ a. a) r us, o) (call_as t ((r m).read ws))
