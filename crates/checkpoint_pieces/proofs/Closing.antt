-- The gate of a snapshot's file is closed where it has to be.
use Rattle.std.proofs.Common.{◌≡◌, inl, inr, ℕ, Bool, true, false, [], ◌∷◌, Option, refl, sym, ◌∙◌, ap, subst}
use Rattle.std.specs.Prelude.{IfSome, not}
use Rattle.disk_model.specs.Story.{Story, overwritten, seen}
use Rattle.disk_model.specs.Moments.{Only}
use Rattle.disk_model.specs.Claims.{Puts, Quietly, Steps}
use Rattle.disk_model.specs.Torn.{Torn}
use Rattle.disk_model.proofs.Laws.{if_all}
use Rattle.checkpoint_model.specs.Pieces.{is_to_close}
use Rattle.checkpoint_model.specs.Moments.{IsShut}
use Rattle.checkpoint_model.proofs.Gates.{shut_already, shut_put}
use Rattle.checkpoint_pieces.specs.Working.{IsClosing}
use Rattle.checkpoint_pieces.proofs.Both.{if_back, if_map, quiet_is_steps, quiet_steps}

not_is : (b : Bool) → true ≡ not b → b ≡ false
not_is true e = cc
not_is false e = refl

not_isnt : (b : Bool) → false ≡ not b → b ≡ true
not_isnt true e = refl
not_isnt false e = cc

module _ (t u : Option Story) (f : ℕ) (quiet : Quietly t u) (only : Only t f (seen t f)) where
  pub nothing_closed : Steps t u f (IsClosing (seen t f))
  nothing_closed = quiet_is_steps t u f quiet only (Unit {0}) (IsClosing (seen t f)) (if_all t (Unit {0}) tt) (λ x. inl refl)

  pub stood_shut : IfSome t (λ _. true ≡ not (is_to_close (seen t f))) → IfSome t (λ _. IsShut (seen u f))
  stood_shut is = if_map t (true ≡ not (is_to_close (seen t f))) (IsShut (seen u f)) is
      (λ e. subst IsShut (sym (quiet.reads f)) (shut_already (seen t f) (not_is (is_to_close (seen t f)) e)))

  module _ (v : Option Story) (puts : Puts u v f 0 (0 ∷ [])) where
    pub gate_put_closed : IfSome t (λ _. false ≡ not (is_to_close (seen t f))) → Steps t v f (IsClosing (seen t f))
    gate_put_closed is = quiet_steps t u f quiet only (is_to_close (seen t f) ≡ true) (IsClosing (seen t f))
        (if_map t (false ≡ not (is_to_close (seen t f))) (is_to_close (seen t f) ≡ true) is (not_isnt (is_to_close (seen t f)))) (λ close. inl refl)
        v (Torn 0 1 (seen u f)) (λ close c torn. inr (close, subst (λ old. Torn 0 1 old c) (quiet.reads f) torn)) puts

    pub gate_put_shut : IfSome u (λ _. seen v f ≡ overwritten 0 (0 ∷ []) (seen u f)) → IfSome t (λ _. IsShut (seen v f))
    gate_put_shut reads = if_back t u (seen v f ≡ overwritten 0 (0 ∷ []) (seen u f)) (IsShut (seen v f)) quiet.on reads (λ is. subst IsShut (sym is) (shut_put (seen u f)))

-- what a call said of a file that was only made durable before it
pub said_before : (t u : Option Story) (f : ℕ) (b v : Bool) → b ≡ v → Quietly t u → IfSome u (λ _. b ≡ not (is_to_close (seen u f))) → IfSome t (λ _. v ≡ not (is_to_close (seen t f)))
said_before t u f b v same quiet is =
    if_back t u (b ≡ not (is_to_close (seen u f))) (v ≡ not (is_to_close (seen t f))) quiet.on is (λ e. sym same ∙ e ∙ ap (λ l. not (is_to_close l)) (quiet.reads f))
