-- The context in which the statement of an item runs again, from what the item carries.
use Rattle.std.specs.Prelude.{◌≡◌, ℕ, nat_eq, List, Some, pos, unwrap_or, IfSome}
use Rattle.std.specs.Cmp.Lexicographic.{pointwise}
use Rattle.std.specs.Map.{lookup}
use Rattle.port_traits.specs.declared.identity.Identity.{Identity}
use Rattle.port_traits.specs.declared.identity.Draw.{Draw}
use Rattle.sql_meaning.specs.log_entries.Variables.{variable_value}
use Rattle.sql_meaning.specs.log_entries.declared.carried.Carried.{Carried}
use Rattle.sql_meaning.specs.Frames.{Context}
use Rattle.session_ctx.specs.Contexts.{AreInBounds, new_context, seeds_drawn}

-- what an item carries is what a context may have
abbrev pub IsCarriedInBounds : Carried → Type 0
IsCarriedInBounds c = AreInBounds c.inc c.off (unwrap_or c.last_id (pos 0)) c.first

-- all that is carried; what is not, is as in a new session
abbrev pub context_carried : Carried → Identity → Draw → Context
context_carried c identity draw = record (new_context identity c.connection draw) {
  stamp = c.stamp;
  last_id = unwrap_or c.last_id (pos 0);
  forced = c.first;
  seeds = unwrap_or c.seeds (seeds_drawn draw);
  variables = c.vars;
  increment = c.inc;
  offset = c.off;
}

-- ---- law

-- A context has what an item carries: its moment, session and AUTO_INCREMENT variables, the first generated value as the
-- forced one where there is one; LAST_INSERT_ID(), seeds and each user variable wherever they are carried.
pub record StandsIn (context : Context) (c : Carried) : Type 0 where
  pub stamp : context.stamp ≡ c.stamp
  pub connection : context.connection ≡ c.connection
  pub increment : context.increment ≡ c.inc
  pub offset : context.offset ≡ c.off
  pub forced : IfSome c.first (λ first. context.forced ≡ Some first)
  pub last_id : IfSome c.last_id (λ id. context.last_id ≡ id)
  pub seeds : IfSome c.seeds (λ seeds. context.seeds ≡ seeds)
  pub variables : (name : List ℕ) → IfSome (lookup (pointwise nat_eq name) c.vars) (λ v. variable_value context.variables name ≡ v)

abbrev pub CarriedStandsIn : Type 0
CarriedStandsIn = (c : Carried) (identity : Identity) (draw : Draw) → StandsIn (context_carried c identity draw) c
