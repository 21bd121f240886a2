-- The objects in memory, as contracts see them.
use Rattle.std.specs.Prelude.{ℕ, Bool, ◌==◌, List}
use Rattle.std.specs.List.{list_any}
use Rattle.port_traits.specs.declared.identity.Identity.{Identity}
use Rattle.port_traits.specs.declared.identity.Draw.{Draw}

-- a source in memory: what is left, the numbers of the calls that fail, how many bytes a call gives
-- at most, how many calls and faults there were, and how many calls from its end on
pub record SourceState : Type 0 where
  pub left : List ℕ
  pub fails : List ℕ
  pub piece : ℕ
  pub calls : ℕ
  pub faults : ℕ
  pub ended : ℕ

-- a sink in memory: what was written, and the rest as in a source
pub record SinkState : Type 0 where
  pub written : List ℕ
  pub fails : List ℕ
  pub piece : ℕ
  pub calls : ℕ
  pub faults : ℕ
  pub ended : ℕ

-- an environment in memory: whose it is, and the draws left
pub record EnvState : Type 0 where
  pub identity : Identity
  pub draws : List Draw

-- a call is one of those that fail
abbrev pub is_among : List ℕ → ℕ → Bool
is_among fails call = list_any (λ number. number == call) fails
