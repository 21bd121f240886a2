-- The context of a session: what holds of it, what it is at first, and what a command makes of it.
use Rattle.std.specs.Prelude.{ℕ, ◌≤◌, ◌%◌, [], Option, None, ℤ, pos, neg_ℤ, int_le, unwrap_or, IfSome, IsTrue}
use Rattle.port_traits.specs.declared.identity.Identity.{Identity}
use Rattle.port_traits.specs.declared.identity.Draw.{Draw}
use Rattle.value_rules.specs.Random.{seed_bound}
use Rattle.sql_meaning.specs.Frames.{Context}

-- ---- what holds of every context

-- the two AUTO_INCREMENT variables are 1 to 65535; LAST_INSERT_ID() and a forced INSERT_ID are not below 0
pub record AreInBounds (increment offset : ℕ) (last_id : ℤ) (forced : Option ℤ) : Type 0 where
  pub increment_counts : 1 ≤ increment
  pub increment_fits : increment ≤ 65535
  pub offset_counts : 1 ≤ offset
  pub offset_fits : offset ≤ 65535
  pub last_id_counts : IsTrue (int_le (pos 0) last_id)
  pub forced_counts : IfSome forced (λ id. IsTrue (int_le (pos 0) id))

abbrev pub IsInBounds : Context → Type 0
IsInBounds context = AreInBounds context.increment context.offset context.last_id context.forced

-- ---- a new session

-- the seeds that a draw gives a new session
abbrev pub seeds_drawn : Draw → ℕ × ℕ
seeds_drawn draw = (draw.seed1 % seed_bound, draw.seed2 % seed_bound)

-- the context of a new session at its first command
abbrev pub new_context : Identity → ℕ → Draw → Context
new_context identity connection draw = record {
  stamp = draw.now;
  sys = draw.sys;
  connection = connection;
  user = identity.user;
  server_id = identity.server_id;
  last_id = pos 0;
  forced = None;
  seeds = seeds_drawn draw;
  variables = [];
  increment = 1;
  offset = 1;
  row_count = neg_ℤ (pos 1);
}

-- ---- a command

-- the moments of a command: NOW() is the timestamp that SET fixed, else the draw's; SYSDATE() is always the draw's
abbrev pub at_command : Option ℕ → Draw → Context → Context
at_command timestamp draw context = record context { stamp = unwrap_or timestamp draw.now; sys = draw.sys }
