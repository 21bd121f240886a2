-- Who holds the writer's lock.
use Rattle.std.specs.Prelude.{ℕ, nat_eq, if◌then◌else◌, Option, Some, None}

-- the other session that holds it, if there is one
abbrev pub other_than : ℕ → Option ℕ → Option ℕ
other_than session None = None
other_than session (Some holder) = if nat_eq holder session then None else Some holder

-- the holder behind a release
abbrev pub freed_by : ℕ → Option ℕ → Option ℕ
freed_by session None = None
freed_by session (Some holder) = if nat_eq holder session then None else Some holder
