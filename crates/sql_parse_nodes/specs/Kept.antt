-- Parts of trees as the parser keeps them: never with more levels than a statement may have.
use Rattle.std.specs.Prelude.{◌≡◌, ℕ, suc, max, nat_le, if◌then◌else◌, List, [], ◌∷◌, Option, Some, None, Result, Ok, Err}
use Rattle.std.specs.Option.{option_map}
use Rattle.val_types.specs.declared.ops.Agg.{Agg}
use Rattle.sql_tree.specs.Tree.{Tree}
use Rattle.sql_tree.specs.Depth.{depth_of_tree}
use Rattle.sql_grammar.specs.Reader.{Read}
use Rattle.sql_syntax.specs.Tokens.{Tok}
use Rattle.sql_syntax.specs.Texts.{limit_deep}
use Rattle.sql_parse_tokens.specs.Gives.{Fails}
use Rattle.sql_parse_tokens.specs.declared.fault.Stop.{Stop}
use Rattle.sql_parse_nodes.specs.declared.kept.Levelled.{Levelled}

-- what is kept of a part: it and its levels, or nothing where it has too many
abbrev pub kept : {A : Type 0} → (A → ℕ) → A → Option (A × ℕ)
kept depth_of a = if nat_le (depth_of a) limit_deep then Some (a, depth_of a) else None

-- what the parser holds, as it is seen
abbrev pub kept_as : {X A : Type 0} → (X → A) → Option (Levelled X) → Option (A × ℕ)
kept_as view k = option_map (λ l. (view l.part, l.levels)) k

-- what the parser holds is what is kept of this part
abbrev pub IsKept : {X A : Type 0} → (X → A) → (A → ℕ) → A → Option (Levelled X) → Type 0
IsKept view depth_of a k = kept depth_of a ≡ kept_as view k

-- What is kept of the part that is read, with the same tokens left, or the same fault.
abbrev pub Keeps : {X A : Type 0} → (X → A) → (A → ℕ) → Result (Option (Levelled X) × List Tok) Stop → Read Tok A → Type 0
Keeps {X} {A} view depth_of (Ok r) read = (a : A) × (read ≡ Ok (a, r.1)) × IsKept view depth_of a r.0
Keeps view depth_of (Err stop) read = Fails stop read

-- two parts side by side, with the levels of the deeper one
abbrev pub beside : {X Y : Type 0} → Option (Levelled X) → Option (Levelled Y) → Option (Levelled (X × Y))
beside None l = None
beside (Some k) None = None
beside (Some k) (Some l) = Some (record { part = (k.part, l.part); levels = max k.levels l.levels })

-- a part with these levels, where they are not too many
abbrev pub limited : {X : Type 0} → X → ℕ → Option (Levelled X)
limited x levels = if nat_le levels limit_deep then Some (record { part = x; levels = levels }) else None

-- a part with one level more
abbrev pub above : {X : Type 0} → Option (Levelled X) → Option (Levelled X)
above None = None
above (Some k) = limited k.part (suc k.levels)

-- a list of no parts
abbrev pub empty : {X : Type 0} → Option (Levelled (List X))
empty = Some (record { part = []; levels = 0 })

-- another part with the same levels
abbrev pub in_place : {X Y : Type 0} → (X → Y) → Option (Levelled X) → Option (Levelled Y)
in_place f k = option_map (λ l. record { part = f l.part; levels = l.levels }) k

-- two parts side by side as they are seen
abbrev pub view_beside : {X Y A B : Type 0} → (X → A) → (Y → B) → X × Y → A × B
view_beside view_a view_b p = (view_a p.0, view_b p.1)

-- the levels of two parts side by side
abbrev pub depth_beside : {A B : Type 0} → (A → ℕ) → (B → ℕ) → A × B → ℕ
depth_beside depth_a depth_b p = max (depth_a p.0) (depth_b p.1)

-- the levels of an aggregate
abbrev pub depth_of_aggregate : Option (Agg × Tree) → ℕ
depth_of_aggregate None = 1
depth_of_aggregate (Some a) = suc (depth_of_tree a.1)
