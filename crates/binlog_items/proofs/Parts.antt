-- What an item carries of the context before its statement.
use Rattle.std.proofs.Common.{◌≡◌, ℕ, List, Bool, true, false, Option, ℤ, refl, ap, ◌∙◌}
use Rattle.std.specs.List.{list_any}
use Rattle.std.specs.Option.{option_map}
use Rattle.log_entry_laws.specs.log_entries.declared.carried.Carried.{Carried}
use Rattle.catalog_checks.specs.catalog_rules.Nodes.{Node, nodes_of}
use Rattle.catalog_checks.specs.catalog_rules.Objects.{Object}
use Rattle.sql_tree.specs.Statement.{Statement}
use Rattle.unsafe_rules.specs.sql_meaning.Frames.{Context}
use Rattle.unsafe_rules.specs.sql_reach.Carrying.{asks_last_id, carried, carried_by, draws, if_asked}
use Rattle.unsafe_rules.specs.sql_reach.Reach.{reached_nodes}
use Rattle.binlog_items.specs.declared.before.Before.{Before}
use Rattle.binlog_items.specs.Items.{as_before}

asked : {A B : Type 0} (b : Bool) (a : A) (c : B) → option_map (λ _. c) (if_asked b a) ≡ if_asked b c
asked true a c = refl
asked false a c = refl

abbrev renewed : Before → Carried → Carried
renewed before parts = record parts { last_id = option_map (λ _. before.last_id) parts.last_id; seeds = option_map (λ _. before.seeds) parts.seeds }

renewed_by : (before : Before) (context : Context) (nodes : List Node) (first : Option ℤ) → renewed before (carried_by context nodes first) ≡ carried_by (as_before before context) nodes first
renewed_by before context nodes first =
    ap (λ (o : Option ℤ). record (carried_by context nodes first) { last_id = o; seeds = option_map (λ _. before.seeds) (carried_by context nodes first).seeds }) (asked (list_any asks_last_id nodes) context.last_id before.last_id)
    ∙ ap (λ (o : Option (ℕ × ℕ)). record (carried_by context nodes first) { last_id = if_asked (list_any asks_last_id nodes) before.last_id; seeds = o }) (asked (list_any draws nodes) context.seeds before.seeds)

pub carried_as_before : (parts : Carried) (before : Before) (catalog : List Object) (s : Statement) (context : Context) (first : Option ℤ) → parts ≡ carried catalog s context first
    → record parts { last_id = option_map (λ _. before.last_id) parts.last_id; seeds = option_map (λ _. before.seeds) parts.seeds } ≡ carried catalog s (as_before before context) first
unfolding carried
carried_as_before parts before catalog s context first is = ap (renewed before) is ∙ renewed_by before context (reached_nodes catalog (nodes_of s)) first
