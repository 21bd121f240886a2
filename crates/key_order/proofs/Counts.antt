-- COUNT(*) of rows.
use Rattle.std.proofs.Common.{◌≡◌, ℕ, suc, List, [], ◌∷◌, length, map, refl, ap, ◌∙◌}
use Rattle.std.specs.Prelude.{pos}
use Rattle.val_types.specs.declared.value.Value.{Value}
use Rattle.val_types.specs.declared.value.Value.TheVariants.{Int}
use Rattle.val_types.specs.declared.ops.Agg.TheVariants.{Count}
use Rattle.val_types.specs.declared.definitions.TableDef.{TableDef}
use Rattle.value_rules.specs.Selecting.{first_value, known_count}
use Rattle.sql_tree.specs.Tree.{count_all, no_aggregate}
use Rattle.where_candidates.specs.session_ctx.sql_meaning.Scenes.{Scene, Ending, done, then_do, pure, each, ◌>>=◌}
use Rattle.where_candidates.specs.session_ctx.sql_meaning.Frames.{World, Frame, sees}
use Rattle.where_candidates.specs.session_ctx.sql_meaning.Values.{argument_values, formed}
use Rattle.key_order.specs.Counts.{CountsRows}

-- each row counts as 1
abbrev ones : List (List Value) → List (List Value)
ones rows = map (λ (row : List Value). Int (pos 1) ∷ []) rows

each_is_one : (w : World) (f : Frame) (d : TableDef) (rows : List (List Value)) (scene : Scene)
    → each (λ row. argument_values w (sees d row f) (count_all no_aggregate)) rows scene ≡ done (ones rows) scene
each_is_one w f d [] scene = refl
each_is_one w f d (row ∷ rows) scene = rw (each_is_one w f d rows scene) refl

counted : (rows : List (List Value)) → known_count (map first_value (ones rows)) ≡ length rows
counted [] = refl
counted (row ∷ rows) = ap suc (counted rows)

pub counts_rows : CountsRows
counts_rows w f d rows scene =
    ap (λ (e : Ending (List (List Value))). then_do e (λ arguments. formed (Count ∷ []) arguments >>= λ row. pure (row ∷ []))) (each_is_one w f d rows scene)
    ∙ ap (λ (n : ℕ). done ((Int (pos n) ∷ []) ∷ []) scene) (counted rows)
