-- Sorts and walks that the order of the primary key saves.
use Rattle.std.proofs.Common.{◌≡◌, List, [], ◌∷◌, Bool, true, false, ◌&&◌, cond, ℕ, Some, Result, Ok, Err, refl, ap, subst, ◌∙◌}
use Rattle.std.specs.List.{list_all}
use Rattle.std.proofs.lemmas.Bool.{and_parts}
use Rattle.val_types.specs.declared.value.Value.{Value}
use Rattle.val_types.specs.declared.refusal.SqlRefusal.{SqlRefusal}
use Rattle.val_types.specs.declared.definitions.TableDef.{TableDef}
use Rattle.val_types.specs.Fitting.{row_fits}
use Rattle.table_rules.specs.Tables.{Table, IsKept, is_below, rise}
use Rattle.table_rules.specs.Stores.{Store, IsWhole}
use Rattle.table_rules.proofs.Storing.{named_kept}
use Rattle.sql_tree.specs.Tree.{Orders, Selected, Origin, Part}
use Rattle.key_order.specs.where_candidates.session_ctx.sql_meaning.Scenes.{Scene, Ending, Action, done, failed, then_do, pure, kept_by, ◌>>=◌}
use Rattle.key_order.specs.where_candidates.Candidates.{AreCandidates}
use Rattle.key_order.specs.where_candidates.where_keys.declared.outside.Outside.{Outside}
use Rattle.key_order.specs.where_candidates.declared.seeing.SeenTable.{SeenTable}
use Rattle.key_order.specs.Given.{OrderedByKey, IsWholeAnswer, IsEdge}
use Rattle.exec_state.specs.declared.stage.Stage.{Stage}
use Rattle.exec_state.specs.Stage.{EndsAs, scene_of}
use Rattle.sql_evaluation.specs.declared.world.View.{View as Shown}
use Rattle.sql_evaluation.specs.declared.world.Around.{Around}
use Rattle.sql_evaluation.specs.Seen.{AreTabled, IsOutside, from_in, where_in, ordered_in, shown_in, world_of, frame_of}
use Rattle.sql_evaluation.proofs.Branching.{ends_through}
use Rattle.sql_evaluation.proofs.Scanning.{where_is}

-- ---- the ends of a table

pub ends_say : (E : Type 0) (a : Around) (vs : List Shown) (o : Outside) (what : Selected) (source : Origin) (stage : Stage) (row : List Value) → IsOutside a o
    → IsWholeAnswer {E = E} o what source stage.tables.tables (Ok (Some row)) → from_in a vs what source (scene_of stage) ≡ done (row ∷ []) (scene_of stage)
unfolding from_in scene_of
ends_say E a vs o what source stage row outside h = h (world_of a) (frame_of a vs) (scene_of stage) (outside.round vs) refl

pub ruleset ends = (ends_say)

-- ---- one row at an edge

pub edge_shows : (E : Type 0) (a : Around) (vs : List Shown) (o : Outside) (what : Selected) (source : Origin) (stage : Stage) (seen : SeenTable) (r : Result (List (List Value)) SqlRefusal) (last : Scene)
    → IsOutside a o → IsEdge {E = E} o source stage.tables.tables (Ok (Some seen)) → EndsAs r last (shown_in a vs seen.definition what seen.rows (scene_of stage))
    → EndsAs r last (from_in a vs what source (scene_of stage))
unfolding from_in scene_of
edge_shows E a vs o what source stage seen r last outside h shown =
    ends_through r last (from_in a vs what source (scene_of stage)) (shown_in a vs seen.definition what seen.rows (scene_of stage))
    (h (world_of a) (frame_of a vs) (scene_of stage) what (outside.round vs) refl) shown

pub ruleset edge = (edge_shows)

-- ---- rows as a table has them

pub placed : (a : Around) (vs : List Shown) (o : Outside) (d : TableDef) (os : Orders) (rows ordered : List (List Value)) (scene : Scene) → IsOutside a o
    → OrderedByKey o d os rows (Ok ordered) → AreTabled d rows → ordered_in a vs d os rows scene ≡ done ordered scene
unfolding frame_of
placed a vs o d os rows ordered scene outside h tabled = h (world_of a) (frame_of a vs) scene (outside.round vs) tabled.fit tabled.rising

-- what is given back is sorted
pub sorted_as : (a : Around) (vs : List Shown) (o : Outside) (d : TableDef) (os : Orders) (rows same : List (List Value)) (r : Result (List (List Value)) SqlRefusal) (scene last : Scene)
    → OrderedByKey o d os rows (Err same) → EndsAs r last (ordered_in a vs d os same scene) → EndsAs r last (ordered_in a vs d os rows scene)
sorted_as a vs o d os rows same r scene last is h = subst (λ (xs : List (List Value)). EndsAs r last (ordered_in a vs d os xs scene)) is h

pub ruleset placing = (placed, sorted_as)

-- rows that are kept are some of all, in their order

-- what holds of a row and of those kept behind it, holds of those kept of all of them
kept_found : (p : List Value → Bool) (row : List Value) (kept : List (List Value)) (next : Scene) (m : Ending (List (List Value))) (keeps : Bool) → p row ≡ true
    → ((rest : List (List Value)) (last : Scene) → m ≡ done rest last → list_all p rest ≡ true)
    → then_do m (λ rest. pure (cond keeps (row ∷ rest) rest)) ≡ done kept next → list_all p kept ≡ true
kept_found p row kept next (failed code last) keeps holds more h = cc
kept_found p row kept next (done rest last) true holds more h =
    let same : row ∷ rest ≡ kept = cc in
    subst (λ (ks : List (List Value)). list_all p ks ≡ true) same (ap (λ (b : Bool). b && list_all p rest) holds ∙ more rest last refl)
kept_found p row kept next (done rest last) false holds more h =
    let same : rest ≡ kept = cc in subst (λ (ks : List (List Value)). list_all p ks ≡ true) same (more rest last refl)

kept_step : (test : List Value → Action Bool) (p : List Value → Bool) (row : List Value) (rows kept : List (List Value)) (next : Scene) (tested : Ending Bool) → p row ≡ true
    → ((rest : List (List Value)) (mid last : Scene) → kept_by test rows mid ≡ done rest last → list_all p rest ≡ true)
    → then_do tested (λ keeps. kept_by test rows >>= λ rest. pure (cond keeps (row ∷ rest) rest)) ≡ done kept next → list_all p kept ≡ true
kept_step test p row rows kept next (failed code last) holds more h = cc
kept_step test p row rows kept next (done keeps mid) holds more h = kept_found p row kept next (kept_by test rows mid) keeps holds (λ rest last is. more rest mid last is) h

all_kept : (test : List Value → Action Bool) (p : List Value → Bool) (rows kept : List (List Value)) (scene next : Scene) → kept_by test rows scene ≡ done kept next
    → list_all p rows ≡ true → list_all p kept ≡ true
all_kept test p [] kept scene next e all = let is : [] ≡ kept = cc in subst (λ (ks : List (List Value)). list_all p ks ≡ true) is refl
all_kept test p (row ∷ rows) kept scene next e all =
    let both = and_parts (p row) (list_all p rows) all in
    kept_step test p row rows kept next (test row scene) both.0 (λ rest mid last is. all_kept test p rows rest mid last is both.1) e

-- the same of rising
rise_found : (d : TableDef) (row : List Value) (kept : List (List Value)) (next : Scene) (m : Ending (List (List Value))) (keeps : Bool)
    → ((rest : List (List Value)) (last : Scene) → m ≡ done rest last → list_all (is_below d row) rest ≡ true)
    → ((rest : List (List Value)) (last : Scene) → m ≡ done rest last → rise d rest ≡ true)
    → then_do m (λ rest. pure (cond keeps (row ∷ rest) rest)) ≡ done kept next → rise d kept ≡ true
rise_found d row kept next (failed code last) keeps below more h = cc
rise_found d row kept next (done rest last) true below more h =
    let same : row ∷ rest ≡ kept = cc in
    subst (λ (ks : List (List Value)). rise d ks ≡ true) same (ap (λ (b : Bool). b && rise d rest) (below rest last refl) ∙ more rest last refl)
rise_found d row kept next (done rest last) false below more h =
    let same : rest ≡ kept = cc in subst (λ (ks : List (List Value)). rise d ks ≡ true) same (more rest last refl)

rise_step : (test : List Value → Action Bool) (d : TableDef) (row : List Value) (rows kept : List (List Value)) (next : Scene) (tested : Ending Bool)
    → list_all (is_below d row) rows ≡ true
    → ((rest : List (List Value)) (mid last : Scene) → kept_by test rows mid ≡ done rest last → rise d rest ≡ true)
    → then_do tested (λ keeps. kept_by test rows >>= λ rest. pure (cond keeps (row ∷ rest) rest)) ≡ done kept next → rise d kept ≡ true
rise_step test d row rows kept next (failed code last) below more h = cc
rise_step test d row rows kept next (done keeps mid) below more h =
    rise_found d row kept next (kept_by test rows mid) keeps (λ rest last is. all_kept test (is_below d row) rows rest mid last is below) (λ rest last is. more rest mid last is) h

kept_rise : (test : List Value → Action Bool) (d : TableDef) (rows kept : List (List Value)) (scene next : Scene) → kept_by test rows scene ≡ done kept next
    → rise d rows ≡ true → rise d kept ≡ true
kept_rise test d [] kept scene next e all = let is : [] ≡ kept = cc in subst (λ (ks : List (List Value)). rise d ks ≡ true) is refl
kept_rise test d (row ∷ rows) kept scene next e all =
    let both = and_parts (list_all (is_below d row) rows) (rise d rows) all in
    rise_step test d row rows kept next (test row scene) both.0 (λ rest mid last is. kept_rise test d rows rest mid last is both.1) e

-- those that WHERE keeps of a table are as the table has them
pub where_tabled : (a : Around) (vs : List Shown) (o : Outside) (name : List ℕ) (d : TableDef) (p : Part) (store : Store) (rows kept : List (List Value)) (scene next : Scene)
    → IsWhole store → (seen : AreCandidates o name d p store.tables rows) → where_in a vs d p seen.all scene ≡ done kept next → AreTabled d kept
where_tabled a vs o name d p store rows kept scene next whole seen e =
    let t : Table = record { definition = d; rows = seen.all } in
    let is : IsKept t = named_kept name store.tables t whole.rows seen.there in
    let keeps = where_is a vs d p seen.all scene ∙ e in
    record {
      fit = all_kept _ (row_fits d.columns) seen.all kept scene next keeps is.fit;
      rising = kept_rise _ d seen.all kept scene next keeps is.rising;
    }
