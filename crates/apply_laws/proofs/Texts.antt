-- An item that is logged by its text, carried out: it does at the replica what it did at its source.
use Rattle.std.proofs.Common.{◌≡◌, ℕ, ◌+◌, ◌≤◌, ◌^◌, Bool, true, false, cond, List, [], ◌∷◌, ◌++◌, length, Option, Some, Result, Ok, Err, refl, sym, ap, subst, ◌∙◌, arith}
use Rattle.std.specs.Prelude.{unwrap_or}
use Rattle.std.specs.Int.{w64, cast_unsigned}
use Rattle.std.specs.Option.{option_map}
use Rattle.std.proofs.lemmas.Bool.{le-ltb}
use Rattle.std.proofs.lemmas.List.{append_cancel_left}
use Rattle.val_types.specs.declared.change.Change.{Change}
use Rattle.val_types.specs.declared.definitions.TableDef.{TableDef}
use Rattle.port_traits.specs.declared.identity.Identity.{Identity}
use Rattle.port_traits.specs.declared.identity.Draw.{Draw}
use Rattle.table_rules.specs.Tables.{Table}
use Rattle.table_rules.specs.Stored.{all_applied}
use Rattle.table_rules.specs.Stores.{definitions_of}
use Rattle.table_rules.proofs.Storing.{some_same}
use Rattle.event_codec.specs.Event.{Body, query}
use Rattle.event_codec.specs.Writing.{size}
use Rattle.sql_tree.specs.Statement.{Statement, insert_into, replace_into, update_rows, delete_rows, select, evaluate}
use Rattle.statement_names.specs.catalog_rules.Bases.{Base, definitions_in}
use Rattle.statement_names.specs.catalog_rules.Checks.{session_scope, statement_refusal}
use Rattle.statement_names.specs.catalog_rules.Objects.{Object}
use Rattle.log_entry_laws.specs.log_entries.declared.carried.Carried.{Carried}
use Rattle.log_entry_laws.specs.log_entries.declared.entries.Item.{Item}
use Rattle.log_entry_laws.specs.log_model.Items.{query_of, text_of, changes_item, spelled, at_time, item_size}
use Rattle.log_entry_laws.specs.log_model.Spelling.{bodies_of}
use Rattle.log_entry_laws.specs.log_model.Written.{Stamped, placed, total}
use Rattle.log_entry_laws.specs.Ids.{HasIds}
use Rattle.apply_model.specs.binlog_sizes.Sizes.{changes_size, most_bytes}
use Rattle.apply_model.specs.text_answers.Answers.{a_statement, text_answer}
use Rattle.statement_names.specs.sql_meaning.Changing.{Did}
use Rattle.statement_names.specs.sql_meaning.Frames.{Context, Setting}
use Rattle.statement_names.specs.sql_meaning.Leading.{Leads, EndsWell, StatementsEndWell}
use Rattle.statement_names.specs.sql_meaning.Running.{most_nested, effect}
use Rattle.statement_names.specs.sql_meaning.Scenes.{Scene, Ending}
use Rattle.statement_names.specs.sql_reach.Carrying.{carried}
use Rattle.statement_names.specs.sql_reach.Defining.{number_of_bytes}
use Rattle.apply_model.specs.session_ctx.Carrying.{context_carried, StandsIn, CarriedStandsIn}
use Rattle.apply_model.specs.session_ctx.Contexts.{seeds_drawn}
use Rattle.session_replays.specs.independence_laws.Laws.{AreAlikeFor, EndsAs, StatementsAreFollowed}
use Rattle.session_replays.specs.proc_model.Procedures.{is_plain}
use Rattle.session_replays.specs.session_model.Sessions.{tables_with}
use Rattle.session_replays.specs.session_model.Running.{setting_of}
use Rattle.session_replays.specs.session_model.Machine.{Whole}
use Rattle.session_replays.specs.session_model.Holding.{changes_of}
use Rattle.session_replays.specs.Again.{scene_again, Gives}
use Rattle.apply_model.specs.Texts.{Progress, Applier, scene_of, progress_of, ended_as, may_stand, statement_by, statement_in, checked, allowed, carry_text, stops_at}
use Rattle.apply_model.specs.Groups.{and_then, text_ended, event_carried, applier_of}
use Rattle.apply_laws.specs.Following.{BaseHolds, TextCanFollow}
use Rattle.apply_laws.proofs.Carrying.{VarsAgain, vars_again, seeds_again, needs_of, carried_again}
use Rattle.apply_laws.proofs.Changes.{Stands, Reaches, stands_behind}
use Rattle.apply_laws.proofs.Needs.{needs_read}
use Rattle.apply_laws.proofs.Steps.{needing, between, ends, placed_at, went, same_bytes, ItemRead}

-- ---- which texts are let through

pub statement_is : (text : List ℕ) (s : Statement) → text_answer text ≡ a_statement s → length text ≤ 2 ^ 20 → statement_in text ≡ Ok s
statement_is text s answer short =
    ap (λ (b : Bool). cond b (Err 1153) (statement_by (text_answer text))) (le-ltb (2 ^ 20) (length text) short) ∙ ap statement_by answer

-- a change, a SELECT or a DO may stand in a transaction
stands_there : (s : Statement) → is_plain s ≡ true → may_stand s ≡ true
stands_there (insert_into ignore t names supply sets) e = refl
stands_there (replace_into t names supply) e = refl
stands_there (update_rows t sets condition os limit) e = refl
stands_there (delete_rows t condition os limit) e = refl
stands_there (select q) e = refl
stands_there (evaluate ts) e = refl
stands_there s e = cc

-- ---- where a transaction stands

-- A transaction of a replica that has made these changes, and no others, to a base.
pub record IsBehind (base : Base) (before : List Change) (p : Progress) : Type 0 where
  pub made : all_applied before base.tables ≡ Some p.store.tables
  pub changes : p.changes ≡ before
  pub stands : Stands (definitions_of base.tables) p

-- ---- the run of a text

module _ (followed : StatementsAreFollowed) (end_well : StatementsEndWell) (stands_in : CarriedStandsIn) (identity : Identity) (draw : Draw) (base : Base) (holds : BaseHolds base) where
  abbrev applier : Applier
  applier = applier_of identity draw base

  abbrev context_of : Whole → Context
  context_of i = context_carried i.kept.carried identity draw

  module _ (before : List Change) (i : Whole) (p : Progress) (next : List Table) (can : TextCanFollow base before i) (at : IsBehind base before p)
      (made : all_applied (changes_of i) p.store.tables ≡ Some next) where
    abbrev tree : Statement
    tree = i.began.tree

    abbrev catalog : List Object
    catalog = i.began.catalog

    abbrev gives : Gives base before i
    gives = can.gives

    -- where the text runs again at its source, and where it runs here
    abbrev there : Scene
    there = scene_again base before i.began

    abbrev here : Scene
    here = scene_of (context_of i) p

    abbrev setting_there : Setting
    setting_there = setting_of catalog i.began.context (number_of_bytes 0 i.began.draw.uuid)

    abbrev setting_here : Setting
    setting_here = record { catalog = base.catalog; context = context_of i; uuid = number_of_bytes 0 draw.uuid }

    same_tables : tables_with before base.tables ≡ p.store.tables
    same_tables = ap (λ (o : Option (List Table)). unwrap_or o base.tables) at.made

    alike : AreAlikeFor catalog tree there here
    alike = record {
      tables = sym same_tables;
      theirs = ap definitions_of same_tables ∙ at.stands.theirs ∙ holds.theirs ∙ sym (ap definitions_in gives.catalog);
      changes = at.changes;
      turns = gives.turns;
      seeds = λ asked. ap (λ (c : Carried). unwrap_or c.seeds (seeds_drawn draw)) gives.carries
          ∙ seeds_again catalog tree i.began.context gives.did.first (seeds_drawn draw) asked;
    }

    context_stands : StandsIn (context_of i) (carried catalog tree i.began.context gives.did.first)
    context_stands = subst (λ (c : Carried). StandsIn (context_of i) c) gives.carries (stands_in i.kept.carried identity draw)

    -- it ends here as it did there
    ends_here : EndsAs catalog tree gives.did gives.scene (effect setting_here most_nested [] tree here)
    ends_here = followed setting_there setting_here i.began.nesting most_nested [] tree there here gives.scene gives.did can.follows (sym gives.catalog) context_stands gives.nesting alike gives.ends

    -- and it leaves the tables that its changes make
    leads : Leads there gives.scene
    leads = subst (λ (e : Ending Did). EndsWell there e) gives.ends (end_well setting_there i.began.nesting [] tree there)

    tables_there : gives.scene.tables ≡ next
    tables_there =
        let more : leads.more ≡ changes_of i = append_cancel_left before leads.more (changes_of i) (sym leads.added ∙ gives.changes) in
        some_same gives.scene.tables next
        (sym leads.made ∙ ap (λ (cs : List Change). all_applied cs there.tables) more ∙ ap (all_applied (changes_of i)) same_tables ∙ made)

    abbrev behind : Progress
    behind = progress_of ends_here.scene

    runs : carry_text applier i.kept.text i.kept.carried p ≡ Ok behind
    runs =
        ap (allowed applier (context_of i) p) (statement_is i.kept.text tree can.says.text can.says.short)
        ∙ ap (λ (b : Bool). cond b (checked applier (context_of i) tree p (statement_refusal base.catalog session_scope tree)) (Err 30005)) (stands_there tree can.says.stands)
        ∙ ap (checked applier (context_of i) tree p) (ap (λ (os : List Object). statement_refusal os session_scope tree) (sym gives.catalog) ∙ can.says.allowed)
        ∙ ap ended_as ends_here.ends

    reaches : Reaches (definitions_of base.tables) next (p.changes ++ changes_of i) behind
    reaches =
        let tables : behind.store.tables ≡ next = ends_here.alike.tables ∙ tables_there in
        record {
          tables = tables;
          changes = ends_here.alike.changes ∙ gives.changes ∙ ap (λ (cs : List Change). cs ++ changes_of i) (sym at.changes);
          stands = stands_behind (definitions_of base.tables) (changes_of i) p behind next at.stands made tables;
        }

    -- ---- its events

    abbrev item : Item
    item = i.kept

    abbrev all : List TableDef
    all = definitions_of base.tables

    abbrev own_query : Body
    own_query = query (query_of item.text item.carried)

    variables_again : VarsAgain item.carried
    variables_again = subst (λ (c : Carried). VarsAgain c) (sym gives.carries) (vars_again catalog tree i.began.context gives.did.first)

    few_behind : changes_size (p.changes ++ changes_of i) ≤ most_bytes → changes_size behind.changes ≤ most_bytes
    few_behind few = subst (λ (cs : List Change). changes_size cs ≤ most_bytes) (sym reaches.changes) few

    -- the text itself ends its item
    query_read : (pos bytes : ℕ) → HasIds item.carried → bytes ≤ most_bytes → changes_size (p.changes ++ changes_of i) ≤ most_bytes
        → event_carried applier (placed_at pos item.carried.stamp own_query) (needing p bytes (needs_of item.carried)) own_query ≡ Ok (between behind bytes)
    query_read pos bytes ids low few =
        ap (λ (c : Carried). and_then (text_ended pos (needing p bytes (needs_of item.carried))) (stops_at pos (carry_text applier item.text c p)))
        (carried_again item.text item.carried ids variables_again)
        ∙ ap (λ (r : Result Progress ℕ). and_then (text_ended pos (needing p bytes (needs_of item.carried))) (stops_at pos r)) runs
        ∙ ends pos (needing behind bytes (needs_of item.carried)) low (few_behind few)

    text_read : (pos bytes : ℕ) (more : List Stamped) → HasIds item.carried → bytes + total (at_time item.carried.stamp (bodies_of (text_of item.text item.carried))) ≤ most_bytes
        → changes_size (p.changes ++ changes_of i) ≤ most_bytes
        → ItemRead applier all item.carried.stamp pos (bodies_of (text_of item.text item.carried)) (changes_of i) p bytes next more
    text_read pos bytes more ids low few =
        let c : Carried = item.carried in
        let needs = needs_read applier c.stamp p more (option_map (cast_unsigned w64) c.last_id) (option_map (cast_unsigned w64) c.first) c.seeds c.vars (own_query ∷ []) pos bytes in
        let sum = needs.same in
        let now : ℕ = needs.now + size own_query in
        record {
          place = needs.place + size own_query;
          progress = behind;
          carried = needs.carried
              ∙ went applier (placed_at needs.place c.stamp own_query) (placed (needs.place + size own_query) more) (needing p needs.now (needs_of c)) (between behind now)
              (query_read needs.place now ids (omega (arith, sum, low)) few)
              ∙ same_bytes applier (needs.place + size own_query) more behind now (bytes + total (at_time c.stamp (bodies_of (text_of item.text c)))) (omega (arith, sum));
          reaches = reaches;
        }

    bodies_are : item.rows ≡ false → bodies_of (spelled item) ≡ bodies_of (text_of item.text item.carried)
    bodies_are e = ap (λ (b : Bool). bodies_of (cond b (changes_item item.defs item.changes) (text_of item.text item.carried))) e

    pub text_item_read : (pos bytes : ℕ) (more : List Stamped) → item.rows ≡ false → HasIds item.carried → bytes + item_size item ≤ most_bytes
        → changes_size (p.changes ++ changes_of i) ≤ most_bytes → ItemRead applier all item.carried.stamp pos (bodies_of (spelled item)) (changes_of i) p bytes next more
    text_item_read pos bytes more by-text ids low few =
        let bodies = bodies_are by-text in
        let small : bytes + total (at_time item.carried.stamp (bodies_of (text_of item.text item.carried))) ≤ most_bytes =
        subst (λ (bs : List Body). bytes + total (at_time item.carried.stamp bs) ≤ most_bytes) bodies low in
        subst (λ (bs : List Body). ItemRead applier all item.carried.stamp pos bs (changes_of i) p bytes next more) (sym bodies) (text_read pos bytes more ids small few)
