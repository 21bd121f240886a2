-- A statement that ended, as the machine settles it.
use Rattle.std.proofs.Common.{◌≡◌, ℕ, List, [], ◌∷◌, ◌++◌, Bool, true, false, if◌then◌else◌, length, drop, take, Option, Some, None, Result, Ok, Err, ℤ, refl, sym, ap, ◌∙◌, subst, append-nil}
use Rattle.val_types.specs.declared.change.Change.{Change}
use Rattle.val_types.specs.declared.value.Value.{Value}
use Rattle.val_types.specs.declared.refusal.SqlRefusal.{SqlRefusal}
use Rattle.val_types.specs.declared.refusal.SqlRefusal.TheVariants.{Sql, NoMemory}
use Rattle.port_traits.specs.declared.identity.Draw.{Draw}
use Rattle.port_traits.specs.declared.identity.Identity.{Identity}
use Rattle.proc_parts.specs.log_entries.declared.entries.Item.{Item}
use Rattle.sql_locals.specs.declared.locals.Local.{Local}
use Rattle.sql_tree.specs.Tree.{Trees}
use Rattle.sql_tree.specs.Statement.{Statement, evaluate}
use Rattle.proc_parts.specs.session_ctx.declared.session.SessionVars.{SessionVars}
use Rattle.proc_parts.specs.catalog_rules.Objects.{Object}
use Rattle.proc_parts.specs.sql_reach.Carrying.{carried}
use Rattle.proc_parts.specs.sql_reach.Defining.{number_of_bytes}
use Rattle.proc_parts.specs.sql_meaning.Scenes.{Scene}
use Rattle.proc_parts.specs.sql_meaning.Frames.{Context}
use Rattle.proc_parts.specs.sql_meaning.Changing.{Did}
use Rattle.proc_parts.specs.sql_meaning.Running.{context_after}
use Rattle.proc_parts.specs.sql_meaning.Leading.{EndsWell, Leads}
use Rattle.proc_parts.proofs.of_sql_meaning.LedBodies.{statements_end, evaluations_end}
use Rattle.proc_parts.specs.prog_work.declared.meter.Outcome.{Outcome}
use Rattle.proc_parts.specs.prog_work.Outcomes.{outcome_of}
use Rattle.session_shared.specs.binlog_items.Items.{numbers_of}
use Rattle.proc_parts.specs.sql_reach.Reasons.{reasons}
use Rattle.session_shared.specs.session_model.Formats.{logs_rows, warns}
use Rattle.session_shared.specs.session_model.Sessions.{Open, Session, Shared}
use Rattle.session_shared.specs.session_model.declared.format.Format.{Format}
use Rattle.proc_parts.specs.proc_model.Talk.{Left}
use Rattle.session_shared.specs.session_model.Running.{Fuel, Given, Turn, ended, fuel_of, is_other, is_warned, item_of, keep, made_behind, scene_for, setting_of, settle, statement_run, takes_too_much, undone, values_run, with_context, with_counters}
use Rattle.session_shared.specs.session_model.Commands.{changes_of_own}
use Rattle.session_statement.specs.Calls.{call_of}
use Rattle.session_shared.specs.Desk.{cut_to, own_behind, shared_of}
use Rattle.session_statement.specs.Keeping.{changes_kept, item_kept, item_made, kept_if, refused_unless, statement_kept, with_last_id}
use Rattle.session_shared.specs.declared.desk.Desk.{Desk}
use Rattle.session_shared.specs.declared.logged.Logged.{Logged}
use Rattle.session_statement.specs.Ran.{Came, Comes, Fails, Gives, Gave, effect_for, evaluation_for, place_at, shared_behind, told_given}
use Rattle.session_statement.specs.Turned.{EndsWith, giving}
use Rattle.session_statement.specs.declared.keeping.Kept.{Kept}

-- what a statement came to, unless it is refused when it is kept
abbrev pub came_to : {A : Type 0} → A → Fuel → Result Bool ℕ → Given A
came_to a fuel (Ok warned) = record { result = Ok a; fuel = fuel; warned = warned }
came_to a fuel (Err code) = record { result = Err code; fuel = fuel; warned = false }

-- as it is answered
abbrev pub kept_as : {A : Type 0} → A → Result Bool SqlRefusal → Result (Kept A) SqlRefusal
kept_as a (Ok warned) = Ok (record { value = a; warned = warned })
kept_as a (Err refusal) = Err refusal

-- ---- changes behind those before

drop_front : (cs more : List Change) → drop (length cs) (cs ++ more) ≡ more
drop_front [] more = refl
drop_front (c ∷ cs) more = drop_front cs more

pub take_front : (cs more : List Change) → take (length cs) (cs ++ more) ≡ cs
take_front [] more = refl
take_front (c ∷ cs) more = ap (λ rest. c ∷ rest) (take_front cs more)

-- ---- an item kept, or refused

module _ (identity : Identity) (draw : Draw) (n : ℕ) where
  -- a refusal, as it is taken back
  abbrev IsRefusal : {A : Type 0} → Fuel → ℤ → Shared → Session Item → Turn Item (Given A) → Type 0
  IsRefusal fuel last_id shared session refusal =
      refusal ≡ record { shared = shared; session = with_last_id last_id session; committed = []; given = record { result = Err 1197; fuel = fuel; warned = false } }

  keeps_by : {A : Type 0} (a : A) (fuel : Fuel) (warned : Bool) (item : Item) (b : Bool) (mark : ℕ) (scene : Scene) (shared : Shared) (vars : SessionVars) (format : Format) (transaction : Option (Open Item)) (last_id : ℤ) (refusal : Turn Item (Given A))
      → IsRefusal fuel last_id (cut_to n mark (record shared { changes = scene.changes })) (record { vars = vars; format = format; transaction = transaction }) refusal
      → (if b then refusal else keep (call_of identity draw n) item scene shared (record { vars = vars; format = format; transaction = transaction }) (record { result = Ok a; fuel = fuel; warned = warned }))
      ≡ giving (came_to a fuel) (refused_unless
      (if b then kept_if false (call_of identity draw n) item mark (record shared { changes = scene.changes }) (record { vars = vars; format = format; transaction = transaction }) else kept_if true (call_of identity draw n) item mark (record shared { changes = scene.changes }) (record { vars = vars; format = format; transaction = transaction })).given
      warned last_id
      (if b then kept_if false (call_of identity draw n) item mark (record shared { changes = scene.changes }) (record { vars = vars; format = format; transaction = transaction }) else kept_if true (call_of identity draw n) item mark (record shared { changes = scene.changes }) (record { vars = vars; format = format; transaction = transaction })))
  keeps_by a fuel warned item true mark scene shared vars format transaction last_id refusal e = e
  keeps_by a fuel warned item false mark scene shared vars format None last_id refusal e = refl
  keeps_by a fuel warned item false mark scene shared vars format (Some open') last_id refusal e = refl

  -- beside no other session's open changes
  settles_own : {A : Type 0} (a : A) (fuel : Fuel) (format : Format) (catalog : List Object) (tree : Statement) (item : List Change → Item) (more : List Change) (scene : Scene) (old : Shared) (session : Session Item) (mark : ℕ) (last_id : ℤ) (refusal : Turn Item (Given A))
      → is_other n old.writer ≡ false → scene.changes ≡ old.changes ++ more → mark ≡ length old.changes → IsRefusal fuel last_id (with_counters scene old) session refusal
      → settle (call_of identity draw n) item more scene (with_counters scene old) session (record { result = Ok a; fuel = fuel; warned = is_warned format catalog tree more }) refusal
      ≡ giving (came_to a fuel) (changes_kept (call_of identity draw n) item (warns format (reasons catalog tree)) more mark last_id (record (with_counters scene old) { changes = scene.changes }) session)
  settles_own a fuel format catalog tree item [] scene old session mark last_id refusal own added at e =
      ap (λ (cs : List Change). record { shared = record (with_counters scene old) { changes = cs }; session = session; committed = []; given = record { result = Ok a; fuel = fuel; warned = false } }) (sym (added ∙ append-nil old.changes))
  settles_own a fuel format catalog tree item (c ∷ cs) scene old session mark last_id refusal own added at e =
      let cut : take mark scene.changes ≡ old.changes =
      ap (λ (k : ℕ). take k scene.changes) at ∙ ap (take (length old.changes)) added ∙ take_front old.changes (c ∷ cs) in
      let back : cut_to n mark (record (with_counters scene old) { changes = scene.changes }) ≡ with_counters scene old =
      rw own (ap (λ (ds : List Change). record (with_counters scene old) { changes = ds }) cut) in
      keeps_by a fuel (warns format (reasons catalog tree)) (item (c ∷ cs)) (takes_too_much (call_of identity draw n) session.transaction (item (c ∷ cs))) mark scene (with_counters scene old) session.vars session.format session.transaction last_id refusal
      (e ∙ ap (λ (s : Shared). record { shared = s; session = with_last_id last_id session; committed = []; given = record { result = Err 1197; fuel = fuel; warned = false } }) (sym back))

  same_kept : (item item' : List Change → Item) (warned : Bool) (changes : List Change) (mark : ℕ) (last_id : ℤ) (shared : Shared) (session : Session Item) → item changes ≡ item' changes
      → changes_kept (call_of identity draw n) item warned changes mark last_id shared session ≡ changes_kept (call_of identity draw n) item' warned changes mark last_id shared session
  same_kept item item' warned [] mark last_id shared session same = refl
  same_kept item item' warned (c ∷ cs) mark last_id shared session same =
      ap (λ (i : Item). refused_unless (item_kept (call_of identity draw n) i mark shared session).given warned last_id (item_kept (call_of identity draw n) i mark shared session)) same

  -- what is kept, by the list that the code has
  module _ {A : Type 0} (a : A) (fuel : Fuel) (left : Left) (format : Format) (catalog : List Object) (tree : Statement) (warned : Bool) (warns_so : warns format (reasons catalog tree) ≡ warned)
      (item item' : List Change → Item) (same : (cs : List Change) → item cs ≡ item' cs) (context : Context) (scene : Scene) (old ran : Shared) (session : Session Item) (mark : ℕ) (last_id : ℤ) (refusal : Turn Item (Given A))
      (led : Leads (scene_for n left context old) scene) (behind' : ran ≡ shared_behind n old scene) (at : mark ≡ changes_of_own n old) (e : IsRefusal fuel last_id (with_counters scene old) session refusal) where
    -- the machine's turn where a statement made some changes
    abbrev settled_with : List Change → Turn Item (Given A)
    settled_with cs = settle (call_of identity draw n) item cs scene (with_counters scene old) session (record { result = Ok a; fuel = fuel; warned = is_warned format catalog tree cs }) refusal

    kept_by : (b : Bool) → is_other n old.writer ≡ b
        → settled_with (made_behind (is_other n old.writer) (scene_for n left context old) scene)
        ≡ giving (came_to a fuel) (changes_kept (call_of identity draw n) item' warned (own_behind n mark ran) mark last_id ran session)
    kept_by true other =
        let now : ran ≡ with_counters scene old = behind' ∙ ap (λ (b : Bool). if b then with_counters scene old else record (with_counters scene old) { changes = scene.changes }) other in
        let none : own_behind n mark (with_counters scene old) ≡ [] = ap (λ (b : Bool). if b then [] else drop mark old.changes) other in
        ap (λ (b : Bool). settled_with (made_behind b (scene_for n left context old) scene)) other
        ∙ sym (ap (λ (cs : List Change). giving (came_to a fuel) (changes_kept (call_of identity draw n) item' warned cs mark last_id (with_counters scene old) session)) none)
        ∙ sym (ap (λ (s : Shared). giving (came_to a fuel) (changes_kept (call_of identity draw n) item' warned (own_behind n mark s) mark last_id s session)) now)
    kept_by false own =
        let begun : (scene_for n left context old).changes ≡ old.changes = ap (λ (b : Bool). if b then [] else old.changes) own in
        let added : scene.changes ≡ old.changes ++ led.more = led.added ∙ ap (λ (cs : List Change). cs ++ led.more) begun in
        let count : mark ≡ length old.changes = at ∙ ap (λ (b : Bool). if b then 0 else length old.changes) own in
        let now : ran ≡ record (with_counters scene old) { changes = scene.changes } =
        behind' ∙ ap (λ (b : Bool). if b then with_counters scene old else record (with_counters scene old) { changes = scene.changes }) own in
        let made : made_behind (is_other n old.writer) (scene_for n left context old) scene ≡ led.more =
        ap (λ (b : Bool). made_behind b (scene_for n left context old) scene) own ∙ ap (λ (cs : List Change). drop (length cs) scene.changes) begun ∙ ap (drop (length old.changes)) added ∙ drop_front old.changes led.more in
        let mine : own_behind n mark (record (with_counters scene old) { changes = scene.changes }) ≡ led.more =
        ap (λ (b : Bool). if b then [] else drop mark scene.changes) own ∙ ap (λ (k : ℕ). drop k scene.changes) count ∙ ap (drop (length old.changes)) added ∙ drop_front old.changes led.more in
        ap settled_with made
        ∙ settles_own a fuel format catalog tree item led.more scene old session mark last_id refusal own added count e
        ∙ ap (λ (w : Bool). giving (came_to a fuel) (changes_kept (call_of identity draw n) item w led.more mark last_id (record (with_counters scene old) { changes = scene.changes }) session)) warns_so
        ∙ ap (giving (came_to a fuel)) (same_kept item item' warned led.more mark last_id (record (with_counters scene old) { changes = scene.changes }) session (same led.more))
        ∙ sym (ap (λ (cs : List Change). giving (came_to a fuel) (changes_kept (call_of identity draw n) item' warned cs mark last_id (record (with_counters scene old) { changes = scene.changes }) session)) mine)
        ∙ sym (ap (λ (s : Shared). giving (came_to a fuel) (changes_kept (call_of identity draw n) item' warned (own_behind n mark s) mark last_id s session)) now)

    kept_so : settled_with (made_behind (is_other n old.writer) (scene_for n left context old) scene)
        ≡ giving (came_to a fuel) (changes_kept (call_of identity draw n) item' warned (own_behind n mark ran) mark last_id ran session)
    kept_so = kept_by (is_other n old.writer) refl

  -- ---- the item

  same_item : (format : Format) (left : Left) (text : List ℕ) (s : Statement) (context : Context) (seeds : ℕ × ℕ) (first last_id : Option ℤ) (old : Shared) (catalog : List Object) (changes : List Change) → catalog ≡ old.base.catalog
      → item_of (call_of identity draw n) format left text s context old first changes ≡ item_made text s (numbers_of context) first (logs_rows format (reasons catalog s)) catalog (context_after context s seeds last_id) changes
  unfolding carried
  same_item format left text s context seeds first last_id old catalog changes is =
      ap (λ (objects : List Object). item_made text s (numbers_of context) first (logs_rows format (reasons objects s)) objects (context_after context s seeds last_id) changes) (sym is)

  catalog_stays : (old ran : Shared) (scene : Scene) (b : Bool) → is_other n old.writer ≡ b → ran ≡ shared_behind n old scene → ran.base.catalog ≡ old.base.catalog
  catalog_stays old ran scene true is left =
      ap (λ (s : Shared). s.base.catalog) (left ∙ ap (λ (b : Bool). if b then with_counters scene old else record (with_counters scene old) { changes = scene.changes }) is)
  catalog_stays old ran scene false is left =
      ap (λ (s : Shared). s.base.catalog) (left ∙ ap (λ (b : Bool). if b then with_counters scene old else record (with_counters scene old) { changes = scene.changes }) is)

  same_warning : (format : Format) (s : Statement) (old : Shared) (catalog : List Object) → catalog ≡ old.base.catalog → warns format (reasons old.base.catalog s) ≡ warns format (reasons catalog s)
  same_warning format s old catalog is = ap (λ (objects : List Object). warns format (reasons objects s)) (sym is)

  -- ---- a whole statement

  told_so : (did : Did) (told : Outcome) (fuel : Fuel) (r : Result Bool ℕ) → told ≡ outcome_of did → told_given (came_to did fuel r) ≡ came_to told fuel r
  told_so did told fuel (Ok warned) is = ap (λ (o : Outcome). record { result = Ok o; fuel = fuel; warned = warned }) (sym is)
  told_so did told fuel (Err code) is = refl

  module _ (left : Left) (text : List ℕ) where
    -- one that came to something, as it is kept from where it left
    pub came_kept : (s : Statement) (told : Outcome) (fuel : Fuel) (old ran : Shared) (session : Session Item) (context : Context) (mark : ℕ)
        → (came : Came n draw left s told fuel (place_at old session.vars.context) (place_at ran context)) → mark ≡ changes_of_own n old
        → giving told_given (statement_run (call_of identity draw n) left text s old session)
        ≡ giving (came_to told fuel) (statement_kept (call_of identity draw n) text s (numbers_of session.vars.context) told.first mark ran (with_context context session))
    came_kept s told fuel old ran session context mark came at =
        let before : Scene = scene_for n left session.vars.context old in
        let well = statements_end (setting_of old.base.catalog session.vars.context (number_of_bytes 0 draw.uuid)) left.nesting [] s before in
        let led : Leads before came.scene = subst (λ e. EndsWell before e) came.ends well in
        let after : Context = context_after session.vars.context s came.scene.seeds came.did.last_id in
        let catalog : ran.base.catalog ≡ old.base.catalog = catalog_stays old ran came.scene (is_other n old.writer) refl came.leaves.shared in
        let u : Turn Item (Result Bool ℕ) = statement_kept (call_of identity draw n) text s (numbers_of session.vars.context) came.did.first mark ran (with_context after session) in
        ap (λ e. giving told_given (ended (call_of identity draw n) left text s old session (λ (did : Did). did.first) (λ (did : Did). did.last_id) before e)) came.ends
        ∙ ap (giving told_given) (kept_so came.did (fuel_of came.scene) left session.format old.base.catalog s (warns session.format (reasons ran.base.catalog s)) (same_warning session.format s old ran.base.catalog catalog)
        (item_of (call_of identity draw n) session.format left text s session.vars.context old came.did.first) (item_made text s (numbers_of session.vars.context) came.did.first (logs_rows session.format (reasons ran.base.catalog s)) ran.base.catalog after)
        (λ cs. same_item session.format left text s session.vars.context came.scene.seeds came.did.first came.did.last_id old ran.base.catalog cs catalog) session.vars.context came.scene old ran (with_context after session) mark session.vars.context.last_id
        (undone 1197 s old session came.scene) led came.leaves.shared at refl)
        ∙ ap (λ (g : Given Outcome). record { shared = u.shared; session = u.session; committed = u.committed; given = g }) (told_so came.did told (fuel_of came.scene) u.given came.outcome)
        ∙ ap (λ (f : Fuel). giving (came_to told f) u) (sym came.leaves.spent)
        ∙ ap (λ (o : Outcome). giving (came_to told fuel) (statement_kept (call_of identity draw n) text s (numbers_of session.vars.context) o.first mark ran (with_context after session))) (sym came.outcome)
        ∙ ap (λ (c : Context). giving (came_to told fuel) (statement_kept (call_of identity draw n) text s (numbers_of session.vars.context) told.first mark ran (with_context c session))) (sym came.leaves.context)

    -- one that failed
    failed_kept : (s : Statement) (code : ℕ) (fuel : Fuel) (old ran : Shared) (session : Session Item) (context : Context)
        → (fails : Fails s code fuel (effect_for n draw left s (place_at old session.vars.context)) (place_at old session.vars.context) (place_at ran context))
        → record { shared = ran; session = with_context context session; committed = []; given = record { result = Err code; fuel = fuel; warned = false } } ≡ giving told_given (statement_run (call_of identity draw n) left text s old session)
    failed_kept s code fuel old ran session context fails =
        ap (λ (c : Context). record { shared = ran; session = with_context c session; committed = []; given = record { result = Err code; fuel = fuel; warned = false } }) fails.context
        ∙ ap (λ (shared : Shared). record { shared = shared; session = with_context (context_after session.vars.context s fails.scene.seeds None) session; committed = []; given = record { result = Err code; fuel = fuel; warned = false } }) fails.shared
        ∙ ap (λ (f : Fuel). record { shared = with_counters fails.scene old; session = with_context (context_after session.vars.context s fails.scene.seeds None) session; committed = []; given = record { result = Err code; fuel = f; warned = false } }) fails.spent
        ∙ sym (ap (λ e. giving told_given (ended (call_of identity draw n) left text s old session (λ (did : Did). did.first) (λ (did : Did). did.last_id) (scene_for n left session.vars.context old) e)) fails.ends)

    -- the same of expressions; the tree that is logged leaves of a context what the DO over them leaves
    module _ (tree : Statement) (locals : List Local) (ts : Trees) (same : (c : Context) (seeds : ℕ × ℕ) → context_after c (evaluate ts) seeds None ≡ context_after c tree seeds None) where
      pub gave_kept : (vs : List Value) (fuel : Fuel) (old ran : Shared) (session : Session Item) (context : Context) (mark : ℕ)
          → (gave : Gave n draw left locals ts vs fuel (place_at old session.vars.context) (place_at ran context)) → mark ≡ changes_of_own n old
          → values_run (call_of identity draw n) left text tree locals ts old session
          ≡ giving (came_to vs fuel) (statement_kept (call_of identity draw n) text tree (numbers_of session.vars.context) None mark ran (with_context context session))
      gave_kept vs fuel old ran session context mark gave at =
          let before : Scene = scene_for n left session.vars.context old in
          let well = evaluations_end (setting_of old.base.catalog session.vars.context (number_of_bytes 0 draw.uuid)) left.nesting locals ts before in
          let led : Leads before gave.scene = subst (λ e. EndsWell before e) gave.ends well in
          let after : Context = context_after session.vars.context tree gave.scene.seeds None in
          let catalog : ran.base.catalog ≡ old.base.catalog = catalog_stays old ran gave.scene (is_other n old.writer) refl gave.leaves.shared in
          let u : Turn Item (Result Bool ℕ) = statement_kept (call_of identity draw n) text tree (numbers_of session.vars.context) None mark ran (with_context after session) in
          ap (λ e. ended (call_of identity draw n) left text tree old session (λ (vs : List Value). None) (λ (vs : List Value). None) before e) gave.ends
          ∙ kept_so vs (fuel_of gave.scene) left session.format old.base.catalog tree (warns session.format (reasons ran.base.catalog tree)) (same_warning session.format tree old ran.base.catalog catalog)
          (item_of (call_of identity draw n) session.format left text tree session.vars.context old None) (item_made text tree (numbers_of session.vars.context) None (logs_rows session.format (reasons ran.base.catalog tree)) ran.base.catalog after)
          (λ cs. same_item session.format left text tree session.vars.context gave.scene.seeds None None old ran.base.catalog cs catalog) session.vars.context gave.scene old ran (with_context after session) mark session.vars.context.last_id
          (undone 1197 tree old session gave.scene) led gave.leaves.shared at refl
          ∙ ap (λ (f : Fuel). giving (came_to vs f) u) (sym gave.leaves.spent)
          ∙ ap (λ (c : Context). giving (came_to vs fuel) (statement_kept (call_of identity draw n) text tree (numbers_of session.vars.context) None mark ran (with_context c session))) (sym (gave.leaves.context ∙ same session.vars.context gave.scene.seeds))

      not_given_kept : (code : ℕ) (fuel : Fuel) (old ran : Shared) (session : Session Item) (context : Context)
          → (fails : Fails (evaluate ts) code fuel (evaluation_for n draw left locals ts (place_at old session.vars.context)) (place_at old session.vars.context) (place_at ran context))
          → record { shared = ran; session = with_context context session; committed = []; given = record { result = Err code; fuel = fuel; warned = false } } ≡ values_run (call_of identity draw n) left text tree locals ts old session
      not_given_kept code fuel old ran session context fails =
          ap (λ (c : Context). record { shared = ran; session = with_context c session; committed = []; given = record { result = Err code; fuel = fuel; warned = false } }) (fails.context ∙ same session.vars.context fails.scene.seeds)
          ∙ ap (λ (shared : Shared). record { shared = shared; session = with_context (context_after session.vars.context tree fails.scene.seeds None) session; committed = []; given = record { result = Err code; fuel = fuel; warned = false } }) fails.shared
          ∙ ap (λ (f : Fuel). record { shared = with_counters fails.scene old; session = with_context (context_after session.vars.context tree fails.scene.seeds None) session; committed = []; given = record { result = Err code; fuel = f; warned = false } }) fails.spent
          ∙ sym (ap (λ e. ended (call_of identity draw n) left text tree old session (λ (vs : List Value). None) (λ (vs : List Value). None) (scene_for n left session.vars.context old) e) fails.ends)

      -- whatever refused the run
      pub not_given_so : (refusal : SqlRefusal) (fuel : Fuel) (old ran : Desk) (session after : Session Item) (context : Context) → Gives n draw left locals ts (Err refusal) fuel (place_at (shared_of old) session.vars.context) (place_at (shared_of ran) context)
          → after ≡ with_context context session → ran.log ≡ old.log → EndsWith {A = List Value} (Err refusal) fuel old ran after (values_run (call_of identity draw n) left text tree locals ts (shared_of old) session)
      not_given_so (Sql code) fuel old ran session after context fails moved bytes =
          subst (λ one. EndsWith {A = List Value} (Err (Sql code)) fuel old ran one (values_run (call_of identity draw n) left text tree locals ts (shared_of old) session)) (sym moved)
          (subst (λ t. EndsWith {A = List Value} (Err (Sql code)) fuel old ran (with_context context session) t) (not_given_kept code fuel (shared_of old) (shared_of ran) session context fails) ((refl, refl, (ap (λ (l : Logged). l.waiting) bytes, tt)), refl))
      not_given_so NoMemory fuel old ran session after context fails moved bytes = tt

    pub failed_so : (s : Statement) (refusal : SqlRefusal) (fuel : Fuel) (old ran : Desk) (session after : Session Item) (context : Context) → Comes n draw left s (Err refusal) fuel (place_at (shared_of old) session.vars.context) (place_at (shared_of ran) context)
        → after ≡ with_context context session → ran.log ≡ old.log → EndsWith {A = Outcome} (Err refusal) fuel old ran after (giving told_given (statement_run (call_of identity draw n) left text s (shared_of old) session))
    failed_so s (Sql code) fuel old ran session after context fails moved bytes =
        subst (λ one. EndsWith {A = Outcome} (Err (Sql code)) fuel old ran one (giving told_given (statement_run (call_of identity draw n) left text s (shared_of old) session))) (sym moved)
        (subst (λ t. EndsWith {A = Outcome} (Err (Sql code)) fuel old ran (with_context context session) t) (failed_kept s code fuel (shared_of old) (shared_of ran) session context fails) ((refl, refl, (ap (λ (l : Logged). l.waiting) bytes, tt)), refl))
    failed_so s NoMemory fuel old ran session after context fails moved bytes = tt
