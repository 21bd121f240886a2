-- What is kept of a statement, by what the code does.
use Rattle.std.proofs.Common.{◌≡◌, ℕ, ◌≤◌, List, [], ◌∷◌, Bool, true, false, length, Option, None, Result, Ok, Err, ℤ, refl, sym, ap, ◌∙◌, subst, arith}
use Rattle.val_types.specs.declared.change.Change.{Change}
use Rattle.val_types.specs.declared.refusal.SqlRefusal.{SqlRefusal}
use Rattle.val_types.specs.declared.refusal.SqlRefusal.TheVariants.{Sql, NoMemory}
use Rattle.port_traits.specs.declared.identity.Draw.{Draw}
use Rattle.port_traits.specs.declared.identity.Identity.{Identity}
use Rattle.proc_parts.specs.log_entries.declared.entries.Item.{Item}
use Rattle.proc_parts.specs.sql_meaning.Frames.{Context}
use Rattle.proc_parts.specs.sql_meaning.Running.{context_after}
use Rattle.sql_locals.specs.declared.locals.Local.{Local}
use Rattle.sql_tree.specs.Tree.{Trees}
use Rattle.proc_parts.specs.catalog_rules.Objects.{Object}
use Rattle.proc_parts.specs.sql_reach.Closing.{closed}
use Rattle.proc_parts.specs.sql_reach.Reasons.{reasons}
use Rattle.sql_tree.specs.Statement.{Statement, evaluate}
use Rattle.val_types.specs.declared.value.Value.{Value}
use Rattle.session_shared.specs.binlog_items.declared.before.Before.{Before}
use Rattle.session_shared.specs.binlog_items.Items.{numbers_of}
use Rattle.proc_parts.specs.prog_work.declared.meter.Outcome.{Outcome}
use Rattle.proc_parts.specs.proc_model.Talk.{Left}
use Rattle.session_shared.specs.session_model.Commands.{changes_of_own}
use Rattle.session_shared.specs.session_model.Formats.{logs_rows, warns}
use Rattle.session_shared.specs.session_model.Sessions.{Session, Shared}
use Rattle.session_statement.specs.Ran.{Came, Gave, Gives, place_at, told_given}
use Rattle.session_shared.specs.session_model.Running.{expressions_run, Fuel, Given, Turn, statement_run, values_run, with_context}
use Rattle.session_statement.specs.Calls.{call_of}
use Rattle.session_shared.specs.declared.desk.Desk.{Desk}
use Rattle.session_shared.specs.Desk.{has_any, own_behind, shared_of}
use Rattle.session_statement.specs.Keeping.{changes_kept, item_kept, item_made, refused_unless, statement_kept, with_last_id}
use Rattle.session_statement.specs.Turned.{EndsAs, EndsWith, IsTurn, giving}
use Rattle.session_statement.proofs.Settling.{came_kept, came_to, gave_kept, kept_as, not_given_so}
use Rattle.session_statement.proofs.Turns.{moves_from}

module _ (identity : Identity) (draw : Draw) (n : ℕ) where
  -- ---- changes

  pub no_changes : (item : List Change → Item) (warned : Bool) (changes : List Change) (mark : ℕ) (last_id : ℤ) (desk : Desk) (session : Session Item) → length changes ≡ 0
      → EndsAs (Ok false) desk desk session (changes_kept (call_of identity draw n) item warned changes mark last_id (shared_of desk) session)
  no_changes item warned [] mark last_id desk session none = ((refl, refl, (refl, tt)), refl)
  no_changes item warned (c ∷ cs) mark last_id desk session none = absurd (omega (arith, none))

  some_kept : (item : List Change → Item) (warned : Bool) (changes : List Change) (mark : ℕ) (last_id : ℤ) (shared : Shared) (session : Session Item) → 1 ≤ length changes
      → refused_unless (item_kept (call_of identity draw n) (item changes) mark shared session).given warned last_id (item_kept (call_of identity draw n) (item changes) mark shared session)
      ≡ changes_kept (call_of identity draw n) item warned changes mark last_id shared session
  some_kept item warned [] mark last_id shared session some = absurd (omega (arith, some))
  some_kept item warned (c ∷ cs) mark last_id shared session some = refl

  pub some_changes : (item : List Change → Item) (warned : Bool) (changes : List Change) (mark : ℕ) (last_id : ℤ) (old new : Desk) (session after : Session Item) (kept : Bool) → 1 ≤ length changes → kept ≡ true
      → IsTurn old new after kept (item_kept (call_of identity draw n) (item changes) mark (shared_of old) session)
      → EndsAs (Ok warned) old new after (changes_kept (call_of identity draw n) item warned changes mark last_id (shared_of old) session)
  some_changes item warned changes mark last_id old new session after kept some stays turn =
      let t : Turn Item Bool = item_kept (call_of identity draw n) (item changes) mark (shared_of old) session in
      let given : true ≡ t.given = sym stays ∙ turn.1 in
      subst (λ u. EndsAs (Ok warned) old new after u) (some_kept item warned changes mark last_id (shared_of old) session some)
      (subst (λ (b : Bool). EndsAs (Ok warned) old new after (refused_unless b warned last_id t)) given (turn.0, refl))

  pub too_many_changes : (item : List Change → Item) (warned : Bool) (changes : List Change) (mark : ℕ) (last_id : ℤ) (old new : Desk) (session after : Session Item) (kept : Bool) → 1 ≤ length changes → kept ≡ false
      → IsTurn old new after kept (item_kept (call_of identity draw n) (item changes) mark (shared_of old) session)
      → EndsAs {A = Bool} (Err (Sql 1197)) old new (with_last_id last_id after) (changes_kept (call_of identity draw n) item warned changes mark last_id (shared_of old) session)
  too_many_changes item warned changes mark last_id old new session after kept some lost turn =
      let t : Turn Item Bool = item_kept (call_of identity draw n) (item changes) mark (shared_of old) session in
      let given : false ≡ t.given = sym lost ∙ turn.1 in
      subst (λ u. EndsAs {A = Bool} (Err (Sql 1197)) old new (with_last_id last_id after) u) (some_kept item warned changes mark last_id (shared_of old) session some)
      (subst (λ (b : Bool). EndsAs {A = Bool} (Err (Sql 1197)) old new (with_last_id last_id after) (refused_unless b warned last_id t)) given
      ((turn.0.0, ap (with_last_id last_id) turn.0.1, turn.0.2), refl))

  -- by what the code asks first
  none_kept : (item : List Change → Item) (warned : Bool) (own : List Change) (mark : ℕ) (last_id : ℤ) (desk : Desk) (session : Session Item) → has_any own ≡ false
      → EndsAs (Ok false) desk desk session (changes_kept (call_of identity draw n) item warned own mark last_id (shared_of desk) session)
  none_kept item warned [] mark last_id desk session none = ((refl, refl, (refl, tt)), refl)
  none_kept item warned (c ∷ cs) mark last_id desk session none = cc

  pub nothing_kept : (text : List ℕ) (s : Statement) (before : Before) (first : Option ℤ) (mark : ℕ) (desk : Desk) (session : Session Item) → has_any (own_behind n mark (shared_of desk)) ≡ false
      → EndsAs (Ok false) desk desk session (statement_kept (call_of identity draw n) text s before first mark (shared_of desk) session)
  nothing_kept text s before first mark desk session none =
      let catalog : List Object = (shared_of desk).base.catalog in
      none_kept (item_made text s before first (logs_rows session.format (reasons catalog s)) catalog session.vars.context) (warns session.format (reasons catalog s)) (own_behind n mark (shared_of desk)) mark before.last_id desk session none

  -- as the code has the item
  pub kept_changes : (item : List Change → Item) (warned said : Bool) (own changes : List Change) (i : Item) (mark : ℕ) (last_id : ℤ) (old new : Desk) (session after : Session Item) (kept : Bool) → changes ≡ own → i ≡ item changes → said ≡ warned → 1 ≤ length changes → kept ≡ true
      → IsTurn old new after kept (item_kept (call_of identity draw n) i mark (shared_of old) session)
      → EndsAs (Ok said) old new after (changes_kept (call_of identity draw n) item warned own mark last_id (shared_of old) session)
  kept_changes item warned said own changes i mark last_id old new session after kept are is says some stays turn =
      subst (λ cs. EndsAs (Ok said) old new after (changes_kept (call_of identity draw n) item warned cs mark last_id (shared_of old) session)) are
      (subst (λ (w : Bool). EndsAs (Ok w) old new after (changes_kept (call_of identity draw n) item warned changes mark last_id (shared_of old) session)) (sym says)
      (some_changes item warned changes mark last_id old new session after kept some stays
      (subst (λ j. IsTurn old new after kept (item_kept (call_of identity draw n) j mark (shared_of old) session)) is turn)))

  pub lost_changes : (item : List Change → Item) (warned : Bool) (own changes : List Change) (i : Item) (mark : ℕ) (last_id : ℤ) (old new : Desk) (session after later : Session Item) (kept : Bool) → changes ≡ own → i ≡ item changes → 1 ≤ length changes → kept ≡ false → later ≡ with_last_id last_id after
      → IsTurn old new after kept (item_kept (call_of identity draw n) i mark (shared_of old) session)
      → EndsAs {A = Bool} (Err (Sql 1197)) old new later (changes_kept (call_of identity draw n) item warned own mark last_id (shared_of old) session)
  lost_changes item warned own changes i mark last_id old new session after later kept are is some lost moved turn =
      subst (λ one. EndsAs {A = Bool} (Err (Sql 1197)) old new one (changes_kept (call_of identity draw n) item warned own mark last_id (shared_of old) session)) (sym moved)
      (subst (λ cs. EndsAs {A = Bool} (Err (Sql 1197)) old new (with_last_id last_id after) (changes_kept (call_of identity draw n) item warned cs mark last_id (shared_of old) session)) are
      (too_many_changes item warned changes mark last_id old new session after kept some lost
      (subst (λ j. IsTurn old new after kept (item_kept (call_of identity draw n) j mark (shared_of old) session)) is turn)))

-- ---- how a statement ended

-- what was kept behind a run that logged nothing
ends_kept : {A : Type 0} (a : A) (warned : Bool) (fuel : Fuel) (old ran new : Desk) (after : Session Item) (t : Turn Item (Given A)) (u : Turn Item (Result Bool ℕ)) → t ≡ giving (came_to a fuel) u → ran.log ≡ old.log → ran.committed ≡ old.committed
    → EndsAs (Ok warned) ran new after u → EndsWith (Ok (record { value = a; warned = warned })) fuel old new after t
ends_kept a warned fuel old ran new after t u is bytes count ends =
    subst (λ v. EndsWith (Ok (record { value = a; warned = warned })) fuel old new after v) (sym is) (moves_from old ran new after (giving (came_to a fuel) u) bytes count ends.0, ap (came_to a fuel) ends.1)

ends_refused : {A : Type 0} (a : A) (code : ℕ) (fuel : Fuel) (old ran new : Desk) (after : Session Item) (t : Turn Item (Given A)) (u : Turn Item (Result Bool ℕ)) → t ≡ giving (came_to a fuel) u → ran.log ≡ old.log → ran.committed ≡ old.committed
    → EndsAs {A = Bool} (Err (Sql code)) ran new after u → EndsWith {A = A} (Err (Sql code)) fuel old new after t
ends_refused {A} a code fuel old ran new after t u is bytes count ends =
    subst (λ v. EndsWith {A = A} (Err (Sql code)) fuel old new after v) (sym is) (moves_from old ran new after (giving (came_to a fuel) u) bytes count ends.0, ap (came_to a fuel) ends.1)

-- whatever came of keeping it
ends_so : {A : Type 0} (a : A) (r : Result Bool SqlRefusal) (fuel : Fuel) (old ran new : Desk) (after : Session Item) (t : Turn Item (Given A)) (u : Turn Item (Result Bool ℕ)) → t ≡ giving (came_to a fuel) u → ran.log ≡ old.log → ran.committed ≡ old.committed
    → EndsAs r ran new after u → EndsWith (kept_as a r) fuel old new after t
ends_so a (Ok warned) fuel old ran new after t u is bytes count ends = ends_kept a warned fuel old ran new after t u is bytes count ends
ends_so a (Err (Sql code)) fuel old ran new after t u is bytes count ends = ends_refused a code fuel old ran new after t u is bytes count ends
ends_so a (Err NoMemory) fuel old ran new after t u is bytes count ends = tt

-- ---- a statement with what is kept of it

-- the DO with its locals closed in leaves of a context what the DO leaves
closed_do : (locals : List Local) (ts : Trees) (c : Context) (seeds : ℕ × ℕ) → context_after c (evaluate ts) seeds None ≡ context_after c (closed (evaluate ts) locals) seeds None
unfolding closed
closed_do locals ts c seeds = refl

pub closed_leaves : (s : Statement) (locals : List Local) (ts : Trees) → s ≡ evaluate ts → (c : Context) (seeds : ℕ × ℕ) → context_after c (evaluate ts) seeds None ≡ context_after c (closed s locals) seeds None
closed_leaves s locals ts is c seeds = closed_do locals ts c seeds ∙ ap (λ (one : Statement). context_after c (closed one locals) seeds None) (sym is)

module _ (identity : Identity) (draw : Draw) (n : ℕ) (left : Left) (text : List ℕ) where
  -- what is kept of a statement, from where its run left
  abbrev kept_of : Statement → Before → Option ℤ → ℕ → Shared → Context → Session Item → Turn Item (Result Bool ℕ)
  kept_of s before first mark ran context session =
      statement_kept (call_of identity draw n) text s before first mark ran (with_context context session)

  pub came_so : (s : Statement) (told : Outcome) (r : Result Bool SqlRefusal) (fuel : Fuel) (old ran new : Desk) (session after : Session Item) (context : Context) (mark : ℕ) (before : Before) → Came n draw left s told fuel (place_at (shared_of old) session.vars.context) (place_at (shared_of ran) context)
      → mark ≡ changes_of_own n (shared_of old) → before ≡ numbers_of session.vars.context → ran.log ≡ old.log → ran.committed ≡ old.committed
      → EndsAs r ran new after (kept_of s before told.first mark (shared_of ran) context session)
      → EndsWith (kept_as told r) fuel old new after (giving told_given (statement_run (call_of identity draw n) left text s (shared_of old) session))
  came_so s told r fuel old ran new session after context mark before came at numbers bytes count ends =
      ends_so told r fuel old ran new after (giving told_given (statement_run (call_of identity draw n) left text s (shared_of old) session)) (kept_of s (numbers_of session.vars.context) told.first mark (shared_of ran) context session)
      (came_kept identity draw n left text s told fuel (shared_of old) (shared_of ran) session context mark came at) bytes count
      (subst (λ b. EndsAs r ran new after (kept_of s b told.first mark (shared_of ran) context session)) numbers ends)

  -- the same of expressions
  pub gave_so : (tree : Statement) (locals : List Local) (ts : Trees) (vs : List Value) (r : Result Bool SqlRefusal) (fuel : Fuel) (old ran new : Desk) (session after : Session Item) (context : Context) (mark : ℕ) (before : Before)
      → ((c : Context) (seeds : ℕ × ℕ) → context_after c (evaluate ts) seeds None ≡ context_after c tree seeds None)
      → Gave n draw left locals ts vs fuel (place_at (shared_of old) session.vars.context) (place_at (shared_of ran) context)
      → mark ≡ changes_of_own n (shared_of old) → before ≡ numbers_of session.vars.context → ran.log ≡ old.log → ran.committed ≡ old.committed
      → EndsAs r ran new after (kept_of tree before None mark (shared_of ran) context session)
      → EndsWith (kept_as vs r) fuel old new after (values_run (call_of identity draw n) left text tree locals ts (shared_of old) session)
  gave_so tree locals ts vs r fuel old ran new session after context mark before same gave at numbers bytes count ends =
      ends_so vs r fuel old ran new after (values_run (call_of identity draw n) left text tree locals ts (shared_of old) session) (kept_of tree (numbers_of session.vars.context) None mark (shared_of ran) context session)
      (gave_kept identity draw n left text tree locals ts same vs fuel (shared_of old) (shared_of ran) session context mark gave at) bytes count
      (subst (λ b. EndsAs r ran new after (kept_of tree b None mark (shared_of ran) context session)) numbers ends)

  -- of a session's, where no local is in scope
  pub said_so : (s : Statement) (locals : List Local) (ts : Trees) (vs : List Value) (r : Result Bool SqlRefusal) (fuel : Fuel) (old ran new : Desk) (session after : Session Item) (context : Context) (mark : ℕ) (before : Before)
      → s ≡ evaluate ts → locals ≡ [] → Gave n draw left locals ts vs fuel (place_at (shared_of old) session.vars.context) (place_at (shared_of ran) context)
      → mark ≡ changes_of_own n (shared_of old) → before ≡ numbers_of session.vars.context → ran.log ≡ old.log → ran.committed ≡ old.committed
      → EndsAs r ran new after (kept_of s before None mark (shared_of ran) context session)
      → EndsWith (kept_as vs r) fuel old new after (expressions_run (call_of identity draw n) left text ts (shared_of old) session)
  said_so s locals ts vs r fuel old ran new session after context mark before is none gave at numbers bytes count ends =
      gave_so (evaluate ts) [] ts vs r fuel old ran new session after context mark before (λ c seeds. refl)
      (subst (λ (ls : List Local). Gave n draw left ls ts vs fuel (place_at (shared_of old) session.vars.context) (place_at (shared_of ran) context)) none gave) at numbers bytes count
      (subst (λ one. EndsAs r ran new after (kept_of one before None mark (shared_of ran) context session)) is ends)

  pub not_said_so : (locals : List Local) (ts : Trees) (refusal : SqlRefusal) (fuel : Fuel) (old ran : Desk) (session : Session Item) (context : Context)
      → locals ≡ [] → Gives n draw left locals ts (Err refusal) fuel (place_at (shared_of old) session.vars.context) (place_at (shared_of ran) context) → ran.log ≡ old.log
      → EndsWith {A = List Value} (Err refusal) fuel old ran (with_context context session) (expressions_run (call_of identity draw n) left text ts (shared_of old) session)
  not_said_so locals ts refusal fuel old ran session context none gives bytes =
      not_given_so identity draw n left text (evaluate ts) [] ts (λ c seeds. refl) refusal fuel old ran session (with_context context session) context
      (subst (λ (ls : List Local). Gives n draw left ls ts (Err refusal) fuel (place_at (shared_of old) session.vars.context) (place_at (shared_of ran) context)) none gives) refl bytes
