-- What one statement of a session leaves says itself: a change, a SELECT or a DO by the text of the command, and a SET as the DO over
-- its expressions.
use Rattle.std.proofs.Common.{◌≡◌, ◌≤◌, ◌^◌, ◌==◌, ℕ, zero, suc, Bool, true, false, List, [], ◌∷◌, ◌++◌, find, length, take, Option, Some, None, Result, Ok, Err, ℤ, refl, sym, ◌∙◌, ap, subst, cond}
use Rattle.std.specs.Prelude.{nat_le, flat_map}
use Rattle.std.proofs.lemmas.Bool.{and_parts, or_parts, ltb-false, leb-true}
use Rattle.std.proofs.lemmas.List.Folds.{list_any-append}
use Rattle.val_types.specs.declared.change.Change.{Change}
use Rattle.val_types.specs.declared.value.Value.{Value}
use Rattle.sql_tree.specs.Tree.{Tree, Trees, tree}
use Rattle.sql_tree.specs.Statement.{Statement, evaluate, set_all, call_procedure}
use Rattle.sql_tree.specs.Depth.{depth_of}
use Rattle.sql_tree.specs.Well.{IsWell, is_whole, is_well_step}
use Rattle.sql_tree.specs.declared.statements.Target.{Target}
use Rattle.sql_syntax.specs.Texts.{reads}
use Rattle.sql_print.specs.StatementSpelling.{spelling}
use Rattle.name_const_laws.specs.catalog_rules.Bodies.{has_code}
use Rattle.name_const_laws.specs.catalog_rules.Checks.{session_scope, statement_refusal, statement_codes, node_codes, check_order}
use Rattle.name_const_laws.specs.catalog_rules.Nodes.{Node, no_sight, nodes_of_tree, nodes_of_trees, nodes_of_assignments}
use Rattle.name_const_laws.specs.catalog_rules.Objects.{Object}
use Rattle.name_const_laws.specs.log_entries.declared.entries.Entry.{Entry}
use Rattle.name_const_laws.specs.log_entries.declared.entries.Entry.TheVariants.{Transaction, Definition, LogStart}
use Rattle.answer_text.specs.declared.answer.Answer.{Answer}
use Rattle.session_model.specs.text_answers.Answers.{a_statement, text_answer, AnswersAreWell, IsAnswered}
use Rattle.name_const_laws.specs.sql_meaning.Scenes.{Scene, Ending, done, failed}
use Rattle.name_const_laws.specs.sql_meaning.Frames.{Context}
use Rattle.name_const_laws.specs.sql_meaning.Changing.{Did}
use Rattle.name_const_laws.specs.sql_meaning.Running.{context_after}
use Rattle.name_const_laws.specs.sql_meaning.Within.{values_assigned}
use Rattle.session_model.specs.proc_model.Talk.{Left}
use Rattle.session_model.specs.proc_model.Procedures.{assignments_of, is_plain}
use Rattle.independence_laws.specs.session_ctx.declared.session.SessionVars.{SessionVars}
use Rattle.session_model.specs.Answers.{refused}
use Rattle.session_model.specs.declared.format.Format.{Format}
use Rattle.session_model.specs.Sessions.{Open, Session, Shared}
use Rattle.session_model.specs.Running.{Known, Call, Turn, Given, full, is_other, items_of, keep, takes_too_much, made_behind, with_counters, with_context, undone, settle, ended, given_by, is_warned, item_of, scene_for, fitted_run, lock_refusal}
use Rattle.session_model.specs.Commands.{answered, unless_refused, code_answer, plain_turn, is_open, is_too_long, set_by, set_expressions, set_misfit, set_turn}
use Rattle.session_model.specs.Machine.{Whole, whole}
use Rattle.session_model.proofs.Assigning.{all_keep}
use Rattle.session_replays.specs.Texts.{SaysItself, AllSay, EntriesSay}
use Rattle.session_replays.proofs.Closing.{IsSound, PartsAreWell, dos_well}

-- ---- items and entries put together and cut

-- the first items of some
pub say_front : (k : ℕ) (items : List Whole) → AllSay items → AllSay (take k items)
say_front zero items a = tt
say_front (suc k) [] a = tt
say_front (suc k) (i ∷ is) a = (a.0, say_front k is a.1)

-- entries behind others
pub say_behind : (front back : List (Entry Whole)) → EntriesSay front → EntriesSay back → EntriesSay (front ++ back)
say_behind [] back f b = b
say_behind (Transaction stamp server items ∷ es) back f b = (f.0, say_behind es back f.1 b)
say_behind (Definition stamp server i ∷ es) back f b = say_behind es back f b
say_behind (LogStart stamp server ∷ es) back f b = say_behind es back f b

-- one item more
say_more : (items : List Whole) (item : Whole) → AllSay items → SaysItself item → AllSay (items ++ item ∷ [])
say_more [] item a s = (s, tt)
say_more (i ∷ is) item a s = (a.0, say_more is item a.1 s)

-- ---- one statement

-- a turn leaves only items that say so
abbrev pub Leaves : {A : Type 0} → Turn Whole A → Type 0
Leaves t = EntriesSay t.committed × AllSay (items_of t.session.transaction)

keep_leaves : {A : Type 0} (call : Call Whole) (item : Whole) (scene : Scene) (shared : Shared) (vars : SessionVars) (format : Format) (t : Option (Open Whole)) (a : A) → SaysItself item → AllSay (items_of t)
    → Leaves (keep call item scene shared (record { vars = vars; format = format; transaction = t }) a)
keep_leaves call item scene shared vars format None a s k = (((s, tt), tt), tt)
keep_leaves call item scene shared vars format (Some open') a s k = (tt, say_more open'.items item k s)

settle_leaves : {A : Type 0} (call : Call Whole) (item : List Change → Whole) (made : List Change) (scene : Scene) (shared : Shared) (session : Session Whole) (given : Given A) (refusal : Turn Whole (Given A))
    → ((cs : List Change) → SaysItself (item cs)) → AllSay (items_of session.transaction) → Leaves refusal → Leaves (settle call item made scene shared session given refusal)
settle_leaves call item [] scene shared session given refusal s k r = (tt, k)
settle_leaves {A = A} call item (c ∷ cs) scene shared session given refusal s k r = by (takes_too_much call session.transaction (item (c ∷ cs)))
  where
    by : (b : Bool) → Leaves {A = Given A} (cond b refusal (keep call (item (c ∷ cs)) scene shared session given))
    by true = r
    by false = keep_leaves call (item (c ∷ cs)) scene shared session.vars session.format session.transaction given (s (c ∷ cs)) k

module _ (text : List ℕ) (s : Statement) (shared : Shared) (read : text_answer text ≡ a_statement s) (short : length text ≤ 2 ^ 20) (plain : is_plain s ≡ true)
    (allowed : statement_refusal shared.base.catalog session_scope s ≡ None) where
  item_says : (call : Call Whole) (known : call.known ≡ whole) (format : Format) (left : Left) (context : Context) (first : Option ℤ) (cs : List Change) → SaysItself (item_of call format left text s context shared first cs)
  item_says call known format left context first cs =
      subst (λ (k : Known Whole). SaysItself (item_of (record call { known = k }) format left text s context shared first cs)) (sym known)
      (record { text = read; short = short; stands = plain; allowed = allowed })

  pub ended_leaves : {A : Type 0} (call : Call Whole) → call.known ≡ whole → (left : Left) (session : Session Whole) (first last_id : A → Option ℤ) (e : Ending A) → AllSay (items_of session.transaction)
      → Leaves (ended call left text s shared session first last_id (scene_for call.number left session.vars.context shared) e)
  ended_leaves call known left session first last_id (done a scene) k =
      let made = made_behind (is_other call.number shared.writer) (scene_for call.number left session.vars.context shared) scene in
      settle_leaves call (item_of call session.format left text s session.vars.context shared (first a)) made scene (with_counters scene shared)
      (with_context (context_after session.vars.context s scene.seeds (last_id a)) session) (given_by a scene (is_warned session.format shared.base.catalog s made)) (undone 1197 s shared session scene)
      (λ cs. item_says call known session.format left session.vars.context (first a) cs) k (tt, k)
  ended_leaves call known left session first last_id (failed code scene) k = (tt, k)

pub unless_leaves : (refusal : Option Answer) (shared : Shared) (session : Session Whole) (t : Turn Whole Answer) → AllSay (items_of session.transaction) → Leaves t → Leaves (unless_refused refusal shared session t)
unless_leaves None shared session t k l = l
unless_leaves (Some answer) shared session t k l = (tt, k)

pub checked_leaves : (code : Option ℕ) (shared : Shared) (session : Session Whole) (t : Turn Whole Answer) → AllSay (items_of session.transaction) → (code ≡ None → Leaves t)
    → Leaves (unless_refused (code_answer code) shared session t)
checked_leaves None shared session t k l = l refl
checked_leaves (Some code) shared session t k l = (tt, k)

pub short_leaves : (text : List ℕ) (answer : Answer) (shared : Shared) (session : Session Whole) (t : Turn Whole Answer) → AllSay (items_of session.transaction) → (length text ≤ 2 ^ 20 → Leaves t)
    → Leaves (cond (is_too_long text) (answered answer shared session) t)
short_leaves text answer shared session t k l = by (is_too_long text) refl
  where
    by : (b : Bool) → is_too_long text ≡ b → Leaves (cond b (answered answer shared session) t)
    by true e = (tt, k)
    by false e = l (ltb-false (2 ^ 20) (length text) e)

pub plain_leaves : (call : Call Whole) → call.known ≡ whole → (text : List ℕ) (s : Statement) (shared : Shared) (session : Session Whole) → text_answer text ≡ a_statement s → length text ≤ 2 ^ 20 → is_plain s ≡ true
    → AllSay (items_of session.transaction) → Leaves (plain_turn call text s shared session)
plain_leaves call known text s shared session read short plain k =
    checked_leaves (statement_refusal shared.base.catalog session_scope s) shared session _ k (λ allowed.
    unless_leaves (lock_refusal call.number shared s) shared session _ k
    (ended_leaves text s shared read short plain allowed call known full session (λ (did : Did). did.first) (λ (did : Did). did.last_id) _ k))

-- ---- the DO over some expressions

-- fewer codes are met
fewer : (met more order : List ℕ) → find (has_code (met ++ more)) order ≡ None → find (has_code more) order ≡ None
fewer met more [] e = refl
fewer met more (c ∷ cs) e = by (has_code (met ++ more) c) refl e (λ x. fewer met more cs x)
  where
    is_met : ℕ → Bool
    is_met one = one == c

    by : (b : Bool) → has_code (met ++ more) c ≡ b → cond b (Some c) (find (has_code (met ++ more)) cs) ≡ None → (find (has_code (met ++ more)) cs ≡ None → find (has_code more) cs ≡ None)
        → cond (has_code more c) (Some c) (find (has_code more) cs) ≡ None
    by true q x rest = cc
    by false q x rest =
        let none : has_code more c ≡ false = (or_parts (has_code met c) (has_code more c) (sym (list_any-append is_met met more) ∙ q)).1 in
        ap (λ (b : Bool). cond b (Some c) (find (has_code more) cs)) none ∙ rest x

-- what refuses the DO over its arguments refuses a CALL
pub arguments_allowed : (catalog : List Object) (n : List ℕ) (ts : Trees) → statement_refusal catalog session_scope (call_procedure n ts) ≡ None → statement_refusal catalog session_scope (evaluate ts) ≡ None
unfolding statement_refusal
arguments_allowed catalog n ts e =
    fewer (statement_codes catalog session_scope (call_procedure n ts)) (flat_map (node_codes catalog session_scope) (nodes_of_trees ts no_sight)) check_order e

same_nodes : (as' : List (Target × Tree)) → nodes_of_assignments as' no_sight ≡ nodes_of_trees (set_expressions as') no_sight
same_nodes [] = refl
same_nodes (a ∷ as') = ap (λ (nodes : List Node). nodes_of_tree a.1 no_sight ++ nodes) (same_nodes as')

-- and what refuses the DO over its expressions refuses a SET
do_allowed : (catalog : List Object) (as' : List (Target × Tree)) → statement_refusal catalog session_scope (set_all as') ≡ None → statement_refusal catalog session_scope (evaluate (set_expressions as')) ≡ None
unfolding statement_refusal
do_allowed catalog as' e =
    let codes : List Node → List ℕ = λ nodes. flat_map (node_codes catalog session_scope) nodes in
    let set : find (has_code (statement_codes catalog session_scope (set_all as') ++ codes (nodes_of_assignments as' no_sight))) check_order ≡ None = e in
    ap (λ (nodes : List Node). find (has_code (codes nodes)) check_order) (sym (same_nodes as'))
    ∙ fewer (statement_codes catalog session_scope (set_all as')) (codes (nodes_of_assignments as' no_sight)) check_order set

same_values : (as' : List (Target × Tree)) → values_assigned as' ≡ set_expressions as'
same_values [] = refl
same_values (a ∷ as') = ap (tree a.1) (same_values as')

-- a statement that the parser can give, whose steps and expressions it can give, too
pub whole_sound : (s : Statement) → is_whole s ≡ is_well_step s → IsWell s → IsSound s
whole_sound s e w =
    let both = and_parts (is_whole s) (nat_le (depth_of s) 200) w in
    record { well = sym e ∙ both.0; deep = leb-true (depth_of s) 200 both.1 }

-- What is known of texts.
pub record TextLaws : Type 0 where
  pub well : AnswersAreWell
  pub prints : (s : Statement) → IsWell s → reads (spelling s) s
  pub answers : (text : List ℕ) → IsAnswered text

pub spelling_read : TextLaws → (s : Statement) → IsWell s → text_answer (spelling s) ≡ a_statement s
spelling_read texts s w = ((texts.answers (spelling s)).statement s).0 (texts.prints s w)

module _ (texts : TextLaws) (parts : PartsAreWell) where
  do_well : (as' : List (Target × Tree)) → IsWell (set_all as') → IsWell (evaluate (set_expressions as'))
  do_well [] w = cc
  do_well (a ∷ as') w =
      subst (λ (ts : Trees). IsWell (evaluate ts)) (same_values (a ∷ as')) (dos_well parts (set_all (a ∷ as')) (whole_sound (set_all (a ∷ as')) refl w)).0

  set_by_leaves : (as' : List (Target × Tree)) (r : Result (List Value) ℕ) (t : Turn Whole (Given (List Value))) → Leaves t → Leaves (set_by as' r t)
  set_by_leaves as' (Err code) t l = l
  set_by_leaves as' (Ok vs) t l = (l.0, subst (λ (u : Option (Open Whole)). AllSay (items_of u)) (sym (all_keep (assignments_of as' vs) t.session)) l.1)

  -- a SET as the DO over its expressions
  pub set_leaves : (call : Call Whole) → call.known ≡ whole → (as' : List (Target × Tree)) (shared : Shared) (session : Session Whole) → IsWell (set_all as') → AllSay (items_of session.transaction)
      → Leaves (set_turn call as' shared session)
  set_leaves call known as' shared session w k =
      let ts : Trees = set_expressions as' in
      let printed : List ℕ = spelling (evaluate ts) in
      let misfit : List Value → Option ℕ = set_misfit (is_open session) as' in
      let run : Turn Whole (Given (List Value)) = fitted_run call full printed ts misfit shared session in
      short_leaves printed (refused 1153) shared session _ k (λ short.
      checked_leaves (statement_refusal shared.base.catalog session_scope (set_all as')) shared session _ k (λ allowed.
      unless_leaves (lock_refusal call.number shared (evaluate ts)) shared session _ k
      (set_by_leaves as' run.given.result run
      (ended_leaves printed (evaluate ts) shared (spelling_read texts (evaluate ts) (do_well as' w)) short refl (do_allowed shared.base.catalog as' allowed) call known full session
      (λ (vs : List Value). None) (λ (vs : List Value). None) _ k))))
