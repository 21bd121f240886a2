-- What a procedure asks to run is read as the tree that it asks to run: the parts of its body are such as the parser can give, and what
-- nothing refuses to close has a short text that is read.
use Rattle.std.proofs.Common.{◌≡◌, ◌≤◌, ◌^◌, ℕ, Bool, true, false, List, [], ◌∷◌, ◌++◌, length, Option, Some, None, refl, cond, arith}
use Rattle.std.specs.Prelude.{nat_le, nat_lt}
use Rattle.std.specs.List.{AllByRecursion, list_all, list_any}
use Rattle.std.specs.Option.{option_or}
use Rattle.std.proofs.lemmas.Bool.{and_parts, leb-true, le-leb, ltb-false}
use Rattle.std.proofs.lemmas.List.Elements.{All-weaker, recursion_from_All}
use Rattle.sql_tree.specs.Statement.{Statement, insert_into, replace_into, update_rows, delete_rows, select, evaluate}
use Rattle.sql_tree.specs.Depth.{depth_of}
use Rattle.sql_tree.specs.Well.{IsWell, is_whole, is_well_step}
use Rattle.sql_locals.specs.declared.locals.Local.{Local}
use Rattle.sql_locals.specs.Locals.{has_literal}
use Rattle.sql_print.specs.StatementSpelling.{spelling}
use Rattle.name_const_laws.specs.catalog_rules.Nodes.{nodes_of}
use Rattle.session_model.specs.text_answers.Answers.{IsAnswered, a_statement, text_answer}
use Rattle.name_const_laws.specs.sql_meaning.Running.{is_ill_limit}
use Rattle.name_const_laws.specs.sql_meaning.Within.{steps_of, dos_of, IsStepIn, IsDoFor, StepsAreWell, DosAreWell}
use Rattle.name_const_laws.specs.sql_reach.Closing.{closed}
use Rattle.name_const_laws.specs.Laws.{ClosedIsAllowed, ClosedIsRead, FittedIsShort}
use Rattle.session_model.specs.proc_model.Closing.{most_bytes, is_nameless, closing_refusal}
use Rattle.session_model.specs.proc_model.Procedures.{is_plain}
use Rattle.session_replays.specs.Bodies.{is_well_body}
use Rattle.session_replays.proofs.Sizing.{and_join}

-- ---- parts of a body

-- A statement of a body that the parser can give.
pub record IsSound (s : Statement) : Type 0 where
  pub well : is_well_step s ≡ true
  pub deep : depth_of s ≤ 200

pub body_sound : (s : Statement) → is_well_body s ≡ true → IsSound s
body_sound s e =
    let both = and_parts (is_well_step s) (nat_le (depth_of s) 200) e in
    record { well = both.0; deep = leb-true (depth_of s) 200 both.1 }

-- the front and the back of a list of such things
pub split_such : {A : Type 0} (such : A → Type 0) (xs ys : List A) → AllByRecursion such (xs ++ ys) → AllByRecursion such xs × AllByRecursion such ys
split_such such [] ys a = (tt, a)
split_such such (x ∷ xs) ys a = let more = split_such such xs ys a.1 in ((a.0, more.0), more.1)

-- What holds of the parts of a statement that the parser can give.
pub record PartsAreWell : Type 0 where
  pub steps : StepsAreWell
  pub dos : DosAreWell

module _ (parts : PartsAreWell) (s : Statement) (h : IsSound s) where
  pub steps_sound : AllByRecursion IsSound (steps_of s)
  steps_sound = recursion_from_All IsSound (steps_of s) (All-weaker (IsStepIn s) IsSound by (steps_of s) (parts.steps s h.well))
    where
      by : (step : Statement) → IsStepIn s step → IsSound step
      by step i = record { well = i.well; deep = omega arith }

  pub dos_well : AllByRecursion IsWell (dos_of s)
  dos_well = recursion_from_All IsWell (dos_of s) (All-weaker (IsDoFor s) IsWell by (dos_of s) (parts.dos s h.well))
    where
      deep : (one : Statement) → IsDoFor s one → depth_of one ≤ 200
      deep one i = omega arith

      by : (one : Statement) → IsDoFor s one → IsWell one
      by one i = and_join (is_whole one) (nat_le (depth_of one) 200) i.well (le-leb (depth_of one) 200 (deep one i))

-- ---- changes, SELECT and DO

plain_whole : (s : Statement) → is_plain s ≡ true → is_well_step s ≡ true → is_whole s ≡ true
plain_whole (insert_into ignore t names supply sets) p w = w
plain_whole (replace_into t names supply) p w = w
plain_whole (update_rows t sets condition os limit) p w = w
plain_whole (delete_rows t condition os limit) p w = w
plain_whole (select q) p w = w
plain_whole (evaluate ts) p w = w
plain_whole _ p w = cc

pub plain_well : (s : Statement) → is_plain s ≡ true → IsSound s → IsWell s
plain_well s p h = and_join (is_whole s) (nat_le (depth_of s) 200) (plain_whole s p h.well) (le-leb (depth_of s) 200 h.deep)

-- ---- what is closed

-- A statement whose canonical text is read as it, and may be a command; it is a change, a SELECT or a DO.
pub record IsSaid (s : Statement) : Type 0 where
  pub text : text_answer (spelling s) ≡ a_statement s
  pub short : length (spelling s) ≤ 2 ^ 20
  pub stands : is_plain s ≡ true

-- A statement that is such with locals closed in, where each LIMIT is a number.
pub record IsClosed (s : Statement) (locals : List Local) : Type 0 where
  pub said : IsSaid (closed s locals)
  pub limits : list_any (is_ill_limit locals) (nodes_of s) ≡ false

-- what nothing refuses to close is such
abbrev pub ClosingSays : Type 0
ClosingSays = (s : Statement) (locals : List Local) → is_plain s ≡ true → IsWell s → closing_refusal s locals ≡ None → IsClosed s locals

closed_plain : (s : Statement) (locals : List Local) → is_plain s ≡ true → is_plain (closed s locals) ≡ true
unfolding closed
closed_plain (insert_into ignore t names supply sets) locals p = refl
closed_plain (replace_into t names supply) locals p = refl
closed_plain (update_rows t sets condition os limit) locals p = refl
closed_plain (delete_rows t condition os limit) locals p = refl
closed_plain (select q) locals p = refl
closed_plain (evaluate ts) locals p = refl
closed_plain _ locals p = cc

-- its text is not too long, each LIMIT is a number, and each local holds what a literal can say
none_refused : (long nameless ill said : Bool)
    → cond {A = Option ℕ} long (Some 1153) (option_or (cond nameless (Some 1327) (cond ill (Some 30002) None)) (cond said None (Some 30002))) ≡ None
    → (long ≡ false) × (ill ≡ false) × (said ≡ true)
none_refused true nameless ill said e = cc
none_refused false true ill said e = cc
none_refused false false true said e = cc
none_refused false false false false e = cc
none_refused false false false true e = (refl, refl, refl)

pub closing_says : ClosedIsRead → ((text : List ℕ) → IsAnswered text) → ClosingSays
unfolding closing_refusal
closing_says reads answers s locals p well e =
    let text : List ℕ = spelling (closed s locals) in
    let none = none_refused (nat_lt most_bytes (length text)) (list_any (is_nameless locals) (nodes_of s)) (list_any (is_ill_limit locals) (nodes_of s)) (list_all has_literal locals) e in
    record {
      said = record {
        text = ((answers text).statement (closed s locals)).0 (reads s locals none.2 well);
        short = ltb-false most_bytes (length text) none.0;
        stands = closed_plain s locals p;
      };
      limits = none.1;
    }

-- What is known of closing where a procedure runs.
pub record ClosingLaws : Type 0 where
  pub fits : FittedIsShort
  pub allowed : ClosedIsAllowed
  pub parts : PartsAreWell
  pub says : ClosingSays
