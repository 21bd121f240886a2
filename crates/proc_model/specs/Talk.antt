-- What a procedure asks of its runner, one thing after the other, and what becomes of what it is told.
use Rattle.std.specs.Prelude.{◌≡◌, ℕ, List, [], ◌∷◌, Option, Result}
use Rattle.val_types.specs.declared.value.Value.{Value}
use Rattle.sql_tree.specs.Tree.{Trees}
use Rattle.sql_tree.specs.Statement.{Statement}
use Rattle.sql_locals.specs.declared.locals.Local.{Local}

-- ---- what is asked and told

-- What a statement begins with: the levels of nesting and the turns of WHILE that are left, and how many UUIDs were made.
pub record Left : Type 0 where
  pub nesting : ℕ
  pub turns : ℕ
  pub uuids : ℕ

-- why a statement is refused: its error, and with 1205 the session that writes
pub record Refusal : Type 0 where
  pub code : ℕ
  pub holder : Option ℕ

-- what a statement did: how many rows it affected, and the rows that it shows
pub record Effect : Type 0 where
  pub affected : ℕ
  pub shown : Option (List (List Value))

-- What is told of a statement or of expressions: what came of them, and the turns left and the UUIDs made behind them.
pub record Told (A : Type 0) : Type 0 where
  pub result : Result A Refusal
  pub turns : ℕ
  pub uuids : ℕ

-- What a procedure does as its runner sees it: it comes to an end, or asks to run a statement, to evaluate expressions where
-- locals are in scope, or to assign a user variable, and goes on by what it is told.
pub data Talk (A : Type 0) : Type 0 where
  ends : A → Talk A
  runs : Left → Statement → (Told Effect → Talk A) → Talk A
  evaluates : Left → List Local → Trees → (Told (List Value) → Talk A) → Talk A
  assigns : List ℕ → Value → Talk A → Talk A

-- one talk behind the other
abbrev pub and_then : {A B : Type 0} → Talk A → (A → Talk B) → Talk B
and_then (ends a) next = next a
and_then (runs left s go) next = runs left s (λ told. and_then (go told) next)
and_then (evaluates left locals ts go) next = evaluates left locals ts (λ told. and_then (go told) next)
and_then (assigns n v go) next = assigns n v (and_then go next)

-- ---- with a runner

-- What a runner does, as relations of its state before, what it is asked, what it tells and its state after.
pub record Rules (S : Type 0) : Type 1 where
  pub ran : S → Left → Statement → Told Effect → S → Type 0
  pub gave : S → Left → List Local → Trees → Told (List Value) → S → Type 0
  pub assigned : S → List ℕ → Value → S → Type 0

-- the talk came to this end, and each thing that it asked led the runner from one state to the next
abbrev pub Led : {S A : Type 0} → Rules S → Talk A → S → A → S → Type 0
Led rules (ends a) before b after = (b ≡ a) × (after ≡ before)
Led {S} rules (runs left s go) before b after =
    (told : Told Effect) × (next : S) × rules.ran before left s told next × Led rules (go told) next b after
Led {S} rules (evaluates left locals ts go) before b after =
    (told : Told (List Value)) × (next : S) × rules.gave before left locals ts told next × Led rules (go told) next b after
Led {S} rules (assigns n v go) before b after = (next : S) × rules.assigned before n v next × Led rules go next b after

-- ---- with a list of what it is told

-- a thing that was asked, with what was told
pub data Exchange : Type 0 where
  ran : Left → Statement → Told Effect → Exchange
  gave : Left → List Local → Trees → Told (List Value) → Exchange
  assigned : List ℕ → Value → Exchange

-- the talk asks just these things, and comes to this end where it is told this
abbrev pub Asks : {A : Type 0} → Talk A → List Exchange → A → Type 0
Asks (ends a) es b = (es ≡ []) × (b ≡ a)
Asks (runs left s go) es b = (told : Told Effect) × (rest : List Exchange) × (es ≡ ran left s told ∷ rest) × Asks (go told) rest b
Asks (evaluates left locals ts go) es b =
    (told : Told (List Value)) × (rest : List Exchange) × (es ≡ gave left locals ts told ∷ rest) × Asks (go told) rest b
Asks (assigns n v go) es b = (rest : List Exchange) × (es ≡ assigned n v ∷ rest) × Asks go rest b

-- one thing that was asked led from one state to the other
abbrev pub LeadsTo : {S : Type 0} → Rules S → Exchange → S → S → Type 0
LeadsTo rules (ran left s told) before after = rules.ran before left s told after
LeadsTo rules (gave left locals ts told) before after = rules.gave before left locals ts told after
LeadsTo rules (assigned n v) before after = rules.assigned before n v after

-- one after the other, they led from one state to the other
abbrev pub AllLead : {S : Type 0} → Rules S → List Exchange → S → S → Type 0
AllLead rules [] before after = after ≡ before
AllLead {S} rules (e ∷ es) before after = (next : S) × LeadsTo rules e before next × AllLead rules es next after

-- ---- with a runner that is a function

-- What a runner does that is a function of its state.
pub record Steps (S : Type 0) : Type 0 where
  pub run : Left → Statement → S → Told Effect × S
  pub evaluate : Left → List Local → Trees → S → Told (List Value) × S
  pub assign : List ℕ → Value → S → S

-- the end to which it brings a talk, and its state there
abbrev pub brought : {S A : Type 0} → Steps S → Talk A → S → A × S
brought steps (ends a) state = (a, state)
brought steps (runs left s go) state = brought steps (go (steps.run left s state).0) (steps.run left s state).1
brought steps (evaluates left locals ts go) state = brought steps (go (steps.evaluate left locals ts state).0) (steps.evaluate left locals ts state).1
brought steps (assigns n v go) state = brought steps go (steps.assign n v state)

-- relations that say no more than a function does, of states as they are seen
pub record AreSteps {S T : Type 0} (rules : Rules S) (view : S → T) (steps : Steps T) : Type 0 where
  pub ran : (before after : S) (left : Left) (s : Statement) (told : Told Effect) → rules.ran before left s told after
      → steps.run left s (view before) ≡ (told, view after)
  pub gave : (before after : S) (left : Left) (locals : List Local) (ts : Trees) (told : Told (List Value)) → rules.gave before left locals ts told after
      → steps.evaluate left locals ts (view before) ≡ (told, view after)
  pub assigned : (before after : S) (n : List ℕ) (v : Value) → rules.assigned before n v after → steps.assign n v (view before) ≡ view after

-- ---- laws

-- what led a runner is a list of things asked and told, which led it one after the other
abbrev pub LedByExchanges : {S : Type 0} → (A : Type 0) → Rules S → Type 0
LedByExchanges {S} A rules =
    (talk : Talk A) (before after : S) (a : A) → Led rules talk before a after → (es : List Exchange) × Asks talk es a × AllLead rules es before after

-- and such a list leads it
abbrev pub ExchangesLead : {S : Type 0} → (A : Type 0) → Rules S → Type 0
ExchangesLead {S} A rules =
    (talk : Talk A) (es : List Exchange) (before after : S) (a : A) → Asks talk es a → AllLead rules es before after → Led rules talk before a after

-- a runner that is a function brings the talk to that end and that state
abbrev pub LedByFunction : {S : Type 0} → (T A : Type 0) → Rules S → Type 0
LedByFunction {S} T A rules =
    (view : S → T) (steps : Steps T) → AreSteps rules view steps
    → (talk : Talk A) (before after : S) (a : A) → Led rules talk before a after → brought steps talk (view before) ≡ (a, view after)
