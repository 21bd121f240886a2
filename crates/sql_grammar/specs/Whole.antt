-- Whole texts: what is read to the end, and where else reading stops.
use Rattle.std.specs.Prelude.{◌≡◌, ℕ, suc, ◌≤◌, ◌↔◌, List, [], ◌∷◌, ◌++◌, Result, Ok, Err}
use Rattle.sql_grammar.specs.Reader.{Fault, Syntax, Deep, Read, left_of}
use Rattle.sql_grammar.specs.Rule.{Rule}

-- a value behind which nothing is left
abbrev pub ended : {T A : Type 0} → A → List T → Result A (Fault T)
ended a [] = Ok a
ended a (t ∷ ts) = Err (Syntax (t ∷ ts))

-- what was read, where it was all
abbrev pub whole_of : {T A : Type 0} → Read T A → Result A (Fault T)
whole_of (Ok x) = ended x.0 x.1
whole_of (Err e) = Err e

-- all of the tokens are read
abbrev pub read_whole : {T A : Type 0} → Rule T A → List T → Result A (Fault T)
read_whole r ts = whole_of (r.read ts)

-- with some number of constructs to be opened, the tokens go on to a whole text
abbrev pub Begins : {T A : Type 0} → (ℕ → Rule T A) → List T → Type 0
Begins {T} {A} rule front = (e : ℕ) × (us : List T) × (a : A) × (rule e).texts a (front ++ us) []

-- with some number of constructs to be opened, the tokens are a whole text
abbrev pub IsText : {T A : Type 0} → (ℕ → Rule T A) → List T → Type 0
IsText {T} {A} rule ts = (e : ℕ) × (a : A) × (rule e).texts a ts []

-- No whole text begins with what stands before and the next token, whatever may be opened. Where nothing is left, the
-- tokens end too soon.
abbrev pub Forbids : {T A : Type 0} → (ℕ → Rule T A) → List T → List T → Type 0
Forbids rule before [] = IsText rule before → ⊥
Forbids rule before (x ∷ more) = Begins rule (before ++ x ∷ []) → ⊥

-- The place of a syntax error: no more constructs are opened before it than may be, a text begins with what stands
-- before it, and none goes on as the tokens do.
abbrev pub IsSyntaxAt : {T A : Type 0} → (ℕ → Rule T A) → ℕ → List T → List T → Type 0
IsSyntaxAt rule d before rest = (rule d).fronts before × Begins rule before × Forbids rule before rest

-- The place of a construct too many: no more are opened before it than may be, but one more with its token, with
-- which a text begins.
abbrev pub IsDeepAt : {T A : Type 0} → (ℕ → Rule T A) → ℕ → List T → List T → Type 0
IsDeepAt rule d before [] = ⊥
IsDeepAt rule d before (x ∷ more) =
    (rule d).fronts before × ((rule d).fronts (before ++ x ∷ []) → ⊥) × (rule (suc d)).fronts (before ++ x ∷ []) × Begins rule (before ++ x ∷ [])

-- the place of a fault of either kind
abbrev pub IsFaultAt : {T A : Type 0} → (ℕ → Rule T A) → ℕ → Fault T → List T → Type 0
IsFaultAt rule d (Syntax rest) before = IsSyntaxAt rule d before rest
IsFaultAt rule d (Deep rest) before = IsDeepAt rule d before rest

-- the fault is where it belongs
abbrev pub IsPlaced : {T A : Type 0} → (ℕ → Rule T A) → ℕ → List T → Fault T → Type 0
IsPlaced {T} rule d ts e = (before : List T) × (ts ≡ before ++ left_of e) × IsFaultAt rule d e before

-- ---- what a rule for whole texts promises
-- with each number of constructs to be opened, exactly the texts are read, each as its value
abbrev pub ReadsTexts : {T A : Type 0} → (ℕ → Rule T A) → Type 0
ReadsTexts {T} {A} rule = (d : ℕ) (ts : List T) (a : A) → (rule d).texts a ts [] ↔ (read_whole (rule d) ts ≡ Ok a)

-- a text has one value
abbrev pub ReadsOnce : {T A : Type 0} → (ℕ → Rule T A) → Type 0
ReadsOnce {T} {A} rule = (d : ℕ) (ts : List T) (a b : A) → (rule d).texts a ts [] → (rule d).texts b ts [] → a ≡ b

-- exactly the faults come that belong there
abbrev pub PlacesFaults : {T A : Type 0} → (ℕ → Rule T A) → Type 0
PlacesFaults {T} rule = (d : ℕ) (ts : List T) (e : Fault T) → (read_whole (rule d) ts ≡ Err e) ↔ IsPlaced rule d ts e

-- what a text begins with is a front, with the same number of constructs to be opened
abbrev pub TextsBegin : {T A : Type 0} → (ℕ → Rule T A) → Type 0
TextsBegin {T} {A} rule = (d : ℕ) (us more : List T) (a : A) → (rule d).texts a (us ++ more) [] → (rule d).fronts us

-- and so is what a front begins with
abbrev pub FrontsBegin : {T A : Type 0} → (ℕ → Rule T A) → Type 0
FrontsBegin {T} rule = (d : ℕ) (us more : List T) → (rule d).fronts (us ++ more) → (rule d).fronts us

-- a front goes on to a text, where enough may be opened
abbrev pub FrontsGoOn : {T A : Type 0} → (ℕ → Rule T A) → Type 0
FrontsGoOn {T} rule = (d : ℕ) (us : List T) → (rule d).fronts us → Begins rule us

-- where more may be opened, no text and no front is lost
abbrev pub Widens : {T A : Type 0} → (ℕ → Rule T A) → Type 0
Widens {T} {A} rule =
    (d e : ℕ) → d ≤ e → ((a : A) (ts rest : List T) → (rule d).texts a ts rest → (rule e).texts a ts rest) × ((us : List T) → (rule d).fronts us → (rule e).fronts us)

-- a rule for whole texts and its reading function are exact
abbrev pub IsExact : {T A : Type 0} → (ℕ → Rule T A) → Type 0
IsExact rule = ReadsTexts rule × ReadsOnce rule × PlacesFaults rule × TextsBegin rule × FrontsBegin rule × FrontsGoOn rule × Widens rule
