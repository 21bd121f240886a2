-- Groups as they are spelled, apart from how they are read.
use Rattle.std.specs.Prelude.{◌≡◌, ℕ, true, false, List, [], ◌∷◌, ◌++◌, map, codes, Option, Some, None}
use Rattle.val_types.specs.declared.value.Value.{Value}
use Rattle.event_codec.specs.declared.event.IntVarKind.TheVariants.{LastInsertId, InsertId}
use Rattle.event_codec.specs.Event.{Body, query, int_var, rand, rotate, user_var, format_description, xid, table_map, rows, Query, Map, Rows}
use Rattle.event_codec.specs.Reading.{Stop, short, damaged, foreign}
use Rattle.log_model.specs.Events.{Placed}
use Rattle.log_model.specs.Groups.{Stage, first, between, Move, go, close, refuse, move, find, txn, group, Statement, statement_of, end_of, group_of, not_whole}
use Rattle.log_model.specs.Images.{are_rows}

-- ---- items

-- a statement's text with what it needs: LAST_INSERT_ID() before it, the first value that it generated, the seeds of RAND(),
-- user variables; or maps and rows
pub data Spelled : Type 0 where
  text_item : (last_id generated : Option ℕ) (seeds : Option (ℕ × ℕ)) (variables : List (List ℕ × Value)) (statement : Query) → Spelled
  rows_item : (maps : List Map) (parts : List Rows) → Spelled

-- one where there is one
abbrev pub some_of : {X : Type 0} → (X → Body) → Option X → List Body → List Body
some_of f None bs = bs
some_of f (Some x) bs = f x ∷ bs

abbrev pub vars_before : List (List ℕ × Value) → List Body → List Body
vars_before [] bs = bs
vars_before (v ∷ vs) bs = user_var v.0 v.1 ∷ vars_before vs bs

abbrev pub maps_before : List Map → List Body → List Body
maps_before [] bs = bs
maps_before (m ∷ ms) bs = table_map m ∷ maps_before ms bs

-- the events of an item
abbrev pub bodies_of : Spelled → List Body
bodies_of (text_item last_id generated seeds variables q) =
    some_of (int_var LastInsertId) last_id (some_of (int_var InsertId) generated (some_of (λ s. rand s.0 s.1) seeds (vars_before variables (query q ∷ []))))
bodies_of (rows_item ms rs) = maps_before ms (map rows rs)

abbrev pub bodies : List Spelled → List Body
bodies [] = []
bodies (i ∷ is) = bodies_of i ++ bodies is

-- no map has the id of one before it
abbrev pub AreNew : (before ms : List Map) → Type 0
AreNew before [] = Unit {0}
AreNew before (m ∷ ms) = (find m.id before ≡ None) × AreNew (before ++ m ∷ []) ms

abbrev pub FitsOne : Option Map → Rows → Type 0
FitsOne None r = ⊥
FitsOne (Some m) r = are_rows m r ≡ true

-- each of the rows is of one of the maps, and just the last ends
abbrev pub EndWell : List Map → List Rows → Type 0
EndWell ms [] = ⊥
EndWell ms (r ∷ []) = FitsOne (find r.id ms) r × (r.ends ≡ true)
EndWell ms (r ∷ s ∷ rs) = FitsOne (find r.id ms) r × (r.ends ≡ false) × EndWell ms (s ∷ rs)

abbrev pub IsItem : Spelled → Type 0
IsItem (text_item last_id generated seeds variables q) = Unit {0}
IsItem (rows_item [] rs) = ⊥
IsItem (rows_item (m ∷ ms) rs) = AreNew (m ∷ []) ms × EndWell (m ∷ ms) rs

abbrev pub AreItems : List Spelled → Type 0
AreItems [] = Unit {0}
AreItems (i ∷ is) = IsItem i × AreItems is

-- ---- stages over lists

abbrev pub ran : (Stage → Option Stage) → Move → Option Stage
ran next (go s) = next s
ran next (close n) = None
ran next refuse = None

-- where events lead that do not end the transaction
abbrev pub run : Stage → List Body → Option Stage
run s [] = Some s
run s (b ∷ bs) = ran (λ t. run t bs) (move s b)

-- ---- laws

-- what an event of a log says
abbrev pub said : Placed → Body
said e = e.event.body

-- a transaction that is spelled is read: BEGIN, the events of one or more items, XID, and whatever follows it
abbrev pub SpelledIsRead : Type 0
SpelledIsRead =
    (opening : Placed) (q : Query) (es : List Placed) (last : Placed) (n : ℕ) (i : Spelled) (is : List Spelled)
    (more : List Placed) (stop : Stop) → said opening ≡ query q → q.text ≡ codes "BEGIN" → map said es ≡ bodies (i ∷ is)
    → AreItems (i ∷ is) → said last ≡ xid n
    → group_of (opening ∷ es ++ last ∷ more) stop
    ≡ group (record { form = txn (statement_of opening q) es n; begin = opening.pos; end = end_of last })

-- what is read as a transaction is spelled: its events are those of one or more items
abbrev pub ReadIsSpelled : Type 0
ReadIsSpelled =
    (es : List Placed) (stop : Stop) (opening : Statement) (items : List Placed) (n begin end : ℕ)
    → group_of es stop ≡ group (record { form = txn opening items n; begin = begin; end = end })
    → (i : Spelled) × (is : List Spelled) × AreItems (i ∷ is) × (map said items ≡ bodies (i ∷ is))

-- events that do not end a transaction are a front of the events of one: more can follow that end it
abbrev pub FrontsGoOn : Type 0
FrontsGoOn = (bs : List Body) (s : Stage) → run first bs ≡ Some s → (more : List Body) × (run first (bs ++ more) ≡ Some between)

-- events that lead behind an item are those of one or more items
abbrev pub WholeIsItems : Type 0
WholeIsItems =
    (bs : List Body) → run first bs ≡ Some between → (i : Spelled) × (is : List Spelled) × AreItems (i ∷ is) × (bs ≡ bodies (i ∷ is))

-- the bytes end within an event
abbrev pub IsShort : Stop → Type 0
IsShort (short need) = Unit {0}
IsShort (damaged pos) = ⊥
IsShort (foreign pos kind) = ⊥

abbrev pub IsBegin : Body → Type 0
IsBegin (query q) = q.text ≡ codes "BEGIN"
IsBegin (rotate next) = ⊥
IsBegin (int_var kind n) = ⊥
IsBegin (rand a b) = ⊥
IsBegin (user_var name content) = ⊥
IsBegin (format_description version) = ⊥
IsBegin (xid n) = ⊥
IsBegin (table_map m) = ⊥
IsBegin (rows r) = ⊥

-- no event, or BEGIN and events that can stand behind it in a transaction that goes on
abbrev pub IsFront : List Placed → Type 0
IsFront [] = Unit {0}
IsFront (e ∷ es) = IsBegin e.event.body × ((s : Stage) × (run first (map said es) ≡ Some s))

-- 'not whole' is just where the bytes end within an event behind such a front
abbrev pub NotWholeIsFront : Type 0
NotWholeIsFront = (es : List Placed) (stop : Stop) → group_of es stop ≡ not_whole → IsShort stop × IsFront es

abbrev pub FrontIsNotWhole : Type 0
FrontIsNotWhole = (es : List Placed) (stop : Stop) → IsShort stop → IsFront es → group_of es stop ≡ not_whole
