-- Runs of changes: as many as one event has.
use Rattle.std.proofs.Common.{◌≡◌, ℕ, ◌+◌, ◌-◌, ◌≤◌, ◌<◌, ◌^◌, Bool, true, false, cond, leb, List, [], ◌∷◌, ◌++◌, length, take, drop, get_or, map, min, refl, sym, ap, ◌∙◌, subst, append_assoc, append-nil, arith, inl, inr, length-append}
use Rattle.std.specs.Prelude.{flat_map, nat_le, ◌&&◌, ◌==◌}
use Rattle.std.proofs.lemmas.Bool.{leb-true, le-leb, lt-leb, ne_eqb}
use Rattle.std.proofs.lemmas.Bool.Decides.{leb_tells}
use Rattle.std.proofs.lemmas.Grind.{flat_map-append}
use Rattle.std.proofs.lemmas.List.{take_at, take_rest}
use Rattle.std.proofs.lemmas.Slice.Eq.{bytes_eq-Decides}
use Rattle.val_types.specs.declared.change.Change.{Change}
use Rattle.val_types.specs.declared.change.Change.TheVariants.{Insert, Update as Replace, Delete as Remove}
use Rattle.val_types.specs.Changes.{table_of}
use Rattle.val_types.specs.declared.definitions.ColType.{ColType}
use Rattle.val_types.specs.declared.definitions.TableDef.{TableDef}
use Rattle.val_types.specs.declared.definitions.ColumnDef.{ColumnDef}
use Rattle.event_codec.specs.declared.event.Header.{Header}
use Rattle.event_codec.specs.Event.{Body, Map, rows, table_map, Rows}
use Rattle.event_codec.specs.Writing.{rows_kind}
use Rattle.log_model.specs.Images.{change_bytes, IsChange}
use Rattle.log_model.specs.Items.{Piece, same_name, rows_kind_of, bytes_in, piece_of, joins, with_change, pieces_from, pieces_of, rows_of, all_rows, at_time, types_in, columns_in, kind_of, tables_of, maps_from, changes_item, CanCarry, CanCarryAll}
use Rattle.log_model.specs.Spelling.{bodies_of, maps_before}
use Rattle.log_model.specs.Written.{CanWriteAll}
use Rattle.row_image.specs.Walk.{HasRows}
use Rattle.row_events.specs.Writing.{Wrote, GoesOn}
use Rattle.row_events.proofs.GoingOn.{goes as goes_on, next, at_time_append}
use Rattle.row_events.specs.Runs.{goes_with, run_from, piece, run_event, rows_events, HaveRows, IsRun}

same_is : (a b : List ℕ) → same_name a b ≡ true → a ≡ b
same_is a b e = (bytes_eq-Decides a b).0 e

-- ---- numbers of bytes that are cut off at the greatest of 64 bits

capped_le : (n len : ℕ) → nat_le (min n (2 ^ 64 - 1) + len) 8192 ≡ nat_le (n + len) 8192
capped_le n len = elim (leb_tells (n + len) 8192) [
  | inl e ↦ le-leb _ _ (let small = e.1 in omega arith) ∙ sym e.0
  | inr e ↦ lt-leb _ _ (let large = e.1 in omega arith) ∙ sym e.0
]

goes_capped : (types : List ColType) (first : Change) (n : ℕ) (c : Change) → goes_with types first (min n (2 ^ 64 - 1)) c ≡ goes_with types first n c
goes_capped types first n c =
    ap (λ (b : Bool). (rows_kind (rows_kind_of first) == rows_kind (rows_kind_of c) && same_name (table_of first) (table_of c)) && b) (capped_le n (length (change_bytes types c)))

and_left : (a b : Bool) → (a && b) ≡ true → a ≡ true
and_left true b e = refl
and_left false b e = cc

and_right : (a b : Bool) → (a && b) ≡ true → b ≡ true
and_right true b e = e
and_right false b e = cc

-- a change that goes on is of the kind and table, and leaves few bytes
pub record Goes (types : List ColType) (first : Change) (n : ℕ) (c : Change) : Type 0 where
  kind : (rows_kind (rows_kind_of first) == rows_kind (rows_kind_of c)) ≡ true
  name : same_name (table_of first) (table_of c) ≡ true
  few : n + length (change_bytes types c) ≤ 8192

pub goes : (types : List ColType) (first : Change) (n : ℕ) (c : Change) → goes_with types first n c ≡ true → Goes types first n c
goes types first n c e =
    let both = and_left (rows_kind (rows_kind_of first) == rows_kind (rows_kind_of c) && same_name (table_of first) (table_of c)) (nat_le (n + length (change_bytes types c)) 8192) e in
    record {
      kind = and_left (rows_kind (rows_kind_of first) == rows_kind (rows_kind_of c)) (same_name (table_of first) (table_of c)) both;
      name = and_right (rows_kind (rows_kind_of first) == rows_kind (rows_kind_of c)) (same_name (table_of first) (table_of c)) both;
      few = leb-true _ _ (and_right (rows_kind (rows_kind_of first) == rows_kind (rows_kind_of c) && same_name (table_of first) (table_of c)) (nat_le (n + length (change_bytes types c)) 8192) e);
    }

abbrev cap : ℕ × List Change → ℕ × List Change
cap r = (min r.0 (2 ^ 64 - 1), r.1)

pub run_capped : (types : List ColType) (first : Change) (n : ℕ) (cs : List Change) → run_from types first (min n (2 ^ 64 - 1)) cs ≡ cap (run_from types first n cs)
run_capped types first n [] = refl
run_capped types first n (c ∷ cs) =
    by (goes_with types first n c) refl (run_capped types first (n + length (change_bytes types c)) cs)
  where
    by : (b : Bool) → goes_with types first n c ≡ b
        → run_from types first (min (n + length (change_bytes types c)) (2 ^ 64 - 1)) cs ≡ cap (run_from types first (n + length (change_bytes types c)) cs)
        → cond (goes_with types first (min n (2 ^ 64 - 1)) c) (run_from types first (min n (2 ^ 64 - 1) + length (change_bytes types c)) cs) (min n (2 ^ 64 - 1), c ∷ cs)
        ≡ cap (cond (goes_with types first n c) (run_from types first (n + length (change_bytes types c)) cs) (n, c ∷ cs))
    by true e again =
        let few = (goes types first n c e).few in
        let same : min n (2 ^ 64 - 1) + length (change_bytes types c) ≡ min (n + length (change_bytes types c)) (2 ^ 64 - 1) = omega arith in
        rw (goes_capped types first n c, e, same) again
    by false e again = rw (goes_capped types first n c, e) refl

-- ---- pieces

-- whether a change joins a piece, by the first one's types
same_test : (defs : List TableDef) (first : Change) (size : ℕ) (c : Change) (k m : Bool) → same_name (table_of first) (table_of c) ≡ m
    → ((k && m) && nat_le (size + length (bytes_in defs c)) 8192) ≡ ((k && m) && nat_le (size + length (change_bytes (types_in defs (table_of first)) c)) 8192)
same_test defs first size c true true e = rw (same_is (table_of first) (table_of c) e) refl
same_test defs first size c true false e = refl
same_test defs first size c false m e = refl

goes_joins : (defs : List TableDef) (first : Change) (done : List Change) (c : Change)
    → joins defs (piece defs first done) c ≡ goes_with (types_in defs (table_of first)) first (length (piece defs first done).rows) c
goes_joins defs first done c =
    same_test defs first (length (piece defs first done).rows) c (rows_kind (rows_kind_of first) == rows_kind (rows_kind_of c)) (same_name (table_of first) (table_of c)) refl

one_more : (types : List ColType) (first c : Change) (done : List Change)
    → flat_map (change_bytes types) (first ∷ (done ++ c ∷ [])) ≡ flat_map (change_bytes types) (first ∷ done) ++ change_bytes types c
one_more types first c done =
    flat_map-append (change_bytes types) (first ∷ done) (c ∷ [])
    ∙ ap (λ (bs : List ℕ). flat_map (change_bytes types) (first ∷ done) ++ bs) (append-nil (change_bytes types c))

grown : (defs : List TableDef) (first : Change) (done : List Change) (c : Change) → same_name (table_of first) (table_of c) ≡ true
    → with_change defs (piece defs first done) c ≡ piece defs first (done ++ c ∷ [])
grown defs first done c e =
    let own : bytes_in defs c ≡ change_bytes (types_in defs (table_of first)) c = rw (same_is (table_of first) (table_of c) e) refl in
    ap (λ (bs : List ℕ). with_rows (flat_map (change_bytes (types_in defs (table_of first))) (first ∷ done) ++ bs)) own
    ∙ ap (λ (bs : List ℕ). with_rows bs) (sym (one_more (types_in defs (table_of first)) first c done))
  where
    with_rows : List ℕ → Piece
    with_rows bs = record { kind = rows_kind_of first; name = table_of first; rows = bs }

has_rows : (defs : List TableDef) (c : Change) → CanCarry defs c → HasRows (types_in defs (table_of c)) c
has_rows defs (Insert name row) can = can.rows.1
has_rows defs (Replace name before after) can = (can.rows.1, can.rows.2)
has_rows defs (Remove name row) can = can.rows.1

-- what goes on behind some changes that did
record Cut (defs : List TableDef) (first : Change) (done all : List Change) (r : ℕ × List Change) : Type 0 where
  more : List Change
  whole : all ≡ more ++ r.1
  pieces : pieces_from defs (piece defs first done) all ≡ piece defs first (done ++ more) ∷ pieces_of defs r.1
  size : r.0 ≡ length (piece defs first (done ++ more)).rows
  rows : CanCarryAll defs all → HaveRows (types_in defs (table_of first)) more × CanCarryAll defs r.1

cut_on : (defs : List TableDef) (first : Change) (done : List Change) (c : Change) (cs : List Change)
    → goes_with (types_in defs (table_of first)) first (length (piece defs first done).rows) c ≡ true
    → Cut defs first (done ++ c ∷ []) cs (run_from (types_in defs (table_of first)) first (length (piece defs first (done ++ c ∷ [])).rows) cs)
    → Cut defs first done (c ∷ cs) (run_from (types_in defs (table_of first)) first (length (piece defs first done).rows + length (change_bytes (types_in defs (table_of first)) c)) cs)
cut_on defs first done c cs e k =
    let types : List ColType = types_in defs (table_of first) in
    let name = (goes types first (length (piece defs first done).rows) c e).name in
    let size : length (piece defs first (done ++ c ∷ [])).rows ≡ length (piece defs first done).rows + length (change_bytes types c) =
    ap (λ (bs : List ℕ). length bs) (one_more types first c done) ∙ length-append (piece defs first done).rows (change_bytes types c) in
    subst (λ (n : ℕ). Cut defs first done (c ∷ cs) (run_from types first n cs)) size (record {
      more = c ∷ k.more;
      whole = ap (λ (xs : List Change). c ∷ xs) k.whole;
      pieces =
          ap (λ (b : Bool). cond b (pieces_from defs (with_change defs (piece defs first done) c) cs) (piece defs first done ∷ pieces_from defs (piece_of defs c) cs)) (goes_joins defs first done c ∙ e)
          ∙ ap (λ (p : Piece). pieces_from defs p cs) (grown defs first done c name)
          ∙ k.pieces
          ∙ ap (λ (xs : List Change). piece defs first xs ∷ pieces_of defs (run_from types first (length (piece defs first (done ++ c ∷ [])).rows) cs).1) (append_assoc done (c ∷ []) k.more);
      size = k.size ∙ ap (λ (xs : List Change). length (piece defs first xs).rows) (append_assoc done (c ∷ []) k.more);
      rows = λ can. ((subst (λ n. HasRows (types_in defs n) c) (sym (same_is (table_of first) (table_of c) name)) (has_rows defs c can.0), (k.rows can.1).0), (k.rows can.1).1);
    })

cut_here : (defs : List TableDef) (first : Change) (done : List Change) (c : Change) (cs : List Change)
    → goes_with (types_in defs (table_of first)) first (length (piece defs first done).rows) c ≡ false
    → Cut defs first done (c ∷ cs) (length (piece defs first done).rows, c ∷ cs)
cut_here defs first done c cs e = record {
  more = [];
  whole = refl;
  pieces =
      ap (λ (b : Bool). cond b (pieces_from defs (with_change defs (piece defs first done) c) cs) (piece defs first done ∷ pieces_from defs (piece_of defs c) cs)) (goes_joins defs first done c ∙ e)
      ∙ ap (λ (xs : List Change). piece defs first xs ∷ pieces_from defs (piece_of defs c) cs) (sym (append-nil done));
  size = ap (λ (xs : List Change). length (piece defs first xs).rows) (sym (append-nil done));
  rows = λ can. (tt, can);
}

cut : (defs : List TableDef) (first : Change) (done all : List Change)
    → Cut defs first done all (run_from (types_in defs (table_of first)) first (length (piece defs first done).rows) all)
cut defs first done [] = record {
  more = [];
  whole = refl;
  pieces = ap (λ (xs : List Change). piece defs first xs ∷ []) (sym (append-nil done));
  size = ap (λ (xs : List Change). length (piece defs first xs).rows) (sym (append-nil done));
  rows = λ can. (tt, tt);
}
cut defs first done (c ∷ cs) =
    by (goes_with (types_in defs (table_of first)) first (length (piece defs first done).rows) c) refl (cut defs first (done ++ c ∷ []) cs)
  where
    by : (b : Bool) → goes_with (types_in defs (table_of first)) first (length (piece defs first done).rows) c ≡ b
        → Cut defs first (done ++ c ∷ []) cs (run_from (types_in defs (table_of first)) first (length (piece defs first (done ++ c ∷ [])).rows) cs)
        → Cut defs first done (c ∷ cs) (cond b (run_from (types_in defs (table_of first)) first (length (piece defs first done).rows + length (change_bytes (types_in defs (table_of first)) c)) cs) (length (piece defs first done).rows, c ∷ cs))
    by true e again = cut_on defs first done c cs e again
    by false e again = cut_here defs first done c cs e

-- ---- a run

first_alone : (defs : List TableDef) (first : Change) → piece defs first [] ≡ piece_of defs first
first_alone defs first = ap with_rows (append-nil (change_bytes (types_in defs (table_of first)) first))
  where
    with_rows : List ℕ → Piece
    with_rows bs = record { kind = rows_kind_of first; name = table_of first; rows = bs }

front_of : (all more rest : List Change) → all ≡ more ++ rest → (take (length all - length rest) all ≡ more) × (length rest ≤ length all)
front_of all more rest whole =
    let count : length all ≡ length more + length rest = ap length whole ∙ length-append more rest in
    let few : length all - length rest ≡ length more = omega (arith, count) in
    (ap (λ (n : ℕ). take n all) few ∙ ap (λ (xs : List Change). take (length more) xs) whole ∙ take_at more rest (length more) refl, omega (arith, count))

pub run_is : (defs : List TableDef) (first : Change) (all rest : List Change) (begun size : ℕ)
    → begun ≡ min (length (change_bytes (types_in defs (table_of first)) first)) (2 ^ 64 - 1)
    → (size, rest) ≡ run_from (types_in defs (table_of first)) first begun all
    → IsRun defs first all (take (length all - length rest) all) rest size × (length rest ≤ length all)
run_is defs first all rest begun size first-size found =
    let types : List ColType = types_in defs (table_of first) in
    let k = cut defs first [] all in
    let alone : length (piece defs first []).rows ≡ length (change_bytes types first) = ap (λ (bs : List ℕ). length bs) (append-nil (change_bytes types first)) in
    let same : (size, rest) ≡ cap (run_from types first (length (piece defs first []).rows) all) =
    found ∙ ap (λ (n : ℕ). run_from types first n all) (first-size ∙ ap (λ (n : ℕ). min n (2 ^ 64 - 1)) (sym alone)) ∙ run_capped types first (length (piece defs first []).rows) all in
    let left : rest ≡ (run_from types first (length (piece defs first []).rows) all).1 = ap (λ (r : ℕ × List Change). r.1) same in
    let whole : all ≡ k.more ++ rest = k.whole ∙ ap (λ (xs : List Change). k.more ++ xs) (sym left) in
    let front = front_of all k.more rest whole in (
      subst (λ (xs : List Change). IsRun defs first all xs rest size) (sym front.0) (record {
        whole = whole;
        pieces = ap (λ (p : Piece). pieces_from defs p all) (sym (first_alone defs first)) ∙ k.pieces ∙ ap (λ (xs : List Change). piece defs first k.more ∷ pieces_of defs xs) (sym left);
        bytes = ap (λ (r : ℕ × List Change). r.0) same ∙ ap (λ (n : ℕ). min n (2 ^ 64 - 1)) k.size;
        rows = λ can. ((has_rows defs first can.0, (k.rows can.1).0), subst (λ (xs : List Change). CanCarryAll defs xs) (sym left) (k.rows can.1).1);
      }),
      front.1,
    )

-- ---- the events of runs

some_piece : (defs : List TableDef) (p : Piece) (cs : List Change) → (length (pieces_from defs p cs) == 0) ≡ false
some_piece defs p [] = refl
some_piece defs p (c ∷ cs) = by (joins defs p c) (some_piece defs (with_change defs p c) cs)
  where
    by : (b : Bool) → (length (pieces_from defs (with_change defs p c) cs) == 0) ≡ false
        → (length (cond b (pieces_from defs (with_change defs p c) cs) (p ∷ pieces_from defs (piece_of defs c) cs)) == 0) ≡ false
    by true again = again
    by false again = ne_eqb _ _ (λ f. omega (arith, f))

no_pieces : (defs : List TableDef) (cs : List Change) → (length (pieces_of defs cs) == 0) ≡ (length cs == 0)
no_pieces defs [] = refl
no_pieces defs (c ∷ cs) = some_piece defs (piece_of defs c) cs ∙ sym (ne_eqb (length (c ∷ cs)) 0 (λ f. omega (arith, f)))

rows_cons : (defs : List TableDef) (names : List (List ℕ)) (p : Piece) (ps : List Piece)
    → all_rows defs names (p ∷ ps) ≡ rows_of defs names (length ps == 0) p ∷ all_rows defs names ps
rows_cons defs names p [] = refl
rows_cons defs names p (q ∷ qs) = ap (λ (b : Bool). rows_of defs names b p ∷ all_rows defs names (q ∷ qs)) (sym (ne_eqb (length (q ∷ qs)) 0 (λ f. omega (arith, f))))

-- the event of a run, and those of the changes that are left
pub rows_first : (defs : List TableDef) (names : List (List ℕ)) (first : Change) (all more rest : List Change) (size stamp : ℕ) → IsRun defs first all more rest size
    → rows_events defs names (first ∷ all) stamp ≡ at_time stamp (rows (run_event defs names first more rest) ∷ []) ++ rows_events defs names rest stamp
rows_first defs names first all more rest size stamp run =
    ap (λ (ps : List Piece). at_time stamp (map rows (all_rows defs names ps))) run.pieces
    ∙ ap (λ (rs : List Rows). at_time stamp (map rows rs)) (rows_cons defs names (piece defs first more) (pieces_of defs rest))
    ∙ ap (λ (b : Bool). at_time stamp (rows (rows_of defs names b (piece defs first more)) ∷ []) ++ rows_events defs names rest stamp) (no_pieces defs rest)

-- ---- as the code finds them

pub run_of_is : (defs : List TableDef) (first : Change) (all rest : List Change) (columns : List ColumnDef) (name : List ℕ) (begun size : ℕ)
    → name ≡ table_of first → columns ≡ columns_in defs name
    → begun ≡ min (length (change_bytes (map kind_of columns) first)) (2 ^ 64 - 1)
    → (size, rest) ≡ run_from (map kind_of columns) first begun all
    → IsRun defs first all (take (length all - length rest) all) rest size × (length rest ≤ length all)
run_of_is defs first all rest columns name begun size same is first-size found =
    let types : map kind_of columns ≡ types_in defs (table_of first) = ap (map kind_of) (is ∙ ap (columns_in defs) same) in
    run_is defs first all rest begun size (first-size ∙ ap (λ (ts : List ColType). min (length (change_bytes ts first)) (2 ^ 64 - 1)) types)
    (found ∙ ap (λ (ts : List ColType). run_from ts first begun all) types)

-- those behind the first, as a slice of all
abbrev pub behind_first : List Change → List Change
behind_first cs = take (length cs - 1) (drop 1 cs)

first_of : (cs : List Change) (c : Change) → 1 ≤ length cs → c ≡ get_or cs 0 c → cs ≡ c ∷ behind_first cs
first_of cs c some is = by cs some is ∙ ap (λ (xs : List Change). c ∷ xs) (sym (take_rest cs 1))
  where
    by : (xs : List Change) → 1 ≤ length xs → c ≡ get_or xs 0 c → xs ≡ c ∷ drop 1 xs
    by [] some is = absurd (omega arith)
    by (x ∷ xs) some is = ap (λ (y : Change). y ∷ xs) (sym is)

-- the events of what is left: the first run's, and those behind it
pub run_split : (defs : List TableDef) (names : List (List ℕ)) (left : List Change) (first : Change) (more rest : List Change) (size stamp : ℕ) → 1 ≤ length left → first ≡ get_or left 0 first
    → IsRun defs first (behind_first left) more rest size
    → rows_events defs names left stamp ≡ at_time stamp (rows (run_event defs names first more rest) ∷ []) ++ rows_events defs names rest stamp
run_split defs names left first more rest size stamp some is run =
    ap (λ (cs : List Change). rows_events defs names cs stamp) (first_of left first some is) ∙ rows_first defs names first (behind_first left) more rest size stamp run

pub run_can : (defs : List TableDef) (names : List (List ℕ)) (all left : List Change) (first : Change) (more rest : List Change) (size : ℕ) (h here : Header) (start out : List ℕ)
    → 1 ≤ length left → first ≡ get_or left 0 first → IsRun defs first (behind_first left) more rest size
    → GoesOn (rows_events defs names all h.stamp) (rows_events defs names left h.stamp) h here start out
    → CanWriteAll here.pos (at_time here.stamp (rows (run_event defs names first more rest) ∷ []))
run_can defs names all left first more rest size h here start out some is run on =
    subst (λ (s : ℕ). CanWriteAll here.pos (at_time s (rows (run_event defs names first more rest) ∷ []))) (sym on.stamp)
    (next (rows_events defs names all h.stamp) (at_time h.stamp (rows (run_event defs names first more rest) ∷ [])) (rows_events defs names rest h.stamp) (rows_events defs names left h.stamp) h here start out
    (run_split defs names left first more rest size h.stamp some is run) on)

pub run_goes : (defs : List TableDef) (names : List (List ℕ)) (all left : List Change) (first : Change) (more rest : List Change) (size : ℕ) (h here to : Header) (start out new : List ℕ)
    → 1 ≤ length left → first ≡ get_or left 0 first → IsRun defs first (behind_first left) more rest size
    → GoesOn (rows_events defs names all h.stamp) (rows_events defs names left h.stamp) h here start out
    → Wrote (at_time here.stamp (rows (run_event defs names first more rest) ∷ [])) here to out new
    → GoesOn (rows_events defs names all h.stamp) (rows_events defs names rest h.stamp) h to start new
run_goes defs names all left first more rest size h here to start out new some is run on wrote =
    goes_on (rows_events defs names all h.stamp) (at_time h.stamp (rows (run_event defs names first more rest) ∷ [])) (rows_events defs names rest h.stamp) (rows_events defs names left h.stamp) h here to start out new
    (run_split defs names left first more rest size h.stamp some is run) on
    (subst (λ (s : ℕ). Wrote (at_time s (rows (run_event defs names first more rest) ∷ [])) here to out new) on.stamp wrote)

pub left_carried : (defs : List TableDef) (left : List Change) (first : Change) (more rest : List Change) (size : ℕ) → 1 ≤ length left → first ≡ get_or left 0 first
    → IsRun defs first (behind_first left) more rest size → CanCarryAll defs left → HaveRows (types_in defs (table_of first)) (first ∷ more) × CanCarryAll defs rest
left_carried defs left first more rest size some is run can = run.rows (subst (λ (cs : List Change). CanCarryAll defs cs) (first_of left first some is) can)

-- ---- an item

maps_first : (ms : List Map) (bs : List Body) → maps_before ms bs ≡ map table_map ms ++ bs
maps_first [] bs = refl
maps_first (m ∷ ms) bs = ap (λ (xs : List Body). table_map m ∷ xs) (maps_first ms bs)

pub item_split : (defs : List TableDef) (names : List (List ℕ)) (cs : List Change) (stamp : ℕ) → names ≡ tables_of cs
    → at_time stamp (bodies_of (changes_item defs cs)) ≡ at_time stamp (map table_map (maps_from 1 defs names)) ++ rows_events defs names cs stamp
item_split defs names cs stamp are =
    subst (λ (ns : List (List ℕ)). at_time stamp (bodies_of (changes_item defs cs)) ≡ at_time stamp (map table_map (maps_from 1 defs ns)) ++ rows_events defs ns cs stamp) (sym are)
    (ap (at_time stamp) (maps_first (maps_from 1 defs (tables_of cs)) (map rows (all_rows defs (tables_of cs) (pieces_of defs cs))))
    ∙ at_time_append stamp (map table_map (maps_from 1 defs (tables_of cs))) (map rows (all_rows defs (tables_of cs) (pieces_of defs cs))))
