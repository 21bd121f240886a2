-- The numbers of events that are read are such as a context may have.
use Rattle.std.proofs.Common.{◌≡◌, ℕ, zero, suc, ◌≤◌, Bool, true, false, not, List, [], ◌∷◌, Option, Some, None, Result, Ok, Err, refl, ap, subst, ◌∙◌, arith}
use Rattle.std.specs.Prelude.{if◌then◌else◌, ◌==◌, ◌&&◌, ◌%◌, nat_le, nat_lt, length, slice_index, slice_range}
use Rattle.std.specs.Str.{bytes_eq}
use Rattle.std.proofs.lemmas.Bool.Decides.{nat_tests}
use Rattle.byte_fields.specs.Field.{number_at}
use Rattle.event_codec.specs.declared.event.RowsKind.{RowsKind}
use Rattle.event_codec.specs.declared.event.RowsKind.TheVariants.{Write, Update, Delete}
use Rattle.event_codec.specs.declared.event.Step.{Step}
use Rattle.event_codec.specs.declared.fault.Fault.{Fault}
use Rattle.event_codec.specs.declared.fault.Fault.TheVariants.{Damaged, Foreign}
use Rattle.event_codec.specs.Parts.{◌>>=◌, formed, known, lenenc, number, part, text}
use Rattle.event_codec.specs.Bitmap.{present}
use Rattle.event_codec.specs.Columns.{columns_at}
use Rattle.event_codec.specs.LogName.{log_number}
use Rattle.event_codec.specs.Event.{Body, Seen, rotate, int_var, rand, user_var, format_description, xid, table_map, rows}
use Rattle.event_codec.specs.Bodies.{int_var_kind, is_schema, only, post_header_lengths, present_after, step_at, status_of, query_body, rotate_body, int_var_body, rand_body, user_var_body, format_description_body, xid_body, table_map_body, rows_body, var_value}
use Rattle.event_codec.specs.Reading.{Reading, event, none, body_at, damaged, has_sound_header, headed, read_as, reading, short}
use Rattle.log_groups.specs.log_model.Events.{Place, Placed, events_from, past}
use Rattle.log_groups.specs.log_model.Groups.{is_xid, until_xid}
use Rattle.log_groups.proofs.of_log_model.Walking.{events_none, events_some}
use Rattle.log_groups.specs.Views.{walked}
use Rattle.stmt_apply.specs.Needing.{Counts, MayStand}

-- ---- parts, one after the other

-- what is read, if anything is, is good
record Reads {X : Type 0} (Good : X → Type 0) (r : Result X Fault) : Type 0 where
  is_good : (x : X) → r ≡ Ok x → Good x

nothing : {X : Type 0} (Good : X → Type 0) (fault : Fault) → Reads Good (Err fault)
nothing Good fault = record { is_good = λ x e. cc }

just : {X : Type 0} (Good : X → Type 0) (x : X) → Good x → Reads Good (Ok x)
just Good x good = record { is_good = λ y e. let same : x ≡ y = cc in subst Good same good }

bind : {X A : Type 0} (Good : X → Type 0) (r : Result A Fault) (more : A → Result X Fault) → ((a : A) → r ≡ Ok a → Reads Good (more a)) → Reads Good (r >>= more)
bind Good (Ok a) more good = good a refl
bind Good (Err fault) more good = nothing Good fault

pick : {X : Type 0} (Good : X → Type 0) (b : Bool) (x y : Result X Fault) → (b ≡ true → Reads Good x) → Reads Good y → Reads Good (if b then x else y)
pick Good true x y one two = one refl
pick Good false x y one two = two

module _ {X : Type 0} (Good : X → Type 0) (b : Bool) (x : Result X Fault) where
  -- what has its form, and what is known
  in_form : (b ≡ true → Reads Good x) → Reads Good (formed b x)
  in_form one = pick Good b x (Err Damaged) one (nothing Good Damaged)

  if_known : (b ≡ true → Reads Good x) → Reads Good (known b x)
  if_known one = pick Good b x (Err Foreign) one (nothing Good Foreign)

-- ---- increment and offset

positive : (n : ℕ) → not (n == 0) ≡ true → 1 ≤ n
positive zero e = cc
positive (suc n) e = omega arith

first_of : (a b : Bool) → (a && b) ≡ true → a ≡ true
first_of true b e = refl
first_of false b e = cc

second_of : (a b : Bool) → (a && b) ≡ true → b ≡ true
second_of true b e = e
second_of false b e = cc

alone : (s : Step) (behind : List ℕ) → Counts (Some s) → Reads Counts (only s behind)
alone s [] good = just Counts (Some s) good
alone s (code ∷ more) good = pick Counts (code == 3) (Err Damaged) (Err Foreign) (λ _. nothing Counts Damaged) (nothing Counts Foreign)

step_counts : (bytes : List ℕ) → Reads Counts (step_at bytes)
unfolding step_at
step_counts bytes =
    bind Counts (number 2 bytes) _
    (λ increment _. bind Counts (number 2 increment.1) _
    (λ offset _. in_form Counts (not (increment.0 == 0) && not (offset.0 == 0)) _
    (λ e. alone (record { increment = increment.0; offset = offset.0 }) offset.1
    (positive increment.0 (first_of (not (increment.0 == 0)) (not (offset.0 == 0)) e), positive offset.0 (second_of (not (increment.0 == 0)) (not (offset.0 == 0)) e)))))

status_counts : (bytes : List ℕ) → Reads Counts (status_of bytes)
status_counts [] = just Counts None tt
status_counts (code ∷ values) = pick Counts (code == 3) (step_at values) (Err Foreign) (λ _. step_counts values) (nothing Counts Foreign)

-- ---- bodies

query_stands : (body : List ℕ) → Reads MayStand (query_body body)
unfolding query_body
query_stands body =
    bind MayStand (number 4 body) _
    (λ thread _. bind MayStand (number 4 thread.1) _
    (λ time _. bind MayStand (number 1 time.1) _
    (λ schema_length _. bind MayStand (number 2 schema_length.1) _
    (λ error _. bind MayStand (number 2 error.1) _
    (λ status_length _. bind MayStand (part status_length.0 status_length.1) _
    (λ status _. bind MayStand (status_of status.0) _
    (λ step is. bind MayStand (part schema_length.0 status.1) _
    (λ schema _. bind MayStand (number 1 schema.1) _
    (λ zero _. in_form MayStand (zero.0 == 0) _
    (λ _. if_known MayStand (error.0 == 0 && is_schema schema.0) _ (λ _. just MayStand _ ((status_counts status.0).is_good step is))))))))))))

within_bigint : (n : ℕ) → nat_le n 9223372036854775807 ≡ true → n ≤ 9223372036854775807
within_bigint n e = grind (arith, nat_tests)

int_var_stands : (body : List ℕ) → Reads MayStand (int_var_body body)
unfolding int_var_body
int_var_stands body =
    bind MayStand (number 1 body) _
    (λ code _. bind MayStand (number 8 code.1) _
    (λ value _. bind MayStand (int_var_kind code.0) _
    (λ kind _. in_form MayStand (length value.1 == 0) _
    (λ _. if_known MayStand (nat_le value.0 9223372036854775807) _ (λ e. just MayStand (int_var kind value.0) (within_bigint value.0 e))))))

rotate_stands : (body : List ℕ) → Reads MayStand (rotate_body body)
unfolding rotate_body
rotate_stands body =
    bind MayStand (number 8 body) _
    (λ place _. bind MayStand (known (place.0 == 4) (log_number place.1)) _ (λ next _. just MayStand (rotate next) tt))

rand_stands : (body : List ℕ) → Reads MayStand (rand_body body)
unfolding rand_body
rand_stands body =
    bind MayStand (number 8 body) _
    (λ first _. bind MayStand (number 8 first.1) _
    (λ second _. in_form MayStand (length second.1 == 0) _ (λ _. just MayStand (rand (first.0 % 1073741823) (second.0 % 1073741823)) tt)))

user_var_stands : (body : List ℕ) → Reads MayStand (user_var_body body)
unfolding user_var_body
user_var_stands body =
    bind MayStand (number 4 body) _
    (λ count _. bind MayStand (part count.0 count.1) _
    (λ name _. bind MayStand (number 1 name.1) _
    (λ null _. bind MayStand (var_value null.0 null.1) _ (λ value _. just MayStand (user_var name.0 value) tt))))

format_description_stands : (body : List ℕ) → Reads MayStand (format_description_body body)
unfolding format_description_body
format_description_stands body =
    bind MayStand (number 2 body) _
    (λ log _. bind MayStand (part 50 log.1) _
    (λ version _. bind MayStand (number 4 version.1) _
    (λ time _. bind MayStand (number 1 time.1) _
    (λ header _. bind MayStand (part 38 header.1) _
    (λ lengths _. bind MayStand (number 1 lengths.1) _
    (λ checksum _. bind MayStand (number 4 checksum.1) _
    (λ more _. in_form MayStand (length more.1 == 0) _
    (λ _. if_known MayStand (log.0 == 4 && header.0 == 19 && bytes_eq lengths.0 post_header_lengths && checksum.0 == 0) _
    (λ _. just MayStand (format_description version.0) tt)))))))))

xid_stands : (body : List ℕ) → Reads MayStand (xid_body body)
unfolding xid_body
xid_stands body = bind MayStand (number 8 body) _ (λ n _. in_form MayStand (length n.1 == 0) _ (λ _. just MayStand (xid n.0) tt))

table_map_stands : (body : List ℕ) → Reads MayStand (table_map_body body)
unfolding table_map_body
table_map_stands body =
    bind MayStand (number 6 body) _
    (λ id _. bind MayStand (number 2 id.1) _
    (λ flags _. bind MayStand (text flags.1) _
    (λ schema _. bind MayStand (number 1 schema.1) _
    (λ zero _. bind MayStand (text zero.1) _
    (λ name _. bind MayStand (number 1 name.1) _
    (λ end _. bind MayStand (formed (zero.0 == 0 && end.0 == 0) (columns_at end.1)) _
    (λ columns _. if_known MayStand (is_schema schema.0) _
    (λ _. just MayStand (table_map (record { id = id.0; name = name.0; kinds = columns.kinds; metadata = columns.metadata; nulls = columns.nulls })) tt))))))))

rows_stand : (kind : RowsKind) (body : List ℕ) → Reads MayStand (rows_body kind body)
unfolding rows_body
rows_stand kind body =
    bind MayStand (number 6 body) _
    (λ id _. bind MayStand (number 2 id.1) _
    (λ flags _. bind MayStand (number 2 flags.1) _
    (λ extra _. bind MayStand (known (extra.0 == 2) (lenenc extra.1)) _
    (λ columns _. bind MayStand (present columns.0 columns.1) _
    (λ before _. bind MayStand (present_after kind columns.0 before.1) _
    (λ after _. in_form MayStand (not (length after.1 == 0)) _
    (λ _. if_known MayStand (before.0 && after.0) _
    (λ _. just MayStand (rows (record { kind = kind; id = id.0; ends = flags.0 % 2 == 1; columns = columns.0; rows = after.1 })) tt))))))))

body_stands : (kind : ℕ) (body : List ℕ) → Reads MayStand (body_at kind body)
body_stands kind body =
    pick MayStand (kind == 2) (query_body body) _ (λ _. query_stands body)
    (pick MayStand (kind == 4) (rotate_body body) _ (λ _. rotate_stands body)
    (pick MayStand (kind == 5) (int_var_body body) _ (λ _. int_var_stands body)
    (pick MayStand (kind == 13) (rand_body body) _ (λ _. rand_stands body)
    (pick MayStand (kind == 14) (user_var_body body) _ (λ _. user_var_stands body)
    (pick MayStand (kind == 15) (format_description_body body) _ (λ _. format_description_stands body)
    (pick MayStand (kind == 16) (xid_body body) _ (λ _. xid_stands body)
    (pick MayStand (kind == 19) (table_map_body body) _ (λ _. table_map_stands body)
    (pick MayStand (kind == 30) (rows_body Write body) _ (λ _. rows_stand Write body)
    (pick MayStand (kind == 31) (rows_body Update body) _ (λ _. rows_stand Update body)
    (pick MayStand (kind == 32) (rows_body Delete body) _ (λ _. rows_stand Delete body) (nothing MayStand Foreign)))))))))))

-- ---- events

-- an event, if there is one
abbrev Stands : Reading → Type 0
Stands (event e) = MayStand e.body
Stands (none stop) = Unit {0}

choose : (b : Bool) (x y : Reading) → Stands x → Stands y → Stands (if b then x else y)
choose true x y one two = one
choose false x y one two = two

read_stands : (pos kind stamp size : ℕ) (r : Result Body Fault) → Reads MayStand r → Stands (read_as pos kind (headed stamp size r))
read_stands pos kind stamp size (Ok body) good = good.is_good body refl
read_stands pos kind stamp size (Err Damaged) good = tt
read_stands pos kind stamp size (Err Foreign) good = tt

event_stands : (bytes : List ℕ) (pos : ℕ) → Stands (reading bytes pos)
unfolding reading
event_stands bytes pos =
    let size = number_at 9 4 bytes in
    let kind = slice_index bytes 4 in
    let read : Reading = read_as pos kind (headed (number_at 0 4 bytes) size (body_at kind (slice_range bytes 19 size))) in
    choose (nat_lt (length bytes) 19) (none (short 19)) _ tt
    (choose (not (has_sound_header bytes pos)) (none (damaged pos)) _ tt
    (choose (nat_lt (length bytes) size) (none (short size)) read tt
    (read_stands pos kind (number_at 0 4 bytes) size (body_at kind (slice_range bytes 19 size)) (body_stands kind (slice_range bytes 19 size)))))

-- ---- the first event of a walk

abbrev placed : Place → Seen → Placed
placed p f = record { pos = p.pos; event = f }

first_if : (xid : Bool) (p : Place) (f : Seen) (es rest : List Placed) (e : Placed) → (Some e, rest) ≡ walked (if xid then [] else placed p f ∷ until_xid es) → MayStand f.body → MayStand e.event.body
first_if true p f es rest e first good = let none = ap (λ (r : Option Placed × List Placed). r.0) first in cc
first_if false p f es rest e first good =
    let some : Some e ≡ Some (placed p f) = ap (λ (r : Option Placed × List Placed). r.0) first in
    let same : placed p f ≡ e = cc in
    subst (λ (x : Placed). MayStand x.event.body) same good

first_by : (p : Place) (r : Reading) → reading p.bytes p.pos ≡ r → Stands r → (e : Placed) (rest : List Placed) → (Some e, rest) ≡ walked (until_xid (events_from p)) → MayStand e.event.body
first_by p (event f) is good e rest first =
    first_if (is_xid f.body) p f (events_from (past f p)) rest e (first ∙ ap (λ (es : List Placed). walked (until_xid es)) (events_some p f is)) good
first_by p (none stop) is good e rest first =
    let nothing_there : Some e ≡ None = ap (λ (r : Option Placed × List Placed). r.0) (first ∙ ap (λ (es : List Placed). walked (until_xid es)) (events_none p stop is)) in
    cc

pub first_stands : (p : Place) (e : Placed) (rest : List Placed) → (Some e, rest) ≡ walked (until_xid (events_from p)) → MayStand e.event.body
first_stands p e rest first = first_by p (reading p.bytes p.pos) refl (event_stands p.bytes p.pos) e rest first
