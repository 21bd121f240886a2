-- An event that is written is read again, whatever follows it; and how many bytes it takes.
use Rattle.std.proofs.Common.{◌≡◌, ℕ, ◌+◌, ◌-◌, ◌^◌, ◌<◌, ◌≤◌, true, false, eqb, leb, ltb, List, [], ◌++◌, length, Result, Ok, refl, ap, ◌∙◌, append_assoc, arith}
use Rattle.std.specs.Prelude.{slice_index, slice_range}
use Rattle.std.proofs.lemmas.Bool.{le-ltb, le-leb, eq-eqb}
use Rattle.std.proofs.lemmas.List.{take_at, length-append}
use Rattle.byte_fields.specs.Field.{number_at, number_bytes}
use Rattle.byte_fields.proofs.FieldLaws.{field_again}
use Rattle.event_codec.specs.declared.event.Header.{Header}
use Rattle.event_codec.specs.declared.event.RowsKind.{RowsKind}
use Rattle.event_codec.specs.declared.event.RowsKind.TheVariants.{Write, Update, Delete}
use Rattle.event_codec.specs.declared.fault.Fault.{Fault}
use Rattle.event_codec.specs.Event.{Body, query, rotate, int_var, rand, user_var, format_description, xid, table_map, rows}
use Rattle.event_codec.specs.Bodies.{rows_body}
use Rattle.event_codec.specs.Laws.{Fits}
use Rattle.event_codec.specs.Reading.{event, reading, read_as, headed, body_at}
use Rattle.event_codec.specs.Writing.{rows_kind, kind_of, body_bytes, size, header_bytes, event_bytes, layout_bytes, format_description_bytes, HasForm, CanWrite}
use Rattle.event_codec.proofs.SessionLaws.{query_again, rotate_again, int_var_again, rand_again, user_var_again, format_description_again, xid_again}
use Rattle.event_codec.proofs.TableLaws.{table_map_again, rows_again}

-- ---- lengths

length-header_bytes : (kind size : ℕ) (h : Header) → length (header_bytes kind size h) ≡ 19
unfolding header_bytes number_bytes
length-header_bytes kind size h = refl

-- a body is as long at every time
length-body_bytes : (stamp : ℕ) (b : Body) → length (body_bytes stamp b) ≡ length (body_bytes 0 b)
unfolding format_description_bytes layout_bytes number_bytes
length-body_bytes stamp (query q) = refl
length-body_bytes stamp (rotate next) = refl
length-body_bytes stamp (int_var kind number) = refl
length-body_bytes stamp (rand first second) = refl
length-body_bytes stamp (user_var name content) = refl
length-body_bytes stamp (format_description version) = simp length-append
length-body_bytes stamp (xid number) = refl
length-body_bytes stamp (table_map m) = refl
length-body_bytes stamp (rows r) = refl

-- an event takes as many bytes as it says
pub length-event_bytes : (b : Body) (h : Header) → length (event_bytes b h) ≡ size b
unfolding event_bytes size
length-event_bytes b h =
    let front = length-header_bytes (kind_of b) (19 + length (body_bytes 0 b)) h in
    let body = length-body_bytes h.stamp b in
    omega (arith, length-append (header_bytes (kind_of b) (19 + length (body_bytes 0 b)) h) (body_bytes h.stamp b), front, body)

-- ---- the header

-- bytes with a sound header, by their parts
reading-is : (bytes body : List ℕ) (pos kind stamp size : ℕ) → slice_index bytes 4 ≡ kind → number_at 0 4 bytes ≡ stamp
    → number_at 9 4 bytes ≡ size → number_at 13 4 bytes ≡ pos + size → slice_range bytes 19 size ≡ body
    → 19 ≤ size → pos + size ≤ 1200000000 → size ≤ length bytes
    → reading bytes pos ≡ read_as pos kind (headed stamp size (body_at kind body))
unfolding reading
reading-is bytes body pos kind stamp size kind-is stamp-is size-is next-is body-is low high whole =
    let front : ltb (length bytes) 19 ≡ false = le-ltb _ _ (omega arith) in
    let a : leb 19 size ≡ true = le-leb _ _ low in
    let b : eqb (pos + size) (pos + size) ≡ true = eq-eqb _ _ refl in
    let d : leb (pos + size) 1200000000 ≡ true = le-leb _ _ high in
    let e : ltb (length bytes) size ≡ false = le-ltb _ _ whole in
    rw (front, size-is, next-is, a, b, d, e, kind-is, stamp-is, body-is) refl

-- a header and a body behind it are read as what the body says
header-again : (kind size : ℕ) (h : Header) (body rest : List ℕ) → length body + 19 ≡ size → h.stamp < 2 ^ 32 → h.pos + size ≤ 1200000000
    → reading (header_bytes kind size h ++ (body ++ rest)) h.pos ≡ read_as h.pos kind (headed h.stamp size (body_at kind body))
unfolding header_bytes number_at number_bytes
header-again kind size h body rest len stamp end =
    reading-is (header_bytes kind size h ++ (body ++ rest)) body h.pos kind h.stamp size refl (field_again 4 h.stamp [] stamp)
    (field_again 4 size [] (omega arith)) (field_again 4 (h.pos + size) [] (omega arith)) (take_at body rest (size - 19) (omega arith))
    (omega arith) end (omega (arith, length-append body rest))

-- ---- bodies

rows_at : (kind : RowsKind) (body : List ℕ) → body_at (rows_kind kind) body ≡ rows_body kind body
rows_at Write body = refl
rows_at Update body = refl
rows_at Delete body = refl

-- a body that is written is read again
body-again : (stamp : ℕ) (b : Body) → HasForm b → Fits b → stamp < 2 ^ 32 → length (body_bytes 0 b) ≤ 1200000000
    → body_at (kind_of b) (body_bytes stamp b) ≡ Ok b
body-again stamp (query q) form fits now small = query_again q fits.0 form fits.1
body-again stamp (rotate next) form fits now small = rotate_again next form
body-again stamp (int_var kind number) form fits now small = int_var_again kind number form
body-again stamp (rand first second) form fits now small = rand_again first second form.0 form.1
body-again stamp (user_var name content) form fits now small = user_var_again name content fits small
body-again stamp (format_description version) form fits now small = format_description_again stamp version now form
body-again stamp (xid number) form fits now small = xid_again number fits
body-again stamp (table_map m) form fits now small = table_map_again m form small
body-again stamp (rows r) form fits now small = rows_at r.kind (body_bytes stamp (rows r)) ∙ rows_again r form.0 form.1 small

-- an event that is written is read again
pub read-again : (b : Body) (h : Header) (rest : List ℕ) → CanWrite b h.pos → Fits b → h.stamp < 2 ^ 32
    → reading (event_bytes b h ++ rest) h.pos ≡ event (record { stamp = h.stamp; size = size b; body = b })
unfolding event_bytes size
read-again b h rest can fits stamp =
    let n : ℕ = 19 + length (body_bytes 0 b) in
    let len = length-body_bytes h.stamp b in
    let end = can.end in
    ap (λ (bytes : List ℕ). reading bytes h.pos) (append_assoc (header_bytes (kind_of b) n h) (body_bytes h.stamp b) rest)
    ∙ header-again (kind_of b) n h (body_bytes h.stamp b) rest (omega (arith, len)) stamp end
    ∙ ap (λ (r : Result Body Fault). read_as h.pos (kind_of b) (headed h.stamp n r)) (body-again h.stamp b can.form fits stamp (omega (arith, end)))
