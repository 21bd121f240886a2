-- A log grows by what its entries append.
use Rattle.std.proofs.Common.{◌≡◌, ℕ, ◌+◌, ◌<◌, ◌^◌, List, [], ◌∷◌, ◌++◌, length, refl, sym, ap, ◌∙◌, append_assoc, arith}
use Rattle.event_codec.specs.Event.{rotate, format_description}
use Rattle.event_codec.specs.Writing.{size, rotate_bytes, format_description_bytes, layout_bytes}
use Rattle.byte_fields.specs.Field.{number_bytes}
use Rattle.log_entries.specs.declared.entries.Item.{Item}
use Rattle.log_entries.specs.declared.entries.Entry.{Entry}
use Rattle.log_entries.specs.declared.entries.Entry.TheVariants.{Transaction, Definition}
use Rattle.log_model.specs.Written.{bytes_of, total, CanWriteAll}
use Rattle.log_model.specs.Log.{LogPlace, log, entry_bytes, counted, counted_all, behind, written_to, moved, transaction, definition, rotation, description, version, head}
use Rattle.log_model.proofs.ReadAgain.{length-bytes_of, events_again}
use Rattle.log_model.specs.Events.{Place, Placed, stop_from}
use Rattle.log_model.specs.Groups.{start, next_log, group, group_at, group_of}
use Rattle.event_codec.specs.LogName.{log_name}

pub goes_on : (front back : List (Entry Item)) (number : ℕ) (p : LogPlace)
    → log (front ++ back) number p ≡ log front number p ++ log back (counted_all front number) (written_to front number p)
goes_on [] back number p = refl
goes_on (e ∷ es) back number p =
    ap (λ (bs : List ℕ). entry_bytes e number p ++ bs) (goes_on es back (counted e number) (behind e number p))
    ∙ sym (append_assoc (entry_bytes e number p) (log es (counted e number) (behind e number p)) (log back (counted_all es (counted e number)) (written_to es (counted e number) (behind e number p))))

pub transaction_moves : (stamp server number : ℕ) (is : List Item) (p : LogPlace)
    → behind (Transaction stamp server is) number p ≡ moved p (length (entry_bytes (Transaction stamp server is) number p))
transaction_moves stamp server number is p = ap (moved p) (sym (length-bytes_of server p.pos (transaction stamp (number + 1) is)))

pub definition_moves : (stamp server number : ℕ) (i : Item) (p : LogPlace)
    → behind (Definition stamp server i) number p ≡ moved p (length (entry_bytes (Definition stamp server i) number p))
definition_moves stamp server number i p = ap (moved p) (sym (length-bytes_of server p.pos (definition stamp i)))

first_size : (stamp : ℕ) → total (description stamp) ≡ 119
unfolding size format_description_bytes layout_bytes number_bytes
first_size stamp = refl

pub head_length : (stamp server : ℕ) → length (head stamp server) ≡ 123
head_length stamp server =
    let first : length (bytes_of server 4 (description stamp)) ≡ 119 = length-bytes_of server 4 (description stamp) ∙ first_size stamp in
    omega (arith, first)

-- ---- a log's start is read

abbrev place : List ℕ → ℕ → Place
place bytes pos = record { bytes = bytes; pos = pos }

can_begin : (stamp : ℕ) → stamp < 2 ^ 32 → CanWriteAll 4 (description stamp)
can_begin stamp low = (record { form = refl; end = let all = first_size stamp in omega (arith, all) }, tt, low, tt)

pub start_read : (stamp server : ℕ) (rest : List ℕ) → stamp < 2 ^ 32
    → group_at (record { bytes = bytes_of server 4 (description stamp) ++ rest; pos = 4 }) ≡ group (record { form = start; begin = 4; end = 123 })
unfolding group_at
start_read stamp server rest low =
    let p : Place = place (bytes_of server 4 (description stamp) ++ rest) 4 in
    let all = first_size stamp in
    let end : 4 + size (format_description version) ≡ 123 = omega (arith, all) in
    ap (λ (xs : List Placed). group_of xs (stop_from p)) (events_again server 4 (description stamp) rest (can_begin stamp low)).0
    ∙ ap (λ (n : ℕ). group (record { form = start; begin = 4; end = n })) end

rotate_size : (next : ℕ) → size (rotate next) ≡ 40
unfolding size rotate_bytes log_name number_bytes
rotate_size next = refl

pub rotation_read : (stamp next server pos : ℕ) (rest : List ℕ) → CanWriteAll pos (rotation stamp next)
    → group_at (record { bytes = bytes_of server pos (rotation stamp next) ++ rest; pos = pos })
    ≡ group (record { form = next_log next; begin = pos; end = pos + 40 })
unfolding group_at
rotation_read stamp next server pos rest can =
    let p : Place = place (bytes_of server pos (rotation stamp next) ++ rest) pos in
    ap (λ (xs : List Placed). group_of xs (stop_from p)) (events_again server pos (rotation stamp next) rest can).0
    ∙ ap (λ (n : ℕ). group (record { form = next_log next; begin = pos; end = pos + n })) (rotate_size next)
