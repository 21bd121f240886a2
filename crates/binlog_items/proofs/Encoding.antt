-- What a transaction or a definition is written as can be written.
use Rattle.std.proofs.Common.{◌≡◌, ℕ, zero, suc, ◌+◌, ◌-◌, ◌^◌, ◌<◌, ◌≤◌, min, Bool, true, false, List, [], ◌∷◌, ◌++◌, length, take, refl, sym, ap, ◌∙◌, subst, arith, Result, Ok, Err, IfOk, OnOk, OnErr, Option, Some, None, length-append}
use Rattle.std.specs.Prelude.{flat_map, nat_lt, if◌then◌else◌, codes, IfSome}
use Rattle.std.specs.Str.{bytes_eq}
use Rattle.std.proofs.lemmas.Bool.Decides.{nat_tests}
use Rattle.byte_fields.specs.Field.{number_bytes}
use Rattle.event_codec.specs.declared.event.Step.{Step}
use Rattle.event_codec.specs.Event.{Body, Query, format_description, query, xid}
use Rattle.event_codec.specs.Writing.{size, format_description_bytes, layout_bytes, query_bytes, step_bytes}
use Rattle.log_entry_laws.specs.log_entries.declared.entries.Item.{Item}
use Rattle.log_entry_laws.specs.log_entries.declared.entries.Entry.TheVariants.{Transaction, Definition}
use Rattle.unsafe_rules.specs.sql_meaning.Frames.{Context}
use Rattle.log_entry_laws.specs.log_model.Items.{at_time, changes_item, item_events, item_size, query_of, step_of, text_of, AreCarried, IsCarried}
use Rattle.log_entry_laws.specs.log_model.Log.{begin_query, description, transaction, version}
use Rattle.log_entry_laws.specs.log_model.Spelling.{bodies_of}
use Rattle.log_entry_laws.specs.log_model.Written.{Stamped, bytes_of, total, CanWriteAll}
use Rattle.row_laws.specs.row_events.Sizes.{bounded}
use Rattle.row_laws.proofs.of_row_events.GoingOn.{total_append}
use Rattle.row_laws.proofs.Writable.{writable}
use Rattle.binlog_cache.specs.binlog_sizes.Sizes.{all_sizes, most_bytes}
use Rattle.log_entry_laws.specs.Ids.{AllSayIds, SaysIds}
use Rattle.binlog_items.specs.Items.{item_by_text}
use Rattle.binlog_items.specs.Logged.{AreLogged, Encodes, HaveForms, IsLogged, IsLoggedBy}

-- ---- items

logged_more : (is : List Item) (i : Item) → AreLogged is → IsLogged i → AreLogged (is ++ i ∷ [])
logged_more [] i are is-one = (is-one, tt)
logged_more (x ∷ xs) i are is-one = (are.0, logged_more xs i are.1 is-one)

pub logged_if : {A E : Type 0} (r : Result A E) (old new : List Item) (i : Item) → AreLogged old → IsLogged i → OnOk r (new ≡ old ++ i ∷ []) → OnErr r (new ≡ old) → AreLogged new
logged_if (Ok a) old new i are is-one ok err = subst AreLogged (sym ok) (logged_more old i are is-one)
logged_if (Err e) old new i are is-one ok err = subst AreLogged (sym err) are

pub logged_front : (n : ℕ) (is : List Item) → AreLogged is → AreLogged (take n is)
logged_front zero is are = tt
logged_front (suc n) [] are = tt
logged_front (suc n) (i ∷ is) are = (are.0, logged_front n is are.1)

carried_by : (rows : Bool) (i : Item) → IsLoggedBy rows i → IsCarried rows i
carried_by true i form = (form.some, form.can)
carried_by false i form = tt

pub all_carried : (is : List Item) → AreLogged is → AreCarried is
all_carried [] are = tt
all_carried (i ∷ is) are = (carried_by i.rows i are.0.form, all_carried is are.1)

ids_by : (rows : Bool) (i : Item) → IsLoggedBy rows i → SaysIds rows i
ids_by true i form = tt
ids_by false i form = form.1

all_ids : (is : List Item) → AreLogged is → AllSayIds is
all_ids [] are = tt
all_ids (i ∷ is) are = (ids_by i.rows i are.0.form, all_ids is are.1)

-- ---- events

can_join : (pos : ℕ) (xs ys : List Stamped) → CanWriteAll pos xs → CanWriteAll (pos + total xs) ys → CanWriteAll pos (xs ++ ys)
can_join pos [] ys first second = let same : pos + 0 ≡ pos = omega arith in subst (λ (n : ℕ). CanWriteAll n ys) same second
can_join pos (e ∷ xs) ys first second =
    let sum : pos + (size e.body + total xs) ≡ pos + size e.body + total xs = omega arith in
    (first.0, first.1, first.2, can_join (pos + size e.body) xs ys first.3 (subst (λ (n : ℕ). CanWriteAll n ys) sum second))

-- of the right form, they can be written where there is room
forms_can : (bs : List Body) (stamp pos : ℕ) → HaveForms bs → stamp < 2 ^ 32 → pos + total (at_time stamp bs) ≤ 1200000000 → CanWriteAll pos (at_time stamp bs)
forms_can [] stamp pos forms low end = tt
forms_can (b ∷ bs) stamp pos forms low end =
    (record { form = forms.0; end = omega (arith, end) }, forms.1, low, forms_can bs stamp (pos + size b) forms.2 low (omega (arith, end)))

-- the events of an item, by its rows or by its text
abbrev events_by : Bool → Item → List Stamped
events_by rows i = at_time i.carried.stamp (bodies_of (if rows then changes_item i.defs i.changes else text_of i.text i.carried))

can_by : (rows : Bool) (i : Item) (pos : ℕ) → IsLoggedBy rows i → i.carried.stamp < 2 ^ 32 → pos + total (events_by rows i) ≤ 1200000000 → CanWriteAll pos (events_by rows i)
can_by true i pos form low end = writable i.defs i.changes i.carried.stamp pos form.named form.can low end
can_by false i pos form low end = forms_can (bodies_of (text_of i.text i.carried)) i.carried.stamp pos form.0 low end

item_can : (i : Item) (pos : ℕ) → IsLogged i → pos + item_size i ≤ 1200000000 → CanWriteAll pos (item_events i)
item_can i pos logged end = can_by i.rows i pos logged.form logged.stamp end

all_total : (is : List Item) → total (flat_map item_events is) ≡ all_sizes is
all_total [] = refl
all_total (i ∷ is) = total_append (item_events i) (flat_map item_events is) ∙ ap (λ (n : ℕ). item_size i + n) (all_total is)

items_can : (is : List Item) (pos : ℕ) → AreLogged is → pos + all_sizes is ≤ 1200000000 → CanWriteAll pos (flat_map item_events is)
items_can [] pos are end = tt
items_can (i ∷ is) pos are end =
    can_join pos (item_events i) (flat_map item_events is) (item_can i pos are.0 (omega (arith, end)))
    (items_can is (pos + item_size i) are.1 (omega (arith, end)))

begin_size : (thread : ℕ) → size (query (begin_query thread)) ≡ 40
unfolding size query_bytes number_bytes
begin_size thread = refl

xid_size : (number : ℕ) → size (xid number) ≡ 27
unfolding size number_bytes
xid_size number = refl

transaction_can : (is : List Item) (stamp number pos : ℕ) → AreLogged is → stamp < 2 ^ 32 → number < 2 ^ 64 → pos + all_sizes is + 67 ≤ 1200000000 → CanWriteAll pos (transaction stamp number is)
transaction_can [] stamp number pos are at low end = tt
transaction_can (i ∷ is) stamp number pos are at low end =
    let begin = begin_size i.carried.connection in
    let last = xid_size number in
    let sum = all_total (i ∷ is) in (
      record { form = tt; end = omega (arith, begin, end) },
      (are.0.thread, tt),
      are.0.stamp,
      can_join (pos + size (query (begin_query i.carried.connection))) (flat_map item_events (i ∷ is)) (record { stamp = stamp; body = xid number } ∷ [])
          (items_can (i ∷ is) (pos + size (query (begin_query i.carried.connection))) are (omega (arith, begin, end)))
          (record { form = tt; end = omega (arith, begin, last, sum, end) }, low, at, tt),
    )

-- the sum that the code has is that of the items, where it is not too great
low_sum : (n s pos end : ℕ) → s ≡ bounded n → end ≡ min (min (pos + s) (2 ^ 64 - 1) + 67) (2 ^ 64 - 1) → end ≤ 1200000000 → pos + n + 67 ≤ 1200000000
low_sum n s pos end is sum low = omega (arith, is, sum, low)

pub encode_can : (is : List Item) (stamp committed number pos sum near end : ℕ) → AreLogged is → stamp < 2 ^ 32 → number ≡ committed + 1 → number < 2 ^ 64 → sum ≡ bounded (all_sizes is)
    → near ≡ min (pos + sum) (2 ^ 64 - 1) → end ≡ min (near + 67) (2 ^ 64 - 1) → end ≤ 1200000000 → CanWriteAll pos (transaction stamp number is)
encode_can is stamp committed number pos sum near end are at next low is-sum is-near is-end few =
    transaction_can is stamp number pos are at low (low_sum (all_sizes is) sum pos end is-sum (is-end ∙ ap (λ (n : ℕ). min (n + 67) (2 ^ 64 - 1)) is-near) few)

encodes : (is : List Item) (stamp server committed number pos : ℕ) (out : List ℕ) → AreLogged is → 1 ≤ length is → number ≡ committed + 1 → CanWriteAll pos (transaction stamp number is)
    → out ≡ bytes_of server pos (transaction stamp number is) → Encodes (Transaction stamp server is) committed pos out
encodes is stamp server committed number pos out are some next can is-out = record {
  bytes = is-out ∙ ap (λ (n : ℕ). bytes_of server pos (transaction stamp n is)) next;
  can = (some, all_carried is are, subst (λ (n : ℕ). CanWriteAll pos (transaction stamp n is)) next can, all_ids is are);
}

pub encodes_if : {E : Type 0} (r : Result (List ℕ) E) (is : List Item) (stamp server committed number pos : ℕ) → AreLogged is → 1 ≤ length is → number ≡ committed + 1 → CanWriteAll pos (transaction stamp number is)
    → IfOk r (λ out. out ≡ bytes_of server pos (transaction stamp number is)) → IfOk r (λ out. Encodes (Transaction stamp server is) committed pos out)
encodes_if (Ok out) is stamp server committed number pos are some next can is-out = encodes is stamp server committed number pos out are some next can is-out
encodes_if (Err e) is stamp server committed number pos are some next can is-out = tt

-- ---- a definition

step_few : (step : Option Step) → length (step_bytes step) ≤ 5
unfolding number_bytes
step_few None = omega arith
step_few (Some step) = omega arith

query_few : (q : Query) → size (query q) ≤ 40 + length q.text
unfolding size query_bytes number_bytes
query_few q =
    let few = step_few q.step in
    let all = length-append (step_bytes q.step) (codes "db" ++ (0 ∷ q.text)) in
    omega (arith, few, all)

pub definition_can : (q : Query) (stamp pos room near : ℕ) → IfSome q.step (λ s. (1 ≤ s.increment) × (1 ≤ s.offset)) → IfSome q.step (λ s. (s.increment < 2 ^ 16) × (s.offset < 2 ^ 16)) → q.thread < 2 ^ 32 → stamp < 2 ^ 32
    → room ≡ min (length q.text + 40) (2 ^ 64 - 1) → near ≡ min (pos + room) (2 ^ 64 - 1) → near ≤ 1200000000 → CanWriteAll pos (record { stamp = stamp; body = query q } ∷ [])
definition_can q stamp pos room near counts words thread at is-room is-near few =
    let size = query_few q in
    (record { form = counts; end = omega (arith, size, is-room, is-near, few) }, (thread, words), at, tt)

pub definition_encodes : (text : List ℕ) (context : Context) (server pos committed : ℕ) (before out : List ℕ) (stamp thread : ℕ) (step : Option Step) → stamp ≡ context.stamp → thread ≡ context.connection → step ≡ step_of context.increment context.offset
    → bytes_eq text (codes "BEGIN") ≡ false → CanWriteAll pos (record { stamp = stamp; body = query (record { thread = thread; step = step; text = text }) } ∷ []) → before ≡ []
    → out ≡ before ++ bytes_of server pos (record { stamp = stamp; body = query (record { thread = thread; step = step; text = text }) } ∷ [])
    → Encodes (Definition context.stamp server (item_by_text text context)) committed pos out
definition_encodes text context server pos committed before out stamp thread step at by so other can none is =
    let same : record { stamp = stamp; body = query (record { thread = thread; step = step; text = text }) } ≡ record { stamp = context.stamp; body = query (query_of text (item_by_text text context).carried) } =
    ap (λ (n : ℕ). record { stamp = n; body = query (record { thread = thread; step = step; text = text }) }) at
    ∙ ap (λ (n : ℕ). record { stamp = context.stamp; body = query (record { thread = n; step = step; text = text }) }) by
    ∙ ap (λ (s : Option Step). record { stamp = context.stamp; body = query (record { thread = context.connection; step = s; text = text }) }) so in
    record {
      bytes =
          is ∙ ap (λ bs. bs ++ bytes_of server pos (record { stamp = stamp; body = query (record { thread = thread; step = step; text = text }) } ∷ [])) none
          ∙ ap (λ (e : Stamped). bytes_of server pos (e ∷ [])) same;
      can = (subst (λ (e : Stamped). CanWriteAll pos (e ∷ [])) same can, other);
    }

-- ---- the head of a log

version_length : length version ≡ 50
version_length = refl

description_size : size (format_description version) ≡ 119
unfolding size format_description_bytes layout_bytes number_bytes
description_size = refl

pub start_can : (stamp : ℕ) → stamp < 2 ^ 32 → CanWriteAll 4 (description stamp)
start_can stamp at =
    let size = description_size in
    (record { form = version_length; end = omega (arith, size) }, tt, at, tt)

-- ---- what is too large

pub too_many : (n bytes : ℕ) → bytes ≡ bounded n → nat_lt most_bytes bytes ≡ nat_lt most_bytes n
too_many n bytes is = grind (arith, nat_tests)
