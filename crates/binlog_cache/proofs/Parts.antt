-- The events of a transaction, part by part.
use Rattle.std.specs.Prelude.{flat_map}
use Rattle.std.proofs.Common.{◌≡◌, ℕ, ◌+◌, ◌≤◌, ◌<◌, List, [], ◌∷◌, ◌++◌, length, drop, get_or, refl, sym, ap, ◌∙◌, subst, arith, append_assoc}
use Rattle.std.proofs.lemmas.List.{append-nil, drop_all, drop_more}
use Rattle.val_types.specs.declared.change.Change.{Change}
use Rattle.event_codec.specs.declared.event.Header.{Header}
use Rattle.binlog_sizes.specs.log_model.Items.{item_events, IsCarried, AreCarried}
use Rattle.binlog_sizes.specs.log_model.Log.{transaction}
use Rattle.binlog_sizes.specs.log_model.Written.{Stamped, bytes_of, CanWriteAll}
use Rattle.binlog_sizes.specs.row_events.Writing.{Wrote, GoesOn}
use Rattle.binlog_sizes.proofs.of_row_events.GoingOn.{starts, goes, ends, next}
use Rattle.binlog_cache.specs.declared.kept.Kept.{Kept}
use Rattle.binlog_cache.specs.Sums.{items_of, changes_in, begin_event, xid_event}

-- the events of items that are left
abbrev pub events_of : List Kept → List Stamped
events_of ks = flat_map item_events (items_of ks)

pub item_first : (ks : List Kept) (i : ℕ) (k : Kept) → i < length ks → k ≡ get_or ks i k → events_of (drop i ks) ≡ item_events k.item ++ events_of (drop (i + 1) ks)
item_first ks i k low is = ap events_of (drop_more ks i k low ∙ ap (λ (x : Kept). x ∷ drop (i + 1) ks) (sym is))

pub is_carried : (ks : List Kept) (i : ℕ) (k : Kept) → i < length ks → k ≡ get_or ks i k → AreCarried (items_of (drop i ks)) → IsCarried k.item.rows k.item × AreCarried (items_of (drop (i + 1) ks))
is_carried ks i k low is are = subst (λ (xs : List Kept). AreCarried (items_of xs)) (drop_more ks i k low ∙ ap (λ (x : Kept). x ∷ drop (i + 1) ks) (sym is)) are

-- the changes of items that are left
changes_first : (ks : List Kept) (i : ℕ) (k : Kept) → i < length ks → k ≡ get_or ks i k → changes_in (items_of (drop i ks)) ≡ k.item.changes ++ changes_in (items_of (drop (i + 1) ks))
changes_first ks i k low is = ap (λ (xs : List Kept). changes_in (items_of xs)) (drop_more ks i k low ∙ ap (λ (x : Kept). x ∷ drop (i + 1) ks) (sym is))

pub changes_more : (ks : List Kept) (i : ℕ) (k : Kept) (all own new : List Change) → i < length ks → k ≡ get_or ks i k → own ≡ k.item.changes → new ≡ all ++ own
    → all ++ changes_in (items_of (drop i ks)) ≡ changes_in (items_of ks) → new ++ changes_in (items_of (drop (i + 1) ks)) ≡ changes_in (items_of ks)
changes_more ks i k all own new low is copied appended before =
    ap (λ (cs : List Change). cs ++ changes_in (items_of (drop (i + 1) ks))) appended
    ∙ append_assoc all own (changes_in (items_of (drop (i + 1) ks)))
    ∙ ap (λ (cs : List Change). all ++ (cs ++ changes_in (items_of (drop (i + 1) ks)))) copied
    ∙ ap (λ (cs : List Change). all ++ cs) (sym (changes_first ks i k low is))
    ∙ before

pub changes_none : (ks : List Kept) (i : ℕ) (all : List Change) → length ks ≤ i → all ++ changes_in (items_of (drop i ks)) ≡ changes_in (items_of ks) → all ≡ changes_in (items_of ks)
changes_none ks i all past before =
    sym (append-nil all) ∙ ap (λ (xs : List Kept). all ++ changes_in (items_of xs)) (sym (drop_all i ks past)) ∙ before

-- a transaction of some items
pub parts_of : (stamp number : ℕ) (ks : List Kept) (k : Kept) → 1 ≤ length ks → k ≡ get_or ks 0 k
    → transaction stamp number (items_of ks) ≡ begin_event k.item.carried ++ (events_of ks ++ xid_event stamp number)
parts_of stamp number [] k some is = absurd (omega arith)
parts_of stamp number (x ∷ xs) k some is =
    ap (λ (y : Kept). begin_event y.item.carried ++ (events_of (x ∷ xs) ++ xid_event stamp number)) (sym is)

pub no_items : (stamp number server pos : ℕ) (ks : List Kept) → length ks ≡ 0 → [] ≡ bytes_of server pos (transaction stamp number (items_of ks))
no_items stamp number server pos [] none = refl
no_items stamp number server pos (k ∷ ks) none = absurd (omega (arith, none))

module _ (stamp number : ℕ) (ks : List Kept) (k : Kept) (some : 1 ≤ length ks) (is : k ≡ get_or ks 0 k) (h : Header) (start : List ℕ)
    (can : CanWriteAll h.pos (transaction stamp number (items_of ks))) where
  pub begin_can : CanWriteAll h.pos (begin_event k.item.carried)
  begin_can = next (transaction stamp number (items_of ks)) (begin_event k.item.carried) (events_of ks ++ xid_event stamp number) (transaction stamp number (items_of ks)) h h start start (parts_of stamp number ks k some is) (starts (transaction stamp number (items_of ks)) h start can)

  pub begun : (one : Header) (out : List ℕ) → Wrote (begin_event k.item.carried) h one start out → GoesOn (transaction stamp number (items_of ks)) (events_of ks ++ xid_event stamp number) h one start out
  begun one out wrote = goes (transaction stamp number (items_of ks)) (begin_event k.item.carried) (events_of ks ++ xid_event stamp number) (transaction stamp number (items_of ks)) h h one start start out (parts_of stamp number ks k some is) (starts (transaction stamp number (items_of ks)) h start can) wrote

  pub items_can : (one : Header) (out : List ℕ) → Wrote (begin_event k.item.carried) h one start out → CanWriteAll one.pos (events_of ks)
  items_can one out wrote = next (transaction stamp number (items_of ks)) (events_of ks) (xid_event stamp number) (events_of ks ++ xid_event stamp number) h one start out refl (begun one out wrote)

  pub itemed : (one two : Header) (out new : List ℕ) → Wrote (begin_event k.item.carried) h one start out → Wrote (events_of ks) one two out new
      → GoesOn (transaction stamp number (items_of ks)) (xid_event stamp number) h two start new
  itemed one two out new first second = goes (transaction stamp number (items_of ks)) (events_of ks) (xid_event stamp number) (events_of ks ++ xid_event stamp number) h one two start out new refl (begun one out first) second

  pub xid_can : (one two : Header) (out new : List ℕ) → h.stamp ≡ stamp → Wrote (begin_event k.item.carried) h one start out → Wrote (events_of ks) one two out new → CanWriteAll two.pos (xid_event two.stamp number)
  xid_can one two out new at first second =
      subst (λ (s : ℕ). CanWriteAll two.pos (xid_event s number)) (sym ((itemed one two out new first second).stamp ∙ at)) (itemed one two out new first second).can

  pub all_written : (one two three : Header) (out new done : List ℕ) → h.stamp ≡ stamp → Wrote (begin_event k.item.carried) h one start out → Wrote (events_of ks) one two out new
      → Wrote (xid_event two.stamp number) two three new done → done ≡ start ++ bytes_of h.server_id h.pos (transaction stamp number (items_of ks))
  all_written one two three out new done at first second third =
      let on = itemed one two out new first second in
      let last : Wrote (xid_event stamp number) two three new done = subst (λ (s : ℕ). Wrote (xid_event s number) two three new done) (on.stamp ∙ at) third in
      (ends (transaction stamp number (items_of ks)) h three start done (goes (transaction stamp number (items_of ks)) (xid_event stamp number) [] (xid_event stamp number) h two three start new done refl on last)).bytes
