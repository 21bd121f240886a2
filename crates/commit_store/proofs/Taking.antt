-- A record that was made before is taken over, and passed on to the readers.
use Rattle.std.proofs.Common.{◌≡◌, ℕ, ◌+◌, ◌^◌, ◌<◌, ◌≤◌, length, List, [], ◌∷◌, ◌++◌, sym, ◌∙◌, ap, arith}
use Rattle.gate_journal.specs.declared.journal.Journal.{Journal}
use Rattle.store_model.specs.declared.record.Head.{Head}
use Rattle.store_model.specs.declared.record.Record.{Record as AnyRecord}
use Rattle.store_model.specs.Bodies.{IsRecord, body_of}
use Rattle.commit_store.specs.declared.next.Next.{Next}
use Rattle.commit_store.specs.declared.next.Next.TheVariants.{Nothing, Committed, LogBegun, CarriedOut}
use Rattle.commit_store.specs.declared.prepared.Prepared.{Prepared}
use Rattle.commit_store.specs.declared.store.Store.{Store}
use Rattle.commit_store.specs.Reserved.{LogEnds}
use Rattle.commit_store.specs.Next.{HasRoom, passed, prepared_of, with_last}
use Rattle.commit_store.specs.Keeping.{IsReady}

abbrev ends_of : List ℕ → ℕ → LogEnds
ends_of list room = record { list = list; room = room }

-- ---- room for ends

pub other_room : (store : Store) (ends : LogEnds) → ends.list ≡ store.ends.list → record store { ends = ends } ≡ record store { ends = record store.ends { room = ends.room } }
other_room store ends same = ap (λ (list : List ℕ). record store { ends = ends_of list ends.room }) same

pub room_for : (n : Next) (ends : LogEnds) → 1 ≤ ends.room → HasRoom n ends
room_for Nothing ends some = tt
room_for (Committed head) ends some = tt
room_for (LogBegun old_end pos) ends some = omega arith
room_for (CarriedOut head) ends some = tt

-- ---- a record taken over

pub taken_ready : (store : Store) (p : Prepared) (journal : Journal) (r : AnyRecord) → journal ≡ record store.journal { ready = p.ready } → p ≡ prepared_of r → IsRecord store.node r
    → length (body_of r) < 2 ^ 32 → IsReady (record store { journal = journal; next = p.next }) r
taken_ready store p journal r is made form fits = record {
  form = form;
  bytes = record { ready = ap (λ (j : Journal). j.ready) is ∙ ap (λ (q : Prepared). q.ready) made; fits = fits };
  next = ap (λ (q : Prepared). q.next) made;
}

-- with other room, and then with a record
pub taken_rest : (old room new : Store) (p : Prepared) → room ≡ record old { ends = record old.ends { room = room.ends.room } } → new ≡ record room { journal = new.journal; next = p.next }
    → new ≡ record old { ends = record old.ends { room = new.ends.room }; journal = new.journal; next = new.next }
taken_rest old room new p first second =
    second ∙ ap (λ (s : Store). record s { journal = new.journal; next = p.next }) first
    ∙ ap (λ (n : ℕ). record old { ends = ends_of old.ends.list n; journal = new.journal; next = p.next }) (sym (ap (λ (s : Store). s.ends.room) second))
    ∙ ap (λ (n : Next). record old { ends = ends_of old.ends.list new.ends.room; journal = new.journal; next = n }) (sym (ap (λ (s : Store). s.next) second))

-- ---- what it sets

pub passed_committed : (next : Next) (head : Head) (store : Store) (ends : LogEnds) → next ≡ Committed head → ends.list ≡ with_last head.pos store.ends.list → ends.room ≡ store.ends.room
    → record store { number = head.number; ends = ends; next = Nothing } ≡ passed next store
passed_committed next head store ends is list room =
    ap (λ (l : List ℕ). record store { number = head.number; ends = ends_of l ends.room; next = Nothing }) list
    ∙ ap (λ (n : ℕ). record store { number = head.number; ends = ends_of (with_last head.pos store.ends.list) n; next = Nothing }) room
    ∙ ap (λ (n : Next). passed n store) (sym is)

pub passed_begun : (next : Next) (old_end pos : ℕ) (store : Store) (set ends : LogEnds) → next ≡ LogBegun old_end pos → set.list ≡ with_last old_end store.ends.list → set.room ≡ store.ends.room
    → ends.list ≡ set.list ++ pos ∷ [] → ends.room + 1 ≡ set.room → record store { ends = ends; next = Nothing } ≡ passed next store
passed_begun next old_end pos store set ends is last same list room =
    ap (λ (l : List ℕ). record store { ends = ends_of l ends.room; next = Nothing }) (list ∙ ap (λ (l : List ℕ). l ++ pos ∷ []) last)
    ∙ ap (λ (n : ℕ). record store { ends = ends_of (with_last old_end store.ends.list ++ pos ∷ []) n; next = Nothing }) (omega (arith, same, room))
    ∙ ap (λ (n : Next). passed n store) (sym is)
