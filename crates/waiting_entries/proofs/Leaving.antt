-- What was made of a transaction or of a definition is what it leaves.
use Rattle.std.proofs.Common.{◌≡◌, ◌<◌, ◌≤◌, ◌^◌, ℕ, ◌+◌, List, [], ◌∷◌, ◌++◌, true, length, sym, ap, ◌∙◌, subst, arith}
use Rattle.std.specs.Prelude.{flat_map, codes}
use Rattle.std.proofs.lemmas.List.{length-append}
use Rattle.val_types.specs.declared.change.Change.{Change}
use Rattle.byte_fields.specs.Field.{number_bytes}
use Rattle.event_codec.specs.Event.{Query, query, xid}
use Rattle.event_codec.specs.Writing.{query_bytes, size, step_bytes}
use Rattle.binlog_items.specs.Logged.{Encodes}
use Rattle.binlog_items.specs.binlog_cache.Sums.{changes_in}
use Rattle.commit_store.specs.Next.{prepared_of}
use Rattle.commit_store.specs.declared.prepared.Prepared.{Prepared}
use Rattle.commit_store.specs.store_model.Held.{most_committed, latest_end}
use Rattle.commit_store.specs.store_model.declared.record.Head.{Head}
use Rattle.commit_store.specs.store_model.declared.record.Record.TheVariants as records
use Rattle.commit_store.specs.store_model.log_entries.declared.entries.Item.{Item}
use Rattle.commit_store.specs.store_model.log_entries.declared.entries.Entry.TheVariants.{Transaction, Definition}
use Rattle.commit_store.specs.store_model.log_model.Items.{item_events, query_of}
use Rattle.commit_store.specs.store_model.log_model.Log.{LogPlace, begin_query, definition, transaction}
use Rattle.commit_store.specs.store_model.log_model.Written.{Stamped, CanWriteAll, total}
use Rattle.binlog_items.proofs.of_log_model.ReadAgain.{length-bytes_of}
use Rattle.waiting_entries.specs.declared.waiting.Waiting.{Waiting}
use Rattle.waiting_entries.specs.Waiting.{HasBody, Leaves}
use Rattle.waiting_entries.proofs.Added.{definition_head, definition_tail, transaction_head, transaction_tail}

-- ---- where the log ends behind it

ends_low : (pos : ℕ) (xs : List Stamped) → CanWriteAll pos xs → pos ≤ 1200000000 → pos + total xs ≤ 1200000000
ends_low pos [] can low = omega (arith, low)
ends_low pos (e ∷ xs) can low = omega (arith, ends_low (pos + size e.body) xs can.3 can.0.end)

transaction_low : (stamp number pos : ℕ) (is : List Item) → 1 ≤ length is → CanWriteAll pos (transaction stamp number is) → pos + total (transaction stamp number is) ≤ 1200000000
transaction_low stamp number pos [] some can = absurd (omega (arith, some))
transaction_low stamp number pos (i ∷ is) some can =
    let rest : List Stamped = flat_map item_events (i ∷ is) ++ record { stamp = stamp; body = xid number } ∷ [] in
    omega (arith, ends_low (pos + size (query (begin_query i.carried.connection))) rest can.3 can.0.end)

-- a text is no longer than its QUERY
text_low : (q : Query) → length q.text ≤ size (query q)
unfolding size query_bytes number_bytes
text_low q = omega (arith, length-append (step_bytes q.step) (codes "db" ++ (0 ∷ q.text)))

-- the record of an entry that goes on in its log up to a position
abbrev head_at : (number log pos : ℕ) → Head
head_at number log pos = record { number = number + 1; log = log; pos = pos }

-- what was found of that position
abbrev pub EndsWithin : (number log end : ℕ) → Type 0
EndsWithin number log end = (number < most_committed) × ((0 < log) × (end ≤ latest_end))

abbrev waiting_with : List ℕ → Prepared → Waiting
waiting_with tail prepared = record { tail = tail; head = []; prepared = prepared; counts = true }

-- what waits, by its parts
waits : (tail tail' head : List ℕ) (prepared prepared' : Prepared) → tail ≡ tail' → [] ≡ head → prepared ≡ prepared'
    → waiting_with tail prepared ≡ record { tail = tail'; head = head; prepared = prepared'; counts = true }
waits tail tail' head prepared prepared' tails heads records =
    ap (λ (bs : List ℕ). waiting_with bs prepared) tails
    ∙ ap (λ (q : Prepared). waiting_with tail' q) records
    ∙ ap (λ (bs : List ℕ). record { tail = tail'; head = bs; prepared = prepared'; counts = true }) heads

-- ---- a transaction

module _ (stamp server number log pos : ℕ) (is : List Item) (tail : List ℕ) (encodes : Encodes (Transaction stamp server is) number pos tail) where
  transaction_size : length tail ≡ total (transaction stamp (number + 1) is)
  transaction_size = ap length encodes.bytes ∙ length-bytes_of server pos (transaction stamp (number + 1) is)

  pub transaction_end : pos + length tail ≤ 1200000000
  transaction_end = omega (arith, transaction_size, transaction_low stamp (number + 1) pos is encodes.can.0 encodes.can.2)

  pub transaction_leaves : (end : ℕ) (cs : List Change) (prepared : Prepared) → end ≡ pos + length tail → cs ≡ changes_in is → HasBody (records.Transaction (head_at number log end) cs)
      → prepared ≡ prepared_of (records.Transaction (head_at number log end) cs) → EndsWithin number log end
      → Leaves (Transaction stamp server is) number (record { log = log; pos = pos }) (record { waiting = waiting_with tail prepared; end = end })
  transaction_leaves end cs prepared ends copied body made within =
      let p : LogPlace = record { log = log; pos = pos } in
      let there : end ≡ pos + total (transaction stamp (number + 1) is) = ends ∙ ap (λ (n : ℕ). pos + n) transaction_size in
      let same : records.Transaction (head_at number log end) cs ≡ records.Transaction (head_at number log (pos + total (transaction stamp (number + 1) is))) (changes_in is) =
      ap (λ (n : ℕ). records.Transaction (head_at number log n) cs) there
      ∙ ap (λ (ds : List Change). records.Transaction (head_at number log (pos + total (transaction stamp (number + 1) is))) ds) copied in
      record {
        waiting = waits _ _ _ _ _ (encodes.bytes ∙ sym (transaction_tail stamp server number is p)) (sym (transaction_head stamp server number is p)) (made ∙ ap prepared_of same);
        can = (encodes.can, (subst HasBody same body, subst (λ (n : ℕ). EndsWithin number log n) there within));
        next = ap (λ (n : ℕ). record { log = log; pos = n }) (sym there);
      }

-- ---- a definition

module _ (stamp server number log pos : ℕ) (i : Item) (tail : List ℕ) (encodes : Encodes (Definition stamp server i) number pos tail) where
  definition_size : length tail ≡ total (definition stamp i)
  definition_size = ap length encodes.bytes ∙ length-bytes_of server pos (definition stamp i)

  pub definition_end : pos + length tail ≤ 1200000000
  definition_end = omega (arith, definition_size, ends_low (pos + size (query (query_of i.text i.carried))) [] tt encodes.can.0.0.end)

  pub definition_text : length i.text < 2 ^ 31
  definition_text = omega (arith, text_low (query_of i.text i.carried), encodes.can.0.0.end)

  pub definition_leaves : (end : ℕ) (prepared : Prepared) → end ≡ pos + length tail → HasBody (records.Definition (head_at number log end) i.text)
      → prepared ≡ prepared_of (records.Definition (head_at number log end) i.text) → EndsWithin number log end
      → Leaves (Definition stamp server i) number (record { log = log; pos = pos }) (record { waiting = waiting_with tail prepared; end = end })
  definition_leaves end prepared ends body made within =
      let p : LogPlace = record { log = log; pos = pos } in
      let there : end ≡ pos + total (definition stamp i) = ends ∙ ap (λ (n : ℕ). pos + n) definition_size in
      let same : records.Definition (head_at number log end) i.text ≡ records.Definition (head_at number log (pos + total (definition stamp i))) i.text =
      ap (λ (n : ℕ). records.Definition (head_at number log n) i.text) there in
      record {
        waiting = waits _ _ _ _ _ (encodes.bytes ∙ sym (definition_tail stamp server number i p)) (sym (definition_head stamp server number i p)) (made ∙ ap prepared_of same);
        can = (encodes.can, (subst HasBody same body, subst (λ (n : ℕ). EndsWithin number log n) there within));
        next = ap (λ (n : ℕ). record { log = log; pos = n }) (sym there);
      }
