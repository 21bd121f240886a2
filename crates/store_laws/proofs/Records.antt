-- Objects that can be made again still can behind records.
use Rattle.std.proofs.Common.{◌≡◌, ℕ, zero, suc, ◌+◌, Bool, true, false, cond, eqb, List, [], ◌∷◌, length, take, drop, Option, Some, None, Result, Ok, Err, refl, sym, ap, subst, ◌∙◌}
use Rattle.std.specs.Option.{option_map, option_and_then}
use Rattle.std.specs.List.{AllByRecursion}
use Rattle.hex.specs.Hex.{IsBytes}
use Rattle.val_types.specs.declared.change.Change.{Change}
use Rattle.table_rules.specs.Tables.{Table}
use Rattle.table_rules.specs.Stored.{all_applied}
use Rattle.sql_tree.specs.Statement.{Statement}
use Rattle.store_model.specs.sql_reach.Reach.{is_definition}
use Rattle.catalog_laws.specs.catalog_rules.Bases.{Base, defined}
use Rattle.catalog_laws.specs.text_answers.Answers.{TextAnswer, a_statement, a_syntax_error, too_deep, text_answer}
use Rattle.store_model.specs.log_entries.Entries.{with_tables}
use Rattle.disk_model.proofs.Bytes.{bytes_take, bytes_drop}
use Rattle.gate_journal.specs.declared.record.NextRecord.{NextRecord}
use Rattle.gate_journal.specs.declared.record.NextRecord.TheVariants as next
use Rattle.gate_journal.specs.Records.{record_at, none_from, with_first, and_behind, records_from, records, Opened}
use Rattle.store_model.specs.log_model.Images.{Read, and_then}
use Rattle.catalog_laws.specs.Making.{AreMadeAgain, BasesStillMadeAgain}
use Rattle.store_model.specs.declared.record.Kind.{Kind}
use Rattle.store_model.specs.declared.record.Kind.TheVariants.{Source, Replica}
use Rattle.store_model.specs.declared.record.Head.{Head}
use Rattle.store_model.specs.declared.record.Record.{Record}
use Rattle.store_model.specs.declared.record.Record.TheVariants.{Transaction, Definition, LogStart, TransactionApplied, DefinitionApplied, PlaceMoved}
use Rattle.store_model.specs.Reading.{read_as, number_of, text_behind}
use Rattle.store_model.specs.Bodies.{head_in, changes_in, with_changes, with_text, with_old_end, record_of_kind, record_of}
use Rattle.store_model.specs.Held.{Held, is_next_commit, committed, begins_log, log_begun, next_applied, carried_out, changed, definition_in, defined_by, where_so, applied, body_applied, bodies_applied}
use Rattle.store_laws.proofs.Bytes.{Gives, Says, Any, says_either, says_given, says_any, then_gives, then_says, as_gives, as_says, end_says, number_gives, text_gives}

-- ---- the text of a record

abbrev TextIsBytes : Record → Type 0
TextIsBytes (Transaction head cs) = Unit {0}
TextIsBytes (Definition head text) = IsBytes text
TextIsBytes (LogStart head old_end) = Unit {0}
TextIsBytes (TransactionApplied head cs) = Unit {0}
TextIsBytes (DefinitionApplied head text) = IsBytes text
TextIsBytes (PlaceMoved head) = Unit {0}

head_gives : (bytes : List ℕ) → IsBytes bytes → Gives (λ (head : Head). Any head) (head_in bytes)
head_gives bytes is =
    then_gives (λ n. Any n) (λ (head : Head). Any head) _ (number_of 8 bytes) (number_gives 8 bytes is) (λ number rest any is'.
    then_gives (λ n. Any n) (λ (head : Head). Any head) _ (number_of 4 rest) (number_gives 4 rest is') (λ log rest' any' is''.
    as_gives (λ n. Any n) (λ (head : Head). Any head) (λ pos. record { number = number; log = log; pos = pos }) (number_of 4 rest') (number_gives 4 rest' is'') (λ n a. tt)))

module _ (bytes : List ℕ) (is : IsBytes bytes) where
  behind_head : (more : Head → List ℕ → Read Record) → ((head : Head) (rest : List ℕ) → IsBytes rest → Says TextIsBytes (more head rest)) → Says TextIsBytes (and_then more (head_in bytes))
  behind_head more says = then_says (λ (head : Head). Any head) TextIsBytes more (head_in bytes) (head_gives bytes is) (λ head rest any is'. says head rest is')

  text_says : (make : Head → List ℕ → Record) → ((head : Head) (text : List ℕ) → IsBytes text → TextIsBytes (make head text)) → Says TextIsBytes (and_then (with_text make) (head_in bytes))
  text_says make made = behind_head (with_text make) (λ head rest is'.
      as_says IsBytes TextIsBytes (make head) (text_behind 4 rest) (says_given IsBytes (text_behind 4 rest) (text_gives 4 rest is')) (made head))

  changes_say : (make : Head → List Change → Record) → ((head : Head) (cs : List Change) → TextIsBytes (make head cs)) → Says TextIsBytes (and_then (with_changes make) (head_in bytes))
  changes_say make made = behind_head (with_changes make) (λ head rest is'.
      as_says (λ cs. Any cs) TextIsBytes (make head) (changes_in rest) (says_any (λ cs. Any cs) (changes_in rest) (λ cs. tt)) (λ cs any. made head cs))

  record_says : (kind : Kind) (code : ℕ) → Says TextIsBytes (record_of_kind kind code bytes)
  record_says Source code =
      says_either TextIsBytes (eqb code 1) (and_then (with_changes (λ head cs. Transaction head cs)) (head_in bytes)) _ (changes_say (λ head cs. Transaction head cs) (λ head cs. tt))
      (says_either TextIsBytes (eqb code 2) (and_then (with_text (λ head text. Definition head text)) (head_in bytes)) _ (text_says (λ head text. Definition head text) (λ head text it. it))
      (says_either TextIsBytes (eqb code 3) (and_then with_old_end (head_in bytes)) None (behind_head with_old_end (λ head rest is'.
      as_says (λ n. Any n) TextIsBytes (λ at. LogStart head at) (number_of 4 rest) (says_any (λ n. Any n) (number_of 4 rest) (λ n. tt)) (λ n any. tt))) tt))
  record_says Replica code =
      says_either TextIsBytes (eqb code 17) (and_then (with_changes (λ head cs. TransactionApplied head cs)) (head_in bytes)) _ (changes_say (λ head cs. TransactionApplied head cs) (λ head cs. tt))
      (says_either TextIsBytes (eqb code 18) (and_then (with_text (λ head text. DefinitionApplied head text)) (head_in bytes)) _ (text_says (λ head text. DefinitionApplied head text) (λ head text it. it))
      (says_either TextIsBytes (eqb code 19) (read_as (λ head. PlaceMoved head) (head_in bytes)) None
      (as_says (λ (head : Head). Any head) TextIsBytes (λ head. PlaceMoved head) (head_in bytes) (says_any (λ (head : Head). Any head) (head_in bytes) (λ head. tt)) (λ head any. tt)) tt))

body_says : (kind : Kind) (body : List ℕ) (r : Record) → IsBytes body → record_of kind body ≡ Some r → TextIsBytes r
unfolding record_of
body_says kind body r is e =
    end_says TextIsBytes (and_then (record_of_kind kind) (number_of 1 body)) r
    (then_says (λ n. Any n) TextIsBytes (record_of_kind kind) (number_of 1 body) (number_gives 1 body is) (λ code rest any is'. record_says rest is' kind code)) e

-- ---- what a record makes

now_is : (made now : Held) → Some made ≡ Some now → made ≡ now
now_is made now e = ap (λ (o : Option Held). elim o [ None ↦ made | Some h ↦ h ]) e

-- where a test holds and something is made, that is what is held now
made_now : (b : Bool) (make : Base → Held) (made : Option Base) (now : Held) (P : Held → Type 0) → ((base : Base) → made ≡ Some base → P (make base))
    → where_so b (option_map make made) ≡ Some now → P now
made_now true make None now P all e = cc
made_now true make (Some base) now P all e = subst P (now_is (make base) now e) (all base refl)
made_now false make made now P all e = cc

simply_now : (b : Bool) (made now : Held) (P : Held → Type 0) → P made → where_so b (Some made) ≡ Some now → P now
simply_now true made now P p e = subst P (now_is made now e) p
simply_now false made now P p e = cc

changed_same : (cs : List Change) (base next : Base) → changed cs base ≡ Some next → base.catalog ≡ next.catalog
changed_same cs base next e = by (all_applied cs base.tables) e
  where
    by : (x : Option (List Table)) → option_map (with_tables base) x ≡ Some next → base.catalog ≡ next.catalog
    by None e = cc
    by (Some tables) e = ap (λ (o : Option Base). elim o [ None ↦ base.catalog | Some b ↦ b.catalog ]) e

module _ (keeps : BasesStillMadeAgain) where
  defined_still : (text : List ℕ) (base next : Base) → IsBytes text → defined_by text base ≡ Some next → AreMadeAgain base.catalog → AreMadeAgain next.catalog
  defined_still text base next bytes e are = by (text_answer text) refl e
    where
      read : (s : Statement) (b : Bool) → text_answer text ≡ a_statement s → option_and_then (λ t. defined t base) (cond b (Some s) None) ≡ Some next → AreMadeAgain next.catalog
      read s true reads e = keeps text s base next bytes reads e are
      read s false reads e = cc

      by : (a : TextAnswer) → text_answer text ≡ a → option_and_then (λ t. defined t base) (definition_in a) ≡ Some next → AreMadeAgain next.catalog
      by (a_statement s) reads e = read s (is_definition s) reads e
      by (a_syntax_error at) reads e = cc
      by too_deep reads e = cc

  module _ (held : Held) (are : AreMadeAgain held.base.catalog) where
    applied_still : (r : Record) (now : Held) → TextIsBytes r → applied r held ≡ Some now → AreMadeAgain now.base.catalog
    unfolding applied
    applied_still (Transaction head cs) now bytes e =
        made_now (is_next_commit head held) (committed head held) (changed cs held.base) now (λ h. AreMadeAgain h.base.catalog)
        (λ base made. subst AreMadeAgain (changed_same cs held.base base made) are) e
    applied_still (Definition head text) now bytes e =
        made_now (is_next_commit head held) (committed head held) (defined_by text held.base) now (λ h. AreMadeAgain h.base.catalog)
        (λ base made. defined_still text held.base base bytes made are) e
    applied_still (LogStart head old_end) now bytes e =
        simply_now (begins_log head old_end held) (log_begun head old_end held) now (λ h. AreMadeAgain h.base.catalog) are e
    applied_still (TransactionApplied head cs) now bytes e =
        made_now (eqb head.number (next_applied held.number)) (carried_out head held) (changed cs held.base) now (λ h. AreMadeAgain h.base.catalog)
        (λ base made. subst AreMadeAgain (changed_same cs held.base base made) are) e
    applied_still (DefinitionApplied head text) now bytes e =
        made_now (eqb head.number (next_applied held.number)) (carried_out head held) (defined_by text held.base) now (λ h. AreMadeAgain h.base.catalog)
        (λ base made. defined_still text held.base base bytes made are) e
    applied_still (PlaceMoved head) now bytes e =
        simply_now (eqb head.number held.number) (carried_out head held held.base) now (λ h. AreMadeAgain h.base.catalog) are e

  pub body_still : (kind : Kind) (body : List ℕ) (held now : Held) → IsBytes body → body_applied kind body held ≡ Some now → AreMadeAgain held.base.catalog → AreMadeAgain now.base.catalog
  body_still kind body held now bytes e are = by (record_of kind body) refl e
    where
      by : (x : Option Record) → record_of kind body ≡ x → option_and_then (λ r. applied r held) x ≡ Some now → AreMadeAgain now.base.catalog
      by None is e = cc
      by (Some r) is e = applied_still held are r now (body_says kind body r bytes is) e

  pub bodies_still : (kind : Kind) (bodies : List (List ℕ)) (held now : Held) → AllByRecursion IsBytes bodies → bodies_applied kind bodies held ≡ Some now
      → AreMadeAgain held.base.catalog → AreMadeAgain now.base.catalog
  bodies_still kind [] held now bytes e are = subst (λ (h : Held). AreMadeAgain h.base.catalog) (now_is held now e) are
  bodies_still kind (body ∷ bodies) held now bytes e are =
      by (body_applied kind body held) refl e (λ k e' are'. bodies_still kind bodies k now bytes.1 e' are')
    where
      by : (x : Option Held) → body_applied kind body held ≡ x → option_and_then (bodies_applied kind bodies) x ≡ Some now
          → ((k : Held) → bodies_applied kind bodies k ≡ Some now → AreMadeAgain k.base.catalog → AreMadeAgain now.base.catalog) → AreMadeAgain now.base.catalog
      by None is e behind = cc
      by (Some k) is e behind = behind k e (body_still kind body held k bytes.0 is are)

-- ---- the bodies of a file of bytes

opened_is : (r : Result Opened ℕ) (o p : Opened) → r ≡ Ok o → r ≡ Ok p → o ≡ p
opened_is r o p e e' = sym (ap (λ (x : Result Opened ℕ). elim x [ Ok q ↦ q | Err at ↦ o ]) e) ∙ ap (λ (x : Result Opened ℕ). elim x [ Ok q ↦ q | Err at ↦ o ]) e'

module _ (file : List ℕ) (is : IsBytes file) where
  bodies_step : (n gate : ℕ) (r : NextRecord) (o : Opened) → and_behind r file gate (records_from n file) ≡ Ok o
      → ((gate' : ℕ) (o' : Opened) → records_from n file gate' ≡ Ok o' → AllByRecursion IsBytes o'.bodies) → AllByRecursion IsBytes o.bodies
  bodies_step n gate next.End o e behind =
      subst (λ (q : Opened). AllByRecursion IsBytes q.bodies) (opened_is (Ok (none_from gate)) (none_from gate) o refl e) tt
  bodies_step n gate (next.Record size) o e behind = by (records_from n file (gate + 5 + size)) refl e
    where
      front : Opened → Opened
      front p = record { bodies = take size (drop (gate + 5) file) ∷ p.bodies; gates = gate ∷ p.gates; gate = p.gate }

      by : (x : Result Opened ℕ) → records_from n file (gate + 5 + size) ≡ x → with_first (take size (drop (gate + 5) file)) gate x ≡ Ok o → AllByRecursion IsBytes o.bodies
      by (Err at) read e = cc
      by (Ok p) read e =
          subst (λ (q : Opened). AllByRecursion IsBytes q.bodies) (opened_is (Ok (front p)) (front p) o refl e)
          (bytes_take size (drop (gate + 5) file) (bytes_drop (gate + 5) file is), behind (gate + 5 + size) p read)
  bodies_step n gate next.Damaged o e behind = cc

  bodies_from : (n gate : ℕ) (o : Opened) → records_from n file gate ≡ Ok o → AllByRecursion IsBytes o.bodies
  bodies_from zero gate o e = subst (λ (q : Opened). AllByRecursion IsBytes q.bodies) (opened_is (Ok (none_from gate)) (none_from gate) o refl e) tt
  bodies_from (suc n) gate o e = bodies_step n gate (record_at file gate) o e (λ gate' o' e'. bodies_from n gate' o' e')

  pub bodies_are_bytes : (o : Opened) → records file ≡ Ok o → AllByRecursion IsBytes o.bodies
  unfolding records
  bodies_are_bytes o e = bodies_from (length file) 0 o e
