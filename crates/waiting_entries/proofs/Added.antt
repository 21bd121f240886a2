-- What an entry adds to the log in which a writer stands, and to the one behind it.
use Rattle.std.proofs.Common.{◌≡◌, ℕ, ◌+◌, ◌==◌, List, [], ◌∷◌, ◌++◌, refl, ap, ◌∙◌, arith, append-nil}
use Rattle.std.specs.Prelude.{if◌then◌else◌, flat_map}
use Rattle.std.proofs.lemmas.Bool.{cond-true, cond-false, eq-eqb, ne_eqb}
use Rattle.commit_store.specs.store_model.log_entries.declared.entries.Item.{Item}
use Rattle.commit_store.specs.store_model.log_entries.declared.entries.Entry.{Entry}
use Rattle.commit_store.specs.store_model.log_entries.declared.entries.Entry.TheVariants.{Transaction, Definition, LogStart}
use Rattle.commit_store.specs.store_model.log_model.Log.{LogPlace, behind, counted, counted_all, entry_bytes, head, log, written_to}
use Rattle.binlog_items.specs.log_entry_laws.Entries.{CanLogAll}
use Rattle.waiting_entries.specs.declared.waiting.Waiting.{Waiting}
use Rattle.waiting_entries.specs.Added.{added, rotation_at}
use Rattle.waiting_entries.specs.Waiting.{waiting_of, all_waiting, put_out, CanWaitAll, HaveBodies}

here : (n : ℕ) (bytes others : List ℕ) → (if n == n then bytes else others) ≡ bytes
here n bytes others = cond-true (n == n) bytes others (eq-eqb n n refl)

next : (n : ℕ) (bytes others : List ℕ) → (if n + 1 == n then bytes else others) ≡ others
next n bytes others = cond-false (n + 1 == n) bytes others (ne_eqb (n + 1) n (λ same. absurd (omega (arith, same))))

-- a transaction and a definition stay in the log where they come
pub transaction_tail : (stamp server number : ℕ) (is : List Item) (p : LogPlace) → added p.log (Transaction stamp server is) number p ≡ entry_bytes (Transaction stamp server is) number p
transaction_tail stamp server number is p = here p.log (entry_bytes (Transaction stamp server is) number p) []

pub transaction_head : (stamp server number : ℕ) (is : List Item) (p : LogPlace) → added (p.log + 1) (Transaction stamp server is) number p ≡ []
transaction_head stamp server number is p = next p.log (entry_bytes (Transaction stamp server is) number p) []

pub definition_tail : (stamp server number : ℕ) (i : Item) (p : LogPlace) → added p.log (Definition stamp server i) number p ≡ entry_bytes (Definition stamp server i) number p
definition_tail stamp server number i p = here p.log (entry_bytes (Definition stamp server i) number p) []

pub definition_head : (stamp server number : ℕ) (i : Item) (p : LogPlace) → added (p.log + 1) (Definition stamp server i) number p ≡ []
definition_head stamp server number i p = next p.log (entry_bytes (Definition stamp server i) number p) []

-- what an entry puts into both logs is what it appends
pub put_one : (e : Entry Item) (number : ℕ) (p : LogPlace) → put_out (waiting_of e number p) ≡ entry_bytes e number p
put_one (Transaction stamp server is) number p =
    ap (λ (bs : List ℕ). bs ++ added (p.log + 1) (Transaction stamp server is) number p) (transaction_tail stamp server number is p)
    ∙ ap (λ (bs : List ℕ). entry_bytes (Transaction stamp server is) number p ++ bs) (transaction_head stamp server number is p)
    ∙ append-nil (entry_bytes (Transaction stamp server is) number p)
put_one (Definition stamp server i) number p =
    ap (λ (bs : List ℕ). bs ++ added (p.log + 1) (Definition stamp server i) number p) (definition_tail stamp server number i p)
    ∙ ap (λ (bs : List ℕ). entry_bytes (Definition stamp server i) number p ++ bs) (definition_head stamp server number i p)
    ∙ append-nil (entry_bytes (Definition stamp server i) number p)
put_one (LogStart stamp server) number p =
    ap (λ (bs : List ℕ). bs ++ added (p.log + 1) (LogStart stamp server) number p)
    (here p.log (rotation_at stamp server p) (if p.log == p.log + 1 then head stamp server else []))
    ∙ ap (λ (bs : List ℕ). rotation_at stamp server p ++ bs)
    (next p.log (rotation_at stamp server p) (if p.log + 1 == p.log + 1 then head stamp server else []) ∙ here (p.log + 1) (head stamp server) [])

pub put_all : (es : List (Entry Item)) (number : ℕ) (p : LogPlace) → flat_map put_out (all_waiting es number p) ≡ log es number p
put_all [] number p = refl
put_all (e ∷ es) number p =
    ap (λ (bs : List ℕ). bs ++ flat_map put_out (all_waiting es (counted e number) (behind e number p))) (put_one e number p)
    ∙ ap (λ (bs : List ℕ). entry_bytes e number p ++ bs) (put_all es (counted e number) (behind e number p))

-- ---- entries behind others

pub waiting_goes_on : (front back : List (Entry Item)) (number : ℕ) (p : LogPlace)
    → all_waiting (front ++ back) number p ≡ all_waiting front number p ++ all_waiting back (counted_all front number) (written_to front number p)
waiting_goes_on [] back number p = refl
waiting_goes_on (e ∷ es) back number p = ap (λ (ws : List Waiting). waiting_of e number p ∷ ws) (waiting_goes_on es back (counted e number) (behind e number p))

pub can_go_on : (front back : List (Entry Item)) (number : ℕ) (p : LogPlace) → CanWaitAll front number p → CanWaitAll back (counted_all front number) (written_to front number p)
    → CanWaitAll (front ++ back) number p
can_go_on [] back number p first second = second
can_go_on (e ∷ es) back number p first second = (first.0, can_go_on es back (counted e number) (behind e number p) first.1 second)

-- ---- what is known of entries that wait

pub can_log : (es : List (Entry Item)) (number : ℕ) (p : LogPlace) → CanWaitAll es number p → CanLogAll es number p
can_log [] number p can = tt
can_log (e ∷ es) number p can = (can.0.0, can_log es (counted e number) (behind e number p) can.1)

pub have_bodies : (es : List (Entry Item)) (number : ℕ) (p : LogPlace) → CanWaitAll es number p → HaveBodies es number p
have_bodies [] number p can = tt
have_bodies (e ∷ es) number p can = (can.0.1.0, have_bodies es (counted e number) (behind e number p) can.1)
