-- What a store keeps where another file is worked on.
use Rattle.std.proofs.Common.{◌≡◌, ◌≢◌, ◌⊎◌, inl, inr, ℕ, ◌+◌, ◌<◌, ◌≤◌, Bool, true, false, cond, List, ◌++◌, length, take, drop, nat_le, Option, refl, sym, ◌∙◌, ap, subst, arith, length-append}
use Rattle.std.specs.Prelude.{IfSome}
use Rattle.std.proofs.lemmas.Bool.{cases_eq, leb-true}
use Rattle.std.proofs.lemmas.List.{length-take, length-drop}
use Rattle.disk_model.specs.Story.{Image, Story, count, overwritten, seen}
use Rattle.disk_model.specs.Moments.{Always, Only, OthersOf}
use Rattle.disk_model.specs.Claims.{Steps}
use Rattle.disk_model.specs.Torn.{Torn}
use Rattle.disk_model.proofs.Laws.{if_on, if_both}
use Rattle.disk_model.proofs.Putting.{since_told}
use Rattle.gate_journal.specs.Records.{records}
use Rattle.gate_journal.specs.Journal.{IsAtGate, Rests}
use Rattle.store_model.specs.declared.record.Kind.{Kind}
use Rattle.store_model.specs.declared.record.Kind.TheVariants.{Source, Replica}
use Rattle.store_model.specs.Held.{Held}
use Rattle.store_model.specs.Stores.{first_log, journal_of}
use Rattle.store_model.proofs.Standing.{still_stands}
use Rattle.commit_store.specs.declared.store.Store.{Store}
use Rattle.commit_store.specs.Keeping.{IsKept, StandsFor, Keeps}
use Rattle.commit_store.specs.Laws.{LogsMayGrow, FetchedMayChange}
use Rattle.commit_store.proofs.Standing.{kept_low, logs_stay}

module _ (t u : Option Story) (store : Store) (held : Held) (f : ℕ) (Q : List ℕ → Type 0) (keeps : Keeps t store held) (beyond : first_log ≤ f) (steps : Steps t u f Q) where
  low : (g : ℕ) → g < first_log → g ≢ f
  low g lt same = absurd (omega (arith, same))

  -- an image in which this file alone may differ, and is no shorter where it is kept
  stands_still : StandsFor store held (seen t) → (image : Image) → ((g : ℕ) → IsKept store.node g → g ≢ f → image g ≡ seen t g)
      → (IsKept store.node f → length (seen t f) ≤ length (image f)) → StandsFor store held image
  stands_still stands image same grown =
      let holds = keeps.holds in
      let journal : image (journal_of store.generation) ≡ seen t (journal_of store.generation) =
      same (journal_of store.generation) (kept_low store.node (journal_of store.generation) (omega arith)) (low (journal_of store.generation) (omega arith)) in
      still_stands store.node store.generation (seen t) image held stands
      (record { zeroth = inl (same 0 (kept_low store.node 0 (omega arith)) (low 0 (omega arith))); first = inl (same 1 (kept_low store.node 1 (omega arith)) (low 1 (omega arith))) })
      (ap records journal) (logs_stay store.node held.ends (seen t) image holds.own (λ g kept le. by g kept (cases_eq g f)) stands.logs)
    where
      by : (g : ℕ) → IsKept store.node g → (g ≡ f) ⊎ (g ≡ f → ⊥) → length (seen t g) ≤ length (image g)
      by g kept (inl here) = subst (λ h. length (seen t h) ≤ length (image h)) (sym here) (grown (subst (λ h. IsKept store.node h) here kept))
      by g kept (inr ne) = let e = same g kept ne in omega (arith, ap length e)

  module _ (grown : IsKept store.node f → (c : List ℕ) → Q c → length (seen t f) ≤ length c) where
    images_stand : Always (count t) u (StandsFor store held)
    images_stand = since_told t u (StandsFor store held (seen t)) (count t) (λ n image. Q (image f) × OthersOf t f image) (λ n image. StandsFor store held image)
        steps.on keeps.holds.stands
        (λ stands n image le ge h. stands_still stands image (λ g kept ne. keeps.holds.durable g kept (image g) (h.1 g ne)) (λ kept. grown kept (image f) h.0)) steps.images

  rests_still : Rests u store.journal
  rests_still =
      let apart : store.journal.file ≢ f = λ same. absurd (omega (arith, keeps.holds.file, same)) in
      record {
        durable = λ c left. keeps.rests.durable c (steps.others store.journal.file c apart left) ∙ sym (steps.reads store.journal.file apart);
        room = keeps.rests.room;
        gate = if_on t u (IsAtGate (seen u store.journal.file) store.journal.gate) (IsAtGate (seen u store.journal.file) store.journal.gate) steps.on
            (if_both t (IsAtGate (seen t store.journal.file) store.journal.gate) (IsAtGate (seen t store.journal.file) store.journal.gate) (IsAtGate (seen u store.journal.file) store.journal.gate)
            keeps.rests.gate keeps.rests.gate (λ at same. subst (λ l. IsAtGate l store.journal.gate) (sym (steps.reads store.journal.file apart)) at)) (λ x. x);
      }

  keeps_still : (IsKept store.node f → Only u f (seen u f)) → IfSome t (λ _. IsKept store.node f → length (seen t f) ≤ length (seen u f)) → Keeps u store held
  keeps_still only grown = record {
    holds = record {
      file = keeps.holds.file;
      durable = λ g kept. by g kept (cases_eq g f);
      stands = if_on t u (StandsFor store held (seen u)) (StandsFor store held (seen u)) steps.on
          (if_both t (StandsFor store held (seen t)) (IsKept store.node f → length (seen t f) ≤ length (seen u f)) (StandsFor store held (seen u)) keeps.holds.stands grown
          (λ stands grown. stands_still stands (seen u) (λ g kept ne. steps.reads g ne) grown)) (λ x. x);
      shows = keeps.holds.shows;
      own = keeps.holds.own;
    };
    rests = rests_still;
  }
    where
      by : (g : ℕ) → IsKept store.node g → (g ≡ f) ⊎ (g ≡ f → ⊥) → Only u g (seen u g)
      by g kept (inl here) = subst (λ h. Only u h (seen u h)) (sym here) (only (subst (λ h. IsKept store.node h) here kept))
      by g kept (inr ne) = λ c left. keeps.holds.durable g kept c (steps.others g c ne left) ∙ sym (steps.reads g ne)

-- ---- a piece put

over_step : (at : ℕ) (p file : List ℕ) (b : Bool) → nat_le at (length file) ≡ b → length file ≤ length (cond b (take at file ++ p ++ drop (at + length p) file) file)
over_step at p file false is = omega arith
over_step at p file true is =
    let le = leb-true at (length file) is in
    omega (arith, le, length-append (take at file ++ p) (drop (at + length p) file), length-append (take at file) p, length-take at file, length-drop (at + length p) file)

over_grows : (at : ℕ) (p file : List ℕ) → length file ≤ length (overwritten at p file)
over_grows at p file = over_step at p file (nat_le at (length file)) refl

pub logs_may_grow : LogsMayGrow
logs_may_grow t u store held f at piece keeps beyond puts = (
  images_stand t u store held f (Torn at (length piece) (seen t f)) keeps beyond puts (λ kept c torn. torn.no_shorter),
  λ only reads. keeps_still t u store held f (Torn at (length piece) (seen t f)) keeps beyond puts (λ kept. only)
      (if_both t (seen u f ≡ overwritten at piece (seen t f)) (seen u f ≡ overwritten at piece (seen t f)) (IsKept store.node f → length (seen t f) ≤ length (seen u f)) reads reads
      (λ is same kept. omega (arith, ap length is, over_grows at piece (seen t f)))),
)

-- ---- what a replica has fetched

not_kept : (kind : Kind) (f : ℕ) → kind ≡ Replica → first_log ≤ f → IsKept kind f → ⊥
not_kept Source f is le kept = cc
not_kept Replica f is le kept = omega (arith, kept)

pub fetched_may_change : FetchedMayChange
fetched_may_change t u store held f keeps replica beyond works =
    let never = not_kept store.node f replica beyond in (
      images_stand t u store held f (λ _. Unit {0}) keeps beyond works (λ kept c any. absurd (never kept)),
      keeps_still t u store held f (λ _. Unit {0}) keeps beyond works (λ kept. absurd (never kept))
          (Rattle.disk_model.proofs.Laws.if_all t (IsKept store.node f → length (seen t f) ≤ length (seen u f)) (λ kept. absurd (never kept))),
    )
