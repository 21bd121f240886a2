-- What a record sets leaves the rest of a store.
use Rattle.std.proofs.Common.{◌≡◌, Result, Ok, Err, refl, ◌∙◌, ap}
use Rattle.std.specs.Prelude.{OnErr, OnOk}
use Rattle.gate_journal.specs.declared.journal.Journal.{Journal}
use Rattle.commit_store.specs.declared.next.Next.{Next}
use Rattle.commit_store.specs.declared.next.Next.TheVariants.{Nothing, Committed, LogBegun, CarriedOut}
use Rattle.commit_store.specs.declared.store.Store.{Store}
use Rattle.commit_store.specs.Next.{passed}

pub passed_stays : (next : Next) (store : Store) → (passed next store).generation ≡ store.generation
passed_stays Nothing store = refl
passed_stays (Committed head) store = refl
passed_stays (LogBegun old_end pos) store = refl
passed_stays (CarriedOut head) store = refl

-- a commit leaves the generation, whatever it answers
pub commit_stays : {A E : Type 0} (r : Result A E) (old now : Store) → OnOk r (now ≡ passed old.next (record old { journal = now.journal }))
    → OnErr r (now ≡ record old { journal = now.journal }) → now.generation ≡ old.generation
commit_stays (Ok x) old now ok err = ap (λ (st : Store). st.generation) ok ∙ passed_stays old.next (record old { journal = now.journal })
commit_stays (Err e) old now ok err = ap (λ (st : Store). st.generation) err
