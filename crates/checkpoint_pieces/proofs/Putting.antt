-- The pieces of a checkpoint, put one after the other.
use Rattle.std.proofs.Common.{◌≡◌, ◌≢◌, ℕ, ◌+◌, List, [], ◌∷◌, Option, sym, ◌∙◌, ap, subst, arith}
use Rattle.std.specs.Prelude.{IfSome}
use Rattle.disk_model.specs.Story.{Image, Story, overwritten, seen}
use Rattle.disk_model.specs.Moments.{GoesOn, Only}
use Rattle.disk_model.specs.Claims.{Puts, Steps}
use Rattle.disk_model.proofs.Laws.{if_on}
use Rattle.disk_model.proofs.Moments.{on_trans}
use Rattle.store_model.specs.declared.record.Kind.{Kind}
use Rattle.store_model.specs.Held.{Held}
use Rattle.store_model.specs.Stores.{journal_of}
use Rattle.commit_store.specs.Keeping.{AreDurable}
use Rattle.commit_store.proofs.Standing.{durable_on}
use Rattle.checkpoint_model.specs.Pieces.{snapshot_file}
use Rattle.checkpoint_model.specs.Moments.{IsShut, StandsEither}
use Rattle.checkpoint_pieces.specs.Working.{IsClosing, WorksOnBoth}
use Rattle.checkpoint_pieces.specs.Newest.{IsNewest, IsReadAgain, IsToWork}
use Rattle.checkpoint_pieces.proofs.Both.{both_trans}
use Rattle.checkpoint_pieces.proofs.Stages as stage

-- the two files are not one
pub apart : (next f j : ℕ) → f ≡ snapshot_file next → j ≡ journal_of next → f ≢ j
apart next f j f_is j_is same = absurd (omega (arith, f_is, j_is, same))

-- a closed gate stays while the journal is worked on
pub still_shut : (t u v : Option Story) (f j : ℕ) (Q : List ℕ → Type 0) → GoesOn t u → f ≢ j → IfSome t (λ _. IsShut (seen u f)) → Steps u v j Q → IfSome v (λ _. IsShut (seen v f))
still_shut t u v f j Q on ne shut steps = if_on t v (IsShut (seen u f)) (IsShut (seen v f)) (on_trans t u v on steps.on) shut (λ s. subst IsShut (sym (steps.reads f ne)) s)

module _ (kind : Kind) (g : ℕ) (held : Held) (next : ℕ) (framed : List ℕ) (f j : ℕ) (next_is : next ≡ g + 1) (f_is : f ≡ snapshot_file next) (j_is : j ≡ journal_of next)
    (t : Option Story) (work : IsToWork t kind g framed held) where
  abbrev pub P : Image → Type 0
  P image = StandsEither kind g held image

  file : f ≡ snapshot_file (g + 1)
  file = f_is ∙ ap (λ n. snapshot_file n) next_is

  journal : j ≡ journal_of (g + 1)
  journal = j_is ∙ ap (λ n. journal_of n) next_is

  back : (u : Option Story) → WorksOnBoth t u f j P → WorksOnBoth t u (snapshot_file next) (journal_of next) P
  back u works = subst (λ x. WorksOnBoth t u x (journal_of next) P) f_is (subst (λ y. WorksOnBoth t u f y P) j_is works)

  begun : stage.State kind g held t
  begun = record { durable = work.durable; stands = work.stands }

  pub first_exit : (u : Option Story) → Steps t u f (IsClosing (seen t f)) → WorksOnBoth t u (snapshot_file next) (journal_of next) P
  first_exit u steps = back u (stage.closing kind g held f j file journal work.own t u begun steps)

  module _ (t1 : Option Story) (steps : Steps t t1 f (IsClosing (seen t f))) (only : Only t1 f (seen t1 f)) (shut : IfSome t (λ _. IsShut (seen t1 f))) where
    first : WorksOnBoth t t1 f j P
    first = stage.closing kind g held f j file journal work.own t t1 begun steps

    shut_now : stage.Shut kind g held f t1
    shut_now = stage.closed kind g held f j file journal work.own t t1 begun steps only shut

    to_second : (u : Option Story) → Puts t1 u j 0 (0 ∷ []) → WorksOnBoth t u f j P
    to_second u puts = both_trans t t1 u f j P first (stage.journal_closing kind g held f j file journal work.own t1 u shut_now puts)

    pub second_exit : (u : Option Story) → Puts t1 u j 0 (0 ∷ []) → WorksOnBoth t u (snapshot_file next) (journal_of next) P
    second_exit u puts = back u (to_second u puts)

    module _ (t2 : Option Story) (puts2 : Puts t1 t2 j 0 (0 ∷ [])) (only2 : Only t2 j (seen t2 j)) (reads2 : IfSome t1 (λ _. seen t2 j ≡ overwritten 0 (0 ∷ []) (seen t1 j))) where
      closed_now : stage.Closed kind g held f j t2
      closed_now = stage.journal_closed kind g held f j file journal work.own t1 t2 shut_now puts2 only2 reads2

      to_third : (u : Option Story) → Puts t2 u f 1 framed → WorksOnBoth t u f j P
      to_third u puts = both_trans t t2 u f j P (to_second t2 puts2) (stage.writing kind g held f j file journal work.own t2 u framed closed_now puts)

      pub third_exit : (u : Option Story) → Puts t2 u f 1 framed → WorksOnBoth t u (snapshot_file next) (journal_of next) P
      third_exit u puts = back u (to_third u puts)

      module _ (t3 : Option Story) (puts3 : Puts t2 t3 f 1 framed) (only3 : Only t3 f (seen t3 f)) (reads3 : IfSome t2 (λ _. seen t3 f ≡ overwritten 1 framed (seen t2 f))) where
        written_now : stage.Written kind g held f j t3
        written_now = stage.written kind g held f j file journal work.own t2 t3 framed work.is closed_now puts3 only3 reads3

        again : IfSome t3 (λ _. IsReadAgain kind (g + 1) held)
        again = if_on t t3 (IsReadAgain kind (g + 1) held) (IsReadAgain kind (g + 1) held) (to_third t3 puts3).on work.again (λ a. a)

        pub last_exit : (u : Option Story) → Puts t3 u f 0 (1 ∷ []) → WorksOnBoth t u (snapshot_file next) (journal_of next) P
        last_exit u puts = back u (both_trans t t3 u f j P (to_third t3 puts3) (stage.opening kind g held f j file journal work.own work.fits t3 u written_now again puts))

        pub newest : (u : Option Story) → Puts t3 u f 0 (1 ∷ []) → Only u f (seen u f) → IfSome t3 (λ _. seen u f ≡ overwritten 0 (1 ∷ []) (seen t3 f)) → IsNewest u kind next held
        newest u puts only4 reads4 = subst (λ n. IsNewest u kind n held) (sym next_is)
            (stage.opened kind g held f j file journal work.own work.fits t3 u written_now again puts only4 reads4)

-- files that are durable stay so
pub all_durable : (kind : Kind) (t t1 t2 t3 t4 : Option Story) (f j : ℕ) (A B C D : List ℕ → Type 0) → AreDurable kind t → Steps t t1 f A → Only t1 f (seen t1 f)
    → Steps t1 t2 j B → Only t2 j (seen t2 j) → Steps t2 t3 f C → Only t3 f (seen t3 f) → Steps t3 t4 f D → Only t4 f (seen t4 f) → AreDurable kind t4
all_durable kind t t1 t2 t3 t4 f j A B C D durable a only1 b only2 c only3 d only4 =
    durable_on t3 t4 kind f (durable_on t2 t3 kind f (durable_on t1 t2 kind j (durable_on t t1 kind f durable a.others a.reads only1) b.others b.reads only2) c.others c.reads only3)
    d.others d.reads only4
