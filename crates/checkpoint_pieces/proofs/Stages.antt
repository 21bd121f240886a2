-- A checkpoint, piece by piece: what each leaves of a disk that stands for what is held.
use Rattle.std.proofs.Common.{◌≡◌, ◌≢◌, ◌⊎◌, inl, inr, ℕ, ◌+◌, ◌<◌, ◌^◌, true, List, [], ◌∷◌, ◌++◌, length, Option, Some, Ok, refl, sym, ◌∙◌, ap, subst, arith}
use Rattle.std.specs.Prelude.{IfSome}
use Rattle.disk_model.specs.Story.{Image, Story, overwritten, seen}
use Rattle.disk_model.specs.Moments.{Only, OthersOf}
use Rattle.disk_model.specs.Claims.{Puts, Steps}
use Rattle.disk_model.specs.Torn.{Torn}
use Rattle.disk_model.proofs.Laws.{if_both, if_on}
use Rattle.gate_journal.specs.Records.{none_from, records}
use Rattle.gate_journal.specs.Journal.{IsAtGate}
use Rattle.store_model.specs.declared.record.Kind.{Kind}
use Rattle.store_model.specs.Held.{Held}
use Rattle.store_model.specs.Snapshots.{is_open, snapshot_body, snapshot_in}
use Rattle.store_model.specs.Stores.{first_log, journal_of, HasLogs, Stands}
use Rattle.commit_store.specs.Keeping.{AreDurable, HasEnds, IsKept}
use Rattle.commit_store.proofs.Standing.{durable_on, kept_low, logs_stay}
use Rattle.checkpoint_model.specs.Pieces.{snapshot_file, snapshot_framed}
use Rattle.checkpoint_model.specs.Moments.{HasBody, IsOlder, IsShut, StandsEither}
use Rattle.checkpoint_model.proofs.Gates.{body_put, body_read, gate_put, older_shut, older_torn, opened_is_open, shut_over, shut_put, shut_torn}
use Rattle.checkpoint_model.proofs.Keeping.{at_first_gate, newest_counts, newest_stands, no_records, older_may_change, other_is_older}
use Rattle.checkpoint_pieces.specs.Working.{IsClosing, WorksOnBoth}
use Rattle.checkpoint_pieces.specs.Newest.{IsNewest, IsReadAgain}
use Rattle.checkpoint_pieces.proofs.Both.{works_first, works_none, works_second}

-- ---- a disk on its way

-- it stands for what is held, durable
pub record State (kind : Kind) (g : ℕ) (held : Held) (t : Option Story) : Type 0 where
  pub durable : AreDurable kind t
  pub stands : IfSome t (λ _. Stands kind g (seen t) held)

-- the snapshot's gate is closed; then the journal's too
pub record Shut (kind : Kind) (g : ℕ) (held : Held) (f : ℕ) (t : Option Story) : Type 0 where
  pub state : State kind g held t
  pub gate : IfSome t (λ _. IsShut (seen t f))

pub record Closed (kind : Kind) (g : ℕ) (held : Held) (f j : ℕ) (t : Option Story) : Type 0 where
  pub shut : Shut kind g held f t
  pub journal : IfSome t (λ _. IsShut (seen t j))

-- the body stands behind the gate
pub record Written (kind : Kind) (g : ℕ) (held : Held) (f j : ℕ) (t : Option Story) : Type 0 where
  pub state : State kind g held t
  pub has : IfSome t (λ _. HasBody (snapshot_body kind (g + 1) held) (seen t f))
  pub journal : IfSome t (λ _. IsShut (seen t j))

module _ (kind : Kind) (g : ℕ) (held : Held) (f j : ℕ) (file_is : f ≡ snapshot_file (g + 1)) (journal_is : j ≡ journal_of (g + 1)) (own : HasEnds kind held.ends) where
  abbrev pub P : Image → Type 0
  P image = StandsEither kind g held image

  abbrev pub body : List ℕ
  body = snapshot_body kind (g + 1) held

  apart : f ≢ j
  apart same = absurd (omega (arith, file_is, journal_is, same))

  low_f : f < first_log
  low_f = omega (arith, file_is)

  low_j : j < first_log
  low_j = omega (arith, journal_is)

  -- ---- images in which these two files alone may differ from what is read

  -- what counts, and the logs, are as they are read
  record Same (t : Option Story) (image : Image) : Type 0 where
    pub active : image (snapshot_file g) ≡ seen t (snapshot_file g)
    pub journal : image (journal_of g) ≡ seen t (journal_of g)
    pub logs : Stands kind g (seen t) held → HasLogs first_log held.ends image

  same_but : (t : Option Story) (x : ℕ) (image : Image) → (x ≡ f) ⊎ (x ≡ j) → ((y : ℕ) → IsKept kind y → y ≢ x → image y ≡ seen t y) → Same t image
  same_but t x image which same = record {
    active = same (snapshot_file g) (kept_low kind (snapshot_file g) (omega arith)) (by which);
    journal = same (journal_of g) (kept_low kind (journal_of g) (omega arith)) (by' which);
    logs = λ stands. logs_stay kind held.ends (seen t) image own
        (λ y kept le. let e = same y kept (λ at. absurd (omega (arith, le, at, low which))) in omega (arith, ap length e)) stands.logs;
  }
    where
      by : (x ≡ f) ⊎ (x ≡ j) → snapshot_file g ≢ x
      by (inl is) e = absurd (omega (arith, is, file_is, e))
      by (inr is) e = absurd (omega (arith, is, journal_is, e))

      by' : (x ≡ f) ⊎ (x ≡ j) → journal_of g ≢ x
      by' (inl is) e = absurd (omega (arith, is, file_is, e))
      by' (inr is) e = absurd (omega (arith, is, journal_is, e))

      low : (x ≡ f) ⊎ (x ≡ j) → x < first_log
      low (inl is) = omega (arith, is, low_f)
      low (inr is) = omega (arith, is, low_j)

  still : (t : Option Story) (image : Image) → Stands kind g (seen t) held → Same t image → IsOlder kind g f (image f) → Stands kind g image held
  still t image stands same older =
      older_may_change kind g (seen t) image held stands same.active (subst (λ y. IsOlder kind g y (image y)) file_is older) same.journal (same.logs stands)

  kept_same : (t : Option Story) (x : ℕ) (image : Image) → AreDurable kind t → OthersOf t x image → (y : ℕ) → IsKept kind y → y ≢ x → image y ≡ seen t y
  kept_same t x image durable others y kept ne = durable y kept (image y) (others y ne)

  same_image : (t : Option Story) (x : ℕ) (image : Image) → (x ≡ f) ⊎ (x ≡ j) → AreDurable kind t → OthersOf t x image → Same t image
  same_image t x image which durable others = same_but t x image which (kept_same t x image durable others)

  -- no call: each image is as it is read, but for files that are not kept
  pub idle : (t : Option Story) → State kind g held t → WorksOnBoth t t f j P
  idle t s = works_none t f j P (Stands kind g (seen t) held) s.stands
      (λ stands image left. inl (still t image stands (same_image t f image (inl refl) s.durable (λ y ne. left y))
      (subst (IsOlder kind g f) (sym (s.durable f (kept_low kind f low_f) (image f) (left f)))
      (subst (λ y. IsOlder kind g y (seen t y)) (sym file_is) (other_is_older kind g (seen t) held stands)))))

  -- ---- the snapshot's gate is closed

  closing_older : (file file' : List ℕ) → IsOlder kind g f file → IsClosing file file' → IsOlder kind g f file'
  closing_older file file' older (inl same) = subst (IsOlder kind g f) (sym same) older
  closing_older file file' older (inr (close, torn)) = older_torn kind g f file file' older close torn

  pub closing : (t u : Option Story) → State kind g held t → Steps t u f (IsClosing (seen t f)) → WorksOnBoth t u f j P
  closing t u s steps = works_first t u f j P (Stands kind g (seen t) held) (IsClosing (seen t f)) s.stands
      (λ stands image closes others. inl (still t image stands (same_image t f image (inl refl) s.durable others)
      (closing_older (seen t f) (image f) (subst (λ y. IsOlder kind g y (seen t y)) (sym file_is) (other_is_older kind g (seen t) held stands)) closes))) steps

  pub closed : (t u : Option Story) → State kind g held t → Steps t u f (IsClosing (seen t f)) → Only u f (seen u f) → IfSome t (λ _. IsShut (seen u f)) → Shut kind g held f u
  closed t u s steps only shut = record {
    state = record {
      durable = durable_on t u kind f s.durable steps.others steps.reads only;
      stands = if_on t u (Stands kind g (seen u) held) (Stands kind g (seen u) held) steps.on
          (if_both t (Stands kind g (seen t) held) (IsShut (seen u f)) (Stands kind g (seen u) held) s.stands shut
          (λ stands shut. still t (seen u) stands (same_but t f (seen u) (inl refl) (λ y kept ne. steps.reads y ne)) (older_shut kind g f (seen u f) shut))) (λ x. x);
    };
    gate = if_on t u (IsShut (seen u f)) (IsShut (seen u f)) steps.on shut (λ x. x);
  }

  -- ---- the journal's

  both : (t : Option Story) (X Y : Type 0) → IfSome t (λ _. X) → IfSome t (λ _. Y) → IfSome t (λ _. X × Y)
  both t X Y x y = if_both t X Y (X × Y) x y (λ a b. (a, b))

  pub journal_closing : (t u : Option Story) → Shut kind g held f t → Puts t u j 0 (0 ∷ []) → WorksOnBoth t u f j P
  journal_closing t u s steps = works_second t u f j P (Stands kind g (seen t) held × IsShut (seen t f)) (Torn 0 1 (seen t j))
      (both t (Stands kind g (seen t) held) (IsShut (seen t f)) s.state.stands s.gate)
      (λ x image torn others. inl (still t image x.0 (same_image t j image (inr refl) s.state.durable others)
      (older_shut kind g f (image f) (subst IsShut (sym (kept_same t j image s.state.durable others f (kept_low kind f low_f) apart)) x.1)))) steps

  pub journal_closed : (t u : Option Story) → Shut kind g held f t → Puts t u j 0 (0 ∷ []) → Only u j (seen u j) → IfSome t (λ _. seen u j ≡ overwritten 0 (0 ∷ []) (seen t j)) → Closed kind g held f j u
  journal_closed t u s steps only reads = record {
    shut = record {
      state = record {
        durable = durable_on t u kind j s.state.durable steps.others steps.reads only;
        stands = if_on t u (Stands kind g (seen u) held) (Stands kind g (seen u) held) steps.on
            (if_both t (Stands kind g (seen t) held) (IsShut (seen t f)) (Stands kind g (seen u) held) s.state.stands s.gate
            (λ stands shut. still t (seen u) stands (same_but t j (seen u) (inr refl) (λ y kept ne. steps.reads y ne))
            (older_shut kind g f (seen u f) (subst IsShut (sym (steps.reads f apart)) shut)))) (λ x. x);
      };
      gate = if_on t u (IsShut (seen t f)) (IsShut (seen u f)) steps.on s.gate (λ shut. subst IsShut (sym (steps.reads f apart)) shut);
    };
    journal = if_on t u (seen u j ≡ overwritten 0 (0 ∷ []) (seen t j)) (IsShut (seen u j)) steps.on reads (λ is. subst IsShut (sym is) (shut_put (seen t j)));
  }

  j_apart : j ≢ f
  j_apart e = apart (sym e)

  -- ---- the body

  pub writing : (t u : Option Story) (framed : List ℕ) → Closed kind g held f j t → Puts t u f 1 framed → WorksOnBoth t u f j P
  writing t u framed s steps = works_first t u f j P (Stands kind g (seen t) held × IsShut (seen t f)) (Torn 1 (length framed) (seen t f))
      (both t (Stands kind g (seen t) held) (IsShut (seen t f)) s.shut.state.stands s.shut.gate)
      (λ x image torn others. inl (still t image x.0 (same_image t f image (inl refl) s.shut.state.durable others)
      (older_shut kind g f (image f) (shut_torn (length framed) (seen t f) (image f) x.1 torn)))) steps

  pub written : (t u : Option Story) (framed : List ℕ) → framed ≡ snapshot_framed body → Closed kind g held f j t → Puts t u f 1 framed → Only u f (seen u f)
      → IfSome t (λ _. seen u f ≡ overwritten 1 framed (seen t f)) → Written kind g held f j u
  written t u framed is s steps only reads = record {
    state = record {
      durable = durable_on t u kind f s.shut.state.durable steps.others steps.reads only;
      stands = if_on t u (Stands kind g (seen u) held) (Stands kind g (seen u) held) steps.on
          (if_both t (Stands kind g (seen t) held) (IsShut (seen u f)) (Stands kind g (seen u) held) s.shut.state.stands
          (if_both t (IsShut (seen t f)) (seen u f ≡ overwritten 1 framed (seen t f)) (IsShut (seen u f)) s.shut.gate reads (λ shut is. subst IsShut (sym is) (shut_over framed (seen t f) shut)))
          (λ stands shut. still t (seen u) stands (same_but t f (seen u) (inl refl) (λ y kept ne. steps.reads y ne)) (older_shut kind g f (seen u f) shut))) (λ x. x);
    };
    has = if_on t u (HasBody body (seen u f)) (HasBody body (seen u f)) steps.on
        (if_both t (IsShut (seen t f)) (seen u f ≡ overwritten 1 framed (seen t f)) (HasBody body (seen u f)) s.shut.gate reads
        (λ shut at. subst (HasBody body) (sym (at ∙ ap (λ p. overwritten 1 p (seen t f)) is)) (body_put body (seen t f) shut))) (λ x. x);
    journal = if_on t u (IsShut (seen t j)) (IsShut (seen u j)) steps.on s.journal (λ shut. subst IsShut (sym (steps.reads j j_apart)) shut);
  }

  -- ---- the gate is opened

  module _ (fits : length body < 2 ^ 64) where
    -- all that is known before it
    record Known (t : Option Story) : Type 0 where
      pub stands : Stands kind g (seen t) held
      pub has : HasBody body (seen t f)
      pub journal : IsShut (seen t j)
      pub again : IsReadAgain kind (g + 1) held

    known : (t : Option Story) → Written kind g held f j t → IfSome t (λ _. IsReadAgain kind (g + 1) held) → IfSome t (λ _. Known t)
    known t w again =
        if_both t (Stands kind g (seen t) held × HasBody body (seen t f)) (IsShut (seen t j) × IsReadAgain kind (g + 1) held) (Known t)
        (both t (Stands kind g (seen t) held) (HasBody body (seen t f)) w.state.stands w.has)
        (both t (IsShut (seen t j)) (IsReadAgain kind (g + 1) held) w.journal again)
        (λ a b. record { stands = a.0; has = a.1; journal = b.0; again = b.1 })

    no_record : (image : Image) → IsShut (image j) → records (image (journal_of (g + 1))) ≡ Ok (none_from 0)
    no_record image shut = no_records (image (journal_of (g + 1))) (subst (λ y. IsShut (image y)) journal_is shut)

    pub opening : (t u : Option Story) → Written kind g held f j t → IfSome t (λ _. IsReadAgain kind (g + 1) held) → Puts t u f 0 (1 ∷ []) → WorksOnBoth t u f j P
    opening t u w again steps = works_first t u f j P (Known t) (Torn 0 1 (seen t f)) (known t w again)
        (λ k image torn others.
        let same = same_image t f image (inl refl) w.state.durable others in
        newest_counts kind g (seen t) image held body (seen t f) k.stands same.active k.has (subst (λ y. Torn 0 1 (seen t f) (image y)) file_is torn) fits k.again same.journal
        (no_record image (subst IsShut (sym (kept_same t f image w.state.durable others j (kept_low kind j low_j) j_apart)) k.journal)) (same.logs k.stands)) steps

    pub opened : (t u : Option Story) → Written kind g held f j t → IfSome t (λ _. IsReadAgain kind (g + 1) held) → Puts t u f 0 (1 ∷ []) → Only u f (seen u f)
        → IfSome t (λ _. seen u f ≡ overwritten 0 (1 ∷ []) (seen t f)) → IsNewest u kind (g + 1) held
    opened t u w again steps only reads = record {
      durable = durable_on t u kind f w.state.durable steps.others steps.reads only;
      stands = if_on t u (Stands kind (g + 1) (seen u) held) (Stands kind (g + 1) (seen u) held) steps.on
          (if_both t (Known t) (seen u f ≡ overwritten 0 (1 ∷ []) (seen t f)) (Stands kind (g + 1) (seen u) held) (known t w again) reads stands_now) (λ x. x);
      closed = if_on t u (IsShut (seen t j)) (IsAtGate (seen u (journal_of (g + 1))) 0) steps.on w.journal
          (λ shut. at_first_gate (seen u (journal_of (g + 1))) (subst (λ y. IsShut (seen u y)) journal_is (subst IsShut (sym (steps.reads j j_apart)) shut)));
    }
      where
        stands_now : Known t → seen u f ≡ overwritten 0 (1 ∷ []) (seen t f) → Stands kind (g + 1) (seen u) held
        stands_now k at =
            let same = same_but t f (seen u) (inl refl) (λ y kept ne. steps.reads y ne) in
            let file : seen u f ≡ 1 ∷ (snapshot_framed body ++ k.has.rest) =
            at ∙ ap (overwritten 0 (1 ∷ [])) k.has.is ∙ gate_put 1 k.has.gate (snapshot_framed body ++ k.has.rest) in
            let has : HasBody body (seen u f) = record { gate = 1; rest = k.has.rest; is = file } in
            newest_stands kind g (seen t) (seen u) held k.stands same.active
            (subst (λ y. is_open (seen u y) ≡ true) file_is (ap is_open file ∙ opened_is_open body k.has.rest))
            (subst (λ y. snapshot_in kind y (seen u y) ≡ Some (g + 1, held)) file_is
            (body_read kind (g + 1) held f body (seen u f) has fits (sym file_is) k.again))
            (no_record (seen u) (subst IsShut (sym (steps.reads j j_apart)) k.journal)) (same.logs k.stands)
