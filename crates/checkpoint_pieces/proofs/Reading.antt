-- The gate of a snapshot's file, as it is read.
use Rattle.std.proofs.Common.{◌≡◌, ℕ, ◌<◌, ◌≤◌, Bool, true, false, eqb, leb, List, [], ◌∷◌, length, take, drop, Option, Some, None, refl, sym, ap, ◌∙◌, arith}
use Rattle.std.specs.Prelude.{IfSome, not, slice_index}
use Rattle.std.proofs.lemmas.Bool.{le-leb, or_left}
use Rattle.disk_model.specs.Story.{Story, seen}
use Rattle.disk_model.specs.Claims.{Quietly}
use Rattle.disk_model.specs.Answers.{Reads}
use Rattle.store_model.specs.Snapshots.{is_open}
use Rattle.checkpoint_model.specs.Pieces.{is_to_close}
use Rattle.checkpoint_model.proofs.Gates.{close_is}

not_not : (b : Bool) → not (not b) ≡ b
not_not true = refl
not_not false = refl

-- a file of at most one byte has its gate to be closed
pub short_file : (t : Option Story) (f n : ℕ) → IfSome t (λ _. n ≡ length (seen t f)) → n < 2 → IfSome t (λ _. false ≡ not (is_to_close (seen t f)))
short_file None f n is short = tt
short_file (Some s) f n is short = ap not (sym (or_left (leb (length (seen (Some s) f)) 1) (is_open (seen (Some s) f)) (le-leb _ _ (omega (arith, is, short)))))

gate_is : (file : List ℕ) → 2 ≤ length file → not (is_to_close file) ≡ eqb (slice_index file 0) 0
gate_is [] long = absurd (omega (arith, long))
gate_is (a ∷ []) long = absurd (omega (arith, long))
gate_is (a ∷ b ∷ xs) long = ap not (close_is a b xs) ∙ not_not (eqb a 0)

first_read : (file buffer : List ℕ) (n : ℕ) → Reads file 0 n buffer → length buffer ≡ 1 → 2 ≤ length file → slice_index buffer 0 ≡ slice_index file 0
first_read file [] n reads one long = absurd (omega (arith, one))
first_read [] (b ∷ bs) n reads one long = absurd (omega (arith, long))
first_read (a ∷ xs) (b ∷ bs) n reads one long =
    let n_is : n ≡ 1 = omega (arith, reads.size, one, long) in
    ap (λ l. slice_index l 0) (sym (ap (λ m. take m (b ∷ bs)) n_is) ∙ reads.bytes ∙ ap (λ m. take m (drop 0 (a ∷ xs))) n_is)

-- what is read of a longer one says whether it is
pub long_file : (t u : Option Story) (f size n : ℕ) (buffer : List ℕ) → Quietly t u → IfSome t (λ _. size ≡ length (seen t f)) → 2 ≤ size → IfSome u (λ _. Reads (seen u f) 0 n buffer)
    → length buffer ≡ 1 → IfSome t (λ _. eqb (slice_index buffer 0) 0 ≡ not (is_to_close (seen t f)))
long_file None u f size n buffer quiet is long reads one = tt
long_file (Some s) None f size n buffer quiet is long reads one = absurd quiet.on
long_file (Some s) (Some v) f size n buffer quiet is long reads one =
    let file = seen (Some s) f in
    let same : seen (Some v) f ≡ file = quiet.reads f in
    let bytes : slice_index buffer 0 ≡ slice_index file 0 =
    first_read (seen (Some v) f) buffer n reads one (omega (arith, is, long, ap length same)) ∙ ap (λ l. slice_index l 0) same in
    ap (λ m. eqb m 0) bytes ∙ sym (gate_is file (omega (arith, is, long)))
