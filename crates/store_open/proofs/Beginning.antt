-- Where a store begins: its two snapshots.
use Rattle.std.proofs.Common.{◌≡◌, ℕ, zero, suc, ◌<◌, Bool, cond, List, Option, Some, None, Result, Ok, Err, refl, sym, ap, ◌∙◌, arith}
use Rattle.std.specs.Prelude.{IfSome}
use Rattle.disk_model.specs.declared.refusals.OpenRefusal.{OpenRefusal}
use Rattle.disk_model.specs.declared.refusals.OpenRefusal.TheVariants.{Disk, Damaged, NoMemory}
use Rattle.disk_model.specs.Story.{Image, Story, seen}
use Rattle.disk_model.specs.Moments.{Only}
use Rattle.disk_model.specs.Claims.{Quietly}
use Rattle.store_model.specs.declared.record.Kind.{Kind}
use Rattle.store_model.specs.Held.{Held}
use Rattle.store_model.specs.Snapshots.{is_open, snapshot_in}
use Rattle.store_model.specs.Stores.{Spot, begun_by, begun_in, greater, greater_if, begun_from, first_log, first_short, held_by, journal_applied, journal_of, unless_short, with_journal, with_logs}
use Rattle.store_load.specs.declared.stored.Stored.{Stored}
use Rattle.store_load.specs.Loading.{Begins, TellsDamage, held_in}
use Rattle.store_load.proofs.Whole.{same_short}
use Rattle.store_open.specs.Begun.{TellsSnapshot, begun_seen}

-- ---- one file

-- a file that reads the same begins with the same
same_in : (kind : Kind) (image other : Image) (f : ℕ) → other f ≡ image f → begun_in kind other f ≡ begun_in kind image f
same_in kind image other f same = ap (λ (file : List ℕ). cond (is_open file) (begun_by f (snapshot_in kind f file)) (Ok None)) same

-- a file that is not open begins with nothing, and one that is with its snapshot
pub closed_in : (kind : Kind) (image : Image) (f : ℕ) (b : Bool) → is_open (image f) ≡ b → cond b (begun_by f (snapshot_in kind f (image f))) (Ok None) ≡ begun_in kind image f
closed_in kind image f b is = sym (ap (λ (c : Bool). cond c (begun_by f (snapshot_in kind f (image f))) (Ok None)) is)

-- ---- both

both_ok : (kind : Kind) (image : Image) (a b : Option (ℕ × Held)) → begun_in kind image 0 ≡ Ok a → begun_in kind image 1 ≡ Ok b → begun_from kind image ≡ Ok (greater a b)
unfolding begun_from
both_ok kind image a b e f = ap (λ (r : Result (Option (ℕ × Held)) Spot). greater_if r (begun_in kind image 1)) e ∙ ap (greater_if (Ok a)) f

zeroth_bad : (kind : Kind) (image : Image) (spot : Spot) → begun_in kind image 0 ≡ Err spot → held_by kind image ≡ Err spot
unfolding held_by begun_from
zeroth_bad kind image spot e = ap (with_journal kind image) (ap (λ (r : Result (Option (ℕ × Held)) Spot). greater_if r (begun_in kind image 1)) e)

first_bad : (kind : Kind) (image : Image) (a : Option (ℕ × Held)) (spot : Spot) → begun_in kind image 0 ≡ Ok a → begun_in kind image 1 ≡ Err spot → held_by kind image ≡ Err spot
unfolding held_by begun_from
first_bad kind image a spot e f =
    ap (with_journal kind image) (ap (λ (r : Result (Option (ℕ × Held)) Spot). greater_if r (begun_in kind image 1)) e ∙ ap (greater_if (Ok a)) f)

-- ---- images that read the same

same_begun : (kind : Kind) (image other : Image) → ((f : ℕ) → other f ≡ image f) → begun_from kind other ≡ begun_from kind image
unfolding begun_from
same_begun kind image other same =
    ap (λ (r : Result (Option (ℕ × Held)) Spot). greater_if r (begun_in kind other 1)) (same_in kind image other 0 (same 0)) ∙ ap (greater_if (begun_in kind image 0)) (same_in kind image other 1 (same 1))

same_held : (kind : Kind) (image other : Image) → ((f : ℕ) → other f ≡ image f) → held_by kind other ≡ held_by kind image
unfolding held_by
same_held kind image other same = ap (with_journal kind other) (same_begun kind image other same) ∙ by (begun_from kind image)
  where
    logs : (file : ℕ) (r : Result Held ℕ) → with_logs file other r ≡ with_logs file image r
    logs file (Err at) = refl
    logs file (Ok h) = ap (λ (o : Option Spot). unless_short o h) (same_short first_log h.ends image other same)

    by : (r : Result (ℕ × Held) Spot) → with_journal kind other r ≡ with_journal kind image r
    by (Err spot) = refl
    by (Ok begun) =
        ap (λ (bytes : List ℕ). with_logs (journal_of begun.0) other (journal_applied kind bytes begun.1)) (same (journal_of begun.0))
        ∙ logs (journal_of begun.0) (journal_applied kind (image (journal_of begun.0)) begun.1)

-- calls that only look leave where a store begins
pub begins_still : (t u : Option Story) (s : Stored) → Quietly t u → Begins t s → Begins u s
begins_still None None s quiet from = tt
begins_still None (Some v) s quiet from = absurd quiet.on
begins_still (Some t) None s quiet from = tt
begins_still (Some t) (Some v) s quiet from = same_begun s.node (seen (Some t)) (seen (Some v)) quiet.reads ∙ from

-- and what is held behind them was held before
pub held_back : (t u : Option Story) (kind node : Kind) (h : Held) → Quietly t u → node ≡ kind → IfSome u (λ _. held_by node (seen u) ≡ Ok h) → IfSome t (λ _. held_by kind (seen t) ≡ Ok h)
held_back None u kind node h quiet same e = tt
held_back (Some t) None kind node h quiet same e = absurd quiet.on
held_back (Some t) (Some v) kind node h quiet same e =
    sym (same_held kind (seen (Some t)) (seen (Some v)) quiet.reads) ∙ ap (λ (k : Kind). held_by k (seen (Some v))) (sym same) ∙ e

-- so is damage
pub damage_back : (t u : Option Story) (kind node : Kind) (e : OpenRefusal) → Quietly t u → node ≡ kind → TellsDamage {A = Unit {0}} u node (Err e) → TellsDamage {A = Unit {0}} t kind (Err e)
damage_back t u kind node Disk quiet same told = tt
damage_back t u kind node NoMemory quiet same told = tt
damage_back None u kind node (Damaged f at) quiet same told = tt
damage_back (Some t) None kind node (Damaged f at) quiet same told = absurd quiet.on
damage_back (Some t) (Some v) kind node (Damaged f at) quiet same told =
    sym (same_held kind (seen (Some t)) (seen (Some v)) quiet.reads) ∙ ap (λ (k : Kind). held_by k (seen (Some v))) (sym same) ∙ told

pub told_on : (t : Option Story) (kind : Kind) (e : OpenRefusal) → TellsDamage {A = Unit {0}} t kind (Err e) → TellsDamage {A = Unit {0}} t kind (Err e)
told_on t kind Disk told = tt
told_on t kind NoMemory told = tt
told_on t kind (Damaged f at) told = told

-- the first of two files is durable still behind the second
pub both_durable : (u v : Option Story) → Quietly u v → Only u 0 (seen u 0) → Only v 1 (seen v 1) → (f : ℕ) → f < 2 → Only v f (seen v f)
both_durable u v quiet a b zero lt = λ c left. a c (quiet.left 0 c left) ∙ sym (quiet.reads 0)
both_durable u v quiet a b (suc zero) lt = b
both_durable u v quiet a b (suc (suc n)) lt = absurd (omega arith)

module _ (kind : Kind) where
  pub begun_both : (t u : Option Story) (a b : Option (ℕ × Held)) → Quietly t u → IfSome t (λ _. begun_in kind (seen t) 0 ≡ Ok a) → IfSome u (λ _. begun_in kind (seen u) 1 ≡ Ok b)
      → IfSome t (λ _. begun_from kind (seen t) ≡ Ok (greater a b))
  begun_both None u a b quiet e f = tt
  begun_both (Some s) None a b quiet e f = absurd quiet.on
  begun_both (Some s) (Some v) a b quiet e f = both_ok kind (seen (Some s)) a b e (sym (same_in kind (seen (Some s)) (seen (Some v)) 1 (quiet.reads 1)) ∙ f)

  pub zeroth_told : (t : Option Story) (f at : ℕ) → IfSome t (λ _. begun_in kind (seen t) 0 ≡ Err (record { file = f; at = at })) → IfSome t (λ _. held_by kind (seen t) ≡ Err (record { file = f; at = at }))
  zeroth_told None f at e = tt
  zeroth_told (Some s) f at e = zeroth_bad kind (seen (Some s)) (record { file = f; at = at }) e

  pub first_told : (t u : Option Story) (a : Option (ℕ × Held)) (f at : ℕ) → Quietly t u → IfSome t (λ _. begun_in kind (seen t) 0 ≡ Ok a)
      → IfSome u (λ _. begun_in kind (seen u) 1 ≡ Err (record { file = f; at = at })) → IfSome t (λ _. held_by kind (seen t) ≡ Err (record { file = f; at = at }))
  first_told None u a f at quiet e g = tt
  first_told (Some s) None a f at quiet e g = absurd quiet.on
  first_told (Some s) (Some v) a f at quiet e g =
      first_bad kind (seen (Some s)) a (record { file = f; at = at }) e (sym (same_in kind (seen (Some s)) (seen (Some v)) 1 (quiet.reads 1)) ∙ g)

  -- damage of either snapshot is the store's first
  pub zeroth_damage : (t : Option Story) (e : OpenRefusal) → TellsSnapshot {A = Unit {0}} t kind 0 (Err e) → TellsDamage {A = Unit {0}} t kind (Err e)
  zeroth_damage t Disk told = tt
  zeroth_damage t NoMemory told = tt
  zeroth_damage t (Damaged f at) told = zeroth_told t f at told

  pub first_damage : (t u : Option Story) (a : Option (ℕ × Held)) (e : OpenRefusal) → Quietly t u → IfSome t (λ _. begun_in kind (seen t) 0 ≡ Ok a) → TellsSnapshot {A = Unit {0}} u kind 1 (Err e)
      → TellsDamage {A = Unit {0}} t kind (Err e)
  first_damage t u a Disk quiet zeroth told = tt
  first_damage t u a NoMemory quiet zeroth told = tt
  first_damage t u a (Damaged f at) quiet zeroth told = first_told t u a f at quiet zeroth told

  -- the greater of both is what the store begins with
  pub begun_greater : (t u : Option Story) (zeroth first : Option Stored) (s : Stored) → Quietly t u → IfSome t (λ _. begun_in kind (seen t) 0 ≡ Ok (begun_seen zeroth))
      → IfSome u (λ _. begun_in kind (seen u) 1 ≡ Ok (begun_seen first)) → begun_seen (Some s) ≡ Some (greater (begun_seen zeroth) (begun_seen first)) → s.node ≡ kind → Begins t s
  begun_greater t u zeroth first s quiet a b held node = by t (begun_both t u (begun_seen zeroth) (begun_seen first) quiet a b)
    where
      is : greater (begun_seen zeroth) (begun_seen first) ≡ (s.generation, held_in s)
      is = ap (λ (o : Option (ℕ × Held)). elim o [ None ↦ (s.generation, held_in s) | Some p ↦ p ]) (sym held)

      by : (v : Option Story) → IfSome v (λ _. begun_from kind (seen v) ≡ Ok (greater (begun_seen zeroth) (begun_seen first))) → Begins v s
      by None from = tt
      by (Some v) from = ap (λ (k : Kind). begun_from k (seen (Some v))) node ∙ from ∙ ap (λ (p : ℕ × Held). Ok p) is
