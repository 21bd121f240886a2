-- A whole store: where its snapshots leave off, its journal, its logs.
use Rattle.std.proofs.Common.{◌≡◌, ℕ, ◌+◌, cond, ltb, List, [], ◌∷◌, length, Option, Some, None, Result, Ok, Err, refl, sym, ◌∙◌, ap}
use Rattle.std.specs.Prelude.{IfSome}
use Rattle.disk_model.specs.Story.{Image, Story, seen}
use Rattle.disk_model.specs.Claims.{Quietly}
use Rattle.store_model.specs.declared.record.Kind.{Kind}
use Rattle.store_model.specs.Held.{LogEnd, Held}
use Rattle.store_model.specs.Stores.{Spot, begun_from, journal_of, journal_applied, first_short, first_log, unless_short, with_logs, with_journal, held_by, HasLogs}

-- ---- one image

module _ (kind : Kind) (image : Image) (generation : ℕ) (begun : Held) (from : begun_from kind image ≡ Ok (generation, begun)) where
  -- what the journal makes, and logs that are there
  pub held_whole : (h : Held) → journal_applied kind (image (journal_of generation)) begun ≡ Ok h → HasLogs first_log h.ends image → held_by kind image ≡ Ok h
  unfolding held_by
  held_whole h made logs = ap (with_journal kind image) from ∙ ap (with_logs (journal_of generation) image) made ∙ ap (λ (o : Option Spot). unless_short o h) logs

  -- damage of the journal
  pub held_damaged : (at : ℕ) → journal_applied kind (image (journal_of generation)) begun ≡ Err at → held_by kind image ≡ Err (record { file = journal_of generation; at = at })
  unfolding held_by
  held_damaged at damaged = ap (with_journal kind image) from ∙ ap (with_logs (journal_of generation) image) damaged

  -- a log that is too short
  pub held_short : (h : Held) (spot : Spot) → journal_applied kind (image (journal_of generation)) begun ≡ Ok h → first_short first_log h.ends image ≡ Some spot → held_by kind image ≡ Err spot
  unfolding held_by
  held_short h spot made short = ap (with_journal kind image) from ∙ ap (with_logs (journal_of generation) image) made ∙ ap (λ (o : Option Spot). unless_short o h) short

-- ---- images that read the same

pub same_short : (file : ℕ) (ends : List LogEnd) (image other : Image) → ((f : ℕ) → other f ≡ image f) → first_short file ends other ≡ first_short file ends image
same_short file [] image other same = refl
same_short file (e ∷ ends) image other same =
    ap (λ (bytes : List ℕ). cond (ltb (length bytes) e.pos) (Some (record { file = file; at = length bytes })) (first_short (file + 1) ends other)) (same file)
    ∙ ap (λ (o : Option Spot). cond (ltb (length (image file)) e.pos) (Some (record { file = file; at = length (image file) })) o) (same_short (file + 1) ends image other same)

-- ---- as it was read, call by call

module _ (kind : Kind) (generation file : ℕ) (begun : Held) (named : file ≡ journal_of generation) where
  abbrev Begun : Option Story → Type 0
  Begun t = IfSome t (λ _. begun_from kind (seen t) ≡ Ok (generation, begun))

  journal_at : (t u : Story) → Quietly (Some t) (Some u) → (r : Result Held ℕ) → journal_applied kind (seen (Some u) file) begun ≡ r
      → journal_applied kind (seen (Some t) (journal_of generation)) begun ≡ r
  journal_at t u quiet r made =
      ap (λ (f : ℕ). journal_applied kind (seen (Some t) f) begun) (sym named) ∙ ap (λ (bytes : List ℕ). journal_applied kind bytes begun) (sym (quiet.reads file)) ∙ made

  -- all is there
  pub loaded : (t u v : Option Story) (h : Held) → Quietly t u → Quietly u v → Begun t → IfSome u (λ _. journal_applied kind (seen u file) begun ≡ Ok h)
      → IfSome v (λ _. HasLogs first_log h.ends (seen v)) → IfSome t (λ _. held_by kind (seen t) ≡ Ok h)
  loaded None u v h p q from made logs = tt
  loaded (Some t) None v h p q from made logs = absurd p.on
  loaded (Some t) (Some u) None h p q from made logs = absurd q.on
  loaded (Some t) (Some u) (Some v) h p q from made logs =
      held_whole kind (seen (Some t)) generation begun from h (journal_at t u p (Ok h) made)
      (sym (same_short first_log h.ends (seen (Some t)) (seen (Some v)) (λ f. q.reads f ∙ p.reads f)) ∙ logs)

  -- a record is damaged
  pub gate_told : (t u : Option Story) (f at : ℕ) → Quietly t u → Begun t → IfSome u (λ _. (f ≡ file) × (journal_applied kind (seen u file) begun ≡ Err at))
      → IfSome t (λ _. held_by kind (seen t) ≡ Err (record { file = f; at = at }))
  gate_told None u f at p from damaged = tt
  gate_told (Some t) None f at p from damaged = absurd p.on
  gate_told (Some t) (Some u) f at p from damaged =
      held_damaged kind (seen (Some t)) generation begun from at (journal_at t u p (Err at) damaged.1) ∙ ap (λ (g : ℕ). Err (record { file = g; at = at })) (sym (damaged.0 ∙ named))

  -- a log is too short
  pub short_told : (t u v : Option Story) (h : Held) (f at : ℕ) → Quietly t u → Quietly u v → Begun t → IfSome u (λ _. journal_applied kind (seen u file) begun ≡ Ok h)
      → IfSome v (λ _. first_short first_log h.ends (seen v) ≡ Some (record { file = f; at = at })) → IfSome t (λ _. held_by kind (seen t) ≡ Err (record { file = f; at = at }))
  short_told None u v h f at p q from made short = tt
  short_told (Some t) None v h f at p q from made short = absurd p.on
  short_told (Some t) (Some u) None h f at p q from made short = absurd q.on
  short_told (Some t) (Some u) (Some v) h f at p q from made short =
      held_short kind (seen (Some t)) generation begun from h (record { file = f; at = at }) (journal_at t u p (Ok h) made)
      (sym (same_short first_log h.ends (seen (Some t)) (seen (Some v)) (λ g. q.reads g ∙ p.reads g)) ∙ short)
