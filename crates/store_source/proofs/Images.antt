-- What each moment of an entry's writing leaves.
use Rattle.std.proofs.Common.{◌≡◌, ◌≢◌, ◌⊎◌, inl, inr, ℕ, ◌+◌, ◌≤◌, ◌==◌, List, [], length, take, Option, Some, None, Ok, refl, sym, ◌∙◌, ap, subst, arith}
use Rattle.std.specs.Prelude.{IfSome}
use Rattle.std.proofs.lemmas.Bool.{cases_eq, ne_eqb, eq-eqb, cond-true, cond-false}
use Rattle.std.proofs.lemmas.List.{take-take}
use Rattle.disk_model.specs.Story.{Image, Story, count, overwritten, seen}
use Rattle.disk_model.specs.Torn.{Torn}
use Rattle.disk_model.specs.Moments.{Each, Always, GoesOn, Only, OthersOf}
use Rattle.disk_model.specs.Claims.{Puts, WorksOn}
use Rattle.disk_model.proofs.Laws.{by_left, if_on, if_both}
use Rattle.disk_model.proofs.Moments.{since_map, since_start, since_join, on_refl, on_trans, on_count}
use Rattle.disk_model.proofs.Putting.{since_told}
use Rattle.gate_journal.specs.Records.{records}
use Rattle.store_model.specs.declared.record.Kind.{Kind}
use Rattle.store_model.specs.declared.record.Kind.TheVariants.{Source}
use Rattle.store_model.specs.Held.{LogEnd, Held, most_logs}
use Rattle.store_model.specs.Stores.{journal_of, first_log, held_by, HasLogs, Stands}
use Rattle.store_model.proofs.Standing.{together, long, there}
use Rattle.commit_store.specs.declared.store.Store.{Store}
use Rattle.commit_store.specs.Keeping.{AreDurable, StandsFor, Either, Keeps}
use Rattle.commit_store.proofs.Standing.{same_stands}
use Rattle.commit_store.proofs.Elsewhere.{logs_may_grow}
use Rattle.durable_runs.specs.Sources.{Stored, SourceStands, end_of, log_in}
use Rattle.waiting_entries.specs.declared.waiting.Waiting.{Waiting}
use Rattle.store_source.specs.Writing.{IsOn, StaysOn, LeadsTo, only_for, put_by, PutsBehind, HasGrown}
use Rattle.store_source.proofs.Logs.{over_before, over_none, long_ends, ends_long}

-- ---- claims

since_both : (start : ℕ) (t : Option Story) (P Q : Image → Type 0) → Always start t P → Always start t Q → Always start t (λ image. P image × Q image)
since_both start t P Q p q = record {
  after = λ n le ge image left. (p.after n le ge image left, q.after n le ge image left);
  during = λ n le lt image left. (p.during n le lt image left, q.during n le lt image left);
}

-- what a later story tells, the earlier one does, too
pub if_back : (t u : Option Story) (X : Type 0) → GoesOn t u → IfSome u (λ _. X) → IfSome t (λ _. X)
if_back None u X on told = tt
if_back (Some s) None X on told = absurd on
if_back (Some s) (Some u) X on told = told

pub if_map : (t : Option Story) (X Y : Type 0) → IfSome t (λ _. X) → (X → Y) → IfSome t (λ _. Y)
if_map None X Y told f = tt
if_map (Some s) X Y told f = f told

abbrev Two : Stored → Stored → Image → Type 0
Two s now image = SourceStands s image ⊎ SourceStands now image

pub stays_leads : (t u : Option Story) (s now : Stored) → StaysOn t u s → LeadsTo t u s now
stays_leads t u s now stays =
    record { on = stays.on; images = since_map (count t) u (λ n image. SourceStands s image) (λ n image. Two s now image) (λ n image le ge stands. inl stands) stays.images }

pub stays_then : (t u v : Option Story) (s now : Stored) → StaysOn t u s → LeadsTo u v s now → LeadsTo t v s now
stays_then t u v s now stays leads = record {
  on = on_trans t u v stays.on leads.on;
  images = since_join (count t) u v (λ n image. Two s now image) (on_count t u stays.on) leads.on (stays_leads t u s now stays).images leads.images;
}

pub stays_both : (t u v : Option Story) (s : Stored) → StaysOn t u s → StaysOn u v s → StaysOn t v s
stays_both t u v s p q = record {
  on = on_trans t u v p.on q.on;
  images = since_join (count t) u v (λ n image. SourceStands s image) (on_count t u p.on) q.on p.images q.images;
}

-- a log's file reads with a piece behind its end
abbrev PutAt : (t u : Option Story) → List LogEnd → (ℕ → List ℕ) → ℕ → Type 0
PutAt t u ends pieces n = seen u (7 + n) ≡ overwritten (end_of n ends) (pieces n) (seen t (7 + n))

-- ---- a source's disk

module _ (t : Option Story) (store : Store) (s : Stored) (on : IsOn t store s) where
  pub durable : (f : ℕ) → Only t f (seen t f)
  durable f = let all : AreDurable Source t = subst (λ (k : Kind). AreDurable k t) on.node on.keeps.holds.durable in all f tt

  held_in : (held : Held) (image : Image) → StandsFor store held image → held_by Source image ≡ Ok held
  held_in held image stands = together Source image held store.generation (subst (λ (k : Kind). Stands k store.generation image held) on.node stands)

  -- what is known where the disk tells
  abbrev pub Told : Type 0
  Told = StandsFor store s.held (seen t) × ((n : ℕ) → log_in n s.held.ends (seen t) ≡ s.logs n)

  pub told : IfSome t (λ _. Told)
  told = if_both t (StandsFor store s.held (seen t)) ((n : ℕ) → log_in n s.held.ends (seen t) ≡ s.logs n) Told on.keeps.holds.stands on.logs (λ stands logs. (stands, logs))

  -- a crash now leaves what the source has
  pub each_stands : Each t (SourceStands s)
  each_stands image left = by_left t 0 (image 0) (SourceStands s image) (if_map t Told (SourceStands s image) told make) (left 0)
    where
      same : (f : ℕ) → image f ≡ seen t f
      same f = durable f (image f) (left f)

      make : Told → SourceStands s image
      make x = record {
        held = held_in s.held image (same_stands t store s.held on.keeps.holds image (λ g kept ne. same g) x.0 (ap records (same store.journal.file)));
        logs = λ n. ap (take (end_of n s.held.ends)) (same (7 + n)) ∙ x.1 n;
      }

  pub no_call : StaysOn t t s
  no_call = record { on = on_refl t; images = since_start t (λ n image. SourceStands s image) each_stands }

  -- logs are as long as their ends say
  pub told_long : IfSome t (λ _. (n : ℕ) → end_of n s.held.ends ≤ length (seen t (7 + n)))
  told_long = if_map t Told ((n : ℕ) → end_of n s.held.ends ≤ length (seen t (7 + n))) told
      (λ x. long_ends s.held.ends (seen t) (long first_log s.held.ends (seen t) x.0.logs))

  -- ---- a piece behind a log

  module _ (u : Option Story) (f at : ℕ) (piece : List ℕ) (beyond : first_log ≤ f) (least : (n : ℕ) → 7 + n ≡ f → end_of n s.held.ends ≤ at) (puts : Puts t u f at piece) where
    log_put : (image : Image) → Torn at (length piece) (seen t f) (image f) → OthersOf t f image → (n : ℕ) → log_in n s.held.ends image ≡ log_in n s.held.ends (seen t)
    log_put image torn others n = by (cases_eq (7 + n) f)
      where
        by : (7 + n ≡ f) ⊎ (7 + n ≡ f → ⊥) → log_in n s.held.ends image ≡ log_in n s.held.ends (seen t)
        by (inl here) =
            subst (λ (g : ℕ). take (end_of n s.held.ends) (image g) ≡ take (end_of n s.held.ends) (seen t g)) (sym here)
            (sym (take-take (end_of n s.held.ends) at (image f) (least n here)) ∙ ap (take (end_of n s.held.ends)) torn.before
            ∙ take-take (end_of n s.held.ends) at (seen t f) (least n here))
        by (inr ne) = ap (take (end_of n s.held.ends)) (durable (7 + n) (image (7 + n)) (others (7 + n) ne))

    pub put_stays : StaysOn t u s
    put_stays = record {
      on = puts.on;
      images = since_told t u Told (count t) (λ n image. StandsFor store s.held image × (Torn at (length piece) (seen t f) (image f) × OthersOf t f image)) (λ n image. SourceStands s image)
          puts.on told (λ x k image le ge h. record { held = held_in s.held image h.0; logs = λ n. log_put image h.1.0 h.1.1 n ∙ x.1 n })
          (since_both (count t) u (StandsFor store s.held) (λ image. Torn at (length piece) (seen t f) (image f) × OthersOf t f image)
          (logs_may_grow t u store s.held f at piece on.keeps beyond puts).0 puts.images);
    }

    module _ (only : Only u f (seen u f)) (reads : IfSome t (λ _. seen u f ≡ overwritten at piece (seen t f))) where
      log_read : seen u f ≡ overwritten at piece (seen t f) → (n : ℕ) → log_in n s.held.ends (seen u) ≡ log_in n s.held.ends (seen t)
      log_read is n = by (cases_eq (7 + n) f)
        where
          by : (7 + n ≡ f) ⊎ (7 + n ≡ f → ⊥) → log_in n s.held.ends (seen u) ≡ log_in n s.held.ends (seen t)
          by (inl here) =
              subst (λ (g : ℕ). take (end_of n s.held.ends) (seen u g) ≡ take (end_of n s.held.ends) (seen t g)) (sym here)
              (ap (take (end_of n s.held.ends)) is ∙ over_before (end_of n s.held.ends) at piece (seen t f) (least n here))
          by (inr ne) = ap (take (end_of n s.held.ends)) (puts.reads (7 + n) ne)

      pub put_on : IsOn u store s
      put_on = record {
        node = on.node;
        keeps = (logs_may_grow t u store s.held f at piece on.keeps beyond puts).1 only reads;
        few = on.few;
        logs = if_on t u ((n : ℕ) → log_in n s.held.ends (seen u) ≡ s.logs n) ((n : ℕ) → log_in n s.held.ends (seen u) ≡ s.logs n) puts.on
            (if_both t Told (seen u f ≡ overwritten at piece (seen t f)) ((n : ℕ) → log_in n s.held.ends (seen u) ≡ s.logs n) told reads
            (λ x is n. log_read is n ∙ x.1 n)) (λ x. x);
      }

      pub put_behind : (log : ℕ) → f ≡ 7 + log → at ≡ end_of log s.held.ends → PutsBehind t u s.held.ends (only_for log piece)
      put_behind log file end =
          if_map t (seen u f ≡ overwritten at piece (seen t f)) ((n : ℕ) → seen u (7 + n) ≡ overwritten (end_of n s.held.ends) (only_for log piece n) (seen t (7 + n))) reads
          (λ is n. by is n (cases_eq n log))
        where
          here : seen u f ≡ overwritten at piece (seen t f) → PutAt t u s.held.ends (only_for log piece) log
          here is =
              subst (λ (g : ℕ). seen u g ≡ overwritten (end_of log s.held.ends) (only_for log piece log) (seen t g)) file
              (is ∙ ap (λ (k : ℕ). overwritten k piece (seen t f)) end
              ∙ ap (λ (p : List ℕ). overwritten (end_of log s.held.ends) p (seen t f)) (sym (cond-true (log == log) piece [] (eq-eqb log log refl))))

          by : seen u f ≡ overwritten at piece (seen t f) → (n : ℕ) → (n ≡ log) ⊎ (n ≡ log → ⊥) → PutAt t u s.held.ends (only_for log piece) n
          by is n (inl same) = subst (λ (m : ℕ). PutAt t u s.held.ends (only_for log piece) m) (sym same) (here is)
          by is n (inr ne) =
              puts.reads (7 + n) (λ same. ne (omega (arith, same, file)))
              ∙ sym (ap (λ (p : List ℕ). overwritten (end_of n s.held.ends) p (seen t (7 + n))) (cond-false (n == log) piece [] (ne_eqb n log ne))
              ∙ over_none (end_of n s.held.ends) (seen t (7 + n)))

  -- ---- the journal

  module _ (u : Option Story) (works : WorksOn t u store.journal.file) where
    apart : (n : ℕ) → 7 + n ≢ store.journal.file
    apart n same = let at : 7 + n ≡ journal_of store.generation = same ∙ on.keeps.holds.file in absurd (omega arith)

    logs_worked : (ends : List LogEnd) (image : Image) → OthersOf t store.journal.file image → (n : ℕ) → log_in n ends image ≡ log_in n ends (seen t)
    logs_worked ends image others n = ap (take (end_of n ends)) (durable (7 + n) (image (7 + n)) (others (7 + n) (apart n)))

    logs_read : (ends : List LogEnd) (n : ℕ) → log_in n ends (seen u) ≡ log_in n ends (seen t)
    logs_read ends n = ap (take (end_of n ends)) (works.reads (7 + n) (apart n))

    pub stage_stays : Always (count t) u (StandsFor store s.held) → StaysOn t u s
    stage_stays stands = record {
      on = works.on;
      images = since_told t u Told (count t) (λ n image. StandsFor store s.held image × (Unit {0} × OthersOf t store.journal.file image)) (λ n image. SourceStands s image)
          works.on told (λ x k image le ge h. record { held = held_in s.held image h.0; logs = λ n. logs_worked s.held.ends image h.1.1 n ∙ x.1 n })
          (since_both (count t) u (StandsFor store s.held) (λ image. Unit {0} × OthersOf t store.journal.file image) stands works.images);
    }

    pub stage_on : Keeps u store s.held → IsOn u store s
    stage_on keeps = record {
      node = on.node;
      keeps = keeps;
      few = on.few;
      logs = if_on t u Told ((n : ℕ) → log_in n s.held.ends (seen u) ≡ s.logs n) works.on told (λ x n. logs_read s.held.ends n ∙ x.1 n);
    }

    -- an entry's bytes, put behind the logs before
    module _ (now : Stored) (grown : HasGrown t now) where
      abbrev Grown : Option Story → Type 0
      Grown v = HasLogs first_log now.held.ends (seen v) × ((n : ℕ) → log_in n now.held.ends (seen v) ≡ now.logs n)

      pub grown_on : HasGrown u now
      grown_on = if_on t u (Grown t) (Grown u) works.on grown (λ x. (
        there first_log now.held.ends (seen u) (ends_long now.held.ends (seen u) (λ n.
            let e = works.reads (7 + n) (apart n) in
            omega (arith, long_ends now.held.ends (seen t) (long first_log now.held.ends (seen t) x.0) n, ap length e))),
        λ n. logs_read now.held.ends n ∙ x.1 n,
      ))

      pub commit_leads : Always (count t) u (Either store s.held now.held) → LeadsTo t u s now
      commit_leads either = record {
        on = works.on;
        images = since_told t u (Told × Grown t) (count t) (λ n image. Either store s.held now.held image × (Unit {0} × OthersOf t store.journal.file image)) (λ n image. Two s now image)
            works.on (if_both t Told (Grown t) (Told × Grown t) told grown (λ x y. (x, y))) (λ x k image le ge h. by x image h.1.1 h.0)
            (since_both (count t) u (Either store s.held now.held) (λ image. Unit {0} × OthersOf t store.journal.file image) either works.images);
      }
        where
          by : Told × Grown t → (image : Image) → OthersOf t store.journal.file image → Either store s.held now.held image → Two s now image
          by x image others (inl stands) = inl (record { held = held_in s.held image stands; logs = λ n. logs_worked s.held.ends image others n ∙ x.0.1 n })
          by x image others (inr stands) = inr (record { held = held_in now.held image stands; logs = λ n. logs_worked now.held.ends image others n ∙ x.1.1 n })

      pub commit_on : (after : Store) → after.node ≡ Source → Keeps u after now.held → length now.held.ends ≤ most_logs → IsOn u after now
      commit_on after node keeps few = record {
        node = node;
        keeps = keeps;
        few = few;
        logs = if_on t u (Grown t) ((n : ℕ) → log_in n now.held.ends (seen u) ≡ now.logs n) works.on grown (λ x n. logs_read now.held.ends n ∙ x.1 n);
      }

-- the place of a log's end, by its file
pub least_at : (ends : List LogEnd) (log at k : ℕ) → at ≡ k → k ≡ end_of log ends → (n : ℕ) → 7 + n ≡ 7 + log → end_of n ends ≤ at
least_at ends log at k same is n file =
    let here : n ≡ log = omega (arith, file) in
    subst (λ (m : ℕ). end_of m ends ≤ at) (sym here) (omega (arith, same, is))

pub within_at : (t : Option Story) (ends : List LogEnd) (log at k : ℕ) → at ≡ k → k ≡ end_of log ends → IfSome t (λ _. (n : ℕ) → end_of n ends ≤ length (seen t (7 + n)))
    → IfSome t (λ _. at ≤ length (seen t (7 + log)))
within_at t ends log at k same is long = if_map t ((n : ℕ) → end_of n ends ≤ length (seen t (7 + n))) (at ≤ length (seen t (7 + log))) long (λ each. omega (arith, each log, same, is))

-- ---- both pieces of an entry

pub two_put : (t u v : Option Story) (ends : List LogEnd) (w : Waiting) → GoesOn t u → PutsBehind t u ends (only_for (length ends) w.tail)
    → PutsBehind u v ends (only_for (length ends + 1) w.head) → PutsBehind t v ends (put_by w (length ends))
two_put t u v ends w on first second =
    if_both t ((n : ℕ) → PutAt t u ends (only_for (length ends) w.tail) n) ((n : ℕ) → PutAt u v ends (only_for (length ends + 1) w.head) n)
    ((n : ℕ) → PutAt t v ends (put_by w (length ends)) n) first (if_back t u ((n : ℕ) → PutAt u v ends (only_for (length ends + 1) w.head) n) on second)
    (λ p q n. q n ∙ ap (λ (file : List ℕ). overwritten (end_of n ends) (only_for (length ends + 1) w.head n) file) (p n) ∙ both n (seen t (7 + n)) (cases_eq n (length ends)))
  where
    both : (n : ℕ) (file : List ℕ) → (n ≡ length ends) ⊎ (n ≡ length ends → ⊥)
        → overwritten (end_of n ends) (only_for (length ends + 1) w.head n) (overwritten (end_of n ends) (only_for (length ends) w.tail n) file)
        ≡ overwritten (end_of n ends) (put_by w (length ends) n) file
    both n file (inl here) =
        let later : only_for (length ends + 1) w.head n ≡ [] =
        cond-false (n == (length ends + 1)) w.head [] (ne_eqb n (length ends + 1) (λ same. absurd (omega (arith, same, here)))) in
        let now : only_for (length ends) w.tail n ≡ put_by w (length ends) n =
        cond-true (n == (length ends)) w.tail [] (eq-eqb n (length ends) here)
        ∙ sym (cond-true (n == (length ends)) w.tail (only_for (length ends + 1) w.head n) (eq-eqb n (length ends) here)) in
        ap (λ (p : List ℕ). overwritten (end_of n ends) p (overwritten (end_of n ends) (only_for (length ends) w.tail n) file)) later
        ∙ over_none (end_of n ends) (overwritten (end_of n ends) (only_for (length ends) w.tail n) file)
        ∙ ap (λ (p : List ℕ). overwritten (end_of n ends) p file) now
    both n file (inr ne) =
        let none : only_for (length ends) w.tail n ≡ [] = cond-false (n == (length ends)) w.tail [] (ne_eqb n (length ends) ne) in
        let now : only_for (length ends + 1) w.head n ≡ put_by w (length ends) n =
        sym (cond-false (n == (length ends)) w.tail (only_for (length ends + 1) w.head n) (ne_eqb n (length ends) ne)) in
        ap (λ (p : List ℕ). overwritten (end_of n ends) (only_for (length ends + 1) w.head n) (overwritten (end_of n ends) p file)) none
        ∙ ap (λ (l : List ℕ). overwritten (end_of n ends) (only_for (length ends + 1) w.head n) l) (over_none (end_of n ends) file)
        ∙ ap (λ (p : List ℕ). overwritten (end_of n ends) p file) now
