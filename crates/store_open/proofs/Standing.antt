-- A store that is opened stands on its disk.
use Rattle.std.proofs.Common.{◌≡◌, inl, inr, ℕ, ◌<◌, List, [], ◌∷◌, length, map, Option, Some, None, Result, Ok, Err, refl, sym, ap, subst, ◌∙◌, arith}
use Rattle.std.specs.Prelude.{IfSome}
use Rattle.disk_model.specs.Story.{Image, Story, seen}
use Rattle.disk_model.specs.Moments.{Only}
use Rattle.disk_model.specs.Claims.{Quietly}
use Rattle.gate_journal.specs.Records.{records}
use Rattle.gate_journal.specs.declared.journal.Journal.{Journal}
use Rattle.prog_work.specs.Contents.{Contents, base_of}
use Rattle.store_model.specs.log_model.Log.{LogPlace}
use Rattle.store_model.specs.sql_reach.catalog_rules.Bases.{Base}
use Rattle.store_model.specs.sql_reach.Defining.{counters_begun}
use Rattle.store_model.specs.declared.record.Kind.{Kind}
use Rattle.store_model.specs.declared.record.Kind.TheVariants.{Source, Replica}
use Rattle.store_model.specs.Held.{LogEnd, Held}
use Rattle.store_model.specs.Stores.{Spot, begun_from, first_log, held_by, journal_of, HasLogs, Stands}
use Rattle.store_model.proofs.Standing.{apart, still_stands}
use Rattle.commit_store.specs.Keeping.{AreDurable, HasEnds, Holds, IsKept, Shows, StandsFor, positions}
use Rattle.commit_store.specs.declared.store.Store.{Store}
use Rattle.store_load.specs.declared.stored.Stored.{Stored}
use Rattle.store_load.specs.Loading.{Begins, LogsAreSettled, Reads, ends_at, held_in}
use Rattle.store_load.proofs.Whole.{same_short}
use Rattle.store_open.specs.Begun.{IsBegun}
use Rattle.store_open.specs.Opened.{AreSettled, IsActive, IsOpened, held_with}
use Rattle.store_open.specs.declared.opening.Opened.{Opened}

abbrev held_at : Base → ℕ → List ℕ → (log pos : ℕ) → Held
held_at base number ends log pos = record { base = base; number = number; ends = ends_at ends; place = record { log = log; pos = pos } }

-- ---- what is held

pub held_same : (stored : Stored) (o : Opened) → IsOpened stored o → held_with o.work o.store ≡ held_in stored
held_same stored o is =
    ap (λ (c : Contents). held_at (base_of c) o.store.number o.store.ends.list o.store.log o.store.pos) is.work
    ∙ ap (λ (n : ℕ). held_at (base_of stored.work) n o.store.ends.list o.store.log o.store.pos) is.number
    ∙ ap (λ (es : List ℕ). held_at (base_of stored.work) stored.reached.number es o.store.log o.store.pos) is.ends
    ∙ ap (λ (n : ℕ). held_at (base_of stored.work) stored.reached.number stored.reached.ends n o.store.pos) is.log
    ∙ ap (λ (n : ℕ). held_at (base_of stored.work) stored.reached.number stored.reached.ends stored.reached.log n) is.pos

pub counters_started : (stored : Stored) (o : Opened) → IsOpened stored o → o.work.counters ≡ counters_begun (base_of o.work)
counters_started stored o is = ap (λ (c : Contents). c.counters) is.work ∙ ap (λ (c : Contents). counters_begun (base_of c)) (sym is.work)

pub none_open : (stored : Stored) (o : Opened) → IsOpened stored o → stored.work.changes ≡ [] → o.work.changes ≡ []
none_open stored o is none = ap (λ (c : Contents). c.changes) is.work ∙ none

pub held_told : (t : Option Story) (kind : Kind) (stored : Stored) (o : Opened) → IsOpened stored o → IfSome t (λ _. held_by kind (seen t) ≡ Ok (held_in stored))
    → IfSome t (λ _. held_by kind (seen t) ≡ Ok (held_with o.work o.store))
held_told None kind stored o is e = tt
held_told (Some s) kind stored o is e = e ∙ ap (λ (h : Held). Ok h) (sym (held_same stored o is))

-- ---- the generation

pub active : (t : Option Story) (kind : Kind) (begun stored : Stored) (o : Opened) → begun.node ≡ kind → Begins t begun → stored.generation ≡ begun.generation → IsOpened stored o
    → IsActive t kind o.store.generation
active None kind begun stored o node from same is = tt
active (Some s) kind begun stored o node from same is = (
  held_in begun,
  subst (λ (k : Kind). begun_from k (seen (Some s)) ≡ Ok (o.store.generation, held_in begun)) node
      (from ∙ ap (λ (g : ℕ). Ok (g, held_in begun)) (sym (is.generation ∙ same))),
)

-- ---- the disk

positions_at : (ends : List ℕ) → ends ≡ positions (ends_at ends)
positions_at [] = refl
positions_at (e ∷ ends) = ap (λ (es : List ℕ). e ∷ es) (positions_at ends)

same_begun : (r : Result (ℕ × Held) Spot) (a b : ℕ × Held) → r ≡ Ok a → r ≡ Ok b → a.0 ≡ b.0
same_begun r a b e f = ap (λ (x : Result (ℕ × Held) Spot). elim x [ Ok p ↦ p.0 | Err spot ↦ 0 ]) (sym e ∙ f)

stands_at : (kind : Kind) (image : Image) (generation : ℕ) (begun held : Held) → begun_from kind image ≡ Ok (generation, begun) → held_by kind image ≡ Ok held → Stands kind generation image held
stands_at kind image generation begun held from e =
    let a = apart kind image held e in
    subst (λ (g : ℕ). Stands kind g image held) (same_begun (begun_from kind image) (a.0, a.1.begun) (generation, begun) a.1.from from) a.1

stands_read : (kind : Kind) (generation : ℕ) (image other : Image) (held : Held) → ((f : ℕ) → other f ≡ image f) → Stands kind generation image held → Stands kind generation other held
stands_read kind generation image other held same stands =
    still_stands kind generation image other held stands (record { zeroth = inl (same 0); first = inl (same 1) }) (ap records (same (journal_of generation)))
    (same_short first_log held.ends image other same ∙ stands.logs)

stands_told : (t u : Option Story) (kind : Kind) (begun : Stored) (held : Held) → Quietly t u → begun.node ≡ kind → Begins t begun → IfSome t (λ _. held_by kind (seen t) ≡ Ok held)
    → IfSome u (λ _. Stands kind begun.generation (seen u) held)
stands_told t None kind begun held quiet node from e = tt
stands_told None (Some v) kind begun held quiet node from e = absurd quiet.on
stands_told (Some s) (Some v) kind begun held quiet node from e =
    stands_read kind begun.generation (seen (Some s)) (seen (Some v)) held quiet.reads
    (stands_at kind (seen (Some s)) begun.generation (held_in begun) held (subst (λ (k : Kind). begun_from k (seen (Some s)) ≡ Ok (begun.generation, held_in begun)) node from) e)

own_ends : (kind node : Kind) (ends : List LogEnd) → node ≡ kind → (kind ≡ Replica → ends ≡ []) → HasEnds node ends
own_ends kind Source ends same own = tt
own_ends kind Replica ends same own = own (sym same)

module _ (t u : Option Story) (kind : Kind) (begun stored : Stored) (o : Opened) (quiet : Quietly t u) (is_begun : IsBegun kind begun) (from : Begins t begun) (reads : Reads begun stored)
    (file : stored.journal.file ≡ journal_of begun.generation) (is : IsOpened stored o) (held : IfSome t (λ _. held_by kind (seen t) ≡ Ok (held_in stored))) where
  pub node_is : o.store.node ≡ kind
  node_is = is.node ∙ reads.node ∙ is_begun.node

  generation_is : o.store.generation ≡ begun.generation
  generation_is = is.generation ∙ reads.generation

  file_is : o.store.journal.file ≡ journal_of o.store.generation
  file_is = ap (λ (j : Journal). j.file) is.journal ∙ file ∙ ap journal_of (sym generation_is)

  own : kind ≡ Replica → ends_at o.store.ends.list ≡ []
  own replica =
      ap ends_at is.ends ∙ reads.own (is_begun.node ∙ replica) ∙ ap ends_at (is_begun.reached.own replica)

  stands : IfSome u (λ _. StandsFor o.store (held_with o.work o.store) (seen u))
  stands = by u (stands_told t u kind begun (held_with o.work o.store) quiet is_begun.node from (held_told t kind stored o is held))
    where
      by : (v : Option Story) → IfSome v (λ _. Stands kind begun.generation (seen v) (held_with o.work o.store)) → IfSome v (λ _. StandsFor o.store (held_with o.work o.store) (seen v))
      by None there = tt
      by (Some v) there =
          subst (λ (k : Kind). Stands k o.store.generation (seen (Some v)) (held_with o.work o.store)) (sym node_is)
          (subst (λ (g : ℕ). Stands kind g (seen (Some v)) (held_with o.work o.store)) (sym generation_is) there)

  durable_still : AreDurable kind t → AreDurable o.store.node u
  durable_still durable f kept c left =
      durable f (subst (λ (k : Kind). IsKept k f) node_is kept) c (quiet.left f c left) ∙ sym (quiet.reads f)

  -- it holds what was read
  pub holds : AreDurable kind t → Holds u o.store (held_with o.work o.store)
  holds durable = record {
    file = file_is;
    durable = durable_still durable;
    stands = stands;
    shows = record { number = refl; ends = positions_at o.store.ends.list; log = refl; pos = refl };
    own = own_ends kind o.store.node (ends_at o.store.ends.list) node_is own;
  }

  -- its journal's file is durable
  pub file_durable : Only u (journal_of begun.generation) (seen u (journal_of begun.generation)) → Only u o.store.journal.file (seen u o.store.journal.file)
  file_durable only = subst (λ (f : ℕ). Only u f (seen u f)) (sym (ap (λ (j : Journal). j.file) is.journal ∙ file)) only

  -- so is each file that was read
  pub settled : (v : Option Story) → Quietly v u → ((f : ℕ) → f < 2 → Only v f (seen v f)) → Only u (journal_of begun.generation) (seen u (journal_of begun.generation))
      → LogsAreSettled u (length stored.reached.ends) → AreSettled u o.store
  settled v later snapshots journal logs f (inl low) = λ c left. snapshots f low c (later.left f c left) ∙ sym (later.reads f)
  settled v later snapshots journal logs f (inr (inl same)) = subst (λ (g : ℕ). Only u g (seen u g)) (sym (same ∙ ap journal_of generation_is)) journal
  settled v later snapshots journal logs f (inr (inr log)) = logs f log.0 (omega (arith, log.1, ap (λ (ends : List ℕ). length ends) is.ends))
