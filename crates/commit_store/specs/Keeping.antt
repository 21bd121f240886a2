-- What a disk holds of a store.
use Rattle.std.specs.Prelude.{◌≡◌, ◌⊎◌, ℕ, ◌<◌, List, [], map, Option, Some, IfSome}
use Rattle.disk_model.specs.Story.{Image, Story, seen}
use Rattle.disk_model.specs.Moments.{Only}
use Rattle.gate_journal.specs.Journal.{HasStaged, IsAtGate, IsPrepared, Rests}
use Rattle.store_model.specs.declared.record.Kind.{Kind}
use Rattle.store_model.specs.declared.record.Kind.TheVariants.{Source, Replica}
use Rattle.store_model.specs.declared.record.Record.{Record}
use Rattle.store_model.specs.Bodies.{IsRecord, body_of}
use Rattle.store_model.specs.Held.{LogEnd, Held, applied}
use Rattle.store_model.specs.Stores.{journal_of, first_log, HasLogs, Stands}
use Rattle.commit_store.specs.declared.store.Store.{Store}
use Rattle.commit_store.specs.Next.{next_of}

-- ---- files

-- the files of which a store claims something after a crash: on a source all, on a replica those before what it has fetched
abbrev pub IsKept : Kind → ℕ → Type 0
IsKept Source f = Unit {0}
IsKept Replica f = f < first_log

-- each is durable as it is read
abbrev pub AreDurable : Kind → Option Story → Type 0
AreDurable kind t = (f : ℕ) → IsKept kind f → Only t f (seen t f)

-- ---- the readers

-- a replica has no logs of its own
abbrev pub HasEnds : Kind → List LogEnd → Type 0
HasEnds Source ends = Unit {0}
HasEnds Replica ends = ends ≡ []

-- where logs end
abbrev pub positions : List LogEnd → List ℕ
positions ends = map (λ (e : LogEnd). e.pos) ends

-- a store's readers give what is held
pub record Shows (store : Store) (held : Held) : Type 0 where
  pub number : store.number ≡ held.number
  pub ends : store.ends.list ≡ positions held.ends
  pub log : store.log ≡ held.place.log
  pub pos : store.pos ≡ held.place.pos

-- ---- a store on a disk

-- an image stands for what is held, at a store's generation
abbrev pub StandsFor : Store → Held → Image → Type 0
StandsFor store held image = Stands store.node store.generation image held

-- an image stands for what was held, or for what is held behind a record
abbrev pub Either : Store → (held now : Held) → Image → Type 0
Either store held now image = StandsFor store held image ⊎ StandsFor store now image

-- the disk's files are durable and stand for what is held, at the generation of the store, whose readers give it
pub record Holds (t : Option Story) (store : Store) (held : Held) : Type 0 where
  pub file : store.journal.file ≡ journal_of store.generation
  pub durable : AreDurable store.node t
  pub stands : IfSome t (λ _. StandsFor store held (seen t))
  pub shows : Shows store held
  pub own : HasEnds store.node held.ends

-- and the journal is at its closed gate: the store is started
pub record Keeps (t : Option Story) (store : Store) (held : Held) : Type 0 where
  pub holds : Holds t store held
  pub rests : Rests t store.journal

-- ---- a record more

-- a record is prepared: the bytes of its body are made, and what the readers give behind it
pub record IsReady (store : Store) (r : Record) : Type 0 where
  pub form : IsRecord store.node r
  pub bytes : IsPrepared store.journal (body_of r)
  pub next : store.next ≡ next_of r

-- a prepared record is staged and leads on from what is held; the logs that it speaks of are as long as it says
pub record LeadsOn (t : Option Story) (store : Store) (r : Record) (held now : Held) : Type 0 where
  pub keeps : Keeps t store held
  pub ready : IsReady store r
  pub staged : HasStaged t store.journal (body_of r)
  pub makes : applied r held ≡ Some now
  pub logs : IfSome t (λ _. HasLogs first_log now.ends (seen t))

-- the disk stands for what is held at another generation, whose journal has no record; a store's readers give it
pub record MovesTo (t : Option Story) (store : Store) (generation : ℕ) (held : Held) : Type 0 where
  pub durable : AreDurable store.node t
  pub stands : IfSome t (λ _. Stands store.node generation (seen t) held)
  pub closed : IfSome t (λ _. IsAtGate (seen t (journal_of generation)) 0)
  pub shows : Shows store held
  pub own : HasEnds store.node held.ends
