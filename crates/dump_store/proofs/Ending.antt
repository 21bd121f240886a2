-- How the writing of a store's lines ends, where it broke off.
use Rattle.std.proofs.Common.{◌≡◌, inl, ℕ, List, Option, Ok, IfSome}
use Rattle.disk_model.specs.Story.{Story, seen}
use Rattle.store_model.specs.declared.record.Kind.{Kind}
use Rattle.store_model.specs.Held.{Held}
use Rattle.store_model.specs.Stores.{held_by}
use Rattle.answer_text.specs.declared.status.Status.{Status}
use Rattle.answer_text.specs.declared.status.Status.TheVariants as status
use Rattle.run_streams.specs.Stops.{StopsWriting}
use Rattle.run_streams.specs.Wrote.{WroteFront}
use Rattle.dump_store.specs.Lines.{dump_lines}
use Rattle.dump_store.specs.Ends.{DumpedFront, DumpEnds}

module _ (told : Option Story) (before : Option (List ℕ)) (kind : Kind) (after : Option (List ℕ)) (h : Held) (held : IfSome told (λ _. held_by kind (seen told) ≡ Ok h)) where
  fronted : WroteFront before after (dump_lines h.base) → DumpedFront kind told before after
  fronted front = record { held = h; held_is = held; front = front }

  pub write_ends : (s : Status) (first last : ℕ) → StopsWriting s first last → WroteFront before after (dump_lines h.base) → DumpEnds s kind told before after
  write_ends status.Done first last stops front = absurd stops
  write_ends status.BadWords first last stops front = absurd stops
  write_ends (status.BadScript at) first last stops front = absurd stops
  write_ends status.ReadFault first last stops front = absurd stops
  write_ends status.WriteFault first last stops front = fronted front
  write_ends status.SourceDisk first last stops front = absurd stops
  write_ends status.ReplicaDisk first last stops front = absurd stops
  write_ends (status.SourceDamaged file at) first last stops front = absurd stops
  write_ends (status.ReplicaDamaged file at) first last stops front = absurd stops
  write_ends (status.LogDamaged pos) first last stops front = absurd stops
  write_ends (status.LogForeign pos kind) first last stops front = absurd stops
  write_ends (status.Differs pos code table key) first last stops front = absurd stops
  write_ends status.NoMemory first last stops front = inl (fronted front)
