-- What is written of a log while it is read.
use Rattle.std.proofs.Common.{◌≡◌, ◌≤◌, ◌<◌, ℕ, true, false, List, [], ◌∷◌, ◌++◌, length, Option, Some, None, refl, sym, ap, ◌∙◌, subst, arith, append-nil, append_assoc}
use Rattle.std.specs.Prelude.{flat_map}
use Rattle.std.proofs.lemmas.Grind.{flat_map-append}
use Rattle.answer_text.specs.declared.status.Status.{Status}
use Rattle.answer_text.specs.declared.status.Status.TheVariants as status
use Rattle.event_codec.specs.Event.{Map, Seen}
use Rattle.event_codec.specs.declared.event.Event.{Event}
use Rattle.event_codec.specs.declared.reading.Read.{Read}
use Rattle.event_codec.specs.declared.reading.Read.TheVariants as read
use Rattle.event_codec.specs.Reading.{event, none, Stop, short, reading, reading_of}
use Rattle.event_codec.specs.Reading as stops
use Rattle.log_reader.specs.log_model.Events.{Place, Placed, past, events_from}
use Rattle.log_reader.proofs.of_log_model.Walking.{events_some, events_none}
use Rattle.log_reader.specs.log_print.Lines.{line_of}
use Rattle.log_reader.specs.run_streams.Stops.{StopsReading, StopsWriting}
use Rattle.log_reader.specs.run_streams.Wrote.{Wrote, WroteFront}
use Rattle.log_reader.proofs.of_run_streams.Writing.{wrote_nothing, wrote_more, broken_behind, front_of_more, whole_front}
use Rattle.log_reader.proofs.of_log_group_laws.Lying.{group_lies}
use Rattle.log_reader.specs.log_file_model.Walk.{Ending, ended, damaged, foreign, Piece, Grouped, grouped}
use Rattle.log_reader.specs.log_file_model.Printed.{map_for, maps_behind, lines_from, piece_lines, log_lines}
use Rattle.log_reader.specs.declared.reader.Found.{Found}
use Rattle.log_reader.specs.declared.reader.Found.TheVariants as found
use Rattle.log_reader.specs.Reading.{Reader, next_pos, Reads, ReadsMagic}
use Rattle.log_reader.specs.Behind.{IsLog, IsLogFront, piece_read, LeadsTo, fresh}
use Rattle.log_reader.proofs.Known.{magic_leads, calls_lead, fronts_are_known}
use Rattle.print_log.specs.Ends.{Printed, PrintedFront, PrintEnds}
use Rattle.print_log.specs.Printing.{IsShown}

-- ---- the lines of a log by those of its groups

lines_of : (bytes : List ℕ) (ps : List Piece) (g : Grouped) → grouped bytes ≡ g → g.pieces ≡ ps → log_lines bytes ≡ flat_map piece_lines ps
unfolding log_lines
lines_of bytes ps g is pieces = ap (λ (h : Grouped). flat_map piece_lines h.pieces) is ∙ ap (flat_map piece_lines) pieces

-- those of one group more
more_lines : (ps : List Piece) (x : Piece) → flat_map piece_lines (ps ++ x ∷ []) ≡ flat_map piece_lines ps ++ piece_lines x
more_lines ps x = flat_map-append piece_lines ps (x ∷ []) ∙ ap (λ (ls : List ℕ). flat_map piece_lines ps ++ ls) (append-nil (piece_lines x))

-- ---- the lines of a group, event after event

pub line_more : (ms then : List Map) (p q : Place) (e : Seen) (old new all : List ℕ) → event e ≡ reading p.bytes p.pos → new ≡ old ++ (line_of (map_for ms e.body) p.pos e ++ 0x0a ∷ [])
    → then ≡ maps_behind ms e.body → q ≡ past e p → old ++ lines_from ms (events_from p) ≡ all → new ++ lines_from then (events_from q) ≡ all
line_more ms then p q e old new all is put maps place so =
    let here : List ℕ = line_of (map_for ms e.body) p.pos e ++ 0x0a ∷ [] in
    let events : events_from p ≡ record { pos = p.pos; event = e } ∷ events_from (past e p) = events_some p e (sym is) in
    rw (put, maps, place)
    (append_assoc old here (lines_from (maps_behind ms e.body) (events_from (past e p)))
    ∙ ap (λ (es : List Placed). old ++ lines_from ms es) (sym events) ∙ so)

lines_end : (ms : List Map) (p : Place) (stop : Stop) (old all : List ℕ) → none stop ≡ reading p.bytes p.pos → old ++ lines_from ms (events_from p) ≡ all → old ≡ all
lines_end ms p stop old all is so = sym (ap (λ (es : List Placed). old ++ lines_from ms es) (events_none p stop (sym is)) ∙ append-nil old) ∙ so

pub lines_over : (ms : List Map) (p : Place) (old all : List ℕ) (r : Read) → ((e : Event) → r ≡ read.Event e → ⊥) → reading_of r ≡ reading p.bytes p.pos
    → old ++ lines_from ms (events_from p) ≡ all → old ≡ all
lines_over ms p old all (read.Event e) not is so = absurd (not e refl)
lines_over ms p old all (read.Short need) not is so = lines_end ms p (short need) old all is so
lines_over ms p old all (read.Damaged pos) not is so = lines_end ms p (stops.damaged pos) old all is so
lines_over ms p old all (read.Foreign pos kind) not is so = lines_end ms p (stops.foreign pos kind) old all is so

-- ---- a log that was read

printed : (start before now : Option (List ℕ)) (ps : List Piece) (e : Ending) → IsLog grouped start ps e → Wrote before now (flat_map piece_lines ps) → Printed e start before now
printed start before now ps e log wrote = record {
  bytes = log.bytes;
  input_is = log.input_is;
  ends = ap (λ (g : Grouped). g.ending) log.groups;
  wrote = subst (Wrote before now) (sym (lines_of log.bytes ps _ log.groups refl)) wrote;
}

-- and a front of it, of which a front of the lines of these groups was written
fronted : (start before now : Option (List ℕ)) (ps : List Piece) → IsLogFront grouped start ps → WroteFront before now (flat_map piece_lines ps) → PrintedFront start before now
fronted start before now ps log front =
    let lines : log_lines log.bytes ≡ flat_map piece_lines ps ++ flat_map piece_lines log.more.pieces =
    lines_of log.bytes (ps ++ log.more.pieces) _ log.groups refl ∙ flat_map-append piece_lines ps log.more.pieces in
    record {
      bytes = log.bytes;
      input_is = log.input_is;
      front = subst (WroteFront before now) (sym lines) (front_of_more before now (flat_map piece_lines ps) (flat_map piece_lines log.more.pieces) front);
    }

-- nothing was written
pub nothing_printed : (start before : Option (List ℕ)) → PrintedFront start before before
nothing_printed None before = record { bytes = []; input_is = tt; front = record { front = []; rest = log_lines []; split = refl; wrote = wrote_nothing before } }
nothing_printed (Some all) before =
    record { bytes = all; input_is = refl; front = record { front = []; rest = log_lines all; split = refl; wrote = wrote_nothing before } }

-- ---- the magic

pub magic_shown : (start after before : Option (List ℕ)) → ReadsMagic start after true → IsShown start after before before fresh
magic_shown start after before reads = record { groups = []; behind = magic_leads start after true reads; wrote = wrote_nothing before }

pub no_magic_ends : (start after before : Option (List ℕ)) → ReadsMagic start after false → PrintEnds (status.LogDamaged 0) start after before before
no_magic_ends start after before reads = printed start before before [] (damaged 0) (magic_leads start after false reads) (wrote_nothing before)

-- ---- a call

module _ (start left before now : Option (List ℕ)) (old : Reader) (shown : IsShown start left before now old) where
  -- it stopped
  pub stopped : PrintedFront start before now
  stopped =
      fronted start before now shown.groups (fronts_are_known grouped start left shown.groups old shown.behind)
      (whole_front before now (flat_map piece_lines shown.groups) shown.wrote)

  module _ (after : Option (List ℕ)) (new : Reader) where
    leads : (f : Found) → Reads old new left after f → LeadsTo grouped start after shown.groups new f
    leads f reads = calls_lead grouped start left after shown.groups old new f shown.behind reads

    -- the group begins where the reader says
    begins : (reads : Reads old new left after found.Group) → (leads found.Group reads).0.begin ≡ new.begin
    begins reads = (group_lies new.bytes new.begin (leads found.Group reads).0 (leads found.Group reads).1).begins

    lines_read : (reads : Reads old new left after found.Group)
        → piece_lines (piece_read new (leads found.Group reads).0) ≡ lines_from [] (events_from (record { bytes = new.bytes; pos = new.begin }))
    lines_read reads = ap (λ (at : ℕ). lines_from [] (events_from (record { bytes = new.bytes; pos = at }))) (begins reads)

    all_lines : (reads : Reads old new left after found.Group)
        → flat_map piece_lines (shown.groups ++ piece_read new (leads found.Group reads).0 ∷ [])
        ≡ flat_map piece_lines shown.groups ++ lines_from [] (events_from (record { bytes = new.bytes; pos = new.begin }))
    all_lines reads =
        more_lines shown.groups (piece_read new (leads found.Group reads).0)
        ∙ ap (λ (ls : List ℕ). flat_map piece_lines shown.groups ++ ls) (lines_read reads)

    pub group_shown : (then : Option (List ℕ)) → Reads old new left after found.Group → Wrote now then (lines_from [] (events_from (record { bytes = new.bytes; pos = new.begin })))
        → IsShown start after before then new
    group_shown then reads wrote = record {
      groups = shown.groups ++ piece_read new (leads found.Group reads).0 ∷ [];
      behind = (leads found.Group reads).2;
      wrote = subst (Wrote before then) (sym (all_lines reads)) (wrote_more before now then _ _ shown.wrote wrote);
    }

    pub group_broken : (then : Option (List ℕ)) → Reads old new left after found.Group → WroteFront now then (lines_from [] (events_from (record { bytes = new.bytes; pos = new.begin })))
        → PrintedFront start before then
    group_broken then reads front =
        fronted start before then (shown.groups ++ piece_read new (leads found.Group reads).0 ∷ []) (fronts_are_known grouped start after _ new (leads found.Group reads).2)
        (subst (WroteFront before then) (sym (all_lines reads)) (broken_behind before now then _ _ shown.wrote front))

    pub end_shown : Reads old new left after found.End → PrintEnds status.Done start after before now
    end_shown reads = (printed start before now shown.groups ended (leads found.End reads) shown.wrote, reads.finds.1)

    pub damaged_shown : (pos : ℕ) → Reads old new left after (found.Damaged pos) → PrintEnds (status.LogDamaged pos) start after before now
    damaged_shown pos reads = printed start before now shown.groups (damaged pos) (leads (found.Damaged pos) reads) shown.wrote

    pub foreign_shown : (pos kind : ℕ) → Reads old new left after (found.Foreign pos kind) → PrintEnds (status.LogForeign pos kind) start after before now
    foreign_shown pos kind reads = printed start before now shown.groups (foreign pos kind) (leads (found.Foreign pos kind) reads) shown.wrote

    -- the next group begins behind this one, within a log
    pub goes_forward : Reads old new left after found.Group → (next_pos old < next_pos new) × (next_pos new ≤ 1200000000)
    goes_forward reads =
        let is = reads.finds in
        let lies = group_lies reads.taken new.begin is.one is.reads in
        let same = ap length is.bytes in
        (omega (arith, reads.begin, lies.header, is.whole, same), omega (arith, lies.ends, is.whole, same))

-- ---- faults and want of memory

pub read_stops : (s : Status) (first last : ℕ) (start left before now : Option (List ℕ)) → StopsReading s first last → PrintedFront start before now → PrintEnds s start left before now
read_stops status.Done first last start left before now stops front = absurd stops
read_stops status.BadWords first last start left before now stops front = absurd stops
read_stops (status.BadScript at) first last start left before now stops front = absurd stops
read_stops status.ReadFault first last start left before now stops front = front
read_stops status.WriteFault first last start left before now stops front = absurd stops
read_stops status.SourceDisk first last start left before now stops front = absurd stops
read_stops status.ReplicaDisk first last start left before now stops front = absurd stops
read_stops (status.SourceDamaged file at) first last start left before now stops front = absurd stops
read_stops (status.ReplicaDamaged file at) first last start left before now stops front = absurd stops
read_stops (status.LogDamaged pos) first last start left before now stops front = absurd stops
read_stops (status.LogForeign pos kind) first last start left before now stops front = absurd stops
read_stops (status.Differs pos code table key) first last start left before now stops front = absurd stops
read_stops status.NoMemory first last start left before now stops front = front

pub write_stops : (s : Status) (first last : ℕ) (start left before now : Option (List ℕ)) → StopsWriting s first last → PrintedFront start before now → PrintEnds s start left before now
write_stops status.Done first last start left before now stops front = absurd stops
write_stops status.BadWords first last start left before now stops front = absurd stops
write_stops (status.BadScript at) first last start left before now stops front = absurd stops
write_stops status.ReadFault first last start left before now stops front = absurd stops
write_stops status.WriteFault first last start left before now stops front = front
write_stops status.SourceDisk first last start left before now stops front = absurd stops
write_stops status.ReplicaDisk first last start left before now stops front = absurd stops
write_stops (status.SourceDamaged file at) first last start left before now stops front = absurd stops
write_stops (status.ReplicaDamaged file at) first last start left before now stops front = absurd stops
write_stops (status.LogDamaged pos) first last start left before now stops front = absurd stops
write_stops (status.LogForeign pos kind) first last start left before now stops front = absurd stops
write_stops (status.Differs pos code table key) first last start left before now stops front = absurd stops
write_stops status.NoMemory first last start left before now stops front = front
