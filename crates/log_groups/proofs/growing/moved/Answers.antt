use Rattle.std.proofs.Common.{◌∙◌, ap, sym}
use Rattle.event_codec.specs.Event.{body_of, seen}
use Rattle.event_codec.specs.Reading.{event}
use Rattle.row_image.specs.log_model.Groups.{Stage, move}
use Rattle.log_groups.specs.Views.{place_of}
use Rattle.log_groups.proofs.Looks.{look_goes, look_closes, look_refuses, stage_here, stands_here, counts, ends_low, read_there, event_fits}
use Rattle.log_groups.proofs.growing.moved.Goals as goal

pub stage_at-stage-requires-clause-stands : goal.stage_at-stage-requires-clause-stands
stage_at-stage-requires-clause-stands c = stands_here c.args.progress.mark c.args.progress.looked c.args.group.bytes.now c.args.group.pos c.requires.begun

pub mark_behind-mark-requires : goal.mark_behind-mark-requires
mark_behind-mark-requires c =
    counts c.args.progress.mark c.args.progress.looked (place_of c.args.group) (stands_here c.args.progress.mark c.args.progress.looked c.args.group.bytes.now c.args.group.pos c.requires.begun)
    (ends_low c.args.group.bytes.now c.args.group.pos c.args.progress c.requires.looked c.requires.begun.some)

pub go_on-requires : goal.go_on-requires
go_on-requires c =
    let read = read_there (place_of c.args.group) (place_of c.args.here) c.args.progress.looked (event (seen c.args.it.now)) c.requires.place c.requires.here in
    rw c.length.ensures (event_fits c.args.group.bytes.now c.args.group.pos c.args.progress (seen c.args.it.now) read)

pub returns-in-Go : goal.returns-in-Go
returns-in-Go c =
    let read = read_there (place_of c.args.group) (place_of c.args.here) c.args.progress.looked (event (seen c.args.it.now)) c.requires.place c.requires.here in
    let stage = stage_here c.args.progress.mark c.args.progress.looked c.args.group.bytes.now c.args.group.pos c.requires.begun in
    rw (c.go_on.ensures, c.mark_behind-mark.ensures, c.length.ensures)
    (look_goes c.args.group.bytes.now c.args.group.pos c.args.progress c.requires.looked (seen c.args.it.now) _ c.requires.begun read c.requires.few
    (ap (λ (s : Stage). move s (body_of c.args.it.now)) (stage ∙ sym c.stage_at-stage.ensures.exact) ∙ sym c.in-Go.ensures.exact))

pub returns-in-Close : goal.returns-in-Close
returns-in-Close c =
    let read = read_there (place_of c.args.group) (place_of c.args.here) c.args.progress.looked (event (seen c.args.it.now)) c.requires.place c.requires.here in
    let stage = stage_here c.args.progress.mark c.args.progress.looked c.args.group.bytes.now c.args.group.pos c.requires.begun in
    look_closes c.args.group.bytes.now c.args.group.pos c.args.progress c.requires.looked (seen c.args.it.now) _ c.requires.begun read
    (ap (λ (s : Stage). move s (body_of c.args.it.now)) (stage ∙ sym c.stage_at-stage.ensures.exact) ∙ sym c.in-Close.ensures.exact)

pub returns-in-Refuse : goal.returns-in-Refuse
returns-in-Refuse c =
    let read = read_there (place_of c.args.group) (place_of c.args.here) c.args.progress.looked (event (seen c.args.it.now)) c.requires.place c.requires.here in
    let stage = stage_here c.args.progress.mark c.args.progress.looked c.args.group.bytes.now c.args.group.pos c.requires.begun in
    look_refuses c.args.group.bytes.now c.args.group.pos c.args.progress c.requires.looked (seen c.args.it.now) c.requires.begun read
    (ap (λ (s : Stage). move s (body_of c.args.it.now)) (stage ∙ sym c.stage_at-stage.ensures.exact) ∙ sym c.in-Refuse.ensures.exact)
