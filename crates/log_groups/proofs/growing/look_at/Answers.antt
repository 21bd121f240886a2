use Rattle.std.proofs.Common.{sym, arith}
use Rattle.event_codec.specs.Reading.{none, short, damaged, foreign}
use Rattle.row_image.specs.log_model.Events.{Place}
use Rattle.log_groups.specs.Views.{place_of}
use Rattle.log_groups.proofs.Looks.{look_short, look_stops, read_there}
use Rattle.log_groups.proofs.growing.look_at.Goals as goal

pub overflow_add-result : goal.overflow_add-result
overflow_add-result c =
    let here : Place = record { bytes = c.args.bytes.now; pos = c.args.pos } in
    let read = read_there here (place_of c.past-here.result) c.args.progress.looked (none (short c.in-Short.need)) c.past-here.ensures (sym c.in-Short.ensures.exact) in
    let fits = (look_short c.args.bytes.now c.args.pos c.args.progress c.requires.looked c.in-Short.need read c.requires.place).0.needs in
    omega (arith, fits)

pub returns-in-Short : goal.returns-in-Short
returns-in-Short c =
    let here : Place = record { bytes = c.args.bytes.now; pos = c.args.pos } in
    let read = read_there here (place_of c.past-here.result) c.args.progress.looked (none (short c.in-Short.need)) c.past-here.ensures (sym c.in-Short.ensures.exact) in
    look_short c.args.bytes.now c.args.pos c.args.progress c.requires.looked c.in-Short.need read c.requires.place

pub returns-in-Damaged : goal.returns-in-Damaged
returns-in-Damaged c =
    let here : Place = record { bytes = c.args.bytes.now; pos = c.args.pos } in
    let read = read_there here (place_of c.past-here.result) c.args.progress.looked (none (damaged c.in-Damaged.pos)) c.past-here.ensures (sym c.in-Damaged.ensures.exact) in
    look_stops c.args.bytes.now c.args.pos c.args.progress c.requires.looked (damaged c.in-Damaged.pos) read (λ need e. cc)

pub returns-in-Foreign : goal.returns-in-Foreign
returns-in-Foreign c =
    let here : Place = record { bytes = c.args.bytes.now; pos = c.args.pos } in
    let read = read_there here (place_of c.past-here.result) c.args.progress.looked (none (foreign c.in-Foreign.pos c.in-Foreign.kind)) c.past-here.ensures (sym c.in-Foreign.ensures.exact) in
    look_stops c.args.bytes.now c.args.pos c.args.progress c.requires.looked (foreign c.in-Foreign.pos c.in-Foreign.kind) read (λ need e. cc)
