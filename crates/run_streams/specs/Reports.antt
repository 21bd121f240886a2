-- What a report tells of a node's environment, where that tells.
use Rattle.std.specs.Prelude.{◌≡◌, List, [], length, Option, None, option_map, IfSome}
use Rattle.port_traits.specs.declared.identity.Identity.{Identity}
use Rattle.port_traits.specs.declared.identity.Draw.{Draw}
use Rattle.port_traits.specs.Draws.{handed_out, draws_left}
use Rattle.answer_text.specs.declared.report.Mark.{Mark}
use Rattle.answer_text.specs.declared.report.Report.{Report}
use Rattle.answer_text.specs.declared.status.Status.{Status}
use Rattle.answer_text.specs.declared.status.Status.TheVariants.{NoMemory}

-- nothing was committed or applied, and no disk was called
abbrev pub first_mark : Mark
first_mark = record { command = 0; committed = 0; src_calls = 0; applied = 0; rep_calls = 0 }

-- a report with nothing in it
pub record IsEmpty (report : Report) : Type 0 where
  pub src_identity : report.src_identity ≡ None
  pub rep_identity : report.rep_identity ≡ None
  pub src_draws : report.src_draws ≡ []
  pub rep_draws : report.rep_draws ≡ []
  pub marks : report.marks ≡ []
  pub stands : report.now ≡ first_mark

-- ---- identities and draws

-- the identity in a report, if there is one, is the one that is told
abbrev pub IsNamed : Option Identity → Option Identity → Type 0
IsNamed told identity = IfSome told (λ named. IfSome identity (λ shown. shown ≡ named))

-- the draws in a report are the first of those that were left, in order, the last one repeating
abbrev pub AreHandedOut : Option (List Draw) → List Draw → Type 0
AreHandedOut start draws = IfSome start (λ left. draws ≡ handed_out (length draws) left)

-- and what is left now are the draws behind them
pub record Drawn (start now : Option (List Draw)) (draws : List Draw) : Type 0 where
  pub handed : AreHandedOut start draws
  pub left : now ≡ option_map (draws_left (length draws)) start

-- the draws that are told go on with those that were taken in between
abbrev pub GoesOnDrawing : Option (List Draw) → List Draw → Option (List Draw) → List Draw → Type 0
GoesOnDrawing before old after new = (start : Option (List Draw)) → Drawn start before old → Drawn start after new

-- the draws that are told are among the first of those that were left, whatever was taken behind them
abbrev pub StaysHandedOut : Option (List Draw) → List Draw → List Draw → Type 0
StaysHandedOut before old new = (start : Option (List Draw)) → Drawn start before old → AreHandedOut start new

-- what a report tells of an environment: its identity, if any, and the first of its draws
pub record Tells (told : Option Identity) (start : Option (List Draw)) (identity : Option Identity) (draws : List Draw) : Type 0 where
  pub named : IsNamed told identity
  pub handed : AreHandedOut start draws

-- ---- at the end of a call

-- draws up to a status: only want of memory may come behind a draw that is not told
abbrev pub DrewUntil : Status → Option (List Draw) → List Draw → Option (List Draw) → List Draw → Type 0
DrewUntil NoMemory before old after new = StaysHandedOut before old new
DrewUntil _ before old after new = GoesOnDrawing before old after new

-- all that was drawn is told
abbrev pub AllTold : Status → Option (List Draw) → Option (List Draw) → List Draw → Type 0
AllTold NoMemory start now draws = Unit {0}
AllTold _ start now draws = Drawn start now draws
