-- What was drawn of an environment, as its report tells.
use Rattle.std.proofs.Common.{◌≡◌, List, [], Option, Some, None, refl, sym, subst}
use Rattle.port_traits.specs.declared.identity.Identity.{Identity}
use Rattle.port_traits.specs.declared.identity.Draw.{Draw}
use Rattle.answer_text.specs.declared.status.Status.{Status}
use Rattle.answer_text.specs.declared.status.Status.TheVariants.{Done, BadWords, BadScript, ReadFault, WriteFault, SourceDisk, ReplicaDisk, SourceDamaged, ReplicaDamaged, LogDamaged, LogForeign, Differs, NoMemory}
use Rattle.run_streams.specs.Reports.{AllTold, AreHandedOut, Drawn, DrewUntil, GoesOnDrawing, IsNamed, StaysHandedOut, Tells}

-- where nothing was drawn
pub none_drawn : (before : Option (List Draw)) (old new : List Draw) → new ≡ old → GoesOnDrawing before old before new
none_drawn before old new same start drawn = subst (λ (ds : List Draw). Drawn start before ds) (sym same) drawn

pub none_handed : (before : Option (List Draw)) (old new : List Draw) → new ≡ old → StaysHandedOut before old new
none_handed before old new same start drawn = subst (λ (ds : List Draw). AreHandedOut start ds) (sym same) drawn.handed

-- draws that are told, whatever the status
pub drew_all : (status : Status) (before after : Option (List Draw)) (old new : List Draw) → GoesOnDrawing before old after new → DrewUntil status before old after new
drew_all Done before after old new drew = drew
drew_all BadWords before after old new drew = drew
drew_all (BadScript at) before after old new drew = drew
drew_all ReadFault before after old new drew = drew
drew_all WriteFault before after old new drew = drew
drew_all SourceDisk before after old new drew = drew
drew_all ReplicaDisk before after old new drew = drew
drew_all (SourceDamaged file at) before after old new drew = drew
drew_all (ReplicaDamaged file at) before after old new drew = drew
drew_all (LogDamaged pos) before after old new drew = drew
drew_all (LogForeign pos kind) before after old new drew = drew
drew_all (Differs pos code table key) before after old new drew = drew
drew_all NoMemory before after old new drew = λ start drawn. (drew start drawn).handed

-- where nothing was drawn, whatever the status
pub drew_none : (status : Status) (before : Option (List Draw)) (old new : List Draw) → new ≡ old → DrewUntil status before old before new
drew_none status before old new same = drew_all status before before old new (none_drawn before old new same)

-- the same of a report that tells them
pub drew_on : (status : Status) (before after : Option (List Draw)) (old mid new : List Draw) → new ≡ mid → GoesOnDrawing before old after mid → DrewUntil status before old after new
drew_on status before after old mid new same drew = subst (λ (ds : List Draw). DrewUntil status before old after ds) (sym same) (drew_all status before after old mid drew)

-- draws of a report that was empty
pub told_all : (status : Status) (before after : Option (List Draw)) (new : List Draw) → Drawn before after new → AllTold status before after new
told_all Done before after new drawn = drawn
told_all BadWords before after new drawn = drawn
told_all (BadScript at) before after new drawn = drawn
told_all ReadFault before after new drawn = drawn
told_all WriteFault before after new drawn = drawn
told_all SourceDisk before after new drawn = drawn
told_all ReplicaDisk before after new drawn = drawn
told_all (SourceDamaged file at) before after new drawn = drawn
told_all (ReplicaDamaged file at) before after new drawn = drawn
told_all (LogDamaged pos) before after new drawn = drawn
told_all (LogForeign pos kind) before after new drawn = drawn
told_all (Differs pos code table key) before after new drawn = drawn
told_all NoMemory before after new drawn = tt

-- the same of a report that tells them still
pub drawn_still : (before after : Option (List Draw)) (mid new : List Draw) → new ≡ mid → Drawn before after mid → Drawn before after new
drawn_still before after mid new same drawn = subst (λ (ds : List Draw). Drawn before after ds) (sym same) drawn

pub told_still : (status : Status) (before after : Option (List Draw)) (mid new : List Draw) → new ≡ mid → Drawn before after mid → AllTold status before after new
told_still status before after mid new same drawn = told_all status before after new (drawn_still before after mid new same drawn)

pub tells_still : (told identity identity' : Option Identity) (start : Option (List Draw)) (draws draws' : List Draw) → identity' ≡ identity → draws' ≡ draws → Tells told start identity draws → Tells told start identity' draws'
tells_still told identity identity' start draws draws' same same' tells =
    subst (λ (i : Option Identity). Tells told start i draws') (sym same) (subst (λ (ds : List Draw). Tells told start identity ds) (sym same') tells)

-- nothing was opened, and nothing drawn
pub tells_none : (told identity : Option Identity) (start : Option (List Draw)) (draws : List Draw) → identity ≡ None → draws ≡ [] → Tells told start identity draws
tells_none told identity start draws none empty = tells_still told None identity start [] draws none empty (record { named = unnamed told; handed = nothing start })
  where
    unnamed : (told : Option Identity) → IsNamed told None
    unnamed None = tt
    unnamed (Some name) = tt

    nothing : (start : Option (List Draw)) → AreHandedOut start []
    nothing None = tt
    nothing (Some ds) = refl
