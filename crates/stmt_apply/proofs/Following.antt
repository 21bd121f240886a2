-- A group that an entry is read as, by the law on entries that can follow.
use Rattle.std.proofs.Common.{◌≡◌, ℕ, List, Some, Result, Ok, Err, ap, ◌∙◌}
use Rattle.auto_inc.specs.declared.counters.Counter.{Counter}
use Rattle.port_traits.specs.declared.identity.Identity.{Identity}
use Rattle.port_traits.specs.declared.identity.Draw.{Draw}
use Rattle.log_groups.specs.catalog_rules.Bases.{Base}
use Rattle.log_groups.specs.log_entries.declared.entries.Entry.{Entry}
use Rattle.log_groups.specs.log_entries.Entries.{entry_applied}
use Rattle.log_groups.specs.log_model.Groups.{Group}
use Rattle.log_groups.specs.log_model.Log.{LogPlace}
use Rattle.apply_laws.specs.log_entry_laws.Entries.{group_of_entry}
use Rattle.answer_making.specs.session_model.Machine.{Whole, kept_entry}
use Rattle.answer_making.specs.session_model.Holding.{changes_of, define}
use Rattle.apply_laws.specs.Following.{CanFollow}
use Rattle.apply_laws.specs.Laws.{EntryIsCarried}
use Rattle.apply_model.specs.Groups.{Applied, group_carried}
use Rattle.apply_model.specs.Stops.{Differs}
use Rattle.row_apply.specs.prog_work.Contents.{Contents, base_of}
use Rattle.row_apply.specs.Ends.{Ends}
use Rattle.row_apply.specs.declared.stop.Stop.{Stop}
use Rattle.row_apply.specs.declared.stop.Stop.TheVariants as stop
use Rattle.stmt_apply.specs.Applying.{applied_in}
use Rattle.stmt_apply.specs.Following.{Leaves}

-- what ends as a base and counters do leaves that base
leaves : (r : Result (Unit {0}) Stop) (now : Contents) (next : Base) (counters : List Counter) (carried : Result Applied Differs)
    → Ends r (applied_in now) carried → carried ≡ Ok (record { base = next; counters = counters }) → Leaves r (base_of now) next
leaves (Ok done) now next counters carried ends is =
    let same : applied_in now ≡ record { base = next; counters = counters } = cc in
    ap (λ (a : Applied). a.base) same
leaves (Err stop.NoMemory) now next counters carried ends is = tt
leaves (Err (stop.Differs place code table key)) now next counters carried ends is = absurd cc

-- so the group of an entry does, by the law
pub follows : EntryIsCarried → (identity : Identity) (draw : Draw) (before : Base) (counters : List Counter) (group : Group) (r : Result (Unit {0}) Stop) (now : Contents)
    → Ends r (applied_in now) (group_carried identity draw before counters group) → (e : Entry Whole) (number : ℕ) (p : LogPlace) (next : Base)
    → group ≡ group_of_entry (kept_entry e) number p → CanFollow before e number p → entry_applied changes_of define e before ≡ Some next → Leaves r (base_of now) next
follows law identity draw before counters group r now ends e number p next is can applied =
    let carried = law identity draw before next counters e number p can applied in
    leaves r now next carried.0 (group_carried identity draw before counters group) ends
    (ap (group_carried identity draw before counters) is ∙ carried.1)
