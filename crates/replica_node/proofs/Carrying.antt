-- What a group leaves that was carried out, and why one is not.
use Rattle.std.proofs.Common.{◌≡◌, List, [], Bool, ℕ, Some, None, Result, Ok, Err, IfOk, sym, ap, ◌∙◌, subst}
use Rattle.std.specs.Prelude.{if◌then◌else◌}
use Rattle.std.specs.Option.{option_map, option_and_then}
use Rattle.commit_store.specs.declared.prepared.Prepared.{Prepared}
use Rattle.commit_store.specs.store_model.declared.record.Head.{Head}
use Rattle.commit_store.specs.store_model.declared.record.Record.TheVariants.{TransactionApplied, DefinitionApplied}
use Rattle.commit_store.specs.store_model.Held.{Held, changed, defined_by, definition_in}
use Rattle.commit_store.specs.store_model.log_entries.Entries.{with_tables}
use Rattle.commit_store.specs.store_model.Laws.{StepsRecordsLead}
use Rattle.relay_log.specs.apply_model.Stops.{Differs}
use Rattle.relay_log.specs.apply_model.Groups.{Applied}
use Rattle.relay_log.specs.log_model.Groups.{Form, start, next_log, ddl, txn}
use Rattle.log_groups.specs.catalog_rules.Bases.{defined}
use Rattle.stmt_apply.specs.prog_run.prog_work.Contents.{Contents, base_of}
use Rattle.row_apply.specs.Ends.{Ends}
use Rattle.row_apply.specs.declared.stop.Stop as code_stop
use Rattle.stmt_apply.specs.Applying.{applied_in}
use Rattle.stmt_apply.specs.Leading.{LeadsBy, MakesBy, Opens}
use Rattle.replica_node.specs.declared.told.Step.{Step}
use Rattle.replica_node.specs.declared.told.Step.TheVariants.{Carried}
use Rattle.replica_node.specs.Records.{IsDefinition, IsMadeOf, IsRecorded, IsTransaction}
use Rattle.replica_node.specs.Steps.{CarriesOut, Tells}

-- ---- why it stops

stops_by : (why : code_stop.Stop) (step : Step) (before now : Contents) (carried : Result Applied Differs) → Tells why step → Ends (Err why) (applied_in now) carried → now ≡ before
    → CarriesOut step before now carried
stops_by (code_stop.TheVariants.Differs pos code table key) step before now carried tells ends same =
    subst (λ (s : Step). CarriesOut s before now carried) (sym tells) (ends, same)
stops_by code_stop.TheVariants.NoMemory step before now carried tells ends same = absurd tells

unrecorded_by : (why : code_stop.Stop) (step : Step) (head : Head) (before now : Contents) → Tells why step → IsRecorded step head before now
unrecorded_by (code_stop.TheVariants.Differs pos code table key) step head before now tells = subst (λ (s : Step). IsRecorded s head before now) (sym tells) tt
unrecorded_by code_stop.TheVariants.NoMemory step head before now tells = absurd tells

pub stops_so : {E : Type 0} (result : Result Step E) (why : code_stop.Stop) (before now : Contents) (carried : Result Applied Differs) → IfOk result (λ step. Tells why step)
    → Ends (Err why) (applied_in now) carried → now ≡ before → IfOk result (λ step. CarriesOut step before now carried)
stops_so (Ok step) why before now carried tells ends same = stops_by why step before now carried tells ends same
stops_so (Err e) why before now carried tells ends same = tt

pub unrecorded : {E : Type 0} (result : Result Step E) (why : code_stop.Stop) (head : Head) (before now : Contents) → IfOk result (λ step. Tells why step)
    → IfOk result (λ step. IsRecorded step head before now)
unrecorded (Ok step) why head before now tells = unrecorded_by why step head before now tells
unrecorded (Err e) why head before now tells = tt

-- ---- a transaction

pub transaction_opens : (form : Form) (before after : Contents) → IsTransaction form → LeadsBy form before after → Opens before after
transaction_opens start before after is leads = absurd is
transaction_opens (next_log next) before after is leads = absurd is
transaction_opens (ddl s) before after is leads = absurd is
transaction_opens (txn opening items number) before after is leads = leads

changed_to : (before after : Contents) (held : Held) → Opens before after → held.base ≡ base_of before → changed after.changes held.base ≡ Some (base_of after)
changed_to before after held opens same =
    ap (changed after.changes) same
    ∙ ap (option_map (with_tables (base_of before))) opens.leads
    ∙ ap (λ os. Some (base_of (record after { objects = os }))) (sym opens.stays.objects)

pub transaction_recorded : StepsRecordsLead → (p : Prepared) (head : Head) (before after : Contents) → Opens before after → IsMadeOf p (TransactionApplied head after.changes)
    → IsRecorded (Carried p) head before (record after { changes = [] })
transaction_recorded law p head before after opens made = λ held same next. record {
  of = TransactionApplied head after.changes;
  is = made;
  makes = law.changes head after.changes held (base_of after) (changed_to before after held opens same) next;
}

-- ---- a definition

pub definition_makes : (text : List ℕ) (form : Form) (before after : Contents) → IsDefinition text form → LeadsBy form before after → MakesBy text before after
definition_makes text start before after is leads = absurd is
definition_makes text (next_log next) before after is leads = absurd is
definition_makes text (ddl s) before after is leads = subst (λ (t : List ℕ). MakesBy t before after) is leads
definition_makes text (txn opening items number) before after is leads = absurd is

defined_to : (text : List ℕ) (before after : Contents) (held : Held) → MakesBy text before after → held.base ≡ base_of before → defined_by text held.base ≡ Some (base_of after)
defined_to text before after held by same =
    ap (defined_by text) same
    ∙ ap (λ answer. option_and_then (λ s. defined s (base_of before)) (definition_in answer)) by.read
    ∙ ap (λ (b : Bool). option_and_then (λ s. defined s (base_of before)) (if b then Some by.statement else None)) by.makes.definition
    ∙ by.makes.made

pub definition_recorded : StepsRecordsLead → (text : List ℕ) (p : Prepared) (head : Head) (before after : Contents) → MakesBy text before after → IsMadeOf p (DefinitionApplied head text)
    → IsRecorded (Carried p) head before after
definition_recorded law text p head before after by made = λ held same next. record {
  of = DefinitionApplied head text;
  is = made;
  makes = law.definitions head text held (base_of after) (defined_to text before after held by same) next;
}
