use Rattle.std.proofs.Common.{◌<◌, ◌^◌, ℕ, List, length, sym, subst}
use Rattle.commit_store.specs.store_model.declared.record.Kind.TheVariants.{Source}
use Rattle.waiting_entries.proofs.Recording.{definition_body, ok_of}
use Rattle.waiting_entries.proofs.making.definition_record.Goals as goal

pub new-requires-clause-form : goal.new-requires-clause-form
new-requires-clause-form c =
    let few : length c.in_ok-text.text < 2 ^ 31 = subst (λ (t : List ℕ). length t < 2 ^ 31) (sym c.in_ok-text.ensures) c.requires in
    (Source, (definition_body c.args.head c.in_ok-text.text c.is_head.ensures few).form)

pub new-requires-clause-fits : goal.new-requires-clause-fits
new-requires-clause-fits c =
    let few : length c.in_ok-text.text < 2 ^ 31 = subst (λ (t : List ℕ). length t < 2 ^ 31) (sym c.in_ok-text.ensures) c.requires in
    (definition_body c.args.head c.in_ok-text.text c.is_head.ensures few).fits

pub returns-clause-body : goal.returns-clause-body
returns-clause-body c = ok_of c.new.result (definition_body c.args.head c.args.text.now c.is_head.ensures c.requires)
