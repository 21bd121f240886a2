use Rattle.std.proofs.Common.{rules, ℕ, ◌∙◌, sym, ap, refl, arith}
use Rattle.session_model.specs.log_entries.declared.entries.Entry.TheVariants.{LogStart}
use Rattle.session_model.specs.Machine.{nowhere}
use Rattle.commit_store.specs.declared.store.Store.{Store}
use Rattle.waiting_entries.specs.Waiting.{waiting_of}
use Rattle.store_source.specs.Beginning.{calls_begun}
use Rattle.store_source.proofs.Steps.{on_prepared}
use Rattle.store_source.proofs.Begun.{ok_on, ok_calls, not_empty, is_none, one_more, idle_run, idle_on, early_run, can_begin, begun_run, begun_on, begun_calls}
use Rattle.store_source.proofs.beginning.begin_log.Goals as goal

pub returns-then-not-is_empty-clause-run : goal.returns-then-not-is_empty-clause-run
returns-then-not-is_empty-clause-run g c s marks on few =
    idle_run _ c.args.store.now s on c.args.stamp c.args.server_id (not_empty c.is_empty.result c.ends.result.now c.args.store.now.ends.list c.is_empty.ensures (search rules) c.ends.ensures) marks

pub returns-then-not-is_empty-clause-on : goal.returns-then-not-is_empty-clause-on
returns-then-not-is_empty-clause-on g c s after on few is =
    idle_on _ c.args.store.now s on c.args.stamp c.args.server_id (not_empty c.is_empty.result c.ends.result.now c.args.store.now.ends.list c.is_empty.ensures (search rules) c.ends.ensures) after is

pub returns-in_err-w-clause-run : goal.returns-in_err-w-clause-run
returns-in_err-w-clause-run g c s marks on few = early_run _ c.args.store.now s on c.args.stamp c.args.server_id marks

pub returns-in_err-make_room-clause-run : goal.returns-in_err-make_room-clause-run
returns-in_err-make_room-clause-run g c s marks on few = early_run _ c.args.store.now s on c.args.stamp c.args.server_id marks

pub write_entry-requires-clause-can : goal.write_entry-requires-clause-can
write_entry-requires-clause-can g c =
    let on = on_prepared _ c.args.store.now c.make_room.new.self c.requires.0 c.requires.1.0 (c.make_room.ensures.keeps _ c.requires.0.held c.requires.1.0.keeps) (ap (λ (st : Store). st.node) c.make_room.ensures.rest) in
    let none = ap (λ (st : Store). st.ends.list) c.make_room.ensures.rest ∙ is_none c.is_empty.result c.ends.result.now c.args.store.now.ends.list c.is_empty.ensures (search rules) c.ends.ensures in
    let is = c.in_ok-w.ensures ∙ ap (λ (n : ℕ). waiting_of (LogStart c.args.stamp c.args.server_id) n nowhere) (c.number.ensures ∙ sym (ap (λ (st : Store). st.number) c.make_room.ensures.rest)) in
    (c.requires.0, (LogStart c.args.stamp c.args.server_id, can_begin _ c.make_room.new.self c.requires.0 on c.requires.1.1 c.args.stamp c.args.server_id none _ is))

pub write_entry-requires-clause-room : goal.write_entry-requires-clause-room
write_entry-requires-clause-room g c = omega (arith, one_more c.in_ok-w.w, c.in_ok-make_room.ensures.made)

pub returns-clause-run : goal.returns-clause-run
returns-clause-run g c s marks on few =
    let on' = on_prepared _ c.args.store.now c.make_room.new.self s on (c.make_room.ensures.keeps _ s.held on.keeps) (ap (λ (st : Store). st.node) c.make_room.ensures.rest) in
    let none = ap (λ (st : Store). st.ends.list) c.make_room.ensures.rest ∙ is_none c.is_empty.result c.ends.result.now c.args.store.now.ends.list c.is_empty.ensures (search rules) c.ends.ensures in
    let is = c.in_ok-w.ensures ∙ ap (λ (n : ℕ). waiting_of (LogStart c.args.stamp c.args.server_id) n nowhere) (c.number.ensures ∙ sym (ap (λ (st : Store). st.number) c.make_room.ensures.rest)) in
    begun_run _ c.make_room.new.self s on' few c.args.stamp c.args.server_id none _ is _ c.write_entry.ensures.leads marks

pub returns-clause-on : goal.returns-clause-on
returns-clause-on g c s after on few made =
    let on' = on_prepared _ c.args.store.now c.make_room.new.self s on (c.make_room.ensures.keeps _ s.held on.keeps) (ap (λ (st : Store). st.node) c.make_room.ensures.rest) in
    let none = ap (λ (st : Store). st.ends.list) c.make_room.ensures.rest ∙ is_none c.is_empty.result c.ends.result.now c.args.store.now.ends.list c.is_empty.ensures (search rules) c.ends.ensures in
    let is = c.in_ok-w.ensures ∙ ap (λ (n : ℕ). waiting_of (LogStart c.args.stamp c.args.server_id) n nowhere) (c.number.ensures ∙ sym (ap (λ (st : Store). st.number) c.make_room.ensures.rest)) in
    ok_on c.write_entry.result _ _ c.make_room.new.self c.write_entry.new.store _ _ c.write_entry.ensures.on (λ each.
    begun_on _ c.make_room.new.self s on' few c.args.stamp c.args.server_id none _ is _ c.write_entry.new.store after made each)

pub returns-clause-calls : goal.returns-clause-calls
returns-clause-calls g c =
    let on = on_prepared _ c.args.store.now c.make_room.new.self c.requires.0 c.requires.1.0 (c.make_room.ensures.keeps _ c.requires.0.held c.requires.1.0.keeps) (ap (λ (st : Store). st.node) c.make_room.ensures.rest) in
    let same = ap (λ (st : Store). st.ends.list) c.make_room.ensures.rest in
    let none = same ∙ is_none c.is_empty.result c.ends.result.now c.args.store.now.ends.list c.is_empty.ensures (search rules) c.ends.ensures in
    let is = c.in_ok-w.ensures ∙ ap (λ (n : ℕ). waiting_of (LogStart c.args.stamp c.args.server_id) n nowhere) (c.number.ensures ∙ sym (ap (λ (st : Store). st.number) c.make_room.ensures.rest)) in
    ok_calls c.write_entry.result _ _ _ _ _ (begun_calls _ c.make_room.new.self c.requires.0 on c.requires.1.1 c.args.stamp c.args.server_id none _ is ∙ ap calls_begun same) c.write_entry.ensures.calls

pub returns-in_err-make_room-clause-generation : goal.returns-in_err-make_room-clause-generation
returns-in_err-make_room-clause-generation g c = ap (λ (st : Store). st.generation) c.make_room.ensures.rest

pub returns-clause-generation : goal.returns-clause-generation
returns-clause-generation g c = c.write_entry.ensures.generation ∙ ap (λ (st : Store). st.generation) c.make_room.ensures.rest
