use Rattle.std.proofs.Common.{◌∙◌, ap, arith}
use Rattle.commit_store.specs.declared.store.Store.{Store}
use Rattle.store_model.specs.Bodies.{body_of}
use Rattle.store_source.proofs.Images.{stays_leads, stays_both}
use Rattle.store_source.proofs.Entries.{no_tail, record_for}
use Rattle.store_source.proofs.Steps.{ok_two, node_after, on_prepared, ready_for, room_is, room_after, staged_stays, leads_on, all_leads, all_on}
use Rattle.commit_store.proofs.Passed.{commit_stays}
use Rattle.store_source.proofs.entry.write_entry.Goals as goal

pub stage-requires-clause-prepared : goal.stage-requires-clause-prepared
stage-requires-clause-prepared g c =
    let s = c.requires.can.0 in
    let e = c.requires.can.1.0 in
    (body_of (record_for e s), (ready_for _ c.args.store.now c.take.new.self s e c.args.w c.requires.can.1.1 c.take.ensures.ready).bytes)

pub commit-requires-clause-room : goal.commit-requires-clause-room
commit-requires-clause-room g c =
    let same = c.in_ok-stage.ensures.same ∙ c.take.ensures.rest in
    room_is _ c.args.store.now c.requires.can.0 c.requires.can.1.0 c.args.w c.requires.can.1.1 c.stage.new.self.next c.stage.new.self.ends (ap (λ (st : Store). st.next) same)
    (omega (arith, ap (λ (st : Store). st.ends.room) same, c.requires.room))

pub returns-in_err-write_tail-clause-generation : goal.returns-in_err-write_tail-clause-generation
returns-in_err-write_tail-clause-generation g c = ap (λ (st : Store). st.generation) c.take.ensures.rest

pub returns-in_err-write_head-clause-generation : goal.returns-in_err-write_head-clause-generation
returns-in_err-write_head-clause-generation g c = ap (λ (st : Store). st.generation) c.take.ensures.rest

pub returns-in_err-stage-clause-generation : goal.returns-in_err-stage-clause-generation
returns-in_err-stage-clause-generation g c = ap (λ (st : Store). st.generation) (c.stage.ensures.same ∙ c.take.ensures.rest)

pub returns-clause-generation : goal.returns-clause-generation
returns-clause-generation g c =
    commit_stays c.commit.result c.stage.new.self c.commit.new.self c.commit.ensures.passed c.commit.ensures.err
    ∙ ap (λ (st : Store). st.generation) (c.stage.ensures.same ∙ c.take.ensures.rest)

pub returns-clause-room : goal.returns-clause-room
returns-clause-room g c =
    let same = c.in_ok-stage.ensures.same ∙ c.take.ensures.rest in
    ok_two c.commit.result c.commit.ensures.passed c.commit.ensures.passed (λ passed _.
    room_after _ c.args.store.now c.requires.can.0 c.requires.can.1.0 c.args.w c.requires.can.1.1 c.stage.new.self c.commit.new.self c.commit.new.self.journal (ap (λ (st : Store). st.next) same)
    (ap (λ (st : Store). st.ends.room) same) passed)

pub returns-in_err-write_head-clause-leads : goal.returns-in_err-write_head-clause-leads
returns-in_err-write_head-clause-leads g c s now e can is =
    let on = on_prepared _ c.args.store.now c.take.new.self s can.on (c.take.ensures.keeps _ s.held can.on.keeps) (ap (λ (st : Store). st.node) c.take.ensures.rest) in
    let on' = c.in_ok-write_tail.ensures.on s on in
    stays_leads _ _ s now (stays_both _ _ _ s (c.write_tail.ensures.stays s on) (c.write_head.ensures.stays s on'))

pub returns-in_err-stage-clause-leads : goal.returns-in_err-stage-clause-leads
returns-in_err-stage-clause-leads g c s now e can is =
    let on = on_prepared _ c.args.store.now c.take.new.self s can.on (c.take.ensures.keeps _ s.held can.on.keeps) (ap (λ (st : Store). st.node) c.take.ensures.rest) in
    let on' = c.in_ok-write_tail.ensures.on s on in
    let on'' = c.in_ok-write_head.ensures.on s on' in
    stays_leads _ _ s now
    (staged_stays _ _ _ c.args.store.now c.take.new.self s now e c.args.w can is (c.write_tail.ensures.stays s on)
    (c.in_ok-write_tail.ensures.puts s on (no_tail _ c.args.store.now s e c.args.w can)) (c.write_head.ensures.stays s on')
    (c.in_ok-write_head.ensures.puts s on') on'' _ c.stage.ensures.works (c.stage.ensures.images s.held on''.keeps))

pub returns-clause-leads : goal.returns-clause-leads
returns-clause-leads g c s now e can is =
    let on = on_prepared _ c.args.store.now c.take.new.self s can.on (c.take.ensures.keeps _ s.held can.on.keeps) (ap (λ (st : Store). st.node) c.take.ensures.rest) in
    let on' = c.in_ok-write_tail.ensures.on s on in
    let on'' = c.in_ok-write_head.ensures.on s on' in
    let tail = c.in_ok-write_tail.ensures.puts s on (no_tail _ c.args.store.now s e c.args.w can) in
    let head = c.in_ok-write_head.ensures.puts s on' in
    let ready = ready_for _ c.args.store.now c.take.new.self s e c.args.w can c.take.ensures.ready in
    let keeps = c.in_ok-stage.ensures.keeps s.held on''.keeps in
    let staged = c.in_ok-stage.ensures.staged (record_for e s) ready in
    let images = c.stage.ensures.images s.held on''.keeps in
    let leads = leads_on _ _ _ c.args.store.now c.take.new.self s now e c.args.w can is (c.write_tail.ensures.stays s on) tail (c.write_head.ensures.stays s on') head on'' _
    c.stage.ensures.works images c.stage.new.self c.stage.ensures.same keeps ready staged in
    all_leads _ _ _ c.args.store.now c.take.new.self s now e c.args.w can is (c.write_tail.ensures.stays s on) tail (c.write_head.ensures.stays s on') head on'' _
    c.stage.ensures.works images c.stage.new.self c.stage.ensures.same keeps ready staged _ c.commit.ensures.works (c.commit.ensures.images (record_for e s) s.held now.held leads)

pub returns-clause-on : goal.returns-clause-on
returns-clause-on g c s now e can is =
    let on = on_prepared _ c.args.store.now c.take.new.self s can.on (c.take.ensures.keeps _ s.held can.on.keeps) (ap (λ (st : Store). st.node) c.take.ensures.rest) in
    let on' = c.in_ok-write_tail.ensures.on s on in
    let on'' = c.in_ok-write_head.ensures.on s on' in
    let tail = c.in_ok-write_tail.ensures.puts s on (no_tail _ c.args.store.now s e c.args.w can) in
    let head = c.in_ok-write_head.ensures.puts s on' in
    let ready = ready_for _ c.args.store.now c.take.new.self s e c.args.w can c.take.ensures.ready in
    let keeps = c.in_ok-stage.ensures.keeps s.held on''.keeps in
    let staged = c.in_ok-stage.ensures.staged (record_for e s) ready in
    let images = c.stage.ensures.images s.held on''.keeps in
    let leads = leads_on _ _ _ c.args.store.now c.take.new.self s now e c.args.w can is (c.write_tail.ensures.stays s on) tail (c.write_head.ensures.stays s on') head on'' _
    c.stage.ensures.works images c.stage.new.self c.stage.ensures.same keeps ready staged in
    ok_two c.commit.result (c.commit.ensures.keeps (record_for e s) s.held now.held leads) c.commit.ensures.passed (λ kept passed.
    all_on _ _ _ c.args.store.now c.take.new.self s now e c.args.w can is (c.write_tail.ensures.stays s on) tail (c.write_head.ensures.stays s on') head on'' _
    c.stage.ensures.works images c.stage.new.self c.stage.ensures.same keeps ready staged _ c.commit.ensures.works c.commit.new.self kept
    (node_after c.commit.new.self c.stage.new.self c.commit.new.self.journal passed))
