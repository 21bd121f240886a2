use Rattle.std.proofs.Common.{ap, ◌∙◌}
use Rattle.commit_store.specs.declared.store.Store.{Store}
use Rattle.store_model.specs.Bodies.{body_of}
use Rattle.store_replica.proofs.Recording.{all_leads, all_on, leads_on, ok_two, ready, room_is, staged_stays, taken}
use Rattle.store_replica.proofs.Standings.{stays_leads}
use Rattle.commit_store.proofs.Passed.{commit_stays}
use Rattle.store_replica.proofs.keeping.write_record.Goals as goal

pub stage-requires-clause-prepared : goal.stage-requires-clause-prepared
stage-requires-clause-prepared g c = (
  body_of c.requires.0,
  (ready _ c.args.store.now c.take.new.self c.args.p c.requires.0 c.requires.1.0 c.requires.1.1.0 c.requires.1.1.1 c.take.ensures.ready c.take.ensures.keeps
      (ap (λ (st : Store). st.node) c.take.ensures.rest)).bytes,
)

pub commit-requires-clause-room : goal.commit-requires-clause-room
commit-requires-clause-room g c =
    room_is _ c.args.store.now c.take.new.self c.args.p c.requires.0 c.requires.1.0 c.requires.1.1.0 c.requires.1.1.1 c.take.ensures.ready c.take.ensures.keeps
    (ap (λ (st : Store). st.node) c.take.ensures.rest) c.stage.new.self.next c.stage.new.self.ends (ap (λ (st : Store). st.next) c.stage.ensures.same)

pub returns-in_err-stage-clause-leads : goal.returns-in_err-stage-clause-leads
returns-in_err-stage-clause-leads g c r held now can =
    let same = ap (λ (st : Store). st.node) c.take.ensures.rest in
    let on = taken _ c.args.store.now c.take.new.self c.args.p r held now can c.take.ensures.ready c.take.ensures.keeps same in
    stays_leads _ _ held now
    (staged_stays _ c.args.store.now c.take.new.self c.args.p r held now can c.take.ensures.ready c.take.ensures.keeps same _ c.stage.ensures.works
    (c.stage.ensures.images held on.keeps))

pub returns-clause-leads : goal.returns-clause-leads
returns-clause-leads g c r held now can =
    let same = ap (λ (st : Store). st.node) c.take.ensures.rest in
    let on = taken _ c.args.store.now c.take.new.self c.args.p r held now can c.take.ensures.ready c.take.ensures.keeps same in
    let prepared = ready _ c.args.store.now c.take.new.self c.args.p r held now can c.take.ensures.ready c.take.ensures.keeps same in
    let images = c.stage.ensures.images held on.keeps in
    let keeps = c.in_ok-stage.ensures.keeps held on.keeps in
    let staged = c.in_ok-stage.ensures.staged r prepared in
    let leads = leads_on _ c.args.store.now c.take.new.self c.args.p r held now can c.take.ensures.ready c.take.ensures.keeps same _ c.stage.ensures.works images
    c.stage.new.self c.stage.ensures.same keeps staged in
    all_leads _ c.args.store.now c.take.new.self c.args.p r held now can c.take.ensures.ready c.take.ensures.keeps same _ c.stage.ensures.works images
    c.stage.new.self c.stage.ensures.same keeps staged _ c.commit.ensures.works (c.commit.ensures.images r held now leads)

pub returns-clause-on : goal.returns-clause-on
returns-clause-on g c r held now can =
    let same = ap (λ (st : Store). st.node) c.take.ensures.rest in
    let on = taken _ c.args.store.now c.take.new.self c.args.p r held now can c.take.ensures.ready c.take.ensures.keeps same in
    let prepared = ready _ c.args.store.now c.take.new.self c.args.p r held now can c.take.ensures.ready c.take.ensures.keeps same in
    let images = c.stage.ensures.images held on.keeps in
    let keeps = c.in_ok-stage.ensures.keeps held on.keeps in
    let staged = c.in_ok-stage.ensures.staged r prepared in
    let leads = leads_on _ c.args.store.now c.take.new.self c.args.p r held now can c.take.ensures.ready c.take.ensures.keeps same _ c.stage.ensures.works images
    c.stage.new.self c.stage.ensures.same keeps staged in
    ok_two c.commit.result (c.commit.ensures.keeps r held now leads) c.commit.ensures.passed (λ kept passes.
    all_on _ c.args.store.now c.take.new.self c.args.p r held now can c.take.ensures.ready c.take.ensures.keeps same _ c.stage.ensures.works images
    c.stage.new.self c.stage.ensures.same keeps staged _ c.commit.ensures.works c.commit.new.self c.commit.new.self.journal kept passes)

pub returns-in_err-stage-clause-generation : goal.returns-in_err-stage-clause-generation
returns-in_err-stage-clause-generation g c = ap (λ (st : Store). st.generation) (c.stage.ensures.same ∙ c.take.ensures.rest)

pub returns-clause-generation : goal.returns-clause-generation
returns-clause-generation g c =
    commit_stays c.commit.result c.stage.new.self c.commit.new.self c.commit.ensures.passed c.commit.ensures.err
    ∙ ap (λ (st : Store). st.generation) (c.stage.ensures.same ∙ c.take.ensures.rest)
