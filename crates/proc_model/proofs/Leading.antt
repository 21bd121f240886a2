-- What leads a runner.
use Rattle.std.proofs.Common.{◌≡◌, List, [], ◌∷◌, refl, sym}
use Rattle.proc_model.specs.Talk.{Talk, ends, runs, evaluates, assigns, and_then, Rules, Led, Exchange, ran, gave, assigned, Asks, AllLead, Steps, brought, AreSteps, Told, Left}
use Rattle.sql_tree.specs.Statement.{Statement}
use Rattle.sql_tree.specs.Tree.{Trees}
use Rattle.val_types.specs.declared.value.Value.{Value}
use Rattle.sql_locals.specs.declared.locals.Local.{Local}
use Rattle.std.specs.Prelude.{ℕ}

-- one talk behind the other
pub led_then : {S A B : Type 0} (rules : Rules S) (m : Talk A) (next : A → Talk B) (before mid after : S) (a : A) (b : B)
    → Led rules m before a mid → Led rules (next a) mid b after → Led rules (and_then m next) before b after
led_then rules (ends x) next before mid after a b h k = rw (sym h.0, sym h.1) k
led_then rules (runs left s go) next before mid after a b h k = (h.0, h.1, h.2, led_then rules (go h.0) next h.1 mid after a b h.3 k)
led_then rules (evaluates left locals ts go) next before mid after a b h k = (h.0, h.1, h.2, led_then rules (go h.0) next h.1 mid after a b h.3 k)
led_then rules (assigns n v go) next before mid after a b h k = (h.0, h.1, led_then rules go next h.0 mid after a b h.2 k)

pub led_listed : {S A : Type 0} (rules : Rules S) (talk : Talk A) (before after : S) (a : A) → Led rules talk before a after
    → (es : List Exchange) × Asks talk es a × AllLead rules es before after
led_listed rules (ends x) before after a h = ([], (refl, h.0), h.1)
led_listed rules (runs left s go) before after a h =
    let more = led_listed rules (go h.0) h.1 after a h.3 in (ran left s h.0 ∷ more.0, (h.0, more.0, refl, more.1), (h.1, h.2, more.2))
led_listed rules (evaluates left locals ts go) before after a h =
    let more = led_listed rules (go h.0) h.1 after a h.3 in (gave left locals ts h.0 ∷ more.0, (h.0, more.0, refl, more.1), (h.1, h.2, more.2))
led_listed rules (assigns n v go) before after a h =
    let more = led_listed rules go h.0 after a h.2 in (assigned n v ∷ more.0, (more.0, refl, more.1), (h.0, h.1, more.2))

pub exchanges_lead : {S A : Type 0} (rules : Rules S) (talk : Talk A) (es : List Exchange) (before after : S) (a : A)
    → Asks talk es a → AllLead rules es before after → Led rules talk before a after
exchanges_lead rules (ends x) es before after a h k = (h.1, rw (h.0) at k)
exchanges_lead rules (runs left s go) es before after a h k =
    let l : AllLead rules (ran left s h.0 ∷ h.1) before after = rw (h.2) at k in
    (h.0, l.0, l.1, exchanges_lead rules (go h.0) h.1 l.0 after a h.3 l.2)
exchanges_lead rules (evaluates left locals ts go) es before after a h k =
    let l : AllLead rules (gave left locals ts h.0 ∷ h.1) before after = rw (h.2) at k in
    (h.0, l.0, l.1, exchanges_lead rules (go h.0) h.1 l.0 after a h.3 l.2)
exchanges_lead rules (assigns n v go) es before after a h k =
    let l : AllLead rules (assigned n v ∷ h.0) before after = rw (h.1) at k in
    (l.0, l.1, exchanges_lead rules go h.0 l.0 after a h.2 l.2)

pub led_by_function : {S T A : Type 0} (rules : Rules S) (view : S → T) (steps : Steps T) → AreSteps rules view steps
    → (talk : Talk A) (before after : S) (a : A) → Led rules talk before a after → brought steps talk (view before) ≡ (a, view after)
led_by_function rules view steps are (ends x) before after a h = λ i. ((sym h.0) i, view ((sym h.1) i))
led_by_function rules view steps are (runs left s go) before after a h =
    rw (are.ran before h.1 left s h.0 h.2) (led_by_function rules view steps are (go h.0) h.1 after a h.3)
led_by_function rules view steps are (evaluates left locals ts go) before after a h =
    rw (are.gave before h.1 left locals ts h.0 h.2) (led_by_function rules view steps are (go h.0) h.1 after a h.3)
led_by_function rules view steps are (assigns n v go) before after a h =
    rw (are.assigned before h.0 n v h.1) (led_by_function rules view steps are go h.0 after a h.2)

-- ---- runners that are functions

-- what each step keeps, a whole talk keeps
pub talk_keeps : {S A : Type 0} (steps : Steps S) (holds : S → Type 0)
    → ((left : Left) (s : Statement) (state : S) → holds state → holds (steps.run left s state).1)
    → ((left : Left) (locals : List Local) (ts : Trees) (state : S) → holds state → holds (steps.evaluate left locals ts state).1)
    → ((n : List ℕ) (v : Value) (state : S) → holds state → holds (steps.assign n v state))
    → (talk : Talk A) (state : S) → holds state → holds (brought steps talk state).1
talk_keeps steps holds r g a (ends x) state h = h
talk_keeps steps holds r g a (runs left s go) state h = talk_keeps steps holds r g a (go (steps.run left s state).0) (steps.run left s state).1 (r left s state h)
talk_keeps steps holds r g a (evaluates left locals ts go) state h =
    talk_keeps steps holds r g a (go (steps.evaluate left locals ts state).0) (steps.evaluate left locals ts state).1 (g left locals ts state h)
talk_keeps steps holds r g a (assigns n v go) state h = talk_keeps steps holds r g a go (steps.assign n v state) (a n v state h)

-- a runner that does the same on what is seen of a state brings a talk to the same end
pub talk_seen : {S T A : Type 0} (steps : Steps S) (others : Steps T) (view : S → T)
    → ((left : Left) (s : Statement) (state : S) → others.run left s (view state) ≡ ((steps.run left s state).0, view (steps.run left s state).1))
    → ((left : Left) (locals : List Local) (ts : Trees) (state : S) → others.evaluate left locals ts (view state) ≡ ((steps.evaluate left locals ts state).0, view (steps.evaluate left locals ts state).1))
    → ((n : List ℕ) (v : Value) (state : S) → others.assign n v (view state) ≡ view (steps.assign n v state))
    → (talk : Talk A) (state : S) → brought others talk (view state) ≡ ((brought steps talk state).0, view (brought steps talk state).1)
talk_seen steps others view r g w (ends x) state = refl
talk_seen steps others view r g w (runs left s go) state =
    rw (r left s state) (talk_seen steps others view r g w (go (steps.run left s state).0) (steps.run left s state).1)
talk_seen steps others view r g w (evaluates left locals ts go) state =
    rw (g left locals ts state) (talk_seen steps others view r g w (go (steps.evaluate left locals ts state).0) (steps.evaluate left locals ts state).1)
talk_seen steps others view r g w (assigns n v go) state = rw (w n v state) (talk_seen steps others view r g w go (steps.assign n v state))

-- relations that do what a function does, of states that stand for its own, bring a talk to its end and its state
pub led_stands : {S T A : Type 0} (rules : Rules S) (steps : Steps T) (stands : S → T → Type 0)
    → ((before after : S) (left : Left) (s : Statement) (told : Told _) (at : T) → rules.ran before left s told after → stands before at
    → (told ≡ (steps.run left s at).0) × stands after (steps.run left s at).1)
    → ((before after : S) (left : Left) (locals : List Local) (ts : Trees) (told : Told (List Value)) (at : T) → rules.gave before left locals ts told after → stands before at
    → (told ≡ (steps.evaluate left locals ts at).0) × stands after (steps.evaluate left locals ts at).1)
    → ((before after : S) (n : List ℕ) (v : Value) (at : T) → rules.assigned before n v after → stands before at → stands after (steps.assign n v at))
    → (talk : Talk A) (before after : S) (a : A) (at : T) → Led rules talk before a after → stands before at
    → (a ≡ (brought steps talk at).0) × stands after (brought steps talk at).1
led_stands rules steps stands r g w (ends x) before after a at h k = (h.0, rw h.1 k)
led_stands rules steps stands r g w (runs left s go) before after a at h k =
    let m = r before h.1 left s h.0 at h.2 k in
    led_stands rules steps stands r g w (go (steps.run left s at).0) h.1 after a (steps.run left s at).1 (rw m.0 at h.3) m.1
led_stands rules steps stands r g w (evaluates left locals ts go) before after a at h k =
    let m = g before h.1 left locals ts h.0 at h.2 k in
    led_stands rules steps stands r g w (go (steps.evaluate left locals ts at).0) h.1 after a (steps.evaluate left locals ts at).1 (rw m.0 at h.3) m.1
led_stands rules steps stands r g w (assigns n v go) before after a at h k =
    led_stands rules steps stands r g w go h.0 after a (steps.assign n v at) h.2 (w before h.0 n v at h.1 k)
