-- A store's files stay durable from call to call.
use Rattle.std.proofs.Common.{◌≡◌, Option, Result, Ok, Err, sym, ◌∙◌, subst}
use Rattle.std.specs.Prelude.{OnOk}
use Rattle.disk_model.specs.Story.{Story}
use Rattle.store_model.specs.declared.record.Kind.{Kind}
use Rattle.store_model.specs.Held.{Held}
use Rattle.checkpoint.specs.commit_store.declared.store.Store.{Store}
use Rattle.checkpoint.specs.commit_store.Keeping.{AreDurable, Keeps}

-- a store that is started
pub started_stays : (t : Option Story) (now : Store) (held : Held) (kind node : Kind) → now.node ≡ kind → kind ≡ node → Keeps t now held → AreDurable node t
started_stays t now held kind node same is keeps = subst (λ (k : Kind). AreDurable k t) (same ∙ is) keeps.holds.durable

-- where a node of the same kind is opened
pub of_node : (t : Option Story) (kind node : Kind) → node ≡ kind → AreDurable kind t → AreDurable node t
of_node t kind node is durable = subst (λ (k : Kind). AreDurable k t) (sym is) durable

-- behind a checkpoint that ended well
pub made_stays : {A B E F : Type 0} (made : Result A E) (given : Result B F) (a : A) (t : Option Story) (kind node : Kind) → OnOk given (made ≡ Ok a) → OnOk made (AreDurable kind t) → kind ≡ node
    → OnOk given (AreDurable node t)
made_stays {A = A} {E = E} made (Ok x) a t kind node is durable same =
    subst (λ (k : Kind). AreDurable k t) same (subst (λ (r : Result A E). OnOk r (AreDurable kind t)) is durable)
made_stays made (Err e) a t kind node is durable same = tt
