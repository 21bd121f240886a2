use Rattle.std.proofs.Common.{◌≡◌, ◌++◌, ◌∷◌, [], List, subst, sym, rules}
use Rattle.catalog_objects.specs.declared.object.Object.{Object}
use Rattle.catalog_objects.specs.Keys.{key_of, key_order, trigger_if}
use Rattle.catalog_objects.specs.Rising.{put}
use Rattle.catalog_objects.specs.Lookups.{waiting_with, is_free, is_event_free}
use Rattle.catalog_objects.proofs.Kept.{found_added}
use Rattle.catalog_objects.proofs.objects.Objects.add.Goals as goal

pub invariant_of-self-2 : goal.invariant_of-self-2
invariant_of-self-2 c =
    let made : c.put_last.new.items.items ≡ c.self.inside.made.items ++ c.args.object ∷ [] = search rules in
    let named : c.put_named.new.named.items ≡ put key_order key_of c.args.object c.self.inside.named.items = search rules in
    let waiting : c.put_waiting.new.waiting.items ≡ waiting_with (trigger_if c.args.object) c.self.inside.waiting.items = search rules in
    let free : is_free c.args.object c.self.inside.made.items = subst (λ (os : List Object). is_free c.args.object os) (sym c.self.view_is) c.requires.name in
    let event : is_event_free c.args.object c.self.inside.made.items = subst (λ (os : List Object). is_event_free c.args.object os) (sym c.self.view_is) c.requires.event in
    rw (made, named, waiting)
    (found_added c.args.object c.self.inside.made.items c.self.inside.named.items c.self.inside.waiting.items free event c.self.invariant)
