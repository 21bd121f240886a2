-- How a `List` holds its items, so that a type may lead back to itself through a list.
use mathlib.Core.Path.{◌≡◌, refl, sym}
use mathlib.Core.List.{List as Items, []}
use mathlib.Core.Former.{Former, this, list, via, children}
use base.Stored.{code_map}
use denote.RattleType.{RattleType}
use denote.HoleLaws.{Alike}
use denote.HolePlaces.{Recodes, struct_places, laid}
use denote.Hole.Carrier.{listed, list-listed}
use denote.Hole.Fix.{over}
use denote.Param.Weighed.{Weighed, w_list}
use denote.Model.Placed.{view_places}
use Rattle.std.specs.formers.vec.Vec as vec
use Rattle.std.specs.declared.alloc.Global.{Global}
use Rattle.std.specs.contracts.alloc.Global as heap
use Rattle.std.specs.contracts.impls.GlobalAllocator.TheImpl.{ghosts}
use Rattle.val_types.specs.declared.list.List.TheInside.{Inside}
use Rattle.val_types.specs.declared.list.List.TheView.{view, invariant}
use Rattle.val_types.specs.contracts.list.List as own
use Rattle.val_types.specs.contracts.list.List.TheInside as own_inside

-- a list of items is a shape and the items
abbrev pub the_former : Former {0} → Former {0}
the_former items = list items

-- its depth is that of its deepest item
abbrev pub the_weighed : {items : Former {0}} → Weighed items → Weighed (the_former items)
the_weighed weights = w_list weights

-- the list without items needs none
pub the_empty : Items ⊥
the_empty = []

abbrev pub the_items : (X : Type 0) → Items X → Items X
the_items X xs = xs

pub the_items_listed : (X : Type 0) (xs : Items X) → listed _ (children (the_former this) X xs) ≡ the_items X xs
the_items_listed X xs = list-listed X xs

-- the fields: a vector of the items
abbrev in_fields : Former {0}
in_fields = via (vec.the_former this Global) Inside (λ X l. l.items) (λ X items. record { items = items }) (λ X l. refl) (λ X items. refl)

module _ (From To : RattleType) (to : From.Denot → To.Denot) where
  -- a list at two types that are laid out alike is laid out alike
  pub the_places : Alike From To to → Alike (own.the_row From) (own.the_row To) ((the_former this).map From.Denot To.Denot to)
  the_places alike = view_places in_fields (list this) view (λ X Y f l. refl) (λ X l. refl) From.Denot To.Denot to
      (own.the_row From).coded (own.the_row To).coded (invariant From.Denot) (invariant To.Denot)
      (λ l p q. refl) (λ l p q. refl) (λ l e. tt) (λ l e. tt)
      (over (own_inside.the_row From)) (over (own_inside.the_row To))
      (struct_places (own_inside.the_type From) (own_inside.the_type To) (vec.mapped to, tt) _ (λ d. refl) refl
      (laid _ _ _ (vec.the_places heap.the_row ghosts From To to alike), tt))

  pub the_codes_placed : Recodes From To to → Recodes (own.the_row From) (own.the_row To) ((the_former this).map From.Denot To.Denot to)
  the_codes_placed same xs = sym (code_map From.coded.code To.coded.code to (λ x. sym (same x)) xs)
