-- How a `Boxed` holds its value, so that a type may lead back to itself through a box.
use mathlib.Core.Path.{refl}
use mathlib.Core.Former.{Former, this, const, pair, via}
use base.Stored.{gnil}
use base.Fml.{ftrue}
use denote.RattleType.{RattleType}
use denote.Memory.{part_of}
use denote.RawPtr.{Ptr}
use denote.Sharing.{nothing}
use denote.HoleLaws.{Alike}
use denote.HolePlaces.{Recodes, struct_places, laid, one_value}
use denote.Hole.Fix.{over}
use denote.Param.Weighed.{Weighed}
use denote.Model.Placed.{view_places}
use Rattle.std.specs.declared.boxed.Box.{Box}
use Rattle.std.specs.contracts.boxed.Box as std_box
use Rattle.std.specs.declared.alloc.Global.{Global}
use Rattle.std.specs.contracts.alloc.Global as heap
use Rattle.std.specs.contracts.impls.GlobalAllocator.TheImpl.{ghosts}
use Rattle.val_types.specs.declared.boxed.Boxed.TheInside.{Inside}
use Rattle.val_types.specs.declared.boxed.Boxed.TheView.{view, invariant}
use Rattle.val_types.specs.contracts.boxed.Boxed as own
use Rattle.val_types.specs.contracts.boxed.Boxed.TheInside as own_inside

-- a box is its value
abbrev pub the_former : Former {0} → Former {0}
the_former value = value

abbrev pub the_weighed : {value : Former {0}} → Weighed value → Weighed (the_former value)
the_weighed weight = weight

-- the fields: std's box, which is a pointer, an allocator and the value
abbrev in_fields : Former {0}
in_fields = via (pair (const (Ptr × Global)) this) Inside (λ X b. ((b.inner.ptr, b.inner.alloc), b.inner.value))
    (λ X p. record { inner = record { ptr = p.0.0; alloc = p.0.1; value = p.1 } }) (λ X b. refl) (λ X p. refl)

-- the same box around another value
abbrev around : {X Y : Type 0} → Box X Global → Y → Box Y Global
around box y = record { ptr = box.ptr; alloc = box.alloc; value = y }

abbrev std_row : RattleType → RattleType
std_row Held = std_box.the_row Held heap.the_row ghosts

module _ (From To : RattleType) (to : From.Denot → To.Denot) where
  inner_places : Alike From To to → Alike (std_row From) (std_row To) (λ box. around box (to box.value))
  unfolding part_of
  inner_places alike = record {
    mir_same = λ i. (std_row (one_value From (alike.mir_same i) (λ _. ftrue) (λ _ _. nothing) gnil)).mir;
    own_same = λ box i. (std_row (one_value From (alike.mir_same i) (alike.own_same box.value i) (alike.shr_same box.value i) gnil)).own_val (around box tt);
    shr_same = λ box i. (std_row (one_value From (alike.mir_same i) (alike.own_same box.value i) (alike.shr_same box.value i) gnil)).shr_at (around box tt);
  }

  -- a box at two types that are laid out alike is laid out alike
  pub the_places : Alike From To to → Alike (own.the_row From) (own.the_row To) ((the_former this).map From.Denot To.Denot to)
  the_places alike = view_places in_fields this view (λ X Y f b. refl) (λ X b. refl) From.Denot To.Denot to
      (own.the_row From).coded (own.the_row To).coded (invariant From.Denot) (invariant To.Denot)
      (λ b p q. refl) (λ b p q. refl) (λ b e. tt) (λ b e. tt)
      (over (own_inside.the_row From)) (over (own_inside.the_row To))
      (struct_places (own_inside.the_type From) (own_inside.the_type To) ((λ box. around box (to box.value)), tt) _ (λ d. refl) refl
      (laid _ _ _ (inner_places alike), tt))

  pub the_codes_placed : Recodes From To to → Recodes (own.the_row From) (own.the_row To) ((the_former this).map From.Denot To.Denot to)
  the_codes_placed same b = same b
