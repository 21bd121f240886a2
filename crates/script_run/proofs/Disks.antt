-- Both disks at once.
use Rattle.std.proofs.Common.{◌≡◌, Option, Some, None, is_some, true, refl, arith, IfSome}
use Rattle.disk_model.specs.Story.{Story}
use Rattle.disk_model.specs.Moments.{GoesOn}
use Rattle.disk_model.proofs.Moments.{on_refl, on_trans}
use Rattle.script_run.specs.Disks.{AreTold, BothGoOn, Disks, Faults, IfBoth, NoFewer}

pub both_refl : (t : Disks) → BothGoOn t t
both_refl t = record { source = on_refl t.source; replica = on_refl t.replica }

pub both_trans : (t u v : Disks) → BothGoOn t u → BothGoOn u v → BothGoOn t v
both_trans t u v first second = record {
  source = on_trans t.source u.source v.source first.source second.source;
  replica = on_trans t.replica u.replica v.replica first.replica second.replica;
}

-- what tells its story goes on telling it
pub told_on : (t u : Option Story) → is_some t ≡ true → GoesOn t u → is_some u ≡ true
told_on None u told on = cc
told_on (Some s) None told on = absurd on
told_on (Some s) (Some r) told on = refl

pub both_told : (t u : Disks) → AreTold t → BothGoOn t u → AreTold u
both_told t u told on = record { source = told_on t.source u.source told.source on.source; replica = told_on t.replica u.replica told.replica on.replica }

pub where_told : (t : Option Story) (P : Type 0) → is_some t ≡ true → IfSome t (λ _. P) → P
where_told None P told p = cc
where_told (Some s) P told p = p

-- what is so anyhow is so where a disk tells
pub if_told : (t : Option Story) (P : Type 0) → P → IfSome t (λ _. P)
if_told None P p = tt
if_told (Some s) P p = p

-- of both disks
pub both_map : (t : Disks) (P Q : Type 0) → (P → Q) → IfBoth t P → IfBoth t Q
both_map t P Q step all = by t.source t.replica all
  where
    by : (s r : Option Story) → IfSome s (λ _. IfSome r (λ _. P)) → IfSome s (λ _. IfSome r (λ _. Q))
    by None r all = tt
    by (Some s) None all = tt
    by (Some s) (Some r) all = step all

-- ---- counts of faults

pub fewer_refl : (f : Faults) → NoFewer f f
fewer_refl f = record { source = omega arith; replica = omega arith }

pub fewer_trans : (f g h : Faults) → NoFewer f g → NoFewer g h → NoFewer f h
fewer_trans f g h first second = record { source = omega (arith, first.source, second.source); replica = omega (arith, first.replica, second.replica) }
