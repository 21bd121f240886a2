use Rattle.std.proofs.Common.{◌≡◌, ℕ, List, [], ◌++◌, ◌-◌, length, drop, arith, ap, ◌∙◌, length-drop}
use Rattle.std.specs.Prelude.{insert}
use Rattle.std.proofs.lemmas.List.{length-take-le}
use Rattle.block_list.proofs.Splitting.{put_before, put_behind}
use Rattle.block_list.proofs.joining.put_in_halves.Goals as goal

-- what was moved into an empty block
moved_is : (front to empty : List ℕ) (k : ℕ) → to ≡ empty ++ drop k front → empty ≡ [] → to ≡ drop k front
moved_is front to empty k e none = e ∙ ap (λ (xs : List ℕ). xs ++ drop k front) none

pub insert-requires-clause-within : goal.insert-requires-clause-within
insert-requires-clause-within c = omega (arith, ap length c.move_tail.ensures.left, length-take-le 127 c.args.front.now (omega (arith, c.requires.full)), c.if-at-lt-HALF.true)

pub insert-requires-clause-room : goal.insert-requires-clause-room
insert-requires-clause-room c = omega (arith, ap length c.move_tail.ensures.left, length-take-le 127 c.args.front.now (omega (arith, c.requires.full)))

pub insert-requires-else-at-lt-HALF-clause-within : goal.insert-requires-else-at-lt-HALF-clause-within
insert-requires-else-at-lt-HALF-clause-within c =
    omega (arith, ap length (moved_is c.args.front.now c.move_tail-else-at-lt-HALF.new.to c.args.behind.now 128 c.move_tail-else-at-lt-HALF.ensures.moved c.requires.empty), length-drop 128 c.args.front.now, c.requires.full, c.requires.within)

pub insert-requires-else-at-lt-HALF-clause-room : goal.insert-requires-else-at-lt-HALF-clause-room
insert-requires-else-at-lt-HALF-clause-room c =
    omega (arith, ap length (moved_is c.args.front.now c.move_tail-else-at-lt-HALF.new.to c.args.behind.now 128 c.move_tail-else-at-lt-HALF.ensures.moved c.requires.empty), length-drop 128 c.args.front.now, c.requires.full)

pub returns-then-at-lt-HALF-clause-front : goal.returns-then-at-lt-HALF-clause-front
returns-then-at-lt-HALF-clause-front c =
    c.insert.ensures ∙ ap (λ (xs : List ℕ). insert xs c.args.at c.args.number) c.move_tail.ensures.left
    ∙ (put_before c.args.front.now 127 c.args.at c.args.number (omega (arith, c.if-at-lt-HALF.true)) (omega (arith, c.requires.full))).0

pub returns-then-at-lt-HALF-clause-behind : goal.returns-then-at-lt-HALF-clause-behind
returns-then-at-lt-HALF-clause-behind c =
    moved_is c.args.front.now c.move_tail.new.to c.args.behind.now 127 c.move_tail.ensures.moved c.requires.empty
    ∙ (put_before c.args.front.now 127 c.args.at c.args.number (omega (arith, c.if-at-lt-HALF.true)) (omega (arith, c.requires.full))).1

pub returns-else-at-lt-HALF-clause-front : goal.returns-else-at-lt-HALF-clause-front
returns-else-at-lt-HALF-clause-front c =
    c.move_tail-else-at-lt-HALF.ensures.left
    ∙ (put_behind c.args.front.now 128 c.args.at c.args.number (omega (arith, c.if-at-lt-HALF.false)) (omega (arith, c.requires.full, c.requires.within))).0

pub returns-else-at-lt-HALF-clause-behind : goal.returns-else-at-lt-HALF-clause-behind
returns-else-at-lt-HALF-clause-behind c =
    c.insert-else-at-lt-HALF.ensures
    ∙ ap (λ (xs : List ℕ). insert xs (c.args.at - 128) c.args.number) (moved_is c.args.front.now c.move_tail-else-at-lt-HALF.new.to c.args.behind.now 128 c.move_tail-else-at-lt-HALF.ensures.moved c.requires.empty)
    ∙ (put_behind c.args.front.now 128 c.args.at c.args.number (omega (arith, c.if-at-lt-HALF.false)) (omega (arith, c.requires.full, c.requires.within))).1
