-- Marks of an APPLY, pushed one behind the other.
use Rattle.std.proofs.Common.{◌≡◌, ℕ, List, [], ◌∷◌, ◌++◌, map, refl, sym, ◌∙◌, ap, subst, append_assoc}
use Rattle.std.proofs.lemmas.List.{append-nil}
use Rattle.answer_text.specs.declared.report.Mark.{Mark}
use Rattle.store_model.specs.Held.{next_applied}
use Rattle.store_checkpoints.specs.store_replica.durable_runs.Marks.{last_named, replica_mark}
use Rattle.store_checkpoints.specs.store_replica.Pushed.{ArePushed, NameInTurn}

abbrev last : ℕ → List Mark → ℕ
last n marks = last_named n (map replica_mark marks)

last_join : (n : ℕ) (xs ys : List Mark) → last n (xs ++ ys) ≡ last (last n xs) ys
last_join n [] ys = refl
last_join n (x ∷ xs) ys = last_join x.applied xs ys

turn_join : (now : Mark) (n : ℕ) (xs ys : List Mark) → NameInTurn now n xs → NameInTurn now (last n xs) ys → NameInTurn now n (xs ++ ys)
turn_join now n [] ys front back = back
turn_join now n (x ∷ xs) ys front back =
    (front.0, turn_join now (next_applied n) xs ys front.1 (subst (λ (k : ℕ). NameInTurn now (last k xs) ys) (ap (λ (m : Mark). m.applied) front.0) back))

pub none_pushed : (now : Mark) (n m : ℕ) (marks : List Mark) → n ≡ m → ArePushed now n m marks marks
none_pushed now n m marks same = record { more = []; marks = sym (append-nil marks); named = tt; number = same }

pub pushed_join : (now : Mark) (a b c : ℕ) (x y z : List Mark) → ArePushed now a b x y → ArePushed now b c y z → ArePushed now a c x z
pushed_join now a b c x y z p q = record {
  more = p.more ++ q.more;
  marks = q.marks ∙ ap (λ (l : List Mark). l ++ q.more) p.marks ∙ append_assoc x p.more q.more;
  named = turn_join now a p.more q.more p.named (subst (λ (k : ℕ). NameInTurn now k q.more) (sym p.number) q.named);
  number = last_join a p.more q.more ∙ ap (λ (k : ℕ). last k q.more) p.number ∙ q.number;
}
