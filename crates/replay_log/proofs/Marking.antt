-- Marks, one for each group that was carried out.
use Rattle.std.proofs.Common.{◌≡◌, ℕ, ◌+◌, List, [], ◌∷◌, ◌++◌, length, map, refl, sym, ap, ◌∙◌, arith, subst}
use Rattle.answer_text.specs.declared.report.Mark.{Mark}
use Rattle.store_model.specs.Held.{next_applied}
use Rattle.durable_replica.specs.store_replica.durable_runs.Marks.{last_named, replica_mark}
use Rattle.durable_replica.specs.store_replica.Pushed.{ArePushed, NameInTurn}
use Rattle.run_streams.specs.Reports.{first_mark}
use Rattle.replay_log.specs.Ends.{AreMarks}

-- a mark names the next number
named_next : (now m : Mark) (number : ℕ) → m ≡ record now { applied = next_applied number; rep_calls = m.rep_calls } → m.applied ≡ next_applied number
named_next now m number is = ap (λ (x : Mark). x.applied) is

-- marks behind others
pub in_turn : (now : Mark) (number : ℕ) (marks more : List Mark) → NameInTurn now number marks → NameInTurn now (last_named number (map replica_mark marks)) more
    → NameInTurn now number (marks ++ more)
in_turn now number [] more named next = next
in_turn now number (m ∷ marks) more named next =
    let at : m.applied ≡ next_applied number = named_next now m number named.0 in
    (named.0, in_turn now (next_applied number) marks more named.1 (subst (λ (n : ℕ). NameInTurn now (last_named n (map replica_mark marks)) more) at next))

pub last_behind : (number : ℕ) (marks more : List Mark) → last_named number (map replica_mark (marks ++ more)) ≡ last_named (last_named number (map replica_mark marks)) (map replica_mark more)
last_behind number [] more = refl
last_behind number (m ∷ marks) more = last_behind m.applied marks more

module _ (first count last : ℕ) (marks : List Mark) (are : AreMarks first count last marks) (after : ℕ) (all : List Mark) (pushed : ArePushed first_mark last after marks all) where
  pub named_all : NameInTurn first_mark first all
  named_all =
      subst (λ (l : List Mark). NameInTurn first_mark first l) (sym pushed.marks)
      (in_turn first_mark first marks pushed.more are.named (subst (λ (n : ℕ). NameInTurn first_mark n pushed.more) (sym are.reached) pushed.named))

  pub marks_more : (now : ℕ) → length all + count ≡ length marks + now → AreMarks first now after all
  marks_more now counted = record {
    named = named_all;
    each = let size = are.each in omega (arith, size, counted);
    reached =
        ap (λ (l : List Mark). last_named first (map replica_mark l)) pushed.marks ∙ last_behind first marks pushed.more
        ∙ ap (λ (n : ℕ). last_named n (map replica_mark pushed.more)) are.reached ∙ pushed.number;
  }
