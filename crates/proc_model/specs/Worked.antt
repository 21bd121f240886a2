-- A runner that tells what stands in a list, and small procedures, of which worked examples are made.
use Rattle.std.specs.Prelude.{ℕ, codes, pos, List, [], ◌∷◌, ◌++◌, map, drop, Some, None, Result, Ok, Err, false}
use Rattle.val_types.specs.declared.value.Value.{Value}
use Rattle.val_types.specs.declared.value.Value.TheVariants.{Int, Null}
use Rattle.val_types.specs.declared.ops.BinOp.TheVariants as ops
use Rattle.sql_tree.specs.Tree.{Trees, name, binary, part}
use Rattle.sql_tree.specs.Statement.{Statement, program, block, while_steps, set_all}
use Rattle.sql_tree.specs.StatementView.{statements_of}
use Rattle.sql_tree.specs.Worked.{parameter_of, declared_as}
use Rattle.sql_tree.specs.declared.statements.SqlType.{SqlType}
use Rattle.sql_tree.specs.declared.statements.Target.{Target}
use Rattle.sql_locals.specs.declared.locals.Local.{Local}
use Rattle.val_types.specs.declared.definitions.ColType.TheVariants as kinds
use Rattle.sql_reach.specs.catalog_rules.Objects.{Object, procedure}
use Rattle.sql_reach.specs.sql_meaning.Running.{most_nested, most_turns}
use Rattle.sql_reach.specs.sql_meaning.Worked.{n}
use Rattle.answer_text.specs.declared.answer.End.{End}
use Rattle.answer_text.specs.declared.answer.End.TheVariants as ends_with
use Rattle.proc_model.specs.Talk.{Left, Refusal, Effect, Told, Steps, brought}
use Rattle.proc_model.specs.Procedures.{Came, called, plain_refusal}

-- ---- a runner that tells what stands in a list, and notes what it is asked

pub data Reply : Type 0 where
  did : ℕ → Reply
  shows : List (List Value) → Reply
  gives : List ℕ → Reply
  refuses : ℕ → Reply

pub data Ask : Type 0 where
  run : Statement → Ask
  evaluate : List Local → Trees → Ask
  assign : List ℕ → Value → Ask

pub record Script : Type 0 where
  pub to_come : List Reply
  pub asked : List Ask

-- a list that is at its end refuses
abbrev pub effect_told : List Reply → Result Effect Refusal
effect_told (did k ∷ rs) = Ok (record { affected = k; shown = None })
effect_told (shows rows ∷ rs) = Ok (record { affected = 0; shown = Some rows })
effect_told (refuses code ∷ rs) = Err (plain_refusal code)
effect_told rs = Err (plain_refusal 0)

abbrev pub values_told : List Reply → Result (List Value) Refusal
values_told (gives ks ∷ rs) = Ok (map (λ k. Int (pos k)) ks)
values_told (refuses code ∷ rs) = Err (plain_refusal code)
values_told rs = Err (plain_refusal 0)

abbrev pub told_of : {A : Type 0} → Left → Result A Refusal → Told A
told_of left result = record { result = result; turns = left.turns; uuids = left.uuids }

abbrev pub noted : Ask → Script → Script
noted ask script = record { to_come = drop 1 script.to_come; asked = script.asked ++ ask ∷ [] }

abbrev pub by_list : Steps Script
by_list = record {
  run = λ left s script. (told_of left (effect_told script.to_come), noted (run s) script);
  evaluate = λ left locals ts script. (told_of left (values_told script.to_come), noted (evaluate locals ts) script);
  assign = λ x v script. record script { asked = script.asked ++ assign x v ∷ [] };
}

abbrev pub full : Left
full = record { nesting = most_nested; turns = most_turns; uuids = 0 }

-- a CALL by a runner that tells these replies
abbrev pub call_with : List Object → List ℕ → List ℕ → List Reply → Came × Script
call_with catalog p ks replies = brought by_list (called catalog full p (map (λ k. Int (pos k)) ks)) (record { to_come = replies; asked = [] })

abbrev pub end_of : Came × Script → End
end_of c = c.0.answer.end

abbrev pub sets_of : Came × Script → List (List (List Value))
sets_of c = c.0.answer.sets

abbrev pub asked_of : Came × Script → List Ask
asked_of c = c.1.asked

abbrev pub to_come_of : Came × Script → List Reply
to_come_of c = c.1.to_come

abbrev pub ok : ℕ → End
ok k = ends_with.Ok k false

abbrev pub error : ℕ → End
error code = ends_with.Refused code None None

-- ---- procedures

abbrev pub int_local : List ℕ → ℕ → Local
int_local x k = record { name = x; kind = kinds.Int; value = Int (pos k) }

abbrev pub null_local : List ℕ → Local
null_local x = record { name = x; kind = kinds.Int; value = Null }

-- a procedure of no parameters
abbrev pub doing : List ℕ → List Statement → Object
doing p ss = procedure (program p [] None (block [] (statements_of ss)))

-- PROCEDURE w(n INT) BEGIN DECLARE i INT DEFAULT 0; WHILE i < n DO SET i = i + 1; END WHILE; END
abbrev pub counting : Object
counting = procedure (program (codes "w") (parameter_of (codes "n") SqlType.Int ∷ []) None
    (block (declared_as (codes "i" ∷ []) SqlType.Int (part (n 0)) ∷ []) (statements_of (
    while_steps (binary ops.Less (name (codes "i")) (name (codes "n"))) (statements_of (set_all ((Target.Plain (codes "i"), binary ops.Add (name (codes "i")) (n 1)) ∷ []) ∷ []))
    ∷ []))))
