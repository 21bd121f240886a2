-- A statement is its own first node; what is found by its name is of the catalog and has that name.
use Rattle.std.proofs.Common.{◌≡◌, ℕ, inl, inr, Bool, true, false, ◌&&◌, List, [], ◌∷◌, cond, Option, Some, None, refl, sym, ap, ◌∙◌}
use Rattle.std.proofs.lemmas.Bool.{and_parts}
use Rattle.table_rules.proofs.Places.{name_is, name_self}
use Rattle.sql_tree.specs.Statement.{Program, Trigger, trigger}
use Rattle.sql_tree.specs.Statement.{Statement, create_table, create_function, create_procedure, create_trigger, drop_table, drop_function, drop_procedure, drop_trigger, truncate, insert_into, replace_into, update_rows, delete_rows, select, evaluate, set_all, call_procedure, begin, commit, rollback, savepoint, rollback_to, release_savepoint, block, if_steps, while_steps, return_value}
use Rattle.sql_tree.specs.declared.statements.Time.{Time}
use Rattle.sql_tree.specs.declared.statements.Cause.{Cause}
use Rattle.sql_tree.specs.declared.statements.Cause.TheVariants as causes
use Rattle.sql_reach.specs.catalog_rules.Names.{same_name}
use Rattle.sql_reach.specs.catalog_rules.Objects.{Object, table, function, procedure, reaction, name_of, function_in, trigger_for, waits_for, same_time, same_event}
use Rattle.sql_reach.specs.catalog_rules.Nodes.{a_statement, nodes_of}
use Rattle.sql_reach.specs.Reach.{causes_event, fires_trigger}
use Rattle.reach_laws.specs.Members.{In}

pub own_node : (s : Statement) → In (a_statement s) (nodes_of s)
own_node (create_table x) = inl refl
own_node (create_function x) = inl refl
own_node (create_procedure x) = inl refl
own_node (create_trigger x) = inl refl
own_node (drop_table x) = inl refl
own_node (drop_function x) = inl refl
own_node (drop_procedure x) = inl refl
own_node (drop_trigger x) = inl refl
own_node (truncate x) = inl refl
own_node (insert_into ignore t names supply sets) = inl refl
own_node (replace_into t names supply) = inl refl
own_node (update_rows t sets condition os limit) = inl refl
own_node (delete_rows t condition os limit) = inl refl
own_node (select q) = inl refl
own_node (evaluate ts) = inl refl
own_node (set_all as') = inl refl
own_node (call_procedure x ts) = inl refl
own_node begin = inl refl
own_node commit = inl refl
own_node rollback = inl refl
own_node (savepoint x) = inl refl
own_node (rollback_to x) = inl refl
own_node (release_savepoint x) = inl refl
own_node (block ds ss) = inl refl
own_node (if_steps bs o) = inl refl
own_node (while_steps c ss) = inl refl
own_node (return_value x) = inl refl

pub named_same : (a b : List ℕ) → same_name a b ≡ true → same_name b a ≡ true
named_same a b e = ap (same_name b) (name_is a b e) ∙ name_self b

pub function_is : (n : List ℕ) (p : Program) (os : List Object) → function_in os n ≡ Some p → In (function p) os × (same_name n (name_of p) ≡ true)
function_is n p [] e = cc
function_is n p (table d ∷ os) e = let r = function_is n p os e in (inr r.0, r.1)
function_is n p (procedure q ∷ os) e = let r = function_is n p os e in (inr r.0, r.1)
function_is n p (reaction t ∷ os) e = let r = function_is n p os e in (inr r.0, r.1)
function_is n p (function q ∷ os) e = by (same_name n (name_of q)) refl (function_is n p os) e
  where
    by : (b : Bool) → same_name n (name_of q) ≡ b → (function_in os n ≡ Some p → In (function p) os × (same_name n (name_of p) ≡ true))
        → elim (cond b (Some q) None) as (λ _. Option Program) [ None ↦ function_in os n | Some f ↦ Some f ] ≡ Some p → In (function p) (function q ∷ os) × (same_name n (name_of p) ≡ true)
    by true same later is = let it : q ≡ p = cc in (inl (ap function it), ap (λ (r : Program). same_name n (name_of r)) (sym it) ∙ same)
    by false same later is = let r = later is in (inr r.0, r.1)

pub trigger_is : (on : List ℕ) (time : Time) (event : Cause) (t : Trigger) (os : List Object) → trigger_for os on time event ≡ Some t → In (reaction t) os × (waits_for on time event t ≡ true)
trigger_is on time event t [] e = cc
trigger_is on time event t (table d ∷ os) e = let r = trigger_is on time event t os e in (inr r.0, r.1)
trigger_is on time event t (function q ∷ os) e = let r = trigger_is on time event t os e in (inr r.0, r.1)
trigger_is on time event t (procedure q ∷ os) e = let r = trigger_is on time event t os e in (inr r.0, r.1)
trigger_is on time event t (reaction q ∷ os) e = by (waits_for on time event q) refl (trigger_is on time event t os) e
  where
    by : (b : Bool) → waits_for on time event q ≡ b → (trigger_for os on time event ≡ Some t → In (reaction t) os × (waits_for on time event t ≡ true))
        → elim (cond b (Some q) None) as (λ _. Option Trigger) [ None ↦ trigger_for os on time event | Some f ↦ Some f ] ≡ Some t → In (reaction t) (reaction q ∷ os) × (waits_for on time event t ≡ true)
    by true same later is = let it : q ≡ t = cc in (inl (ap reaction it), ap (waits_for on time event) (sym it) ∙ same)
    by false same later is = let r = later is in (inr r.0, r.1)

event_is : (a b : Cause) → same_event a b ≡ true → a ≡ b
event_is causes.Insert causes.Insert e = refl
event_is causes.Insert causes.Update e = cc
event_is causes.Insert causes.Delete e = cc
event_is causes.Update causes.Insert e = cc
event_is causes.Update causes.Update e = refl
event_is causes.Update causes.Delete e = cc
event_is causes.Delete causes.Insert e = cc
event_is causes.Delete causes.Update e = cc
event_is causes.Delete causes.Delete e = refl

pub fired : (on : List ℕ) (time : Time) (event : Cause) (t : Trigger) (one : Statement) → waits_for on time event t ≡ true → causes_event on event one ≡ true → fires_trigger t (a_statement one) ≡ true
fired on time event (trigger n own_time own_event own_table body) one w e =
    let p = and_parts (same_name on own_table && same_time time own_time) (same_event event own_event) w in
    let q = and_parts (same_name on own_table) (same_time time own_time) p.0 in
    (λ i. causes_event (sym (name_is on own_table q.0) i) (sym (event_is event own_event p.1) i) one) ∙ e
