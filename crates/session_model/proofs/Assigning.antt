-- Assignments: a session owns what it owned, since a format is set outside transactions alone; and a node assigns what a whole run does.
use Rattle.std.proofs.Common.{◌≡◌, ℕ, Bool, true, false, List, [], ◌∷◌, Option, Some, None, Result, Ok, Err, refl, ◌∙◌, ap, cond}
use Rattle.std.specs.Prelude.{is_some}
use Rattle.std.specs.Option.{option_map}
use Rattle.val_types.specs.declared.value.Value.{Value}
use Rattle.session_ctx.specs.catalog_rules.Bodies.{format_name}
use Rattle.session_ctx.specs.catalog_rules.Names.{same_name}
use Rattle.binlog_sizes.specs.log_entries.declared.entries.Item.{Item}
use Rattle.session_ctx.specs.Variables.{assigned, fitting, setting}
use Rattle.sql_tree.specs.declared.statements.Target.{Target}
use Rattle.session_model.specs.Commands.{all_assigned, assign, assignment_refusal, first_refused, is_open, refusal_of, variable_refusal, with_format, with_setting, with_vars}
use Rattle.session_model.specs.Formats.{format_for, format_refusal}
use Rattle.session_model.specs.Holding.{Owns}
use Rattle.session_model.specs.Machine.{Whole, kept_of, open_by, session_by}
use Rattle.session_model.specs.Sessions.{Open, Session, Shared}
use Rattle.session_model.specs.declared.format.Format.{Format}

-- ---- the transaction stays

format_keeps : (r : Result Format ℕ) (session : Session Whole) → (with_format r session).transaction ≡ session.transaction
format_keeps (Ok format) session = refl
format_keeps (Err code) session = refl

setting_keeps : (name : List ℕ) (v : Value) (session : Session Whole) → (with_setting name v session).transaction ≡ session.transaction
setting_keeps name v session = by (same_name name format_name)
  where
    by : (b : Bool) → (cond b (with_format (format_for v) session) (with_vars (assigned (setting name v) session.vars) session)).transaction ≡ session.transaction
    by true = format_keeps (format_for v) session
    by false = refl

assign_keeps : (session : Session Whole) (target : Target) (v : Value) → (assign session (target, v)).transaction ≡ session.transaction
assign_keeps session (Target.User name) v = refl
assign_keeps session (Target.Plain name) v = setting_keeps name v session
assign_keeps session (Target.System name) v = setting_keeps name v session
assign_keeps session (Target.New column) v = refl

pub all_keep : (as' : List (Target × Value)) (session : Session Whole) → (all_assigned session as').transaction ≡ session.transaction
all_keep [] session = refl
all_keep (a ∷ as') session = all_keep as' (assign session a) ∙ assign_keeps session a.0 a.1

-- ---- what a session owns

module _ (n : ℕ) (shared : Shared) where
  abbrev Its : Session Whole → Type 0
  Its session = Owns n shared session.format session.transaction

  -- outside a transaction it has no item, whatever the format
  format_owned : (old new : Format) (t : Option (Open Whole)) → cond {A = Option ℕ} (is_some t) (Some 30006) None ≡ None → Owns n shared old t → Owns n shared new t
  format_owned old new None e o = record { own = o.own; none = o.none; saves = o.saves; one = o.one; formats = tt }
  format_owned old new (Some open') e o = cc

  with_format_owned : (r : Result Format ℕ) (session : Session Whole) → format_refusal (is_open session) r ≡ None → Its session → Its (with_format r session)
  with_format_owned (Err code) session e o = o
  with_format_owned (Ok format) session e o = format_owned session.format format session.transaction e o

  setting_owned : (name : List ℕ) (v : Value) (session : Session Whole) → variable_refusal (is_open session) name v ≡ None → Its session → Its (with_setting name v session)
  setting_owned name v session e o = by (same_name name format_name) e
    where
      by : (b : Bool) → cond b (format_refusal (is_open session) (format_for v)) (refusal_of (fitting (setting name v))) ≡ None
          → Its (cond b (with_format (format_for v) session) (with_vars (assigned (setting name v) session.vars) session))
      by true e = with_format_owned (format_for v) session e o
      by false e = o

  assign_owned : (session : Session Whole) (target : Target) (v : Value) → assignment_refusal (is_open session) (target, v) ≡ None → Its session → Its (assign session (target, v))
  assign_owned session (Target.User name) v e o = o
  assign_owned session (Target.Plain name) v e o = setting_owned name v session e o
  assign_owned session (Target.System name) v e o = setting_owned name v session e o
  assign_owned session (Target.New column) v e o = o

  pub all_owned : (as' : List (Target × Value)) (session : Session Whole) → first_refused (is_open session) as' ≡ None → Its session → Its (all_assigned session as')
  all_owned [] session e o = o
  all_owned (a ∷ as') session e o = by (assignment_refusal (is_open session) a) refl e (all_owned as' (assign session a))
    where
      by : (r : Option ℕ) → assignment_refusal (is_open session) a ≡ r → elim r as (λ _. Option ℕ) [ None ↦ first_refused (is_open session) as' | Some code ↦ Some code ] ≡ None
          → (first_refused (is_open (assign session a)) as' ≡ None → Its (assign session a) → Its (all_assigned (assign session a) as')) → Its (all_assigned (assign session a) as')
      by None q rest more = more (ap (λ (t : Option (Open Whole)). first_refused (is_some t) as') (assign_keeps session a.0 a.1) ∙ rest) (assign_owned session a.0 a.1 q o)
      by (Some code) q rest more = cc

-- ---- what a node assigns

abbrev as_kept : Session Whole → Session Item
as_kept session = session_by kept_of session

pub open_same : (t : Option (Open Whole)) → is_some (option_map (open_by kept_of) t) ≡ is_some t
open_same None = refl
open_same (Some open') = refl

format_by : (r : Result Format ℕ) (session : Session Whole) → with_format r (as_kept session) ≡ as_kept (with_format r session)
format_by (Ok format) session = refl
format_by (Err code) session = refl

setting_by : (name : List ℕ) (v : Value) (session : Session Whole) → with_setting name v (as_kept session) ≡ as_kept (with_setting name v session)
setting_by name v session = by (same_name name format_name)
  where
    by : (b : Bool) → cond b (with_format (format_for v) (as_kept session)) (with_vars (assigned (setting name v) session.vars) (as_kept session))
        ≡ as_kept (cond b (with_format (format_for v) session) (with_vars (assigned (setting name v) session.vars) session))
    by true = format_by (format_for v) session
    by false = refl

assign_by : (session : Session Whole) (target : Target) (v : Value) → assign (as_kept session) (target, v) ≡ as_kept (assign session (target, v))
assign_by session (Target.User name) v = refl
assign_by session (Target.Plain name) v = setting_by name v session
assign_by session (Target.System name) v = setting_by name v session
assign_by session (Target.New column) v = refl

pub all_assigned_by : (as' : List (Target × Value)) (session : Session Whole) → all_assigned (as_kept session) as' ≡ as_kept (all_assigned session as')
all_assigned_by [] session = refl
all_assigned_by (a ∷ as') session = ap (λ (s : Session Item). all_assigned s as') (assign_by session a.0 a.1) ∙ all_assigned_by as' (assign session a)
