-- The rows that were last committed, what a commit leaves of what is shared, and changes behind a mark.
use Rattle.std.proofs.Common.{◌≡◌, ℕ, ◌+◌, ◌-◌, ◌<◌, ◌≤◌, List, [], ◌∷◌, length, drop, Bool, true, false, if◌then◌else◌, Option, None, unwrap_or, refl, sym, ap, ◌∙◌, arith}
use Rattle.std.specs.Prelude.{nat_lt}
use Rattle.std.proofs.lemmas.Bool.{ltb-true, ltb-false}
use Rattle.std.proofs.lemmas.List.{length-drop}
use Rattle.val_types.specs.declared.change.Change.{Change}
use Rattle.table_rules.specs.Tables.{Table}
use Rattle.table_rules.proofs.Equations.{applied_none}
use Rattle.prog_work.specs.catalog_objects.Keys.{objects_of}
use Rattle.prog_work.specs.Contents.{Contents, IsTogether, base_of, committed_tables}
use Rattle.session_model.specs.log_entries.declared.entries.Item.{Item}
use Rattle.session_model.specs.log_entries.declared.entries.Entry.{Entry}
use Rattle.session_model.specs.log_model.Log.{LogPlace, behind}
use Rattle.session_model.specs.Sessions.{Shared, tables_with}
use Rattle.session_model.specs.Running.{all_committed, is_other}
use Rattle.session_shared.specs.Desk.{has_any, own_behind, shared_by}

-- ---- the rows that were last committed

pub rows_stand : (c : Contents) → IsTogether c → tables_with c.changes (committed_tables c) ≡ c.tables
rows_stand c together = ap (λ o. unwrap_or o (committed_tables c)) together.made

-- ---- a commit

pub committed_now : (old new : Contents) (writer : Option ℕ) (count next : ℕ) (place later : LogPlace) (e : Entry Item) → IsTogether old → new ≡ record old { changes = [] } → next ≡ count + 1 → later ≡ behind e count place
    → shared_by new writer next later ≡ all_committed e (shared_by old writer count place)
committed_now old new writer count next place later e together is more moved =
    ap (λ (c : Contents). shared_by c writer next later) is
    ∙ ap (λ (k : ℕ). shared_by (record old { changes = [] }) writer k later) more
    ∙ ap (λ (p : LogPlace). shared_by (record old { changes = [] }) writer (count + 1) p) moved
    ∙ ap (λ (ts : List Table). record { base = record { catalog = objects_of old.objects; tables = ts }; counters = old.counters; changes = []; writer = writer; committed = count + 1; place = behind e count place })
    (ap (λ o. unwrap_or o old.tables) (applied_none old.tables) ∙ sym (rows_stand old together))

-- ---- what a store has

pub found_shared : (work : Contents) (writer : Option ℕ) (committed : ℕ) (place : LogPlace) → work.changes ≡ [] → writer ≡ None
    → shared_by work writer committed place ≡ record { base = base_of work; counters = work.counters; changes = []; writer = None; committed = committed; place = place }
found_shared work writer committed place none free =
    ap (λ (cs : List Change). shared_by (record work { changes = cs }) writer committed place) none
    ∙ ap (λ (w : Option ℕ). shared_by (record work { changes = [] }) w committed place) free
    ∙ ap (λ (ts : List Table). record { base = record { catalog = objects_of work.objects; tables = ts }; counters = work.counters; changes = []; writer = None; committed = committed; place = place })
    (ap (λ o. unwrap_or o work.tables) (applied_none work.tables))

-- ---- changes behind a mark

any_some : (cs : List Change) → 0 < length cs → has_any cs ≡ true
any_some [] some = absurd (omega (arith, some))
any_some (c ∷ cs) some = refl

any_none : (cs : List Change) → length cs ≤ 0 → has_any cs ≡ false
any_none [] none = refl
any_none (c ∷ cs) none = absurd (omega (arith, none))

any_by : (b : Bool) (k : ℕ) (cs : List Change) → nat_lt k (length cs) ≡ b → b ≡ has_any (drop k cs)
any_by true k cs e =
    let few : k < length cs = ltb-true k (length cs) e in
    let rest : length (drop k cs) ≡ length cs - k = length-drop k cs in
    sym (any_some (drop k cs) (omega (arith, few, rest)))
any_by false k cs e =
    let all : length cs ≤ k = ltb-false k (length cs) e in
    let rest : length (drop k cs) ≡ length cs - k = length-drop k cs in
    sym (any_none (drop k cs) (omega (arith, all, rest)))

pub changed_behind : (n mark count : ℕ) (other : Bool) (shared : Shared) → other ≡ is_other n shared.writer → other ≡ false → count ≡ length shared.changes → nat_lt mark count ≡ has_any (own_behind n mark shared)
changed_behind n mark count other shared is own at =
    ap (nat_lt mark) at ∙ any_by (nat_lt mark (length shared.changes)) mark shared.changes refl
    ∙ ap (λ (b : Bool). has_any (if b then [] else drop mark shared.changes)) (sym own ∙ is)
