-- The base and the lock behind the end of a transaction, and where changes are dropped.
use Rattle.std.proofs.Common.{◌≡◌, ℕ, Bool, true, false, List, [], ◌∷◌, take, None, refl, sym, ◌∙◌, cond}
use Rattle.name_const_laws.specs.sql_meaning.Frames.{Context}
use Rattle.session_model.specs.Sessions.{Save, Shared}
use Rattle.session_model.specs.Running.{Call, is_other, released, commit_shared}
use Rattle.session_model.specs.Commands.{dropped, changes_cut}
use Rattle.session_model.specs.Machine.{Whole}

-- a lock that is given back leaves the base
pub released_base : (n : ℕ) (shared : Shared) → (released n shared).base ≡ shared.base
released_base n shared = by (is_other n shared.writer)
  where
    by : (b : Bool) → (cond b shared (record shared { writer = None })).base ≡ shared.base
    by true = refl
    by false = refl

-- where no other session has it after, none had it before
released_other : (n : ℕ) (shared : Shared) → is_other n (released n shared).writer ≡ false → is_other n shared.writer ≡ false
released_other n shared e = by (is_other n shared.writer) refl e
  where
    by : (b : Bool) → is_other n shared.writer ≡ b → is_other n (cond b shared (record shared { writer = None })).writer ≡ false → b ≡ false
    by true q p = sym q ∙ p
    by false q p = refl

pub commit_other : (call : Call Whole) (context : Context) (shared : Shared) (is : List Whole) → is_other call.number (released call.number (commit_shared call context is shared)).writer ≡ false
    → is_other call.number shared.writer ≡ false
commit_other call context shared [] e = released_other call.number shared e
commit_other call context shared (i ∷ is) e = released_other call.number (commit_shared call context (i ∷ is) shared) e

pub dropped_base : (n : ℕ) (shared : Shared) → (dropped n shared).base ≡ shared.base
dropped_base n shared = by (is_other n shared.writer)
  where
    by : (b : Bool) → (cond b shared (record shared { changes = []; writer = None })).base ≡ shared.base
    by true = refl
    by false = refl

pub cut_base : (n : ℕ) (save : Save) (shared : Shared) → (changes_cut n save shared).base ≡ shared.base
cut_base n save shared = by (is_other n shared.writer)
  where
    by : (b : Bool) → (cond b shared (record shared { changes = take save.changes shared.changes })).base ≡ shared.base
    by true = refl
    by false = refl
