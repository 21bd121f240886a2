use Rattle.std.proofs.Common.{◌≡◌, ℕ, List, Option, None, sym, ap, ◌∙◌}
use Rattle.std.specs.Prelude.{slice_index_or, slice_get, unwrap_or}
use Rattle.std.specs.Option.{option_copied}
use Rattle.std.specs.Borrow.{Bor}
use Rattle.std.proofs.lemmas.Option.{unwrap_or-slice_get}
use Rattle.val_types.specs.declared.value.Value.{Value}
use Rattle.val_types.proofs.keys.value_at.Goals as goal

-- past the end stands the other value
missing : (row : List Value) (column : ℕ) (other : Value) (found : Option (Bor Value)) → option_copied found ≡ slice_get row column → found ≡ None → other ≡ slice_index_or row column other
missing row column other found at_column is_none =
    ap (λ (o : Option Value). unwrap_or o other) (sym (ap option_copied is_none) ∙ at_column) ∙ unwrap_or-slice_get row column other

pub returns-in-None : goal.returns-in-None
returns-in-None c = missing c.args.row.now c.args.column c.args.missing.now c.get.result (rw c.from.ensures at c.get.ensures.value) c.in-None.is
