-- Each statement that is read from a text of bytes is well.
use Rattle.std.proofs.Common.{ℕ, List, []}
use Rattle.std.proofs.lemmas.Bool.{and_from, le-leb}
use Rattle.std.specs.Prelude.{nat_le}
use Rattle.hex.specs.Hex.{IsBytes}
use Rattle.sql_tree.specs.Statement.{Statement}
use Rattle.sql_tree.specs.Depth.{depth_of}
use Rattle.sql_tree.specs.Well.{is_whole, IsWell}
use Rattle.sql_syntax.specs.Texts.{toks, limit_open, reads}
use Rattle.sql_text.proofs.GoodTokens.{tokens_good}
use Rattle.sql_text.proofs.GoodPrograms.{whole_well}

pub reading_is_well : (text : List ℕ) (s : Statement) → IsBytes text → reads text s → IsWell s
reading_is_well text s h r =
    let k = (whole_well limit_open).gives s (toks text r.0.0) [] (tokens_good text h r.0.0 r.0.1) r.0.2 in
    and_from (is_whole s) (nat_le (depth_of s) 200) k.0 (le-leb (depth_of s) 200 r.1)
