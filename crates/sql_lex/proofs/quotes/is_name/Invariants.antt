use Rattle.std.proofs.Common.{◌≡◌, ◌+◌, ◌≤◌, drop, length}
use Rattle.std.specs.List.{list_all}
use Rattle.sql_lex.specs.Quotes.{meant_from, meant, is_printable}
use Rattle.sql_lex.proofs.quotes.is_name.Given as goal

abbrev pub invariant-loop-byte : goal.invariant-loop-byte
invariant-loop-byte l = record {
  in_range : l.count ≤ l.byte-index;
  counted : l.count + length (meant_from 96 l.held (drop l.byte-index l.text)) ≡ length (meant 96 l.text);
  printable : list_all is_printable (meant_from 96 l.held (drop l.byte-index l.text)) ≡ list_all is_printable (meant 96 l.text);
}
