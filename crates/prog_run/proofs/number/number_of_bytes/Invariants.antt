use Rattle.std.proofs.Common.{◌≡◌, ◌<◌, ◌^◌, drop}
use Rattle.statement_names.specs.sql_reach.Defining.{number_of_bytes}
use Rattle.prog_run.proofs.number.number_of_bytes.Given as goal

-- the bytes behind go on from the number so far, which has no more digits than bytes were read
abbrev pub invariant-loop-byte : goal.invariant-loop-byte
invariant-loop-byte l = record {
  goes_on : number_of_bytes l.number (drop l.byte-index l.bytes) ≡ number_of_bytes 0 l.fn.bytes;
  fits : l.number < 256 ^ l.byte-index;
}
