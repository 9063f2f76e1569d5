use Rattle.std.proofs.Common.{◌≡◌, drop}
use Rattle.sym_parts.specs.Sought.{known}
use Rattle.sym_parts.specs.Data.{words_on}
use Rattle.sym_parts.proofs.segments.put_words.Given as goal

abbrev pub invariant-loop-named : goal.invariant-loop-named
invariant-loop-named l = words_on (known l.k) (drop l.named-index l.row) l.bytes ≡ words_on (known l.k) l.row l.fn.bytes
