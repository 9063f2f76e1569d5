use Rattle.std.proofs.Common.{◌≡◌, ◌<◌, ◌^◌, take}
use Rattle.lib_index.specs.Archive.{decimal}
use Rattle.lib_index.proofs.header.decimal.Given as goal

abbrev pub invariant-loop-digit : goal.invariant-loop-digit
invariant-loop-digit l = record {
  value : l.number ≡ decimal (take l.digit-index l.digits);
  small : l.number < 10 ^ l.digit-index;
}
