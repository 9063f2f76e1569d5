use Rattle.std.proofs.Common.{take}
use Rattle.loose_calls.specs.Interned.{Stays}
use Rattle.loose_calls.proofs.Behind.{Now}
use Rattle.loose_calls.proofs.interning.intern_all.Given as goal

abbrev pub invariant-loop-variant : goal.invariant-loop-variant
invariant-loop-variant l = record {
  stands : Now l.initial.names.names l.variants (take l.variant-index l.variants) l.names.names l.interned;
  stays : Stays l.initial.names l.names;
}
