use Rattle.std.proofs.Common.{◌≡◌, map, drop, fold}
use Rattle.partial_open.specs.Named.{function_symbols, kept_lists, marked}
use Rattle.partial_open.proofs.flags.mark_functions.Given as goal

abbrev pub invariant-loop-index : goal.invariant-loop-index
invariant-loop-index l = fold marked l.flags (kept_lists l.dropped l.index (drop l.index (map function_symbols l.from.functions))) ≡ fold marked l.fn.flags (kept_lists l.dropped 0 (map function_symbols l.from.functions))
