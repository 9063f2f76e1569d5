use Rattle.std.proofs.Common.{◌≡◌, ◌++◌, map, take}
use Rattle.link_keys.specs.link_program.declared.keys.GlobalKey.TheVariants as globals
use Rattle.shared_keys.proofs.globals.push_imports.Given as goal

abbrev pub invariant-loop-number : goal.invariant-loop-number
invariant-loop-number l = l.keys.items ≡ l.fn.keys.items ++ map globals.Import (take l.number-index l.numbers)
