use Rattle.std.proofs.Common.{◌≡◌, ◌++◌, map, take}
use Rattle.link_program.specs.declared.keys.FunctionKey.TheVariants as functions
use Rattle.sym_parts.proofs.listing.push_stubs.Given as goal

abbrev pub invariant-loop-name : goal.invariant-loop-name
invariant-loop-name l = l.keys.items ≡ l.fn.keys.items ++ map functions.Stub (take l.name-index l.names)
