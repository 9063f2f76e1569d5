use Rattle.std.proofs.Common.{◌≡◌, ◌++◌, map, take, drop}
use Rattle.wasm_exec.specs.Entries.{long_import}
use Rattle.wasm_exec.proofs.table.lengthen.Given as goal

-- what is changed, and what will be of what is left, is the whole
abbrev pub invariant-loop-k : goal.invariant-loop-k
invariant-loop-k l = take l.k l.imports ++ map (long_import l.entries) (drop l.k l.imports) ≡ map (long_import l.entries) l.initial.imports
