use Rattle.std.proofs.Common.{◌≡◌, drop}
use Rattle.run_rules.specs.Modules.{first, imported_memories}
use Rattle.run_modules.proofs.imported.imported_memory.Given as goal

abbrev pub invariant-loop-import : goal.invariant-loop-import
invariant-loop-import l = first (imported_memories (drop l.import-index l.imports)) ≡ first (imported_memories l.imports)
