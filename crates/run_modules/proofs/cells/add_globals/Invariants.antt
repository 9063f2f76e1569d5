use Rattle.std.proofs.Common.{◌≡◌, ◌++◌, drop, map}
use Rattle.wasm_module.specs.declared.parts.ModuleGlobal.{ModuleGlobal}
use Rattle.run_rules.specs.Modules.{expr_value}
use Rattle.run_modules.proofs.cells.add_globals.Given as goal

abbrev pub invariant-loop-global : goal.invariant-loop-global
invariant-loop-global l = l.cells ++ map (λ (g : ModuleGlobal). expr_value l.firsts g.value) (drop l.global-index l.globals) ≡ l.fn.cells ++ map (λ (g : ModuleGlobal). expr_value l.firsts g.value) l.globals
