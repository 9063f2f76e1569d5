-- The places of instructions don't count in a run.
use Rattle.std.proofs.Common.{◌≡◌, ℕ, List, [], ◌∷◌, ◌++◌, map, replicate, Option, Some, None, refl, sym, ap, ◌∙◌, subst, arith}
use Rattle.std.specs.Prelude.{slice_get, option_map}
use Rattle.wasm_types.specs.declared.function.FuncType.{FuncType}
use Rattle.wasm_instr.specs.declared.instr.Instr.{Instr}
use Rattle.wasm_instr.specs.declared.body.LocalRun.{LocalRun}
use Rattle.wasm_instr.specs.declared.body.Body.{Body}
use Rattle.wasm_module.specs.declared.structure.Module.{Module}
use Rattle.wasm_module.specs.Modules.{placeless}
use Rattle.run_rules.specs.declared.op.Op.{Op}
use Rattle.run_rules.specs.declared.world.Source.{Source}
use Rattle.run_rules.specs.declared.world.Source.TheVariants.{Code}
use Rattle.run_rules.specs.Ops.{op_of}
use Rattle.run_rules.specs.Runs.{trace_of}
use Rattle.run_rules.specs.Modules.{coded, typed, imported_functions, defined_functions, module_cells, module_world, module_start}
use Rattle.shared_worlds.specs.Placing.{Placing, placed_world, placed_trace}
use Rattle.shared_runs.specs.Links.{PlacesDoNotCount}

abbrev source_of : (Instr → Op) → List LocalRun × List Instr → Source
source_of op b = Code b.0 (map op b.1)

same_defined : (op : Instr → Op) (types : List FuncType) (ns : List ℕ) (bs cs : List Body) → map placeless bs ≡ map placeless cs → defined_functions op types ns bs ≡ defined_functions op types ns cs
same_defined op types [] bs cs e = refl
same_defined op types (n ∷ ns) [] [] e = refl
same_defined op types (n ∷ ns) [] (c ∷ cs) e = absurd (grind arith)
same_defined op types (n ∷ ns) (b ∷ bs) [] e = absurd (grind arith)
same_defined op types (n ∷ ns) (b ∷ bs) (c ∷ cs) e =
    let h : placeless b ≡ placeless c = grind arith in
    let t : map placeless bs ≡ map placeless cs = grind arith in
    ap (λ p. typed (source_of op p) (slice_get types n) ∷ defined_functions op types ns bs) h
    ∙ ap (λ fs. typed (coded op c) (slice_get types n) ∷ fs) (same_defined op types ns bs cs t)

-- a module with other bodies, which differ in places alone
same_bodies : (x : Placing) (m : Module) (bs : List Body) (n : ℕ) → map placeless bs ≡ map placeless m.bodies → placed_trace x (record m { bodies = bs }) n ≡ placed_trace x m n
unfolding placed_trace placed_world module_world module_start
same_bodies x m bs n e =
    ap (λ fs. trace_of (record (placed_world x m) { functions = imported_functions m.types m.imports ++ fs }) x.session (module_start x.session m) n)
    (same_defined (op_of m.types (module_cells m)) m.types m.functions bs m.bodies e)

pub same_placed : PlacesDoNotCount
same_placed x m other n s = ap (λ o. placed_trace x o n) s.rest ∙ same_bodies x m other.bodies n s.bodies
