-- The places of instructions don't count in a run.
use Rattle.std.proofs.Common.{◌≡◌, ℕ, List, [], ◌∷◌, ◌++◌, map, refl, ap, ◌∙◌, arith}
use Rattle.std.specs.Prelude.{slice_get}
use Rattle.wasm_types.specs.declared.function.FuncType.{FuncType}
use Rattle.wasm_instr.specs.declared.instr.Instr.{Instr}
use Rattle.wasm_instr.specs.declared.body.LocalRun.{LocalRun}
use Rattle.wasm_instr.specs.declared.body.Body.{Body}
use Rattle.wasm_module.specs.Modules.{placeless}
use Rattle.run_rules.specs.declared.op.Op.{Op}
use Rattle.run_rules.specs.declared.world.Source.{Source}
use Rattle.run_rules.specs.declared.world.Source.TheVariants.{Code}
use Rattle.run_rules.specs.declared.session.Session.{Session}
use Rattle.run_rules.specs.Ops.{op_of}
use Rattle.run_rules.specs.Runs.{trace_of}
use Rattle.run_rules.specs.Modules.{coded, typed, imported_functions, defined_functions, module_cells, module_world, module_start, module_trace}
use Rattle.image_emit.specs.Bytes.{Tree}
use Rattle.image_emit.specs.Spelled.{module_with}

abbrev source_of : (Instr → Op) → List LocalRun × List Instr → Source
source_of op b = Code b.0 (map op b.1)

same_defined : (op : Instr → Op) (types : List FuncType) (ns : List ℕ) (bs cs : List Body) → map placeless bs ≡ map placeless cs → defined_functions op types ns bs ≡ defined_functions op types ns cs
same_defined op types [] bs cs e = refl
same_defined op types (n ∷ ns) [] [] e = refl
same_defined op types (n ∷ ns) [] (c ∷ cs) e = absurd (grind arith)
same_defined op types (n ∷ ns) (b ∷ bs) [] e = absurd (grind arith)
same_defined op types (n ∷ ns) (b ∷ bs) (c ∷ cs) e =
    let h : placeless b ≡ placeless c = grind arith in
    let t : map placeless bs ≡ map placeless cs = grind arith in
    ap (λ p. typed (source_of op p) (slice_get types n) ∷ defined_functions op types ns bs) h
    ∙ ap (λ fs. typed (coded op c) (slice_get types n) ∷ fs) (same_defined op types ns bs cs t)

-- modules that are the same but for places have the same traces
pub same_trace : (s : Session) (t : Tree) (bs cs : List Body) (n : ℕ) → map placeless bs ≡ map placeless cs → module_trace s (module_with bs t) n ≡ module_trace s (module_with cs t) n
unfolding module_trace module_world module_start
same_trace s t bs cs n e =
    ap (λ fs. trace_of (record (module_world s (module_with bs t)) { functions = imported_functions t.types t.imports ++ fs }) s (module_start s (module_with bs t)) n)
    (same_defined (op_of t.types (module_cells (module_with bs t))) t.types t.functions bs cs e)
