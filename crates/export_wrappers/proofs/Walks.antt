-- What reading a module gives, step by step.
use Rattle.std.proofs.Common.{◌≡◌, ℕ, true, List, [], ◌∷◌, length, Result, Ok, Err, refl, subst, eqb}
use Rattle.std.specs.Prelude.{None, ◌&&◌}
use Rattle.wasm_module.specs.wasm_instr.wasm_grammar.declared.fault.Stop.{Stop}
use Rattle.wasm_module.specs.wasm_instr.wasm_grammar.declared.fault.Stop.TheVariants.{Broken}
use Rattle.wasm_module.specs.wasm_instr.wasm_grammar.Reading.{◌>>=◌, u32_at, vector_at, none_at}
use Rattle.wasm_module.specs.wasm_instr.wasm_grammar.ReaderLaws.{cond_ok, never}
use Rattle.wasm_module.specs.wasm_instr.wasm_types.Types.{func_type_at, import_at, table_type_at, limits_at}
use Rattle.wasm_module.specs.wasm_sections.Sections.{header}
use Rattle.wasm_module.specs.declared.structure.Module.{Module}
use Rattle.wasm_module.specs.PartReading.{global_at, export_at, element_at, data_segment_at}
use Rattle.wasm_module.specs.Sections.{customs_at, next_at, given_at}
use Rattle.wasm_module.specs.ModuleReading.{code_at, behind, is_count, module_at}

pub record Walk (end : ℕ) (bytes : List ℕ) (m : Module) : Type 0 where
  pub start : List ℕ
  pub first : List ℕ
  pub r1 : List ℕ
  pub r2 : List ℕ
  pub r3 : List ℕ
  pub r4 : List ℕ
  pub r5 : List ℕ
  pub r6 : List ℕ
  pub r7 : List ℕ
  pub r9 : List ℕ
  pub r12 : List ℕ
  pub r10 : List ℕ
  pub r11 : List ℕ
  pub head : behind end header bytes ≡ Ok start
  pub customs : customs_at (length start) end start ≡ Ok first
  pub types : next_at 1 [] (vector_at func_type_at) end first ≡ Ok (m.types, r1)
  pub imports : next_at 2 [] (vector_at import_at) end r1 ≡ Ok (m.imports, r2)
  pub functions : next_at 3 [] (vector_at u32_at) end r2 ≡ Ok (m.functions, r3)
  pub tables : next_at 4 [] (vector_at table_type_at) end r3 ≡ Ok (m.tables, r4)
  pub memories : next_at 5 [] (vector_at limits_at) end r4 ≡ Ok (m.memories, r5)
  pub globals : next_at 6 [] (vector_at (global_at true)) end r5 ≡ Ok (m.globals, r6)
  pub exports : next_at 7 [] (vector_at export_at) end r6 ≡ Ok (m.exports, r7)
  pub elements : next_at 9 [] (vector_at (element_at true)) end r7 ≡ Ok (m.elements, r9)
  pub data_count : next_at 12 None given_at end r9 ≡ Ok (m.data_count, r12)
  pub bodies : next_at 10 [] (vector_at code_at) end r12 ≡ Ok (m.bodies, r10)
  pub segments : next_at 11 [] (vector_at (data_segment_at true)) end r10 ≡ Ok (m.data_segments, r11)
  pub nothing : r11 ≡ []

-- a step, and what follows it
pub step : {A B P : Type 0} (r : Result A Stop) (f : A → Result B Stop) (y : B) → ((x : A) → r ≡ Ok x → f x ≡ Ok y → P) → (r >>= f) ≡ Ok y → P
step (Ok x) f y then e = then x refl e
step (Err d) f y then e = absurd cc

ended_nil : (end : ℕ) (rest : List ℕ) (x : Unit {0}) → none_at end rest ≡ Ok x → rest ≡ []
ended_nil end [] x e = refl
ended_nil end (b ∷ rest) x e = never _ x e

pub walked : (end : ℕ) (bytes : List ℕ) (m : Module) → module_at end bytes ≡ Ok m → Walk end bytes m
unfolding module_at
walked end bytes m =
    step (behind end header bytes) _ m (λ start h.
    step (customs_at (length start) end start) _ m (λ rest c.
    step (next_at 1 [] (vector_at func_type_at) end rest) _ m (λ types types_is.
    step (next_at 2 [] (vector_at import_at) end types.1) _ m (λ imports imports_is.
    step (next_at 3 [] (vector_at u32_at) end imports.1) _ m (λ functions functions_is.
    step (next_at 4 [] (vector_at table_type_at) end functions.1) _ m (λ tables tables_is.
    step (next_at 5 [] (vector_at limits_at) end tables.1) _ m (λ memories memories_is.
    step (next_at 6 [] (vector_at (global_at true)) end memories.1) _ m (λ globals globals_is.
    step (next_at 7 [] (vector_at export_at) end globals.1) _ m (λ exports exports_is.
    step (next_at 9 [] (vector_at (element_at true)) end exports.1) _ m (λ elements elements_is.
    step (next_at 12 None given_at end elements.1) _ m (λ count count_is.
    step (next_at 10 [] (vector_at code_at) end count.1) _ m (λ bodies bodies_is.
    step (next_at 11 [] (vector_at (data_segment_at true)) end bodies.1) _ m (λ segments segments_is.
    step (none_at end segments.1) _ m (λ nothing none done.
    let both = cond_ok (eqb (length functions.0) (length bodies.0) && is_count count.0 (length segments.0)) (Broken end) _ m done in
    subst (λ (x : Module). Walk end bytes x) both.1 (record {
      start = start;
      first = rest;
      r1 = types.1;
      r2 = imports.1;
      r3 = functions.1;
      r4 = tables.1;
      r5 = memories.1;
      r6 = globals.1;
      r7 = exports.1;
      r9 = elements.1;
      r12 = count.1;
      r10 = bodies.1;
      r11 = segments.1;
      head = h;
      customs = c;
      types = types_is;
      imports = imports_is;
      functions = functions_is;
      tables = tables_is;
      memories = memories_is;
      globals = globals_is;
      exports = exports_is;
      elements = elements_is;
      data_count = count_is;
      bodies = bodies_is;
      segments = segments_is;
      nothing = ended_nil end segments.1 nothing none;
    })))))))))))))))
