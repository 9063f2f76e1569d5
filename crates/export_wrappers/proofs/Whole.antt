-- What was written of a cut module is the wrapped one.
use Rattle.std.proofs.Common.{◌≡◌, ℕ, ◌+◌, ◌<◌, ◌^◌, List, [], ◌++◌, length, refl, sym, ap, subst, ◌∙◌, Option, Ok, Result}
use Rattle.std.specs.Prelude.{map, filter_map}
use Rattle.std.proofs.lemmas.List.{length-append, length-map}
use Rattle.wasm_module.specs.wasm_instr.wasm_grammar.declared.fault.Stop.{Stop}
use Rattle.wasm_module.specs.wasm_instr.wasm_types.declared.function.FuncType.{FuncType}
use Rattle.wasm_module.specs.wasm_instr.wasm_types.declared.import.Import.{Import}
use Rattle.wasm_module.specs.wasm_instr.wasm_grammar.Grammar.{SpellsU32, SpellsMany}
use Rattle.wasm_module.specs.wasm_instr.wasm_grammar.Writers.{HasSpelling}
use Rattle.wasm_module.specs.wasm_instr.declared.body.Body.{Body}
use Rattle.wasm_module.specs.declared.structure.Module.{Module}
use Rattle.wasm_module.specs.declared.parts.Export.{Export}
use Rattle.wasm_module.specs.Parts.{SpellsExport}
use Rattle.wasm_module.specs.ModuleReading.{module_of}
use Rattle.wasm_module.proofs.ModuleLaws.{module_again}
use Rattle.export_wrappers.specs.declared.wrapper.Wrapper.{Wrapper}
use Rattle.export_wrappers.specs.declared.wrapper.Asked.{Asked}
use Rattle.export_wrappers.specs.Wrapped.{dtors_name, function_named, imported, wrapper_in, last_after, exports_from, body_of, wrapped_by}
use Rattle.export_wrappers.specs.Cuts.{Cut}
use Rattle.export_wrappers.specs.Written.{Puts, SpellsCode, Spliced, changed, IsCut}
use Rattle.export_wrappers.proofs.Spelled.{functions_spelled, exports_spelled}

-- functions and exports as the code makes them of a cut
abbrev pub wrap_in : Cut → Export → Option Wrapper
wrap_in c = wrapper_in c.types (imported c.imports) c.functions

abbrev pub added_in : Cut → List Wrapper
added_in c = filter_map (wrap_in c) c.exports

abbrev pub functions_in : Cut → List ℕ
functions_in c = c.functions ++ map (λ (w : Wrapper). w.kind) (added_in c)

abbrev pub exports_in : Asked → Cut → List Export
exports_in asked c = exports_from asked (wrap_in c) (imported c.imports + length c.functions) c.exports

-- what `put_module` says of what it wrote
abbrev pub Wrote : Cut → ℕ → List ℕ → List Export → List Wrapper → Option ℕ → List ℕ → List ℕ → Type 0
Wrote c ctors fs es ws dtors old out =
    (bs : List Body) → length bs ≡ c.kept.count → SpellsMany SpellsCode bs c.kept.bodies → HasSpelling (SpellsMany SpellsU32 fs) → HasSpelling (SpellsMany SpellsExport es)
    → Puts (Spliced c.kept fs es (bs ++ map (body_of ctors dtors) ws)) old out

abbrev pub Written : Asked → Cut → ℕ → List ℕ → Type 0
Written asked c ctors out = Wrote c ctors (functions_in c) (exports_in asked c) (added_in c) (function_named dtors_name c.exports) [] out

pub written_as : (asked : Asked) (c : Cut) (ctors : ℕ) (fs : List ℕ) (es : List Export) (ws : List Wrapper) (dtors : Option ℕ) (old out : List ℕ)
    → fs ≡ functions_in c → es ≡ exports_in asked c → ws ≡ added_in c → dtors ≡ function_named dtors_name c.exports → old ≡ [] → Wrote c ctors fs es ws dtors old out → Written asked c ctors out
written_as asked c ctors fs es ws dtors old out p q r s t w =
    let last = function_named dtors_name c.exports in
    subst (λ (x : List ℕ). Wrote c ctors x (exports_in asked c) (added_in c) last [] out) p
    (subst (λ (x : List Export). Wrote c ctors fs x (added_in c) last [] out) q
    (subst (λ (x : List Wrapper). Wrote c ctors fs es x last [] out) r
    (subst (λ (x : Option ℕ). Wrote c ctors fs es ws x [] out) s
    (subst (λ (x : List ℕ). Wrote c ctors fs es ws dtors x out) t w))))

-- a cut by its fields
fields : (c : Cut) (types : List FuncType) (imports : List Import) (functions : List ℕ) (exports : List Export) → c.types ≡ types → c.imports ≡ imports → c.functions ≡ functions → c.exports ≡ exports
    → ◌≡◌ {A = Cut} c (record { types = types; imports = imports; functions = functions; exports = exports; kept = c.kept })
fields c types imports functions exports p q r s = rw (sym p, sym q, sym r, sym s) refl

same_cut : (m : Module) (c : Cut) → IsCut m c → ◌≡◌ {A = Cut} c (record { types = m.types; imports = m.imports; functions = m.functions; exports = m.exports; kept = c.kept })
same_cut m c is = fields c m.types m.imports m.functions m.exports is.types is.imports is.functions is.exports

long : (xs : List ℕ) (ys : List Body) (ws : List Wrapper) (f : Wrapper → Body) → length xs ≡ length ys → length (xs ++ map (λ (w : Wrapper). w.kind) ws) ≡ length (ys ++ map f ws)
long xs ys ws f e =
    length-append xs (map (λ (w : Wrapper). w.kind) ws) ∙ ap (λ n. length xs + n) (length-map ws (λ (w : Wrapper). w.kind)) ∙ ap (λ n. n + length ws) e
    ∙ sym (length-append ys (map f ws) ∙ ap (λ n. length ys + n) (length-map ws f))

-- where the cut is of these very fields
finished : (asked : Asked) (m : Module) (c : Cut) (ctors : ℕ) (out : List ℕ) → IsCut m c → Written asked c ctors out → last_after (wrap_in c) (imported c.imports + length c.functions) c.exports < 2 ^ 32
    → module_of out ≡ Ok (changed m (functions_in c) (exports_in asked c) (m.bodies ++ map (body_of ctors (function_named dtors_name c.exports)) (added_in c)))
finished asked m c ctors out is written fits =
    let numbers : HasSpelling (SpellsMany SpellsU32 c.functions) = subst (λ (fs : List ℕ). HasSpelling (SpellsMany SpellsU32 fs)) (sym is.functions) is.numbers in
    let names : HasSpelling (SpellsMany SpellsExport c.exports) = subst (λ (es : List Export). HasSpelling (SpellsMany SpellsExport es)) (sym is.exports) is.names in
    let bodies = m.bodies ++ map (body_of ctors (function_named dtors_name c.exports)) (added_in c) in
    let puts = written m.bodies is.count is.codes (functions_spelled c.types (imported c.imports) c.functions c.exports numbers) (exports_spelled asked (wrap_in c) (imported c.imports + length c.functions) c.exports names.0 fits names.1) in
    let spliced : Spliced c.kept (functions_in c) (exports_in asked c) bodies out = subst (Spliced c.kept (functions_in c) (exports_in asked c) bodies) (sym puts.parts) puts.spells in
    let same_length : length (functions_in c) ≡ length bodies = long c.functions m.bodies (added_in c) (body_of ctors (function_named dtors_name c.exports)) (ap length is.functions ∙ is.same) in
    module_again (length out) out (changed m (functions_in c) (exports_in asked c) bodies) (is.joins (functions_in c) (exports_in asked c) bodies out same_length spliced)

abbrev Of : Asked → Module → ℕ → Cut → Module
Of asked m ctors c = changed m (functions_in c) (exports_in asked c) (m.bodies ++ map (body_of ctors (function_named dtors_name c.exports)) (added_in c))

abbrev found : Module → Result Module Stop
found m = Ok m

pub with_wrappers_is : (asked : Asked) (m : Module) (c : Cut) (ctors : ℕ) (out : List ℕ) → IsCut m c → Written asked c ctors out → last_after (wrap_in c) (imported c.imports + length c.functions) c.exports < 2 ^ 32
    → module_of out ≡ Ok (wrapped_by asked m ctors)
with_wrappers_is asked m c ctors out is written fits =
    finished asked m c ctors out is written fits ∙ ap (λ (d : Cut). found (Of asked m ctors d)) (same_cut m c is)
