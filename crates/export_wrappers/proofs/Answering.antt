-- What the calls answer.
use Rattle.std.proofs.Common.{◌≡◌, ℕ, List, length, sym, ap, subst, ◌∙◌, Option, Some, None, Ok, Err, Result}
use Rattle.wasm_module.specs.wasm_instr.wasm_grammar.declared.fault.Stop.{Stop}
use Rattle.wasm_module.specs.wasm_instr.wasm_grammar.declared.fault.ReadFault.{ReadFault}
use Rattle.wasm_module.specs.wasm_instr.wasm_grammar.declared.fault.ReadFault.TheVariants as reads
use Rattle.wasm_module.specs.wasm_instr.wasm_grammar.Fault.{Fails}
use Rattle.wasm_module.specs.wasm_instr.wasm_grammar.ReaderLaws.{ok_is}
use Rattle.wasm_module.specs.declared.structure.Module.{Module}
use Rattle.wasm_module.specs.ModuleReading.{module_of}
use Rattle.export_wrappers.specs.declared.fault.WrapFault.{WrapFault}
use Rattle.export_wrappers.specs.declared.fault.WrapFault.TheVariants.{NotModule, TooLong, OutOfMemory}
use Rattle.export_wrappers.specs.declared.wrapper.Asked.{Asked}
use Rattle.export_wrappers.specs.Wrapped.{ctors_name, function_named, wrapped_by, wrapped_with, wrapped}
use Rattle.export_wrappers.specs.Cuts.{Cut, cut_at}
use Rattle.export_wrappers.specs.Written.{IsCut}
use Rattle.export_wrappers.specs.Answer.{wrap_fault, IsWrapped, WrapsAny, Shortens, Wraps}
use Rattle.export_wrappers.proofs.CutLaws.{cut_stands}

-- the cut that is found is that of the module
cut_of : (bytes : List ℕ) (c : Cut) → cut_at (length bytes) bytes ≡ Ok c → (m : Module) → module_of bytes ≡ Ok m → IsCut m c
cut_of bytes c is m e = let d = cut_stands (length bytes) bytes m e in subst (λ (x : Cut). IsCut m x) (ok_is (sym d.1 ∙ is)) d.2

-- where no constructors are exported the bytes stay
pub stays : (asked : Asked) (bytes : List ℕ) (c : Cut) → cut_at (length bytes) bytes ≡ Ok c → function_named ctors_name c.exports ≡ None → IsWrapped asked bytes bytes
unfolding wrapped
stays asked bytes c is none m e =
    let same : function_named ctors_name m.exports ≡ None = ap (function_named ctors_name) (sym (cut_of bytes c is m e).exports) ∙ none in
    e ∙ ap (λ (o : Option ℕ). Ok (wrapped_with asked m o)) (sym same)

pub wraps : (asked : Asked) (bytes : List ℕ) (c : Cut) (ctors : ℕ) (out : List ℕ) → cut_at (length bytes) bytes ≡ Ok c → function_named ctors_name c.exports ≡ Some ctors
    → ((m : Module) → IsCut m c → module_of out ≡ Ok (wrapped_by asked m ctors)) → IsWrapped asked bytes out
unfolding wrapped
wraps asked bytes c ctors out is found written m e =
    let cut = cut_of bytes c is m e in
    let same : function_named ctors_name m.exports ≡ Some ctors = ap (function_named ctors_name) (sym cut.exports) ∙ found in
    written m cut ∙ ap (λ (o : Option ℕ). Ok (wrapped_with asked m o)) (sym same)

-- where the bytes aren't cut they are no module
pub fails : (asked : Asked) (bytes : List ℕ) (e : ReadFault) → Fails e (cut_at (length bytes) bytes) → WrapsAny asked bytes (Err e)
fails asked bytes (reads.Stopped s) f = λ m is. absurd (let d = cut_stands (length bytes) bytes m is in let both : ◌≡◌ {A = Result Cut Stop} (Err s) (Ok d.0) = sym f ∙ d.1 in cc)
fails asked bytes reads.OutOfMemory f = tt

pub passed_on : (asked : Asked) (bytes : List ℕ) (e : ReadFault) → WrapsAny asked bytes (Err e) → Wraps asked bytes (Err (wrap_fault e))
passed_on asked bytes (reads.Stopped s) f = f
passed_on asked bytes reads.OutOfMemory f = tt

pub in_all : (asked : Asked) (bytes all : List ℕ) (r : Result (List ℕ) WrapFault) → IsWrapped asked bytes all → Shortens all r → Wraps asked bytes r
in_all asked bytes all (Ok out) is s = (subst (IsWrapped asked bytes) (sym s.0) is, s.1)
in_all asked bytes all (Err NotModule) is s = absurd s
in_all asked bytes all (Err (TooLong n)) is s = (all, is, s.0, s.1)
in_all asked bytes all (Err OutOfMemory) is s = absurd s
