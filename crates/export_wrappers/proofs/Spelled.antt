-- Functions and exports of a wrapped module have spellings.
use Rattle.std.proofs.Common.{◌≡◌, ℕ, zero, suc, ◌-◌, ◌<◌, ◌≤◌, ◌^◌, Bool, true, false, cond, List, [], ◌∷◌, ◌++◌, length, refl, sym, ap, subst, ◌∙◌, arith, Option, Some, None, append_assoc}
use Rattle.std.specs.Prelude.{map, filter_map, slice_get, nat_lt, not, ◌&&◌, ◌==◌, option_map, option_and_then}
use Rattle.std.specs.List.{cons_option}
use Rattle.std.proofs.lemmas.Option.{same_Some}
use Rattle.wasm_module.proofs.wasm_instr_lemmas.leb_codec_lemmas.Computed.{u32_spells}
use Rattle.wasm_module.specs.wasm_instr.leb_codec.Shortest.{u32}
use Rattle.wasm_module.specs.wasm_instr.wasm_grammar.Grammar.{SpellsU32, SpellsMany}
use Rattle.wasm_module.specs.wasm_instr.wasm_grammar.Writers.{HasSpelling}
use Rattle.wasm_module.specs.wasm_instr.wasm_types.declared.function.FuncType.{FuncType}
use Rattle.wasm_module.specs.declared.parts.Export.{Export}
use Rattle.wasm_module.specs.Parts.{SpellsExport}
use Rattle.export_wrappers.specs.declared.wrapper.Wrapper.{Wrapper}
use Rattle.export_wrappers.specs.declared.wrapper.Asked.{Asked}
use Rattle.export_wrappers.specs.Wrapped.{is_helper, is_kept, defined_kind, typed_wrapper, wrapper_in, exported_as, next_after, last_after, exports_from}

-- items one after another
pub many_join : {A : Type 0} (Item : A → List ℕ → Type 0) (xs ys : List A) (a b : List ℕ) → SpellsMany Item xs a → SpellsMany Item ys b → SpellsMany Item (xs ++ ys) (a ++ b)
many_join Item [] ys a b s t = rw s t
many_join Item (x ∷ xs) ys a b s t = (s.0, s.1 ++ b, s.2, many_join Item xs ys s.1 b s.3 t, ap (λ (u : List ℕ). u ++ b) s.4 ∙ append_assoc s.0 s.1 b)

joined : {A : Type 0} (Item : A → List ℕ → Type 0) (xs ys : List A) → HasSpelling (SpellsMany Item xs) → HasSpelling (SpellsMany Item ys) → HasSpelling (SpellsMany Item (xs ++ ys))
joined Item xs ys s t = (s.0 ++ t.0, many_join Item xs ys s.0 t.0 s.1 t.1)

one_item : {A : Type 0} (Item : A → List ℕ → Type 0) (x : A) → HasSpelling (Item x) → HasSpelling (SpellsMany Item (x ∷ []))
one_item Item x s = (s.0 ++ [], (s.0, [], s.1, refl, refl))

item_at : {A : Type 0} (Item : A → List ℕ → Type 0) (xs : List A) (i : ℕ) (x : A) (text : List ℕ) → slice_get xs i ≡ Some x → SpellsMany Item xs text → HasSpelling (Item x)
item_at Item [] i x text e s = absurd cc
item_at {A} Item (y ∷ xs) zero x text e s = let same : y ≡ x = cc in subst (λ (z : A). HasSpelling (Item z)) same (s.0, s.2)
item_at Item (y ∷ xs) (suc i) x text e s = item_at Item xs i x s.1 e s.3

-- ---- the types of wrappers

found_kind : (types : List FuncType) (function kind : ℕ) (w : Wrapper) → typed_wrapper types function kind ≡ Some w → w.kind ≡ kind
found_kind types function kind w = by_case (slice_get types kind)
  where
    by_case : (t : Option FuncType) → option_map (λ (t : FuncType). record { kind = kind; parameters = length t.params; function = function }) t ≡ Some w → w.kind ≡ kind
    by_case None e = absurd cc
    by_case (Some t) e =
        let made : Wrapper = record { kind = kind; parameters = length t.params; function = function } in
        sym (ap (λ (v : Wrapper). v.kind) (same_Some made w e))

defined_spelled : (imports : ℕ) (functions : List ℕ) (index kind : ℕ) (text : List ℕ) → defined_kind imports functions index ≡ Some kind → SpellsMany SpellsU32 functions text → HasSpelling (SpellsU32 kind)
defined_spelled imports functions index kind text e s = by_case (nat_lt index imports) e
  where
    by_case : (q : Bool) → cond q None (slice_get functions (index - imports)) ≡ Some kind → HasSpelling (SpellsU32 kind)
    by_case true f = absurd cc
    by_case false f = item_at SpellsU32 functions (index - imports) kind text f s

wrapper_spelled : (types : List FuncType) (imports : ℕ) (functions : List ℕ) (text : List ℕ) → SpellsMany SpellsU32 functions text → (e : Export) (w : Wrapper) → wrapper_in types imports functions e ≡ Some w → HasSpelling (SpellsU32 w.kind)
wrapper_spelled types imports functions text s e w = by_case ((e.kind == 0) && not (is_helper e))
  where
    by_kind : (o : Option ℕ) → defined_kind imports functions e.index ≡ o → option_and_then (typed_wrapper types e.index) o ≡ Some w → HasSpelling (SpellsU32 w.kind)
    by_kind None is f = absurd cc
    by_kind (Some kind) is f = subst (λ (k : ℕ). HasSpelling (SpellsU32 k)) (sym (found_kind types e.index kind w f)) (defined_spelled imports functions e.index kind text is s)

    by_case : (q : Bool) → cond q (option_and_then (typed_wrapper types e.index) (defined_kind imports functions e.index)) None ≡ Some w → HasSpelling (SpellsU32 w.kind)
    by_case true f = by_kind (defined_kind imports functions e.index) refl f
    by_case false f = absurd cc

one_kind : (o : Option Wrapper) (ws : List Wrapper) → ((w : Wrapper) → o ≡ Some w → HasSpelling (SpellsU32 w.kind)) → HasSpelling (SpellsMany SpellsU32 (map (λ (w : Wrapper). w.kind) ws))
    → HasSpelling (SpellsMany SpellsU32 (map (λ (w : Wrapper). w.kind) (cons_option o ws)))
one_kind None ws each s = s
one_kind (Some w) ws each s = let first = each w refl in (first.0 ++ s.0, (first.0, s.0, first.1, s.1, refl))

kinds : (wrap : Export → Option Wrapper) → ((e : Export) (w : Wrapper) → wrap e ≡ Some w → HasSpelling (SpellsU32 w.kind)) → (es : List Export) → HasSpelling (SpellsMany SpellsU32 (map (λ (w : Wrapper). w.kind) (filter_map wrap es)))
kinds wrap each [] = ([], refl)
kinds wrap each (e ∷ es) = one_kind (wrap e) (filter_map wrap es) (each e) (kinds wrap each es)

pub functions_spelled : (types : List FuncType) (imports : ℕ) (functions : List ℕ) (exports : List Export) → HasSpelling (SpellsMany SpellsU32 functions)
    → HasSpelling (SpellsMany SpellsU32 (functions ++ map (λ (w : Wrapper). w.kind) (filter_map (wrapper_in types imports functions) exports)))
functions_spelled types imports functions exports s =
    joined SpellsU32 functions (map (λ (w : Wrapper). w.kind) (filter_map (wrapper_in types imports functions) exports)) s (kinds (wrapper_in types imports functions) (wrapper_spelled types imports functions s.0 s.1) exports)

-- ---- exports

on_from : (next : ℕ) (o : Option Wrapper) → next ≤ next_after next o
on_from next None = omega arith
on_from next (Some w) = omega arith

rises : (wrap : Export → Option Wrapper) (next : ℕ) (es : List Export) → next ≤ last_after wrap next es
rises wrap next [] = omega arith
rises wrap next (e ∷ es) = omega (arith, on_from next (wrap e), rises wrap (next_after next (wrap e)) es)

-- an export has a spelling by another number too
export_as : (next : ℕ) (e : Export) (o : Option Wrapper) (text : List ℕ) → next_after next o ≤ 2 ^ 32 - 1 → SpellsExport e text → HasSpelling (SpellsExport (exported_as next e o))
export_as next e None text le s = (text, s)
export_as next e (Some w) text le s =
    let t = s.3 in
    (s.0 ++ (t.0 ++ u32 next), (s.0, t.0 ++ u32 next, s.2, (t.0, u32 next, t.2, u32_spells next (omega (arith, le)), refl), refl))

pub exports_spelled : (asked : Asked) (wrap : Export → Option Wrapper) (next : ℕ) (es : List Export) (text : List ℕ) → last_after wrap next es < 2 ^ 32 → SpellsMany SpellsExport es text
    → HasSpelling (SpellsMany SpellsExport (exports_from asked wrap next es))
exports_spelled asked wrap next [] text fits s = ([], refl)
exports_spelled asked wrap next (e ∷ es) text fits s =
    let after = next_after next (wrap e) in
    let low : after ≤ 2 ^ 32 - 1 = omega (arith, fits, rises wrap after es) in
    let first = export_as next e (wrap e) s.0 low s.2 in
    joined SpellsExport (cond (is_kept asked e) (exported_as next e (wrap e) ∷ []) []) (exports_from asked wrap after es) (kept_or (is_kept asked e) (exported_as next e (wrap e)) first) (exports_spelled asked wrap after es s.1 fits s.3)
  where
    kept_or : (q : Bool) (x : Export) → HasSpelling (SpellsExport x) → HasSpelling (SpellsMany SpellsExport (cond q (x ∷ []) []))
    kept_or true x f = one_item SpellsExport x f
    kept_or false x f = ([], refl)
