-- The types that an object gives to its symbols, and to what it defines.
use Rattle.std.proofs.Common.{◌≡◌, ℕ, zero, suc, ◌-◌, ◌≤◌, List, [], ◌∷◌, ◌++◌, length, map, Some, Bool, false, sym, ap, ◌∙◌, arith}
use Rattle.std.specs.Prelude.{nat_lt, slice_get, filter_map, option_map}
use Rattle.std.proofs.lemmas.Option.{slice_get-map, get_or_from_slice_get}
use Rattle.std.proofs.lemmas.List.{length-append, length-map}
use Rattle.wasm_types.specs.declared.value.ValType.TheVariants.{I32}
use Rattle.linking_section.specs.declared.symbol.Symbol.{Symbol}
use Rattle.linking_section.specs.declared.symbol.SymbolKind.{SymbolKind}
use Rattle.linking_section.specs.declared.symbol.SymbolKind.TheVariants.{Function, Datum, GlobalVar, Section, Table}
use Rattle.linking_section.specs.Flags.{is_undefined}
use Rattle.object_parts.specs.declared.parts.GlobalDef.{GlobalDef}
use Rattle.object_columns.specs.declared.functions.FunctionDef.{FunctionDef}
use Rattle.object_file.specs.declared.object.Object.{Object}
use Rattle.object_file.specs.Spaces.{no_type, function_imports, global_imports, imported_type, imported_global, defined_type, function_types, global_types}
use Rattle.object_file.specs.Sound.{NamesInRange}
use Rattle.object_file.proofs.Counted.{functions_counted, globals_counted}
use Rattle.name_rules.specs.Entries.{of_function, of_global, type_in}
use Rattle.shared_facts.proofs.shared_links_lemmas.link_facts_lemmas.Parts.{there_is}
use Rattle.output_types.specs.Functions.{IsTypeOf}

-- what stands behind the first list
behind : {A : Type 0} (xs ys : List A) (k : ℕ) → length xs ≤ k → slice_get (xs ++ ys) k ≡ slice_get ys (k - length xs)
behind [] ys k h = let z : k ≡ k - 0 = omega arith in ap (slice_get ys) z
behind (x ∷ xs) ys zero h = absurd (omega (arith, h))
behind (x ∷ xs) ys (suc k) h = let z : k - length xs ≡ suc k - suc (length xs) = omega arith in behind xs ys k (omega (arith, h)) ∙ ap (slice_get ys) z

-- the type of a symbol in range
pub symbol_type : (o : Object) (s : Symbol) (kind : SymbolKind) → NamesInRange o s kind → IsTypeOf o s kind (type_in o s kind)
symbol_type o s Function n =
    let t = there_is (function_types o) s.index (let c = functions_counted o in let l = n.0 in omega (arith, c, l)) in
    (t.0, t.1, ap of_function (get_or_from_slice_get (function_types o) s.index t.0 no_type t.1))
symbol_type o s GlobalVar n =
    let t = there_is (global_types o) s.index (let c = globals_counted o in let l = n.0 in omega (arith, c, l)) in
    (t.0, t.1, ap of_global (get_or_from_slice_get (global_types o) s.index t.0 (record { kind = I32; var = false }) t.1))
symbol_type o s Datum n = tt
symbol_type o s Section n = tt
symbol_type o s Table n = tt

-- an index of a definition is behind those of imports
past_imports : (imports index : ℕ) (u : Bool) → u ≡ nat_lt index imports → u ≡ false → imports ≤ index
past_imports imports index u q z = not_less index imports (sym q ∙ z)
  where
    not_less : (a b : ℕ) → nat_lt a b ≡ false → b ≤ a
    not_less a b h = grind arith

imported_functions : (o : Object) → length (filter_map (λ i. imported_type o i.kind) o.imports) ≡ length (function_imports o)
imported_functions o =
    let a = length-append (filter_map (λ i. imported_type o i.kind) o.imports) (map (defined_type o) o.functions) in
    let b = length-map o.functions (defined_type o) in
    let c = functions_counted o in
    omega (arith, a, b, c)

imported_globals : (o : Object) → length (filter_map (λ i. imported_global i.kind) o.imports) ≡ length (global_imports o)
imported_globals o =
    let a = length-append (filter_map (λ i. imported_global i.kind) o.imports) (map (λ g. g.kind) o.globals) in
    let b = length-map o.globals (λ (g : GlobalDef). g.kind) in
    let c = globals_counted o in
    omega (arith, a, b, c)

-- A symbol that is defined has the type of its definition.
pub defined_function : (o : Object) (s : Symbol) (f : FunctionDef) → NamesInRange o s Function → is_undefined s ≡ false → slice_get o.functions (s.index - length (function_imports o)) ≡ Some f
    → type_in o s Function ≡ of_function (defined_type o f)
defined_function o s f n u at =
    let past = past_imports (length (function_imports o)) s.index (is_undefined s) n.1 u in
    let many = imported_functions o in
    let here : slice_get (function_types o) s.index ≡ Some (defined_type o f) =
    behind (filter_map (λ i. imported_type o i.kind) o.imports) (map (defined_type o) o.functions) s.index (omega (arith, past, many))
    ∙ ap (λ n. slice_get (map (defined_type o) o.functions) (s.index - n)) many
    ∙ slice_get-map (defined_type o) o.functions (s.index - length (function_imports o))
    ∙ ap (option_map (defined_type o)) at in
    ap of_function (get_or_from_slice_get (function_types o) s.index (defined_type o f) no_type here)

pub defined_global : (o : Object) (s : Symbol) (g : GlobalDef) → NamesInRange o s GlobalVar → is_undefined s ≡ false → slice_get o.globals (s.index - length (global_imports o)) ≡ Some g
    → type_in o s GlobalVar ≡ of_global g.kind
defined_global o s g n u at =
    let past = past_imports (length (global_imports o)) s.index (is_undefined s) n.1 u in
    let many = imported_globals o in
    let kind = λ (g : GlobalDef). g.kind in
    let here : slice_get (global_types o) s.index ≡ Some g.kind =
    behind (filter_map (λ i. imported_global i.kind) o.imports) (map kind o.globals) s.index (omega (arith, past, many))
    ∙ ap (λ n. slice_get (map kind o.globals) (s.index - n)) many
    ∙ slice_get-map kind o.globals (s.index - length (global_imports o))
    ∙ ap (option_map kind) at in
    ap of_global (get_or_from_slice_get (global_types o) s.index g.kind (record { kind = I32; var = false }) here)
