-- The sections as the data tell them are those of the definition.
use Rattle.std.proofs.Common.{◌≡◌, ℕ, zero, suc, ◌+◌, ◌<◌, ◌==◌, Bool, true, false, not, ◌&&◌, cond, List, [], ◌∷◌, ◌++◌, map, filter, filter_map, flat_map, length, get_or, slice_get, position, find, Option, Some, None, option_map, refl, sym, ap, subst, ◌∙◌, arith, eq-eqb, eqb-true}
use Rattle.std.specs.Prelude.{if◌then◌else◌, slice_index_or}
use Rattle.std.specs.List.{list_any, list_all, All, cons_option}
use Rattle.std.proofs.lemmas.Bool.{and_parts, and_from}
use Rattle.std.proofs.lemmas.List.{length-map}
use Rattle.std.proofs.lemmas.List.Elements.{All-head, All-tail, All-cons, All-append}
use Rattle.std.proofs.lemmas.Option.{slice_get-map}
use Rattle.link_program.specs.wl_base.Choice.{given}
use Rattle.link_program.specs.wasm_types.declared.function.FuncType.{FuncType}
use Rattle.link_program.specs.wasm_types.declared.import.Import.{Import}
use Rattle.link_program.specs.wasm_types.declared.import.ImportKind.TheVariants as kinds
use Rattle.link_program.specs.index_layout.Numbers.{number_by}
use Rattle.link_program.specs.made_symbols.declared.mode.Mode.{Mode}
use Rattle.link_program.specs.mark_bits.declared.chunk.Chunk.{Chunk}
use Rattle.link_program.specs.name_rules.Entries.{InputSymbol, ImportKey, SymbolType, of_function, of_global, untyped, same_import}
use Rattle.link_program.specs.link_rules.Program as rules
use Rattle.link_program.specs.link_rules.Program.{chunk_at}
use Rattle.link_program.specs.link_rules.Keys as keys
use Rattle.link_program.specs.link_rules.Keys.{outside, linker_function, stub, own, outside_global, linker_global, own_global, got, exported_datum, type_of, function_type_of, type_place}
use Rattle.link_program.specs.link_rules.Values as values
use Rattle.link_program.specs.link_rules.Output as output
use Rattle.link_program.specs.link_rules.Output.{imported_kind}
use Rattle.link_program.specs.Keys.{told_function, told_global}
use Rattle.link_layout.specs.link_numbers.Knows.{KnowsFunction, KnowsGlobal}
use Rattle.link_layout.specs.link_numbers.Numbered.{is_import}
use Rattle.link_image.specs.Imports.{kind_seen, import_seen, function_seen, global_seen, functions_seen}
use Rattle.link_image.specs.Sections.{types_seen}
use Rattle.link_loader.proofs.Lists.{import_there}
use Rattle.link_loader.proofs.Known.{TypedGlobal}

module _ (m : Mode) (names : List (List ℕ)) (imports : List ImportKey) (p : rules.Program) (parts : List rules.Part) (es : List InputSymbol) (l : values.Layout) where
  abbrev type_number : keys.FunctionKey → ℕ
  type_number f = type_place l.numbers (type_of p parts f)

  kind_told : (t : SymbolType) → kind_seen t (type_place l.numbers (function_type_of t)) ≡ imported_kind m p parts es l t
  kind_told (of_function t) = refl
  kind_told (of_global g) = refl
  kind_told untyped = refl

  kind_of_global : (t : SymbolType) → keys.is_global_type t ≡ true → kind_seen t 0 ≡ imported_kind m p parts es l t
  kind_of_global (of_function t) is = absurd cc
  kind_of_global (of_global g) is = refl
  kind_of_global untyped is = absurd cc

  -- ---- imports

  import_is : (k : ImportKey) → list_any (same_import k) imports ≡ true → import_seen imports (number_by same_import imports k) (type_place l.numbers (function_type_of k.type)) ≡ Some (output.import_for m p parts es l k)
  import_is k held =
      ap (option_map (λ (k' : ImportKey). record { «module» = k'.module_name; field = k'.field; kind = kind_seen k'.type (type_place l.numbers (function_type_of k.type)) })) (import_there imports k held)
      ∙ ap (λ kind. Some (record { «module» = k.module_name; field = k.field; kind = kind })) (kind_told k.type)

  function_is : (f : keys.FunctionKey) → KnowsFunction names imports f → function_seen imports (told_function names imports f) (type_number f) ≡ output.function_import m p parts es l f
  function_is (outside k) known = import_is k known
  function_is (linker_function n) known = refl
  function_is (stub name) known = refl
  function_is (own input index) known = refl

  pub function_imports : (fs : List keys.FunctionKey) → All (KnowsFunction names imports) fs
      → functions_seen imports (map type_number fs) (map (told_function names imports) fs) ≡ filter_map (output.function_import m p parts es l) fs
  function_imports [] known = refl
  function_imports (f ∷ fs) known =
      let first = function_is f (All-head (KnowsFunction names imports) f fs known) in
      let rest = function_imports fs (All-tail (KnowsFunction names imports) f fs known) in
      λ i. cons_option (first i) (rest i)

  pub global_is : (g : keys.GlobalKey) → KnowsGlobal imports g → TypedGlobal g → global_seen imports (told_global imports g) ≡ output.global_import m p parts es l g
  global_is (outside_global k) known typed =
      ap (option_map (λ (k' : ImportKey). record { «module» = k'.module_name; field = k'.field; kind = kind_seen k'.type 0 })) (import_there imports k known)
      ∙ ap (λ kind. Some (record { «module» = k.module_name; field = k.field; kind = kind })) (kind_of_global k.type typed)
  global_is (linker_global n) known typed = refl
  global_is (own_global input index) known typed = refl
  global_is (got key) known typed = refl
  global_is (exported_datum e) known typed = refl

  -- ---- types of functions

  pub types_are : (fs : List keys.FunctionKey) → types_seen (map type_number fs) (map (told_function names imports) fs) ≡ map type_number (filter (λ f. not (output.is_import m p parts es l f)) fs)
  types_are [] = refl
  types_are (outside k ∷ fs) = types_are fs
  types_are (linker_function n ∷ fs) = ap (λ r. type_number (linker_function n) ∷ r) (types_are fs)
  types_are (stub name ∷ fs) = ap (λ r. type_number (stub name) ∷ r) (types_are fs)
  types_are (own input index ∷ fs) = ap (λ r. type_number (own input index) ∷ r) (types_are fs)
