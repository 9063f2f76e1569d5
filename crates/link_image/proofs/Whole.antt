-- The image as the data of a layout tell it is that of the definition, in either mode.
use Rattle.std.proofs.Common.{◌≡◌, ℕ, ◌+◌, ◌-◌, ◌==◌, ◌/◌, Bool, true, false, not, List, [], ◌∷◌, ◌++◌, map, filter, filter_map, length, Option, Some, None, option_map, refl, sym, ap, subst, ◌∙◌, arith, append-nil, pos, eqb-true}
use Rattle.std.specs.Prelude.{if◌then◌else◌, Contains}
use Rattle.std.specs.List.{list_all, All}
use Rattle.std.proofs.lemmas.List.{length-map}
use Rattle.std.proofs.lemmas.List.Elements.{All-head, All-tail, All-contains}
use Rattle.link_program.specs.wasm_types.declared.table.Limits.{Limits}
use Rattle.link_program.specs.wasm_types.declared.import.Import.{Import}
use Rattle.link_program.specs.wasm_types.declared.const_expr.ConstExpr.TheVariants as constants
use Rattle.link_program.specs.wasm_module.declared.parts.Export.{Export}
use Rattle.link_program.specs.wasm_module.declared.parts.Element.{Element}
use Rattle.link_program.specs.linking_section.declared.symbol.SymbolKind.{SymbolKind}
use Rattle.link_program.specs.linking_section.declared.symbol.SymbolKind.TheVariants.{Function, Datum, GlobalVar, Section, Table}
use Rattle.link_program.specs.linking_section.Flags.{kind_code}
use Rattle.link_program.specs.index_layout.Numbers.{number_by}
use Rattle.link_program.specs.made_symbols.declared.mode.Mode.{Mode}
use Rattle.link_program.specs.made_symbols.declared.mode.Mode.TheVariants.{Plain, Shared}
use Rattle.link_program.specs.image_emit.declared.tree.Image.{Image}
use Rattle.link_program.specs.link_plan.declared.plan.Plan.{Plan}
use Rattle.link_program.specs.name_rules.Entries.{InputSymbol, is_kind}
use Rattle.link_program.specs.link_rules.Program as rules
use Rattle.link_program.specs.link_rules.Program.{winners_of}
use Rattle.link_program.specs.link_rules.ModeOf.{mode_of}
use Rattle.link_program.specs.link_rules.Marks.{export_name, by_mode, imports_memory}
use Rattle.link_program.specs.link_rules.Keys as keys
use Rattle.link_program.specs.link_rules.Values.{solid_segments}
use Rattle.link_program.specs.link_rules.Output as output
use Rattle.link_program.specs.link_rules.Output.{layout, image}
use Rattle.link_program.specs.Told.{told_definition}
use Rattle.link_program.specs.Keys.{told_function, told_global, same_function_key, same_global_key}
use Rattle.link_program.specs.declared.keys.GlobalKey.{GlobalKey}
use Rattle.link_program.specs.declared.keys.GlobalKey.TheVariants as globals
use Rattle.link_program.specs.Live.{AreLive, Stage}
use Rattle.link_program.specs.Program.{IsProgramOf}
use Rattle.link_layout.specs.link_numbers.Knows.{KnowsFunction, KnowsGlobal}
use Rattle.link_layout.specs.declared.values.Layout.{Layout}
use Rattle.link_program.specs.Meant.{index_of}
use Rattle.link_layout.specs.Layout.{looked}
use Rattle.link_layout.proofs.KeysTold.{function_told, function_known}
use Rattle.link_image.specs.Imports.{functions_seen, global_seen}
use Rattle.link_image.specs.Sections.{types_seen, global_by, index_by, export_seen, space_of, elements_seen, table_seen, memory_seen, memory_import, memory_export, table_import, takers_of, memory_of, is_imported, imports_seen, exports_seen, blocks_seen, section_bytes, image_of, image_seen, first_of, data_offset}
use Rattle.link_loader.proofs.Lists.{filter_map_same, map_same, all_each}
use Rattle.link_loader.proofs.Stands.{Stands}
use Rattle.link_loader.proofs.Known.{TypedGlobal, functions_known, slots_known, globals_known}
use Rattle.link_loader.proofs.Bases.{the_linkers, bases_first, LinkersPlace, winners_place}
use Rattle.link_image.proofs.Told.{function_imports, global_is, types_are}
use Rattle.link_image.proofs.Pieces.{tells_all, bodies_are, globals_are, blocks_are, first_is}

module _ (m : Mode) (p : rules.Program) (parts : List rules.Part) (es : List InputSymbol) (d : Layout) (is : Stands m p parts es d) where
  abbrev N : List (List ℕ)
  N = d.program.names.now.names

  all_known : All (KnowsFunction N d.program.resolution.now.imports) (keys.functions m p parts)
  all_known = functions_known m p parts es d is

  all_globals_known : All (λ g. KnowsGlobal d.program.resolution.now.imports g × TypedGlobal g) (keys.globals m p parts es)
  all_globals_known = globals_known m p parts es d is

  -- ---- memory, slots and imports

  memory_is : memory_of m d ≡ output.memory m p parts es (layout m p parts es)
  unfolding layout
  memory_is = λ i. memory_seen m (is.placed.places i).pages (is.placed.places i).data_end (is.program.plan i).max_memory

  imported_is : is_imported m d ≡ imports_memory m p
  imported_is = λ i. by_mode m (is.program.plan i).import_memory true

  takers_are : takers_of d.numbering.now ≡ map (keys.function_number (layout m p parts es).numbers) (layout m p parts es).numbers.slots
  unfolding layout
  takers_are =
      (λ i. map (number_by same_function_key (is.numbering.functions i)) (is.numbering.slots i))
      ∙ map_same (number_by same_function_key (map (told_function N d.program.resolution.now.imports) (keys.functions m p parts))) (keys.function_number (layout m p parts es).numbers) (told_function N d.program.resolution.now.imports)
      (keys.slots m parts (keys.functions m p parts))
      (λ k f below. (tells_all m p parts es d is).functions _ (slots_known m p parts es d is k f below))

  count_is : length (takers_of d.numbering.now) ≡ length (layout m p parts es).numbers.slots
  count_is = ap length takers_are ∙ length-map (layout m p parts es).numbers.slots (keys.function_number (layout m p parts es).numbers)

  slots_are : length d.numbering.now.slots ≡ length (layout m p parts es).numbers.slots
  unfolding layout
  slots_are = ap length is.numbering.slots ∙ length-map (keys.slots m parts (keys.functions m p parts)) (told_function N d.program.resolution.now.imports)

  imports_are : imports_seen m d ≡ output.imports m p parts es (layout m p parts es)
  unfolding layout
  imports_are =
      let functions = (λ i. functions_seen d.program.resolution.now.imports (is.numbering.function_types i) (is.numbering.functions i))
      ∙ function_imports m N d.program.resolution.now.imports p parts es (layout m p parts es) (keys.functions m p parts) all_known in
      let globals = ap (filter_map (global_seen d.program.resolution.now.imports)) is.numbering.globals
      ∙ filter_map_same (global_seen d.program.resolution.now.imports) (output.global_import m p parts es (layout m p parts es)) (told_global d.program.resolution.now.imports) (keys.globals m p parts es)
      (λ k g below. global_is m N d.program.resolution.now.imports p parts es (layout m p parts es) _ (all_globals_known k g below).0 (all_globals_known k g below).1) in
      λ i. (if imported_is i then memory_import (memory_is i) ∷ [] else []) ++ by_mode m [] (table_import (slots_are i) ∷ []) ++ functions i ++ globals i

  functions_are : types_seen d.numbering.now.function_types d.numbering.now.functions ≡ map (λ f. keys.type_place (layout m p parts es).numbers (keys.type_of p parts f)) (output.defined m p parts es (layout m p parts es))
  unfolding layout
  functions_are = (λ i. types_seen (is.numbering.function_types i) (is.numbering.functions i))
      ∙ types_are m N d.program.resolution.now.imports p parts es (layout m p parts es) (keys.functions m p parts)

  elements_are : elements_seen m (takers_of d.numbering.now) ≡ output.elements m p parts es (layout m p parts es)
  elements_are = λ i. if count_is i == 0 then [] else record { table = None; offset = by_mode m (constants.I32 (pos 1)) (constants.Get 2); functions = takers_are i } ∷ []

  -- ---- exports

  own_key : (e : InputSymbol) (r : Bool) → (e.input == 0) ≡ r → globals.Own e.input (if r then e.place else e.index) ≡ told_global d.program.resolution.now.imports (if r then keys.linker_global e.place else keys.own_global e.input e.index)
  own_key e true same = ap (λ i. globals.Own i e.place) (eqb-true e.input 0 same)
  own_key e false same = refl

  own_key_known : (e : InputSymbol) (r : Bool) → (e.input == 0) ≡ r → KnowsGlobal d.program.resolution.now.imports (if r then keys.linker_global e.place else keys.own_global e.input e.index)
  own_key_known e true same = tt
  own_key_known e false same = same

  number_told : (g : keys.GlobalKey) → KnowsGlobal d.program.resolution.now.imports g → number_by same_global_key d.numbering.now.globals (told_global d.program.resolution.now.imports g) ≡ keys.global_number (layout m p parts es).numbers g
  unfolding layout
  number_told g known = ap (λ gs. number_by same_global_key gs (told_global d.program.resolution.now.imports g)) is.numbering.globals ∙ (tells_all m p parts es d is).globals g known

  function_number_told : (e : InputSymbol) → index_by m d.numbering.now (told_definition e) Function ≡ keys.function_number (layout m p parts es).numbers (keys.function_of e)
  unfolding layout
  function_number_told e =
      (λ i. number_by same_function_key (is.numbering.functions i) (function_told N d.program.resolution.now.imports e i))
      ∙ (tells_all m p parts es d is).functions (keys.function_of e) (function_known N d.program.resolution.now.imports e)

  -- the linker's globals of a shared output are its first imports
  linkers_number : m ≡ Shared → (e : InputSymbol) → LinkersPlace e → (e.input == 0) ≡ true → is_kind GlobalVar e ≡ true → e.place - 2 ≡ keys.global_number (layout m p parts es).numbers (keys.linker_key Shared e)
  unfolding layout
  linkers_number shared e place own kind =
      let program = subst (λ x. IsProgramOf x d.program p) shared is.program in
      let bases = bases_first p parts es program.entries program.rise in
      sym (ap (λ x. number_by keys.same_global (keys.globals x p parts es) (keys.linker_key Shared e)) shared
      ∙ ap (λ gs. number_by keys.same_global gs (keys.linker_key Shared e)) bases.1
      ∙ place own kind bases.0)

  abbrev Var : InputSymbol → Type 0
  Var e = global_by m d.numbering.now (told_definition e) ≡ keys.global_number (layout m p parts es).numbers (keys.global_of m e)

  shared_var : m ≡ Shared → (e : InputSymbol) → LinkersPlace e → is_kind GlobalVar e ≡ true → (r : Bool) → (e.input == 0) ≡ r
      → (if r then e.place - 2 else number_by same_global_key d.numbering.now.globals (globals.Own e.input (if r then e.place else e.index)))
      ≡ keys.global_number (layout m p parts es).numbers (if r then keys.linker_key Shared e else keys.own_global e.input e.index)
  shared_var shared e place kind true own = linkers_number shared e place own kind
  shared_var shared e place kind false own = number_told (keys.own_global e.input e.index) own

  var_number : (x : Mode) → m ≡ x → (e : InputSymbol) → (x ≡ Shared → LinkersPlace e) → is_kind GlobalVar e ≡ true → Var e
  var_number Plain plain e place kind =
      subst (λ x. global_by x d.numbering.now (told_definition e) ≡ keys.global_number (layout m p parts es).numbers (keys.global_of x e)) (sym plain)
      (ap (number_by same_global_key d.numbering.now.globals) (own_key e (e.input == 0) refl) ∙ number_told (keys.global_of Plain e) (own_key_known e (e.input == 0) refl))
  var_number Shared shared e place kind =
      subst (λ x. global_by x d.numbering.now (told_definition e) ≡ keys.global_number (layout m p parts es).numbers (keys.global_of x e)) (sym shared)
      (shared_var shared e (place refl) kind (e.input == 0) refl)

  export_is : (e : InputSymbol) → (m ≡ Shared → LinkersPlace e) → (kind : SymbolKind) → e.symbol.kind ≡ kind
      → record { name = export_name p e; kind = space_of kind; index = index_by m d.numbering.now (told_definition e) kind } ≡ output.export_of m p parts es (layout m p parts es) e kind
  export_is e place Function same = ap (λ n. record { name = export_name p e; kind = 0; index = n }) (function_number_told e)
  export_is e place Datum same = ap (λ n. record { name = export_name p e; kind = 3; index = n }) (number_told (keys.exported_datum e) tt)
  export_is e place GlobalVar same = ap (λ n. record { name = export_name p e; kind = 3; index = n }) (var_number m refl e place (ap (λ k. kind_code k == kind_code GlobalVar) same))
  export_is e place Section same = refl
  export_is e place Table same = refl

  winners_are : (xs : List InputSymbol) → All (λ e. m ≡ Shared → LinkersPlace e) xs
      → map (λ e. export_seen m d.numbering.now (export_name p e) (told_definition e)) xs ≡ map (λ e. output.export_of m p parts es (layout m p parts es) e e.symbol.kind) xs
  winners_are [] all = refl
  winners_are (x ∷ xs) all =
      let first = export_is x (All-head (λ e. m ≡ Shared → LinkersPlace e) x xs all) x.symbol.kind refl in
      let rest = winners_are xs (All-tail (λ e. m ≡ Shared → LinkersPlace e) x xs all) in
      λ i. first i ∷ rest i

  all_placed : All (Contains p.winners) es → All (λ e. m ≡ Shared → LinkersPlace e) es
  all_placed among = λ k e below shared.
      let program = subst (λ x. IsProgramOf x d.program p) shared is.program in
      let all : All LinkersPlace p.winners = subst (All LinkersPlace) (sym (program.winners_are ∙ ap winners_of program.entries)) (winners_place p.objects program.rise) in
      All-contains LinkersPlace p.winners _ all (among k e below)

  exports_are : All (Contains p.winners) es → exports_seen m d p es ≡ output.memory_export m p parts es (layout m p parts es) ++ map (λ e. output.export_of m p parts es (layout m p parts es) e e.symbol.kind) es
  exports_are among = let winners = winners_are es (all_placed among) in λ i. (if imported_is i then [] else memory_export ∷ []) ++ winners i

  types_same : d.numbering.now.types ≡ (layout m p parts es).numbers.types
  unfolding layout
  types_same = is.numbering.types

-- ---- the whole

module _ (p : rules.Program) (parts : List rules.Part) (es : List InputSymbol) (d : Layout) (is : Stands (mode_of p.plan) p parts es d) where
  abbrev M : Mode
  M = mode_of p.plan

  abbrev s : Stage
  s = record { program = p; exports = es; parts = parts }

  pub image_is : (live : List ℕ) → AreLive p live parts → All (Contains p.winners) es → image_seen s d live ≡ image M p parts es (layout M p parts es)
  unfolding image
  image_is live lives among =
      let asked : mode_of d.program.plan.now ≡ M = ap mode_of is.program.plan in
      let types = types_same M p parts es d is in
      let imports = imports_are M p parts es d is in
      let functions = functions_are M p parts es d is in
      let count = count_is M p parts es d is in
      let imported = imported_is M p parts es d is in
      let memory = memory_is M p parts es d is in
      let globals = globals_are M p parts es d is (all_each (λ g. KnowsGlobal d.program.resolution.now.imports g × TypedGlobal g) (KnowsGlobal d.program.resolution.now.imports) (λ g both. both.0) (keys.globals M p parts es) (globals_known M p parts es d is)) in
      let exports = exports_are M p parts es d is among in
      let elements = elements_are M p parts es d is in
      let bodies = bodies_are M p parts es d is in
      let blocks = blocks_are M p parts es d is live lives in
      let first = ap first_of blocks ∙ first_is M p parts es d is (solid_segments p parts) in
      ap (λ x. image_of x s d live) asked
      ∙ (λ i. record {
        custom = by_mode M None (Some (section_bytes s));
        types = types i;
        imports = imports i;
        functions = functions i;
        tables = by_mode M (table_seen (count i) ∷ []) [];
        memories = if imported i then [] else memory i ∷ [];
        globals = globals i;
        exports = exports i;
        elements = elements i;
        bodies = bodies i;
        data_offset = data_offset M (first i);
        blocks = blocks i;
      })
