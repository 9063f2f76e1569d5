-- The sections of two programs that are one but for places, without bodies and data: they are equal.
use Rattle.std.proofs.Common.{◌≡◌, ℕ, ◌/◌, ◌==◌, Bool, true, false, not, List, [], ◌∷◌, map, filter, length, refl, sym, ap, subst, ◌∙◌, ◌&&◌, arith}
use Rattle.std.specs.Prelude.{Option, Some, None, option_map, filter_map, find, All, if◌then◌else◌}
use Rattle.std.proofs.lemmas.List.{length-map}
use Rattle.std.proofs.lemmas.List.Elements.{All-cons, All-head, All-tail}
use Rattle.object_file.specs.linking_section.Flags.{kind_code}
use Rattle.object_file.specs.wasm_types.declared.import.Import.{Import}
use Rattle.object_file.specs.wasm_types.Same.{same_type}
use Rattle.object_file.specs.wasm_module.declared.parts.ModuleGlobal.{ModuleGlobal}
use Rattle.object_file.specs.linking_section.declared.symbol.SymbolKind.{SymbolKind}
use Rattle.object_file.specs.linking_section.declared.symbol.SymbolKind.TheVariants.{Function, Datum, GlobalVar, Section, Table}
use Rattle.made_symbols.specs.declared.mode.Mode.TheVariants.{Plain}
use Rattle.name_rules.specs.Entries.{InputSymbol, ImportKey, SymbolType, of_function, of_global, untyped, is_kind}
use Rattle.mark_bits.specs.declared.chunk.Chunk.{Chunk}
use Rattle.memory_layout.specs.declared.rules.Places.{Places}
use Rattle.index_layout.specs.Numbers.{number_by}
use Rattle.link_rules.specs.Program.{Program, Part, chunk_at}
use Rattle.link_rules.specs.Marks.{export_name}
use Rattle.link_rules.specs.Keys.{FunctionKey, outside, linker_function, stub, own, GlobalKey, outside_global, linker_global, own_global, got, GotKey, got_entry, got_import, got_null, exported_datum, type_of, type_place, function_of, global_of, function_number, global_number, slot_of, parts_of_kind}
use Rattle.link_rules.specs.Values.{Layout, slot_count, address_of, got_value, made_global_value}
use Rattle.link_rules.specs.Output.{imported_kind, import_for, function_import, global_import, memory, is_import, defined, i32_const, global_content, global_for, export_of}
use Rattle.object_file.specs.wasm_types.declared.import.ImportKind.TheVariants as kinds
use Rattle.partial_rules.specs.Moving.{Moving, IsMoving, moved_function, moved_got, moved_global, AlikePart, AlikeStage}
use Rattle.partial_rules.proofs.Lists.{filter_map_moved, filter_moved, map_map, map_where, find_of, zip_find}
use Rattle.partial_rules.proofs.AlikeKeys.{KnowsFunction, function_moves, global_key_moves}
use Rattle.partial_rules.proofs.AlikeTypes.{IsTyped, type_alike, shuffle, no_kind}
use Rattle.partial_rules.proofs.AlikeSlots.{of_entry}
use Rattle.partial_rules.proofs.AlikeWindows.{AlikeLayout, slot_alike, function_number_alike, global_number_alike, address_alike, global_entry}

same_option : {A : Type 0} (o : Option A) → option_map (λ x. x) o ≡ o
same_option None = refl
same_option (Some x) = refl

same_map : {A : Type 0} (xs : List A) → map (λ x. x) xs ≡ xs
same_map [] = refl
same_map (x ∷ xs) = ap (λ ys. x ∷ ys) (same_map xs)

module _ (m : Moving) (C : Chunk → Type 0) (K : InputSymbol → Type 0) (is : IsMoving m C K) (p q : Program) (xs ys : List Part) (ep eq : List InputSymbol) (l o : Layout) (s : AlikeStage m C K p q xs ys ep eq) (t : AlikeLayout m C K is l o) where
  -- ---- imports

  kind_alike : (x : SymbolType) → imported_kind Plain q ys eq o x ≡ imported_kind Plain p xs ep l x
  kind_alike (of_function f) = ap (λ ts. kinds.Function (number_by same_type ts f)) t.types
  kind_alike (of_global g) = refl
  kind_alike untyped = refl

  import_alike : (k : ImportKey) → import_for Plain q ys eq o k ≡ import_for Plain p xs ep l k
  import_alike k = ap (λ kind. record { «module» = k.module_name; field = k.field; kind = kind }) (kind_alike k.type)

  function_import_alike : (f : FunctionKey) → Unit {0} → function_import Plain q ys eq o (moved_function m f) ≡ option_map (λ i. i) (function_import Plain p xs ep l f)
  function_import_alike (outside k) u = ap Some (import_alike k)
  function_import_alike (linker_function n) u = refl
  function_import_alike (stub name) u = refl
  function_import_alike (own input index) u = refl

  global_import_alike : (g : GlobalKey) → Unit {0} → global_import Plain q ys eq o (moved_global m g) ≡ option_map (λ i. i) (global_import Plain p xs ep l g)
  global_import_alike (outside_global k) u = ap Some (import_alike k)
  global_import_alike (linker_global n) u = refl
  global_import_alike (own_global input index) u = refl
  global_import_alike (got key) u = refl
  global_import_alike (exported_datum e) u = refl

  always : {A : Type 0} (as' : List A) → All (λ (a : A). Unit {0}) as'
  always as' = λ k d lt. tt

  pub function_imports_same : filter_map (function_import Plain q ys eq o) o.numbers.functions ≡ filter_map (function_import Plain p xs ep l) l.numbers.functions
  function_imports_same =
      ap (filter_map (function_import Plain q ys eq o)) t.functions
      ∙ (filter_map_moved (moved_function m) (λ (i : Import). i) (function_import Plain p xs ep l) (function_import Plain q ys eq o) (λ f. Unit {0}) function_import_alike l.numbers.functions (always l.numbers.functions)
      ∙ same_map (filter_map (function_import Plain p xs ep l) l.numbers.functions))

  pub global_imports_same : filter_map (global_import Plain q ys eq o) o.numbers.globals ≡ filter_map (global_import Plain p xs ep l) l.numbers.globals
  global_imports_same =
      ap (filter_map (global_import Plain q ys eq o)) t.globals
      ∙ (filter_map_moved (moved_global m) (λ (i : Import). i) (global_import Plain p xs ep l) (global_import Plain q ys eq o) (λ g. Unit {0}) global_import_alike l.numbers.globals (always l.numbers.globals)
      ∙ same_map (filter_map (global_import Plain p xs ep l) l.numbers.globals))

  -- ---- defined functions

  outside_alike : (f : FunctionKey) → Unit {0} → not (is_import Plain q ys eq o (moved_function m f)) ≡ not (is_import Plain p xs ep l f)
  outside_alike (outside k) u = refl
  outside_alike (linker_function n) u = refl
  outside_alike (stub name) u = refl
  outside_alike (own input index) u = refl

  pub defined_alike : defined Plain q ys eq o ≡ map (moved_function m) (defined Plain p xs ep l)
  defined_alike =
      ap (filter (λ f. not (is_import Plain q ys eq o f))) t.functions
      ∙ filter_moved (moved_function m) (λ f. not (is_import Plain p xs ep l f)) (λ f. not (is_import Plain q ys eq o f)) (λ f. Unit {0}) outside_alike l.numbers.functions (always l.numbers.functions)

  -- the places of their types
  pub type_places_same : (fs : List FunctionKey) → All (IsTyped m C K is p q) fs
      → map (λ f. type_place o.numbers (type_of q ys f)) (map (moved_function m) fs) ≡ map (λ f. type_place l.numbers (type_of p xs f)) fs
  type_places_same fs typed =
      map_map (moved_function m) (λ f. type_place o.numbers (type_of q ys f)) fs
      ∙ map_where (λ f. type_place o.numbers (type_of q ys (moved_function m f))) (λ f. type_place l.numbers (type_of p xs f)) (IsTyped m C K is p q)
      (λ f k. ap (type_place o.numbers) (type_alike m C K is p q xs ys s.parts f k) ∙ ap (λ ts. number_by same_type ts (type_of p xs f)) t.types) fs typed

  -- ---- the memory, the table and its slots

  pub memory_same : memory Plain q ys eq o ≡ memory Plain p xs ep l
  memory_same = ap (λ (at : Places). record { min = at.pages; max = option_map (λ n. n / 65536) q.plan.max_memory }) t.places
      ∙ ap (λ most. record { min = l.places.pages; max = option_map (λ n. n / 65536) most }) s.most

  pub count_same : slot_count o ≡ slot_count l
  count_same = ap length t.slots ∙ length-map l.numbers.slots (moved_function m)

  pub slots_same : map (function_number o.numbers) o.numbers.slots ≡ map (function_number l.numbers) l.numbers.slots
  slots_same =
      ap (map (function_number o.numbers)) t.slots ∙ (map_map (moved_function m) (function_number o.numbers) l.numbers.slots
      ∙ map_where (λ f. function_number o.numbers (moved_function m f)) (function_number l.numbers) (KnowsFunction m C K is) (function_number_alike m C K is l o t) l.numbers.slots t.slots_known)

  -- ---- globals

  pub datum_is : (kind : SymbolKind) → (kind_code kind == kind_code Datum) ≡ true → kind ≡ Datum
  datum_is Function e = absurd cc
  datum_is Datum e = refl
  datum_is GlobalVar e = absurd cc
  datum_is Section e = absurd cc
  datum_is Table e = absurd cc

  -- the definition of a cell is a datum or a function that has a slot
  abbrev pub IsCell : GotKey → Type 0
  IsCell (got_entry e) = K e × ((is_kind Datum e ≡ false) → e.symbol.kind ≡ Function)
  IsCell (got_import k) = Unit {0}
  IsCell (got_null n) = Unit {0}

  got_alike : (key : GotKey) → IsCell key → got_value Plain o (moved_got m key) ≡ got_value Plain l key
  got_alike (got_entry e) cell =
      ap (λ kind. if kind_code kind == kind_code Datum then address_of Plain o (m.entry e) else slot_of o.numbers (function_of (m.entry e))) (is.entry_kind e cell.0)
      ∙ by_kind (is_kind Datum e) refl
    where
      by_kind : (z : Bool) → is_kind Datum e ≡ z → (if z then address_of Plain o (m.entry e) else slot_of o.numbers (function_of (m.entry e))) ≡ (if z then address_of Plain l e else slot_of l.numbers (function_of e))
      by_kind true z = address_alike m C K is l o t e cell.0 (datum_is e.symbol.kind z)
      by_kind false z =
          ap (slot_of o.numbers) (function_moves m C K is e cell.0 (cell.1 z)) ∙ slot_alike m C K is l o t (function_of e) (of_entry m C K is e cell.0 (cell.1 z))
  got_alike (got_import k) cell = slot_alike m C K is l o t (outside k) tt
  got_alike (got_null n) cell = refl

  made_same : (k : ℕ) → made_global_value o k ≡ made_global_value l k
  made_same k = ap (λ (at : Places). if k == 1 then at.stack_high else 0) t.places

  -- what is known of a defined global
  abbrev pub IsGlobalKnown : GlobalKey → Type 0
  IsGlobalKnown (outside_global k) = Unit {0}
  IsGlobalKnown (linker_global n) = Unit {0}
  IsGlobalKnown (own_global input index) = C (chunk_at input 2 index)
  IsGlobalKnown (got key) = IsCell key
  IsGlobalKnown (exported_datum e) = K e × (e.symbol.kind ≡ Datum)

  global_at_alike : (input index : ℕ) → C (chunk_at input 2 index) → (x y : Part) → AlikePart m C K p q x y
      → ((y.chunk.kind == 2) && (y.chunk.input == (m.chunk (chunk_at input 2 index)).input) && (y.chunk.index == (m.chunk (chunk_at input 2 index)).index))
      ≡ ((x.chunk.kind == 2) && (x.chunk.input == input) && (x.chunk.index == index))
  global_at_alike input index held x y alike =
      let c : Chunk = m.chunk (chunk_at input 2 index) in
      let d : Chunk = m.chunk x.chunk in
      let kind : c.kind ≡ 2 = is.chunk_kind (chunk_at input 2 index) held in
      let apart : ((d.input == c.input) && (d.kind == c.kind) && (d.index == c.index)) ≡ ((x.chunk.input == input) && (x.chunk.kind == 2) && (x.chunk.index == index)) =
      is.chunks_apart x.chunk (chunk_at input 2 index) alike.held held in
      let with_kind : ((d.input == c.input) && (d.kind == 2) && (d.index == c.index)) ≡ ((x.chunk.input == input) && (x.chunk.kind == 2) && (x.chunk.index == index)) =
      subst (λ n. ((d.input == c.input) && (d.kind == n) && (d.index == c.index)) ≡ ((x.chunk.input == input) && (x.chunk.kind == 2) && (x.chunk.index == index))) kind apart in
      ap (λ (e : Chunk). (e.kind == 2) && (e.input == c.input) && (e.index == c.index)) alike.chunk
      ∙ (shuffle (d.input == c.input) (d.kind == 2) (d.index == c.index) ∙ (with_kind ∙ sym (shuffle (x.chunk.input == input) (x.chunk.kind == 2) (x.chunk.index == index))))

  global_for_alike : (g : GlobalKey) → IsGlobalKnown g → global_for Plain q ys eq o (moved_global m g) ≡ option_map (λ x. x) (global_for Plain p xs ep l g)
  global_for_alike (outside_global k) known = refl
  global_for_alike (linker_global n) known = ap (λ v. Some (i32_const Plain p xs ep l (n == 1) v)) (made_same n)
  global_for_alike (own_global input index) held =
      let c : Chunk = m.chunk (chunk_at input 2 index) in
      let of_kind : Part → Bool = λ part. part.chunk.kind == 2 in
      let at_q : Part → Bool = λ part. (part.chunk.kind == 2) && (part.chunk.input == c.input) && (part.chunk.index == c.index) in
      let at_p : Part → Bool = λ part. (part.chunk.kind == 2) && (part.chunk.input == input) && (part.chunk.index == index) in
      ap (global_content Plain q ys eq o) (find_of at_q of_kind (λ y e. no_kind (y.chunk.kind == 2) (y.chunk.input == c.input) (y.chunk.index == c.index) e) ys)
      ∙ (zip_find (AlikePart m C K p q) at_p at_q (global_content Plain p xs ep l) (global_content Plain q ys eq o) refl (λ x y a is. a.content.global)
      (global_at_alike input index held) (parts_of_kind 2 xs) (parts_of_kind 2 ys) s.parts.globals
      ∙ (ap (global_content Plain p xs ep l) (sym (find_of at_p of_kind (λ x e. no_kind (x.chunk.kind == 2) (x.chunk.input == input) (x.chunk.index == index) e) xs))
      ∙ sym (same_option (global_content Plain p xs ep l (find at_p xs)))))
  global_for_alike (got key) cell = ap (λ v. Some (i32_const Plain p xs ep l false v)) (got_alike key cell)
  global_for_alike (exported_datum e) known = ap (λ v. Some (i32_const Plain p xs ep l false v)) (address_alike m C K is l o t e known.0 known.1)

  pub globals_same : All IsGlobalKnown l.numbers.globals → filter_map (global_for Plain q ys eq o) o.numbers.globals ≡ filter_map (global_for Plain p xs ep l) l.numbers.globals
  globals_same known =
      ap (filter_map (global_for Plain q ys eq o)) t.globals
      ∙ (filter_map_moved (moved_global m) (λ (g : ModuleGlobal). g) (global_for Plain p xs ep l) (global_for Plain q ys eq o) IsGlobalKnown global_for_alike l.numbers.globals known
      ∙ same_map (filter_map (global_for Plain p xs ep l) l.numbers.globals))

  -- ---- exports

  export_alike : (e : InputSymbol) → K e × (export_name q (m.entry e) ≡ export_name p e) → export_of Plain q ys eq o (m.entry e) (m.entry e).symbol.kind ≡ export_of Plain p xs ep l e e.symbol.kind
  export_alike e known = ap (export_of Plain q ys eq o (m.entry e)) (is.entry_kind e known.0) ∙ by_kind e.symbol.kind refl
    where
      by_kind : (kind : SymbolKind) → e.symbol.kind ≡ kind → export_of Plain q ys eq o (m.entry e) kind ≡ export_of Plain p xs ep l e kind
      by_kind Function of =
          ap (λ name. record { name = name; kind = 0; index = function_number o.numbers (function_of (m.entry e)) }) known.1
          ∙ ap (λ n. record { name = export_name p e; kind = 0; index = n })
          (ap (function_number o.numbers) (function_moves m C K is e known.0 of) ∙ function_number_alike m C K is l o t (function_of e) (of_entry m C K is e known.0 of))
      by_kind Datum of =
          ap (λ name. record { name = name; kind = 3; index = global_number o.numbers (exported_datum (m.entry e)) }) known.1
          ∙ ap (λ n. record { name = export_name p e; kind = 3; index = n }) (global_number_alike m C K is l o t (exported_datum e) known.0)
      by_kind GlobalVar of =
          ap (λ name. record { name = name; kind = 3; index = global_number o.numbers (global_of Plain (m.entry e)) }) known.1
          ∙ ap (λ n. record { name = export_name p e; kind = 3; index = n })
          (ap (global_number o.numbers) (global_key_moves m C K is e known.0 of) ∙ global_number_alike m C K is l o t (global_of Plain e) (global_entry m C K is e known.0 of))
      by_kind Section of = ap (λ name. record { name = name; kind = 1; index = 0 }) known.1
      by_kind Table of = ap (λ name. record { name = name; kind = 1; index = 0 }) known.1

  both_known : (es : List InputSymbol) → All K es → All (λ e. export_name q (m.entry e) ≡ export_name p e) es → All (λ e. K e × (export_name q (m.entry e) ≡ export_name p e)) es
  both_known [] a b = λ k d below. absurd (omega (arith, below))
  both_known (e ∷ es) a b =
      All-cons (λ e. K e × (export_name q (m.entry e) ≡ export_name p e)) e es (All-head K e es a, All-head (λ e. export_name q (m.entry e) ≡ export_name p e) e es b)
      (both_known es (All-tail K e es a) (All-tail (λ e. export_name q (m.entry e) ≡ export_name p e) e es b))

  pub exports_same : map (λ e. export_of Plain q ys eq o e e.symbol.kind) eq ≡ map (λ e. export_of Plain p xs ep l e e.symbol.kind) ep
  exports_same =
      ap (map (λ e. export_of Plain q ys eq o e e.symbol.kind)) s.exports_are ∙ (map_map m.entry (λ e. export_of Plain q ys eq o e e.symbol.kind) ep
      ∙ map_where (λ e. export_of Plain q ys eq o (m.entry e) (m.entry e).symbol.kind) (λ e. export_of Plain p xs ep l e e.symbol.kind)
      (λ e. K e × (export_name q (m.entry e) ≡ export_name p e)) export_alike ep (both_known ep s.exports_held s.export_names))
