-- The numbers of a shared output are in their ranges, and its names UTF-8.
use Rattle.std.proofs.Common.{◌≡◌, ℕ, ◌+◌, ◌<◌, ◌≤◌, ◌^◌, List, [], ◌∷◌, ◌++◌, length, map, refl, sym, ◌∙◌, subst, inl, inr, ⊎_elim, Option, Some, None, Bool, true, false, arith, length-append}
use Rattle.std.specs.Prelude.{IsUtf8, codes, filter, filter_map, find, position, unwrap_or, cond, not, ◌==◌, ◌&&◌, nat_lt, slice_index, zero, suc}
use Rattle.std.specs.List.{All, list_all}
use Rattle.std.proofs.lemmas.List.{length-map}
use Rattle.std.proofs.lemmas.List.Elements.{All-cons, All-nil}
use Rattle.std.proofs.lemmas.Str.{IsUtf8-from_ascii}
use Rattle.std.proofs.lemmas.Bool.{and_parts, ltb-true}
use Rattle.list_places.specs.Has.{Has, Apart}
use Rattle.list_places.proofs.Lists.{has_map, has_pick, has_either, some_is, position_below}
use Rattle.leb_codec.proofs.Computed.{u32_spells}
use Rattle.wasm_grammar.specs.Grammar.{SpellsName}
use Rattle.wasm_types.specs.declared.import.Import.{Import}
use Rattle.wasm_types.specs.declared.const_expr.ConstExpr.TheVariants as constants
use Rattle.wasm_types.specs.Same.{same_type}
use Rattle.wasm_module.specs.declared.parts.ModuleGlobal.{ModuleGlobal}
use Rattle.wasm_module.specs.Sections.{BeginsWithName}
use Rattle.linking_section.specs.declared.symbol.SymbolKind.{SymbolKind}
use Rattle.linking_section.specs.declared.symbol.SymbolKind.TheVariants.{Function, Datum, GlobalVar, Section, Table}
use Rattle.made_symbols.specs.declared.mode.Mode.TheVariants.{Shared}
use Rattle.name_rules.specs.Entries.{InputSymbol, ImportKey, SymbolType, of_function, of_global, untyped}
use Rattle.reloc_apply.specs.declared.window.Patch.{Patch}
use Rattle.reloc_apply.specs.Windows.{patch_of}
use Rattle.dylink_out.specs.Shared.{dylink_payload}
use Rattle.image_emit.specs.Bytes.{Tree, bytes_of, source_bytes, sized}
use Rattle.image_emit.specs.Filled.{each_filled}
use Rattle.image_emit.specs.Spelled.{IsSpellable, IsU32, IsImport, IsImportKind, IsTable, AreLimits, IsGlobal, IsExport, IsElement, entries}
use Rattle.output_module.specs.link_worlds.link_rules.Program.{Program, Part, Content, function, segment, global, linker_made}
use Rattle.output_module.specs.link_worlds.link_rules.Marks.{live, refs_of, memory_name, export_name}
use Rattle.output_module.specs.link_worlds.link_rules.Keys.{FunctionKey, outside, linker_function, stub, own, GlobalKey, outside_global, linker_global, own_global, got, exported_datum, functions, slots, is_taken, takes_slot, ref_function, function_of, global_of, function_number, same_function, same_global, type_of, type_place}
use Rattle.output_module.specs.link_worlds.link_rules.Loader.{dylink}
use Rattle.output_module.specs.link_worlds.link_rules.Values.{Layout, slot_count}
use Rattle.output_module.specs.link_worlds.link_rules.Output.{layout, image, imports, import_for, imported_kind, function_import, global_import, memory, memory_import, table_import, export_of, global_for, global_content, content_global, is_import, defined, body_of, source_windows, held}
use Rattle.output_module.specs.link_worlds.Sound.{same_part}
use Rattle.output_module.specs.Outputs.{IsCoded}
use Rattle.output_module.proofs.Spelled.{signed_range}
use Rattle.shared_module.specs.Outputs.{shared_tree, IsSharedWritten}
use Rattle.shared_module.specs.Fit.{IsNamed, HasConstant, IsSharedFit, SharedOutputIsWritten}
use Rattle.shared_module.proofs.Keys.{global_count}
use Rattle.shared_module.proofs.Stored.{all_stored}

all_of : {A : Type 0} (P : A → Type 0) (xs : List A) → ((x : A) → Has xs x → P x) → All P xs
all_of P [] h = All-nil P
all_of P (x ∷ xs) h = All-cons P x xs (h x (inl refl)) (all_of P xs (λ y m. h y (inr m)))

below : {A : Type 0} (test : A → Bool) (xs : List A) (n : ℕ) → length xs < n → unwrap_or (position test xs) 0 < n
below test xs n h = position_below test xs (position test xs) refl n h

found_has : {A : Type 0} (test : A → Bool) (xs : List A) (x : A) → find test xs ≡ Some x → Has xs x
found_has test [] x h = absurd (grind arith)
found_has test (y ∷ ys) x h = onto (test y) h (found_has test ys x)
  where
    onto : (b : Bool) → cond b (Some y) (find test ys) ≡ Some x → (find test ys ≡ Some x → Has ys x) → Has (y ∷ ys) x
    onto true e rest = inl (some_is y x e)
    onto false e rest = inr (rest e)

-- ---- names of the linker's own are ASCII

low_at : (bytes : List ℕ) → list_all (λ b. nat_lt b 128) bytes ≡ true → (i : ℕ) → slice_index bytes i < 128
low_at [] e zero = omega arith
low_at [] e (suc i) = omega arith
low_at (x ∷ xs) e zero = ltb-true x 128 (and_parts (nat_lt x 128) (list_all (λ b. nat_lt b 128) xs) e).0
low_at (x ∷ xs) e (suc i) = low_at xs (and_parts (nat_lt x 128) (list_all (λ b. nat_lt b 128) xs) e).1 i

low_name : (bytes : List ℕ) → list_all (λ b. nat_lt b 128) bytes ≡ true → IsUtf8 bytes
low_name bytes e = IsUtf8-from_ascii bytes (low_at bytes e)

section_name : SpellsName (codes "dylink.0") (sized (codes "dylink.0"))
section_name = (low_name (codes "dylink.0") refl, (_, codes "dylink.0", u32_spells 8 (omega arith), refl, refl))

begins : (payload : List ℕ) → BeginsWithName (sized (codes "dylink.0") ++ payload)
begins payload = (codes "dylink.0", sized (codes "dylink.0"), payload, section_name, refl)

-- ---- how many

filled_many : (pss : List (List Patch)) (bs : List (List ℕ)) → length (each_filled pss bs) ≡ length bs
filled_many pss [] = refl
filled_many [] (b ∷ bs) = refl
filled_many (ps ∷ pss) (b ∷ bs) = let l : length (each_filled pss bs) ≡ length bs = filled_many pss bs in omega (arith, l)

filter_long : {A : Type 0} (test : A → Bool) (xs : List A) → length (filter test xs) ≤ length xs
filter_long test [] = omega arith
filter_long test (x ∷ xs) = onto (test x) (filter_long test xs)
  where
    onto : (b : Bool) → length (filter test xs) ≤ length xs → length (cond b (x ∷ filter test xs) (filter test xs)) ≤ suc (length xs)
    onto true h = omega (arith, h)
    onto false h = omega (arith, h)

third_and_last : {A : Type 0} (a b c d : List A) → length c + length d ≤ length (((a ++ b) ++ c) ++ d)
third_and_last a b c d =
    let x = length-append ((a ++ b) ++ c) d in
    let y = length-append (a ++ b) c in
    omega (arith, x, y)

imports_and_functions : (t : Tree) → length t.imports + length t.functions ≤ entries t
imports_and_functions t = omega arith

imports_and_globals : (t : Tree) → length t.imports + length t.globals ≤ entries t
imports_and_globals t = omega arith

some_types : (t : Tree) → length t.types ≤ entries t
some_types t = omega arith

module _ (law : (t : Tree) → entries t ≤ length (bytes_of t)) (p : Program) (exports : List InputSymbol) (f : IsSharedFit p exports) where
  abbrev parts : List Part
  parts = live p exports

  abbrev l : Layout
  l = layout Shared p (live p exports) exports

  abbrev fs : List Import
  fs = filter_map (function_import Shared p parts exports l) l.numbers.functions

  abbrev gs : List Import
  gs = filter_map (global_import Shared p parts exports l) l.numbers.globals

  split : (ks : List FunctionKey) → length ks ≡ length (filter_map (function_import Shared p parts exports l) ks) + length (filter (λ f. not (is_import Shared p parts exports l f)) ks)
  split [] = refl
  split (outside k ∷ ks) = let h = split ks in omega (arith, h)
  split (linker_function n ∷ ks) = let h = split ks in omega (arith, h)
  split (stub name ∷ ks) = let h = split ks in omega (arith, h)
  split (own i n ∷ ks) = let h = split ks in omega (arith, h)

  imports_long : length fs + length gs ≤ length (imports Shared p parts exports l)
  imports_long = third_and_last (memory_import Shared p parts exports l) (table_import Shared p parts exports l) fs gs

  few_functions : length l.numbers.functions < 2 ^ 32
  unfolding image
  few_functions =
      let t = shared_tree p parts exports l in
      let a = imports_and_functions t in
      let b = law t in
      let c = f.short in
      let d = split l.numbers.functions in
      let m = length-map (defined Shared p parts exports l) (λ f. type_place l.numbers (type_of p parts f)) in
      let i = imports_long in
      omega (arith, a, b, c, d, m, i)

  few_types : length l.numbers.types < 2 ^ 32
  unfolding image
  few_types =
      let t = shared_tree p parts exports l in
      let a : length l.numbers.types ≤ entries t = some_types t in
      let b = law t in
      let c = f.short in
      omega (arith, a, b, c)

  few_globals : length l.numbers.globals < 2 ^ 32
  unfolding image layout
  few_globals =
      let t = shared_tree p parts exports l in
      let a = imports_and_globals t in
      let b = law t in
      let c = f.short in
      let d = global_count p parts exports f.constants in
      let i = imports_long in
      omega (arith, a, b, c, d, i)

  -- ---- imports

  kind_fits : (t : SymbolType) → IsImportKind (imported_kind Shared p parts exports l t)
  kind_fits (of_function t) = below (same_type t) l.numbers.types (2 ^ 32) few_types
  kind_fits (of_global g) = tt
  kind_fits untyped = omega arith

  key_fits : (k : ImportKey) → IsNamed k → IsImport (import_for Shared p parts exports l k)
  key_fits k h = record { from = h.0; field = h.1; kind = kind_fits k.type }

  by_function : (k : FunctionKey) (i : Import) → Has l.numbers.functions k → function_import Shared p parts exports l k ≡ Some i → IsImport i
  by_function (outside k) i h e = subst IsImport (some_is _ i e) (key_fits k (f.functions k h))
  by_function (linker_function n) i h e = absurd (grind arith)
  by_function (stub name) i h e = absurd (grind arith)
  by_function (own a b) i h e = absurd (grind arith)

  by_global : (k : GlobalKey) (i : Import) → Has l.numbers.globals k → global_import Shared p parts exports l k ≡ Some i → IsImport i
  by_global (outside_global k) i h e = subst IsImport (some_is _ i e) (key_fits k (f.globals k h))
  by_global (linker_global n) i h e = absurd (grind arith)
  by_global (own_global a b) i h e = absurd (grind arith)
  by_global (got g) i h e = absurd (grind arith)
  by_global (exported_datum d) i h e = absurd (grind arith)

  -- slots are among the functions
  slots_few : slot_count l < 2 ^ 32
  unfolding layout slots
  slots_few = let a : slot_count l ≤ length l.numbers.functions = filter_long (is_taken (map ref_function (filter (takes_slot Shared) (refs_of parts)))) (functions Shared p parts) in let b = few_functions in omega (arith, a, b)

  memory_fits : AreLimits (memory Shared p parts exports l)
  memory_fits = record { least = (let d = f.ends in omega (arith, d)); most = tt }

  table_fits : (i : Import) → Has (table_import Shared p parts exports l) i → IsImport i
  table_fits i (inl e) = subst IsImport e (record { from = low_name (codes "env") refl; field = low_name (codes "__indirect_function_table") refl; kind = record { least = slots_few; most = tt } })
  table_fits i (inr h) = absurd h

  memory_in : (i : Import) → Has (memory_import Shared p parts exports l) i → IsImport i
  memory_in i (inl e) = subst IsImport e (record { from = low_name (codes "env") refl; field = low_name memory_name refl; kind = memory_fits })
  memory_in i (inr h) = absurd h

  import_fits : (i : Import) → Has (imports Shared p parts exports l) i → IsImport i
  import_fits i h =
      let mem = memory_import Shared p parts exports l in
      let tab = table_import Shared p parts exports l in
      ⊎_elim
      (λ a. ⊎_elim
      (λ b. ⊎_elim (memory_in i) (table_fits i) (has_either mem tab i b))
      (λ b. let r = has_pick (function_import Shared p parts exports l) l.numbers.functions i b in by_function r.0 i r.1 r.2)
      (has_either (mem ++ tab) fs i a))
      (λ a. let r = has_pick (global_import Shared p parts exports l) l.numbers.globals i a in by_global r.0 i r.1 r.2)
      (has_either (mem ++ tab ++ fs) gs i h)

  -- ---- globals

  content_fits : (c : Content) (g : ModuleGlobal) → HasConstant c → content_global c ≡ Some g → IsGlobal g
  content_fits (function t) g f e = absurd (grind arith)
  content_fits (segment i) g f e = absurd (grind arith)
  content_fits (global d) g f e = subst IsGlobal (some_is _ g e) f
  content_fits (linker_made m) g f e = absurd (grind arith)

  part_fits : (o : Option Part) (g : ModuleGlobal) → ((x : Part) → o ≡ Some x → Has parts x) → global_content Shared p parts exports l o ≡ Some g → IsGlobal g
  part_fits None g h e = absurd (grind arith)
  part_fits (Some x) g h e = content_fits x.content g (f.contents x (h x refl)) e

  global_fits : (k : GlobalKey) (g : ModuleGlobal) → global_for Shared p parts exports l k ≡ Some g → IsGlobal g
  global_fits (outside_global k) g e = absurd (grind arith)
  global_fits (linker_global n) g e = subst IsGlobal (some_is _ g e) (signed_range _)
  global_fits (own_global a b) g e = part_fits (find (λ part. (part.chunk.kind == 2) && (part.chunk.input == a) && (part.chunk.index == b)) parts) g (λ x q. found_has _ parts x q) e
  global_fits (got k) g e = subst IsGlobal (some_is _ g e) (signed_range 0)
  global_fits (exported_datum d) g e = subst IsGlobal (some_is _ g e) (signed_range _)

  -- ---- exports, elements

  export_fits : (e : InputSymbol) (kind : SymbolKind) → IsUtf8 (export_name p e) → IsExport (export_of Shared p parts exports l e kind)
  export_fits e Function n = record { name = n; kind = omega arith; index = below (same_function (function_of e)) l.numbers.functions (2 ^ 32) few_functions }
  export_fits e Datum n = record { name = n; kind = omega arith; index = below (same_global (exported_datum e)) l.numbers.globals (2 ^ 32) few_globals }
  export_fits e GlobalVar n = record { name = n; kind = omega arith; index = below (same_global (global_of Shared e)) l.numbers.globals (2 ^ 32) few_globals }
  export_fits e Section n = record { name = n; kind = omega arith; index = omega arith }
  export_fits e Table n = record { name = n; kind = omega arith; index = omega arith }

  all_numbers : (n : FunctionKey → ℕ) (xs : List FunctionKey) → ((x : FunctionKey) → IsU32 (n x)) → All IsU32 (map n xs)
  all_numbers n [] h = All-nil IsU32
  all_numbers n (x ∷ xs) h = All-cons IsU32 (n x) (map n xs) (h x) (all_numbers n xs h)

  elements_fit : (b : Bool) → All IsElement (cond b [] (record { table = None; offset = constants.Get 2; functions = map (function_number l.numbers) l.numbers.slots } ∷ []))
  elements_fit true = All-nil IsElement
  elements_fit false = All-cons IsElement (record { table = None; offset = constants.Get 2; functions = map (function_number l.numbers) l.numbers.slots }) []
      (record { table = tt; offset = omega arith; functions = all_numbers (function_number l.numbers) l.numbers.slots (λ k. below (same_function k) l.numbers.functions (2 ^ 32) few_functions) })
      (All-nil IsElement)

  spellable : IsSpellable (shared_tree p parts exports l)
  unfolding image
  spellable = record {
    short = f.short;
    custom = begins (dylink_payload (dylink Shared p parts l));
    imports = all_of IsImport (imports Shared p parts exports l) import_fits;
    functions = all_numbers (λ f. type_place l.numbers (type_of p parts f)) (defined Shared p parts exports l) (λ k. below (same_type (type_of p parts k)) l.numbers.types (2 ^ 32) few_types);
    tables = All-nil IsTable;
    memories = All-nil AreLimits;
    globals = all_of IsGlobal (filter_map (global_for Shared p parts exports l) l.numbers.globals) (λ g h. let r = has_pick (global_for Shared p parts exports l) l.numbers.globals g h in global_fits r.0 g r.2);
    exports = all_of IsExport (map (λ e. export_of Shared p parts exports l e e.symbol.kind) exports)
        (λ x h. let r = has_map (λ e. export_of Shared p parts exports l e e.symbol.kind) exports x h in subst IsExport r.2 (export_fits r.0 r.0.symbol.kind (f.names r.0 r.1)));
    elements = elements_fit (slot_count l == 0);
    code = length-map (defined Shared p parts exports l) _ ∙ sym (filled_many (map (map patch_of) (held Shared (source_windows Shared p parts exports l))) (map (source_bytes p.files) (map (body_of Shared p parts exports l) (defined Shared p parts exports l)))
        ∙ length-map (map (body_of Shared p parts exports l) (defined Shared p parts exports l)) (source_bytes p.files) ∙ length-map (defined Shared p parts exports l) (body_of Shared p parts exports l));
    offset = omega arith;
  }

  pub written : Apart same_part p.parts → ((part : Part) → Has (live p exports) part → part.chunk.kind ≡ 0 → (part.chunk.input ≡ 0 → ⊥) → IsCoded p part) → IsSharedWritten p exports
  written apart coded = record { apart = apart; coded = coded; stored = all_stored p parts exports few_globals f.addends; few = few_functions; spellable = spellable }

pub output_is_written : ((t : Tree) → entries t ≤ length (bytes_of t)) → SharedOutputIsWritten
output_is_written law p exports apart coded f = written law p exports f apart coded
