-- The lists of keys have no repeats, whichever parts without repeats are live.
use Rattle.std.proofs.Common.{◌≡◌, ℕ, List, [], ◌++◌, map, Some, Bool, true, refl, sym, ap, ◌∙◌, arith}
use Rattle.std.specs.Prelude.{◌==◌, ◌&&◌, not, filter, filter_map, bytes_eq}
use Rattle.std.specs.List.{list_any}
use Rattle.list_places.specs.Has.{Apart, Same}
use Rattle.list_places.proofs.Lists.{has_map, has_pick, turned, apart_map, apart_pick, apart_filter, apart_distinct, given_some}
use Rattle.wasm_types.specs.Same.{same_type}
use Rattle.linking_section.specs.declared.symbol.SymbolKind.TheVariants.{Datum}
use Rattle.made_symbols.specs.declared.mode.Mode.TheVariants.{Plain}
use Rattle.name_rules.specs.Entries.{InputSymbol, ImportKey, is_kind, name_of, same_import, same_entry}
use Rattle.link_rules.specs.Program.{Program, Part, same_chunk}
use Rattle.link_rules.specs.Marks.{refs_of}
use Rattle.link_rules.specs.Keys.{FunctionKey, outside, linker_function, stub, own, GlobalKey, outside_global, linker_global, own_global, got, exported_datum, same_function, same_global, same_got, functions, function_imports_of, stub_names, calls_stub, made_function_key, own_function_key, is_function_type, is_global_type, has_import, used_imports, imports_by, imports_in_order, slots, callable, is_taken, takes_slot, ref_function, globals, used_globals, made_global_key, own_global_key, got_entries, needs_got, parts_of_kind, ref_got, datum_key, types, type_of, window_types}
use Rattle.link_rules.specs.Values.{segments}
use Rattle.link_rules.specs.Output.{layout}
use Rattle.link_worlds.specs.Sound.{same_part}
use Rattle.link_worlds.proofs.Apart.{imports_apart}
use Rattle.link_worlds.proofs.Keys.{functions_same, globals_same, types_same, gots_same, chunk_equal, chunk_itself}
use Rattle.link_worlds.proofs.Refs.{bytes_same}
use Rattle.key_laws.specs.Differ.{AllDiffer}
use Rattle.key_laws.proofs.Stretches.{differ, Stretch, one_sort, beside, made_pick, own_pick}

-- ---- sorts of keys

abbrev function_sort : FunctionKey → ℕ
function_sort (outside k) = 0
function_sort (linker_function n) = 1
function_sort (stub name) = 2
function_sort (own i n) = 3

functions_sorted : (u v : FunctionKey) → same_function u v ≡ true → function_sort u ≡ function_sort v
functions_sorted (outside a) (outside b) h = refl
functions_sorted (linker_function a) (linker_function b) h = refl
functions_sorted (stub a) (stub b) h = refl
functions_sorted (own a i) (own b j) h = refl
functions_sorted _ _ h = absurd (grind arith)

abbrev global_sort : GlobalKey → ℕ
global_sort (outside_global k) = 0
global_sort (linker_global n) = 1
global_sort (own_global i n) = 2
global_sort (got k) = 3
global_sort (exported_datum e) = 4

globals_sorted : (u v : GlobalKey) → same_global u v ≡ true → global_sort u ≡ global_sort v
globals_sorted (outside_global a) (outside_global b) h = refl
globals_sorted (linker_global a) (linker_global b) h = refl
globals_sorted (own_global a i) (own_global b j) h = refl
globals_sorted (got a) (got b) h = refl
globals_sorted (exported_datum a) (exported_datum b) h = refl
globals_sorted _ _ h = absurd (grind arith)

datum_pick : (a b : InputSymbol) (u v : GlobalKey) → datum_key a ≡ Some u → datum_key b ≡ Some v → same_global u v ≡ true → same_entry a b ≡ true
datum_pick a b u v h k e =
    let r = given_some (is_kind Datum a) (exported_datum a) u h in
    let s = given_some (is_kind Datum b) (exported_datum b) v k in
    ap (λ x. same_global x (exported_datum b)) r.1 ∙ ap (same_global u) s.1 ∙ e

chunks_same : Same same_chunk
chunks_same = record { itself = chunk_itself; carries = λ a b h z. ap (λ c. same_chunk c z) (chunk_equal a b h) }

-- ---- the lists

module _ (p : Program) (parts : List Part) (apart : Apart same_part parts) where
  imports_for : (test : ImportKey → Bool) → Apart same_import (filter test (imports_in_order p))
  imports_for test = apart_filter same_import test (imports_in_order p) (imports_apart p)

  functions_apart : Apart same_function (functions Plain p parts)
  unfolding functions
  functions_apart =
      let S = Stretch same_function function_sort functions_sorted in
      let test = λ (k : ImportKey). is_function_type k.type && has_import (used_imports (filter (imports_by Plain) (refs_of parts))) k in
      let ins = function_imports_of Plain p (refs_of parts) in
      let names = stub_names p (refs_of parts) in
      let outs = map outside ins in
      let mades = filter_map made_function_key parts in
      let stubs = map stub names in
      let owns = filter_map own_function_key parts in
      let a : S 0 1 outs = one_sort same_function function_sort functions_sorted 0 outs (apart_map same_import same_function outside (λ x y h. h) ins (imports_for test)) (λ k h. let r = has_map outside ins k h in ap function_sort (sym r.2)) in
      let b : S 1 2 mades = one_sort same_function function_sort functions_sorted 1 mades (apart_pick same_part same_function made_function_key (made_pick same_function 0 linker_function (λ i j h. h)) parts apart)
      (λ k h. let r = has_pick made_function_key parts k h in ap function_sort (sym (given_some ((r.0.chunk.input == 0) && (r.0.chunk.kind == 0)) (linker_function r.0.chunk.index) k r.2).1)) in
      let c : S 2 3 stubs = one_sort same_function function_sort functions_sorted 2 stubs
      (apart_map bytes_eq same_function stub (λ x y h. h) names (apart_distinct bytes_eq (turned bytes_eq bytes_same) [] (map name_of (filter (λ (e : InputSymbol). list_any (calls_stub (name_of e)) (refs_of parts)) (callable p))) tt))
      (λ k h. let r = has_map stub names k h in ap function_sort (sym r.2)) in
      let d : S 3 4 owns = one_sort same_function function_sort functions_sorted 3 owns (apart_pick same_part same_function own_function_key (own_pick same_function 0 own (λ i x j y h. h)) parts apart)
      (λ k h. let r = has_pick own_function_key parts k h in ap function_sort (sym (given_some (not (r.0.chunk.input == 0) && (r.0.chunk.kind == 0)) (own r.0.chunk.input r.0.chunk.index) k r.2).1)) in
      let e = beside same_function function_sort functions_sorted 1 2 3 mades stubs (omega arith) (omega arith) b c in
      let f = beside same_function function_sort functions_sorted 1 3 4 (mades ++ stubs) owns (omega arith) (omega arith) e d in
      (beside same_function function_sort functions_sorted 0 1 4 outs (mades ++ stubs ++ owns) (omega arith) (omega arith) a f).apart

  slots_apart : Apart same_function (slots Plain parts (functions Plain p parts))
  unfolding slots
  slots_apart = apart_filter same_function (is_taken (map ref_function (filter (takes_slot Plain) (refs_of parts)))) (functions Plain p parts) functions_apart

  types_apart : Apart same_type (types p parts (functions Plain p parts))
  unfolding types
  types_apart = apart_distinct same_type (turned same_type types_same) [] (map (type_of p parts) (functions Plain p parts) ++ window_types parts) tt

  segments_apart : Apart same_chunk (map (λ (part : Part). part.chunk) (segments parts))
  segments_apart = apart_map same_part same_chunk (λ part. part.chunk) (λ x y h. h) (segments parts) (apart_filter same_part (λ (part : Part). part.chunk.kind == 1) parts apart)

  module _ (exports : List InputSymbol) (others : Apart same_entry exports) where
    globals_apart : Apart same_global (globals Plain p parts exports)
    unfolding globals
    globals_apart =
        let S = Stretch same_global global_sort globals_sorted in
        let test = λ (k : ImportKey). is_global_type k.type && has_import (used_imports (filter (imports_by Plain) (refs_of parts))) k in
        let ins = used_globals Plain p (refs_of parts) in
        let cells = got_entries Plain parts in
        let outs = map outside_global ins in
        let mades = filter_map made_global_key parts in
        let owns = filter_map own_global_key parts in
        let gots = map got cells in
        let dates = filter_map datum_key exports in
        let a : S 0 1 outs = one_sort same_global global_sort globals_sorted 0 outs (apart_map same_import same_global outside_global (λ x y h. h) ins (imports_for test)) (λ k h. let r = has_map outside_global ins k h in ap global_sort (sym r.2)) in
        let b : S 1 2 mades = one_sort same_global global_sort globals_sorted 1 mades (apart_pick same_part same_global made_global_key (made_pick same_global 2 linker_global (λ i j h. h)) parts apart)
        (λ k h. let r = has_pick made_global_key parts k h in ap global_sort (sym (given_some ((r.0.chunk.input == 0) && (r.0.chunk.kind == 2)) (linker_global r.0.chunk.index) k r.2).1)) in
        let c : S 2 3 owns = one_sort same_global global_sort globals_sorted 2 owns (apart_pick same_part same_global own_global_key (own_pick same_global 2 own_global (λ i x j y h. h)) parts apart)
        (λ k h. let r = has_pick own_global_key parts k h in ap global_sort (sym (given_some (not (r.0.chunk.input == 0) && (r.0.chunk.kind == 2)) (own_global r.0.chunk.input r.0.chunk.index) k r.2).1)) in
        let d : S 3 4 gots = one_sort same_global global_sort globals_sorted 3 gots
        (apart_map same_got same_global got (λ x y h. h) cells (apart_distinct same_got (turned same_got gots_same) [] (map ref_got (filter (needs_got Plain) (refs_of (parts_of_kind 0 parts)))) tt))
        (λ k h. let r = has_map got cells k h in ap global_sort (sym r.2)) in
        let e : S 4 5 dates = one_sort same_global global_sort globals_sorted 4 dates (apart_pick same_entry same_global datum_key datum_pick exports others)
        (λ k h. let r = has_pick datum_key exports k h in ap global_sort (sym (given_some (is_kind Datum r.0) (exported_datum r.0) k r.2).1)) in
        let f = beside same_global global_sort globals_sorted 1 2 3 mades owns (omega arith) (omega arith) b c in
        let g = beside same_global global_sort globals_sorted 1 3 4 (mades ++ owns) gots (omega arith) (omega arith) f d in
        let h = beside same_global global_sort globals_sorted 1 4 5 (mades ++ owns ++ gots) dates (omega arith) (omega arith) g e in
        (beside same_global global_sort globals_sorted 0 1 5 outs (mades ++ owns ++ gots ++ dates) (omega arith) (omega arith) a h).apart

    pub all_differ : AllDiffer (layout Plain p parts exports)
    unfolding layout
    all_differ = record {
      functions = differ same_function functions_same (functions Plain p parts) functions_apart;
      slots = differ same_function functions_same (slots Plain parts (functions Plain p parts)) slots_apart;
      globals = differ same_global globals_same (globals Plain p parts exports) globals_apart;
      types = differ same_type types_same (types p parts (functions Plain p parts)) types_apart;
      segments = differ same_chunk chunks_same (map (λ (part : Part). part.chunk) (segments parts)) segments_apart;
    }
