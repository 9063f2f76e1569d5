-- The first values of cells, and what the memory holds at first, are those of the objects.
use Rattle.std.proofs.Common.{◌≡◌, ℕ, ◌==◌, Bool, true, false, not, ◌&&◌, ◌||◌, List, [], ◌∷◌, ◌++◌, map, filter, filter_map, slice_get, get_or, Option, Some, None, option_map, refl, sym, ap, subst, ◌∙◌}
use Rattle.std.specs.Prelude.{if◌then◌else◌, slice_index_or, option_and_then}
use Rattle.std.specs.List.{list_any, All}
use Rattle.std.proofs.lemmas.Bool.{eqb-true}
use Rattle.std.proofs.lemmas.List.{map-append}
use Rattle.std.proofs.lemmas.List.Elements.{All-head, All-tail, All-append}
use Rattle.std.proofs.lemmas.Option.{slice_get-map, get_or_from_slice_get}
use Rattle.link_program.specs.wl_base.Choice.{given}
use Rattle.link_program.specs.wasm_types.declared.function.FuncType.{FuncType}
use Rattle.link_program.specs.image_emit.Bytes.{file_part}
use Rattle.link_program.specs.made_symbols.declared.mode.Mode.TheVariants.{Plain}
use Rattle.made_symbols.specs.Made.{stack_pointer}
use Rattle.link_program.specs.memory_layout.declared.rules.Places.{Places}
use Rattle.link_program.specs.reloc_apply.declared.window.Form.TheVariants.{Word4}
use Rattle.link_program.specs.reloc_apply.Windows.{filled, patched, patch_of, over, little, spelled}
use Rattle.link_program.specs.name_rules.Entries.{InputSymbol, ImportKey, same_import}
use Rattle.link_program.specs.link_rules.Program as rules
use Rattle.link_program.specs.link_rules.Program.{a_symbol, a_type, chunk_at, function, segment, global, linker_made}
use Rattle.link_program.specs.link_rules.Keys as keys
use Rattle.link_program.specs.link_rules.Keys.{outside_global, linker_global, own_global, is_global_type, imports_in_order, made_global_key, own_global_key}
use Rattle.link_program.specs.link_rules.Values as values
use Rattle.link_program.specs.link_rules.Values.{form_of, named_window, windows, part_bytes, segment_address, segments, solid_segments}
use Rattle.link_program.specs.link_rules.Output.{layout}
use Rattle.link_program.specs.declared.named.Named.{Named}
use Rattle.link_program.specs.declared.named.Named.TheVariants as items
use Rattle.link_program.specs.declared.part.Content.{Content}
use Rattle.link_program.specs.declared.part.Content.TheVariants as contents
use Rattle.link_program.specs.Keys.{told_global}
use Rattle.link_program.specs.Seen.{SeenRef, seen_named, told_named, seen_content, told_content}
use Rattle.link_program.specs.Look.{part_at, row_at, chunk_number}
use Rattle.link_program.specs.Live.{AreLive}
use Rattle.link_layout.specs.declared.values.Layout.{Layout}
use Rattle.link_layout.specs.Layout.{IsLayoutIn}
use Rattle.link_layout.specs.Placed.{address_among, chunks_of}
use Rattle.link_layout.specs.Segments.{segment_numbers}
use Rattle.link_layout.proofs.Parts.{part_told, segments_are, shape_told}
use Rattle.link_layout.proofs.Pairs.{filter_pairs}
use Rattle.sym_functions.proofs.link_image_lemmas.Lists.{import_there, all_chosen, all_mapped}
use Rattle.link_keys.proofs.Imports.{both}
use Rattle.run_rules.specs.declared.value.Value.TheVariants.{I32}
use Rattle.run_rules.specs.Modules.{expr_value}
use Rattle.run_machines.specs.declared.sym.SymCell.{SymCell}
use Rattle.run_machines.specs.declared.sym.SymCell.TheVariants.{Import, Holds}
use Rattle.run_machines.specs.declared.sym.SymSegment.{SymSegment}
use Rattle.link_worlds.specs.Names.{number_at, all_cells}
use Rattle.link_worlds.specs.Worlds as worlds
use Rattle.link_worlds.specs.Worlds.{global_kind, segment_block, zero_segments}
use Rattle.run_laws.specs.Objects.{sym_cell, sym_segment, blocks_of}
use Rattle.sym_functions.specs.sym_parts.Sought.{Known, named_place, number_named}
use Rattle.sym_functions.specs.sym_parts.Data as seen
use Rattle.sym_functions.specs.sym_parts.Data.{words_on, word_named, is_word}
use Rattle.link_numbers.specs.Knows.{KnowsGlobal}
use Rattle.sym_functions.proofs.Ground.{all_gs, cells_are, cells_known}
use Rattle.sym_functions.proofs.OpsTold.{IsSought, IsKnownNamed, alike, number_told}
use Rattle.sym_functions.proofs.OpsTold as ops
use Rattle.sym_functions.proofs.CodeTold.{all_given, part_of, part_known, row_is, source_is}

-- Each that is there is what is told of it, by the numbers of items.
pub all_numbered : {A C : Type 0} (f : ℕ → Option C) (g : A → C) (ps : List A) → ((n : ℕ) (x : A) → slice_get ps n ≡ Some x → (y : C) → f n ≡ Some y → y ≡ g x)
    → (ns : List ℕ) (xs : List A) (ys : List C) → map (slice_get ps) ns ≡ map Some xs → map f ns ≡ map Some ys → ys ≡ map g xs
all_numbered f g ps each [] [] [] are e = refl
all_numbered f g ps each [] [] (y ∷ ys) are e = absurd cc
all_numbered f g ps each [] (x ∷ xs) ys are e = absurd cc
all_numbered f g ps each (n ∷ ns) [] ys are e = absurd cc
all_numbered f g ps each (n ∷ ns) (x ∷ xs) [] are e = absurd cc
all_numbered f g ps each (n ∷ ns) (x ∷ xs) (y ∷ ys) are e =
    let at : slice_get ps n ≡ Some x = cc in
    let others : map (slice_get ps) ns ≡ map Some xs = cc in
    let first : f n ≡ Some y = cc in
    let rest : map f ns ≡ map Some ys = cc in
    let here = each n x at y first in
    let there = all_numbered f g ps each ns xs ys others rest in
    λ i. here i ∷ there i

-- ---- contents

content_shown : (types : List FuncType) (c : Content) (told : rules.Content) → seen_content types c ≡ told_content told → seen.content_value c ≡ worlds.content_value told
content_shown types (contents.Function number) (function t) e = refl
content_shown types (contents.Function number) (segment info) e = refl
content_shown types (contents.Function number) (global g) e = absurd cc
content_shown types (contents.Function number) (linker_made m) e = refl
content_shown types (contents.Segment align flags) (function t) e = refl
content_shown types (contents.Segment align flags) (segment info) e = refl
content_shown types (contents.Segment align flags) (global g) e = absurd cc
content_shown types (contents.Segment align flags) (linker_made m) e = refl
content_shown types (contents.Global kind value) (function t) e = absurd cc
content_shown types (contents.Global kind value) (segment info) e = absurd cc
content_shown types (contents.Global kind value) (global g) e = let same : value ≡ g.value = cc in ap (expr_value []) same
content_shown types (contents.Global kind value) (linker_made m) e = absurd cc
content_shown types contents.Made (function t) e = refl
content_shown types contents.Made (segment info) e = refl
content_shown types contents.Made (global g) e = absurd cc
content_shown types contents.Made (linker_made m) e = refl

not_true : (b : Bool) → not b ≡ true → b ≡ false
not_true true e = absurd cc
not_true false e = refl

given_is : {A : Type 0} (b : Bool) (a x : A) → given b a ≡ Some x → (b ≡ true) × (a ≡ x)
given_is true a x e = (refl, cc)
given_is false a x e = absurd cc

module _ (p : rules.Program) (parts : List rules.Part) (es : List InputSymbol) (d : Layout) (is : IsLayoutIn Plain p parts es d) where
  abbrev l : values.Layout
  l = ops.l p parts es d is

  abbrev t_names : List (List ℕ)
  t_names = d.program.names.now.names

  abbrev t_imports : List ImportKey
  t_imports = d.program.resolution.now.imports

  -- ---- cells

  abbrev Cell : keys.GlobalKey → Type 0
  Cell g = (y : SymCell) → seen.cell_seen d.program.tables.now t_imports d.placed.now.places.stack_high (told_global t_imports g) ≡ Some y → y ≡ sym_cell p.parts l g

  outside_cell : (k : ImportKey) → list_any (same_import k) t_imports ≡ true → Cell (outside_global k)
  outside_cell k held y e =
      let there : seen.import_cell (Some k) ≡ Some y = ap seen.import_cell (sym (import_there t_imports k held)) ∙ e in
      let a : Import k.module_name k.field (global_kind k.type) ≡ y = cc in sym a

  linker_cell : (n : ℕ) → Cell (linker_global n)
  unfolding layout
  linker_cell n y e =
      let a : Holds (Some (I32 (if n == stack_pointer then d.placed.now.places.stack_high else 0))) ≡ y = cc in
      sym a ∙ ap (λ (x : Places). Holds (Some (I32 (if n == stack_pointer then x.stack_high else 0)))) is.placed.places

  own_cell : (n : ℕ) (part : rules.Part) → slice_get p.parts n ≡ Some part → (part.chunk.input == 0) ≡ false → (part.chunk.kind == 2) ≡ true → Cell (own_global part.chunk.input part.chunk.index)
  own_cell n part at foreign code y e =
      let w = part_of p parts es d is 2 n part at code in
      let here : Some (Holds (seen.part_value d.program.tables.now (chunk_number d.program.tables.now.chunks (chunk_at part.chunk.input 2 part.chunk.index)))) ≡ Some y =
      ap (λ r. if r then Some (Holds (Some (I32 (if part.chunk.index == stack_pointer then d.placed.now.places.stack_high else 0)))) else Some (Holds (seen.part_value d.program.tables.now (chunk_number d.program.tables.now.chunks (chunk_at part.chunk.input 2 part.chunk.index))))) (sym foreign) ∙ e in
      let a : Holds (seen.part_value d.program.tables.now (chunk_number d.program.tables.now.chunks (chunk_at part.chunk.input 2 part.chunk.index))) ≡ y = cc in
      sym a
      ∙ ap (λ o. Holds (seen.part_value d.program.tables.now o)) w.chunk
      ∙ ap Holds (content_shown d.program.tables.now.types (part_at d.program.tables.now w.number).content part.content (ap (λ x. x.content) (part_told t_names t_imports d.program.tables.now p is.program.tables w.number part w.at)))
      ∙ ap (λ o. Holds (worlds.part_value o)) (sym w.found)

  made_key : (k : ℕ) (part : rules.Part) (g : keys.GlobalKey) → slice_get p.parts k ≡ Some part → made_global_key part ≡ Some g → Cell g
  made_key k part g at gives =
      let e = given_is ((part.chunk.input == 0) && (part.chunk.kind == 2)) (linker_global part.chunk.index) g gives in
      subst Cell e.1 (linker_cell part.chunk.index)

  own_key : (k : ℕ) (part : rules.Part) (g : keys.GlobalKey) → slice_get p.parts k ≡ Some part → own_global_key part ≡ Some g → Cell g
  own_key k part g at gives =
      let e = given_is (not (part.chunk.input == 0) && (part.chunk.kind == 2)) (own_global part.chunk.input part.chunk.index) g gives in
      let two = both (not (part.chunk.input == 0)) (part.chunk.kind == 2) e.0 in
      subst Cell e.1 (own_cell k part at (not_true (part.chunk.input == 0) two.0) two.1)

  abbrev Given : keys.GlobalKey → Type 0
  Given g = KnowsGlobal t_imports g → Cell g

  all_cell : All Given (all_cells p)
  all_cell =
      let outs = map outside_global (filter (λ k. is_global_type k.type) (imports_in_order p)) in
      let made = filter_map made_global_key p.parts in
      let owns = filter_map own_global_key p.parts in
      All-append Given (outs ++ made) owns
      (All-append Given outs made
      (all_mapped Given outside_global (λ k. outside_cell k) (filter (λ k. is_global_type k.type) (imports_in_order p)))
      (all_chosen Given made_global_key p.parts (λ k part g at gives known. made_key k part g at gives)))
      (all_chosen Given own_global_key p.parts (λ k part g at gives known. own_key k part g at gives))

  -- The cells.
  pub cells_told : (ys : List SymCell)
      → map (seen.cell_seen d.program.tables.now t_imports d.placed.now.places.stack_high) (all_gs d.program p is.program is.stand) ≡ map Some ys
      → ys ≡ map (sym_cell p.parts l) (all_cells p)
  cells_told ys e =
      let f = seen.cell_seen d.program.tables.now t_imports d.placed.now.places.stack_high in
      all_given f (told_global t_imports) (sym_cell p.parts l) (all_cells p) ys (λ k g below. all_cell k g below (cells_known d.program p is.program is.stand k g below))
      (ap (map f) (sym (cells_are d.program p is.program is.stand)) ∙ e)

  -- ---- segments

  module _ (k : Known) (sought : IsSought p parts es d is k) (files : List (List ℕ)) (same_files : files ≡ p.files) where
    -- a word that is written
    word_patch : (x : Named) (y : rules.Named) → seen_named d.program.tables.now.symbols d.program.tables.now.types x ≡ told_named t_names t_imports y → IsKnownNamed p parts es d is y → (n : ℕ) → word_named k x ≡ Some n → (bytes : List ℕ)
        → over (named_place x) (little n) bytes ≡ patched (patch_of (named_window Plain l y)) bytes
    word_patch (items.Symbol kind place addend symbol) (a_symbol ref) e known n is_n bytes = by_word (is_word (items.Symbol kind place addend symbol)) refl is_n
      where
        x : Named
        x = items.Symbol kind place addend symbol

        at : place ≡ ref.place
        at = ap (λ (r : SeenRef). r.place) (alike _ _ e)

        same : kind ≡ ref.kind
        same = ap (λ (r : SeenRef). r.kind) (alike _ _ e)

        word4 : (kind : ℕ) → ((kind == 2) || (kind == 5)) ≡ true → form_of kind ≡ Word4
        word4 kind e = by_two (kind == 2) refl
          where
            by_two : (r : Bool) → (kind == 2) ≡ r → form_of kind ≡ Word4
            by_two true two = ap form_of (eqb-true kind 2 two)
            by_two false two = let five : (kind == 5) ≡ true = ap (λ r. r || (kind == 5)) (sym two) ∙ e in ap form_of (eqb-true kind 5 five)

        by_word : (r : Bool) → is_word x ≡ r → (if r then number_named k x else None) ≡ Some n → over place (little n) bytes ≡ patched (patch_of (named_window Plain l (a_symbol ref))) bytes
        by_word false w e = absurd cc
        by_word true w is_m =
            ap (λ q. over q (little n) bytes) at
            ∙ ap (λ m. over ref.place (little m) bytes) (number_told p parts es d is k sought x (a_symbol ref) e known n is_m)
            ∙ ap (λ f. over ref.place (spelled f (number_at l (a_symbol ref))) bytes) (sym (ap form_of (sym same) ∙ word4 kind w))
    word_patch (items.Symbol kind place addend symbol) (a_type w) e known n is_n bytes = absurd (alike _ _ e)
    word_patch (items.Type place number) (a_symbol ref) e known n is_n bytes = absurd (alike _ _ e)
    word_patch (items.Type place number) (a_type w) e known n is_n bytes = absurd cc

    words_told : (row : List Named) (ns : List rules.Named) → map (seen_named d.program.tables.now.symbols d.program.tables.now.types) row ≡ map (told_named t_names t_imports) ns → All (IsKnownNamed p parts es d is) ns
        → (bytes out : List ℕ) → words_on k row bytes ≡ Some out → out ≡ filled (map patch_of (map (named_window Plain l) ns)) bytes
    words_told [] [] e known bytes out is_out = let a : bytes ≡ out = cc in sym a
    words_told [] (y ∷ ns) e known bytes out is_out = absurd cc
    words_told (x ∷ row) [] e known bytes out is_out = absurd cc
    words_told (x ∷ row) (y ∷ ns) e known bytes out is_out =
        by_word (word_named k x) refl (λ bytes is_o. words_told row ns rest (All-tail (IsKnownNamed p parts es d is) y ns known) bytes out is_o) is_out
      where
        first : seen_named d.program.tables.now.symbols d.program.tables.now.types x ≡ told_named t_names t_imports y
        first = cc

        rest : map (seen_named d.program.tables.now.symbols d.program.tables.now.types) row ≡ map (told_named t_names t_imports) ns
        rest = cc

        by_word : (o : Option ℕ) → word_named k x ≡ o → ((bytes : List ℕ) → words_on k row bytes ≡ Some out → out ≡ filled (map patch_of (map (named_window Plain l) ns)) bytes) → option_and_then (λ n. words_on k row (over (named_place x) (little n) bytes)) o ≡ Some out
            → out ≡ filled (map patch_of (map (named_window Plain l) ns)) (patched (patch_of (named_window Plain l y)) bytes)
        by_word None w again is_o = absurd cc
        by_word (Some n) w again is_o =
            again (over (named_place x) (little n) bytes) is_o
            ∙ ap (filled (map patch_of (map (named_window Plain l) ns))) (word_patch x y first (All-head (IsKnownNamed p parts es d is) y ns known) n w bytes)

    address_told : (n : ℕ) (part : rules.Part) → slice_get p.parts n ≡ Some part → slice_index_or d.placed.now.addresses n 0 ≡ segment_address l part.chunk
    unfolding layout
    address_told n part at =
        let f : rules.Part → ℕ = λ (part : rules.Part). address_among (chunks_of (segments parts)) d.placed.now.places.addresses part.chunk in
        ap (λ xs. get_or xs n 0) is.placed.addresses
        ∙ get_or_from_slice_get (map f p.parts) n (f part) 0 (slice_get-map f p.parts n ∙ ap (option_map f) at)
        ∙ ap (λ (x : Places). address_among (chunks_of (segments parts)) x.addresses part.chunk) is.placed.places

    bytes_are : (n : ℕ) (part : rules.Part) → slice_get p.parts n ≡ Some part → file_part files (part_at k.tables n).source ≡ part_bytes p part
    bytes_are n part at = ap (λ t. file_part files (part_at t n).source) sought.tables ∙ ap (file_part files) (source_is p parts es d is n part at) ∙ ap (λ fs. file_part fs part.source) same_files

    segment_by_words : (n : ℕ) (part : rules.Part) → slice_get p.parts n ≡ Some part → (y : SymSegment) (o : Option (List ℕ)) → words_on k (row_at k.tables n) (file_part files (part_at k.tables n).source) ≡ o
        → seen.segment_by (slice_index_or d.placed.now.addresses n 0) o ≡ Some y → y ≡ sym_segment (segment_block p l part)
    unfolding windows
    segment_by_words n part at y None w e = absurd cc
    segment_by_words n part at y (Some out) w e =
        let a : record { address = slice_index_or d.placed.now.addresses n 0; bytes = out } ≡ y = cc in
        let here : words_on k (row_at d.program.tables.now n) (part_bytes p part) ≡ Some out =
        ap (words_on k (row_at d.program.tables.now n)) (sym (bytes_are n part at)) ∙ ap (λ t. words_on k (row_at t n) (file_part files (part_at k.tables n).source)) (sym sought.tables) ∙ w in
        let bytes = words_told (row_at d.program.tables.now n) part.named (row_is p parts es d is n part at) (part_known p parts es d is n part at) (part_bytes p part) out here in
        let address = address_told n part at in
        sym a ∙ (λ i. record { address = address i; bytes = bytes i })

    segment_told : (n : ℕ) (part : rules.Part) → slice_get p.parts n ≡ Some part → (y : SymSegment) → seen.segment_seen k files d.placed.now.addresses n ≡ Some y → y ≡ sym_segment (segment_block p l part)
    segment_told n part at y e = segment_by_words n part at y (words_on k (row_at k.tables n) (file_part files (part_at k.tables n).source)) refl e

    -- The segments.
    pub segments_told : (live : List ℕ) → AreLive p live parts → (ys : List SymSegment)
        → map (seen.segment_seen k files d.placed.now.addresses) (filter (seen.is_so d.program.tables.now files false) (segment_numbers d.program.tables.now live) ++ filter (seen.is_so d.program.tables.now files true) (segment_numbers d.program.tables.now live)) ≡ map Some ys
        → ys ≡ map sym_segment (blocks_of p parts l)
    segments_told live lives ys e =
        let ns = segment_numbers d.program.tables.now live in
        let are = segments_are t_names t_imports d.program.tables.now p is.program.tables live parts lives in
        let solid = filter_pairs p.parts (seen.is_so d.program.tables.now files false) (λ part. not (values.is_zero p part)) (λ n part at. ap not (zero_told n part at)) ns (segments parts) are in
        let zeros = filter_pairs p.parts (seen.is_so d.program.tables.now files true) (values.is_zero p) zero_told ns (segments parts) are in
        all_numbered (seen.segment_seen k files d.placed.now.addresses) (λ part. sym_segment (segment_block p l part)) p.parts segment_told
        (filter (seen.is_so d.program.tables.now files false) ns ++ filter (seen.is_so d.program.tables.now files true) ns) (solid_segments p parts ++ zero_segments p parts) ys
        (map-append (slice_get p.parts) (filter (seen.is_so d.program.tables.now files false) ns) (filter (seen.is_so d.program.tables.now files true) ns)
        ∙ (λ i. solid i ++ zeros i) ∙ sym (map-append Some (solid_segments p parts) (zero_segments p parts))) e
        ∙ sym (twice sym_segment (segment_block p l) (solid_segments p parts ++ zero_segments p parts))
        ∙ ap (map sym_segment) (map-append (segment_block p l) (solid_segments p parts) (zero_segments p parts))
      where
        twice : {A B C : Type 0} (g : B → C) (f : A → B) (xs : List A) → map g (map f xs) ≡ map (λ x. g (f x)) xs
        twice g f [] = refl
        twice g f (x ∷ xs) = ap (λ ys. g (f x) ∷ ys) (twice g f xs)

        zero_told : (n : ℕ) (part : rules.Part) → slice_get p.parts n ≡ Some part → seen.is_zero d.program.tables.now files n ≡ values.is_zero p part
        zero_told n part at = ap (λ s. s.zero) (shape_told t_names t_imports d.program.tables.now p is.program.tables files same_files n part at)
