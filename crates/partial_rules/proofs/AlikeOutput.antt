-- The outputs of two programs that are one but for places are the same bytes.
use Rattle.std.proofs.Common.{◌≡◌, ℕ, ◌+◌, ◌==◌, true, List, [], ◌∷◌, ◌++◌, map, length, drop, refl, sym, ap, ◌∙◌}
use Rattle.std.specs.Prelude.{Some, None, filter_map, All, if◌then◌else◌, pos, codes}
use Rattle.std.proofs.lemmas.List.{map-append, length-map, length-append}
use Rattle.std.proofs.Math.Seq.{drop-append_seam}
use Rattle.object_file.specs.wasm_types.declared.function.FuncType.{FuncType}
use Rattle.object_file.specs.wasm_types.declared.import.Import.{Import}
use Rattle.object_file.specs.wasm_types.declared.table.Limits.{Limits}
use Rattle.object_file.specs.wasm_types.declared.table.TableType.{TableType}
use Rattle.object_file.specs.wasm_types.declared.const_expr.ConstExpr.{ConstExpr}
use Rattle.object_file.specs.wasm_module.declared.parts.Export.{Export}
use Rattle.object_file.specs.wasm_module.declared.parts.ModuleGlobal.{ModuleGlobal}
use Rattle.object_file.specs.wasm_module.declared.parts.Element.{Element}
use Rattle.made_symbols.specs.declared.mode.Mode.TheVariants.{Plain}
use Rattle.name_rules.specs.Entries.{InputSymbol}
use Rattle.mark_bits.specs.declared.chunk.Chunk.{Chunk}
use Rattle.reloc_apply.specs.declared.window.Patch.{Patch}
use Rattle.reloc_apply.specs.Windows.{patch_of, signed32}
use Rattle.image_emit.specs.Bytes.{Tree, Block, section, sized, data_section, source_bytes, block_of, tree_of, bytes_of}
use Rattle.image_emit.specs.Pieces.{sections}
use Rattle.image_emit.specs.Filled.{each_filled, blocks_filled, tree_filled}
use Rattle.link_rules.specs.Program.{Program, Part}
use Rattle.link_rules.specs.Marks.{imports_memory, memory_name}
use Rattle.link_rules.specs.Keys.{FunctionKey, functions, type_of, type_place}
use Rattle.link_rules.specs.Values.{Layout, solid_segments, windows}
use Rattle.link_rules.specs.Output.{image, source_windows, imports, memory, table, elements, global_for, memory_export, export_of, defined, body_of, body_windows, placed_source, first_address}
use Rattle.link_rules.specs.LinkOf.{output_bytes}
use Rattle.object_file.specs.wasm_types.declared.const_expr.ConstExpr.TheVariants as constants
use Rattle.object_file.specs.wasm_types.declared.import.ImportKind.TheVariants as kinds
use Rattle.partial_rules.specs.Moving.{Moving, IsMoving, AlikeStage}
use Rattle.partial_rules.proofs.Lists.{map_map}
use Rattle.partial_rules.proofs.AlikeTypes.{IsTyped}
use Rattle.partial_rules.proofs.AlikeWindows.{AlikeLayout}
use Rattle.partial_rules.proofs.AlikeSections.{function_imports_same, global_imports_same, defined_alike, type_places_same, memory_same, count_same, slots_same, IsGlobalKnown, globals_same, exports_same}
use Rattle.partial_rules.proofs.AlikeSources.{each_filled_is, blocks_filled_is, written_body, written_block, IsBody, bodies_same, blocks_same, offset_same}

-- ---- a tree of its parts

abbrev tree_with : List FuncType → List Import → List ℕ → List TableType → List Limits → List ModuleGlobal → List Export → List Element → List (List ℕ) → ConstExpr → List Block → Tree
tree_with types imports functions tables memories globals exports elements bodies offset blocks = record {
  custom = None;
  types = types;
  imports = imports;
  functions = functions;
  tables = tables;
  memories = memories;
  globals = globals;
  exports = exports;
  elements = elements;
  bodies = bodies;
  data_offset = offset;
  blocks = blocks;
}

-- ---- the output as a tree with windows written

module _ (m : Moving) (C : Chunk → Type 0) (K : InputSymbol → Type 0) (is : IsMoving m C K) (p q : Program) (xs ys : List Part) (ep eq : List InputSymbol) (l o : Layout) (s : AlikeStage m C K p q xs ys ep eq) (t : AlikeLayout m C K is l o) where
  bodied : Program → List Part → List InputSymbol → Layout → FunctionKey → List ℕ
  bodied r parts es z f = written_body m C K is p q xs ys ep eq l o s t r parts es z f

  blocked : Program → Layout → Part → Block
  blocked r z part = written_block m C K is p q xs ys ep eq l o s t r z part

  abbrev written_tree : Program → List Part → List InputSymbol → Layout → Tree
  written_tree r parts es z = tree_with z.numbers.types (imports Plain r parts es z) (map (λ f. type_place z.numbers (type_of r parts f)) (defined Plain r parts es z))
      (table Plain r parts es z ∷ []) (if imports_memory Plain r then [] else memory Plain r parts es z ∷ []) (filter_map (global_for Plain r parts es z) z.numbers.globals)
      (memory_export Plain r parts es z ++ map (λ e. export_of Plain r parts es z e e.symbol.kind) es) (elements Plain r parts es z)
      (map (bodied r parts es z) (defined Plain r parts es z)) (constants.I32 (signed32 (first_address Plain r parts es z (solid_segments r parts)))) (map (blocked r z) (solid_segments r parts))

  filled_tree : (r : Program) (parts : List Part) (es : List InputSymbol) (z : Layout)
      → tree_filled (map (map patch_of) (source_windows Plain r parts es z)) (tree_of r.files (image Plain r parts es z)) ≡ written_tree r parts es z
  unfolding image source_windows bodied blocked
  filled_tree r parts es z =
      let ds : List FunctionKey = defined Plain r parts es z in
      let ss : List Part = solid_segments r parts in
      let a : FunctionKey → List Patch = λ f. map patch_of (body_windows Plain r parts es z f) in
      let b : FunctionKey → List ℕ = λ f. source_bytes r.files (body_of Plain r parts es z f) in
      let c : Part → List Patch = λ part. map patch_of (windows Plain z part) in
      let d : Part → Block = λ part. block_of r.files (placed_source Plain r parts es z part) in
      let pss : map (map patch_of) (map (body_windows Plain r parts es z) ds ++ map (windows Plain z) ss) ≡ map a ds ++ map c ss =
      map-append (map patch_of) (map (body_windows Plain r parts es z) ds) (map (windows Plain z) ss)
      ∙ (ap (λ left. left ++ map (map patch_of) (map (windows Plain z) ss)) (map_map (body_windows Plain r parts es z) (map patch_of) ds)
      ∙ ap (λ right. map a ds ++ right) (map_map (windows Plain z) (map patch_of) ss)) in
      let bodies : map (source_bytes r.files) (map (body_of Plain r parts es z) ds) ≡ map b ds = map_map (body_of Plain r parts es z) (source_bytes r.files) ds in
      let blocks : map (block_of r.files) (map (placed_source Plain r parts es z) ss) ≡ map d ss = map_map (placed_source Plain r parts es z) (block_of r.files) ss in
      let long : length (map b ds) ≡ length (map a ds) = length-map ds b ∙ sym (length-map ds a) in
      let behind : drop (length (map b ds)) (map a ds ++ map c ss) ≡ map c ss = ap (λ n. drop n (map a ds ++ map c ss)) long ∙ drop-append_seam (map a ds) (map c ss) in
      let first : each_filled (map (map patch_of) (map (body_windows Plain r parts es z) ds ++ map (windows Plain z) ss)) (map (source_bytes r.files) (map (body_of Plain r parts es z) ds)) ≡ map (bodied r parts es z) ds =
      ap (λ p. each_filled p (map (source_bytes r.files) (map (body_of Plain r parts es z) ds))) pss ∙ (ap (each_filled (map a ds ++ map c ss)) bodies ∙ each_filled_is a b ds (map c ss)) in
      let second : blocks_filled (drop (length (map (source_bytes r.files) (map (body_of Plain r parts es z) ds))) (map (map patch_of) (map (body_windows Plain r parts es z) ds ++ map (windows Plain z) ss)))
      (map (block_of r.files) (map (placed_source Plain r parts es z) ss)) ≡ map (blocked r z) ss =
      ap (λ bs. blocks_filled (drop (length bs) (map (map patch_of) (map (body_windows Plain r parts es z) ds ++ map (windows Plain z) ss))) (map (block_of r.files) (map (placed_source Plain r parts es z) ss))) bodies
      ∙ (ap (λ p. blocks_filled (drop (length (map b ds)) p) (map (block_of r.files) (map (placed_source Plain r parts es z) ss))) pss
      ∙ (ap (λ p. blocks_filled p (map (block_of r.files) (map (placed_source Plain r parts es z) ss))) behind
      ∙ (ap (blocks_filled (map c ss)) blocks ∙ blocks_filled_is c d ss))) in
      ap (λ bs. tree_with z.numbers.types (imports Plain r parts es z) (map (λ f. type_place z.numbers (type_of r parts f)) (defined Plain r parts es z))
      (table Plain r parts es z ∷ []) (if imports_memory Plain r then [] else memory Plain r parts es z ∷ []) (filter_map (global_for Plain r parts es z) z.numbers.globals)
      (memory_export Plain r parts es z ++ map (λ e. export_of Plain r parts es z e e.symbol.kind) es) (elements Plain r parts es z)
      bs (constants.I32 (signed32 (first_address Plain r parts es z ss)))
      (blocks_filled (drop (length (map (source_bytes r.files) (map (body_of Plain r parts es z) ds))) (map (map patch_of) (map (body_windows Plain r parts es z) ds ++ map (windows Plain z) ss)))
      (map (block_of r.files) (map (placed_source Plain r parts es z) ss)))) first
      ∙ ap (tree_with z.numbers.types (imports Plain r parts es z) (map (λ f. type_place z.numbers (type_of r parts f)) (defined Plain r parts es z))
      (table Plain r parts es z ∷ []) (if imports_memory Plain r then [] else memory Plain r parts es z ∷ []) (filter_map (global_for Plain r parts es z) z.numbers.globals)
      (memory_export Plain r parts es z ++ map (λ e. export_of Plain r parts es z e e.symbol.kind) es) (elements Plain r parts es z)
      (map (bodied r parts es z) ds) (constants.I32 (signed32 (first_address Plain r parts es z ss)))) second

  -- ---- the two trees

  imports_same : imports Plain q ys eq o ≡ imports Plain p xs ep l
  imports_same = λ i.
      (if s.imported i then (record { «module» = codes "env"; field = memory_name; kind = kinds.Memory (memory_same m C K is p q xs ys ep eq l o s t i) } ∷ []) else [])
      ++ [] ++ function_imports_same m C K is p q xs ys ep eq l o s t i ++ global_imports_same m C K is p q xs ys ep eq l o s t i

  types_same : All (IsTyped m C K is p q) (defined Plain p xs ep l)
      → map (λ f. type_place o.numbers (type_of q ys f)) (defined Plain q ys eq o) ≡ map (λ f. type_place l.numbers (type_of p xs f)) (defined Plain p xs ep l)
  types_same typed =
      ap (map (λ f. type_place o.numbers (type_of q ys f))) (defined_alike m C K is p q xs ys ep eq l o s t)
      ∙ type_places_same m C K is p q xs ys ep eq l o s t (defined Plain p xs ep l) typed

  table_same : table Plain q ys eq o ≡ table Plain p xs ep l
  table_same = λ i. record { funcref = true; limits = record { min = 1 + count_same m C K is p q xs ys ep eq l o s t i; max = Some (1 + count_same m C K is p q xs ys ep eq l o s t i) } }

  elements_same : elements Plain q ys eq o ≡ elements Plain p xs ep l
  elements_same = λ i.
      if count_same m C K is p q xs ys ep eq l o s t i == 0 then []
      else record { table = None; offset = constants.I32 (pos 1); functions = slots_same m C K is p q xs ys ep eq l o s t i } ∷ []

  codes_same : All (IsBody m C K is p q xs ys ep eq l o s t) (defined Plain p xs ep l) → map (bodied q ys eq o) (defined Plain q ys eq o) ≡ map (bodied p xs ep l) (defined Plain p xs ep l)
  unfolding bodied
  codes_same known =
      ap (map (written_body m C K is p q xs ys ep eq l o s t q ys eq o)) (defined_alike m C K is p q xs ys ep eq l o s t)
      ∙ bodies_same m C K is p q xs ys ep eq l o s t (defined Plain p xs ep l) known

  data_same : map (blocked q o) (solid_segments q ys) ≡ map (blocked p l) (solid_segments p xs)
  unfolding blocked
  data_same = blocks_same m C K is p q xs ys ep eq l o s t

  trees_same : All (IsTyped m C K is p q) (defined Plain p xs ep l) → All (IsGlobalKnown m C K is p q xs ys ep eq l o s t) l.numbers.globals → All (IsBody m C K is p q xs ys ep eq l o s t) (defined Plain p xs ep l)
      → written_tree q ys eq o ≡ written_tree p xs ep l
  trees_same typed known bodies = λ i.
      tree_with (t.types i) (imports_same i) (types_same typed i) (table_same i ∷ []) (if s.imported i then [] else memory_same m C K is p q xs ys ep eq l o s t i ∷ [])
      (globals_same m C K is p q xs ys ep eq l o s t known i)
      ((if s.imported i then [] else (record { name = memory_name; kind = 2; index = 0 } ∷ [])) ++ exports_same m C K is p q xs ys ep eq l o s t i)
      (elements_same i) (codes_same bodies i) (offset_same m C K is p q xs ys ep eq l o s t i) (data_same i)

  -- The outputs are the same bytes.
  pub outputs_same : All (IsTyped m C K is p q) (defined Plain p xs ep l) → All (IsGlobalKnown m C K is p q xs ys ep eq l o s t) l.numbers.globals → All (IsBody m C K is p q xs ys ep eq l o s t) (defined Plain p xs ep l)
      → output_bytes Plain q (image Plain q ys eq o) (source_windows Plain q ys eq o) ≡ output_bytes Plain p (image Plain p xs ep l) (source_windows Plain p xs ep l)
  unfolding output_bytes
  outputs_same typed known bodies = ap bytes_of (filled_tree q ys eq o ∙ (trees_same typed known bodies ∙ sym (filled_tree p xs ep l)))

  -- ---- before windows are written

  -- the image's tree, with these bodies and blocks
  abbrev pub unwritten : Program → List Part → List InputSymbol → Layout → List (List ℕ) → List Block → Tree
  unwritten r parts es z bodies blocks = tree_with z.numbers.types (imports Plain r parts es z) (map (λ f. type_place z.numbers (type_of r parts f)) (defined Plain r parts es z))
      (table Plain r parts es z ∷ []) (if imports_memory Plain r then [] else memory Plain r parts es z ∷ []) (filter_map (global_for Plain r parts es z) z.numbers.globals)
      (memory_export Plain r parts es z ++ map (λ e. export_of Plain r parts es z e e.symbol.kind) es) (elements Plain r parts es z)
      bodies (constants.I32 (signed32 (first_address Plain r parts es z (solid_segments r parts)))) blocks

  pub unwritten_is : (r : Program) (parts : List Part) (es : List InputSymbol) (z : Layout) → tree_of r.files (image Plain r parts es z)
      ≡ unwritten r parts es z (map (source_bytes r.files) (map (body_of Plain r parts es z) (defined Plain r parts es z))) (map (block_of r.files) (map (placed_source Plain r parts es z) (solid_segments r parts)))
  unfolding image
  unwritten_is r parts es z = refl

  pub heads_same : All (IsTyped m C K is p q) (defined Plain p xs ep l) → All (IsGlobalKnown m C K is p q xs ys ep eq l o s t) l.numbers.globals → (bodies : List (List ℕ)) (blocks : List Block)
      → unwritten q ys eq o bodies blocks ≡ unwritten p xs ep l bodies blocks
  heads_same typed known bodies blocks = λ i.
      tree_with (t.types i) (imports_same i) (types_same typed i) (table_same i ∷ []) (if s.imported i then [] else memory_same m C K is p q xs ys ep eq l o s t i ∷ [])
      (globals_same m C K is p q xs ys ep eq l o s t known i)
      ((if s.imported i then [] else (record { name = memory_name; kind = 2; index = 0 } ∷ [])) ++ exports_same m C K is p q xs ys ep eq l o s t i)
      (elements_same i) bodies (offset_same m C K is p q xs ys ep eq l o s t i) blocks

  pub unwritten_len : (bs cs : List (List ℕ)) (us vs : List Block) → length (section 10 sized cs) ≡ length (section 10 sized bs) → ((offset : ConstExpr) → length (data_section offset vs) ≡ length (data_section offset us))
      → length (bytes_of (unwritten p xs ep l cs vs)) ≡ length (bytes_of (unwritten p xs ep l bs us))
  unfolding bytes_of
  unwritten_len bs cs us vs bodies data_too =
      let front : List ℕ = sections (unwritten p xs ep l bs us) in
      let offset : ConstExpr = constants.I32 (signed32 (first_address Plain p xs ep l (solid_segments p xs))) in
      append_len (front ++ section 10 sized cs) (front ++ section 10 sized bs) (data_section offset vs) (data_section offset us)
      (append_len front front (section 10 sized cs) (section 10 sized bs) refl bodies) (data_too offset)
    where
      append_len : (a b x y : List ℕ) → length a ≡ length b → length x ≡ length y → length (a ++ x) ≡ length (b ++ y)
      append_len a b x y first second = length-append a x ∙ ((λ i. first i + second i) ∙ sym (length-append b y))
