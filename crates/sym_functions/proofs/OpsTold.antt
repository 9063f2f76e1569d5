-- The instructions of parts are those of the objects.
use Rattle.std.proofs.Common.{◌≡◌, ℕ, ◌+◌, ◌==◌, Bool, true, false, List, [], ◌∷◌, map, Option, Some, None, option_map, refl, sym, ap, subst, ◌∙◌, ℤ}
use Rattle.std.specs.Prelude.{if◌then◌else◌, slice_index_or}
use Rattle.std.specs.List.{All}
use Rattle.std.proofs.lemmas.List.Elements.{All-head, All-tail}
use Rattle.link_program.specs.wasm_types.declared.function.FuncType.{FuncType}
use Rattle.link_program.specs.object_file.Spaces.{no_type}
use Rattle.link_program.specs.linking_section.declared.symbol.SymbolKind.TheVariants.{GlobalVar}
use Rattle.link_program.specs.made_symbols.declared.mode.Mode.TheVariants.{Plain}
use Rattle.link_program.specs.reloc_apply.Windows.{signed32}
use Rattle.link_program.specs.name_rules.Entries.{InputSymbol, ImportKey, is_kind}
use Rattle.link_program.specs.link_rules.Program as rules
use Rattle.link_program.specs.link_rules.Program.{Ref, TypeWindow, a_symbol, a_type}
use Rattle.link_program.specs.link_rules.Keys.{callable, ref_got, meant_global, cell_key}
use Rattle.link_program.specs.link_rules.Values as values
use Rattle.link_program.specs.link_rules.Values.{asks}
use Rattle.link_program.specs.declared.symbol.Symbol.{Symbol}
use Rattle.link_program.specs.declared.keys.FunctionKey.{FunctionKey}
use Rattle.link_program.specs.declared.keys.GlobalKey.{GlobalKey}
use Rattle.link_program.specs.declared.named.Named.{Named}
use Rattle.link_program.specs.declared.named.Named.TheVariants as items
use Rattle.link_program.specs.Told.{told_symbol, told_lead}
use Rattle.link_program.specs.Seen.{SeenRef, SeenNamed, seen_symbol, seen_type, seen_named, told_named, told_ref, no_symbol}
use Rattle.link_image.specs.link_layout.declared.values.Layout.{Layout}
use Rattle.link_image.specs.link_layout.Layout.{IsLayoutIn}
use Rattle.wasm_instr.specs.declared.instr.Instr.{Instr}
use Rattle.wasm_instr.specs.declared.instr.Instr.TheVariants as instrs
use Rattle.wasm_instr.specs.declared.instr.BlockKind.{BlockKind}
use Rattle.wasm_instr.specs.declared.instr.BlockKind.TheVariants as blocks
use Rattle.wasm_instr.specs.declared.body.Placed.{Placed}
use Rattle.run_rules.specs.declared.op.Op.{Op}
use Rattle.run_rules.specs.declared.op.Op.TheVariants.{Own, OpenBlock, CallTo, CallThrough}
use Rattle.run_rules.specs.Ops.{cell_op}
use Rattle.link_worlds.specs.Bodies as bodies
use Rattle.link_worlds.specs.Bodies.{to_name, place_of}
use Rattle.link_worlds.specs.Names.{number_at, callee, cell_place}
use Rattle.sym_functions.specs.Bases.{base_seen}
use Rattle.sym_parts.specs.Sought.{Known, named_place, named_at, number_named, symbol_of, base_of, asked}
use Rattle.sym_parts.specs.Ops as seen
use Rattle.sym_functions.proofs.Known.{KnownRef}
use Rattle.sym_functions.proofs.Ground.{all_fs, all_gs, meant_told, cell_told}
use Rattle.sym_functions.proofs.BasesTold.{the_layout, base_told, base_at, asked_is}

-- Two items that are seen alike.
abbrev pub Alike : SeenNamed → SeenNamed → Type 0
Alike (seen_symbol r) (seen_symbol q) = r ≡ q
Alike (seen_symbol r) (seen_type at t) = ⊥
Alike (seen_type at t) (seen_symbol r) = ⊥
Alike (seen_type at t) (seen_type to u) = (at ≡ to) × (t ≡ u)

pub alike : (a b : SeenNamed) → a ≡ b → Alike a b
alike a b e = subst (Alike a) e (itself a)
  where
    itself : (a : SeenNamed) → Alike a a
    itself (seen_symbol r) = refl
    itself (seen_type at t) = (refl, refl)

module _ (p : rules.Program) (parts : List rules.Part) (es : List InputSymbol) (d : Layout) (is : IsLayoutIn Plain p parts es d) where
  abbrev pub l : values.Layout
  l = the_layout p parts es d is

  abbrev names : List (List ℕ)
  names = d.program.names.now.names

  abbrev imports : List ImportKey
  imports = d.program.resolution.now.imports

  abbrev symbols : List Symbol
  symbols = d.program.tables.now.symbols

  abbrev types : List FuncType
  types = d.program.tables.now.types

  abbrev fs : List FunctionKey
  fs = all_fs d.program p is.program is.stand

  abbrev gs : List GlobalKey
  gs = all_gs d.program p is.program is.stand

  -- What is looked up is that of the layout.
  pub record IsSought (k : Known) : Type 0 where
    pub tables : k.tables ≡ d.program.tables.now
    pub bases : k.bases ≡ map (base_seen l d.numbering.now) symbols
    pub functions : k.functions ≡ fs
    pub cells : k.cells ≡ gs

  abbrev pub IsKnownNamed : rules.Named → Type 0
  IsKnownNamed (a_symbol ref) = KnownRef imports (callable p) ref
  IsKnownNamed (a_type w) = Unit {0}

  -- Two items that are one, or none.
  abbrev pub Same : Option Named → Option rules.Named → Type 0
  Same None None = Unit {0}
  Same None (Some y) = ⊥
  Same (Some x) None = ⊥
  Same (Some x) (Some y) = (seen_named symbols types x ≡ told_named names imports y) × IsKnownNamed y

  same_place : (x : Named) (y : rules.Named) → seen_named symbols types x ≡ told_named names imports y → named_place x ≡ place_of y
  same_place (items.Symbol kind place addend symbol) (a_symbol ref) e = ap (λ (r : SeenRef). r.place) (alike _ _ e)
  same_place (items.Symbol kind place addend symbol) (a_type w) e = absurd (alike _ _ e)
  same_place (items.Type place number) (a_symbol ref) e = absurd (alike _ _ e)
  same_place (items.Type place number) (a_type w) e = (alike _ _ e).0

  -- What stands at a place.
  pub found_told : (row : List Named) (ns : List rules.Named) → map (seen_named symbols types) row ≡ map (told_named names imports) ns → All IsKnownNamed ns → (place : ℕ)
      → Same (named_at row place) (bodies.named_at ns place)
  found_told [] [] e known place = tt
  found_told [] (y ∷ ns) e known place = absurd cc
  found_told (x ∷ row) [] e known place = absurd cc
  found_told (x ∷ row) (y ∷ ns) e known place =
      let first : seen_named symbols types x ≡ told_named names imports y = cc in
      let rest : map (seen_named symbols types) row ≡ map (told_named names imports) ns = cc in
      subst (λ q. Same (if q == place then Some x else named_at row place) (if place_of y == place then Some y else bodies.named_at ns place)) (sym (same_place x y first))
      (by_test (place_of y == place) first (found_told row ns rest (All-tail IsKnownNamed y ns known) place))
    where
      by_test : (r : Bool) → seen_named symbols types x ≡ told_named names imports y → Same (named_at row place) (bodies.named_at ns place)
          → Same (if r then Some x else named_at row place) (if r then Some y else bodies.named_at ns place)
      by_test true first again = (first, All-head IsKnownNamed y ns known)
      by_test false first again = again

  -- ---- instructions

  module _ (k : Known) (sought : IsSought k) where
    -- a symbol that an item names
    pub ref_of : (kind place : ℕ) (addend : ℤ) (symbol : ℕ) (ref : Ref) → seen_named symbols types (items.Symbol kind place addend symbol) ≡ told_named names imports (a_symbol ref)
        → (symbol_of k symbol ≡ told_symbol names imports ref.entry ref.meaning) × (kind ≡ ref.kind) × (addend ≡ ref.addend)
    ref_of kind place addend symbol ref e =
        let shown : SeenRef = record { place = place; kind = kind; addend = addend; symbol = slice_index_or symbols symbol no_symbol } in
        let same : shown ≡ told_ref names imports ref = alike _ _ e in
        (ap (λ t. slice_index_or t.symbols symbol no_symbol) sought.tables ∙ ap (λ (r : SeenRef). r.symbol) same, ap (λ (r : SeenRef). r.kind) same, ap (λ (r : SeenRef). r.addend) same)

    base_is : (symbol : ℕ) (ref : Ref) → symbol_of k symbol ≡ told_symbol names imports ref.entry ref.meaning → KnownRef imports (callable p) ref → base_of k symbol ≡ values.got_value Plain l (ref_got ref)
    base_is symbol ref same known =
        base_at p parts es d is k.bases sought.bases symbol
        ∙ ap (base_seen l d.numbering.now) (ap (λ t. slice_index_or t.symbols symbol no_symbol) (sym sought.tables) ∙ same)
        ∙ base_told p parts es d is (callable p) ref.entry ref.meaning known

    pub call_symbol : (s : Symbol) (ref : Ref) → s ≡ told_symbol names imports ref.entry ref.meaning → KnownRef imports (callable p) ref → seen.call_symbol k.functions s ≡ to_name CallTo (callee p ref)
    call_symbol s ref same known =
        ap (seen.call_symbol k.functions) same
        ∙ ap (λ fs. seen.call_symbol fs (told_symbol names imports ref.entry ref.meaning)) sought.functions
        ∙ ap (to_name CallTo) (meant_told d.program p is.program is.stand ref.entry ref.meaning known)

    call_told : (o : Option Named) (o' : Option rules.Named) → Same o o' → seen.call_seen k o ≡ bodies.called p l o'
    call_told None None same = refl
    call_told None (Some y) same = absurd same
    call_told (Some x) None same = absurd same
    call_told (Some (items.Symbol kind place addend symbol)) (Some (a_symbol ref)) same = call_symbol (symbol_of k symbol) ref (ref_of kind place addend symbol ref same.0).0 same.1
    call_told (Some (items.Symbol kind place addend symbol)) (Some (a_type w)) same = absurd (alike _ _ same.0)
    call_told (Some (items.Type place number)) (Some (a_symbol ref)) same = absurd (alike _ _ same.0)
    call_told (Some (items.Type place number)) (Some (a_type w)) same = refl

    type_of : (place number : ℕ) (w : TypeWindow) → seen_named symbols types (items.Type place number) ≡ told_named names imports (a_type w) → slice_index_or k.tables.types number no_type ≡ w.type
    type_of place number w e = let t : slice_index_or types number no_type ≡ w.type = (alike _ _ e).1 in ap (λ t. slice_index_or t.types number no_type) sought.tables ∙ t

    through_told : (o : Option Named) (o' : Option rules.Named) → Same o o' → seen.through_seen k.tables.types o ≡ bodies.called_through p l o'
    through_told None None same = refl
    through_told None (Some y) same = absurd same
    through_told (Some x) None same = absurd same
    through_told (Some (items.Symbol kind place addend symbol)) (Some (a_symbol ref)) same = refl
    through_told (Some (items.Symbol kind place addend symbol)) (Some (a_type w)) same = absurd (alike _ _ same.0)
    through_told (Some (items.Type place number)) (Some (a_symbol ref)) same = absurd (alike _ _ same.0)
    through_told (Some (items.Type place number)) (Some (a_type w)) same = ap CallThrough (type_of place number w same.0)

    opened_told : (op : ℕ) (o : Option Named) (o' : Option rules.Named) → Same o o' → seen.opened_seen k.tables.types op o ≡ bodies.opened p l op o'
    opened_told op None None same = refl
    opened_told op None (Some y) same = absurd same
    opened_told op (Some x) None same = absurd same
    opened_told op (Some (items.Symbol kind place addend symbol)) (Some (a_symbol ref)) same = refl
    opened_told op (Some (items.Symbol kind place addend symbol)) (Some (a_type w)) same = absurd (alike _ _ same.0)
    opened_told op (Some (items.Type place number)) (Some (a_symbol ref)) same = absurd (alike _ _ same.0)
    opened_told op (Some (items.Type place number)) (Some (a_type w)) same = ap (OpenBlock op) (type_of place number w same.0)

    cell_by : (op : ℕ) (ref : Ref) → KnownRef imports (callable p) ref → (base : ℕ) → base ≡ values.got_value Plain l (ref_got ref) → (r : Bool) → is_kind GlobalVar ref.entry ≡ r
        → (if r then to_name (cell_op op) (seen.cell_place k.cells (told_symbol names imports ref.entry ref.meaning).lead) else seen.number_op op base) ≡ bodies.cell_by p l op ref r
    cell_by op ref known base at true kind =
        ap (λ gs. to_name (cell_op op) (seen.cell_place gs (told_symbol names imports ref.entry ref.meaning).lead)) sought.cells
        ∙ ap (to_name (cell_op op)) (cell_told d.program p is.program is.stand ref ref.meaning known)
        ∙ ap (λ b. to_name (cell_op op) (cell_place p (if b then meant_global Plain ref ref.meaning else cell_key Plain ref))) (sym kind)
    cell_by op ref known base at false kind = ap (seen.number_op op) at

    at_told : (op : ℕ) (o : Option Named) (o' : Option rules.Named) → Same o o' → seen.at_cell k op o ≡ bodies.at_cell p l op o'
    at_told op None None same = refl
    at_told op None (Some y) same = absurd same
    at_told op (Some x) None same = absurd same
    at_told op (Some (items.Symbol kind place addend symbol)) (Some (a_symbol ref)) same =
        let told = (ref_of kind place addend symbol ref same.0).0 in
        ap (λ (s : Symbol). seen.at_symbol k.cells op s (base_of k symbol)) told
        ∙ cell_by op ref same.1 (base_of k symbol) (base_is symbol ref told same.1) (is_kind GlobalVar ref.entry) refl
    at_told op (Some (items.Symbol kind place addend symbol)) (Some (a_type w)) same = absurd (alike _ _ same.0)
    at_told op (Some (items.Type place number)) (Some (a_symbol ref)) same = absurd (alike _ _ same.0)
    at_told op (Some (items.Type place number)) (Some (a_type w)) same = refl

    -- ---- numbers

    pub number_told : (x : Named) (y : rules.Named) → seen_named symbols types x ≡ told_named names imports y → IsKnownNamed y → (n : ℕ) → number_named k x ≡ Some n → n ≡ number_at l y
    number_told (items.Symbol kind place addend symbol) (a_symbol ref) e known n is_n =
        let r = ref_of kind place addend symbol ref e in
        asked_is p parts es d is ref (asks ref.kind) (base_of k symbol) n (base_is symbol ref r.0 known)
        (ap (λ q. asked (asks q) (told_lead imports ref.meaning) (base_of k symbol) ref.addend) (sym r.1)
        ∙ ap (λ a. asked (asks kind) (told_lead imports ref.meaning) (base_of k symbol) a) (sym r.2)
        ∙ ap (λ (s : Symbol). asked (asks kind) s.lead (base_of k symbol) addend) (sym r.0)
        ∙ is_n)
    number_told (items.Symbol kind place addend symbol) (a_type w) e known n is_n = absurd (alike _ _ e)
    number_told (items.Type place number) (a_symbol ref) e known n is_n = absurd (alike _ _ e)
    number_told (items.Type place number) (a_type w) e known n is_n = absurd cc

    access_told : (op align offset : ℕ) (o : Option Named) (o' : Option rules.Named) → Same o o' → (x : Op) → option_map (λ n. Own (instrs.Access op align n)) (seen.number_or k offset o) ≡ Some x
        → x ≡ Own (instrs.Access op align (bodies.number_or p l offset o'))
    access_told op align offset None None same x e = let a : Own (instrs.Access op align offset) ≡ x = cc in sym a
    access_told op align offset None (Some y) same x e = absurd same
    access_told op align offset (Some n) None same x e = absurd same
    access_told op align offset (Some n) (Some y) same x e = by_number (number_named k n) refl e
      where
        by_number : (o : Option ℕ) → number_named k n ≡ o → option_map (λ n. Own (instrs.Access op align n)) o ≡ Some x → x ≡ Own (instrs.Access op align (number_at l y))
        by_number None number e = absurd cc
        by_number (Some m) number e = let a : Own (instrs.Access op align m) ≡ x = cc in sym a ∙ ap (λ m. Own (instrs.Access op align m)) (number_told n y same.0 same.1 m number)

    constant_told : (c : ℤ) (o : Option Named) (o' : Option rules.Named) → Same o o' → (x : Op) → option_map Own (seen.constant_or k (instrs.I32Const c) o) ≡ Some x
        → x ≡ Own (bodies.constant_or p l (instrs.I32Const c) o')
    constant_told c None None same x e = let a : Own (instrs.I32Const c) ≡ x = cc in sym a
    constant_told c None (Some y) same x e = absurd same
    constant_told c (Some n) None same x e = absurd same
    constant_told c (Some n) (Some y) same x e = by_number (number_named k n) refl e
      where
        by_number : (o : Option ℕ) → number_named k n ≡ o → option_map Own (option_map (λ n. instrs.I32Const (signed32 n)) o) ≡ Some x → x ≡ Own (instrs.I32Const (signed32 (number_at l y)))
        by_number None number e = absurd cc
        by_number (Some m) number e = let a : Own (instrs.I32Const (signed32 m)) ≡ x = cc in sym a ∙ ap (λ m. Own (instrs.I32Const (signed32 m))) (number_told n y same.0 same.1 m number)

    -- ---- all instructions

    block_told : (ns : List rules.Named) (x : Placed) (op : ℕ) (kind : BlockKind) (o : Option Named) → Same o (bodies.named_at ns x.mid) → (y : Op) → Some (seen.opened_by k.tables.types op kind o) ≡ Some y
        → y ≡ bodies.op_at p l ns x (instrs.Block op kind)
    block_told ns x op (blocks.Index n) o same y e = let a : seen.opened_seen k.tables.types op o ≡ y = cc in sym a ∙ opened_told op o (bodies.named_at ns x.mid) same
    block_told ns x op blocks.Empty o same y e = let a : seen.opened_by k.tables.types op blocks.Empty o ≡ y = cc in sym a
    block_told ns x op (blocks.Value t) o same y e = let a : seen.opened_by k.tables.types op (blocks.Value t) o ≡ y = cc in sym a

    own_told : (x y : Op) → Some x ≡ Some y → y ≡ x
    own_told x y e = let a : x ≡ y = cc in sym a

    instr_told : (ns : List rules.Named) (x : Placed) (first last : Option Named) → Same first (bodies.named_at ns (x.at + 1)) → Same last (bodies.named_at ns x.mid) → (i : Instr) (y : Op)
        → seen.op_by k first last i ≡ Some y → y ≡ bodies.op_at p l ns x i
    instr_told ns x first last f m (instrs.Block op kind) y e = block_told ns x op kind last m y e
    instr_told ns x first last f m (instrs.Call g) y e = own_told (seen.call_seen k last) y e ∙ call_told last (bodies.named_at ns x.mid) m
    instr_told ns x first last f m (instrs.CallIndirect kind table) y e = own_told (seen.through_seen k.tables.types first) y e ∙ through_told first (bodies.named_at ns (x.at + 1)) f
    instr_told ns x first last f m (instrs.GlobalAt op g) y e = own_told (seen.at_cell k op last) y e ∙ at_told op last (bodies.named_at ns x.mid) m
    instr_told ns x first last f m (instrs.Access op align offset) y e = access_told op align offset last (bodies.named_at ns x.mid) m y e
    instr_told ns x first last f m (instrs.I32Const n) y e = constant_told n last (bodies.named_at ns x.mid) m y e
    instr_told ns x first last f m (instrs.Plain op) y e = own_told (Own (instrs.Plain op)) y e
    instr_told ns x first last f m (instrs.Branch op label) y e = own_told (Own (instrs.Branch op label)) y e
    instr_told ns x first last f m (instrs.BranchTable labels other) y e = own_told (Own (instrs.BranchTable labels other)) y e
    instr_told ns x first last f m (instrs.SelectTyped kinds) y e = own_told (Own (instrs.SelectTyped kinds)) y e
    instr_told ns x first last f m (instrs.Local op local) y e = own_told (Own (instrs.Local op local)) y e
    instr_told ns x first last f m instrs.MemorySize y e = own_told (Own instrs.MemorySize) y e
    instr_told ns x first last f m instrs.MemoryGrow y e = own_told (Own instrs.MemoryGrow) y e
    instr_told ns x first last f m (instrs.I64Const n) y e = own_told (Own (instrs.I64Const n)) y e
    instr_told ns x first last f m (instrs.F32Const n) y e = own_told (Own (instrs.F32Const n)) y e
    instr_told ns x first last f m (instrs.F64Const n) y e = own_told (Own (instrs.F64Const n)) y e
    instr_told ns x first last f m (instrs.Truncate n) y e = own_told (Own (instrs.Truncate n)) y e
    instr_told ns x first last f m instrs.MemoryCopy y e = own_told (Own instrs.MemoryCopy) y e
    instr_told ns x first last f m instrs.MemoryFill y e = own_told (Own instrs.MemoryFill) y e

    -- An instruction of a part.
    pub op_told : (row : List Named) (ns : List rules.Named) → map (seen_named symbols types) row ≡ map (told_named names imports) ns → All IsKnownNamed ns → (x : Placed) (y : Op)
        → seen.op_seen k row x ≡ Some y → y ≡ bodies.plan_op p l ns x
    op_told row ns e known x y is_y =
        instr_told ns x (named_at row (x.at + 1)) (named_at row x.mid) (found_told row ns e known (x.at + 1)) (found_told row ns e known x.mid) x.instr y is_y
