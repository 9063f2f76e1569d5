-- What the numbers of a live function name in a shared output's module has the type of what its references name in its object.
use Rattle.std.proofs.Common.{◌≡◌, ℕ, ◌+◌, List, ◌++◌, length, map, Some, true, false, refl, sym, ap, ◌∙◌, subst, inl, inr, arith}
use Rattle.std.specs.Prelude.{◌⊎◌, ◌==◌, slice_get, option_map, option_and_then, nat_lt, IsTrue, ℤ, pos, ◌+ℤ◌}
use Rattle.std.proofs.lemmas.Option.{slice_get-map}
use Rattle.std.proofs.lemmas.Bool.{false≢true, and_parts, eqb-true, cond-true, cond-false}
use Rattle.list_places.specs.Has.{Has}
use Rattle.list_places.proofs.Lists.{by_test, has_at, has_left, has_right, pick_has, flat_has, map_has}
use Rattle.wasm_types.specs.declared.function.FuncType.{FuncType}
use Rattle.wasm_types.specs.declared.table.GlobalType.{GlobalType}
use Rattle.linking_section.specs.declared.symbol.Symbol.{Symbol}
use Rattle.linking_section.specs.declared.symbol.SymbolKind.{SymbolKind}
use Rattle.linking_section.specs.declared.symbol.SymbolKind.TheVariants.{Function, Datum, GlobalVar, Section, Table}
use Rattle.linking_section.specs.Flags.{kind_code}
use Rattle.object_rules.specs.Relocs.{may_name}
use Rattle.object_file.specs.declared.object.Object.{Object}
use Rattle.object_file.specs.Spaces.{function_types}
use Rattle.made_symbols.specs.declared.mode.Mode.TheVariants.{Shared}
use Rattle.live_mark.specs.Live.{ReachedLaw}
use Rattle.reloc_apply.specs.declared.window.Form.TheVariants.{Unsigned5}
use Rattle.reloc_apply.specs.declared.window.Window.{Window}
use Rattle.reloc_apply.specs.Windows.{bits32, value, fits}
use Rattle.name_rules.specs.Entries.{InputSymbol, SymbolType, of_function, of_global, is_kind}
use Rattle.name_rules.specs.Meanings.{cell_of}
use Rattle.link_rules.specs.Program.{Program, Part, Ref, refs, named_ref, named_type, types_named, TypeWindow, a_symbol, a_type}
use Rattle.link_rules.specs.Marks.{live, is_foreign}
use Rattle.link_rules.specs.Keys.{FunctionKey, GlobalKey, outside_global, linker_global, own_global, got, exported_datum, same_function, same_global, ref_function, ref_global, ref_got, cell_key, meant_global, functions, globals, types, type_of, type_place, window_types, function_number, global_number}
use Rattle.link_rules.specs.Values.{Layout, Asks, a_function, a_global, asks, form_of, target_by, addend_by, ref_window}
use Rattle.link_rules.specs.Output.{layout}
use Rattle.link_worlds.specs.Names.{number_in}
use Rattle.link_worlds.proofs.Every.{in_range}
use Rattle.link_worlds.proofs.Functions.{type_found}
use Rattle.link_worlds.proofs.Keys.{function_equal, import_equal, globals_same}
use Rattle.shared_module.specs.Outputs.{shared_module}
use Rattle.valid_bodies.specs.declared.types.Context.{Context}
use Rattle.valid_bodies.specs.declared.types.Meaning.TheVariants.{OfGlobal}
use Rattle.valid_bodies.specs.Meanings.{typed_as, global_as, type_at}
use Rattle.valid_bodies.specs.Shapes.{as_global, global}
use Rattle.valid_objects.specs.Objects.{function_by, cell_of_kind, cell_by}
use Rattle.wasm_valid.specs.Spaces.{context_of}
use Rattle.output_types.specs.Types.{constant_cell}
use Rattle.output_types.specs.Functions.{IsTypeOf, NamesSymbol}
use Rattle.shared_types.specs.Types.{own_cell, shared_cell, HaveOneType}
use Rattle.shared_types.specs.Linked.{SharedLinkedBy}
use Rattle.shared_types.specs.Spaces.{HasSpaces}
use Rattle.shared_types.proofs.Lists.{Among, itself, at_number}
use Rattle.shared_types.proofs.KeyPlaces.{function_among, global_there, cell_among}
use Rattle.shared_types.proofs.Shapes.{KeepsTypes}

-- ---- what a symbol is in its object

-- a call names a function
calls_function : (kind : SymbolKind) → IsTrue (may_name 0 kind) → kind ≡ Function
calls_function Function t = refl
calls_function Datum t = absurd (false≢true t)
calls_function GlobalVar t = absurd (false≢true t)
calls_function Section t = absurd (false≢true t)
calls_function Table t = absurd (false≢true t)

-- what stands under `global.get` or `global.set` and is no global is a function or a datum
addressed : (kind : SymbolKind) → IsTrue (may_name 7 kind) → (kind_code kind == kind_code GlobalVar) ≡ false → (kind ≡ Function) ⊎ (kind ≡ Datum)
addressed Function t g = inl refl
addressed Datum t g = inr refl
addressed GlobalVar t g = absurd (grind arith)
addressed Section t g = absurd (false≢true t)
addressed Table t g = absurd (false≢true t)

function_type : (o : Object) (s : Symbol) (kind : SymbolKind) (type : SymbolType) (t : FuncType) → IsTypeOf o s kind type → kind ≡ Function → type ≡ of_function t → slice_get (function_types o) s.index ≡ Some t
function_type o s Function type t h k e = h.1 ∙ ap Some (same (sym h.2 ∙ e))
  where
    same : {a b : FuncType} → of_function a ≡ of_function b → a ≡ b
    same q = grind arith
function_type o s Datum type t h k e = absurd (grind arith)
function_type o s GlobalVar type t h k e = absurd (grind arith)
function_type o s Section type t h k e = absurd (grind arith)
function_type o s Table type t h k e = absurd (grind arith)

-- a global has the type that its object gives to it
global_meaning : (o : Object) (s : Symbol) (kind : SymbolKind) (type : SymbolType) (g : GlobalType) → IsTypeOf o s kind type → kind ≡ GlobalVar → type ≡ of_global g → global_as (Some g) ≡ cell_of_kind o s kind
global_meaning o s GlobalVar type g h k e = ap global_as (ap Some (same (sym e ∙ h.2)) ∙ sym h.1)
  where
    same : {a b : GlobalType} → of_global a ≡ of_global b → a ≡ b
    same q = grind arith
global_meaning o s Function type g h k e = absurd (grind arith)
global_meaning o s Datum type g h k e = absurd (grind arith)
global_meaning o s Section type g h k e = absurd (grind arith)
global_meaning o s Table type g h k e = absurd (grind arith)

-- an address is a constant in its object
address_meaning : (o : Object) (s : Symbol) (kind : SymbolKind) → (kind ≡ Function) ⊎ (kind ≡ Datum) → cell_of_kind o s kind ≡ OfGlobal constant_cell
address_meaning o s kind (inl e) = ap (cell_of_kind o s) e
address_meaning o s kind (inr e) = ap (cell_of_kind o s) e

-- globals that are the same have one type
same_type : (parts : List Part) (a b : GlobalKey) → same_global a b ≡ true → shared_cell parts a ≡ shared_cell parts b
same_type parts (outside_global a) (outside_global b) h = ap (λ k. shared_cell parts (outside_global k)) (import_equal a b h)
same_type parts (linker_global a) (linker_global b) h = refl
same_type parts (own_global a i) (own_global b j) h =
    let r = and_parts (a == b) (i == j) h in
    ap (λ n. shared_cell parts (own_global n i)) (eqb-true a b r.0) ∙ ap (λ n. shared_cell parts (own_global b n)) (eqb-true i j r.1)
same_type parts (got a) (got b) h = refl
same_type parts (exported_datum a) (exported_datum b) h = refl
same_type parts _ _ h = absurd (grind arith)

-- ---- windows

-- the window, by what is asked for
abbrev window_as : Layout → Ref → Asks → Window
window_as l ref a = record { place = ref.place; form = form_of ref.kind; target = pos (target_by Shared l ref a); addend = addend_by ref a }

-- the number in the window, where it is that of a function or of a global
number_is : (l : Layout) (ref : Ref) → fits (ref_window Shared l ref) ≡ true → (a : Asks) → asks ref.kind ≡ a → (n : ℕ) → target_by Shared l ref a ≡ n → addend_by ref a ≡ pos 0 → number_in Shared l (a_symbol ref) ≡ n
number_is l ref f a e n t z =
    ap (λ b. bits32 (value (window_as l ref b))) e
    ∙ ap (λ k. bits32 (pos k +ℤ addend_by ref a)) t
    ∙ ap (λ k. bits32 (pos n +ℤ k)) z
    ∙ in_range ref.place n (form_of ref.kind) (as_record (target_by Shared l ref a) (addend_by ref a) t z (subst (λ b. fits (window_as l ref b) ≡ true) e f))
  where
    as_record : (k : ℕ) (m : ℤ) → k ≡ n → m ≡ pos 0 → fits (record { place = ref.place; form = form_of ref.kind; target = pos k; addend = m }) ≡ true
        → fits (record { place = ref.place; form = form_of ref.kind; target = pos n; addend = pos 0 }) ≡ true
    as_record k m t z g =
        subst (λ k. fits (record { place = ref.place; form = form_of ref.kind; target = pos k; addend = pos 0 }) ≡ true) t
        (subst (λ m. fits (record { place = ref.place; form = form_of ref.kind; target = pos k; addend = m }) ≡ true) z g)

-- the table is number 0
table_is : (l : Layout) (ref : Ref) → ref.kind ≡ 20 → number_in Shared l (a_symbol ref) ≡ 0
table_is l ref k = ap (λ a. bits32 (value (window_as l ref a))) (ap asks k)

-- ---- in the module

module _ (law : ReachedLaw) (p : Program) (exports : List InputSymbol) (lk : SharedLinkedBy p exports) (s : HasSpaces p exports) where
  abbrev parts : List Part
  parts = live p exports

  abbrev lay : Layout
  lay = layout Shared p (live p exports) exports

  abbrev c : Context
  c = context_of (shared_module p exports)

  abbrev index_of : FunctionKey → ℕ
  index_of k = type_place lay.numbers (type_of p (live p exports) k)

  -- ---- functions

  -- the type of each key is in the list
  pub key_typed : (k : FunctionKey) → Has (functions Shared p parts) k → slice_get lay.numbers.types (type_place lay.numbers (type_of p parts k)) ≡ Some (type_of p parts k)
  unfolding layout types
  key_typed k h =
      type_found (map (type_of p parts) (functions Shared p parts) ++ window_types parts) (type_of p parts k)
      (has_left (map (type_of p parts) (functions Shared p parts)) (window_types parts) (type_of p parts k) (map_has (type_of p parts) (functions Shared p parts) k h))

  -- the type at the number of a function
  type_at_number : (k : FunctionKey) (n : ℕ) → slice_get lay.numbers.functions n ≡ Some k → type_at c n ≡ Some (type_of p parts k)
  unfolding layout
  type_at_number k n e =
      ap (λ fs. option_and_then (slice_get c.types) (slice_get fs n)) s.functions
      ∙ ap (option_and_then (slice_get c.types)) (slice_get-map index_of lay.numbers.functions n ∙ ap (option_map index_of) e)
      ∙ ap (λ ts. slice_get ts (index_of k)) s.types
      ∙ key_typed k (has_at lay.numbers.functions n k e)

  -- the type at the number of a live reference's function
  pub callee_type : (part : Part) (ref : Ref) → Has (live p exports) part → Has (refs part) ref → ref.kind ≡ 0 → type_at c (function_number lay.numbers (ref_function ref)) ≡ Some (type_of p parts (ref_function ref))
  unfolding layout
  callee_type part ref h r z =
      let a = at_number same_function (functions Shared p parts) (ref_function ref) (function_among law p exports lk part ref h r z) in
      type_at_number (ref_function ref) (function_number lay.numbers (ref_function ref)) (a.1 ∙ ap Some (sym (function_equal (ref_function ref) a.0 a.2)))

  -- ---- globals

  -- the type at the number of a global
  pub cell_at : (k : GlobalKey) → Among same_global lay.numbers.globals k → slice_get c.globals (global_number lay.numbers k) ≡ Some (shared_cell parts k)
  cell_at k h =
      let a = at_number same_global lay.numbers.globals k h in
      ap (λ gs. slice_get gs (global_number lay.numbers k)) s.globals
      ∙ slice_get-map (shared_cell parts) lay.numbers.globals (global_number lay.numbers k)
      ∙ ap (option_map (shared_cell parts)) a.1
      ∙ ap Some (sym (same_type parts k a.0 a.2))

  -- the cell of an address is an i32 that can be set
  address_cell : (ref : Ref) → is_kind GlobalVar ref.entry ≡ false → shared_cell parts (ref_global Shared ref) ≡ own_cell
  address_cell ref g =
      ap (shared_cell parts) (cond-false (is_kind GlobalVar ref.entry) (meant_global Shared ref ref.meaning) (cell_key Shared ref) g)
      ∙ by_test (is_foreign ref)
      (λ f. ap (shared_cell parts) (cond-true (is_foreign ref) (outside_global (cell_of ref.entry)) (got (ref_got ref)) f))
      (λ f. ap (shared_cell parts) (cond-false (is_foreign ref) (outside_global (cell_of ref.entry)) (got (ref_got ref)) f))

  -- ---- a live function of an object

  module _ (part : Part) (h : Has (live p exports) part) (k : part.chunk.kind ≡ 0) (i : part.chunk.input ≡ 0 → ⊥) (one : HaveOneType p (live p exports)) (o : Object) where
    listed : (ref : Ref) → Has part.named (a_symbol ref) → Has (refs part) ref
    listed ref m = pick_has named_ref part.named (a_symbol ref) ref m refl

    call_is : (symbol : ℕ) (ref : Ref) → Has part.named (a_symbol ref) → NamesSymbol o symbol ref → ref.kind ≡ 0
        → typed_as (type_at c (number_in Shared lay (a_symbol ref))) ≡ function_by o (slice_get o.symbols symbol)
    call_is symbol ref m n z =
        let f = calls_function n.symbol.kind (subst (λ k. IsTrue (may_name k n.symbol.kind)) z n.asked) in
        let number = number_is lay ref (lk.in_range part (a_symbol ref) h k i m) a_function (ap asks z) (function_number lay.numbers (ref_function ref)) refl refl in
        ap (λ n. typed_as (type_at c n)) number
        ∙ ap typed_as (callee_type part ref h (listed ref m) z
        ∙ sym (function_type o n.symbol n.symbol.kind ref.entry.type (type_of p parts (ref_function ref)) n.type f ((one part ref h (listed ref m)).function z)))
        ∙ ap (function_by o) (sym n.there)

    global_number_is : (ref : Ref) → Has part.named (a_symbol ref) → ref.kind ≡ 7 → number_in Shared lay (a_symbol ref) ≡ global_number lay.numbers (ref_global Shared ref)
    global_number_is ref m z = number_is lay ref (lk.in_range part (a_symbol ref) h k i m) a_global (ap asks z) (global_number lay.numbers (ref_global Shared ref)) refl refl

    there_in : (key : GlobalKey) → Among same_global (globals Shared p parts exports) key → Among same_global lay.numbers.globals key
    unfolding layout
    there_in key a = a

    cell_is : (op symbol : ℕ) (ref : Ref) → Has part.named (a_symbol ref) → NamesSymbol o symbol ref → ref.kind ≡ 7 → (is_kind GlobalVar ref.entry ≡ false → op ≡ 0x23)
        → as_global (global op) (global_as (slice_get c.globals (number_in Shared lay (a_symbol ref)))) ≡ as_global (global op) (cell_by o (slice_get o.symbols symbol))
    cell_is op symbol ref m n z reads =
        let key = ref_global Shared ref in
        ap (λ x. as_global (global op) (global_as (slice_get c.globals x))) (global_number_is ref m z)
        ∙ by_test (is_kind GlobalVar ref.entry) of_global_kind of_address
        ∙ ap (λ x. as_global (global op) (cell_by o x)) (sym n.there)
      where
        asked : IsTrue (may_name 7 n.symbol.kind)
        asked = subst (λ k. IsTrue (may_name k n.symbol.kind)) z n.asked

        is_global : (kind : SymbolKind) → (kind_code kind == 2) ≡ true → kind ≡ GlobalVar
        is_global GlobalVar e = refl
        is_global Function e = absurd (grind arith)
        is_global Datum e = absurd (grind arith)
        is_global Section e = absurd (grind arith)
        is_global Table e = absurd (grind arith)

        of_global_kind : is_kind GlobalVar ref.entry ≡ true
            → as_global (global op) (global_as (slice_get c.globals (global_number lay.numbers (ref_global Shared ref)))) ≡ as_global (global op) (cell_of_kind o n.symbol n.symbol.kind)
        of_global_kind b =
            let there = there_in (ref_global Shared ref) (itself same_global globals_same (globals Shared p parts exports) (ref_global Shared ref) (global_there law p exports lk part ref h (listed ref m) z b)) in
            ap (λ x. as_global (global op) (global_as x)) (cell_at (ref_global Shared ref) there)
            ∙ ap (as_global (global op))
            (global_meaning o n.symbol n.symbol.kind ref.entry.type (shared_cell parts (ref_global Shared ref)) n.type
            (is_global n.symbol.kind (ap (λ k. kind_code k == 2) (sym n.kind) ∙ b)) ((one part ref h (listed ref m)).global z b))

        of_address : is_kind GlobalVar ref.entry ≡ false
            → as_global (global op) (global_as (slice_get c.globals (global_number lay.numbers (ref_global Shared ref)))) ≡ as_global (global op) (cell_of_kind o n.symbol n.symbol.kind)
        of_address b =
            let two = addressed n.symbol.kind asked (ap (λ k. kind_code k == 2) (sym n.kind) ∙ b) in
            let entry = subst (λ k. (k ≡ Function) ⊎ (k ≡ Datum)) (sym n.kind) two in
            let there = there_in (ref_global Shared ref) (cell_among law p exports lk part ref h (listed ref m) z b k entry) in
            ap (λ x. as_global (global op) (global_as x)) (cell_at (ref_global Shared ref) there ∙ ap Some (address_cell ref b))
            ∙ ap (λ x. as_global (global x) (OfGlobal own_cell)) (reads b)
            ∙ ap (λ x. as_global (global x) (OfGlobal constant_cell)) (sym (reads b))
            ∙ ap (as_global (global op)) (sym (address_meaning o n.symbol n.symbol.kind two))

    type_there : (w : TypeWindow) → Has part.named (a_type w) → slice_get lay.numbers.types (type_place lay.numbers w.type) ≡ Some w.type
    unfolding layout types
    type_there w m =
        type_found (map (type_of p parts) (functions Shared p parts) ++ window_types parts) w.type
        (has_right (map (type_of p parts) (functions Shared p parts)) (window_types parts) w.type
        (flat_has types_named parts part w.type h (pick_has named_type part.named (a_type w) w.type m refl)))

    pub keeps : KeepsTypes Shared lay c o part.named
    keeps = record {
      memory = ap (λ ms. nat_lt 0 (length ms)) s.memories;
      table = ap (λ ts. slice_get (map (λ t. t.funcref) ts) 0) s.tables;
      calls = call_is;
      cells = cell_is;
      tables = λ ref m z. table_is lay ref z;
      types = λ w m.
          ap (λ ts. slice_get ts (number_in Shared lay (a_type w))) s.types
          ∙ ap (slice_get lay.numbers.types) (in_range w.place (type_place lay.numbers w.type) Unsigned5 (lk.in_range part (a_type w) h k i m))
          ∙ type_there w m;
    }
