-- What the numbers of a live function name in the module has the type of what its references name in its object.
use Rattle.std.proofs.Common.{◌≡◌, ℕ, List, ◌++◌, length, map, Some, Bool, true, false, refl, sym, ap, ◌∙◌, subst, arith}
use Rattle.std.specs.Prelude.{◌==◌, slice_get, option_map, option_and_then, nat_lt, IsTrue}
use Rattle.std.proofs.lemmas.Option.{slice_get-map}
use Rattle.std.proofs.lemmas.Bool.{false≢true}
use Rattle.list_places.specs.Has.{Has}
use Rattle.list_places.proofs.Lists.{has_at, has_right, pick_has, flat_has}
use Rattle.link_worlds.specs.link_rules.object_file.wasm_types.declared.function.FuncType.{FuncType}
use Rattle.link_worlds.specs.link_rules.object_file.wasm_types.declared.table.GlobalType.{GlobalType}
use Rattle.link_worlds.specs.link_rules.object_file.linking_section.declared.symbol.Symbol.{Symbol}
use Rattle.link_worlds.specs.link_rules.object_file.linking_section.declared.symbol.SymbolKind.{SymbolKind}
use Rattle.link_worlds.specs.link_rules.object_file.linking_section.declared.symbol.SymbolKind.TheVariants.{Function, Datum, GlobalVar, Section, Table}
use Rattle.link_worlds.specs.link_rules.object_file.linking_section.Flags.{kind_code}
use Rattle.link_worlds.specs.link_rules.object_file.object_rules.Relocs.{may_name}
use Rattle.link_worlds.specs.link_rules.object_file.declared.object.Object.{Object}
use Rattle.link_worlds.specs.link_rules.object_file.Spaces.{function_types}
use Rattle.made_symbols.specs.declared.mode.Mode.TheVariants.{Plain}
use Rattle.live_mark.specs.Live.{ReachedLaw}
use Rattle.reloc_apply.specs.declared.window.Form.TheVariants.{Unsigned5}
use Rattle.link_worlds.specs.link_rules.name_rules.Entries.{InputSymbol, SymbolType, of_function, of_global, is_kind}
use Rattle.link_worlds.specs.link_rules.Program.{Program, Part, Ref, refs, named_ref, named_type, types_named, TypeWindow, a_symbol, a_type}
use Rattle.link_worlds.specs.link_rules.Marks.{live}
use Rattle.link_worlds.specs.link_rules.Keys.{FunctionKey, ref_function, ref_global, functions, types, type_of, type_place, window_types}
use Rattle.link_worlds.specs.link_rules.Values.{Layout}
use Rattle.link_worlds.specs.link_rules.Output.{layout}
use Rattle.link_worlds.specs.Names.{number_at, RefGets}
use Rattle.link_worlds.specs.Worlds.{layout_of, linked_module}
use Rattle.link_worlds.specs.Statements.{LinkedBy}
use Rattle.link_worlds.proofs.Every.{in_range, ref_gets}
use Rattle.link_worlds.proofs.Functions.{type_found}
use Rattle.link_worlds.proofs.Spaces.{key_typed}
use Rattle.valid_bodies.specs.declared.types.Context.{Context}
use Rattle.valid_bodies.specs.declared.types.Meaning.TheVariants.{OfGlobal}
use Rattle.valid_bodies.specs.Meanings.{typed_as, global_as, type_at}
use Rattle.valid_objects.specs.Objects.{function_by, cell_of_kind, cell_by}
use Rattle.wasm_valid.specs.Spaces.{context_of}
use Rattle.output_types.specs.Types.{constant_cell, cell_type, HasOneType, HaveOneType}
use Rattle.output_types.specs.Spaces.{HasSpaces}
use Rattle.output_types.specs.Functions.{IsTypeOf, NamesSymbol}
use Rattle.output_types.proofs.Numbers.{callee_at, cell_at, held_at}
use Rattle.output_types.proofs.Shapes.{KeepsTypes}

-- ---- what a symbol is in its object

-- a call names a function
calls_function : (kind : SymbolKind) → IsTrue (may_name 0 kind) → kind ≡ Function
calls_function Function t = refl
calls_function Datum t = absurd (false≢true t)
calls_function GlobalVar t = absurd (false≢true t)
calls_function Section t = absurd (false≢true t)
calls_function Table t = absurd (false≢true t)

function_type : (o : Object) (s : Symbol) (kind : SymbolKind) (type : SymbolType) (t : FuncType) → IsTypeOf o s kind type → kind ≡ Function → type ≡ of_function t → slice_get (function_types o) s.index ≡ Some t
function_type o s Function type t h k e = h.1 ∙ ap Some (same (sym h.2 ∙ e))
  where
    same : {a b : FuncType} → of_function a ≡ of_function b → a ≡ b
    same q = grind arith
function_type o s Datum type t h k e = absurd (grind arith)
function_type o s GlobalVar type t h k e = absurd (grind arith)
function_type o s Section type t h k e = absurd (grind arith)
function_type o s Table type t h k e = absurd (grind arith)

-- what stands under `global.get` or `global.set`
cell_meaning : (o : Object) (s : Symbol) (kind : SymbolKind) (type : SymbolType) (g : GlobalType) → IsTypeOf o s kind type → IsTrue (may_name 7 kind)
    → (kind ≡ GlobalVar → type ≡ of_global g) → ((kind ≡ GlobalVar → ⊥) → g ≡ constant_cell) → global_as (Some g) ≡ cell_of_kind o s kind
cell_meaning o s GlobalVar type g h a v c = ap global_as (ap Some (same (sym (v refl) ∙ h.2)) ∙ sym h.1)
  where
    same : {a b : GlobalType} → of_global a ≡ of_global b → a ≡ b
    same q = grind arith
cell_meaning o s Function type g h a v c = ap OfGlobal (c (λ e. absurd (grind arith)))
cell_meaning o s Datum type g h a v c = ap OfGlobal (c (λ e. absurd (grind arith)))
cell_meaning o s Section type g h a v c = absurd (false≢true a)
cell_meaning o s Table type g h a v c = absurd (false≢true a)

-- ---- in the module

module _ (law : ReachedLaw) (p : Program) (exports : List InputSymbol) (lk : LinkedBy p exports (layout_of p exports)) (s : HasSpaces p exports) where
  abbrev parts : List Part
  parts = live p exports

  abbrev lay : Layout
  lay = layout Plain p (live p exports) exports

  abbrev c : Context
  c = context_of (linked_module p exports)

  abbrev index_of : FunctionKey → ℕ
  index_of k = type_place lay.numbers (type_of p (live p exports) k)

  -- ---- functions

  -- the type at the number of a function
  pub type_at_number : (k : FunctionKey) (n : ℕ) → slice_get lay.numbers.functions n ≡ Some k → type_at c n ≡ Some (type_of p parts k)
  unfolding layout
  type_at_number k n e =
      ap (λ fs. option_and_then (slice_get c.types) (slice_get fs n)) s.functions
      ∙ ap (option_and_then (slice_get c.types)) (slice_get-map index_of lay.numbers.functions n ∙ ap (option_map index_of) e)
      ∙ ap (λ ts. slice_get ts (index_of k)) s.types
      ∙ key_typed p exports lk.sound k (has_at lay.numbers.functions n k e)

  call_is : (o : Object) (symbol : ℕ) (ref : Ref) (n : ℕ) → NamesSymbol o symbol ref → ref.kind ≡ 0 → HasOneType p parts ref → slice_get lay.numbers.functions n ≡ Some (ref_function ref)
      → typed_as (type_at c n) ≡ function_by o (slice_get o.symbols symbol)
  call_is o symbol ref n h z one e =
      let f = calls_function h.symbol.kind (subst (λ k. IsTrue (may_name k h.symbol.kind)) z h.asked) in
      ap typed_as (type_at_number (ref_function ref) n e
      ∙ sym (function_type o h.symbol h.symbol.kind ref.entry.type (type_of p parts (ref_function ref)) h.type f (one.function z)))
      ∙ ap (function_by o) (sym h.there)

  -- ---- globals

  cell_here : (n : ℕ) (g : GlobalType) → option_map (cell_type parts) (slice_get lay.numbers.globals n) ≡ Some g → slice_get c.globals n ≡ Some g
  cell_here n g e = ap (λ gs. slice_get gs n) s.globals ∙ slice_get-map (cell_type parts) lay.numbers.globals n ∙ e

  cell_is : (o : Object) (symbol : ℕ) (ref : Ref) (n : ℕ) (g : GlobalType) (h : NamesSymbol o symbol ref) → ref.kind ≡ 7 → slice_get c.globals n ≡ Some g
      → (h.symbol.kind ≡ GlobalVar → ref.entry.type ≡ of_global g) → ((h.symbol.kind ≡ GlobalVar → ⊥) → g ≡ constant_cell)
      → global_as (slice_get c.globals n) ≡ cell_by o (slice_get o.symbols symbol)
  cell_is o symbol ref n g h z e v k =
      ap global_as e
      ∙ cell_meaning o h.symbol h.symbol.kind ref.entry.type g h.type (subst (λ k. IsTrue (may_name k h.symbol.kind)) z h.asked) v k
      ∙ ap (cell_by o) (sym h.there)

  by_gets : (o : Object) (symbol : ℕ) (ref : Ref) → NamesSymbol o symbol ref → ref.kind ≡ 7 → HasOneType p parts ref → RefGets p lay ref → (b : Bool) → is_kind GlobalVar ref.entry ≡ b
      → global_as (slice_get c.globals (number_at lay (a_symbol ref))) ≡ cell_by o (slice_get o.symbols symbol)
  by_gets o symbol ref h z one gets true b =
      let n = number_at lay (a_symbol ref) in
      let g = cell_type parts (ref_global Plain ref) in
      cell_is o symbol ref n g h z (cell_here n g (cell_at p lay parts (ref_global Plain ref) n _ refl (gets.cell z b)))
      (λ q. one.global z b)
      (λ other. absurd (other (global_kind h.symbol.kind (ap (λ k. kind_code k == 2) (sym h.kind) ∙ b))))
    where
      global_kind : (kind : SymbolKind) → (kind_code kind == 2) ≡ true → kind ≡ GlobalVar
      global_kind GlobalVar e = refl
      global_kind Function e = absurd (grind arith)
      global_kind Datum e = absurd (grind arith)
      global_kind Section e = absurd (grind arith)
      global_kind Table e = absurd (grind arith)
  by_gets o symbol ref h z one gets false b =
      let n = number_at lay (a_symbol ref) in
      cell_is o symbol ref n constant_cell h z (cell_here n constant_cell (held_at p lay parts n _ (gets.held z b)))
      (λ q. absurd (let t : is_kind GlobalVar ref.entry ≡ true = ap (λ k. kind_code k == 2) (h.kind ∙ q) in let f = b in grind arith))
      (λ other. refl)

  -- ---- a live function of an object

  module _ (part : Part) (h : Has (live p exports) part) (k : part.chunk.kind ≡ 0) (i : part.chunk.input ≡ 0 → ⊥) (one : HaveOneType p (live p exports)) (o : Object) where
    listed : (ref : Ref) → Has part.named (a_symbol ref) → Has (refs part) ref
    listed ref m = pick_has named_ref part.named (a_symbol ref) ref m refl

    gets : (ref : Ref) → Has part.named (a_symbol ref) → RefGets p lay ref
    gets ref m = ref_gets p exports part ref lk.sound lk.resolved h (listed ref m) law (lk.in_range part (a_symbol ref) h k i m)

    type_there : (w : TypeWindow) → Has part.named (a_type w) → slice_get lay.numbers.types (type_place lay.numbers w.type) ≡ Some w.type
    unfolding layout types
    type_there w m =
        type_found (map (type_of p parts) (functions Plain p parts) ++ window_types parts) w.type
        (has_right (map (type_of p parts) (functions Plain p parts)) (window_types parts) w.type
        (flat_has types_named parts part w.type h (pick_has named_type part.named (a_type w) w.type m refl)))

    pub keeps : KeepsTypes lay c o part.named
    keeps = record {
      memory = ap (λ ms. nat_lt 0 (length ms)) s.memories;
      table = ap (λ ts. slice_get (map (λ t. t.funcref) ts) 0) s.tables;
      calls = λ symbol ref m n z. call_is o symbol ref (number_at lay (a_symbol ref)) n z (one part ref h (listed ref m)) (callee_at p lay ref (number_at lay (a_symbol ref)) ((gets ref m).function z));
      cells = λ symbol ref m n z. by_gets o symbol ref n z (one part ref h (listed ref m)) (gets ref m) (is_kind GlobalVar ref.entry) refl;
      tables = λ ref m z. (gets ref m).table z;
      types = λ w m.
          ap (λ ts. slice_get ts (number_at lay (a_type w))) s.types
          ∙ ap (slice_get lay.numbers.types) (in_range w.place (type_place lay.numbers w.type) Unsigned5 (lk.in_range part (a_type w) h k i m))
          ∙ type_there w m;
    }
