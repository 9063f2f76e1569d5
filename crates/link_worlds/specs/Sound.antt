-- What readers and rules make sure of: each reference names a part that is there, of the kind that its window asks for, and stands at an
-- instruction that takes it. A reference's kind is its relocation's type (Linking.md, "Relocation Sections"): 0 is a function's index, 7 a
-- global's, 20 a table's. A chunk's kind is 0 for a function, 1 for a segment and 2 for a global, and its input is 0 for the linker.
-- 0x23 is the opcode of `global.get` (Core 5.4.4).
use Rattle.std.specs.Prelude.{◌≡◌, Bool, ℕ, ◌<◌, ◌^◌, true, false, List, [], ◌∷◌, length, replicate, Option, Some, None, filter_map, Result, Ok, Err}
use Rattle.list_places.specs.Has.{Has, Apart}
use Rattle.wasm_types.specs.declared.const_expr.ConstExpr.{ConstExpr}
use Rattle.wasm_types.specs.declared.const_expr.ConstExpr.TheVariants as exprs
use Rattle.wasm_grammar.specs.declared.fault.Stop.{Stop}
use Rattle.wasm_instr.specs.declared.instr.Instr.{Instr}
use Rattle.wasm_instr.specs.declared.instr.Instr.TheVariants as instrs
use Rattle.wasm_instr.specs.declared.instr.BlockKind.TheVariants as blocks
use Rattle.wasm_instr.specs.declared.body.Placed.{Placed}
use Rattle.wasm_instr.specs.declared.body.Body.{Body}
use Rattle.wasm_instr.specs.Bodies.{body_at}
use Rattle.linking_section.specs.declared.symbol.SymbolKind.TheVariants.{Function, GlobalVar}
use Rattle.made_symbols.specs.declared.mode.Mode.TheVariants.{Plain}
use Rattle.name_rules.specs.Entries.{InputSymbol, ImportKey, is_kind, name_of, same_entry}
use Rattle.name_rules.specs.Meanings.{Meaning, here, imported, null, nothing, is_nothing}
use Rattle.mark_bits.specs.declared.chunk.Chunk.{Chunk}
use Rattle.reloc_apply.specs.Windows.{fits}
use Rattle.image_emit.specs.Bytes.{Block}
use Rattle.link_rules.specs.Program.{Program, Part, Content, function, segment, global, linker_made, Ref, Named, a_symbol, a_type, refs, chunk_of, same_chunk}
use Rattle.link_rules.specs.Marks.{all_symbols, refs_of}
use Rattle.link_rules.specs.Keys.{GlobalKey, outside_global, linker_global, own_global, got, exported_datum, imports_in_order, is_function_type, is_global_type, callable}
use Rattle.link_rules.specs.Values.{Layout, part_bytes, named_window, made_global_value, got_value, address_of}
use Rattle.link_worlds.specs.Bodies.{named_at, first_place}

-- ---- references

-- a part that is there
pub record PartOf (parts : List Part) (c : Chunk) : Type 0 where
  pub part : Part
  pub there : Has parts part
  pub chunk : part.chunk ≡ c

-- a definition
pub record SoundHere (p : Program) (ref : Ref) (e : InputSymbol) : Type 0 where
  pub made : e.input ≡ 0 → e.index ≡ e.place
  pub function : ref.kind ≡ 0 → e.symbol.kind ≡ Function
  pub global : ref.kind ≡ 7 → is_kind GlobalVar ref.entry ≡ true → e.symbol.kind ≡ GlobalVar
  pub kept : (c : Chunk) → chunk_of e ≡ Some c → PartOf p.parts c

pub record SoundImport (p : Program) (ref : Ref) (k : ImportKey) : Type 0 where
  pub listed : Has (imports_in_order p) k
  pub function : ref.kind ≡ 0 → is_function_type k.type ≡ true
  pub global : ref.kind ≡ 7 → is_kind GlobalVar ref.entry ≡ true → is_global_type k.type ≡ true

pub record SoundNull (p : Program) (ref : Ref) : Type 0 where
  pub entry : InputSymbol
  pub listed : Has (callable p) entry
  pub name : name_of entry ≡ name_of ref.entry
  pub function : ref.kind ≡ 0 → is_kind Function ref.entry ≡ true
  pub global : is_kind GlobalVar ref.entry ≡ true → ⊥

abbrev pub SoundMeaning : Program → Ref → Meaning → Type 0
SoundMeaning p ref (here e) = SoundHere p ref e
SoundMeaning p ref (imported k) = SoundImport p ref k
SoundMeaning p ref null = SoundNull p ref
SoundMeaning p ref nothing = Unit {0}

pub record SoundRef (p : Program) (part : Part) (ref : Ref) : Type 0 where
  pub known : is_nothing ref.meaning ≡ true → Has (all_symbols p) ref.entry
  pub code : ref.kind ≡ 7 → part.chunk.kind ≡ 0
  pub meant : SoundMeaning p ref ref.meaning

-- the entries that references mean
abbrev pub meant_entry : Meaning → Option InputSymbol
meant_entry (here e) = Some e
meant_entry (imported k) = None
meant_entry null = None
meant_entry nothing = None

abbrev pub meant_entries : Program → List InputSymbol
meant_entries p = filter_map (λ (ref : Ref). meant_entry ref.meaning) (refs_of p.parts)

abbrev pub same_part : Part → Part → Bool
same_part a b = same_chunk a.chunk b.chunk

pub record Sound (p : Program) : Type 0 where
  pub apart : Apart same_part p.parts
  -- an entry is known by its input and place
  pub one : (e f : InputSymbol) → Has (meant_entries p) e → Has (meant_entries p) f → same_entry e f ≡ true → e ≡ f
  pub refs : (part : Part) (ref : Ref) → Has p.parts part → Has (refs part) ref → SoundRef p part ref

-- the same of exported winners
pub record SoundExport (p : Program) (e : InputSymbol) : Type 0 where
  pub made : e.input ≡ 0 → e.index ≡ e.place
  pub kept : (c : Chunk) → chunk_of e ≡ Some c → PartOf p.parts c

pub record SoundExports (p : Program) (exports : List InputSymbol) : Type 0 where
  pub each : (e : InputSymbol) → Has exports e → SoundExport p e
  pub one : (e f : InputSymbol) → Has exports e → Has exports f → same_entry e f ≡ true → e ≡ f

-- ---- bodies

-- what is named there is a symbol of this kind, or a type
abbrev pub NamesFunction : Option Named → Type 0
NamesFunction None = ⊥
NamesFunction (Some (a_symbol ref)) = ref.kind ≡ 0
NamesFunction (Some (a_type w)) = ⊥

abbrev pub NamesType : Option Named → Type 0
NamesType None = ⊥
NamesType (Some (a_symbol ref)) = ⊥
NamesType (Some (a_type w)) = Unit {0}

-- table 0, or a reference to the table
abbrev pub NamesTable : ℕ → Option Named → Type 0
NamesTable table None = table ≡ 0
NamesTable table (Some (a_symbol ref)) = ref.kind ≡ 20
NamesTable table (Some (a_type w)) = ⊥

-- a global; or, to be read, the address of a datum or function
abbrev pub NamesCell : ℕ → Option Named → Type 0
NamesCell op None = ⊥
NamesCell op (Some (a_symbol ref)) = (ref.kind ≡ 7) × (is_kind GlobalVar ref.entry ≡ false → op ≡ 0x23)
NamesCell op (Some (a_type w)) = ⊥

-- The references at an instruction are those that it takes.
abbrev pub TakesAt : List Named → Placed → Instr → Type 0
TakesAt names x (instrs.Block op (blocks.Index n)) = NamesType (named_at names x.mid)
TakesAt names x (instrs.Call f) = NamesFunction (named_at names x.mid)
TakesAt names x (instrs.CallIndirect kind table) = NamesType (named_at names (first_place x)) × NamesTable table (named_at names x.mid)
TakesAt names x (instrs.GlobalAt op g) = NamesCell op (named_at names x.mid)
TakesAt names x i = Unit {0}

abbrev pub Takes : List Named → Placed → Type 0
Takes names x = TakesAt names x x.instr

-- The bytes are a body, each instruction with the references that it takes.
abbrev pub Shaped : List Named → Result Body Stop → Type 0
Shaped names (Ok b) = (x : Placed) → Has b.code x → Takes names x
Shaped names (Err stop) = ⊥

abbrev pub IsShaped : Program → Part → Type 0
IsShaped p part = Shaped part.named (body_at (part_bytes p part))

-- ---- values

-- an object's global begins with a constant
abbrev pub IsConstant : ConstExpr → Type 0
IsConstant (exprs.I32 n) = Unit {0}
IsConstant (exprs.I64 n) = Unit {0}
IsConstant (exprs.Get g) = ⊥

abbrev pub IsGlobalPart : Content → Type 0
IsGlobalPart (function t) = ⊥
IsGlobalPart (segment info) = ⊥
IsGlobalPart (global g) = IsConstant g.value
IsGlobalPart (linker_made m) = ⊥

-- each window of the live functions of objects holds its value
abbrev pub InRange : Layout → List Part → Type 0
InRange l parts = (part : Part) (named : Named) → Has parts part → part.chunk.kind ≡ 0 → (part.chunk.input ≡ 0 → ⊥) → Has part.named named → fits (named_window Plain l named) ≡ true

-- the number that a cell of the output holds has 32 bits
abbrev pub IsSmall : Layout → GlobalKey → Type 0
IsSmall l (outside_global k) = Unit {0}
IsSmall l (linker_global n) = made_global_value l n < 2 ^ 32
IsSmall l (own_global input index) = Unit {0}
IsSmall l (got k) = got_value Plain l k < 2 ^ 32
IsSmall l (exported_datum e) = address_of Plain l e < 2 ^ 32

-- ---- memory

-- each holds zeros
abbrev pub AllZero : List Block → Type 0
AllZero [] = Unit {0}
AllZero (b ∷ bs) = (b.bytes ≡ replicate (length b.bytes) 0) × AllZero bs
