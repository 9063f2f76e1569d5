-- What an object that was read can be spelled with: its names are UTF-8, its flags and types are
-- known, and its numbers are in the range of their forms (Core 5.2.2, 5.2.4; Linking.md).
use Rattle.std.specs.Prelude.{◌≡◌, ℕ, ℤ, ◌<◌, ◌^◌, ◌≤ℤ◌, ◌<ℤ◌, pos, neg_ℤ, true, false, List, All, Option, IfSome, IsUtf8, IsTrue}
use Rattle.object_rules.specs.wasm_types.declared.table.Limits.{Limits}
use Rattle.object_rules.specs.wasm_types.declared.import.Import.{Import}
use Rattle.object_rules.specs.wasm_types.declared.import.ImportKind.{ImportKind}
use Rattle.object_rules.specs.wasm_types.declared.import.ImportKind.TheVariants as kinds
use Rattle.object_rules.specs.wasm_types.declared.const_expr.ConstExpr.{ConstExpr}
use Rattle.object_rules.specs.wasm_types.declared.const_expr.ConstExpr.TheVariants as exprs
use Rattle.object_rules.specs.reloc_section.declared.entry.Reloc.{Reloc}
use Rattle.object_rules.specs.reloc_section.Kinds.{is_read, has_addend}
use Rattle.object_rules.specs.linking_section.declared.segment.SegmentInfo.{SegmentInfo}
use Rattle.object_rules.specs.linking_section.declared.init.InitFunc.{InitFunc}
use Rattle.object_rules.specs.linking_section.declared.group.Member.{Member}
use Rattle.object_rules.specs.linking_section.declared.group.Group.{Group}
use Rattle.object_rules.specs.linking_section.declared.symbol.Symbol.{Symbol}
use Rattle.object_rules.specs.linking_section.declared.symbol.SymbolKind.{SymbolKind}
use Rattle.object_rules.specs.linking_section.declared.symbol.SymbolKind.TheVariants.{Datum}
use Rattle.object_rules.specs.linking_section.Flags.{is_foreign_symbol, is_foreign_segment, is_undefined}
use Rattle.object_rules.specs.linking_section.Linking.{is_member_kind}
use Rattle.object_rules.specs.body_windows.declared.operand.Operand.{Operand}
use Rattle.object_rules.specs.body_windows.declared.operand.Operand.TheVariants as operands
use Rattle.object_columns.specs.declared.functions.FunctionDef.{FunctionDef}
use Rattle.object_columns.specs.declared.segments.SegmentDef.{SegmentDef}
use Rattle.object_file.specs.declared.object.Object.{Object}

-- ---- numbers and names

abbrev pub IsU32 : ℕ → Type 0
IsU32 n = n < 2 ^ 32

abbrev pub IsS32 : ℤ → Type 0
IsS32 n = (neg_ℤ (pos (2 ^ 31)) ≤ℤ n) × (n <ℤ pos (2 ^ 31))

abbrev pub IsS64 : ℤ → Type 0
IsS64 n = (neg_ℤ (pos (2 ^ 63)) ≤ℤ n) × (n <ℤ pos (2 ^ 63))

-- A name, where there is one.
abbrev pub IsName : Option (List ℕ) → Type 0
IsName name = IfSome name IsUtf8

-- ---- imports and globals

-- The bounds of limits (Core 5.3.7).
abbrev pub AreBounds : Limits → Type 0
AreBounds l = IsU32 l.min × IfSome l.max IsU32

abbrev pub IsImportKind : ImportKind → Type 0
IsImportKind (kinds.Function index) = IsU32 index
IsImportKind (kinds.Table t) = AreBounds t.limits
IsImportKind (kinds.Memory l) = AreBounds l
IsImportKind (kinds.GlobalVar t) = Unit {0}

pub record IsImport (i : Import) : Type 0 where
  pub from : IsUtf8 i.«module»
  pub field : IsUtf8 i.field
  pub kind : IsImportKind i.kind

-- The first value of a global of an object is a number (Core 5.4.9).
abbrev pub IsNumber : ConstExpr → Type 0
IsNumber (exprs.I32 n) = IsS32 n
IsNumber (exprs.I64 n) = IsS64 n
IsNumber (exprs.Get index) = ⊥

-- ---- functions and segments

-- The index and the addend of a window.
abbrev pub IsOperand : Operand → Type 0
IsOperand operands.Number = Unit {0}
IsOperand (operands.Symbol kind place symbol addend) = IsU32 symbol × IsS32 addend
IsOperand (operands.TypeRef place index) = IsU32 index
IsOperand operands.TableZero = Unit {0}

pub record IsFunction (f : FunctionDef) : Type 0 where
  pub type_index : IsU32 f.type_index
  pub export_name : IsName f.export_name
  pub operands : All IsOperand f.operands

-- A relocation whose type has no addend has 0 (Linking.md, "Relocation Sections").
pub record IsReloc (r : Reloc) : Type 0 where
  pub kind : IsTrue (is_read r.kind)
  pub offset : IsU32 r.offset
  pub index : IsU32 r.index
  pub addend : IsS32 r.addend
  pub none : has_addend r.kind ≡ false → r.addend ≡ pos 0

pub record IsInfo (i : SegmentInfo) : Type 0 where
  pub name : IsUtf8 i.name
  pub align : IsU32 i.align
  pub flags : IsU32 i.flags
  pub known : is_foreign_segment i.flags ≡ false

pub record IsSegment (s : SegmentDef) : Type 0 where
  pub info : IsInfo s.info
  pub windows : All IsReloc s.windows

-- ---- symbols, init functions and groups

-- What stands nowhere has no place (Linking.md, "Symbol Table Subsection").
abbrev pub HasPlace : SymbolKind → Symbol → Type 0
HasPlace Datum s = is_undefined s ≡ true → (s.index ≡ 0) × (s.offset ≡ 0) × (s.size ≡ 0)
HasPlace _ s = (s.offset ≡ 0) × (s.size ≡ 0)

pub record IsSymbol (s : Symbol) : Type 0 where
  pub flags : IsU32 s.flags
  pub known : is_foreign_symbol s.flags ≡ false
  pub name : IsName s.name
  pub index : IsU32 s.index
  pub offset : IsU32 s.offset
  pub size : IsU32 s.size
  pub place : HasPlace s.kind s

pub record IsInit (i : InitFunc) : Type 0 where
  pub priority : IsU32 i.priority
  pub symbol : IsU32 i.symbol

pub record IsMember (m : Member) : Type 0 where
  pub kind : IsTrue (is_member_kind m.kind)
  pub index : IsU32 m.index

pub record IsGroup (g : Group) : Type 0 where
  pub name : IsUtf8 g.name
  pub members : All IsMember g.members

-- ---- all together

pub record IsSpellable (o : Object) : Type 0 where
  pub imports : All IsImport o.imports
  pub functions : All IsFunction o.functions
  pub globals : All (λ g. IsNumber g.value) o.globals
  pub segments : All IsSegment o.segments
  pub symbols : All IsSymbol o.symbols
  pub inits : All IsInit o.inits
  pub groups : All IsGroup o.groups
