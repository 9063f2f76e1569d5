-- When a relocatable object has a spelling: its numbers are u32, its names UTF-8, its flags and types known, and its bodies spell code.
use Rattle.std.specs.Prelude.{ℕ, ◌<◌, ◌^◌, ◌≡◌, false, IsUtf8, IsTrue, All, List, Option, Some, None, true, neg_ℤ, pos, ◌≤ℤ◌, ◌<ℤ◌, [], ◌∷◌, length, Ok, map}
use Rattle.linking_section.specs.declared.segment.SegmentInfo.{SegmentInfo}
use Rattle.linking_section.specs.Flags.{is_foreign_segment, is_undefined, is_foreign_symbol}
use Rattle.linking_section.specs.declared.init.InitFunc.{InitFunc}
use Rattle.linking_section.specs.declared.group.Member.{Member}
use Rattle.linking_section.specs.Linking.{is_member_kind}
use Rattle.linking_section.specs.declared.group.Group.{Group}
use Rattle.linking_section.specs.declared.symbol.Symbol.{Symbol}
use Rattle.linking_section.specs.declared.symbol.SymbolKind.{SymbolKind}
use Rattle.linking_section.specs.declared.symbol.SymbolKind.TheVariants.{Function, Datum, GlobalVar, Section, Table}
use Rattle.reloc_section.specs.declared.entry.Reloc.{Reloc}
use Rattle.reloc_section.specs.Kinds.{is_read, has_addend}
use Rattle.wasm_instr.specs.wasm_types.declared.import.Import.{Import}
use Rattle.object_parts.specs.declared.imports.Seen.{Seen}
use Rattle.object_parts.specs.Imports.{IsTaken, seen_import, none_seen}
use Rattle.wasm_instr.specs.wasm_types.Types.{SpellsConstExpr}
use Rattle.wasm_instr.specs.declared.body.Body.{Body}
use Rattle.body_windows.specs.declared.operand.Operand.{Operand}
use Rattle.wasm_instr.specs.Bodies.{SpellsBody}
use Rattle.body_windows.specs.Windows.{windows_of}
use Rattle.image_emit.specs.Spelled.{IsImport, IsExport}
use Rattle.partial_rules.specs.Relocatable.{Relocatable, SpelledGlobal, Windowed, section_relocs, body_head, segment_head}

-- A number that has a spelling.
abbrev pub IsU32 : ℕ → Type 0
IsU32 n = n < 2 ^ 32

pub record IsInfo (i : SegmentInfo) : Type 0 where
  pub name : IsUtf8 i.name
  pub align : IsU32 i.align
  pub flags : IsU32 i.flags
  pub known : is_foreign_segment i.flags ≡ false

pub record IsInit (i : InitFunc) : Type 0 where
  pub priority : IsU32 i.priority
  pub symbol : IsU32 i.symbol

pub record IsMember (m : Member) : Type 0 where
  pub kind : IsTrue (is_member_kind m.kind)
  pub index : IsU32 m.index

pub record IsGroup (g : Group) : Type 0 where
  pub name : IsUtf8 g.name
  pub members : All IsMember g.members

abbrev pub IsName : Option (List ℕ) → Type 0
IsName None = ⊥
IsName (Some name) = IsUtf8 name

-- What stands nowhere has no place.
abbrev pub HasPlace : SymbolKind → Symbol → Type 0
HasPlace Function s = (s.offset ≡ 0) × (s.size ≡ 0)
HasPlace Datum s = is_undefined s ≡ true → (s.index ≡ 0) × (s.offset ≡ 0) × (s.size ≡ 0)
HasPlace GlobalVar s = (s.offset ≡ 0) × (s.size ≡ 0)
HasPlace Section s = ⊥
HasPlace Table s = (s.offset ≡ 0) × (s.size ≡ 0)

pub record IsSymbol (s : Symbol) : Type 0 where
  pub flags : IsU32 s.flags
  pub known : is_foreign_symbol s.flags ≡ false
  pub name : IsName s.name
  pub index : IsU32 s.index
  pub offset : IsU32 s.offset
  pub size : IsU32 s.size
  pub place : HasPlace s.kind s

pub record IsLinking (r : Relocatable) : Type 0 where
  pub infos : All IsInfo r.infos
  pub inits : All IsInit r.inits
  pub groups : All IsGroup r.groups
  pub symbols : All IsSymbol r.symbols

pub record IsReloc (x : Reloc) : Type 0 where
  pub kind : IsTrue (is_read x.kind)
  pub offset : IsU32 x.offset
  pub index : IsU32 x.index
  pub low : neg_ℤ (pos (2 ^ 31)) ≤ℤ x.addend
  pub high : x.addend <ℤ pos (2 ^ 31)
  pub none : has_addend x.kind ≡ false → x.addend ≡ pos 0

-- Each is taken behind those before it: at most one memory, and at most one table, which is the table of functions.
abbrev pub AreTaken : Seen → List Import → Type 0
AreTaken seen [] = Unit {0}
AreTaken seen (i ∷ is) = IsTaken seen i.«module» i.field i.kind × AreTaken (seen_import seen i) is

abbrev pub IsSpelledGlobal : SpelledGlobal → Type 0
IsSpelledGlobal g = SpellsConstExpr g.value g.bytes

-- A body with what its bytes spell, and with its operands.
pub record Coded : Type 0 where
  pub windowed : Windowed
  pub code : Body
  pub operands : List Operand

-- Its relocations begin in its bytes and stand on its immediates.
pub record IsCoded (c : Coded) : Type 0 where
  pub spelled : SpellsBody c.code c.windowed.bytes
  pub inside : All (λ (r : Reloc). r.offset < length c.windowed.bytes) c.windowed.relocs
  pub stand : windows_of 0 c.windowed.relocs c.code ≡ Ok c.operands

-- The object is well formed, and these are its bodies with what they spell.
pub record IsWritable (r : Relocatable) (cs : List Coded) : Type 0 where
  pub imports : All IsImport r.imports
  pub taken : AreTaken none_seen r.imports
  pub functions : All IsU32 r.functions
  pub globals : All IsSpelledGlobal r.globals
  pub exports : All IsExport r.exports
  pub linking : IsLinking r
  pub bodies : r.bodies ≡ map {A = Coded} {B = Windowed} (λ c. c.windowed) cs
  pub coded : All IsCoded cs
  pub in_code : All IsReloc (section_relocs body_head r.bodies)
  pub in_data : All IsReloc (section_relocs segment_head r.segments)
