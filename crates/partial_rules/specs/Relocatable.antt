-- A relocatable object as a tree, and its bytes (Linking.md; Core 5.5).
use Rattle.std.specs.Prelude.{ℕ, ◌+◌, List, [], ◌∷◌, ◌++◌, length, map, if◌then◌else◌, unwrap_or, pos, codes}
use Rattle.object_file.specs.leb_codec.Shortest.{u32, s32}
use Rattle.object_file.specs.wasm_types.declared.function.FuncType.{FuncType}
use Rattle.object_file.specs.wasm_types.declared.table.GlobalType.{GlobalType}
use Rattle.object_file.specs.wasm_types.declared.import.Import.{Import}
use Rattle.object_file.specs.wasm_types.declared.const_expr.ConstExpr.{ConstExpr}
use Rattle.object_file.specs.wasm_types.declared.const_expr.ConstExpr.TheVariants as constants
use Rattle.object_file.specs.wasm_module.declared.parts.Export.{Export}
use Rattle.object_file.specs.linking_section.declared.symbol.Symbol.{Symbol}
use Rattle.object_file.specs.linking_section.declared.symbol.SymbolKind.{SymbolKind}
use Rattle.object_file.specs.linking_section.declared.symbol.SymbolKind.TheVariants.{Function, Datum, GlobalVar, Section, Table}
use Rattle.object_file.specs.linking_section.declared.segment.SegmentInfo.{SegmentInfo}
use Rattle.object_file.specs.linking_section.declared.init.InitFunc.{InitFunc}
use Rattle.object_file.specs.linking_section.declared.group.Member.{Member}
use Rattle.object_file.specs.linking_section.declared.group.Group.{Group}
use Rattle.object_file.specs.linking_section.Flags.{kind_code, is_named, is_undefined}
use Rattle.object_file.specs.reloc_section.declared.entry.Reloc.{Reloc}
use Rattle.object_file.specs.reloc_section.Kinds.{has_addend}
use Rattle.image_emit.specs.Bytes.{header, section, sized, vector, func_type, import_entry, global_type, const_expr, export}

-- ---- the tree

-- A defined global: its type, the first value, and the bytes by which its own object spells that.
pub record SpelledGlobal : Type 0 where
  pub kind : GlobalType
  pub value : ConstExpr
  pub bytes : List ℕ

-- A body or a data segment: its bytes, in which windows are empty, and its relocations by their places in it.
pub record Windowed : Type 0 where
  pub bytes : List ℕ
  pub relocs : List Reloc

-- There is no element segment, no table, no memory of its own and no data count.
pub record Relocatable : Type 0 where
  pub types : List FuncType
  pub imports : List Import
  pub functions : List ℕ
  pub globals : List SpelledGlobal
  pub exports : List Export
  pub bodies : List Windowed
  pub segments : List Windowed
  pub infos : List SegmentInfo
  pub symbols : List Symbol
  pub inits : List InitFunc
  pub groups : List Group

-- ---- the section `linking`

abbrev pub spelled_name : Symbol → List ℕ
spelled_name s = sized (unwrap_or s.name [])

-- A function, global or table: its index, and its name where it stands with the symbol.
abbrev pub indexed : Symbol → List ℕ
indexed s = u32 s.index ++ (if is_named s.flags then spelled_name s else [])

-- A datum: its name, and where it stands, if it is defined.
abbrev pub datum : Symbol → List ℕ
datum s = spelled_name s ++ (if is_undefined s then [] else u32 s.index ++ u32 s.offset ++ u32 s.size)

abbrev pub symbol_rest : SymbolKind → Symbol → List ℕ
symbol_rest Function s = indexed s
symbol_rest Datum s = datum s
symbol_rest GlobalVar s = indexed s
symbol_rest Section s = u32 s.index
symbol_rest Table s = indexed s

abbrev pub symbol : Symbol → List ℕ
symbol s = kind_code s.kind ∷ u32 s.flags ++ symbol_rest s.kind s

abbrev pub segment_info : SegmentInfo → List ℕ
segment_info i = sized i.name ++ u32 i.align ++ u32 i.flags

abbrev pub init : InitFunc → List ℕ
init i = u32 i.priority ++ u32 i.symbol

abbrev pub member : Member → List ℕ
member m = m.kind ∷ u32 m.index

abbrev pub group : Group → List ℕ
group g = sized g.name ++ u32 0 ++ vector member g.members

-- A subsection: the byte of its type, its size, and the vector of its entries. One without entries is left out.
abbrev pub subsection : {A : Type 0} → ℕ → (A → List ℕ) → List A → List ℕ
subsection kind item [] = []
subsection kind item (x ∷ xs) = kind ∷ sized (vector item (x ∷ xs))

-- Version 2, the symbols (also where there is none), then segment infos, init functions and groups.
abbrev pub linking : Relocatable → List ℕ
linking r =
    u32 2
    ++ (8 ∷ sized (vector symbol r.symbols))
    ++ subsection 5 segment_info r.infos
    ++ subsection 6 init r.inits
    ++ subsection 7 group r.groups

-- ---- relocations

abbrev pub reloc : Reloc → List ℕ
reloc x = x.kind ∷ u32 x.offset ++ u32 x.index ++ (if has_addend x.kind then s32 x.addend else [])

abbrev pub later : ℕ → Reloc → Reloc
later n x = record x { offset = n + x.offset }

-- What leads to a body: its size. What leads to the bytes of a segment: flag 0, the offset 0, and its size.
abbrev pub body_head : List ℕ → List ℕ
body_head bytes = u32 (length bytes)

abbrev pub segment_head : List ℕ → List ℕ
segment_head bytes = 0 ∷ const_expr (constants.I32 (pos 0)) ++ u32 (length bytes)

-- The relocations of a section by their places in its payload: of what stands there from a place on, each behind its head.
abbrev pub relocs_from : (List ℕ → List ℕ) → ℕ → List Windowed → List Reloc
relocs_from head at [] = []
relocs_from head at (w ∷ ws) =
    map {A = Reloc} {B = Reloc} (later (at + length (head w.bytes))) w.relocs
    ++ relocs_from head (at + length (head w.bytes) + length w.bytes) ws

-- What stands there begins behind the count.
abbrev pub section_relocs : (List ℕ → List ℕ) → List Windowed → List Reloc
section_relocs head ws = relocs_from head (length (u32 (length ws))) ws

abbrev pub custom : List ℕ → List ℕ → List ℕ
custom name payload = 0 ∷ sized (sized name ++ payload)

-- A section of relocations names its target by its place among all sections. One without entries is left out.
abbrev pub reloc_section : List ℕ → ℕ → List Reloc → List ℕ
reloc_section name target [] = []
reloc_section name target (x ∷ xs) = custom name (u32 target ++ vector reloc (x ∷ xs))

-- ---- the bytes

abbrev pub body : Windowed → List ℕ
body w = body_head w.bytes ++ w.bytes

abbrev pub segment : Windowed → List ℕ
segment w = segment_head w.bytes ++ w.bytes

abbrev pub spelled_global : SpelledGlobal → List ℕ
spelled_global g = global_type g.kind ++ g.bytes

-- 1 where a section has entries and so stands there.
abbrev pub present : {A : Type 0} → List A → ℕ
present [] = 0
present (x ∷ xs) = 1

-- The place of the code section, and of the data section, among all sections.
abbrev pub code_place : Relocatable → ℕ
code_place r = present r.types + present r.imports + present r.functions + present r.globals + present r.exports

abbrev pub data_place : Relocatable → ℕ
data_place r = code_place r + present r.bodies

-- The sections in Core's order, then `linking`, `reloc.CODE` and `reloc.DATA`.
unfoldable pub relocatable_bytes : Relocatable → List ℕ
relocatable_bytes r =
    header
    ++ section 1 func_type r.types
    ++ section 2 import_entry r.imports
    ++ section 3 u32 r.functions
    ++ section 6 spelled_global r.globals
    ++ section 7 export r.exports
    ++ section 10 body r.bodies
    ++ section 11 segment r.segments
    ++ custom (codes "linking") (linking r)
    ++ reloc_section (codes "reloc.CODE") (code_place r) (section_relocs body_head r.bodies)
    ++ reloc_section (codes "reloc.DATA") (data_place r) (section_relocs segment_head r.segments)
