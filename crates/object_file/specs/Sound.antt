-- What holds of an object that was read (Linking.md): its indexes are in range, its symbols have
-- names, its parts lie in its bytes, and its relocations name what their types ask for.
use Rattle.std.specs.Prelude.{◌≡◌, ℕ, ◌+◌, ◌^◌, ◌<◌, ◌≤◌, nat_lt, Bool, false, ◌==◌, ◌||◌, List, [], ◌∷◌, length, slice_get, All, Option, Some, None, is_some, IsTrue}
use Rattle.object_rules.specs.wasm_types.declared.import.ImportKind.{ImportKind}
use Rattle.object_rules.specs.wasm_types.declared.import.ImportKind.TheVariants as kinds
use Rattle.object_rules.specs.linking_section.declared.symbol.Symbol.{Symbol}
use Rattle.object_rules.specs.linking_section.declared.symbol.SymbolKind.{SymbolKind}
use Rattle.object_rules.specs.linking_section.declared.symbol.SymbolKind.TheVariants.{Function, Datum, GlobalVar, Section, Table}
use Rattle.object_rules.specs.linking_section.declared.group.Member.{Member}
use Rattle.object_rules.specs.linking_section.declared.group.Group.{Group}
use Rattle.object_rules.specs.linking_section.Flags.{is_undefined}
use Rattle.object_rules.specs.linking_section.Linking.{is_member_kind}
use Rattle.object_rules.specs.linking_section.declared.member_kinds.TheConstants.{DATA, FUNCTION}
use Rattle.object_rules.specs.reloc_section.declared.entry.Reloc.{Reloc}
use Rattle.object_rules.specs.reloc_section.declared.kinds.TheConstants.{FUNCTION_INDEX_LEB, TABLE_INDEX_SLEB, TABLE_INDEX_I32, MEMORY_ADDR_LEB, MEMORY_ADDR_SLEB, MEMORY_ADDR_I32, GLOBAL_INDEX_LEB, MEMORY_ADDR_REL_SLEB, TABLE_INDEX_REL_SLEB, TABLE_NUMBER_LEB}
use Rattle.object_rules.specs.body_windows.declared.operand.Operand.{Operand}
use Rattle.object_rules.specs.body_windows.declared.operand.Operand.TheVariants as operands
use Rattle.object_rules.specs.body_windows.Operands.{StandIn}
use Rattle.object_columns.specs.declared.segments.SegmentDef.{SegmentDef}
use Rattle.object_rules.specs.object_parts.Spans.{LiesIn}
use Rattle.object_rules.specs.Symbols.{is_section, is_seen}
use Rattle.object_rules.specs.Metadata.{is_function_kind}
use Rattle.object_rules.specs.Relocs.{may_name, is_table_name}
use Rattle.object_file.specs.declared.object.Object.{Object}
use Rattle.object_file.specs.Spaces.{no_type, function_imports, table_imports, global_imports, function_types}

-- ---- indexes

-- How many functions there are with those that are imported, and how many globals.
abbrev pub function_count : Object → ℕ
function_count o = length (function_imports o) + length o.functions

abbrev pub global_count : Object → ℕ
global_count o = length (global_imports o) + length o.globals

-- The type of an imported function is in range.
abbrev pub TypeInRange : Object → ImportKind → Type 0
TypeInRange o (kinds.Function t) = t < length o.types
TypeInRange o (kinds.Table t) = Unit {0}
TypeInRange o (kinds.Memory m) = Unit {0}
TypeInRange o (kinds.GlobalVar g) = Unit {0}

-- An index is in range, and the symbol is undefined exactly where it is an import.
abbrev pub NamesOneOf : ℕ → ℕ → Symbol → Type 0
NamesOneOf imports all s = (s.index < all) × (is_undefined s ≡ nat_lt s.index imports)

-- A datum ends in its segment.
abbrev pub EndsIn : Symbol → Option SegmentDef → Type 0
EndsIn s None = ⊥
EndsIn s (Some g) = s.offset + s.size ≤ g.span.len

-- A symbol names what is there (Linking.md, "Symbol Table Subsection"): a function or global that is
-- imported or defined, an imported table, and, where a datum is defined, a part of a segment. The
-- sections of an object aren't kept.
abbrev pub NamesInRange : Object → Symbol → SymbolKind → Type 0
NamesInRange o s Function = NamesOneOf (length (function_imports o)) (function_count o) s
NamesInRange o s Datum = is_undefined s ≡ false → (s.index < length o.segments) × EndsIn s (slice_get o.segments s.index)
NamesInRange o s GlobalVar = NamesOneOf (length (global_imports o)) (global_count o) s
NamesInRange o s Section = Unit {0}
NamesInRange o s Table = NamesOneOf (length (table_imports o)) (length (table_imports o)) s

-- ---- windows

-- The types of relocations that stand in code and name a symbol (Linking.md, "Relocation Sections").
abbrev pub is_code_type : ℕ → Bool
is_code_type kind =
    (kind == FUNCTION_INDEX_LEB) || (kind == TABLE_INDEX_SLEB) || (kind == MEMORY_ADDR_LEB) || (kind == MEMORY_ADDR_SLEB)
    || (kind == GLOBAL_INDEX_LEB) || (kind == MEMORY_ADDR_REL_SLEB) || (kind == TABLE_INDEX_REL_SLEB) || (kind == TABLE_NUMBER_LEB)

-- Those that stand in data.
abbrev pub is_data_type : ℕ → Bool
is_data_type kind = (kind == TABLE_INDEX_I32) || (kind == MEMORY_ADDR_I32)

-- The symbol is there, and of a kind that a relocation of this type names; a table is the one of
-- functions.
abbrev pub IsNamedBy : ℕ → Option Symbol → Type 0
IsNamedBy kind None = ⊥
IsNamedBy kind (Some s) = IsTrue (may_name kind s.kind) × (kind ≡ TABLE_NUMBER_LEB → IsTrue (is_table_name s.name))

-- What an operand of a body names: a symbol, or a type in range.
abbrev pub OperandNames : Object → Operand → Type 0
OperandNames o operands.Number = Unit {0}
OperandNames o (operands.Symbol kind place symbol addend) = IsTrue (is_code_type kind) × IsNamedBy kind (slice_get o.symbols symbol)
OperandNames o (operands.TypeRef place index) = index < length o.types
OperandNames o operands.TableZero = Unit {0}

-- What a window of a segment names.
abbrev pub WindowNames : Object → Reloc → Type 0
WindowNames o w = IsTrue (is_data_type w.kind) × IsNamedBy w.kind (slice_get o.symbols w.index)

-- Windows of four bytes stand one behind another, from a place on and up to an end.
abbrev pub WindowsStandIn : ℕ → ℕ → List Reloc → Type 0
WindowsStandIn from end [] = from ≤ end
WindowsStandIn from end (w ∷ ws) = (from ≤ w.offset) × WindowsStandIn (w.offset + 4) end ws

-- ---- metadata

-- An init function is a function symbol of the type () to () (Linking.md, "Init Functions
-- Subsection").
abbrev pub IsInit : Object → Option Symbol → Type 0
IsInit o None = ⊥
IsInit o (Some s) = IsTrue (is_function_kind s.kind) × (slice_get (function_types o) s.index ≡ Some no_type)

-- A member of a group is there: a data segment, or a defined function; the sections of an object
-- aren't kept (Linking.md, "COMDAT Info Subsection").
abbrev pub MemberStands : Object → Member → Type 0
MemberStands o m =
    IsTrue (is_member_kind m.kind) × (m.kind ≡ DATA → m.index < length o.segments)
    × (m.kind ≡ FUNCTION → (length (function_imports o) ≤ m.index) × (m.index < function_count o))

-- No two groups have one name.
abbrev pub GroupsDiffer : List Group → Type 0
GroupsDiffer groups = (j k : ℕ) (a b : Group) → slice_get groups j ≡ Some a → slice_get groups k ≡ Some b → a.name ≡ b.name → j ≡ k

-- No member stands in two places, in one group or in two.
abbrev pub MembersDiffer : List Group → Type 0
MembersDiffer groups =
    (g h i j : ℕ) (a b : Group) (m : Member) → slice_get groups g ≡ Some a → slice_get groups h ≡ Some b
    → slice_get a.members i ≡ Some m → slice_get b.members j ≡ Some m → (g ≡ h) × (i ≡ j)

-- No two symbols that other objects see have one name.
abbrev pub NamesDiffer : List Symbol → Type 0
NamesDiffer symbols =
    (j k : ℕ) (s t : Symbol) (name : List ℕ) → slice_get symbols j ≡ Some s → slice_get symbols k ≡ Some t
    → IsTrue (is_seen s) → IsTrue (is_seen t) → s.name ≡ Some name → t.name ≡ Some name → j ≡ k

-- ---- all together

-- An object of so many bytes.
pub record Sound (size : ℕ) (o : Object) : Type 0 where
  -- There are at most 2^30 of them.
  pub short : size ≤ 2 ^ 30
  -- The type of each defined function is in range, and that of each imported one.
  pub types : All (λ f. f.type_index < length o.types) o.functions
  pub imported_types : All (λ i. TypeInRange o i.kind) o.imports
  -- Each symbol names what is there.
  pub symbols : All (λ s. NamesInRange o s s.kind) o.symbols
  -- Each symbol but a section's has a name.
  pub names : All (λ s. is_section s.kind ≡ false → IsTrue (is_some s.name)) o.symbols
  -- Bodies, segments and the expressions of globals lie in the bytes.
  pub bodies : All (λ f. LiesIn size f.span) o.functions
  pub segments : All (λ g. LiesIn size g.span) o.segments
  pub globals : All (λ g. LiesIn size g.span) o.globals
  -- The alignment of a segment, as the exponent of a power of 2, is at most 31.
  pub alignments : All (λ g. g.info.align ≤ 31) o.segments
  -- The windows of a segment, of four bytes each, stand one behind another in its bytes; their types
  -- are those of data, and each names a symbol of a kind that its type asks for.
  pub windows : All (λ g. WindowsStandIn 0 g.span.len g.windows) o.segments
  pub window_names : All (λ g. All (WindowNames o) g.windows) o.segments
  -- The windows of a body, of five bytes each, stand one behind another in it; each names a type in
  -- range, or a symbol of a kind that its type asks for.
  pub operands : All (λ f. StandIn 0 f.span.len f.operands) o.functions
  pub operand_names : All (λ f. All (OperandNames o) f.operands) o.functions
  -- Each init function is a function symbol of the type () to ().
  pub inits : All (λ i. IsInit o (slice_get o.symbols i.symbol)) o.inits
  -- The members of groups are there, and none stands in two places; groups have different names.
  pub members : All (λ g. All (MemberStands o) g.members) o.groups
  pub members_differ : MembersDiffer o.groups
  pub groups_differ : GroupsDiffer o.groups
  -- The names of symbols that are undefined, or defined and not LOCAL, differ.
  pub names_differ : NamesDiffer o.symbols
