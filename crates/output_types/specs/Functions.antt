-- A function of an object, and the part that it is in a link: where an operand of its body stands, a reference of the part stands, and
-- names the same symbol or type.
use Rattle.std.specs.Prelude.{◌≡◌, ℕ, List, Option, Some, None, slice_get, IsTrue}
use Rattle.list_places.specs.Has.{Has}
use Rattle.link_worlds.specs.link_rules.object_file.wasm_types.declared.function.FuncType.{FuncType}
use Rattle.link_worlds.specs.link_rules.object_file.wasm_types.declared.table.GlobalType.{GlobalType}
use Rattle.link_worlds.specs.link_rules.object_file.wasm_module.wasm_instr.Bodies.{body_at}
use Rattle.link_worlds.specs.link_rules.object_file.linking_section.declared.symbol.Symbol.{Symbol}
use Rattle.link_worlds.specs.link_rules.object_file.linking_section.declared.symbol.SymbolKind.{SymbolKind}
use Rattle.link_worlds.specs.link_rules.object_file.linking_section.declared.symbol.SymbolKind.TheVariants.{Function, Datum, GlobalVar, Section, Table}
use Rattle.link_worlds.specs.link_rules.object_file.body_windows.declared.operand.Operand.{Operand}
use Rattle.link_worlds.specs.link_rules.object_file.body_windows.declared.operand.Operand.TheVariants as operands
use Rattle.link_worlds.specs.link_rules.object_file.object_columns.declared.functions.FunctionDef.{FunctionDef}
use Rattle.link_worlds.specs.link_rules.object_file.object_rules.Relocs.{may_name}
use Rattle.link_worlds.specs.link_rules.object_file.declared.object.Object.{Object}
use Rattle.link_worlds.specs.link_rules.object_file.Spaces.{no_type, defined_type, function_types, global_types}
use Rattle.link_worlds.specs.link_rules.name_rules.Entries.{SymbolType, of_function, of_global}
use Rattle.link_worlds.specs.link_rules.Program.{Program, Part, function, Ref, refs, Named, a_symbol, a_type}
use Rattle.link_worlds.specs.link_rules.Values.{part_bytes}
use Rattle.link_worlds.specs.Bodies.{named_at}
use Rattle.valid_objects.specs.Objects.{operand_at, HasTyping}

-- ---- references

-- The object gives this type to a symbol, if it is one of a function or global.
abbrev pub IsTypeOf : Object → Symbol → SymbolKind → SymbolType → Type 0
IsTypeOf o s Function type = (t : FuncType) × (slice_get (function_types o) s.index ≡ Some t) × (type ≡ of_function t)
IsTypeOf o s Datum type = Unit {0}
IsTypeOf o s GlobalVar type = (g : GlobalType) × (slice_get (global_types o) s.index ≡ Some g) × (type ≡ of_global g)
IsTypeOf o s Section type = Unit {0}
IsTypeOf o s Table type = Unit {0}

-- A reference names the symbol of this place, of a kind that its relocation's type names.
pub record NamesSymbol (o : Object) (place : ℕ) (ref : Ref) : Type 0 where
  pub symbol : Symbol
  pub there : slice_get o.symbols place ≡ Some symbol
  pub asked : IsTrue (may_name ref.kind symbol.kind)
  pub kind : ref.entry.symbol.kind ≡ symbol.kind
  pub type : IsTypeOf o symbol symbol.kind ref.entry.type

-- What is named at a place, by an operand of the object and in the link.
abbrev pub NamesSame : Object → Option Operand → Option Named → Type 0
NamesSame o None None = Unit {0}
NamesSame o (Some (operands.Symbol kind at symbol addend)) (Some (a_symbol ref)) = NamesSymbol o symbol ref
NamesSame o (Some (operands.TypeRef at index)) (Some (a_type w)) = slice_get o.types index ≡ Some w.type
NamesSame o _ _ = ⊥

-- ---- functions

-- The part is this function of the object.
pub record IsFunction (o : Object) (f : FunctionDef) (part : Part) : Type 0 where
  pub type : part.content ≡ function (defined_type o f)
  pub named : (place : ℕ) → NamesSame o (operand_at f.operands place) (named_at part.named place)

-- It is a function of an object that has a typing there.
pub record IsTypedFunction (p : Program) (part : Part) : Type 0 where
  pub object : Object
  pub def : FunctionDef
  pub is : IsFunction object def part
  pub typed : HasTyping object def (body_at (part_bytes p part))

-- So are all functions of objects among these parts. A chunk's kind is 0 for a function, and its input is 0 for the linker.
abbrev pub AreTyped : Program → List Part → Type 0
AreTyped p parts = (part : Part) → Has parts part → part.chunk.kind ≡ 0 → (part.chunk.input ≡ 0 → ⊥) → IsTypedFunction p part

-- What the linker's functions call has the type () to ().
abbrev pub CallPlain : List Part → Type 0
CallPlain parts = (part : Part) (ref : Ref) → Has parts part → part.chunk.input ≡ 0 → Has (refs part) ref → ref.entry.type ≡ of_function no_type
