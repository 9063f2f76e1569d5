-- Relocations of a program's relocatable object have a spelling, where those of its objects have one.
use Rattle.std.specs.Prelude.{◌≡◌, ℕ, ◌≤◌, ◌^◌, false, List, length, All, ℤ, pos}
use Rattle.list_places.specs.Has.{Has}
use Rattle.object_rules.specs.reloc_section.Kinds.{has_addend}
use Rattle.name_rules.specs.object_file.body_windows.declared.operand.Operand.TheVariants as operands
use Rattle.name_rules.specs.object_file.object_columns.declared.functions.FunctionDef.{FunctionDef}
use Rattle.name_rules.specs.object_file.declared.object.Object.{Object}
use Rattle.object_file.specs.Spellable.{IsSpellable}
use Rattle.partial_rules.specs.Relocatable.{section_relocs, body_head, segment_head, relocatable_bytes}
use Rattle.partial_rules.specs.Partial.{relocatable}
use Rattle.partial_rules.specs.WellFormed.{IsReloc}
use Rattle.partial_parts_laws.specs.Linked.{Linked, program}
use Rattle.partial_parts_laws.specs.ReadBack.{AreLinked}
use Rattle.partial_parts_laws.specs.SymbolsBack.{AreNamed}

-- An operand has addend 0 where its relocation's type has none. What an object is spelled with says so of data, and not of code.
abbrev pub HaveAddends : List Object → Type 0
HaveAddends objects =
    (o : Object) → Has objects o → (f : FunctionDef) → Has o.functions f → (kind place symbol : ℕ) (addend : ℤ) → Has f.operands (operands.Symbol kind place symbol addend)
    → has_addend kind ≡ false → addend ≡ pos 0

abbrev pub RelocsFit : Type 0
RelocsFit =
    (l : Linked) (objects : List Object) → AreLinked l objects → All AreNamed objects → All IsSpellable objects → length (relocatable_bytes (relocatable (program l objects))) ≤ 2 ^ 30
    → All IsReloc (section_relocs segment_head (relocatable (program l objects)).segments)
    × (HaveAddends objects → All IsReloc (section_relocs body_head (relocatable (program l objects)).bodies))
