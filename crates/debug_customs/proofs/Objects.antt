-- A reader of objects looks at the names of all custom sections.
use Rattle.std.proofs.Common.{◌≡◌, ◌∙◌, ℕ, ◌+◌, Bool, true, false, List, [], ◌∷◌, ◌++◌, Option, Some, None, Result, Ok, Err, refl, sym, ap, subst}
use Rattle.std.specs.Prelude.{◌==◌, if◌then◌else◌}
use Rattle.std.specs.List.{AllByRecursion}
use Rattle.object_file.specs.wasm_module.wasm_sections.declared.section.SectionSpan.{SectionSpan}
use Rattle.object_file.specs.wasm_module.wasm_instr.wasm_grammar.Grammar.{SpellsName}
use Rattle.object_file.specs.wasm_module.wasm_instr.wasm_grammar.Reading.{bytes_at}
use Rattle.object_file.specs.wasm_module.wasm_instr.wasm_grammar.ReaderLaws.{bytes_reader}
use Rattle.object_file.specs.reloc_section.declared.entry.Reloc.{Reloc}
use Rattle.object_file.specs.object_parts.declared.parts.Parts.{Parts}
use Rattle.object_file.specs.object_parts.declared.kind.SectionKind.{SectionKind}
use Rattle.object_file.specs.object_parts.declared.kind.SectionKind.TheVariants as kinds
use Rattle.object_file.specs.object_parts.Kinds.{kind_of}
use Rattle.object_file.specs.object_parts.Adding.{AddsKind, no_parts}
use Rattle.object_file.specs.object_parts.Sections.{bytes_in, AddInTurn}
use Rattle.object_file.specs.object_parts.Reading.{code_relocs}
use Rattle.object_file.proofs.Read.{object_found}
use Rattle.wasm_sections.proofs.FrameLaws.{frame_again}
use Rattle.debug_rules.specs.Sections.{Custom, payload_of, option_onto, named, custom_at, customs_from, customs_in, customs}
use Rattle.debug_customs.specs.Customs.{IsNamed}
use Rattle.debug_customs.specs.Objects.{ObjectsAreNamed}

-- a payload that begins with a name
one_named : (at len : ℕ) (payload name text rest : List ℕ) (cs : List Custom) → SpellsName name text → payload ≡ text ++ rest → AllByRecursion IsNamed cs
    → AllByRecursion IsNamed (option_onto (named at (bytes_at len payload)) cs)
one_named at len payload name text rest cs is e are =
    let read : bytes_at len payload ≡ Ok (name, rest) = ap (bytes_at len) e ∙ bytes_reader.again len name text rest is.1 in
    subst (λ r. AllByRecursion IsNamed (option_onto (named at r) cs)) (sym read) (is.0, are)

module _ (all : List SectionSpan) (relocs : List Reloc) (bytes : List ℕ) where
  abbrev Adds : SectionKind → Parts → SectionSpan → Parts → Type 0
  Adds kind parts s after = AddsKind all relocs kind parts s.payload (bytes_in bytes s.payload) after

  is_custom : (id : ℕ) → (id == 0) ≡ true → kind_of id ≡ kinds.Custom
  is_custom id e = rw e refl

  section_named : (at : ℕ) (s : SectionSpan) (parts after : Parts) (cs : List Custom) → Adds (kind_of s.id) parts s after → AllByRecursion IsNamed cs
      → AllByRecursion IsNamed (option_onto (custom_at bytes at s) cs)
  section_named at s parts after cs adds are = by (s.id == 0) refl
    where
      by : (q : Bool) → (s.id == 0) ≡ q → AllByRecursion IsNamed (option_onto (if q then named at (bytes_at s.payload.len (payload_of bytes s.payload)) else None) cs)
      by true is =
          let a : Adds kinds.Custom parts s after = subst (λ kind. Adds kind parts s after) (is_custom s.id is) adds in
          one_named at s.payload.len (payload_of bytes s.payload) a.0 a.1 a.2 cs a.3 a.4 are
      by false is = are

  all_named : (at : ℕ) (ss : List SectionSpan) (parts after : Parts) → AddInTurn all relocs bytes parts ss after → AllByRecursion IsNamed (customs_from bytes at ss)
  all_named at [] parts after add = tt
  all_named at (s ∷ ss) parts after add = section_named at s parts add.0 (customs_from bytes (at + 1) ss) add.1 (all_named (at + 1) ss add.0 after add.2)

pub objects_named : ObjectsAreNamed
unfolding customs
objects_named input bytes o e =
    let is = object_found input bytes o e in
    let are = all_named is.sections (code_relocs is.sections bytes is.sections) bytes 0 is.sections no_parts is.parts is.spelled in
    subst (λ r. AllByRecursion IsNamed (customs_in bytes r)) (sym (frame_again bytes is.sections is.framed)) are
