-- An object and a library as bytes, and what they are read as.
use Rattle.std.specs.Prelude.{◌≡◌, ℕ, zero, suc, ◌+◌, ◌-◌, ◌<◌, nat_lt, List, [], ◌∷◌, ◌++◌, length, replicate, slice_index, true, Some, None, Ok, codes, refl}
use Rattle.std.specs.List.{list_all}
use Rattle.std.specs.Str.{is_utf8}
use Rattle.std.proofs.Common.{arith}
use Rattle.std.proofs.lemmas.Str.{is_utf8-from_IsUtf8, IsUtf8-from_ascii}
use Rattle.std.proofs.lemmas.Bool.{and_parts, ltb-true}
use Rattle.leb_codec.specs.Reading.{number_at, end_of, end_within}
use Rattle.wasm_grammar.specs.Reading.{name_at, bytes_at, front_at, u32_at, many_at, vector_at, part_at, whole, sized_at}
use Rattle.wasm_types.specs.Types.{val_type_at, func_type_at}
use Rattle.wasm_sections.specs.Reading.{section_at, sections_at, frame_at}
use Rattle.wasm_instr.specs.Bodies.{run_at, runs_at, locals_at, code_at, body_at}
use Rattle.wasm_instr.specs.Classes.{class_of}
use Rattle.wasm_instr.specs.Reading.{instr_at}
use Rattle.linking_section.specs.Reading.{unless_at, subsection_at, subsections_at, linking_at, symbol_at, indexed_at}
use Rattle.body_windows.specs.Windows.{operands_at}
use Rattle.object_parts.specs.Adding.{no_entries, relocs_for, add_linking, add_relocs, add_custom, add_types, add_functions, add_code}
use Rattle.object_parts.specs.Code.{body_in, code_body_at}
use Rattle.object_parts.specs.Reading.{code_relocs, parts_from, parts_of}
use Rattle.object_parts.specs.Turns.{turns_at, entries_at}
use Rattle.object_rules.specs.Rules.{reloc_rule, linking_rule, rule_of}
use Rattle.linking_section.specs.declared.symbol.SymbolKind.TheVariants.{Function}
use Rattle.object_file.specs.declared.object.Object.{Object}
use Rattle.object_file.specs.ObjectOf.{object_of}
use Rattle.object_file.specs.Objects.{object_from}
use Rattle.link_rules.specs.Examples.{hex}
use Rattle.link_rules.specs.NameRows.{header, storage}

-- ---- names of ASCII are UTF-8, which doesn't compute

low_at : (bytes : List ℕ) → list_all (λ b. nat_lt b 128) bytes ≡ true → (i : ℕ) → slice_index bytes i < 128
low_at [] e zero = omega arith
low_at [] e (suc i) = omega arith
low_at (x ∷ xs) e zero = ltb-true x 128 (and_parts (nat_lt x 128) (list_all (λ b. nat_lt b 128) xs) e).0
low_at (x ∷ xs) e (suc i) = low_at xs (and_parts (nat_lt x 128) (list_all (λ b. nat_lt b 128) xs) e).1 i

ascii : (bytes : List ℕ) → list_all (λ b. nat_lt b 128) bytes ≡ true → is_utf8 bytes ≡ true
ascii bytes e = is_utf8-from_IsUtf8 bytes (IsUtf8-from_ascii bytes (low_at bytes e))

-- ---- the bytes

-- An object with one function f of type () to (): its types, its functions, the body 00 0B, and its symbol table (Linking.md).
abbrev pub an_object : List ℕ
an_object =
    0x00 ∷ 0x61 ∷ 0x73 ∷ 0x6D ∷ 1 ∷ 0 ∷ 0 ∷ 0
    ∷ 1 ∷ 4 ∷ 1 ∷ 0x60 ∷ 0 ∷ 0
    ∷ 3 ∷ 2 ∷ 1 ∷ 0
    ∷ 10 ∷ 4 ∷ 1 ∷ 2 ∷ 0x00 ∷ 0x0B
    ∷ 0 ∷ 17 ∷ 7 ∷ codes "linking" ++ 2 ∷ 8 ∷ 6 ∷ 1 ∷ 0 ∷ 0 ∷ 0 ∷ 1 ∷ 0x66 ∷ []

-- the same with the body 00 01 0B
abbrev pub a_member : List ℕ
a_member =
    0x00 ∷ 0x61 ∷ 0x73 ∷ 0x6D ∷ 1 ∷ 0 ∷ 0 ∷ 0
    ∷ 1 ∷ 4 ∷ 1 ∷ 0x60 ∷ 0 ∷ 0
    ∷ 3 ∷ 2 ∷ 1 ∷ 0
    ∷ 10 ∷ 5 ∷ 1 ∷ 3 ∷ 0x00 ∷ 0x01 ∷ 0x0B
    ∷ 0 ∷ 17 ∷ 7 ∷ codes "linking" ++ 2 ∷ 8 ∷ 6 ∷ 1 ∷ 0 ∷ 0 ∷ 0 ∷ 1 ∷ 0x66 ∷ []

-- the header of a member in an archive: its name, its size in decimal digits, and the two bytes that end it
abbrev pub member_header : List ℕ → List ℕ → List ℕ
member_header name size = name ++ replicate (48 - length name) 0x20 ++ size ++ replicate (10 - length size) 0x20 ++ 0x60 ∷ 0x0A ∷ []

-- A library of one member, which stands at 78 behind the index. The index gives f for it.
abbrev pub library_bytes : List ℕ
library_bytes =
    codes "!<arch>" ++ 0x0A ∷ member_header (codes "/") (codes "10") ++ hex (codes "00 00 00 01 00 00 00 4E 66 00")
    ++ member_header (codes "a.o/") (codes "44") ++ a_member

-- the module with this body alone, exported as f
abbrev pub output_of : List ℕ → List ℕ
output_of body =
    header ++ hex (codes "01 04 01 60 00 00 03 02 01 00") ++ storage ++ hex (codes "07 0E 02 06 6D 65 6D 6F 72 79 02 00 01 66 00 00")
    ++ 0x0A ∷ (2 + length body) ∷ 1 ∷ length body ∷ body

-- ---- what the object is read as

abbrev pub defining_f : ℕ → Object
defining_f len = record {
  input = 1;
  types = record { params = []; results = [] } ∷ [];
  imports = [];
  functions = record { type_index = 0; span = record { start = 22; len = len }; operands = []; export_name = None } ∷ [];
  globals = [];
  segments = [];
  symbols = record { kind = Function; flags = 0; name = Some (codes "f"); index = 0; offset = 0; size = 0 } ∷ [];
  inits = [];
  groups = [];
}

pub object_is : object_of 1 an_object ≡ Ok (defining_f 2)
unfolding object_of frame_at sections_at section_at parts_of parts_from code_relocs number_at end_of end_within name_at bytes_at front_at u32_at many_at vector_at part_at whole sized_at val_type_at func_type_at run_at runs_at locals_at code_at body_at class_of instr_at unless_at subsection_at subsections_at linking_at symbol_at indexed_at operands_at no_entries relocs_for add_linking add_relocs add_custom add_types add_functions add_code body_in code_body_at turns_at entries_at reloc_rule linking_rule rule_of object_from
object_is = rw (ascii (codes "linking") refl, ascii (codes "f") refl) refl

pub member_is : object_of 1 a_member ≡ Ok (defining_f 3)
unfolding object_of frame_at sections_at section_at parts_of parts_from code_relocs number_at end_of end_within name_at bytes_at front_at u32_at many_at vector_at part_at whole sized_at val_type_at func_type_at run_at runs_at locals_at code_at body_at class_of instr_at unless_at subsection_at subsections_at linking_at symbol_at indexed_at operands_at no_entries relocs_for add_linking add_relocs add_custom add_types add_functions add_code body_in code_body_at turns_at entries_at reloc_rule linking_rule rule_of object_from
member_is = rw (ascii (codes "linking") refl, ascii (codes "f") refl) refl
