-- What clang's object is read as, section by section.
use Rattle.std.specs.Prelude.{◌≡◌, ℕ, ◌+◌, List, [], ◌∷◌, ◌++◌, drop, Option, Some, None, Result, Ok, codes, refl}
use Rattle.std.proofs.Common.{ap, ◌∙◌}
use Rattle.leb_codec.specs.Reading.{number_at, end_of, end_within}
use Rattle.wasm_grammar.specs.declared.fault.Stop.{Stop}
use Rattle.wasm_grammar.specs.Reading.{◌>>=◌, name_at, u32_at, s32_at, many_at, vector_at, part_at, whole, ended}
use Rattle.wasm_types.specs.Types.{val_type_at, func_type_at, import_kind_at, limits_at}
use Rattle.wasm_sections.specs.declared.section.SectionSpan.{SectionSpan}
use Rattle.wasm_sections.specs.Reading.{section_at, sections_at, frame_at}
use Rattle.wasm_instr.specs.Bodies.{run_at, runs_at, locals_at, code_at, body_at}
use Rattle.wasm_instr.specs.Classes.{class_of}
use Rattle.wasm_instr.specs.Reading.{instr_at}
use Rattle.linking_section.specs.Reading.{none_found, linking_of, unless_at, subsection_at, subsections_at, linking_at, symbol_at, indexed_at}
use Rattle.linking_section.specs.declared.symbol.SymbolKind.TheVariants.{Function}
use Rattle.linking_section.specs.declared.symbol.Symbol.{Symbol}
use Rattle.linking_section.specs.declared.linking.Linking.{Linking}
use Rattle.body_windows.specs.Windows.{operands_at}
use Rattle.object_parts.specs.declared.parts.Parts.{Parts}
use Rattle.object_parts.specs.Kinds.{kind_of, custom_kind_of}
use Rattle.object_parts.specs.Adding.{no_parts, with_linking, add_named, add_kind, add_custom, add_linking, add_types, add_imports, add_functions, add_code}
use Rattle.object_parts.specs.Code.{body_in, code_body_at}
use Rattle.object_parts.specs.Imports.{object_import_at}
use Rattle.object_parts.specs.Sections.{bytes_in}
use Rattle.object_parts.specs.Turns.{turns_at, entries_at}
use Rattle.object_parts.specs.Reading.{◌>=>◌, in_section, or_else, code_relocs_named, code_relocs, parts_from, parts_of}
use Rattle.object_rules.specs.Rules.{reloc_rule, linking_rule, rule_of, broken_rule}
use Rattle.object_file.specs.declared.object.Object.{Object}
use Rattle.object_file.specs.ObjectOf.{framed_object, spelled_object, agreed, object_of}
use Rattle.object_file.specs.Objects.{object_from}
use Rattle.object_file.specs.wasm_types.declared.value.ValType.TheVariants.{I32}
use Rattle.object_file.specs.wasm_types.declared.import.ImportKind.TheVariants as kinds
use Rattle.object_file.specs.body_windows.declared.operand.Operand.TheVariants.{Number}
use Rattle.link_rules.specs.Examples.{hex}
use Rattle.worked_runs.specs.Clang.{clang_object}
use Rattle.worked_runs.proofs.Names.{name_read}

-- ---- the sections

abbrev section : ℕ → ℕ → ℕ → SectionSpan
section id start len = record { id = id; payload = record { start = start; len = len } }

abbrev all : List SectionSpan
all = section 1 14 6 ∷ section 2 26 24 ∷ section 3 56 2 ∷ section 10 64 9 ∷ section 0 79 21 ∷ section 0 106 45 ∷ []

framed : frame_at clang_object ≡ Ok all
unfolding frame_at sections_at section_at number_at end_of end_within u32_at
framed = refl

-- ---- what each adds

abbrev with_types : Parts
with_types = record no_parts { types = record { params = I32 ∷ []; results = I32 ∷ [] } ∷ [] }

types_read : add_types no_parts 20 (0x01 ∷ 0x60 ∷ 0x01 ∷ 0x7F ∷ 0x01 ∷ 0x7F ∷ []) ≡ Ok with_types
unfolding add_types whole vector_at many_at u32_at number_at end_of end_within func_type_at val_type_at
types_read = refl

abbrev with_imports : Parts
with_imports = record with_types { imports = record { «module» = codes "env"; field = codes "__linear_memory"; kind = kinds.Memory (record { min = 0; max = None }) } ∷ [] }

imports_read : add_imports with_types 50 (1 ∷ 3 ∷ codes "env" ++ 15 ∷ codes "__linear_memory" ++ 2 ∷ 0 ∷ 0 ∷ []) ≡ Ok with_imports
unfolding add_imports entries_at turns_at object_import_at import_kind_at limits_at u32_at number_at end_of end_within
imports_read = rw (name_read 50 (codes "env") (15 ∷ codes "__linear_memory" ++ 2 ∷ 0 ∷ 0 ∷ []) refl refl, name_read 50 (codes "__linear_memory") (2 ∷ 0 ∷ 0 ∷ []) refl refl) refl

abbrev with_functions : Parts
with_functions = record with_imports { functions = 0 ∷ [] }

functions_read : add_functions with_imports 58 (1 ∷ 0 ∷ []) ≡ Ok with_functions
unfolding add_functions whole vector_at many_at u32_at number_at end_of end_within
functions_read = refl

abbrev with_code : Parts
with_code = record with_functions { bodies = record { span = record { start = 66; len = 7 }; windows = Ok (Number ∷ []) } ∷ [] }

code_read : add_code [] with_functions 64 73 (0x01 ∷ 0x07 ∷ 0x00 ∷ 0x20 ∷ 0x00 ∷ 0x41 ∷ 0x01 ∷ 0x6A ∷ 0x0B ∷ []) ≡ Ok with_code
unfolding add_code entries_at turns_at code_body_at body_in part_at body_at locals_at runs_at run_at code_at class_of instr_at u32_at s32_at number_at end_of end_within operands_at
code_read = refl

-- behind the name of the section `linking`
abbrev linking_rest : List ℕ
linking_rest = hex (codes "02 08 86 80 80 80 00 01 00 04 00 01") ++ codes "f"

abbrev f_symbol : Symbol
f_symbol = record { kind = Function; flags = 4; name = Some (codes "f"); index = 0; offset = 0; size = 0 }

abbrev table : Linking
table = record { segments = []; inits = []; groups = []; symbols = f_symbol ∷ [] }

-- a symbol by its name, the symbols by the one, and what the section says by these
abbrev by_name : Result (List ℕ × List ℕ) Stop → Result (Symbol × List ℕ) Stop
by_name name = ◌>>=◌ {A = Option (List ℕ) × List ℕ} (name >>= λ n. Ok (Some n.0, n.1)) (λ n. Ok (record { kind = Function; flags = 4; name = n.0; index = 0; offset = 0; size = 0 }, n.1))

abbrev by_symbol : Result (Symbol × List ℕ) Stop → Result (List Symbol) Stop
by_symbol symbol = ◌>>=◌ {A = List Symbol × List ℕ} (symbol >>= λ first. many_at symbol_at 0 100 first.1 >>= λ others. Ok (first.0 ∷ others.0, others.1)) (λ x. ended 100 x.0 x.1)

-- and all that is found stands behind it
abbrev paired : {F C : Type 0} → Result F Stop → (F × List ℕ → Result C Stop) → Result C Stop
paired {F} r next = ◌>>=◌ {A = F × List ℕ} (r >>= λ found. Ok (found, [])) next

abbrev by_symbols : Result (List Symbol) Stop → Result Linking Stop
by_symbols symbols =
    paired (symbols >>= λ s. Ok (record none_found { symbols = Some s })) (λ next. subsections_at 11 next.0 100 next.1)
    >>= λ found. Ok (linking_of found)

symbol_read : symbol_at 100 (0 ∷ 4 ∷ 0 ∷ 1 ∷ codes "f") ≡ Ok (f_symbol, [])
unfolding symbol_at indexed_at unless_at u32_at number_at end_of end_within
symbol_read = ap by_name (name_read 100 (codes "f") [] refl refl)

symbols_read : whole (vector_at symbol_at) 100 (1 ∷ 0 ∷ 4 ∷ 0 ∷ 1 ∷ codes "f") ≡ Ok (f_symbol ∷ [])
unfolding whole vector_at many_at u32_at number_at end_of end_within
symbols_read = ap by_symbol symbol_read

table_read : linking_at 100 linking_rest ≡ Ok table
unfolding linking_at subsections_at subsection_at part_at u32_at number_at end_of end_within
table_read = ap by_symbols symbols_read

abbrev with_table : Parts
with_table = record with_code { linking = Some table }

-- What a custom section adds, once its name is read.
abbrev named : Parts → ℕ → Result (List ℕ × List ℕ) Stop → Result Parts Stop
named parts end name = name >>= λ n. add_named all (custom_kind_of n.0) parts end n.1

linking_added : add_custom all with_code 100 (7 ∷ codes "linking" ++ linking_rest) ≡ Ok with_table
unfolding add_custom add_linking
linking_added = ap (named with_code 100) (name_read 100 (codes "linking") linking_rest refl refl) ∙ ap (λ read. read >>= λ linking. Ok (with_linking with_code None linking)) table_read

producers_added : add_custom all with_table 151 (9 ∷ codes "producers" ++ drop 116 clang_object) ≡ Ok with_table
unfolding add_custom
producers_added = ap (named with_table 151) (name_read 151 (codes "producers") (drop 116 clang_object) refl refl)

-- ---- all together

no_relocs : code_relocs all clang_object all ≡ []
unfolding code_relocs
no_relocs =
    ap (λ name. or_else (code_relocs_named all 100 name) (or_else (code_relocs_named all 151 (name_at 151 (9 ∷ codes "producers" ++ drop 116 clang_object))) [])) (name_read 100 (codes "linking") linking_rest refl refl)
    ∙ ap (λ name. or_else (code_relocs_named all 151 name) []) (name_read 151 (codes "producers") (drop 116 clang_object) refl refl)

one_more : (bytes : List ℕ) (at : ℕ) (parts : Parts) (s : SectionSpan) (ss : List SectionSpan) (more : Parts)
    → add_kind all [] (kind_of s.id) parts s.payload (bytes_in bytes s.payload) ≡ Ok more
    → parts_from all [] bytes at parts (s ∷ ss) ≡ parts_from all [] bytes (at + 1) more ss
unfolding parts_from
one_more bytes at parts s ss more e = ap (λ added. in_section at added >=> λ parts. parts_from all [] bytes (at + 1) parts ss) e

no_more : (bytes : List ℕ) (at : ℕ) (parts : Parts) → parts_from all [] bytes at parts [] ≡ Ok parts
unfolding parts_from
no_more bytes at parts = refl

parts_read : parts_of all clang_object ≡ Ok with_table
unfolding parts_of
parts_read =
    ap (λ relocs. parts_from all relocs clang_object 0 no_parts all) no_relocs
    ∙ one_more clang_object 0 no_parts (section 1 14 6) (drop 1 all) with_types types_read
    ∙ one_more clang_object 1 with_types (section 2 26 24) (drop 2 all) with_imports imports_read
    ∙ one_more clang_object 2 with_imports (section 3 56 2) (drop 3 all) with_functions functions_read
    ∙ one_more clang_object 3 with_functions (section 10 64 9) (drop 4 all) with_code code_read
    ∙ one_more clang_object 4 with_code (section 0 79 21) (drop 5 all) with_table linking_added
    ∙ one_more clang_object 5 with_table (section 0 106 45) [] with_table producers_added
    ∙ no_more clang_object 6 with_table

-- ---- the object

abbrev pub defining_f : Object
defining_f = record {
  input = 1;
  types = record { params = I32 ∷ []; results = I32 ∷ [] } ∷ [];
  imports = record { «module» = codes "env"; field = codes "__linear_memory"; kind = kinds.Memory (record { min = 0; max = None }) } ∷ [];
  functions = record { type_index = 0; span = record { start = 66; len = 7 }; operands = Number ∷ []; export_name = None } ∷ [];
  globals = [];
  segments = [];
  symbols = record { kind = Function; flags = 4; name = Some (codes "f"); index = 0; offset = 0; size = 0 } ∷ [];
  inits = [];
  groups = [];
}

rules_hold : broken_rule all clang_object with_table ≡ None
unfolding reloc_rule linking_rule rule_of
rules_hold = refl

pub object_is : object_of 1 clang_object ≡ Ok defining_f
unfolding object_of object_from
object_is = ap (framed_object 1 clang_object) framed ∙ ap (spelled_object 1 clang_object all) parts_read ∙ ap (agreed 1 all with_table) rules_hold
