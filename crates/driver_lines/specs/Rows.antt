-- Lines, letter for letter, and the names of worked libraries.
use Rattle.std.specs.Prelude.{◌≡◌, refl, ℕ, List, [], ◌∷◌, ◌++◌, Some, None, codes, pos}
use Rattle.std.specs.Fmt.{digits}
use Rattle.wl_base.specs.declared.fault.Fault.{Fault}
use Rattle.wl_base.specs.declared.fault.Fault.TheVariants.{Library, TooLong, Malformed, Unsupported, IndexLies, TooManyNames, Clash, Duplicate, NotPic, Unresolved, Overflow, Invalid, NotPartial, Uncalled, Feature}
use Rattle.wl_base.specs.declared.fault.FeatureRule.TheVariants.{Disallowed, Required, NotAllowed}
use Rattle.wl_base.specs.declared.fault.Part.TheVariants.{Frame, Section, Cross}
use Rattle.wl_base.specs.declared.fault.LibFault.TheVariants.{BadHeader, NoIndex, BadIndex}
use Rattle.wl_base.specs.declared.fault.What.TheVariants.{MaxMemory, TableSize}
use Rattle.wl_base.specs.declared.fault.InvalidAt.TheVariants.{Body}
use Rattle.wl_base.specs.declared.item.Item.TheVariants.{LimitsFlag}
use Rattle.wasm_types.specs.declared.value.ValType.TheVariants.{I32, I64, F32, F64}
use Rattle.driver_lines.specs.Mismatch.{mismatch_line}
use Rattle.driver_lines.specs.Lines.{error_line, warning_line, refusal_line, plain_line, about_line, pair_line, item_line, relocation_line, named_line, against_line}
use Rattle.driver_lines.specs.Members.{long_names, member_name, name_field, input_names}

-- A link of `main.o`, a library of one member, and `g2.o`.
abbrev inputs : List (List ℕ)
inputs = codes "main.o" ∷ codes "./libx.a(m.o)" ∷ codes "g2.o" ∷ []

abbrev files : List (List ℕ)
files = codes "main.o" ∷ codes "./libx.a" ∷ codes "g2.o" ∷ []

abbrev line : Fault → List ℕ
line fault = refusal_line (codes "wasm-ld") (Some (codes "_start")) inputs files fault

-- ---- lines of a text

pub an_error : error_line (codes "wasm-ld-22") (codes "unknown argument: --frob") ≡ codes "wasm-ld-22: error: unknown argument: --frob\n"
an_error = refl

pub a_warning : warning_line (codes "wasm-ld") (codes "unknown -z value: x") ≡ codes "wasm-ld: warning: unknown -z value: x\n"
a_warning = refl

-- ---- symbols

pub an_undefined_symbol : line (Unresolved (codes "g") 1) ≡ codes "wasm-ld: error: main.o: undefined symbol: g\n"
unfolding about_line
an_undefined_symbol = refl

pub undefined_in_a_member : line (Unresolved (codes "h") 2) ≡ codes "wasm-ld: error: ./libx.a(m.o): undefined symbol: h\n"
unfolding about_line
undefined_in_a_member = refl

pub no_entry : line (Unresolved (codes "_start") 0) ≡ codes "wasm-ld: error: entry symbol not defined (pass --no-entry to suppress): _start\n"
unfolding plain_line
no_entry = refl

pub no_export : line (Unresolved (codes "zz") 0) ≡ codes "wasm-ld: error: symbol exported via --export not found: zz\n"
unfolding plain_line
no_export = refl

pub an_export_where_no_entry_is_asked :
    refusal_line (codes "wasm-ld") None [] [] (Unresolved (codes "_start") 0) ≡ codes "wasm-ld: error: symbol exported via --export not found: _start\n"
unfolding plain_line
an_export_where_no_entry_is_asked = refl

pub a_duplicate : line (Duplicate (codes "g") 1 3) ≡ codes "wasm-ld: error: duplicate symbol: g\n>>> defined in main.o\n>>> defined in g2.o\n"
unfolding pair_line
a_duplicate = refl

pub a_duplicate_of_the_linkers :
    line (Duplicate (codes "__heap_base") 0 2) ≡ codes "wasm-ld: error: duplicate symbol: __heap_base\n>>> defined in <internal>\n>>> defined in ./libx.a(m.o)\n"
unfolding pair_line
a_duplicate_of_the_linkers = refl

pub kinds_differ : line (Clash (codes "g") 1 3) ≡ codes "wasm-ld: error: symbol type mismatch: g\n>>> in main.o\n>>> in g2.o\n"
unfolding pair_line
kinds_differ = refl

pub an_index_lies : line (IndexLies 2 (codes "f")) ≡ codes "wasm-ld: error: ./libx.a(m.o): archive index names f, which is not defined\n"
unfolding about_line
an_index_lies = refl

pub not_pic : line (NotPic 1 2 4) ≡ codes "wasm-ld: error: main.o: relocation R_WASM_MEMORY_ADDR_SLEB cannot be used against symbol 2; recompile with -fPIC\n"
unfolding relocation_line digits
not_pic = refl

-- ---- files

pub no_object : line (Malformed 3 Frame) ≡ codes "wasm-ld: error: unknown file type: g2.o\n"
unfolding about_line
no_object = refl

pub a_broken_section : line (Malformed 2 (Section 4)) ≡ codes "wasm-ld: error: ./libx.a(m.o): malformed object: section 4\n"
unfolding about_line digits
a_broken_section = refl

pub a_constructor : line (Malformed 1 (Cross 7)) ≡ codes "wasm-ld: error: main.o: constructor functions cannot take arguments\n"
unfolding about_line
a_constructor = refl

pub a_broken_rule : line (Malformed 1 (Cross 12)) ≡ codes "wasm-ld: error: main.o: malformed object: rule 12\n"
unfolding about_line digits
a_broken_rule = refl

pub wide_addresses : line (Unsupported 1 (LimitsFlag 4)) ≡ codes "wasm-ld: error: main.o: unsupported: LimitsFlag(4)\n"
unfolding item_line digits
wide_addresses = refl

pub no_index : line (Library 1 NoIndex) ≡ codes "wasm-ld: error: ./libx.a: archive has no index; run llvm-ranlib to add one\n"
unfolding about_line
no_index = refl

pub a_bad_header : line (Library 1 (BadHeader 68)) ≡ codes "wasm-ld: error: ./libx.a: malformed archive: bad member header at 68\n"
unfolding about_line digits
a_bad_header = refl

pub a_bad_index : line (Library 1 (BadIndex 2)) ≡ codes "wasm-ld: error: ./libx.a: malformed archive: bad symbol index (2)\n"
unfolding about_line digits
a_bad_index = refl

-- a library, and an object between the words `--start-lib` and `--end-lib`, as the members of a thin library are
pub a_library_in_a_partial_link : line (NotPartial 1) ≡ codes "wasm-ld: error: ./libx.a: only object files can be linked with -r, and none from a library\n"
unfolding about_line
a_library_in_a_partial_link = refl

-- ---- numbers

pub too_little_memory : line (Overflow MaxMemory (pos 131072)) ≡ codes "wasm-ld: error: maximum memory too small, 131072 bytes needed\n"
unfolding plain_line digits
too_little_memory = refl

pub too_many_slots : line (Overflow TableSize (pos 4294967296)) ≡ codes "wasm-ld: error: table too large, 4294967296 slots needed\n"
unfolding plain_line digits
too_many_slots = refl

pub an_invalid_body : line (Invalid (Body 17)) ≡ codes "wasm-ld: error: output is not valid: function 17\n"
unfolding plain_line digits
an_invalid_body = refl

pub too_many_names : line TooManyNames ≡ codes "wasm-ld: error: too many names\n"
unfolding plain_line
too_many_names = refl

pub constructors_lost : line Uncalled ≡ codes "wasm-ld: error: constructors would not be called: link a start file that calls __wasm_call_ctors\n"
unfolding plain_line
constructors_lost = refl

-- ---- features

pub a_disallowed_feature : line (Feature (codes "atomics") 1 2 Disallowed)
    ≡ codes "wasm-ld: error: Target feature 'atomics' used in main.o is disallowed by ./libx.a(m.o). Use --no-check-features to suppress.\n"
unfolding against_line
a_disallowed_feature = refl

pub a_required_feature : line (Feature (codes "simd128") 2 1 Required)
    ≡ codes "wasm-ld: error: Missing target feature 'simd128' in ./libx.a(m.o), required by main.o. Use --no-check-features to suppress.\n"
unfolding against_line
a_required_feature = refl

pub a_feature_too_many : line (Feature (codes "simd128") 1 0 NotAllowed) ≡ codes "wasm-ld: error: Target feature 'simd128' used by main.o is not allowed.\n"
unfolding named_line
a_feature_too_many = refl

-- ---- where no name is known

pub an_unknown_input : line (TooLong 7 1073741825) ≡ codes "wasm-ld: error: input 7: too long: 1073741825 bytes\n"
unfolding about_line digits
an_unknown_input = refl

pub an_unknown_file : line (NotPartial 9) ≡ codes "wasm-ld: error: input file 9: only object files can be linked with -r, and none from a library\n"
unfolding about_line digits
an_unknown_file = refl

-- ---- names of members

-- A header with this name and this size.
abbrev header : List ℕ → List ℕ → List ℕ
header name size = ((name ++ codes "0           0     0     644     ") ++ size) ++ codes "`\n"

-- An index of four bytes, two long names, and two members of two bytes each.
abbrev two_members : List ℕ
two_members =
    codes "!<arch>\n"
    ++ header (codes "/               ") (codes "4         ") ++ codes "abcd"
    ++ header (codes "//              ") (codes "30        ") ++ codes "a_name_that_is_long.o/\nbb.o/\n\n"
    ++ header (codes "/23             ") (codes "2         ") ++ codes "xy"
    ++ header (codes "m.o/            ") (codes "2         ") ++ codes "zw"

pub a_long_name : member_name (long_names two_members) (name_field two_members (record { start = 222; len = 2 })) ≡ codes "bb.o"
a_long_name = refl

pub a_short_name : member_name (long_names two_members) (name_field two_members (record { start = 284; len = 2 })) ≡ codes "m.o"
a_short_name = refl

pub the_first_long_name : member_name (long_names two_members) (codes "/0              ") ≡ codes "a_name_that_is_long.o"
the_first_long_name = refl

pub a_name_with_spaces : member_name [] (codes "a b.o/          ") ≡ codes "a b.o"
a_name_with_spaces = refl

pub a_name_without_slash : member_name [] (codes "m.o             ") ≡ codes "m.o"
a_name_without_slash = refl

-- ---- names of inputs

pub objects_by_their_files : input_names (codes "main.o" ∷ codes "g2.o" ∷ []) (codes "one" ∷ codes "two" ∷ []) ≡ codes "main.o" ∷ codes "g2.o" ∷ []
objects_by_their_files = refl

-- ---- a function that is called by another type than its definition has

pub a_mismatch :
    mismatch_line (codes "wasm-ld") (codes "warning") inputs (codes "f") (record { params = I32 ∷ F64 ∷ I64 ∷ []; results = F32 ∷ I32 ∷ [] }) 2 (record { params = []; results = [] }) 3
    ≡ codes "wasm-ld: warning: function signature mismatch: f\n>>> defined as (i32, f64, i64) -> f32 in ./libx.a(m.o)\n>>> defined as () -> void in g2.o\n"
unfolding mismatch_line
a_mismatch = refl

pub a_mismatch_of_lacking_names :
    mismatch_line (codes "wasm-ld") (codes "error") [] (codes "f") (record { params = I32 ∷ []; results = I64 ∷ [] }) 3 (record { params = []; results = [] }) 0
    ≡ codes "wasm-ld: error: function signature mismatch: f\n>>> defined as (i32) -> i64 in input 3\n>>> defined as () -> void in <internal>\n"
unfolding mismatch_line digits
a_mismatch_of_lacking_names = refl
