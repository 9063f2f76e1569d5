-- Lines, letter for letter.
use Rattle.std.specs.Prelude.{◌≡◌, refl, ℕ, List, [], ◌∷◌, codes, pos, negsuc}
use Rattle.std.specs.Fmt.{digits}
use Rattle.wl_base.specs.declared.fault.Fault.TheVariants.{TooMuchInput, Library, TooManyInputs, TooLong, Malformed, Unsupported, IndexLies, TooManyNames, Clash, Duplicate, NotPic, Unresolved, Overflow, Invalid, BadDebug, DebugTooLong, NotPartial, PartialTooLong, Uncalled, Feature}
use Rattle.wl_base.specs.declared.fault.FeatureRule.TheVariants.{Disallowed, Required, NotAllowed}
use Rattle.wl_base.specs.declared.fault.Part.TheVariants.{Frame, Section, Cross}
use Rattle.wl_base.specs.declared.fault.LibFault.TheVariants.{Thin, BadIndex}
use Rattle.wl_base.specs.declared.fault.What.TheVariants.{OutputLength}
use Rattle.wl_base.specs.declared.fault.InvalidAt.TheVariants.{Module, Body}
use Rattle.wl_base.specs.declared.item.Item.TheVariants.{TagSection, ValueType, Opcode}
use Rattle.wl_base.specs.declared.usage.Usage.TheVariants.{MissingValue, NoOutput, PartialClash}
use Rattle.link_lines.specs.Pieces.{printed}
use Rattle.link_lines.specs.Faults.{fault_line, number_line, input_line, pair_line, label_line, not_pic_line, overflow_line, against_line}
use Rattle.link_lines.specs.Usages.{usage_line}
use Rattle.link_lines.specs.Ends.{read_fault_line, case_line}

pub a_duplicate : fault_line (Duplicate (codes "f") 2 5) ≡ codes "wasmld: duplicate f: input 2 and input 5\n"
unfolding pair_line digits
a_duplicate = refl

pub a_clash : fault_line (Clash (codes "a b") 0 10) ≡ codes "wasmld: clash of a\\x20b: input 0 and input 10\n"
unfolding pair_line digits
a_clash = refl

-- a backslash, a space, a byte that is no text, a letter
pub a_name : printed (92 ∷ 32 ∷ 255 ∷ 122 ∷ []) ≡ codes "\\x5C\\x20\\xFFz"
a_name = refl

pub too_much : fault_line (TooMuchInput 4294967296) ≡ codes "wasmld: too much input: 4294967296 bytes\n"
unfolding number_line digits
too_much = refl

pub a_thin_library : fault_line (Library 3 Thin) ≡ codes "wasmld: file 3: bad library: Thin\n"
unfolding label_line digits
a_thin_library = refl

pub a_bad_index : fault_line (Library 0 (BadIndex 2)) ≡ codes "wasmld: file 0: bad library: BadIndex(2)\n"
unfolding label_line digits
a_bad_index = refl

pub too_many_inputs : fault_line (TooManyInputs 1048576) ≡ codes "wasmld: too many inputs: 1048576\n"
unfolding number_line digits
too_many_inputs = refl

pub too_long : fault_line (TooLong 7 1073741825) ≡ codes "wasmld: input 7: too long: 1073741825 bytes\n"
unfolding input_line digits
too_long = refl

pub a_broken_frame : fault_line (Malformed 1 Frame) ≡ codes "wasmld: input 1: malformed: frame\n"
unfolding number_line digits
a_broken_frame = refl

pub a_broken_section : fault_line (Malformed 1 (Section 4)) ≡ codes "wasmld: input 1: malformed: section 4\n"
unfolding input_line digits
a_broken_section = refl

pub a_broken_rule : fault_line (Malformed 12 (Cross 9)) ≡ codes "wasmld: input 12: malformed: rule 9\n"
unfolding input_line digits
a_broken_rule = refl

pub an_item : fault_line (Unsupported 1 TagSection) ≡ codes "wasmld: input 1: unsupported: TagSection\n"
unfolding label_line digits
an_item = refl

pub a_value_type : fault_line (Unsupported 1 (ValueType 123)) ≡ codes "wasmld: input 1: unsupported: ValueType(123)\n"
unfolding label_line digits
a_value_type = refl

pub an_opcode : fault_line (Unsupported 2 (Opcode 252 17)) ≡ codes "wasmld: input 2: unsupported: Opcode(252,17)\n"
unfolding label_line digits
an_opcode = refl

pub an_index_lies : fault_line (IndexLies 3 (codes "f")) ≡ codes "wasmld: input 3: index names f, which is not defined\n"
unfolding input_line digits
an_index_lies = refl

pub not_pic : fault_line (NotPic 1 2 0) ≡ codes "wasmld: input 1: symbol 2: relocation 0 is not position-independent\n"
unfolding not_pic_line digits
not_pic = refl

pub an_unresolved_name : fault_line (Unresolved (codes "main") 0) ≡ codes "wasmld: input 0: unresolved main\n"
unfolding input_line digits
an_unresolved_name = refl

pub a_negative_number : fault_line (Overflow OutputLength (negsuc 41)) ≡ codes "wasmld: overflow: OutputLength needs -42\n"
unfolding overflow_line digits
a_negative_number = refl

pub a_positive_number : fault_line (Overflow OutputLength (pos 2147483648)) ≡ codes "wasmld: overflow: OutputLength needs 2147483648\n"
unfolding overflow_line digits
a_positive_number = refl

pub an_invalid_module : fault_line (Invalid Module) ≡ codes "wasmld: invalid output: module\n"
an_invalid_module = refl

pub an_invalid_body : fault_line (Invalid (Body 17)) ≡ codes "wasmld: invalid output: body 17\n"
unfolding number_line digits
an_invalid_body = refl

pub a_bad_debug_section : fault_line (BadDebug 2 11) ≡ codes "wasmld: input 2: bad debug section 11\n"
unfolding input_line digits
a_bad_debug_section = refl

pub debug_too_long : fault_line (DebugTooLong 2147483648) ≡ codes "wasmld: debug sections need 2147483648 bytes\n"
unfolding number_line digits
debug_too_long = refl

pub not_partial : fault_line (NotPartial 3) ≡ codes "wasmld: file 3: not an object for a partial link\n"
unfolding number_line digits
not_partial = refl

pub partial_too_long : fault_line (PartialTooLong 1073741825) ≡ codes "wasmld: partial link needs 1073741825 bytes\n"
unfolding number_line digits
partial_too_long = refl

pub constructors_lost : fault_line Uncalled ≡ codes "wasmld: constructors would not be called: link a start file that calls __wasm_call_ctors\n"
constructors_lost = refl

pub a_disallowed_feature : fault_line (Feature (codes "atomics") 2 1 Disallowed) ≡ codes "wasmld: input 2: feature atomics is disallowed by input 1\n"
unfolding against_line digits
a_disallowed_feature = refl

pub a_required_feature : fault_line (Feature (codes "simd128") 3 1 Required) ≡ codes "wasmld: input 3: feature simd128 is required by input 1\n"
unfolding against_line digits
a_required_feature = refl

pub a_feature_too_many : fault_line (Feature (codes "simd128") 3 0 NotAllowed) ≡ codes "wasmld: input 3: feature simd128 is not allowed\n"
unfolding input_line digits
a_feature_too_many = refl

pub a_missing_value : usage_line (MissingValue 3) ≡ codes "wasmld: usage: MissingValue at word 3\n"
unfolding digits
a_missing_value = refl

pub no_output : usage_line NoOutput ≡ codes "wasmld: usage: NoOutput\n"
no_output = refl

pub partial_clash : usage_line PartialClash ≡ codes "wasmld: usage: PartialClash\n"
partial_clash = refl

pub an_unread_word : read_fault_line 0 ≡ codes "wasmld: cannot read word 0\n"
unfolding digits
an_unread_word = refl

pub a_case : case_line 2 3 2 124 5691 ≡ codes "case 2: functions 3 segments 2 bytes 124 sum 5691\n"
unfolding digits
a_case = refl
