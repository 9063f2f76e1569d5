-- Worked examples.
use Rattle.std.specs.Prelude.{◌≡◌, [], ◌∷◌, None, Ok, Err, true, false}
use Rattle.std.proofs.Common.{refl}
use Rattle.wasm_grammar.specs.leb_codec.Reading.{number_at, end_of, end_within}
use Rattle.wasm_grammar.specs.wl_base.declared.item.Item.TheVariants as items
use Rattle.wasm_grammar.specs.declared.fault.Stop.TheVariants.{Broken, Foreign}
use Rattle.wasm_grammar.specs.Reading.{u32_at, part_at, many_at, vector_at, whole}
use Rattle.linking_section.specs.declared.symbol.SymbolKind.TheVariants.{Function, Section}
use Rattle.linking_section.specs.Flags.{is_foreign_symbol, is_foreign_segment, is_named}
use Rattle.linking_section.specs.Reading.{unless_at, init_at, indexed_at, section_symbol_at, symbol_at, subsection_at, subsections_at, linking_at}

-- ---- flags

-- WEAK with HIDDEN is linked, with LOCAL it isn't.
weak_hidden : is_foreign_symbol 0x05 ≡ false
weak_hidden = refl

weak_local : is_foreign_symbol 0x03 ≡ true
weak_local = refl

-- All flags of symbols that are linked together, but for WEAK.
all_linked : is_foreign_symbol 0xf6 ≡ false
all_linked = refl

strings_kept : is_foreign_segment 0x05 ≡ false
strings_kept = refl

thread_local : is_foreign_segment 0x02 ≡ true
thread_local = refl

-- A reference has its own name with EXPLICIT_NAME alone.
reference : is_named 0x10 ≡ false
reference = refl

explicit : is_named 0x50 ≡ true
explicit = refl

-- ---- symbols

-- The reference to function 3, whose name is that of its import.
function_here : symbol_at 10 (0 ∷ 0x10 ∷ 3 ∷ 9 ∷ []) ≡ Ok (record { kind = Function; flags = 0x10; name = None; index = 3; offset = 0; size = 0 }, 9 ∷ [])
unfolding symbol_at unless_at indexed_at u32_at number_at end_of end_within
function_here = refl

section_here : symbol_at 10 (3 ∷ 0x02 ∷ 7 ∷ 9 ∷ []) ≡ Ok (record { kind = Section; flags = 0x02; name = None; index = 7; offset = 0; size = 0 }, 9 ∷ [])
unfolding symbol_at unless_at section_symbol_at u32_at number_at end_of end_within
section_here = refl

tag_foreign : symbol_at 10 (4 ∷ 0x80 ∷ []) ≡ Err (Foreign items.TagSymbol)
unfolding symbol_at
tag_foreign = refl

flags_foreign : symbol_at 10 (0 ∷ 0x80 ∷ 0x02 ∷ 0x80 ∷ []) ≡ Err (Foreign (items.SymbolFlags 0x100))
unfolding symbol_at unless_at u32_at number_at end_of end_within
flags_foreign = refl

-- The bytes reach to 10, so the kind stands at 9.
kind_broken : symbol_at 10 (6 ∷ []) ≡ Err (Broken 9)
unfolding symbol_at
kind_broken = refl

-- ---- the section

-- An init function of priority 1 and symbol 2, behind an unknown subsection of type 9.
inits_here : linking_at 10 (2 ∷ 9 ∷ 1 ∷ 0x55 ∷ 6 ∷ 3 ∷ 1 ∷ 1 ∷ 2 ∷ []) ≡ Ok (record { segments = []; inits = record { priority = 1; symbol = 2 } ∷ []; groups = []; symbols = [] })
unfolding linking_at subsections_at subsection_at whole part_at vector_at many_at init_at u32_at number_at end_of end_within
inits_here = refl

version_foreign : linking_at 10 (1 ∷ 0x80 ∷ []) ≡ Err (Foreign (items.LinkingVersion 1))
unfolding linking_at u32_at number_at end_of end_within
version_foreign = refl

-- Two symbol tables: the second one, at 9, is broken at its type, whatever follows.
second_broken : linking_at 10 (2 ∷ 8 ∷ 1 ∷ 0 ∷ 8 ∷ []) ≡ Err (Broken 9)
unfolding linking_at subsections_at subsection_at whole part_at vector_at many_at u32_at number_at end_of end_within
second_broken = refl
