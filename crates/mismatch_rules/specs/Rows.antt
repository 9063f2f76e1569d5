-- What is told of worked links.
use Rattle.std.specs.Prelude.{◌≡◌, List, [], ◌∷◌, refl, codes}
use Rattle.link_rules.specs.object_file.wasm_types.declared.function.FuncType.{FuncType}
use Rattle.link_rules.specs.object_file.wasm_types.declared.value.ValType.TheVariants.{I32}
use Rattle.link_rules.specs.object_file.declared.object.Object.{Object}
use Rattle.made_symbols.specs.declared.mode.Mode.TheVariants.{Plain}
use Rattle.link_rules.specs.round_rules.Rounds.{load}
use Rattle.link_rules.specs.name_rules.Entries.{entries}
use Rattle.link_rules.specs.name_rules.Meanings.{resolve}
use Rattle.link_rules.specs.name_rules.Cases.{clash, loose_clash, duplicate}
use Rattle.link_plan.specs.declared.plan.Plan.{Plan}
use Rattle.link_rules.specs.Candidates.{candidates_of}
use Rattle.link_rules.specs.Program.{init_calls, parts_of, winners_of, program_of}
use Rattle.link_rules.specs.LinkOf.{asked_names, too_many_names}
use Rattle.link_rules.specs.Examples.{exporting, read_as, function_symbol, datum_symbol, empty_object, segment_at, span, plain_type}
use Rattle.link_rules.specs.NameRows.{otherwise, defining_g, like_lld}
use Rattle.mismatch_rules.specs.declared.mismatch.Mismatch.{Mismatch}
use Rattle.mismatch_rules.specs.Mismatches.{mismatches, mismatches_by}

-- In `otherwise`, input 1, f calls g as (i32) to (), and `defining_g`, input 2, defines it as () to ().
abbrev told : Plan → List Object → List Mismatch
told plan objects = mismatches_by Plain (read_as objects) plan ([] ∷ [] ∷ [] ∷ [])

abbrev int_taker : FuncType
int_taker = record { params = I32 ∷ []; results = [] }

abbrev of_g : Mismatch
of_g = record { name = codes "g"; called = int_taker; input = 1; defined = plain_type; definer = 2 }

-- Input 3 calls g so once more, which isn't told again.
abbrev once_more : Object
once_more = record otherwise { input = 3; symbols = function_symbol 2 (codes "p") 1 ∷ function_symbol 2 (codes "q") 2 ∷ function_symbol 0x10 (codes "g") 0 ∷ [] }

abbrev defining_datum : Object
defining_datum = record (empty_object 2) { segments = segment_at (span 0 2) 0 [] ∷ []; symbols = datum_symbol 0 (codes "g") 0 0 2 ∷ [] }

abbrev three : Plan
three = record (like_lld (codes "f" ∷ [])) { inputs = (exporting 3 []).inputs }

abbrev all : List (List Mismatch)
all =
    told (like_lld (codes "f" ∷ [])) (otherwise ∷ defining_g ∷ [])
    ∷ told three (otherwise ∷ defining_g ∷ once_more ∷ [])
    ∷ told (exporting 2 (codes "f" ∷ [])) (otherwise ∷ defining_g ∷ [])
    ∷ told (like_lld (codes "f" ∷ [])) (otherwise ∷ defining_datum ∷ [])
    ∷ []

-- It is told once, and not in a strict link, nor where the link is refused for a clash.
pub all_told : all ≡ (of_g ∷ []) ∷ (of_g ∷ []) ∷ [] ∷ [] ∷ []
unfolding mismatches_by mismatches candidates_of load entries resolve program_of winners_of parts_of init_calls asked_names too_many_names clash loose_clash duplicate
all_told = refl
