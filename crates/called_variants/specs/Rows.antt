-- What is told of worked links.
use Rattle.std.specs.Prelude.{◌≡◌, List, [], ◌∷◌, refl, codes}
use Rattle.link_keys.specs.link_program.wasm_types.declared.function.FuncType.{FuncType}
use Rattle.link_keys.specs.link_program.wasm_types.declared.value.ValType.TheVariants.{I32}
use Rattle.link_keys.specs.link_program.object_file.declared.object.Object.{Object}
use Rattle.link_keys.specs.link_program.made_symbols.declared.mode.Mode.TheVariants.{Plain}
use Rattle.link_keys.specs.link_program.round_rules.Rounds.{load}
use Rattle.link_keys.specs.link_program.name_rules.Entries.{entries}
use Rattle.link_keys.specs.link_program.name_rules.Meanings.{resolve}
use Rattle.link_keys.specs.link_program.name_rules.Cases.{clash, loose_clash, duplicate}
use Rattle.link_keys.specs.link_program.link_plan.declared.plan.Plan.{Plan}
use Rattle.link_keys.specs.link_program.link_rules.Candidates.{candidates_of}
use Rattle.link_keys.specs.link_program.link_rules.Program.{init_calls, parts_of, winners_of, program_of}
use Rattle.link_keys.specs.link_program.link_rules.LinkOf.{asked_names, too_many_names}
use Rattle.link_keys.specs.link_program.link_rules.Examples.{exporting, read_as, body_at, span, names, plain_type}
use Rattle.link_keys.specs.link_program.link_rules.NameRows.{otherwise, defining_g, like_lld}
use Rattle.mismatch_rules.specs.declared.mismatch.Mismatch.{Mismatch}
use Rattle.mismatch_rules.specs.Mismatches.{mismatches}
use Rattle.called_variants.specs.Called.{calls_told, calls_told_by}

-- In `otherwise`, input 1, f calls g as (i32) to () and h takes its address, and `defining_g`, input 2, defines it as () to ().
abbrev told : Plan → List Object → List Mismatch
told plan objects = calls_told_by Plain (read_as objects) plan ([] ∷ [] ∷ [])

abbrev int_taker : FuncType
int_taker = record { params = I32 ∷ []; results = [] }

abbrev of_g : Mismatch
of_g = record { name = codes "g"; called = int_taker; input = 1; defined = plain_type; definer = 2 }

-- f takes the address of g too, and calls it nowhere.
abbrev address_alone : Object
address_alone = record otherwise { functions = body_at 1 (span 0 10) (names 1 4 2 ∷ []) ∷ body_at 1 (span 10 9) (names 1 2 2 ∷ []) ∷ [] }

abbrev all : List (List Mismatch)
all =
    told (like_lld (codes "f" ∷ [])) (otherwise ∷ defining_g ∷ [])
    ∷ told (like_lld (codes "h" ∷ [])) (otherwise ∷ defining_g ∷ [])
    ∷ told (like_lld (codes "f" ∷ [])) (address_alone ∷ defining_g ∷ [])
    ∷ told (exporting 2 (codes "f" ∷ [])) (otherwise ∷ defining_g ∷ [])
    ∷ []

-- A call is told, also where it is dead, and an address alone isn't; nor is anything in a strict link.
pub all_told : all ≡ (of_g ∷ []) ∷ (of_g ∷ []) ∷ [] ∷ [] ∷ []
unfolding calls_told_by calls_told mismatches candidates_of load entries resolve program_of winners_of parts_of init_calls asked_names too_many_names clash loose_clash duplicate
all_told = refl
