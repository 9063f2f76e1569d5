-- The places of worked links.
use Rattle.std.specs.Prelude.{◌≡◌, ℕ, false, List, [], ◌∷◌, Option, Some, None, Ok, codes, refl}
use Rattle.object_file.specs.leb_codec.Shortest.{u32, u32_padded, s32, s32_padded}
use Rattle.object_file.specs.declared.object.Object.{Object}
use Rattle.made_symbols.specs.declared.mode.Mode.TheVariants.{Plain}
use Rattle.round_rules.specs.Rounds.{Candidate}
use Rattle.name_rules.specs.Entries.{InputSymbol, entries}
use Rattle.name_rules.specs.Meanings.{resolve}
use Rattle.live_mark.specs.Live.{reached}
use Rattle.memory_layout.specs.Memory.{places}
use Rattle.image_emit.specs.Pieces.{code_place}
use Rattle.debug_rules.specs.Joined.{Places}
use Rattle.link_rules.specs.Program.{Program, Part, init_calls, parts_of, winners_of, program_of}
use Rattle.link_rules.specs.Marks.{exported, live}
use Rattle.link_rules.specs.Keys.{imports_in_order, functions, slots, globals, types}
use Rattle.link_rules.specs.Values.{shapes, windows}
use Rattle.link_rules.specs.Output.{layout, image, source_windows}
use Rattle.link_rules.specs.Examples.{exporting, body_at, span, names}
use Rattle.link_rules.specs.NameRows.{calling, calling_file}
use Rattle.link_debug.specs.Places.{link_places}

-- an object that is all of the only file
abbrev alone : Object → List ℕ → Candidate
alone o file = record { input = 1; file = 0; start = 0; len = 12; is_member = false; by_need = false; offers = []; object = Ok o }

-- its link, of which f is exported
abbrev program : Object → Program
program o = program_of Plain (exporting 1 (codes "f" ∷ [])) (calling_file ∷ []) (alone o calling_file ∷ []) (o ∷ [])

abbrev placed : Program → List InputSymbol → List Part → Places
placed p exports parts = link_places Plain p parts exports (layout Plain p parts exports)

abbrev exporting_all : Program → List InputSymbol → Places
exporting_all p exports = placed p exports (live p exports)

abbrev places_in : Object → Places
places_in o = exporting_all (program o) (exported Plain (program o))

-- f and g: nothing is known of both
abbrev none : List (List (Option ℕ))
none = (None ∷ None ∷ []) ∷ []

-- f calls g: their bodies stand behind the count and a size, and behind f and the next size.
called : places_in calling ≡ record { bodies = (Some 2 ∷ Some 11 ∷ []) ∷ []; addresses = none; slots = none; globals = none }
unfolding link_places program_of entries resolve winners_of parts_of init_calls exported live reached layout places shapes functions slots globals types imports_in_order image source_windows windows code_place u32 u32_padded s32_padded
called = refl

-- f doesn't name g, which is dead.
unnamed : places_in (record calling { functions = body_at 0 (span 0 8) [] ∷ body_at 0 (span 8 4) [] ∷ [] })
    ≡ record { bodies = (Some 2 ∷ None ∷ []) ∷ []; addresses = none; slots = none; globals = none }
unfolding link_places program_of entries resolve winners_of parts_of init_calls exported live reached layout places shapes functions slots globals types imports_in_order image source_windows windows code_place u32 u32_padded s32_padded
unnamed = refl

-- f takes the address of g (TABLE_INDEX_SLEB), which has a slot then.
taken : places_in (record calling { functions = body_at 0 (span 0 8) (names 1 2 1 ∷ []) ∷ body_at 0 (span 8 4) [] ∷ [] })
    ≡ record { bodies = (Some 2 ∷ Some 11 ∷ []) ∷ []; addresses = none; slots = (None ∷ Some 1 ∷ []) ∷ []; globals = none }
unfolding link_places program_of entries resolve winners_of parts_of init_calls exported live reached layout places shapes functions slots globals types imports_in_order image source_windows windows code_place u32 u32_padded s32 s32_padded
taken = refl
