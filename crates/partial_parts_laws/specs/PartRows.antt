-- Worked moves: three inputs with one group, of which the last two are a run.
use Rattle.std.specs.Prelude.{◌≡◌, true, false, [], ◌∷◌, ◌++◌, map, codes, replicate, refl}
use Rattle.name_rules.specs.Entries.{entries}
use Rattle.name_rules.specs.Meanings.{resolve}
use Rattle.link_rules.specs.Program.{chunk_at, init_calls, parts_of, winners_of, program_of}
use Rattle.link_rules.specs.Marks.{table_of}
use Rattle.link_rules.specs.Examples.{plan_of, empty_object}
use Rattle.link_rules.specs.LoadingRows.{grouping}
use Rattle.partial_laws.specs.Inputs.{Run, Objects, whole_objects}
use Rattle.partial_laws.specs.Joined.{linked_symbols}
use Rattle.partial_parts_laws.specs.Linked.{Linked, Links, alone_program, whole_program}
use Rattle.partial_parts_laws.specs.Moves.{moved_chunk}
use Rattle.partial_parts_laws.specs.Alike.{is_definition}

abbrev pub last_two : Run
last_two = record { first = 1; many = 2 }

-- The one object has no part in this.
abbrev pub groupings : Objects
groupings = record { before = grouping 1 (codes "x") ∷ []; middle = grouping 2 (codes "y") ∷ grouping 3 (codes "z") ∷ []; behind = []; joined = empty_object 2 }

abbrev pub no_files : Linked
no_files = record { plan = plan_of 3; files = []; all = [] }

abbrev pub three_links : Links
three_links = record { run_alone = no_files; whole = no_files; after = no_files }

-- The linker's parts and those of input 1 stay; of the run the last function of each input is kept, and the second is the one object's third, since the
-- run alone keeps the group's function.
moves_worked : map (moved_chunk last_two groupings (alone_program last_two groupings three_links)) (table_of (whole_program last_two groupings three_links))
    ≡ chunk_at 0 0 0 ∷ chunk_at 0 2 1 ∷ chunk_at 0 2 2 ∷ chunk_at 0 2 3 ∷ chunk_at 1 0 0 ∷ chunk_at 1 0 1 ∷ chunk_at 1 1 0 ∷ chunk_at 2 0 1 ∷ chunk_at 2 0 2 ∷ []
unfolding program_of entries resolve winners_of parts_of init_calls
moves_worked = refl

-- All that the linker and input 1 define is held, and of the run what the group doesn't take away.
definitions_worked : map (is_definition last_two groupings three_links) (linked_symbols (whole_objects groupings))
    ≡ replicate 12 true ++ (true ∷ true ∷ true ∷ true ∷ false ∷ false ∷ true ∷ false ∷ false ∷ [])
unfolding program_of entries resolve winners_of parts_of init_calls
definitions_worked = refl
