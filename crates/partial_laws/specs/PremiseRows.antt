-- Worked premises: which runs and links they let through.
use Rattle.std.specs.Prelude.{◌≡◌, ℕ, Bool, true, false, List, [], ◌∷◌, codes, refl}
use Rattle.name_rules.specs.object_file.declared.object.Object.{Object}
use Rattle.round_rules.specs.Rounds.{load}
use Rattle.name_rules.specs.Entries.{entries}
use Rattle.name_rules.specs.Meanings.{resolve}
use Rattle.link_rules.specs.Candidates.{candidates_of}
use Rattle.link_rules.specs.Program.{init_calls, parts_of, winners_of, program_of}
use Rattle.link_rules.specs.LinkOf.{asked_names}
use Rattle.link_rules.specs.Examples.{plan_of, read_as, empty_object, function_symbol, datum_symbol, function_import, plain_type}
use Rattle.link_rules.specs.LoadingRows.{grouping, grouping_file}
use Rattle.partial_laws.specs.Premises.{program_by, holds, is_uniform, is_grounded, inits_stand, explicit_agree, groups_agree}

-- ---- objects that refer to a function f

abbrev pub asking : ℕ → ℕ → List ℕ → List ℕ → Object
asking input flags from field =
    record (empty_object input) { types = plain_type ∷ []; imports = function_import from field 0 ∷ []; symbols = function_symbol flags (codes "f") 0 ∷ [] }

-- Strong and WEAK; without EXPLICIT_NAME, as `n.x` and as `m.x`.
abbrev pub strong_and_weak : List Object
strong_and_weak = asking 1 0x10 (codes "env") (codes "f") ∷ asking 2 0x11 (codes "env") (codes "f") ∷ []

abbrev pub two_imports : List Object
two_imports = asking 1 0x10 (codes "env") (codes "f") ∷ asking 2 0x50 (codes "n") (codes "x") ∷ asking 3 0x50 (codes "m") (codes "x") ∷ []

abbrev pub empty_files : List (List ℕ)
empty_files = [] ∷ [] ∷ [] ∷ []

-- ---- objects with a group

-- The first two define the same in it, the third a strong datum.
abbrev pub other_flags : List Object
other_flags = grouping 1 (codes "x") ∷ record (grouping 2 (codes "y")) { symbols = function_symbol 0x20 (codes "y") 1 ∷ function_symbol 1 (codes "w") 0 ∷ datum_symbol 0 (codes "d") 0 0 4 ∷ [] } ∷ []

-- An init entry names the group's function, in the input that wins the group, and in the other.
abbrev pub calling_own : List Object
calling_own = record (grouping 1 (codes "x")) { inits = record { priority = 1; symbol = 1 } ∷ [] } ∷ grouping 2 (codes "y") ∷ []

abbrev pub calling_other : List Object
calling_other = grouping 1 (codes "x") ∷ record (grouping 2 (codes "y")) { symbols = function_symbol 0x20 (codes "y") 1 ∷ function_symbol 0x11 (codes "w") 0 ∷ datum_symbol 1 (codes "d") 0 0 4 ∷ []; inits = record { priority = 1; symbol = 1 } ∷ [] } ∷ []

abbrev pub group_files : List (List ℕ)
group_files = grouping_file 1 ∷ grouping_file 2 ∷ []

-- ---- the rows

abbrev pub let_through : List Bool
let_through =
    holds is_uniform (program_by (read_as two_imports) (plan_of 3) empty_files)
    ∷ holds is_grounded (program_by (read_as two_imports) (plan_of 3) empty_files)
    ∷ holds explicit_agree (program_by (read_as strong_and_weak) (plan_of 2) empty_files)
    ∷ holds groups_agree (program_by (read_as calling_own) (plan_of 2) group_files)
    ∷ holds inits_stand (program_by (read_as calling_own) (plan_of 2) group_files)
    ∷ []

abbrev pub refused : List Bool
refused =
    holds is_uniform (program_by (read_as strong_and_weak) (plan_of 2) empty_files)
    ∷ holds explicit_agree (program_by (read_as two_imports) (plan_of 3) empty_files)
    ∷ holds groups_agree (program_by (read_as other_flags) (plan_of 2) group_files)
    ∷ holds inits_stand (program_by (read_as calling_other) (plan_of 2) group_files)
    ∷ []

premises_let_through : let_through ≡ true ∷ true ∷ true ∷ true ∷ true ∷ []
unfolding candidates_of load entries resolve program_of winners_of parts_of init_calls asked_names
premises_let_through = refl

premises_refuse : refused ≡ false ∷ false ∷ false ∷ false ∷ []
unfolding candidates_of load entries resolve program_of winners_of parts_of init_calls asked_names
premises_refuse = refl
