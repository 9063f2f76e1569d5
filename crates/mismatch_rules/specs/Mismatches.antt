-- What is told of functions that are called by another type than their definition has, in a link with loose calls.
use Rattle.std.specs.Prelude.{ℕ, Bool, true, false, ◌&&◌, List, [], ◌∷◌, flat_map, Option, None, bytes_eq, Result, Ok, Err}
use Rattle.link_rules.specs.object_file.wl_base.Choice.{given, distinct, unless, ◌>>=◌}
use Rattle.link_rules.specs.object_file.wl_base.declared.fault.Fault.{Fault}
use Rattle.link_rules.specs.object_file.wasm_types.Same.{same_type}
use Rattle.made_symbols.specs.declared.mode.Mode.{Mode}
use Rattle.link_rules.specs.round_rules.Rounds.{load}
use Rattle.link_rules.specs.name_rules.Entries.{InputSymbol, name_of}
use Rattle.link_rules.specs.name_rules.Cases.{clash_by, duplicate, has_other_type}
use Rattle.link_rules.specs.name_rules.Meanings.{Meaning, here, imported, null, nothing}
use Rattle.link_plan.specs.declared.plan.Plan.{Plan}
use Rattle.link_rules.specs.Candidates.{Readers, candidates_of}
use Rattle.link_rules.specs.Program.{Program, program_of, option_onto}
use Rattle.link_rules.specs.Keys.{function_type_of}
use Rattle.link_rules.specs.LinkOf.{asked_names, too_many_names, the_readers}
use Rattle.link_rules.specs.ModeOf.{mode_of}
use Rattle.mismatch_rules.specs.declared.mismatch.Mismatch.{Mismatch}

-- A reference beside the definition that it means.
abbrev pub beside : InputSymbol → InputSymbol → Mismatch
beside e d = record { name = name_of e; called = function_type_of e.type; input = e.input; defined = function_type_of d.type; definer = d.input }

-- A symbol and what it means, where it is a function of another type than its definition has.
abbrev pub mismatch_by : List InputSymbol → InputSymbol → Meaning → Option Mismatch
mismatch_by all e (here d) = given (has_other_type all e) (beside e d)
mismatch_by all e (imported k) = None
mismatch_by all e null = None
mismatch_by all e nothing = None

abbrev pub mismatches_among : List InputSymbol → List InputSymbol → List Meaning → List Mismatch
mismatches_among all [] ms = []
mismatches_among all (e ∷ es) [] = []
mismatches_among all (e ∷ es) (m ∷ ms) = option_onto (mismatch_by all e m) (mismatches_among all es ms)

-- One of each function and type is told.
abbrev pub same_call : Mismatch → Mismatch → Bool
same_call a b = bytes_eq a.name b.name && same_type a.called b.called

-- The mismatches of a program, by input and place, the first of each function and type.
unfoldable pub mismatches : Program → List Mismatch
mismatches p = distinct same_call (flat_map (λ r. mismatches_among p.entries r.symbols r.meanings) p.resolved)

-- Only a link with loose calls lets them through.
abbrev pub mismatches_if : Bool → Program → List Mismatch
mismatches_if true p = mismatches p
mismatches_if false p = []

-- ---- of files

-- At one of these faults a link ends before its calls are looked at.
abbrev pub standing : Program → Result Program Fault
standing p = do
  p ← unless (too_many_names p) p
  p ← unless (clash_by p.plan.loose_calls p.entries) p
  unless (duplicate p.entries) p

abbrev pub told_of : Result Program Fault → List Mismatch
told_of (Ok p) = mismatches_if p.plan.loose_calls p
told_of (Err fault) = []

unfoldable pub mismatches_by : Mode → Readers → Plan → List (List ℕ) → List Mismatch
mismatches_by mode readers plan files = told_of (do
  all ← candidates_of readers plan files
  objects ← load mode (asked_names plan) all
  standing (program_of mode plan files all objects))

-- What is told of the link of files by a plan.
unfoldable pub mismatches_of : Plan → List (List ℕ) → List Mismatch
mismatches_of plan files = mismatches_by (mode_of plan) the_readers plan files
