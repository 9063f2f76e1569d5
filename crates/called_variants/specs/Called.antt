-- What is told of functions that are called by another type than their definition has, where a call names them so.
use Rattle.std.specs.Prelude.{ℕ, Bool, true, false, ◌==◌, ◌&&◌, List, [], filter, Result, Ok, Err}
use Rattle.std.specs.List.{list_any}
use Rattle.link_keys.specs.link_program.wl_base.Choice.{unless, ◌>>=◌}
use Rattle.link_keys.specs.link_program.wl_base.declared.fault.Fault.{Fault}
use Rattle.link_keys.specs.link_program.reloc_section.declared.kinds.TheConstants as relocs
use Rattle.link_keys.specs.link_program.made_symbols.declared.mode.Mode.{Mode}
use Rattle.link_keys.specs.link_program.round_rules.Rounds.{load}
use Rattle.link_keys.specs.link_program.name_rules.Entries.{is_entry, is_named}
use Rattle.link_keys.specs.link_program.link_plan.declared.plan.Plan.{Plan}
use Rattle.link_keys.specs.link_program.link_rules.ModeOf.{mode_of}
use Rattle.link_keys.specs.link_program.link_rules.Candidates.{Readers, candidates_of}
use Rattle.link_keys.specs.link_program.link_rules.Program.{Program, Ref, program_of, variant_name}
use Rattle.link_keys.specs.link_program.link_rules.Marks.{refs_of}
use Rattle.link_keys.specs.link_program.link_rules.LinkOf.{asked_names, the_readers}
use Rattle.mismatch_rules.specs.declared.mismatch.Mismatch.{Mismatch}
use Rattle.mismatch_rules.specs.Mismatches.{mismatches, standing}

-- Whether a reference is a call of this name (Linking.md, "Relocation Sections": R_WASM_FUNCTION_INDEX_LEB).
abbrev pub calls : List ℕ → Ref → Bool
calls name ref = (ref.kind == relocs.FUNCTION_INDEX_LEB) && (is_entry ref.entry && is_named name ref.entry)

-- Whether a call names the variant of a function. In the parts of a program with loose calls, those of another type name variants, whose
-- names no object has; an address names the definition. Dead calls are calls too.
abbrev pub is_called : Program → Mismatch → Bool
is_called p m = list_any (calls (variant_name m.called m.name)) (refs_of p.parts)

-- The mismatches of a program that calls make, by input and place, the first of each function and type.
unfoldable pub calls_told : Program → List Mismatch
calls_told p = filter (is_called p) (mismatches p)

-- Only a link with loose calls lets them through.
abbrev pub calls_if : Bool → Program → List Mismatch
calls_if true p = calls_told p
calls_if false p = []

-- ---- of files

abbrev pub told_of : Result Program Fault → List Mismatch
told_of (Ok p) = calls_if p.plan.loose_calls p
told_of (Err fault) = []

unfoldable pub calls_told_by : Mode → Readers → Plan → List (List ℕ) → List Mismatch
calls_told_by mode readers plan files = told_of (do
  all ← candidates_of readers plan files
  objects ← load mode (asked_names plan) all
  standing (program_of mode plan files all objects))

-- What is told of the link of files by a plan.
unfoldable pub calls_told_of : Plan → List (List ℕ) → List Mismatch
calls_told_of plan files = calls_told_by (mode_of plan) the_readers plan files
