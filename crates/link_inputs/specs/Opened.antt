-- The files, opened in turn as objects and libraries, and how many inputs they are.
use Rattle.std.specs.Prelude.{ℕ, ◌+◌, ◌^◌, nat_le, Bool, true, false, List, [], ◌∷◌, length, sum_by, Option, Result, Ok, Err}
use Rattle.link_program.specs.wl_base.Choice.{given, unless, ◌>>=◌}
use Rattle.link_program.specs.wl_base.declared.fault.Fault.{Fault}
use Rattle.link_program.specs.wl_base.declared.fault.Fault.TheVariants.{TooManyInputs, Library as BadLibrary}
use Rattle.link_program.specs.wl_base.declared.fault.LibFault.{LibFault}
use Rattle.link_program.specs.lib_index.Library.{Contents}
use Rattle.link_program.specs.lib_index.Reading.{library_of}
use Rattle.link_program.specs.link_rules.Candidates.{is_library, too_much_input}
use Rattle.link_inputs.specs.declared.opening.OpenFile.{OpenFile}
use Rattle.link_inputs.specs.declared.opening.OpenFile.TheVariants.{Object, Library}

-- A library, where it could be read.
abbrev pub library_file : ℕ → Result Contents LibFault → Result OpenFile Fault
library_file file (Ok l) = Ok (Library l)
library_file file (Err fault) = Err (BadLibrary file fault)

-- The file at this place, by whether it is a library.
abbrev pub opened_as : ℕ → List ℕ → Bool → Result OpenFile Fault
opened_as file bytes false = Ok (Object (length bytes))
opened_as file bytes true = library_file file (library_of bytes)

abbrev pub opened_file : ℕ → List ℕ → Result OpenFile Fault
opened_file file bytes = opened_as file bytes (is_library bytes)

-- The files from a place on, or the fault of the first library that can't be read.
abbrev pub opened_from : ℕ → List (List ℕ) → Result (List OpenFile) Fault
opened_from file [] = Ok []
opened_from file (bytes ∷ files) = do
  o ← opened_file file bytes
  os ← opened_from (file + 1) files
  Ok (o ∷ os)

-- ---- how many inputs

abbrev pub count_in : OpenFile → ℕ
count_in (Object len) = 1
count_in (Library l) = length l.members

abbrev pub input_count : List OpenFile → ℕ
input_count os = sum_by count_in os

abbrev pub too_many : List OpenFile → Option Fault
too_many os = given (nat_le (2 ^ 20) (input_count os)) (TooManyInputs (input_count os))

-- ---- the whole

-- All files: too much input, the first library that can't be read, too many inputs; or each file as what it is.
unfoldable pub opened_files : List (List ℕ) → Result (List OpenFile) Fault
opened_files files = do
  files ← unless (too_much_input files) files
  os ← opened_from 0 files
  unless (too_many os) os
