-- What reading the objects of the words gives, and the members of whole libraries.
use Rattle.std.specs.Prelude.{◌≡◌, ◌<◌, ℕ, nat_le, Bool, ◌&&◌, List, [], ◌∷◌, length, map, flat_map, if◌then◌else◌, Option, Some, None, slice_get, slice_index_or, Result, Ok, Err}
use Rattle.link_program.specs.wl_base.Choice.{first_some, ◌>>=◌}
use Rattle.link_program.specs.wl_base.declared.fault.Fault.{Fault}
use Rattle.link_program.specs.object_file.declared.object.Object.{Object}
use Rattle.link_program.specs.object_file.ObjectOf.{object_of}
use Rattle.link_program.specs.round_rules.declared.given.GivenObject.{GivenObject}
use Rattle.link_program.specs.round_rules.declared.given.LibraryFile.{LibraryFile}
use Rattle.link_program.specs.round_rules.Rounds.{Candidate, object_fault}
use Rattle.link_program.specs.round_rules.Inputs.{members_of}
use Rattle.link_inputs.specs.declared.numbering.ObjectFile.{ObjectFile}
use Rattle.link_inputs.specs.declared.reading.ReadError.{ReadError}
use Rattle.link_inputs.specs.declared.reading.ReadError.TheVariants as errors
use Rattle.link_program.specs.declared.error.LinkError.{LinkError}
use Rattle.link_program.specs.declared.error.LinkError.TheVariants.{OutOfMemory}
use Rattle.link_program.specs.Answers.{Stops}

-- ---- objects of the words

-- the file at a place
abbrev pub file_at : List (List ℕ) → ℕ → List ℕ
file_at files file = slice_index_or files file []

-- each object's file is there
abbrev pub FitIn : List (List ℕ) → List ObjectFile → Type 0
FitIn files objects = (i : ℕ) (o : ObjectFile) → slice_get objects i ≡ Some o → o.file < length files

-- The object that is read, or the input and its fault.
abbrev pub given_by : ℕ → Bool → Result Object Fault → Result GivenObject (ℕ × Fault)
given_by input lazy (Ok object) = Ok (record { object = object; lazy = lazy })
given_by input lazy (Err fault) = Err (input, fault)

abbrev pub given_of : List (List ℕ) → ObjectFile → Result GivenObject (ℕ × Fault)
given_of files o = given_by o.input o.lazy (object_of o.input (file_at files o.file))

-- All of them, or the first that is none.
abbrev pub given_from : List (List ℕ) → List ObjectFile → Result (List GivenObject) (ℕ × Fault)
given_from files [] = Ok []
given_from files (o ∷ os) = do
  g ← given_of files o
  gs ← given_from files os
  Ok (g ∷ gs)

-- What a call answers. Want of memory alone is free.
abbrev pub Reads : {A : Type 0} → Result A ReadError → Result A (ℕ × Fault) → Type 0
Reads (Ok a) said = said ≡ Ok a
Reads (Err (errors.Refused input fault)) said = said ≡ Err (input, fault)
Reads (Err errors.OutOfMemory) said = Unit {0}

-- a slot for each object
abbrev pub AreRead : List (List ℕ) → List ObjectFile → List (Result GivenObject ReadError) → Type 0
AreRead files [] [] = Unit {0}
AreRead files [] (s ∷ ss) = ⊥
AreRead files (o ∷ os) [] = ⊥
AreRead files (o ∷ os) (s ∷ ss) = Reads s (given_of files o) × AreRead files os ss

-- ---- members of whole libraries

-- Those of a library that is loaded whole and begins with this input or before it.
abbrev pub early_members : List (List ℕ) → ℕ → LibraryFile → List Candidate
early_members files input l = if l.whole && nat_le l.first input then members_of files l else []

abbrev pub whole_before : List (List ℕ) → ℕ → List LibraryFile → List Candidate
whole_before files input libraries = flat_map (early_members files input) libraries

-- the fault of the first candidate that has one
abbrev pub fault_of : List Candidate → Option Fault
fault_of cs = first_some (map object_fault cs)

-- the one that is found, or else this one
abbrev pub least_of : Option Fault → Fault → Option Fault
least_of None fault = Some fault
least_of (Some found) fault = Some found

-- Why the inputs aren't loaded, by why the first object of the words isn't read.
abbrev pub IsLeast : LinkError → List (List ℕ) → List LibraryFile → ReadError → Type 0
IsLeast e files libraries (errors.Refused input fault) = Stops e (least_of (fault_of (whole_before files input libraries)) fault)
IsLeast e files libraries errors.OutOfMemory = e ≡ OutOfMemory
