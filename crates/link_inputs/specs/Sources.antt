-- The files as numbered inputs: the objects of the words, the libraries, and where each input stands.
use Rattle.std.specs.Prelude.{◌≡◌, ℕ, ◌+◌, List, [], ◌∷◌, ◌++◌, map}
use Rattle.link_program.specs.round_rules.declared.given.LibraryFile.{LibraryFile}
use Rattle.link_program.specs.link_plan.declared.plan.InputWord.{InputWord}
use Rattle.link_program.specs.declared.home.Home.{Home}
use Rattle.link_inputs.specs.declared.numbering.ObjectFile.{ObjectFile}
use Rattle.link_inputs.specs.declared.numbering.Sources.{Sources}
use Rattle.link_inputs.specs.declared.opening.OpenFile.{OpenFile}
use Rattle.link_inputs.specs.declared.opening.OpenFile.TheVariants.{Object, Library}
use Rattle.link_inputs.specs.Opened.{count_in}

-- ---- of a file, by its place, its first input and its word

abbrev pub objects_in : ℕ → ℕ → InputWord → OpenFile → List ObjectFile
objects_in file input w (Object len) = record { file = file; input = input; lazy = w.lazy } ∷ []
objects_in file input w (Library l) = []

abbrev pub libraries_in : ℕ → ℕ → InputWord → OpenFile → List LibraryFile
libraries_in file input w (Object len) = []
libraries_in file input w (Library l) = record { file = file; first = input; whole = w.whole; library = l } ∷ []

-- An object has all of its file, a member its data.
abbrev pub homes_in : ℕ → OpenFile → List Home
homes_in file (Object len) = record { file = file; start = 0; len = len } ∷ []
homes_in file (Library l) = map (λ s. record { file = file; start = s.start; len = s.len }) l.members

pub record IsAdded (file input : ℕ) (w : InputWord) (o : OpenFile) (old new : Sources) : Type 0 where
  pub objects : new.objects ≡ old.objects ++ objects_in file input w o
  pub libraries : new.libraries ≡ old.libraries ++ libraries_in file input w o
  pub homes : new.homes ≡ old.homes ++ homes_in file o

-- ---- of all files from a place on

abbrev pub objects_from : ℕ → ℕ → List InputWord → List OpenFile → List ObjectFile
objects_from file input [] os = []
objects_from file input (w ∷ ws) [] = []
objects_from file input (w ∷ ws) (o ∷ os) = objects_in file input w o ++ objects_from (file + 1) (input + count_in o) ws os

abbrev pub libraries_from : ℕ → ℕ → List InputWord → List OpenFile → List LibraryFile
libraries_from file input [] os = []
libraries_from file input (w ∷ ws) [] = []
libraries_from file input (w ∷ ws) (o ∷ os) = libraries_in file input w o ++ libraries_from (file + 1) (input + count_in o) ws os

abbrev pub homes_from : ℕ → List OpenFile → List Home
homes_from file [] = []
homes_from file (o ∷ os) = homes_in file o ++ homes_from (file + 1) os

-- The first input is number 1.
pub record AreSources (ws : List InputWord) (os : List OpenFile) (s : Sources) : Type 0 where
  pub objects : s.objects ≡ objects_from 0 1 ws os
  pub libraries : s.libraries ≡ libraries_from 0 1 ws os
  pub homes : s.homes ≡ homes_from 0 os
