-- What is known before the first round.
use Rattle.std.specs.Prelude.{◌≡◌, ℕ, List, Result, Ok, Err, None}
use Rattle.lib_index.specs.Table.{shown}
use Rattle.lib_rounds.specs.declared.call.Begun.{Begun}
use Rattle.round_rules.specs.declared.given.LibraryFile.{LibraryFile}
use Rattle.lib_rounds.specs.declared.error.RoundError.{RoundError}
use Rattle.round_rules.specs.Rounds.{at_once, always_read_fault, load}
use Rattle.lib_rounds.specs.Lean.{first_names}
use Rattle.lib_rounds.specs.Held.{loaded_objects}
use Rattle.lib_rounds.specs.State.{World, Knows, Shows, Defines, Looked, Fails}

-- What is loaded at once is loaded, and what the first round adds is gathered.
pub record IsBegun (w : World) (wanted : List (List ℕ)) (libraries : List LibraryFile) (files : List (List ℕ)) (b : Begun) : Type 0 where
  pub knows : Knows w.all libraries files (shown b.start.lazies)
  pub shows : Shows w.all b.start.slots.items (at_once w.all)
  pub defines : Defines w.mode b.start.slots.items (shown b.start.definers)
  pub fine : always_read_fault w.all ≡ None
  pub looked : Looked w libraries files b.start.slots.items (at_once w.all) (first_names wanted (loaded_objects b.start.slots.items)) b.adds

-- That is so, or the first fault of it is told.
abbrev pub HasBegun : Result Begun RoundError → World → List (List ℕ) → List LibraryFile → List (List ℕ) → Type 0
HasBegun (Ok b) w wanted libraries files = IsBegun w wanted libraries files b
HasBegun (Err e) w wanted libraries files = Fails e (load w.mode wanted w.all)
