-- What a shelf in memory holds, and which of its calls fail.
use Rattle.std.specs.Prelude.{◌≡◌, ℕ, List, [], ◌∷◌, Contains, true, if◌then◌else◌, Option, Some, None, Result, Ok, Err, refl}
use Rattle.std.specs.Str.{bytes_eq}
use Rattle.wl_outside.specs.declared.sink.Failed.{Failed}
use Rattle.wl_outside.specs.declared.shelf.LoadFault.{LoadFault}
use Rattle.wl_outside.specs.declared.shelf.LoadFault.TheVariants.{Failed as LoadFails}
use Rattle.wl_outside.specs.declared.held.Held.{Held}
use Rattle.wl_outside.specs.declared.mem_shelf.MemShelf.{MemShelf}
use Rattle.wl_outside.specs.Counts.{raised}
use Rattle.wl_outside.specs.Shelf.{Shown}

-- the newer of two contents
abbrev pub newer : Option (List ℕ) → Option (List ℕ) → Option (List ℕ)
newer (Some later) older = Some later
newer None older = older

-- the content of the last file of that name
abbrev pub found : List Held → List ℕ → Option (List ℕ)
found [] name = None
found (file ∷ files) name = newer (found files name) (if bytes_eq file.name name then Some file.bytes else None)

abbrev pub three_files : List Held
three_files =
    record { name = 97 ∷ []; bytes = 1 ∷ [] }
    ∷ record { name = 98 ∷ []; bytes = [] }
    ∷ record { name = 97 ∷ []; bytes = 2 ∷ 3 ∷ [] }
    ∷ []

pub the_newest_counts : found three_files (97 ∷ []) ≡ Some (2 ∷ 3 ∷ [])
the_newest_counts = refl

pub a_name_may_hold_no_bytes : found three_files (98 ∷ []) ≡ Some []
a_name_may_hold_no_bytes = refl

pub an_absent_name_holds_nothing : found three_files (99 ∷ []) ≡ None
an_absent_name_holds_nothing = refl

-- it tells all; each count is one for all names
abbrev pub mem_shown : MemShelf → Shown
mem_shown s = record { tells = true; held = found s.files; failed_loads = λ _. s.failed_loads; failed_saves = λ _. s.failed_saves }

-- it holds these files, and has had no call
pub record Fresh (given : List Held) (listed : List ℕ) (s : MemShelf) : Type 0 where
  pub held : s.files ≡ given
  pub fails : s.failing ≡ listed
  pub called : s.calls ≡ 0
  pub loads : s.failed_loads ≡ 0
  pub saves : s.failed_saves ≡ 0

-- the next call of load or save is one of those that are to fail
abbrev pub NextFails : MemShelf → Type 0
NextFails s = Contains s.failing (raised s.calls)

-- a call was counted, and these many loads and saves have failed
pub record Counted (loads saves : ℕ) (old new : MemShelf) : Type 0 where
  pub called : new.calls ≡ raised old.calls
  pub listed : new.failing ≡ old.failing
  pub load_count : new.failed_loads ≡ loads
  pub save_count : new.failed_saves ≡ saves

-- a load that fails raises the count of loads, and nothing else does; want of memory raises nothing
abbrev pub LoadTally : Result (List ℕ) LoadFault → MemShelf → MemShelf → Type 0
LoadTally (Ok bytes) old new = Counted old.failed_loads old.failed_saves old new
LoadTally (Err LoadFails) old new = Counted (raised old.failed_loads) old.failed_saves old new
LoadTally (Err _) old new = Counted old.failed_loads old.failed_saves old new

-- a save that fails raises the count of saves, and nothing else does
abbrev pub SaveTally : Result (Unit {0}) Failed → MemShelf → MemShelf → Type 0
SaveTally (Ok done) old new = Counted old.failed_loads old.failed_saves old new
SaveTally (Err failed) old new = Counted old.failed_loads (raised old.failed_saves) old new
