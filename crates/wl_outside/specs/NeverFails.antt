-- What a shelf that never fails holds and counts.
use Rattle.std.specs.Prelude.{◌≡◌, ◌≤◌, ℕ, List, length, true, false, ◌&&◌, nat_lt, if◌then◌else◌, Some, is_some}
use Rattle.std.specs.Str.{bytes_eq}
use Rattle.wl_outside.specs.declared.held.Held.{Held}
use Rattle.wl_outside.specs.declared.never_fails.NeverFails.{NeverFails}
use Rattle.wl_outside.specs.Counts.{raised}
use Rattle.wl_outside.specs.Shelf.{Shown}
use Rattle.wl_outside.specs.MemShelf.{found}

-- The output, once saved, and the files from the start. A name that was there from the start has no
-- failed loads; the other names share a count of them. The output has a count of failed saves of its
-- own; the other names share one.
abbrev pub never_shown : NeverFails → Shown
never_shown s = record {
  tells = true;
  held = λ n. if s.saved && bytes_eq s.output n then Some s.buffer.items else found s.files n;
  failed_loads = λ n. if is_some (found s.files n) then 0 else s.absent_loads;
  failed_saves = λ n. if bytes_eq s.output n then s.long_saves else s.other_saves;
}

-- it holds these files and no output yet, and nothing has failed
pub record Fresh (given : List Held) (named : List ℕ) (most : ℕ) (s : NeverFails) : Type 0 where
  pub start : s.files ≡ given
  pub unsaved : s.saved ≡ false
  pub name : s.output ≡ named
  pub space : s.room ≡ most
  pub absent : s.absent_loads ≡ 0
  pub long : s.long_saves ≡ 0
  pub other : s.other_saves ≡ 0

-- the files from the start, the output's name and its room stay, and these are the counts
pub record Counted (absent long other : ℕ) (old new : NeverFails) : Type 0 where
  pub start : new.files ≡ old.files
  pub name : new.output ≡ old.output
  pub space : new.room ≡ old.room
  pub absent_count : new.absent_loads ≡ absent
  pub long_count : new.long_saves ≡ long
  pub other_count : new.other_saves ≡ other

-- the name is the output's, and the bytes have room
abbrev pub HasRoom : NeverFails → List ℕ → List ℕ → Type 0
HasRoom s name bytes = (name ≡ s.output) × (length bytes ≤ s.room)

-- the count of absent names rises exactly at a load of a name that isn't held
abbrev pub LoadTally : List ℕ → NeverFails → NeverFails → Type 0
LoadTally name old new =
    Counted (if is_some ((never_shown old).held name) then old.absent_loads else raised old.absent_loads)
    old.long_saves old.other_saves old new

-- The output's count rises exactly at a save there of more bytes than the room, the other one exactly
-- at a save under another name.
abbrev pub SaveTally : List ℕ → List ℕ → NeverFails → NeverFails → Type 0
SaveTally name bytes old new =
    Counted old.absent_loads
    (if bytes_eq old.output name && nat_lt old.room (length bytes) then raised old.long_saves else old.long_saves)
    (if bytes_eq old.output name then old.other_saves else raised old.other_saves)
    old new
