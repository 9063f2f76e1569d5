-- What a link answers, beside what its definition gives.
use Rattle.std.specs.Prelude.{◌≡◌, ◌<◌, ◌^◌, ℕ, List, length, Result, Ok, Err}
use Rattle.link_output.specs.link_program.wl_base.declared.fault.Fault.{Fault}
use Rattle.link_output.specs.link_program.declared.error.LinkError.{LinkError}
use Rattle.link_output.specs.link_program.Answers.{Fails}

-- The answer is the one that the definition gives: the same bytes, or the same fault. Want of memory alone is free.
abbrev pub Answers : Result (List ℕ) LinkError → Result (List ℕ) Fault → Type 0
Answers (Ok bytes) said = said ≡ Ok bytes
Answers (Err e) said = Fails e said

-- A module has fewer than 2^31 bytes.
abbrev pub IsShort : Result (List ℕ) LinkError → Type 0
IsShort (Ok bytes) = length bytes < 2 ^ 31
IsShort (Err e) = Unit {0}
