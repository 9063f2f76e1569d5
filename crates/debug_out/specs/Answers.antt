-- What is answered.
use Rattle.std.specs.Prelude.{◌≡◌, List, ◌++◌, map, Result, Ok, Err}
use Rattle.wl_base.specs.Choice.{◌>>=◌}
use Rattle.wl_base.specs.declared.fault.Fault.{Fault}
use Rattle.debug_out.specs.declared.error.DebugError.{DebugError}
use Rattle.debug_out.specs.declared.error.DebugError.TheVariants.{Refused, OutOfMemory}

-- the answer is the one that the definition gives, or want of memory
abbrev pub Answers : {A : Type 0} → Result A DebugError → Result A Fault → Type 0
Answers (Ok a) said = said ≡ Ok a
Answers (Err (Refused fault)) said = said ≡ Err fault
Answers (Err OutOfMemory) said = Unit {0}

-- the same of an answer that is seen by `view`
abbrev pub Tells : {A B : Type 0} → (A → B) → Result (List A) DebugError → Result (List B) Fault → Type 0
Tells view (Ok a) said = said ≡ Ok (map view a)
Tells view (Err (Refused fault)) said = said ≡ Err fault
Tells view (Err OutOfMemory) said = Unit {0}

-- what is there now is what the definition gives
abbrev pub Puts : {A B : Type 0} → Result A DebugError → B → Result B Fault → Type 0
Puts (Ok a) now said = said ≡ Ok now
Puts (Err (Refused fault)) now said = said ≡ Err fault
Puts (Err OutOfMemory) now said = Unit {0}

-- a list, and behind it what is given
abbrev pub onto : {A : Type 0} → List A → Result (List A) Fault → Result (List A) Fault
onto front said = said >>= λ xs. Ok (front ++ xs)
