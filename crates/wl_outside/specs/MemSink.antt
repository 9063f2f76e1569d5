-- What a sink in memory tells, and which of its calls fail.
use Rattle.std.specs.Prelude.{◌≡◌, ℕ, List, [], Contains, true, Result, Ok, Err}
use Rattle.wl_outside.specs.declared.sink.Failed.{Failed}
use Rattle.wl_outside.specs.declared.mem_sink.MemSink.{MemSink}
use Rattle.wl_outside.specs.Counts.{raised}
use Rattle.wl_outside.specs.Sink.{Told}

abbrev pub mem_told : MemSink → Told
mem_told s = record { tells = true; bytes = s.bytes; faults = s.faults }

-- it is empty, and has had no call
pub record Fresh (failing : List ℕ) (s : MemSink) : Type 0 where
  pub bytes : s.bytes ≡ []
  pub listed : s.failing ≡ failing
  pub calls : s.calls ≡ 0
  pub faults : s.faults ≡ 0

-- the next call is one of those that are to fail
abbrev pub NextFails : MemSink → Type 0
NextFails s = Contains s.failing (raised s.calls)

-- a call was counted, and the sink has these bytes and faults
pub record Counted (bytes : List ℕ) (faults : ℕ) (old new : MemSink) : Type 0 where
  pub calls : new.calls ≡ raised old.calls
  pub listed : new.failing ≡ old.failing
  pub held : new.bytes ≡ bytes
  pub faulted : new.faults ≡ faults

-- a call that fails adds nothing and raises the count, and no other call does
abbrev pub Tally : Result (Unit {0}) Failed → MemSink → MemSink → Type 0
Tally (Ok done) old new = Counted new.bytes old.faults old new
Tally (Err failed) old new = Counted old.bytes (raised old.faults) old new
