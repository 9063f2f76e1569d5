use Rattle.std.proofs.Common.{◌≡◌, ◌-◌, ℕ, List, slice_get}
use Rattle.debug_rules.specs.Faults.{entry_stands}
use Rattle.debug_out.specs.Judged.{judged}
use Rattle.debug_out.specs.Targets.{HasPlaces}
use Rattle.debug_out.proofs.entries.all_stand.Given as goal

abbrev pub invariant-loop : goal.invariant-loop
invariant-loop l = (places : List ℕ) → HasPlaces l.debug places
    → judged (λ r. entry_stands places r (slice_get l.symbols r.index)) l.len (l.count - l.counter) l.end l.from l.left
    ≡ judged (λ r. entry_stands places r (slice_get l.symbols r.index)) l.len l.count l.end 0 l.entries
