use Rattle.std.proofs.Common.{◌≡◌, take, filter, false}
use Rattle.std.specs.Prelude.{slice_index_or}
use Rattle.link_layout.proofs.gathering.solid_numbers.Given as goal

abbrev pub invariant-loop-number : goal.invariant-loop-number
invariant-loop-number l = l.numbers.items ≡ filter (λ n. slice_index_or l.placed.solid n false) (take l.number-index l.live)
