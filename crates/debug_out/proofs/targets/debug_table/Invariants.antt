use Rattle.std.proofs.Common.{◌≡◌, ◌==◌, ℕ, false, drop, map, slice_index_or}
use Rattle.std.specs.Prelude.{◌||◌}
use Rattle.std.specs.List.{list_any}
use Rattle.debug_rules.specs.Faults.{debug_places}
use Rattle.debug_out.specs.Refs.{custom_seen}
use Rattle.debug_out.proofs.targets.debug_table.Given as goal

abbrev pub invariant-loop-c : goal.invariant-loop-c
invariant-loop-c l = (at : ℕ) → (slice_index_or l.table.items at false || list_any (λ a. a == at) (debug_places (map custom_seen (drop l.c-index l.all)))) ≡ list_any (λ a. a == at) (debug_places (map custom_seen l.all))
