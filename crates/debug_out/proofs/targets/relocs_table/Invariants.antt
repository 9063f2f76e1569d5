use Rattle.std.proofs.Common.{◌≡◌, ◌++◌, ◌<◌, ℕ, length, drop, map, slice_index_or}
use Rattle.debug_rules.specs.Sections.{payloads_for}
use Rattle.debug_out.specs.declared.refs.Payloads.TheVariants.{Nothing}
use Rattle.debug_out.specs.Refs.{custom_seen}
use Rattle.debug_out.specs.Targets.{payloads_seen, two_at_most}
use Rattle.debug_out.proofs.targets.relocs_table.Given as goal

abbrev pub invariant-loop-c : goal.invariant-loop-c
invariant-loop-c l = (at : ℕ) → at < length l.table.items → two_at_most (payloads_seen (slice_index_or l.table.items at Nothing) ++ payloads_for at (map custom_seen (drop l.c-index l.all))) ≡ two_at_most (payloads_for at (map custom_seen l.all))
