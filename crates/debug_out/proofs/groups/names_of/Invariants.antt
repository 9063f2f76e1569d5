use Rattle.std.proofs.Common.{◌≡◌, drop, map}
use Rattle.std.specs.Str.{bytes_eq}
use Rattle.wl_base.specs.Choice.{distinct_onto}
use Rattle.debug_rules.specs.Faults.{Debug}
use Rattle.debug_rules.specs.Joined.{names_of}
use Rattle.debug_out.specs.Refs.{debug_seen}
use Rattle.debug_out.proofs.groups.names_of.Given as goal

abbrev pub invariant-loop-d : goal.invariant-loop-d
invariant-loop-d l = distinct_onto bytes_eq l.names.names (map (λ (d : Debug). d.section.name) (map debug_seen (drop l.d-index l.all))) ≡ names_of (map debug_seen l.all)
