use Rattle.std.proofs.Common.{◌≡◌, drop, filter, map}
use Rattle.debug_rules.specs.Sections.{is_debug}
use Rattle.debug_rules.specs.Faults.{debug_places, debugs_from}
use Rattle.debug_out.specs.Answers.{onto}
use Rattle.debug_out.specs.Refs.{custom_seen, debug_seen}
use Rattle.debug_out.proofs.faults.debugs_from.Given as goal

abbrev pub invariant-loop-c : goal.invariant-loop-c
invariant-loop-c l = onto (map debug_seen l.out) (debugs_from l.object l.o.input l.o.symbols (debug_places (map custom_seen l.all)) (map custom_seen l.all) (filter is_debug (map custom_seen (drop l.c-index l.all)))) ≡ onto (map debug_seen l.fn.out) (debugs_from l.object l.o.input l.o.symbols (debug_places (map custom_seen l.all)) (map custom_seen l.all) (filter is_debug (map custom_seen l.all)))
