use Rattle.std.proofs.Common.{◌≡◌, drop}
use Rattle.run_rules.specs.Modules.{found_in}
use Rattle.run_modules.proofs.cells.found_in.Given as goal

abbrev pub invariant-loop-given : goal.invariant-loop-given
invariant-loop-given l = found_in (drop l.given-index l.globals) l.from l.field l.kind ≡ found_in l.globals l.from l.field l.kind
