use Rattle.std.proofs.Common.{◌≡◌, ◌++◌, drop}
use Rattle.std.specs.List.{flat_map}
use Rattle.run_text.specs.Text.{line, global_text}
use Rattle.run_text.proofs.events.put_globals.Given as goal

abbrev pub invariant-loop-global : goal.invariant-loop-global
invariant-loop-global l = l.to ++ flat_map (λ g. line (global_text g)) (drop l.global-index l.globals) ≡ l.initial.to ++ flat_map (λ g. line (global_text g)) l.globals
