use Rattle.std.proofs.Common.{◌≡◌, ◌-◌}
use Rattle.wasm_module.specs.Sections.{customs_at}
use Rattle.export_wrappers.proofs.sections.customs_at.Given as goal

abbrev pub invariant-loop : goal.invariant-loop
invariant-loop l = customs_at (l.most - l.counter) l.end l.rest ≡ customs_at l.most l.end l.bytes
