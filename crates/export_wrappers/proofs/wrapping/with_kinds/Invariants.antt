use Rattle.std.proofs.Common.{◌≡◌, ◌++◌, drop}
use Rattle.std.specs.Prelude.{map}
use Rattle.export_wrappers.specs.declared.wrapper.Wrapper.{Wrapper}
use Rattle.export_wrappers.proofs.wrapping.with_kinds.Given as goal

abbrev pub invariant-loop-w : goal.invariant-loop-w
invariant-loop-w l = l.all ++ map (λ (w : Wrapper). w.kind) (drop l.w-index l.wrappers) ≡ l.fn.functions ++ map (λ (w : Wrapper). w.kind) l.wrappers
