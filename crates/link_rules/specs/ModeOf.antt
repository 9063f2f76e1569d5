-- Which output is made: one that a loader places at run time, or a plain one.
use Rattle.std.specs.Prelude.{◌≡◌, false, if◌then◌else◌}
use Rattle.std.proofs.Common.{ap}
use Rattle.made_symbols.specs.declared.mode.Mode.{Mode}
use Rattle.made_symbols.specs.declared.mode.Mode.TheVariants.{Plain, Shared}
use Rattle.link_plan.specs.declared.plan.Plan.{Plan as Asked}

unfoldable pub mode_of : Asked → Mode
mode_of plan = if plan.shared then Shared else Plain

-- A plan that asks for a plain output.
abbrev pub IsPlain : Asked → Type 0
IsPlain plan = plan.shared ≡ false

pub plain_mode : (plan : Asked) → IsPlain plan → mode_of plan ≡ Plain
unfolding mode_of
plain_mode plan plain = ap (λ shared. if shared then Shared else Plain) plain
