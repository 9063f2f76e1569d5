use Rattle.std.proofs.Common.{rules, length, subst, ◌≤◌}
use Rattle.std.specs.List.{All}
use Rattle.std.proofs.lemmas.List.{take_all}
use Rattle.reloc_apply.specs.declared.window.Form.TheVariants.{Unsigned5}
use Rattle.reloc_apply.specs.declared.window.Window.{Window}
use Rattle.reloc_apply.specs.Windows.{IsSum}
use Rattle.layout_tests.proofs.Checks.{one_more_sum}
use Rattle.layout_tests.proofs.patches.are_sums.Goals as goal
use Rattle.std.specs.Prelude.{IsTrue, pos}

pub loop-window-preserved : goal.loop-window-preserved
loop-window-preserved c =
    let nowhere : Window = record { place = 0; form = Unsigned5; target = pos 0; addend = pos 0 } in
    let sure : IsTrue c.is_sum.result = search rules in
    one_more_sum c.args.windows.now c.loop-window.window-index nowhere c.loop-window-test.true c.loop-window.invariant (c.is_sum.ensures sure)

pub returns : goal.returns
returns c sure =
    let all : length c.args.windows.now ≤ c.loop-window.window-index = search rules in
    subst (All IsSum) (take_all c.loop-window.window-index c.args.windows.now all) c.loop-window.invariant
