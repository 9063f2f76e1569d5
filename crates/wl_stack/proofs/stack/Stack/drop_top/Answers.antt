use Rattle.std.proofs.Common.{◌≡◌, ◌-◌, ◌≤◌, length, drop, ap, ◌∙◌, arith}
use Rattle.std.specs.Prelude.{reverse}
use Rattle.std.proofs.lemmas.List.{length-reverse}
use Rattle.wl_stack.proofs.stack.Stack.drop_top.Goals as goal
use Rattle.wl_stack.proofs.Ends.{reverse_take}

pub returns : goal.returns
returns g c =
    let xs = c.self.inside.items.items in
    let n = c.args.count in
    let l = ap length c.self.view_is in
    let fits : n ≤ length xs = omega (arith, length-reverse xs) in
    let at : c.len.result - n ≡ length xs - n = omega (arith, c.self.inside.items.ok.0) in
    ap reverse c.truncate.ensures.items ∙ reverse_take xs n (c.len.result - n) fits at ∙ ap (drop n) c.self.view_is
