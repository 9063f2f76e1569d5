use Rattle.std.proofs.Common.{◌≡◌, ◌-◌, ◌≤◌, length, take, drop, ap, ◌∙◌, arith}
use Rattle.std.specs.Prelude.{reverse}
use Rattle.std.proofs.lemmas.List.{length-reverse}
use Rattle.wl_stack.proofs.stack.Stack.take_top.Goals as goal
use Rattle.wl_stack.proofs.Ends.{reverse_drop, reverse_take}

pub returns-clause-taken : goal.returns-clause-taken
returns-clause-taken g c =
    let xs = c.self.inside.items.items in
    let n = c.args.count in
    let l = ap length c.self.view_is in
    let fits : n ≤ length xs = omega (arith, length-reverse xs) in
    let at : c.len.result - n ≡ length xs - n = omega (arith, c.self.inside.items.ok.0) in
    ap reverse c.in_ok-items.ensures.tail ∙ reverse_drop xs n (c.len.result - n) fits at ∙ ap (take n) c.self.view_is

pub returns-clause-left : goal.returns-clause-left
returns-clause-left g c =
    let xs = c.self.inside.items.items in
    let n = c.args.count in
    let l = ap length c.self.view_is in
    let fits : n ≤ length xs = omega (arith, length-reverse xs) in
    let at : c.len.result - n ≡ length xs - n = omega (arith, c.self.inside.items.ok.0) in
    ap reverse c.in_ok-items.ensures.items ∙ reverse_take xs n (c.len.result - n) fits at ∙ ap (drop n) c.self.view_is
