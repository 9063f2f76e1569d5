use Rattle.std.proofs.Common.{◌≡◌, ◌+◌, ◌-◌, ◌<◌, ◌≤◌, length, take, drop, refl, sym, ap, ◌∙◌, arith, Some, None}
use Rattle.std.specs.Prelude.{slice_get}
use Rattle.run_numbers.proofs.layers.Layered.jump.Goals as goal
use Rattle.run_numbers.proofs.Blocks.{past_is, short_is, jump_is, reach_is, jump_heights, sunk_long}

pub returns-in-None : goal.returns-in-None
returns-in-None c = (past_is c.self.inside.blocks c.self.inside.values c.args.self.now c.self.view_is c.args.k (sym c.at.ensures.value ∙ c.in-None.is), refl)

pub returns-then-count-block : goal.returns-then-count-block
returns-then-count-block c = short_is c.self.inside.blocks c.self.inside.values c.args.self.now c.self.view_is c.args.k c.count-count.result c.in-Some.block (sym c.at.ensures.value ∙ c.in-Some.is) c.self.invariant c.count-count.ensures c.if-count-block.true

pub sink-requires : goal.sink-requires
sink-requires c = reach_is c.self.inside.blocks c.self.inside.values c.args.self.now c.self.view_is c.args.k c.in-Some.block (sym c.at.ensures.value ∙ c.in-Some.is) c.self.invariant (omega (arith, c.count-count.ensures, c.if-count-block.false))

pub invariant_of-self : goal.invariant_of-self
invariant_of-self c =
    jump_heights c.self.inside.blocks c.self.inside.values c.args.k (length c.sink.new.self) c.in-Some.block c.drop_top.new.self (sym c.at.ensures.value ∙ c.in-Some.is) c.self.invariant c.in_err-sink-in-Some.ensures.err c.drop_top.ensures

pub invariant_of-self-in-Some : goal.invariant_of-self-in-Some
invariant_of-self-in-Some c =
    let r = reach_is c.self.inside.blocks c.self.inside.values c.args.self.now c.self.view_is c.args.k c.in-Some.block (sym c.at.ensures.value ∙ c.in-Some.is) c.self.invariant (omega (arith, c.count-count.ensures, c.if-count-block.false)) in
    jump_heights c.self.inside.blocks c.self.inside.values c.args.k (length c.sink.new.self) c.in-Some.block c.drop_top.new.self (sym c.at.ensures.value ∙ c.in-Some.is) c.self.invariant
    (sunk_long c.self.inside.values c.sink.new.self c.in-Some.block.arity c.in-Some.block.height c.in_ok-sink-in-Some.ensures.ok (omega (arith, r))) c.drop_top.ensures

pub returns-in_ok-sink-in-Some : goal.returns-in_ok-sink-in-Some
returns-in_ok-sink-in-Some c =
    jump_is c.self.inside.blocks c.self.inside.values c.args.self.now c.self.view_is c.args.k c.in-Some.block c.drop_top.new.self c.sink.new.self (sym c.at.ensures.value ∙ c.in-Some.is) c.self.invariant (omega (arith, c.count-count.ensures, c.if-count-block.false)) c.drop_top.ensures c.in_ok-sink-in-Some.ensures.ok
