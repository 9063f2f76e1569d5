use Rattle.std.proofs.Common.{◌≡◌, false, sym, refl, rules}
use Rattle.valid_rules.specs.declared.types.Opener.TheVariants.{Block as BlockOpener, If}
use Rattle.valid_bodies.proofs.Opening.{by_else}
use Rattle.valid_bodies.proofs.frames.parts.Goals as goal

pub returns : goal.returns
returns c =
    let s = c.blocks-2.inside in
    let b = c.in-Some.block in
    let is_if : b.opener ≡ If = search rules in
    by_else s.types s.inner s.around b s.operands c.args.blocks.now c.blocks-2.view_is c.in-Some.is c.results_in-results.result.now c.params_in-params.result.now c.is_all.new.operands c.puts.new.operands
    (record { opener = BlockOpener; from = b.from; mid = b.mid; to = b.to; unreachable = false })
    c.results_in-results.ensures c.params_in-params.ensures (sym c.if-not-is_all.ensures.own) is_if (c.if-not-is_all.ensures.taken refl) c.is_all.ensures.below c.in_ok-puts.ensures.own c.in_ok-puts.ensures.below refl
