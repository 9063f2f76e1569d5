use Rattle.std.proofs.Common.{arith}
use Rattle.name_meanings.specs.Means.{means_something}
use Rattle.name_meanings.proofs.Something.{something, one_passes, all_passed}
use Rattle.name_meanings.proofs.resolution.all_mean.Goals as goal

pub loop-meaning-preserved : goal.loop-meaning-preserved
loop-meaning-preserved c =
    one_passes means_something c.args.row.now c.loop-meaning.meaning-index _ c.loop-meaning-test.true (something _ c.in_default.not-Nothing) c.loop-meaning.invariant

pub returns : goal.returns
returns c = all_passed means_something c.args.row.now c.loop-meaning.meaning-index (omega (arith, c.loop-meaning-test.false, c.loop-meaning.auto.meaning-index-end)) c.loop-meaning.invariant
