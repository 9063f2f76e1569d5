use Rattle.std.proofs.Common.{◌≤◌, length, drop, arith}
use Rattle.link_image.specs.Sections.{types_seen}
use Rattle.link_image.proofs.Ends.{ended, no_types}
use Rattle.link_image.proofs.functions.defined_types.Goals as goal

pub returns : goal.returns
returns c =
    let past : length c.args.keys.now ≤ c.loop-at.at = omega (arith, c.loop-at-test.false) in
    ended (types_seen (drop c.loop-at.at c.args.types.now)) c.loop-at.numbers _ c.args.keys.now c.loop-at.at (no_types (drop c.loop-at.at c.args.types.now)) past c.loop-at.invariant
