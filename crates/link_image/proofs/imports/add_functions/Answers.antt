use Rattle.std.proofs.Common.{◌≤◌, length, drop, arith}
use Rattle.link_image.specs.Imports.{functions_seen}
use Rattle.link_image.proofs.Ends.{ended, no_imports}
use Rattle.link_image.proofs.imports.add_functions.Goals as goal

pub returns : goal.returns
returns c =
    let past : length c.args.keys.now ≤ c.loop-at.at = omega (arith, c.loop-at-test.false) in
    ended (functions_seen c.args.resolution.now.imports (drop c.loop-at.at c.args.types.now)) c.loop-at.imports _ c.args.keys.now c.loop-at.at (no_imports c.args.resolution.now.imports (drop c.loop-at.at c.args.types.now)) past c.loop-at.invariant
