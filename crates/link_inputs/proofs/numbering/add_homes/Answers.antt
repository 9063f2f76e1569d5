use Rattle.std.proofs.Common.{◌++◌}
use Rattle.link_inputs.specs.declared.opening.OpenFile.TheVariants.{Library}
use Rattle.link_inputs.specs.Sources.{homes_in}
use Rattle.link_inputs.proofs.Numbers.{home_more}
use Rattle.link_inputs.proofs.numbering.add_homes.Goals as goal

pub loop-member-preserved : goal.loop-member-preserved
loop-member-preserved c =
    home_more c.args.file c.loop-member.member c.args.library.now c.member-span.result c.loop-member.homes c.push.new.self
    (c.args.homes.now ++ homes_in c.args.file (Library c.args.library.now)) c.member-span.ensures c.in_ok-push.ensures.ok c.loop-member.invariant
