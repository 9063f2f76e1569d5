use Rattle.std.proofs.Common.{length}
use Rattle.leb_codec.specs.Shortest.{u32}
use Rattle.feature_section.specs.Fits.{IsShort}
use Rattle.feature_section.specs.Section.{used_feature}
use Rattle.feature_section.proofs.Put.{goes_on}
use Rattle.feature_section.proofs.writing.put_names.Goals as goal

pub loop-name-preserved : goal.loop-name-preserved
loop-name-preserved c =
    goes_on used_feature IsShort c.args.to.now (u32 (length c.args.names.now)) c.loop-name.to c.put_used.new.to c.name-item.result c.args.names.now c.loop-name.name-index
    c.loop-name-test.true c.name-item.is c.loop-name.invariant c.in_ok-put_used.ensures.bytes c.in_ok-put_used.ensures.fits
