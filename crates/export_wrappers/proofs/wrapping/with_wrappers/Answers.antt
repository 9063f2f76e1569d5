use Rattle.std.proofs.Common.{◌+◌, ◌<◌, ◌^◌, length, rules}
use Rattle.export_wrappers.specs.Wrapped.{imported, last_after}
use Rattle.export_wrappers.specs.Cuts.{seen}
use Rattle.export_wrappers.proofs.Whole.{wrap_in, Written, written_as, with_wrappers_is}
use Rattle.export_wrappers.proofs.wrapping.with_wrappers.Goals as goal

pub returns : goal.returns
returns c = λ m is.
    let cut = seen c.args.cut in
    let written : Written c.args.asked cut c.args.ctors c.put_module.new.to =
    written_as c.args.asked cut c.args.ctors c.as_slice-9.result.now c.as_slice-10.result.now c.as_slice-11.result.now c.dtors_of-dtors.result c.in_ok-out.out c.put_module.new.to
    (search rules) (search rules) (search rules) (search rules) (search rules) c.in_ok-put_module.ensures in
    let fits : last_after (wrap_in cut) (imported cut.imports + length cut.functions) cut.exports < 2 ^ 32 = search rules in
    with_wrappers_is c.args.asked m cut c.args.ctors c.put_module.new.to is written fits
