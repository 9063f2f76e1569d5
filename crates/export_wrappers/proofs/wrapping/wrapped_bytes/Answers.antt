use Rattle.std.proofs.Common.{◌≡◌, Some, None, rules}
use Rattle.std.proofs.lemmas.Result.{err_from_is_err_and}
use Rattle.export_wrappers.specs.Wrapped.{ctors_name, function_named}
use Rattle.export_wrappers.specs.Cuts.{seen}
use Rattle.export_wrappers.proofs.Answering.{stays, wraps, fails}
use Rattle.export_wrappers.proofs.wrapping.wrapped_bytes.Goals as goal

pub returns-in_err-cut : goal.returns-in_err-cut
returns-in_err-cut c =
    let p = err_from_is_err_and c.from_residual.result c.from_residual.ensures.1 in
    rw (p.1, p.2) (fails c.args.asked c.args.bytes.now c.in_err-cut.field-0.0 c.in_err-cut.ensures)

pub returns-in_ok-from_slice-in-None : goal.returns-in_ok-from_slice-in-None
returns-in_ok-from_slice-in-None c =
    let cut = seen c.in_ok-cut.cut in
    let same : c.in_ok-from_slice-in-None.field-0 ≡ c.args.bytes.now = search rules in
    let none : function_named ctors_name cut.exports ≡ None = search rules in
    rw same (stays c.args.asked c.args.bytes.now cut c.in_ok-cut.ensures none)

pub returns-in_ok-with_wrappers-in-Some : goal.returns-in_ok-with_wrappers-in-Some
returns-in_ok-with_wrappers-in-Some c =
    let cut = seen c.in_ok-cut.cut in
    let found : function_named ctors_name cut.exports ≡ Some c.in-Some.ctors = search rules in
    wraps c.args.asked c.args.bytes.now cut c.in-Some.ctors c.in_ok-with_wrappers-in-Some.field-0 c.in_ok-cut.ensures found c.in_ok-with_wrappers-in-Some.ensures
