use Rattle.std.proofs.Common.{◌≡◌, ap, arith, drop}
use Rattle.std.proofs.lemmas.List.{drop_all}
use Rattle.link_program.specs.link_rules.Candidates.{total_len}
use Rattle.link_inputs.proofs.limits.total_len.Goals as goal

pub returns : goal.returns
returns c =
    let files = c.args.files.now in
    let none : total_len (drop c.loop-file.file-index files) ≡ 0 = ap total_len (drop_all c.loop-file.file-index files (omega
    (arith, c.loop-file-test.false, c.loop-file.auto.file-index-end))) in
    omega (arith, c.loop-file.invariant.0, c.loop-file.invariant.1, none)
