use Rattle.std.proofs.Common.{◌∙◌, subst, sym, ap}
use Rattle.std.proofs.lemmas.List.Elements.{All-get_or}
use Rattle.std.proofs.lemmas.Result.{err_from_is_err_and}
use Rattle.link_program.specs.round_rules.declared.given.LibraryFile.{LibraryFile}
use Rattle.link_program.specs.round_rules.Inputs.{IsRead}
use Rattle.link_program.specs.Answers.{Stops}
use Rattle.link_inputs.specs.Reading.{fault_of, early_members, whole_before}
use Rattle.link_inputs.proofs.Members.{library_goes_on, library_fails}
use Rattle.link_inputs.proofs.whole.read_whole.Goals as goal

pub read_early-requires-clause-read : goal.read_early-requires-clause-read
read_early-requires-clause-read c =
    subst (IsRead c.args.files.now) (sym c.index-libraries-at.is)
    (All-get_or (IsRead c.args.files.now) c.args.libraries.now c.loop-at.at c.index-libraries-at.result c.loop-at-test.true c.requires.read)

pub returns-in_err-read_early : goal.returns-in_err-read_early
returns-in_err-read_early c =
    let files = c.args.files.now in
    let libraries = c.args.libraries.now in
    let p = err_from_is_err_and c.from_residual.result c.from_residual.ensures.1 in
    let f = library_fails files c.args.input libraries c.loop-at.at c.index-libraries-at.result c.loop-at-test.true (fault_of (whole_before files c.args.input libraries))
    c.loop-at.invariant c.in_err-read_early.field-0.0
    (subst (λ (l : LibraryFile). Stops c.in_err-read_early.field-0.0 (fault_of (early_members files c.args.input l))) c.index-libraries-at.is c.in_err-read_early.ensures) in
    rw (p.1, p.2) f

pub loop-at-preserved : goal.loop-at-preserved
loop-at-preserved c =
    let files = c.args.files.now in
    let libraries = c.args.libraries.now in
    library_goes_on files c.args.input libraries c.loop-at.at c.index-libraries-at.result c.loop-at-test.true (fault_of (whole_before files c.args.input libraries))
    c.loop-at.invariant (sym (ap (λ (l : LibraryFile). fault_of (early_members files c.args.input l)) c.index-libraries-at.is) ∙ c.in_ok-read_early.ensures)
