use Rattle.std.proofs.Common.{◌∙◌, []}
use Rattle.std.proofs.lemmas.List.{get_or_read}
use Rattle.std.proofs.lemmas.Result.{err_from_is_err_and}
use Rattle.link_inputs.specs.Reading.{fault_of, file_at}
use Rattle.link_program.specs.round_rules.Inputs.{members_of}
use Rattle.link_inputs.proofs.Members.{file_there, member_lies, goes_on, fails}
use Rattle.link_inputs.proofs.whole.read_members.Goals as goal

pub read_part-requires : goal.read_part-requires
read_part-requires c =
    let files = c.args.files.now in
    let l = c.args.library.now in
    let is = c.as_slice-bytes.ensures ∙ get_or_read files l.file c.index-files-library.result (file_there files l c.requires.read) c.index-files-library.is [] in
    member_lies files l c.as_slice-bytes.result.now c.loop-member.member c.member-span.result c.requires.read is c.member-span.ensures

pub returns-in_err-read_part : goal.returns-in_err-read_part
returns-in_err-read_part c =
    let files = c.args.files.now in
    let l = c.args.library.now in
    let p = err_from_is_err_and c.from_residual.result c.from_residual.ensures.1 in
    let is = c.as_slice-bytes.ensures ∙ get_or_read files l.file c.index-files-library.result (file_there files l c.requires.read) c.index-files-library.is [] in
    let f = fails l (file_at files l.file) c.loop-member.member c.member-span.result c.member-span.ensures (fault_of (members_of files l)) c.loop-member.invariant
    c.in_err-read_part.field-0.0 (rw is at c.in_err-read_part.ensures) in
    rw (p.1, p.2) f

pub loop-member-preserved : goal.loop-member-preserved
loop-member-preserved c =
    let files = c.args.files.now in
    let l = c.args.library.now in
    let is = c.as_slice-bytes.ensures ∙ get_or_read files l.file c.index-files-library.result (file_there files l c.requires.read) c.index-files-library.is [] in
    goes_on l (file_at files l.file) c.loop-member.member c.member-span.result c.member-span.ensures (fault_of (members_of files l)) c.loop-member.invariant
    (rw is at c.in_ok-read_part.ensures)
