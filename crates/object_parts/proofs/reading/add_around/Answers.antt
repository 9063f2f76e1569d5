use Rattle.std.proofs.Common.{◌≡◌, ◌+◌, ◌-◌, length, take, drop, length-drop, arith}
use Rattle.std.proofs.lemmas.List.{take_all}
use Rattle.std.proofs.lemmas.Result.{err_from_is_err_and}
use Rattle.object_parts.proofs.ReadEarly.{stops_before, goes_behind}
use Rattle.object_parts.proofs.reading.add_around.Goals as goal

pub returns-in_err-add_sections : goal.returns-in_err-add_sections
returns-in_err-add_sections c =
    let p = err_from_is_err_and c.from_residual.result c.from_residual.ensures.1 in
    rw (p.1, p.2) (stops_before c.args.all.now c.args.bytes.now c.args.early c.requires.stands c.requires.no_code (Unit {0}) c.in_err-add_sections.field-0.0 c.args.parts.now _ c.add_sections.new.parts
    (rw c.as_slice-code.ensures at c.in_err-add_sections.ensures))

pub returns : goal.returns
returns c =
    let next = c.args.early.place + 1 in
    let behind : take (length c.args.all.now - next) (drop next c.args.all.now) ≡ drop next c.args.all.now = take_all _ _ (omega (arith, length-drop next c.args.all.now)) in
    goes_behind c.args.all.now c.args.bytes.now c.args.early c.requires.stands c.requires.no_code _ c.add_sections-2.result c.args.parts.now c.add_sections.new.parts c.add_sections-2.new.parts
    (rw c.as_slice-code.ensures at c.in_ok-add_sections.ensures) (rw (c.in_ok-with_relocs.ensures, behind) at c.add_sections-2.ensures)
