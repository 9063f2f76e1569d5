use Rattle.std.proofs.Common.{◌≡◌, length, [], ◌∷◌, false, Ok, sym}
use Rattle.std.proofs.lemmas.Result.{err_from_is_err_and}
use Rattle.body_windows.specs.Merging.{walked}
use Rattle.body_windows.proofs.Merge.{start}
use Rattle.body_windows.proofs.Walk.{scan_ok, scan_locals_fault, code_fails, locals_within, scan_stands}
use Rattle.body_windows.proofs.scanning.scan.Goals as goal

pub returns-in_err-code-clause-exact : goal.returns-in_err-code-clause-exact
returns-in_err-code-clause-exact c =
    let p = err_from_is_err_and c.from_residual.result c.from_residual.ensures.1 in
    rw (p.1, p.2) (scan_locals_fault c.args.base c.args.relocs.now c.args.bytes.now c.in_err-code.field-0.0 c.in_err-code.ensures)

pub scan_code-requires-clause-within : goal.scan_code-requires-clause-within
scan_code-requires-clause-within c = locals_within c.args.bytes.now c.in_ok-code.code.now c.in_ok-code.ensures

pub returns-in_err-scan_code-clause-exact : goal.returns-in_err-scan_code-clause-exact
returns-in_err-scan_code-clause-exact c =
    let p = err_from_is_err_and c.from_residual-in_err-scan_code.result c.from_residual-in_err-scan_code.ensures.1 in
    rw (p.1, p.2) (code_fails c.in_err-scan_code.field-0.0 c.args.base c.args.relocs.now c.args.bytes.now c.in_ok-code.code.now c.in_ok-code.ensures (rw (sym c.new-merger.ensures, sym c.in_ok-reserve.ensures) c.in_err-scan_code.ensures))

pub returns-clause-exact : goal.returns-clause-exact
returns-clause-exact c =
    let walk : walked (start c.args.base c.args.relocs.now) (length c.args.bytes.now) (false ∷ []) c.in_ok-code.code.now ≡ Ok c.scan_code.new.merger = rw (sym c.new-merger.ensures, sym c.in_ok-reserve.ensures) c.in_ok-scan_code.ensures in
    scan_ok c.args.base c.args.relocs.now c.args.bytes.now c.in_ok-code.code.now c.scan_code.new.merger c.least_overlap.result c.finish.result c.in_ok-code.ensures walk c.least_overlap.ensures c.finish.ensures

pub returns-clause-within : goal.returns-clause-within
returns-clause-within c =
    let walk : walked (start c.args.base c.args.relocs.now) (length c.args.bytes.now) (false ∷ []) c.in_ok-code.code.now ≡ Ok c.scan_code.new.merger = rw (sym c.new-merger.ensures, sym c.in_ok-reserve.ensures) c.in_ok-scan_code.ensures in
    let said = scan_ok c.args.base c.args.relocs.now c.args.bytes.now c.in_ok-code.code.now c.scan_code.new.merger c.least_overlap.result c.finish.result c.in_ok-code.ensures walk c.least_overlap.ensures c.finish.ensures in
    scan_stands c.args.base c.args.relocs.now c.args.bytes.now c.finish.result said
