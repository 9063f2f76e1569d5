use Rattle.std.proofs.Common.{length, sym, ◌∙◌}
use Rattle.std.proofs.lemmas.Result.{err_from_is_err_and}
use Rattle.reloc_section.specs.RelocLaws.{relocs_found, relocs_again}
use Rattle.reloc_section.proofs.Items.{fault_told, memory_alone}
use Rattle.reloc_section.proofs.section.read.Goals as goal

pub returns-in_err-relocs_at-clause-only : goal.returns-in_err-relocs_at-clause-only
returns-in_err-relocs_at-clause-only c = λ s spelled.
    let p = err_from_is_err_and c.from_residual.result c.from_residual.ensures.1 in
    rw (p.1, p.2) (memory_alone c.in_err-relocs_at.field-0.0 (length c.args.payload.now) c.args.payload.now c.in_err-relocs_at.ensures s spelled)

pub returns-in_err-relocs_at-clause-exact : goal.returns-in_err-relocs_at-clause-exact
returns-in_err-relocs_at-clause-exact c =
    let p = err_from_is_err_and c.from_residual.result c.from_residual.ensures.1 in
    rw (p.1, p.2) (fault_told c.in_err-relocs_at.field-0.0 (length c.args.payload.now) c.args.payload.now c.in_err-relocs_at.ensures)

pub returns-clause-found : goal.returns-clause-found
returns-clause-found c = relocs_found (length c.args.payload.now) c.args.payload.now c.in_ok-relocs_at.field-0 c.in_ok-relocs_at.ensures

pub returns-clause-only : goal.returns-clause-only
returns-clause-only c = λ s spelled. sym (relocs_again (length c.args.payload.now) c.args.payload.now s spelled) ∙ c.in_ok-relocs_at.ensures
