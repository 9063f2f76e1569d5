use Rattle.std.proofs.Common.{arith, subst, sym, ◌<◌, ◌^◌, List}
use Rattle.link_inputs.specs.declared.opening.OpenFile.{OpenFile}
use Rattle.link_inputs.specs.Opened.{input_count}
use Rattle.link_inputs.proofs.Files.{opened_are, few_inputs}
use Rattle.link_inputs.proofs.opening.open_files.Goals as goal

pub count_inputs-count-requires : goal.count_inputs-count-requires
count_inputs-count-requires c =
    let files = c.args.files.now in
    let few = few_inputs files c.in_ok-opened.opened (opened_are 0 files c.in_ok-opened.opened c.in_ok-opened.ensures) in
    subst (λ (os : List OpenFile). input_count os < 2 ^ 64) (sym c.as_slice.ensures)
    (omega (arith, few, c.requires, c.total_len-len.ensures, c.if-len-ge-TOO_MANY_BYTES.false))
