use Rattle.std.proofs.Common.{◌∙◌, ap, length}
use Rattle.wl_each.specs.Items.{items_from}
use Rattle.partial_bytes.specs.Measured.{froms_at, entry_lens, len_there}
use Rattle.partial_bytes.proofs.Lens.{lens_told}
use Rattle.partial_bytes.proofs.lengths.lens_of.Goals as goal

pub returns : goal.returns
returns g c =
    let ps = c.args.parts.now in
    let froms = c.as_slice.ensures ∙ (c.in_ok-froms.ensures ∙ ap (λ n. froms_at c.args.kind n ps) c.u32_size.ensures.size) in
    c.from_vec.ensures ∙ (c.in_ok-lens.ensures ∙ (ap (λ xs. items_from (len_there ps xs) 0 (length ps)) froms ∙ lens_told c.args.kind _ ps))
