use Rattle.std.proofs.Common.{map, ap, sym, ◌∙◌, None}
use Rattle.std.proofs.lemmas.List.{length-map}
use Rattle.output_check.specs.Told.{merged}
use Rattle.output_check.proofs.Runs.{found_by_runs}
use Rattle.output_check.proofs.sharing.first_untyped_by.Goals as goal

pub returns : goal.returns
returns g c =
    let r = c.in-Ok.ranges in
    let are = c.in-Ok.ensures.ranges in
    let parts = c.args.parts.now in
    found_by_runs c.args.context.now c.args.functions.now (map (λ p. p.now) parts) r.cuts r.count are.rising (c.in-Ok.ensures.count ∙ sym (length-map parts (λ p. p.now))) c.in-Ok-each_told.slots.items
    c.in-Ok-each_told.ensures c.merged.result (c.merged.ensures ∙ ap (merged None) c.as_slice.ensures.value)
