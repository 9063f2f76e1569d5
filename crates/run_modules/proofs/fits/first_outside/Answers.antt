use Rattle.std.proofs.Common.{ap, ◌∙◌, ◌++◌}
use Rattle.run_rules.specs.Modules.{first, first_values, first_pages, imported_globals, imported_tables, imported_memories, least_of}
use Rattle.run_modules.proofs.Seen.{outside_is}
use Rattle.run_modules.proofs.fits.first_outside.Goals as goal

pub returns : goal.returns
returns c =
    let s = c.args.session.now in
    let m = c.args.m.now in
    outside_is s m c.as_slice-6.result.now c.first_slots-slots.result c.first_pages-pages.result c.as_slice-elements.result.now c.as_slice-segments.result.now c.outside.result
    (c.as_slice-6.ensures ∙ c.in_ok-firsts.ensures ∙ ap (λ is. first_values s (imported_globals is)) c.as_slice.ensures)
    (c.first_slots-slots.ensures ∙ ap (λ is. least_of (first (imported_tables is ++ c.as_slice-3.result.now))) c.as_slice-2.ensures ∙ ap (λ ts. least_of (first (imported_tables m.imports ++ ts))) c.as_slice-3.ensures)
    (c.first_pages-pages.ensures ∙ ap (λ is. first_pages s (imported_memories is) c.as_slice-5.result.now) c.as_slice-4.ensures ∙ ap (first_pages s (imported_memories m.imports)) c.as_slice-5.ensures)
    c.as_slice-elements.ensures c.as_slice-segments.ensures c.outside.ensures
