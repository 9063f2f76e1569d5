use Rattle.std.proofs.Common.{rules, ◌≡◌, List, length, refl, ap, sym, subst, ◌∙◌}
use Rattle.reloc_apply.specs.declared.window.Patch.{Patch}
use Rattle.reloc_apply.specs.Apart.{AreApart}
use Rattle.reloc_apply.specs.Windows.{filled}
use Rattle.reloc_apply.proofs.Parts.{all_filled}
use Rattle.reloc_apply.proofs.filling.fill.Goals as goal

pub returns : goal.returns
returns g c =
    let old = c.args.out.now in
    let new = c.each_slice.new.items in
    let is = c.as_slice-patches.ensures in
    let apart = subst (AreApart 0 (length old)) (sym is) c.requires in
    let same : length new ≡ length old = search rules in
    all_filled c.as_slice-patches.result.now (length old) c.parts_of-parts.result c.parts_of-parts.ensures.range.0 apart old new refl same c.each_slice.ensures
    ∙ ap (λ (ps : List Patch). filled ps old) is
