use Rattle.std.proofs.Common.{List, length, map, sym, ap, subst, ◌∙◌}
use Rattle.reloc_section.specs.declared.entry.Reloc.{Reloc}
use Rattle.reloc_apply.specs.Windows.{filled}
use Rattle.debug_rules.specs.Joined.{patch_for, place_at}
use Rattle.debug_out.specs.Inputs.{places_of}
use Rattle.debug_out.specs.Refs.{debug_seen}
use Rattle.debug_out.specs.Windows.{InBounds}
use Rattle.debug_out.proofs.windows.fill.Goals as goal

pub fill_entries-requires : goal.fill_entries-requires
fill_entries-requires c = subst (InBounds (length c.args.out.now)) (sym c.front_of-front.ensures) c.requires

pub returns : goal.returns
returns c =
    let f = patch_for (place_at c.args.rows.now c.args.d.now.object) (places_of c.args.places.now) (debug_seen c.args.d.now) in
    c.fill_entries.ensures ∙ ap (λ (rs : List Reloc). filled (map f rs) c.args.out.now) c.front_of-front.ensures
