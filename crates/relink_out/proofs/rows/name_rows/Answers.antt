use Rattle.std.proofs.Common.{map, filter_map, refl, ap, ◌∙◌}
use Rattle.std.specs.Prelude.{slice_get}
use Rattle.partial_items.specs.partial_tree.Rows.{row_seen}
use Rattle.relink_out.specs.Held.{places_of}
use Rattle.relink_out.proofs.Trees.{all_found}
use Rattle.relink_out.proofs.rows.name_rows.Goals as goal

pub returns : goal.returns
returns c = λ p program strict found named held.
    let segments = ap (map (slice_get p.parts)) c.segments.ensures ∙ found.kept.segments in
    let rows =
    ap (λ os. filter_map (row_seen os) c.as_slice-rows.result.now) (c.requires.objects ∙ program.objects)
    ∙ ap (filter_map (row_seen p.objects)) c.as_slice-rows.ensures
    ∙ all_found (row_seen p.objects) c.args.named.now.symbols _ named.symbols in
    record {
      infos = c.in_ok-infos.ensures p program strict segments;
      symbols = c.in_ok-symbols.ensures ∙ rows;
      groups = c.in_ok-groups.ensures c.args.program p (places_of c.args.program c.args.found.now) program refl found.kept program.tables.chunks found.functions held.groups;
    }
