use Rattle.std.proofs.Common.{◌≡◌, length, rules, ◌∙◌}
use Rattle.image_emit.specs.Bytes.{tree_of}
use Rattle.image_emit.proofs.Cuts.{few_parts}
use Rattle.image_emit.proofs.Emitted.{sums, long, placed, short, room, all_written}
use Rattle.image_emit.proofs.emission.emit.Goals as goal

pub invariant_of-division : goal.invariant_of-division
invariant_of-division g c =
    let files = c.args.files.now in
    let image = c.args.image.now in
    let m = c.args.m.now in
    let some = c.parts_of-width.ensures in
    record {
      placed = c.as_slice-places.ensures ∙ placed files image c.requires.files m c.requires.measured;
      long = long files image c.requires.files m c.requires.measured;
      sums = sums files image c.requires.files;
      short = short files image c.requires.files m c.requires.measured;
      parts = (some.0, some.2);
    }

pub each_slice-requires-clause-items : goal.each_slice-requires-clause-items
each_slice-requires-clause-items g c κs within =
    let files = c.args.files.now in
    let image = c.args.image.now in
    let m = c.args.m.now in
    let some = c.parts_of-width.ensures in
    let is = c.as_slice-places.ensures ∙ placed files image c.requires.files m c.requires.measured in
    let few = few_parts files image c.as_slice-places.result.now is c.parts_of-width.result some.2 in
    room (tree_of files image) c.parts_of-width.result some.0 few c.args.out.now (c.requires.room ∙ long files image c.requires.files m c.requires.measured)

pub returns : goal.returns
returns g c =
    let files = c.args.files.now in
    let image = c.args.image.now in
    let m = c.args.m.now in
    let some = c.parts_of-width.ensures in
    let is = c.as_slice-places.ensures ∙ placed files image c.requires.files m c.requires.measured in
    let few = few_parts files image c.as_slice-places.result.now is c.parts_of-width.result some.2 in
    let same : length c.each_slice.new.items ≡ length c.args.out.now = search rules in
    all_written (tree_of files image) c.parts_of-width.result some.0 few c.args.out.now c.each_slice.new.items
    (c.requires.room ∙ long files image c.requires.files m c.requires.measured) same c.each_slice.ensures
