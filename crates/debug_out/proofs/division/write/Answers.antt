use Rattle.std.proofs.Common.{◌≡◌, length, rules, ◌∙◌}
use Rattle.debug_out.specs.Inputs.{places_of}
use Rattle.debug_out.proofs.Parts.{room, all_written}
use Rattle.debug_out.proofs.Placed.{fit_all}
use Rattle.debug_out.proofs.division.write.Goals as goal

pub invariant_of-division : goal.invariant_of-division
invariant_of-division g c = record {
  placed = c.requires.placed;
  long = c.requires.long;
  fit = fit_all c.args.pieces.now c.requires.fit;
  some = c.parts_of-width.ensures.0;
}

pub each_slice-requires-clause-items : goal.each_slice-requires-clause-items
each_slice-requires-clause-items g c κs within =
    room c.args.pieces.now c.parts_of-width.result c.parts_of-width.ensures.0 c.args.out.now (c.requires.room ∙ c.requires.long)

pub returns : goal.returns
returns g c =
    let same : length c.each_slice.new.items ≡ length c.args.out.now = search rules in
    all_written c.args.pieces.now c.parts_of-width.result c.parts_of-width.ensures.0 c.args.rows.now (places_of c.args.places.now) c.args.out.now c.each_slice.new.items
    (c.requires.room ∙ c.requires.long) same c.each_slice.ensures
