use Rattle.std.proofs.Common.{◌≡◌, length, rules, ◌∙◌}
use Rattle.partial_bytes.proofs.Runs.{room, all_written}
use Rattle.partial_bytes.proofs.division.write.Goals as goal

pub invariant_of-division : goal.invariant_of-division
invariant_of-division g c = record {
  placed = c.requires.placed;
  long = c.requires.long;
  fit = c.requires.fit;
  short = c.requires.short;
  some = c.runs_of-width.ensures.0;
}

pub each_slice-requires-clause-items : goal.each_slice-requires-clause-items
each_slice-requires-clause-items g c κs within =
    room c.args.pieces.now c.runs_of-width.result c.runs_of-width.ensures.0 c.args.out.now (c.requires.room ∙ c.requires.long)

pub returns : goal.returns
returns g c =
    let same : length c.each_slice.new.items ≡ length c.args.out.now = search rules in
    all_written c.args.pieces.now c.runs_of-width.result c.runs_of-width.ensures.0 c.args.out.now c.each_slice.new.items
    (c.requires.room ∙ c.requires.long) same c.each_slice.ensures
