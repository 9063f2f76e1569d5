use Rattle.std.proofs.Common.{map, ap, ◌∙◌}
use Rattle.std.specs.Prelude.{slice_get}
use Rattle.relink_out.proofs.rows.part_rows.Goals as goal

pub returns : goal.returns
returns c = λ p program stand strict files found types symbols.
    let functions = ap (map (slice_get p.parts)) c.functions-functions.ensures ∙ found.kept.functions in
    let blocks = ap (map (slice_get p.parts)) c.segments-blocks.ensures ∙ found.kept.segments in
    let globals = ap (map (slice_get p.parts)) c.globals.ensures ∙ found.kept.globals in
    let bodies = c.in_ok-bodies.ensures p c.args.found.now.standing 0 program stand strict found.standing types symbols files functions in
    let segments = c.in_ok-segments.ensures p c.args.found.now.standing 1 program stand strict found.standing types symbols files blocks in
    record {
      globals = c.in_ok-globals.ensures p program strict files globals;
      bodies = bodies.0;
      segments = segments.0;
      bodies_fit = bodies.1;
      segments_fit = segments.1;
    }
