use Rattle.std.proofs.Common.{rules}
use Rattle.std.specs.Prelude.{flat_map}
use Rattle.debug_rules.specs.Joined.{section_of}
use Rattle.debug_out.specs.Pieces.{pieces_bytes}
use Rattle.debug_out.proofs.Grouped.{joined_step, joined_done}
use Rattle.debug_out.proofs.pieces.pieces_of.Goals as goal

pub loop-n-preserved : goal.loop-n-preserved
loop-n-preserved c = λ ds has stand.
    let so_far = c.loop-n.invariant ds has stand in
    let rows = c.args.groups.now.rows.items in
    let names = c.args.names.now.names in (
      λ p. joined_step (section_of ds p) names c.loop-n.n (pieces_bytes rows p c.loop-n.out) (pieces_bytes rows p c.push_section.new.out) (flat_map (section_of ds p) names)
          (search rules) (c.in_ok-push_section.ensures.bytes ds p has stand) (so_far.0 p),
      c.in_ok-push_section.ensures.fit ds has stand so_far.1,
    )

pub returns-clause-bytes : goal.returns-clause-bytes
returns-clause-bytes c = λ ds p has stand.
    let so_far = c.loop-n.invariant ds has stand in
    joined_done (section_of ds p) c.args.names.now.names c.loop-n.n (pieces_bytes c.args.groups.now.rows.items p c.loop-n.out) (flat_map (section_of ds p) c.args.names.now.names) (search rules) (so_far.0 p)

pub returns-clause-fit : goal.returns-clause-fit
returns-clause-fit c = λ ds has stand. (c.loop-n.invariant ds has stand).1
