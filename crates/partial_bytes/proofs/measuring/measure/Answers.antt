use Rattle.partial_bytes.proofs.Fitting.{parts_judged}
use Rattle.partial_bytes.proofs.Bridge.{all_long}
use Rattle.partial_bytes.proofs.measuring.measure.Goals as goal

pub section_len-requires-clause-fits : goal.section_len-requires-clause-fits
section_len-requires-clause-fits g c = parts_judged c.args.tree.now.bodies.now c.requires.bodies

pub section_len-requires-2-clause-fits : goal.section_len-requires-2-clause-fits
section_len-requires-2-clause-fits g c = parts_judged c.args.tree.now.segments.now c.requires.segments

pub returns : goal.returns
returns g c = record {
  len = all_long c.args.tree.now c.requires c.in_ok-front.front c.in_ok-code.code c.in_ok-data.data c.in_ok-linking.linking c.in_ok-relocs.relocs _ _ _ _
      (c.in_ok-front.ensures _ c.front_size.ensures) (c.in_ok-code.ensures 10) (c.in_ok-data.ensures 11) (c.in_ok-linking.ensures _ c.linking_size.ensures) c.in_ok-relocs.ensures
      c.in_ok-sum.ensures c.in_ok-sum-2.ensures c.in_ok-sum-3.ensures c.in_ok-len.ensures;
  bodies = c.in_ok-bodies.ensures;
  segments = c.in_ok-segments.ensures;
  body_lens = c.in_ok-body_lens.ensures;
  segment_lens = c.in_ok-segment_lens.ensures;
}
