use Rattle.std.proofs.Common.{◌≡◌, refl, ap, sym, subst, ◌∙◌}
use Rattle.std.specs.Prelude.{map, slice_get}
use Rattle.link_program.specs.mark_bits.Chunks.{Differ}
use Rattle.link_program.specs.made_symbols.Made.{made}
use Rattle.link_program.specs.declared.part.Part.{Part}
use Rattle.program_tables.specs.Rows.{made_rows, all_rows}
use Rattle.program_tables.specs.Gains.{AreGained}
use Rattle.program_tables.proofs.Joined.{all_joined}
use Rattle.program_tables.proofs.Differing.{parts_differ, chunks_are}
use Rattle.program_tables.proofs.parts.all_parts.Goals as goal

pub chunks_of-requires : goal.chunks_of-requires
chunks_of-requires g c =
    let l = c.args.lookups in
    let r = c.in_ok-ranges.ranges in
    let gained = subst (λ calls. AreGained (made_rows calls 0 (made c.args.mode)) c.in_ok-made.made) (c.as_slice.ensures ∙ c.in_ok-calls.ensures) c.in_ok-made.ensures in
    let all = all_joined c.args.mode l r.cuts r.count c.in_ok-made.made c.in_ok-pieces.pieces.items c.in_ok-ranges.ensures.ranges.rising c.in_ok-ranges.ensures.count gained c.in_ok-pieces.ensures
    (λ k p at. c.if-not-are_whole.ensures refl k p (ap (λ ps. slice_get ps k) c.deref.ensures.value ∙ at)) in
    parts_differ c.args.mode l c.as_slice-2.result.now c.requires.inputs (c.as_slice-2.ensures ∙ c.in_ok-parts.ensures.parts ∙ all.0)

pub returns : goal.returns
returns g c =
    let l = c.args.lookups in
    let r = c.in_ok-ranges.ranges in
    let gained = subst (λ calls. AreGained (made_rows calls 0 (made c.args.mode)) c.in_ok-made.made) (c.as_slice.ensures ∙ c.in_ok-calls.ensures) c.in_ok-made.ensures in
    let all = all_joined c.args.mode l r.cuts r.count c.in_ok-made.made c.in_ok-pieces.pieces.items c.in_ok-ranges.ensures.ranges.rising c.in_ok-ranges.ensures.count gained c.in_ok-pieces.ensures
    (λ k p at. c.if-not-are_whole.ensures refl k p (ap (λ ps. slice_get ps k) c.deref.ensures.value ∙ at)) in
    let parts = c.as_slice-2.ensures ∙ c.in_ok-parts.ensures.parts ∙ all.0 in
    record {
      parts = record {
        parts = c.shrunk.ensures ∙ c.in_ok-parts.ensures.parts ∙ all.0;
        named = c.in_ok-parts.ensures.named ∙ all.1;
        chunks = c.in_ok-chunks.ensures.chunks ∙ chunks_are (all_rows c.args.mode l) c.as_slice-2.result.now parts;
      };
      few = c.in_ok-chunks.ensures.few;
      differ = subst Differ (sym c.in_ok-chunks.ensures.chunks) (parts_differ c.args.mode l c.as_slice-2.result.now c.requires.inputs parts);
    }
