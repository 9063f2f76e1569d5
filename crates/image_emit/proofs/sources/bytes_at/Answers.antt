use Rattle.std.proofs.Common.{◌≡◌, ◌<◌, ◌≤◌, ◌-◌, List, length, slice_index_or, sym, ap, ◌∙◌, arith, rules}
use Rattle.image_emit.specs.declared.tree.Source.{Source}
use Rattle.image_emit.specs.declared.tree.PlacedSource.{PlacedSource}
use Rattle.image_emit.specs.Bytes.{source_bytes}
use Rattle.image_emit.proofs.Pick.{body_bytes, block_bytes}
use Rattle.image_emit.proofs.sources.bytes_at.Goals as goal

pub returns-then-job-bodies : goal.returns-then-job-bodies
returns-then-job-bodies c =
    let body : Source = c.index-bodies-job.result in
    let same : c.as_slice-bodies.result.now ≡ c.args.image.now.bodies = c.as_slice-bodies.ensures in
    let is : body ≡ slice_index_or c.args.image.now.bodies c.args.job body = c.index-bodies-job.is ∙ ap (λ (ss : List Source). slice_index_or ss c.args.job body) same in
    let inside : c.args.job < length c.args.image.now.bodies = search rules in
    c.bytes_of_source.ensures ∙ sym (body_bytes c.args.files.now c.args.image.now c.args.job body inside is)

pub returns : goal.returns
returns c =
    let image = c.args.image.now in
    let bodies = c.as_slice-bodies.ensures in
    let blocks = c.as_slice.ensures in
    let from : length image.bodies ≤ c.args.job = search rules in
    let job = c.requires in
    let inside : c.args.job - length image.bodies < length image.blocks = omega (arith, job, from) in
    let here : PlacedSource = c.index-as_slice-job.result in
    let is : here ≡ slice_index_or image.blocks (c.args.job - length image.bodies) here =
    c.index-as_slice-job.is
    ∙ ap (λ (ps : List PlacedSource). slice_index_or ps (c.args.job - length c.as_slice-bodies.result.now) here) blocks
    ∙ ap (λ (ss : List Source). slice_index_or image.blocks (c.args.job - length ss) here) bodies in
    c.bytes_of_source-2.ensures ∙ ap (λ (p : PlacedSource). source_bytes c.args.files.now p.source) (sym c.index-as_slice-job.is) ∙ sym (block_bytes c.args.files.now image c.args.job here from inside is)
