use Rattle.std.proofs.Common.{◌≡◌, ◌<◌, ◌≤◌, ◌-◌, ℕ, List, length, map, slice_index_or, sym, ap, ◌∙◌, subst, arith, rules}
use Rattle.image_emit.specs.declared.tree.Source.{Source}
use Rattle.image_emit.specs.declared.tree.PlacedSource.{PlacedSource}
use Rattle.image_emit.specs.Bytes.{sized, block_of}
use Rattle.image_emit.specs.Parts.{block_piece}
use Rattle.image_emit.specs.Put.{IsPut, HasRoom}
use Rattle.image_emit.proofs.Pick.{body_at, block_at}
use Rattle.image_emit.proofs.sources.put_piece.Goals as goal

pub put_sized-requires : goal.put_sized-requires
put_sized-requires c =
    let body : Source = c.index-bodies-job.result in
    let same : c.as_slice-bodies.result.now ≡ c.args.image.now.bodies = c.as_slice-bodies.ensures in
    let is : body ≡ slice_index_or c.args.image.now.bodies c.args.job body = c.index-bodies-job.is ∙ ap (λ (ss : List Source). slice_index_or ss c.args.job body) same in
    let inside : c.args.job < length c.args.image.now.bodies = search rules in
    let whole = body_at c.args.files.now c.args.image.now c.args.job body inside is ∙ ap sized (sym c.bytes_of_source.ensures) in
    subst (HasRoom c.args.out.now c.args.at) whole c.requires.room

pub returns-then-job-bodies : goal.returns-then-job-bodies
returns-then-job-bodies c =
    let body : Source = c.index-bodies-job.result in
    let same : c.as_slice-bodies.result.now ≡ c.args.image.now.bodies = c.as_slice-bodies.ensures in
    let is : body ≡ slice_index_or c.args.image.now.bodies c.args.job body = c.index-bodies-job.is ∙ ap (λ (ss : List Source). slice_index_or ss c.args.job body) same in
    let inside : c.args.job < length c.args.image.now.bodies = search rules in
    let whole = body_at c.args.files.now c.args.image.now c.args.job body inside is ∙ ap sized (sym c.bytes_of_source.ensures) in
    subst (λ (zs : List ℕ). IsPut c.args.out.now c.args.at zs c.put_sized.result c.put_sized.new.out) (sym whole) c.put_sized.ensures

pub put_block-requires-clause-room : goal.put_block-requires-clause-room
put_block-requires-clause-room c =
    let files = c.args.files.now in
    let image = c.args.image.now in
    let bodies = c.as_slice-bodies.ensures in
    let blocks = c.as_slice-blocks.ensures in
    let from : length image.bodies ≤ c.args.job = search rules in
    let job = c.requires.job in
    let inside : c.args.job - length image.bodies < length image.blocks = omega (arith, job, from) in
    let whole = block_at files image c.args.job from inside
    ∙ ap (λ (ps : List PlacedSource). block_piece image.data_offset (map (block_of files) ps) (c.args.job - length image.bodies)) (sym blocks)
    ∙ ap (λ (ss : List Source). block_piece image.data_offset (map (block_of files) c.as_slice-blocks.result.now) (c.args.job - length ss)) (sym bodies) in
    subst (HasRoom c.args.out.now c.args.at) whole c.requires.room

pub returns : goal.returns
returns c =
    let files = c.args.files.now in
    let image = c.args.image.now in
    let bodies = c.as_slice-bodies.ensures in
    let blocks = c.as_slice-blocks.ensures in
    let from : length image.bodies ≤ c.args.job = search rules in
    let job = c.requires.job in
    let inside : c.args.job - length image.bodies < length image.blocks = omega (arith, job, from) in
    let whole = block_at files image c.args.job from inside
    ∙ ap (λ (ps : List PlacedSource). block_piece image.data_offset (map (block_of files) ps) (c.args.job - length image.bodies)) (sym blocks)
    ∙ ap (λ (ss : List Source). block_piece image.data_offset (map (block_of files) c.as_slice-blocks.result.now) (c.args.job - length ss)) (sym bodies) in
    subst (λ (zs : List ℕ). IsPut c.args.out.now c.args.at zs c.put_block.result c.put_block.new.out) (sym whole) c.put_block.ensures
