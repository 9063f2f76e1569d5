use Rattle.std.proofs.Common.{◌≡◌, ◌<◌, ◌+◌, ◌^◌, ℕ, length, drop, sym, subst, arith, rules, ◌∙◌}
use Rattle.image_emit.specs.Bytes.{tree_of}
use Rattle.image_emit.specs.Parts.{upto, part_start}
use Rattle.image_emit.specs.PartLaws.{part_first_rises}
use Rattle.image_emit.specs.Put.{IsPut}
use Rattle.image_emit.proofs.Cuts.{few_parts, part_most, start_most, pieces_count, sources_count, count, piece_room, piece_more, part_done}
use Rattle.image_emit.proofs.splitting.EmitterSlicesU8.work.Goals as goal

pub loop-job-init : goal.loop-job-init
loop-job-init g c =
    let d = c.args.self.now.division in
    let t = tree_of d.files.now d.image.now in
    let few = few_parts d.files.now d.image.now d.places.now d.placed d.width d.parts.1 in
    let from = c.first-from.ensures in
    let to = c.first-to.ensures in
    let rises = part_first_rises t d.width d.parts.0 few c.args.part (c.args.part + 1) (omega arith) in (
      omega arith,
      omega (arith, from, to, rises),
      subst (λ (n : ℕ). IsPut c.args.items.now 0 (drop (part_start t d.width c.args.part) (upto t n)) c.open-at.result c.open-at.new.items) (sym from) c.open-at.ensures,
    )

pub put_piece-at-requires-clause-job : goal.put_piece-at-requires-clause-job
put_piece-at-requires-clause-job g c =
    let d = c.args.self.now.division in
    let t = tree_of d.files.now d.image.now in
    let few = few_parts d.files.now d.image.now d.places.now d.placed d.width d.parts.1 in
    let most = part_most t d.width d.parts.0 few (c.args.part + 1) in
    let to = c.first-to.ensures in
    let below = c.loop-job-test.true in
    omega (arith, most, to, below, pieces_count t, sources_count t, count d.files.now d.image.now)

pub put_piece-at-requires-clause-room : goal.put_piece-at-requires-clause-room
put_piece-at-requires-clause-room g c =
    let d = c.args.self.now.division in
    let t = tree_of d.files.now d.image.now in
    let few = few_parts d.files.now d.image.now d.places.now d.placed d.width d.parts.1 in
    let is_from = c.first-from.ensures in
    let is_to = c.first-to.ensures in
    let below = c.loop-job-test.true in
    let now = c.loop-job.invariant in
    let long = c.requires.1 in
    let most = start_most t d.width d.parts.0 few (c.args.part + 1) in
    let whole = d.long in
    let small = d.short.0 in
    let short : length c.args.items.now < 2 ^ 31 = omega (arith, long, most, whole, small) in
    piece_room t d.width d.parts.0 few c.args.part c.loop-job.job c.loop-job.at c.args.items.now c.loop-job.items
    (omega (arith, is_from, now.0)) (omega (arith, is_to, below)) long short now.2

pub loop-job-preserved : goal.loop-job-preserved
loop-job-preserved g c =
    let d = c.args.self.now.division in
    let t = tree_of d.files.now d.image.now in
    let few = few_parts d.files.now d.image.now d.places.now d.placed d.width d.parts.1 in
    let is_from = c.first-from.ensures in
    let is_to = c.first-to.ensures in
    let below = c.loop-job-test.true in
    let now = c.loop-job.invariant in (
      omega (arith, now.0),
      omega (arith, below),
      piece_more t d.width d.parts.0 few c.args.part c.loop-job.job c.loop-job.at c.put_piece-at.result c.args.items.now c.loop-job.items c.put_piece-at.new.out
          (omega (arith, is_from, now.0)) (omega (arith, is_to, below)) now.2 c.put_piece-at.ensures,
    )

pub returns : goal.returns
returns g c =
    let d = c.args.self.now.division in
    let t = tree_of d.files.now d.image.now in
    let few = few_parts d.files.now d.image.now d.places.now d.placed d.width d.parts.1 in
    let is_to = c.first-to.ensures in
    let now = c.loop-job.invariant in
    let ended = c.loop-job-test.false in
    let last : c.loop-job.job ≡ c.first-to.result = search rules in
    part_done t d.width d.parts.0 few c.args.part c.loop-job.job c.loop-job.at c.args.items.now c.loop-job.items (last ∙ is_to) c.requires.1 now.2
