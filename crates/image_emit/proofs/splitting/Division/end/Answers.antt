use Rattle.std.proofs.Common.{◌+◌, ℕ, List, length, ap, arith}
use Rattle.image_emit.specs.Bytes.{tree_of}
use Rattle.image_emit.proofs.Cuts.{count, ends_at, upto_most}
use Rattle.image_emit.proofs.splitting.Division.end.Goals as goal

pub bytes_at-requires : goal.bytes_at-requires
bytes_at-requires c =
    let d = c.args.self.now in
    let long = ap (λ (ps : List ℕ). length ps) d.placed in
    let few = count d.files.now d.image.now in
    let below = c.requires in
    omega (arith, long, few, below)

pub overflow_add-result : goal.overflow_add-result
overflow_add-result c =
    let d = c.args.self.now in
    let e = ends_at d.files.now d.image.now d.places.now d.placed c.args.piece c.bytes_at.result.now c.requires c.bytes_at.ensures in
    let m = upto_most (tree_of d.files.now d.image.now) (c.args.piece + 1) in
    let long = d.long in
    let short = d.short.0 in
    omega (arith, e, m, long, short)

pub returns : goal.returns
returns c =
    let d = c.args.self.now in
    ends_at d.files.now d.image.now d.places.now d.placed c.args.piece c.bytes_at.result.now c.requires c.bytes_at.ensures
