use Rattle.std.proofs.Common.{ℕ, rules, nat_lt, slice_index_or, sym, of_calls}
use Rattle.std.proofs.lemmas.Fn.{always_returns_same}
use Rattle.std.specs.List.Sorted.{IsPartitionedBy}
use Rattle.image_emit.proofs.Cuts.{below_is, lower}
use Rattle.partial_bytes.proofs.division.below.Goals as goal

pub returns : goal.returns
returns c =
    let n : ℕ = c.args.n in
    let ps = c.args.starts.now in
    let p = λ (y : ℕ). nat_lt y n in
    let parts : IsPartitionedBy p ps = λ i j d le within holds. lower (slice_index_or ps i d) (slice_index_or ps j d) n (c.requires i j d le within) holds in
    let key = always_returns_same _ _ _ (λ a r f k. search (rules, of_calls)) in
    let point = c.partition_point.ensures.partitioned p key parts in
    sym (below_is n ps c.partition_point.result c.partition_point.ensures.bound point.0 point.1)
