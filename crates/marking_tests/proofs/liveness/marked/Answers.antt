use Rattle.std.proofs.Common.{rules, ◌≡◌, subst, ℕ, true}
use Rattle.live_mark.specs.Asks.{Below}
use Rattle.marking_tests.specs.Graphs.{all_below, rows_below}
use Rattle.marking_tests.proofs.Graphs.{below_from, all_below_from}
use Rattle.marking_tests.proofs.liveness.marked.Goals as goal

pub live-requires-clause-roots : goal.live-requires-clause-roots
live-requires-clause-roots g c κs within =
    let all : all_below c.len-count.result c.args.roots.now ≡ true = search rules in
    subst (λ n. Below n c.args.roots.now) c.len-count.ensures (below_from c.len-count.result c.args.roots.now all)

pub live-requires-clause-targets : goal.live-requires-clause-targets
live-requires-clause-targets g c κs within =
    let all : rows_below c.len-count.result c.args.graph.now.targets ≡ true = search rules in
    all_below_from c.args.graph.now.targets (subst (λ (n : ℕ). rows_below n c.args.graph.now.targets ≡ true) c.len-count.ensures all)
