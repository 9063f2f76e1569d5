use Rattle.std.proofs.Common.{◌≡◌, ◌^◌, true, rules}
use Rattle.std.specs.Prelude.{nat_lt}
use Rattle.std.specs.List.{list_all}
use Rattle.link_layout.proofs.Steps.{all_small}
use Rattle.link_layout.proofs.usual.usual_targets.Goals as goal

pub returns : goal.returns
returns g c =
    let targets = c.in_ok-targets.targets.items in
    let same : c.deref.result.now ≡ targets = search rules in
    let small : list_all (λ t. nat_lt t (2 ^ 33)) targets ≡ true = search rules in
    record { are = c.in_ok-targets.ensures; small = all_small targets small }
