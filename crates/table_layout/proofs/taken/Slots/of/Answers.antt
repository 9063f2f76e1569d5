use Rattle.std.proofs.Common.{refl, sym, subst, ap, ◌∙◌}
use Rattle.table_layout.specs.Slots.{Rises}
use Rattle.table_layout.proofs.Places.{found_at}
use Rattle.table_layout.proofs.taken.Slots.of.Goals as goal

pub returns-in-Ok : goal.returns-in-Ok
returns-in-Ok c =
    let rises = subst Rises (ap (λ slots. slots.functions) c.self.view_is ∙ sym c.functions.ensures) c.self.invariant.0 in
    let found = found_at c.functions.result.now c.args.function rises c.binary_search.result c.binary_search.ensures.position in
    let place = rw (c.functions.ensures, c.in-Ok.is) at found in
    rw (ap (λ slots. slots.first) c.self.view_is, place) refl

pub returns-in-Err : goal.returns-in-Err
returns-in-Err c =
    let rises = subst Rises (ap (λ slots. slots.functions) c.self.view_is ∙ sym c.functions.ensures) c.self.invariant.0 in
    let found = found_at c.functions.result.now c.args.function rises c.binary_search.result c.binary_search.ensures.position in
    let place = rw (c.functions.ensures, c.in-Err.is) at found in
    rw place refl
