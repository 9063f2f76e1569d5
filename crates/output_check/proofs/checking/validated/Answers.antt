use Rattle.std.proofs.Common.{◌≡◌, ℕ, List, length, map, Option, Some, Ok, Bor, subst, rules, arith}
use Rattle.std.proofs.lemmas.List.{length-map}
use Rattle.output_check.specs.Told.{Finds}
use Rattle.output_check.proofs.Few.{few}
use Rattle.output_check.proofs.Judging.{below_all, one_untyped}
use Rattle.output_check.proofs.checking.validated.Goals as goal

pub number_of-requires-clause-few : goal.number_of-requires-clause-few
number_of-requires-clause-few g c = few c.args.front.now.outside (omega (arith, c.if-len-ge-MANY.false, c.len.ensures))
    (omega (arith, c.if-len-ge-MANY-2.false, c.len-else-len-ge-MANY.ensures))

pub number_of-requires-clause-within : goal.number_of-requires-clause-within
number_of-requires-clause-within g c =
    let m = c.args.front.now.outside in
    let cx = c.in_ok-context.context in
    let at = c.in-Ok-Some.at in
    let lent = c.args.front.now.parts in
    let is : c.in-Ok-Some.field-0 ≡ Some at = search rules in
    let f : Finds cx m.functions (map (λ p. p.now) lent) (Ok (Some at)) =
    subst (λ (fs : List ℕ). Finds cx fs (map (λ p. p.now) lent) (Ok (Some at))) c.as_slice-functions.ensures
    (subst (λ (ps : List (Bor (List ℕ))). Finds cx c.as_slice-functions.result.now (map (λ p. p.now) ps) (Ok (Some at))) c.as_slice.ensures
    (subst (λ (o : Option ℕ). Finds cx c.as_slice-functions.result.now (map (λ p. p.now) c.as_slice.result.now) (Ok o)) is c.in-Ok-Some.ensures)) in
    let below = below_all m (map (λ p. p.now) lent) cx c.in_ok-context.ensures.ok.0 c.in_ok-context.ensures.ok.1 at f in
    let same = length-map lent (λ p. p.now) in
    let long : length lent ≡ length m.functions = search rules in
    omega (arith, below, same, long)

pub returns-in-Ok-Some : goal.returns-in-Ok-Some
returns-in-Ok-Some g c =
    let m = c.args.front.now.outside in
    let cx = c.in_ok-context.context in
    let at = c.in-Ok-Some.at in
    let lent = c.args.front.now.parts in
    let is : c.in-Ok-Some.field-0 ≡ Some at = search rules in
    let f : Finds cx m.functions (map (λ p. p.now) lent) (Ok (Some at)) =
    subst (λ (fs : List ℕ). Finds cx fs (map (λ p. p.now) lent) (Ok (Some at))) c.as_slice-functions.ensures
    (subst (λ (ps : List (Bor (List ℕ))). Finds cx c.as_slice-functions.result.now (map (λ p. p.now) ps) (Ok (Some at))) c.as_slice.ensures
    (subst (λ (o : Option ℕ). Finds cx c.as_slice-functions.result.now (map (λ p. p.now) c.as_slice.result.now) (Ok o)) is c.in-Ok-Some.ensures)) in
    one_untyped m (map (λ p. p.now) lent) cx c.in_ok-context.ensures.ok.0 c.in_ok-context.ensures.ok.1 at c.number_of.result c.number_of.ensures f
