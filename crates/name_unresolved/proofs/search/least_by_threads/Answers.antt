use Rattle.std.proofs.Common.{◌≡◌, ℕ, ◌-◌, ◌∙◌, length, map, map-id, ap, arith, None}
use Rattle.std.specs.List.{fold, range_with_len}
use Rattle.std.proofs.lemmas.Slice.Zip.{AllZip-map}
use Rattle.rayon.specs.Numbers.{nat_range}
use Rattle.rayon.proofs.Reducing.{Reduces-fold}
use Rattle.name_unresolved.specs.Least.{lesser}
use Rattle.name_unresolved.specs.Search.{number_least}
use Rattle.name_unresolved.proofs.Least.{lesser_none, lesser_assoc}
use Rattle.name_unresolved.proofs.Live.{numbers_are}
use Rattle.name_unresolved.proofs.search.least_by_threads.Goals as goal

pub returns : goal.returns
returns g c =
    let s = c.args.search.now in
    let done = c.reduce.ensures in
    let chain = done.1 in
    let ends = c.into_par_iter.ensures in
    let at = λ (k : ℕ). number_least c.map.result.f.0.now k in
    let whole : c.count.result - 0 ≡ c.count.result = omega arith in
    let places : chain.0 ≡ range_with_len 0 c.count.result =
    chain.1 ∙ (λ i. nat_range (c.map.ensures.base i).base.start (c.map.ensures.base i).base.end)
    ∙ (λ i. nat_range (c.with_min_len.ensures.base i).start (c.with_min_len.ensures.base i).end)
    ∙ (λ i. nat_range (ends.0 i) (ends.1 i)) ∙ ap (range_with_len 0) whole in
    let answers : done.0 ≡ map (number_least s) (range_with_len 0 (length s.chunks.now)) =
    AllZip-map at chain.0 done.0 chain.2 ∙ (λ i. map (λ (k : ℕ). number_least (c.map.ensures.f i).0.now k) (places i))
    ∙ ap (λ n. map (number_least s) (range_with_len 0 n)) c.count.ensures in
    Reduces-fold _ _ (λ x. x) (λ o. Unit {0}) lesser None
    (record { computes = λ a b r p q h. h; closed = λ a b p q. tt; associative = λ a b d p q r. lesser_assoc a b d })
    (record { gives = λ e h. h; within = tt; right_unit = λ a p. lesser_none a })
    done.0 c.reduce.result (λ k d below. tt) done.2
    ∙ ap (fold lesser None) (map-id done.0 ∙ answers) ∙ numbers_are s
