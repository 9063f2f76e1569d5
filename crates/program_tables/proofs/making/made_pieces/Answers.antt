use Rattle.std.proofs.Common.{◌≡◌, ◌+◌, ◌-◌, ◌∷◌, ℕ, List, length, drop, sym, ap, subst, ◌∙◌, arith, rules}
use Rattle.std.specs.Prelude.{replicate}
use Rattle.std.proofs.lemmas.List.{length-replicate}
use Rattle.link_program.specs.wl_fan.Slices.{Works}
use Rattle.program_tables.specs.declared.pieces.Piece.{Piece}
use Rattle.wl_rows.specs.Ranges.{first_at, AreRanges}
use Rattle.program_tables.specs.Pieces.{no_piece, IsGrown, AreGrown}
use Rattle.program_tables.proofs.Joined.{all_grown, whole_back}
use Rattle.program_tables.proofs.making.made_pieces.Goals as goal

pub invariant_of-making : goal.invariant_of-making
invariant_of-making g c =
    let long : length c.args.lookups.entries.parts.now ≡ length c.args.lookups.entries.objects.now = search rules in
    let are : AreRanges 63 c.args.ranges.now.cuts c.args.ranges.now.count = search rules in
    let whole : c.args.ranges.now.count ≡ length c.args.lookups.entries.objects.now = search rules in
    record { long = long; rising = are.rising; whole = whole }

pub each_slice-requires-clause-items : goal.each_slice-requires-clause-items
each_slice-requires-clause-items g c κs within =
    let counted = ap (λ (ps : List Piece). length ps) c.in_ok-pieces.ensures in
    let others = length-replicate (c.workers-workers.result - 1) no_piece in
    let all = c.workers-workers.ensures in
    omega (arith, counted, others, all)

pub returns : goal.returns
returns g c =
    let cuts = c.args.ranges.now.cuts in
    let count = c.args.ranges.now.count in
    let l = c.args.lookups in
    let new = c.each_slice.new.items in
    let n = c.in_ok-pieces.pieces.len in
    let all = c.workers-workers.ensures in
    let others : c.workers-workers.result - 1 ≡ length cuts = omega (arith, all) in
    let old : List Piece = c.args.first ∷ replicate (length cuts) no_piece in
    let was : c.in_ok-pieces.pieces.items ≡ old = c.in_ok-pieces.ensures ∙ ap (λ (k : ℕ). let ps : List Piece = c.args.first ∷ replicate k no_piece in ps) others in
    let begin : c.as_mut_slice.result.now ≡ old = c.as_mut_slice.ensures.value ∙ was in
    let same : length new ≡ length c.as_mut_slice.result.now = search rules in
    let long : n ≡ length new = search rules in
    let counted : length old ≡ length cuts + 1 = omega (arith, length-replicate (length cuts) no_piece) in
    let works : Works (λ k. IsGrown l (first_at cuts count k) (first_at cuts count (k + 1))) (λ k. k) 0 (length cuts + 1) old new =
    subst (λ (w : ℕ). Works (λ k. IsGrown l (first_at cuts count k) (first_at cuts count (k + 1))) (λ k. k) 0 w old new) all
    (subst (λ (ps : List Piece). Works (λ k. IsGrown l (first_at cuts count k) (first_at cuts count (k + 1))) (λ k. k) 0 c.workers-workers.result ps new) begin c.each_slice.ensures) in
    subst (AreGrown l cuts count old) (sym (whole_back n new (drop (length new) c.in_ok-pieces.pieces.items) long))
    (all_grown l cuts count old new counted (same ∙ ap (λ (ps : List Piece). length ps) begin) works)
