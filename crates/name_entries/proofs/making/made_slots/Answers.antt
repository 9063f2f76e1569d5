use Rattle.std.proofs.Common.{◌≡◌, ◌+◌, ℕ, List, Option, length, drop, sym, ap, subst, ◌∙◌, arith, rules}
use Rattle.wl_fan.specs.Slices.{Works}
use Rattle.wl_rows.specs.Ranges.{first_at, AreRanges}
use Rattle.name_entries.specs.View.{GroupsAre}
use Rattle.name_entries.specs.Fits.{GroupsAreNumbered}
use Rattle.name_entries.specs.Pieces.{IsMade, AreMade}
use Rattle.name_entries.specs.declared.pieces.Piece.{Piece}
use Rattle.name_entries.proofs.Along.{all_made, whole_back}
use Rattle.name_entries.proofs.making.made_slots.Goals as goal

pub invariant_of-making : goal.invariant_of-making
invariant_of-making g c =
    let numbers : GroupsAreNumbered c.args.objects.now c.args.names.now = search rules in
    let winners : GroupsAre c.args.names.now.names c.args.objects.now c.args.groups.now = search rules in
    let are : AreRanges 63 c.args.ranges.now.cuts c.args.ranges.now.count = search rules in
    let whole : c.args.ranges.now.count ≡ length c.args.objects.now = search rules in
    record { numbers = numbers; winners = winners; rising = are.rising; whole = whole }

pub each_slice-requires-clause-items : goal.each_slice-requires-clause-items
each_slice-requires-clause-items g c κs within = omega (arith, c.in_ok-slots.ensures)

pub returns : goal.returns
returns g c =
    let objects = c.args.objects.now in
    let names = c.args.names.now.symbols in
    let cuts = c.args.ranges.now.cuts in
    let count = c.args.ranges.now.count in
    let new = c.each_slice.new.items in
    let old = c.as_mut_slice.result.now in
    let n = c.in_ok-slots.slots.len in
    let same : length new ≡ length old = search rules in
    let long : n ≡ length new = search rules in
    let many : length new ≡ length cuts + 1 = same ∙ ap (λ (ss : List (Option Piece)). length ss) c.as_mut_slice.ensures.value ∙ c.in_ok-slots.ensures ∙ c.workers-workers.ensures in
    let works = subst (λ (w : ℕ). Works (λ k old new. IsMade objects names (first_at cuts count k) (first_at cuts count (k + 1)) new) (λ k. k) 0 w old new) c.workers-workers.ensures c.each_slice.ensures in
    subst (AreMade objects names cuts count) (sym (whole_back n new (drop (length new) c.in_ok-slots.slots.items) long)) (all_made objects names cuts count old new many works)
