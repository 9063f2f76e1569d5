use Rattle.std.proofs.Common.{◌≡◌, ◌+◌, ℕ, List, length, drop, sym, ap, subst, ◌∙◌, arith, rules, Option, None}
use Rattle.std.specs.Prelude.{replicate, slice_range}
use Rattle.wl_fan.specs.Slices.{Works}
use Rattle.std.proofs.lemmas.List.{length-replicate}
use Rattle.link_keys.specs.Noted.{Noted}
use Rattle.link_keys.specs.Joined.{IsNoted, AreNoted}
use Rattle.wl_rows.specs.Ranges.{first_at, AreRanges}
use Rattle.link_keys.proofs.Slots.{all_noted, whole_back}
use Rattle.link_keys.proofs.sharing.each_noted.Goals as goal

pub invariant_of-sharing : goal.invariant_of-sharing
invariant_of-sharing g c =
    let are : AreRanges 63 c.args.ranges.now.cuts c.args.ranges.now.count = search rules in
    let whole : c.args.ranges.now.count ≡ length c.args.live.now = search rules in
    record { sorted = search rules; rising = are.rising; whole = whole }

pub each_slice-requires-clause-items : goal.each_slice-requires-clause-items
each_slice-requires-clause-items g c κs within =
    let counted = ap (λ (ps : List (Option Noted)). length ps) c.in_ok-slots.ensures in
    let slots = length-replicate {A = Option Noted} c.workers-workers.result None in
    omega (arith, counted, slots)

pub returns : goal.returns
returns g c =
    let t = c.args.tables.now in
    let imports = c.args.imports in
    let names = c.args.names in
    let live = c.args.live.now in
    let cuts = c.args.ranges.now.cuts in
    let count = c.args.ranges.now.count in
    let new = c.each_slice.new.items in
    let n = c.in_ok-slots.slots.len in
    let all = c.workers-workers.ensures in
    let old : List (Option Noted) = c.as_mut_slice.result.now in
    let same : length new ≡ length old = search rules in
    let long : n ≡ length new = search rules in
    let counted : length old ≡ length cuts + 1 =
    omega (arith, ap (λ (ps : List (Option Noted)). length ps) (c.as_mut_slice.ensures.value ∙ c.in_ok-slots.ensures), length-replicate {A = Option Noted} c.workers-workers.result None, all) in
    subst (AreNoted t imports names live cuts count) (sym (whole_back n new (drop (length new) c.in_ok-slots.slots.items) long))
    (all_noted t imports names live cuts count old new counted same
    (subst (λ (w : ℕ). Works (λ k (before after : List (Option Noted)). IsNoted t imports names (slice_range live (first_at cuts count k) (first_at cuts count (k + 1))) after) (λ k. k) 0 w old new) all c.each_slice.ensures))
