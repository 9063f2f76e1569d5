use Rattle.std.proofs.Common.{◌≡◌, ◌+◌, ℕ, List, Option, length, drop, sym, ap, subst, ◌∙◌, arith, rules}
use Rattle.link_program.specs.wl_fan.Slices.{Works}
use Rattle.link_program.specs.reloc_apply.declared.window.Patches.{Patches}
use Rattle.wl_rows.specs.Ranges.{AreRanges}
use Rattle.link_layout.specs.Seen.{AreTargets}
use Rattle.link_layout.specs.Layout.{looked, AreThere}
use Rattle.link_layout.specs.Parts.{sources_in, IsFirst, AreWritten}
use Rattle.link_layout.proofs.Divided.{all_made, whole_back}
use Rattle.link_layout.proofs.sharing.made_slots.Goals as goal

pub invariant_of-sharing : goal.invariant_of-sharing
invariant_of-sharing g c =
    let there : AreThere c.args.layout = search rules in
    let targets : AreTargets (looked c.args.layout) c.args.targets.now = search rules in
    let are : AreRanges 63 c.args.ranges.now.cuts c.args.ranges.now.count = search rules in
    let whole : c.args.ranges.now.count ≡ length c.args.sources.now = search rules in
    record { rows = there.rows; types = there.types; are = targets.are; small = targets.small; rising = are.rising; whole = whole }

pub each_slice-requires-clause-items : goal.each_slice-requires-clause-items
each_slice-requires-clause-items g c κs within = omega (arith, c.in_ok-slots.ensures)

pub returns : goal.returns
returns g c =
    let k = looked c.args.layout in
    let sources = c.args.sources.now in
    let cuts = c.args.ranges.now.cuts in
    let count = c.args.ranges.now.count in
    let new = c.each_slice.new.items in
    let old = c.as_mut_slice.result.now in
    let n = c.in_ok-slots.slots.len in
    let same : length new ≡ length old = search rules in
    let long : n ≡ length new = search rules in
    let many : length new ≡ length cuts + 1 = same ∙ ap (λ (ss : List (Option Patches)). length ss) c.as_mut_slice.ensures.value ∙ c.in_ok-slots.ensures ∙ c.workers-workers.ensures in
    let works = subst (λ (w : ℕ). Works (λ w old new. IsFirst k (sources_in sources cuts count w) new) (λ w. w) 0 w old new) c.workers-workers.ensures c.each_slice.ensures in
    subst (AreWritten k sources cuts count) (sym (whole_back n new (drop (length new) c.in_ok-slots.slots.items) long)) (all_made k sources cuts count old new many works)
