use Rattle.std.proofs.Common.{◌≡◌, ◌+◌, ℕ, List, length, drop, map, sym, subst, rules, Option, Result}
use Rattle.wasm_module.specs.declared.fault.ModuleFault.{ModuleFault}
use Rattle.wl_fan.specs.Slices.{Works}
use Rattle.wl_rows.specs.Ranges.{first_at}
use Rattle.valid_bodies.proofs.Shares.{whole_back}
use Rattle.output_check.specs.Told.{IsTold, AreTold}
use Rattle.output_check.proofs.Runs.{all_told}
use Rattle.output_check.proofs.sharing.each_told.Goals as goal

pub returns : goal.returns
returns g c =
    let cx = c.args.context.now in
    let functions = c.args.functions.now in
    let parts = map (λ p. p.now) c.args.parts.now in
    let cuts = c.args.ranges.now.cuts in
    let count = c.args.ranges.now.count in
    let new = c.each_slice.new.items in
    let n = c.in_ok-slots.slots.len in
    let all = c.workers-workers.ensures in
    let old : List (Result (Option ℕ) ModuleFault) = c.as_mut_slice.result.now in
    let same : length new ≡ length old = search rules in
    let long : n ≡ length new = search rules in
    let counted : length old ≡ length cuts + 1 = search rules in
    subst (AreTold cx functions parts cuts count) (sym (whole_back n new (drop (length new) c.in_ok-slots.slots.items) long))
    (all_told cx functions parts cuts count old new counted same
    (subst (λ (w : ℕ). Works (λ k (before after : List (Result (Option ℕ) ModuleFault)). IsTold cx functions parts (first_at cuts count k) (first_at cuts count (k + 1)) after) (λ k. k) 0 w old new) all c.each_slice.ensures))
