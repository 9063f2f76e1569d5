use Rattle.std.proofs.Common.{rules, map, ◌≡◌, ◌∙◌, sym, subst, ap, List, ℕ, length}
use Rattle.link_program.specs.Told.{told_winner}
use Rattle.link_program.specs.Program.{IsProgram}
use Rattle.link_program.specs.mark_bits.Reach.{Reached}
use Rattle.live_mark.specs.Asks.{Below, AllBelow}
use Rattle.link_marks.specs.Seen.{led_numbers}
use Rattle.link_marks.proofs.Targets.{led_are, roots_are, targets_below, roots_below, targets_count}
use Rattle.link_marks.proofs.Marked.{marked_live}
use Rattle.link_marks.proofs.live.live_parts.Goals as goal

pub live-requires-clause-roots : goal.live-requires-clause-roots
live-requires-clause-roots g c κs within =
    let ns = c.args.program.names.now.names in
    let imports = c.args.program.resolution.now.imports in
    let p = g.w.program in
    let is : IsProgram c.args.program p = search rules in
    let told : c.args.exports.now ≡ map (told_winner ns) g.w.exports = search rules in
    let t = led_are ns imports c.args.program.tables.now p is.tables c.as_slice-led.result.now (c.as_slice-led.ensures.value ∙ c.in_ok-leads.ensures ∙ ap (led_numbers c.args.program.tables.now.chunks) c.as_slice-symbols.ensures) in
    let r = c.as_slice.ensures ∙ c.in_ok-roots.ensures ∙ roots_are ns imports c.args.program.tables.now p is.tables c.args.program.plan.now.gc c.args.exports.now g.w.exports (ap (λ plan. plan.gc) is.plan) told in
    subst (λ (x : List (List ℕ) × List ℕ). Below (length x.0) x.1) (sym (λ i. (t i, r i))) (roots_below p g.w.exports)

pub live-requires-clause-targets : goal.live-requires-clause-targets
live-requires-clause-targets g c κs within =
    let ns = c.args.program.names.now.names in
    let imports = c.args.program.resolution.now.imports in
    let p = g.w.program in
    let is : IsProgram c.args.program p = search rules in
    let told : c.args.exports.now ≡ map (told_winner ns) g.w.exports = search rules in
    let t = led_are ns imports c.args.program.tables.now p is.tables c.as_slice-led.result.now (c.as_slice-led.ensures.value ∙ c.in_ok-leads.ensures ∙ ap (led_numbers c.args.program.tables.now.chunks) c.as_slice-symbols.ensures) in
    subst AllBelow (sym t) (targets_below p)

pub returns : goal.returns
returns g c =
    let ns = c.args.program.names.now.names in
    let imports = c.args.program.resolution.now.imports in
    let p = g.w.program in
    let is : IsProgram c.args.program p = search rules in
    let told : c.args.exports.now ≡ map (told_winner ns) g.w.exports = search rules in
    let t = led_are ns imports c.args.program.tables.now p is.tables c.as_slice-led.result.now (c.as_slice-led.ensures.value ∙ c.in_ok-leads.ensures ∙ ap (led_numbers c.args.program.tables.now.chunks) c.as_slice-symbols.ensures) in
    let r = c.as_slice.ensures ∙ c.in_ok-roots.ensures ∙ roots_are ns imports c.args.program.tables.now p is.tables c.args.program.plan.now.gc c.args.exports.now g.w.exports (ap (λ plan. plan.gc) is.plan) told in
    let e : ◌≡◌ {A = List (List ℕ) × List ℕ} _ _ = λ i. (t i, r i) in
    marked_live p g.w.exports (record { set = c.in_ok-set.set; numbers = c.in_ok-numbers.numbers }) c.reached_exactly.ensures (c.in_ok-set.ensures.chunks ∙ ap length t)
    (λ k one. subst (λ (x : List (List ℕ) × List ℕ). Reached x.0 x.1 k) e (c.in_ok-set.ensures.sound k one))
    (λ k reached. c.in_ok-set.ensures.whole k (subst (λ (x : List (List ℕ) × List ℕ). Reached x.0 x.1 k) (sym e) reached))
    (targets_count p) c.in_ok-numbers.ensures
