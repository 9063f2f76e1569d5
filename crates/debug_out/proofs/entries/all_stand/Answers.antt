use Rattle.std.proofs.Common.{◌≡◌, ◌∙◌, sym, refl, rules, true, false, slice_get}
use Rattle.debug_rules.specs.Faults.{entry_stands}
use Rattle.debug_out.proofs.Judged.{judged_on, judged_off, judged_stop, judged_done}
use Rattle.debug_out.proofs.entries.all_stand.Goals as goal

pub loop-preserved : goal.loop-preserved
loop-preserved c = λ places has.
    let fits : c.entry_fits.result ≡ true = search rules in
    judged_on (λ r. entry_stands places r (slice_get c.args.symbols.now r.index)) c.args.len c.args.count c.loop.counter c.args.end c.loop.from c.loop.left.now
    c.in-Ok.x.0 c.in-Ok.x.1.now _ _ c.loop-test.true (search rules) (sym (c.entry_fits.ensures places has) ∙ fits) (search rules) (c.loop.invariant places has)

pub returns-in-Err : goal.returns-in-Err
returns-in-Err c = λ places has.
    judged_stop (λ r. entry_stands places r (slice_get c.args.symbols.now r.index)) c.args.len c.args.count c.loop.counter c.args.end c.loop.from c.loop.left.now _ _
    c.loop-test.true c.in-Err.ensures (c.loop.invariant places has)

pub returns-then-not-entry_fits : goal.returns-then-not-entry_fits
returns-then-not-entry_fits c = λ places has.
    let fits : c.entry_fits.result ≡ false = search rules in
    judged_off (λ r. entry_stands places r (slice_get c.args.symbols.now r.index)) c.args.len c.args.count c.loop.counter c.args.end c.loop.from c.loop.left.now
    c.in-Ok.x.0 c.in-Ok.x.1.now _ c.loop-test.true (search rules) (sym (c.entry_fits.ensures places has) ∙ fits) (c.loop.invariant places has)

pub returns : goal.returns
returns c = λ places has.
    search rules ∙ judged_done (λ r. entry_stands places r (slice_get c.args.symbols.now r.index)) c.args.len c.args.count c.loop.counter c.args.end c.loop.from c.loop.left.now _
    (search rules) (c.loop.invariant places has)
