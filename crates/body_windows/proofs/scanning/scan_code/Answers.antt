use Rattle.std.proofs.Common.{◌≡◌, ◌+◌, ◌-◌, ◌<◌, ◌≤◌, ◌^◌, length, Ok, sym, ◌∙◌, arith, refl}
use Rattle.std.proofs.lemmas.Result.{err_from_is_err_and}
use Rattle.wasm_instr.specs.Bodies.{stepped}
use Rattle.wasm_instr.specs.Skimming.{outline_step}
use Rattle.body_windows.specs.Merging.{outlined_immediates}
use Rattle.body_windows.proofs.Steps.{same_base}
use Rattle.body_windows.proofs.Walk.{walk_on, walk_other, walk_shorter, walk_fits, walk_fault, step_fails, walk_done}
use Rattle.body_windows.proofs.scanning.scan_code.Goals as goal

pub returns-in_err-outline : goal.returns-in_err-outline
returns-in_err-outline c =
    let h = c.in_ok-here in
    let p = err_from_is_err_and c.from_residual-in_err-outline.result c.from_residual-in_err-outline.ensures.1 in
    rw (p.1, p.2)
    (sym c.loop-merger.invariant.so_far ∙ h.ensures.same ∙ walk_fault c.pass_quick.new.merger c.args.end c.pass_quick.new.opens h.here.now c.in_err-outline.field-0.0 h.ensures.opened c.in_err-outline.ensures)

pub returns-in_err-outline_step : goal.returns-in_err-outline_step
returns-in_err-outline_step c =
    let h = c.in_ok-here in
    let o = c.in_ok-outline in
    let p = err_from_is_err_and c.from_residual-in_err-outline_step.result c.from_residual-in_err-outline_step.ensures.1 in
    rw (p.1, p.2) (step_fails c.in_err-outline_step.field-0.0 c.pass_quick.new.merger c.args.end c.pass_quick.new.opens h.here.now o.outline o.last.now o.after.now _
    h.ensures.opened o.ensures (rw (sym c.place-at.ensures) c.in_err-outline_step.ensures.value) (sym h.ensures.same ∙ c.loop-merger.invariant.so_far))

pub offer_outline-requires : goal.offer_outline-requires
offer_outline-requires c =
    let l = c.loop-merger in
    let h = c.in_ok-here in
    let o = c.in_ok-outline in
    let within : length h.here.now ≤ c.args.end = omega (arith, h.ensures.within, l.invariant.within) in
    let room : c.pass_quick.new.merger.base + c.args.end < 2 ^ 32 = rw h.ensures.base l.invariant.room in
    rw (c.place-at.ensures, c.place-mid.ensures, c.place-until.ensures) (walk_fits c.pass_quick.new.merger.base c.args.end h.here.now o.outline o.last.now o.after.now within room o.ensures)

pub loop-merger-smaller : goal.loop-merger-smaller
loop-merger-smaller c =
    let h = c.in_ok-here in
    let o = c.in_ok-outline in
    omega (arith, h.ensures.within, walk_shorter c.args.end h.here.now o.outline o.last.now o.after.now o.ensures)

pub loop-merger-preserved : goal.loop-merger-preserved
loop-merger-preserved c =
    let l = c.loop-merger in
    let h = c.in_ok-here in
    let m = c.pass_quick.new.merger in
    let o = c.in_ok-outline in
    let less : length o.after.now < length h.here.now = walk_shorter c.args.end h.here.now o.outline o.last.now o.after.now o.ensures in
    let step : stepped (c.args.end - length h.here.now) (outline_step c.pass_quick.new.opens o.outline) ≡ Ok c.outline_step.new.opens = rw (sym c.place-at.ensures) c.in_ok-outline_step.ensures.value in
    rw (c.in_ok-offer_outline.ensures, c.place-at.ensures, c.place-mid.ensures, c.place-until.ensures) (record {
      so_far = sym (walk_on m c.args.end c.pass_quick.new.opens h.here.now o.outline o.last.now o.after.now c.outline_step.new.opens h.ensures.opened o.ensures step) ∙ sym h.ensures.same ∙ l.invariant.so_far;
      within = omega (arith, less, h.ensures.within, l.invariant.within);
      room = rw (same_base m (outlined_immediates o.outline (c.args.end - length h.here.now) (c.args.end - length o.last.now) (c.args.end - length o.after.now)), h.ensures.base) l.invariant.room;
    })

pub returns-in_err-none_at : goal.returns-in_err-none_at
returns-in_err-none_at c =
    let l = c.loop-merger in
    let p = err_from_is_err_and c.from_residual-in_err-none_at.result c.from_residual-in_err-none_at.ensures.1 in
    rw (p.1, p.2) (sym l.invariant.so_far ∙ walk_done l.merger c.args.end l.opens l.rest.now (omega (arith, c.loop-merger-test.false, c.len.ensures)) ∙ (rw c.in_err-none_at.ensures refl))

pub returns : goal.returns
returns c =
    let l = c.loop-merger in
    sym l.invariant.so_far ∙ walk_done l.merger c.args.end l.opens l.rest.now (omega (arith, c.loop-merger-test.false, c.len.ensures)) ∙ (rw c.in_ok-none_at.ensures refl)

pub loop-merger-smaller-then-is_other : goal.loop-merger-smaller-then-is_other
loop-merger-smaller-then-is_other c =
    let h = c.in_ok-here in
    let o = c.in_ok-outline in
    omega (arith, h.ensures.within, walk_shorter c.args.end h.here.now o.outline o.last.now o.after.now o.ensures)

pub loop-merger-preserved-then-is_other : goal.loop-merger-preserved-then-is_other
loop-merger-preserved-then-is_other c =
    let l = c.loop-merger in
    let h = c.in_ok-here in
    let o = c.in_ok-outline in
    let less : length o.after.now < length h.here.now = walk_shorter c.args.end h.here.now o.outline o.last.now o.after.now o.ensures in
    record {
      so_far = sym (walk_other c.pass_quick.new.merger c.args.end c.pass_quick.new.opens h.here.now o.outline o.last.now o.after.now h.ensures.opened o.ensures (c.is_other.ensures.0 c.if-is_other.true)) ∙ sym h.ensures.same ∙ l.invariant.so_far;
      within = omega (arith, less, h.ensures.within, l.invariant.within);
      room = rw h.ensures.base l.invariant.room;
    }
