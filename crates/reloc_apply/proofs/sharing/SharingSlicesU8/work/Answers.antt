use Rattle.std.proofs.Common.{refl}
use Rattle.reloc_apply.specs.declared.window.Form.TheVariants.{Unsigned5}
use Rattle.reloc_apply.specs.declared.window.Patch.{Patch}
use Rattle.std.specs.Prelude.{slice_range}
use Rattle.reloc_apply.specs.Apart.{from_here}
use Rattle.reloc_apply.specs.Windows.{filled}
use Rattle.reloc_apply.proofs.Parts.{part_begun, next_low, next_high, next_apart, next_filled}
use Rattle.reloc_apply.proofs.sharing.SharingSlicesU8.work.Goals as goal

abbrev nowhere : Patch
nowhere = record { place = 0; form = Unsigned5; value = 0 }

pub loop-number-init : goal.loop-number-init
loop-number-init g c = record {
  told = refl;
  apart =
      let cuts = c.args.self.now.cuts in
      part_begun cuts.patches.now cuts.end cuts.parts c.args.part c.begin-start.result c.first-number.result c.first-number-end.result c.args.items.now cuts.apart
      c.begin-start.ensures c.first-number.ensures.is c.first-number-end.ensures.is c.requires.1;
}

pub overflow_sub-place : goal.overflow_sub-place
overflow_sub-place g c =
    next_low c.args.self.now.cuts.patches.now c.begin-start.result c.loop-number.items c.loop-number.number c.first-number-end.result nowhere c.loop-number-test.true c.first-number-end.ensures.within c.loop-number.invariant.apart

pub fill_window-requires : goal.fill_window-requires
fill_window-requires g c =
    next_high c.args.self.now.cuts.patches.now c.begin-start.result c.loop-number.items c.loop-number.number c.first-number-end.result nowhere c.loop-number-test.true c.first-number-end.ensures.within c.loop-number.invariant.apart

pub loop-number-preserved : goal.loop-number-preserved
loop-number-preserved g c =
    let ps = c.args.self.now.cuts.patches.now in
    let start = c.begin-start.result in
    let items = c.loop-number.items in
    let i = c.loop-number.number in
    let j = c.first-number-end.result in
    let apart = c.loop-number.invariant.apart in
    let whole = filled (from_here start (slice_range ps c.first-number.result j)) c.args.items.now in
    record {
      told = next_filled ps start items i j nowhere c.loop-number-test.true c.first-number-end.ensures.within apart whole c.fill_window.new.out c.fill_window.ensures.bytes c.loop-number.invariant.told;
      apart = next_apart ps start items i j nowhere c.loop-number-test.true c.first-number-end.ensures.within apart c.fill_window.new.out c.fill_window.ensures.len;
    }
