use Rattle.std.proofs.Common.{◌∙◌, ◌+◌, ◌<◌, ℕ, length, arith, get_or, false}
use Rattle.std.proofs.lemmas.Option.{slice_get-get_or}
use Rattle.std.proofs.lemmas.List.{length-set}
use Rattle.link_inputs.specs.declared.numbering.ObjectFile.{ObjectFile}
use Rattle.link_inputs.specs.PartLaws.{first_low}
use Rattle.link_inputs.proofs.Divided.{one_more}
use Rattle.link_inputs.proofs.reading.ReaderSlicesSlot.work.Goals as goal

abbrev nowhere : ObjectFile
nowhere = record { file = 0; input = 0; lazy = false }

pub loop-at-preserved : goal.loop-at-preserved
loop-at-preserved g c =
    let r = c.args.self.now.reading in
    let low = first_low (length r.objects.now) r.parts (c.args.part + 1) in
    let below = c.loop-at-test.true in
    let at : ℕ = c.first-from.result + c.loop-at.at in
    let lt : at < length r.objects.now = omega (arith, low, below, c.loop-at.invariant.0, c.requires.1, c.first-from.ensures.is) in
    let is = slice_get-get_or r.objects.now at nowhere lt in (
      length-set c.loop-at.items c.loop-at.at c.read.result ∙ c.loop-at.invariant.0,
      one_more r.files.now r.objects.now c.first-from.result c.loop-at.at c.loop-at.items (get_or r.objects.now at nowhere) c.read.result
          (omega (arith, below, c.loop-at.invariant.0)) is c.read.ensures c.loop-at.invariant.1,
    )
