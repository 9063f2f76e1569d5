use Rattle.object_parts.proofs.Sections.{added, stopped, all_added}
use Rattle.object_parts.proofs.reading.add_sections.Goals as goal

pub returns-in-Err : goal.returns-in-Err
returns-in-Err c =
    rw c.fault_in.ensures (stopped c.args.all.now c.args.relocs.now c.args.bytes.now c.args.from (Unit {0}) c.in-Err.fault c.args.sections.now c.loop-at.at _ c.loop-at.parts _ _ c.loop-at-test.true (rw (c.of-kind.ensures, c.bytes_in-payload.ensures) at c.in-Err.ensures) c.loop-at.invariant)

pub loop-at-preserved : goal.loop-at-preserved
loop-at-preserved c =
    added c.args.all.now c.args.relocs.now c.args.bytes.now c.args.from c.args.sections.now c.loop-at.at _ c.loop-at.parts c.add_kind-added.new.parts _ c.loop-at-test.true (rw (c.of-kind.ensures, c.bytes_in-payload.ensures) at c.in_default.ensures) c.loop-at.invariant

pub returns : goal.returns
returns c = all_added c.args.all.now c.args.relocs.now c.args.bytes.now c.args.from c.args.sections.now _ c.loop-at.parts _ c.loop-at-test.false c.loop-at.invariant
