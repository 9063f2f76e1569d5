use Rattle.std.proofs.Common.{Ok, Some, ap, sym, ◌∙◌}
use Rattle.object_parts.proofs.Sections.{found_here, not_here, nowhere}
use Rattle.object_parts.proofs.ReadEarly.{read_entries, no_entries}
use Rattle.object_parts.proofs.early.code_relocs.Goals as goal

pub returns-in-Ok-clause-entries : goal.returns-in-Ok-clause-entries
returns-in-Ok-clause-entries c =
    found_here c.args.all.now c.args.bytes.now c.args.all.now c.loop-place.place _ _ _ c.loop-place-test.true
    (read_entries c.args.all.now c.args.bytes.now _ (Ok c.in-Ok.relocs) (sym c.in_ok-read.ensures ∙ c.in-Some.is ∙ ap Some c.in-Ok.is)) c.loop-place.invariant

pub returns-in-Err-clause-entries : goal.returns-in-Err-clause-entries
returns-in-Err-clause-entries c =
    found_here c.args.all.now c.args.bytes.now c.args.all.now c.loop-place.place _ _ _ c.loop-place-test.true
    (read_entries c.args.all.now c.args.bytes.now _ _ (sym c.in_ok-read.ensures ∙ c.in-Some.is ∙ ap Some c.in-Err.is)) c.loop-place.invariant

pub loop-place-preserved : goal.loop-place-preserved
loop-place-preserved c = not_here c.args.all.now c.args.bytes.now c.args.all.now c.loop-place.place _ _ c.loop-place-test.true (no_entries c.args.all.now c.args.bytes.now _ (sym c.in_ok-read.ensures ∙ c.in_default.is)) c.loop-place.invariant

pub returns-clause-entries : goal.returns-clause-entries
returns-clause-entries c = nowhere c.args.all.now c.args.bytes.now c.args.all.now c.loop-place.place _ c.loop-place-test.false c.loop-place.invariant
