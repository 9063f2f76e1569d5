use Rattle.std.proofs.lemmas.Result.{err_from_is_err_and}
use Rattle.object_parts.specs.Turns.{turns_at}
use Rattle.object_parts.specs.Imports.{object_import_at, seen_import, none_seen}
use Rattle.object_parts.proofs.Loop.{goes_on, ends, is_done}
use Rattle.object_parts.proofs.imports.many_imports.Goals as goal

pub returns-in_err-import : goal.returns-in_err-import
returns-in_err-import c =
    let p = err_from_is_err_and c.from_residual.result c.from_residual.ensures.1 in
    rw (p.1, p.2) (ends object_import_at seen_import c.in_err-import.field-0.0 c.loop.imports c.loop.seen c.args.count c.loop.counter c.args.end c.loop.rest.now (turns_at object_import_at seen_import c.args.count none_seen c.args.end c.args.bytes.now) c.loop-test.true c.in_err-import.ensures c.loop.invariant)

pub loop-preserved : goal.loop-preserved
loop-preserved c =
    rw (c.in_ok-push.ensures.ok, c.seen_kind-seen.ensures) (goes_on object_import_at seen_import c.loop.imports c.loop.seen c.args.count c.loop.counter c.args.end c.loop.rest.now c.in_ok-import.import c.in_ok-import.after.now (turns_at object_import_at seen_import c.args.count none_seen c.args.end c.args.bytes.now) c.loop-test.true c.in_ok-import.ensures c.loop.invariant)

pub returns : goal.returns
returns c = is_done object_import_at seen_import c.loop.imports c.loop.seen c.args.count c.loop.counter c.args.end c.loop.rest.now (turns_at object_import_at seen_import c.args.count none_seen c.args.end c.args.bytes.now) c.loop-test.false c.loop.invariant
