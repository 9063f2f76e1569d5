use Rattle.sym_parts.specs.Sought.{known}
use Rattle.sym_parts.specs.Code.{function_seen}
use Rattle.sym_parts.proofs.Gives.{gives_more}
use Rattle.sym_parts.proofs.functions.functions_of.Goals as goal

pub loop-key-preserved : goal.loop-key-preserved
loop-key-preserved c =
    gives_more (function_seen (known c.args.k) c.args.files.now c.args.resolution.now.imports c.args.entries.objects.now c.args.firsts.now) c.keys-keys.result.now c.loop-key.key-index _ c.loop-key-test.true
    c.loop-key.functions c.push.new.self c.in_ok-function.function c.loop-key.invariant c.in_ok-function.ensures c.in_ok-push.ensures.ok
