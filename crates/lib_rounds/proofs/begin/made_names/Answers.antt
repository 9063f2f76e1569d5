use Rattle.std.proofs.Common.{arith}
use Rattle.std.specs.Map.{lookup}
use Rattle.std.specs.Str.{bytes_eq}
use Rattle.lib_index.specs.Table.{shown}
use Rattle.lib_rounds.proofs.Beginning.{made_more, made_all}
use Rattle.lib_rounds.proofs.begin.made_names.Goals as goal

pub loop-k-preserved : goal.loop-k-preserved
loop-k-preserved c n =
    made_more c.args.mode c.loop-k.k n c.name.result.now (lookup (bytes_eq n) (shown c.loop-k.table)) (lookup (bytes_eq n) (shown c.put.new.table))
    (omega (arith, c.loop-k-test.true, c.count-k-end.ensures)) c.name.ensures (c.loop-k.invariant n) (c.in_ok-put.ensures n)

pub returns : goal.returns
returns c n = made_all c.args.mode c.loop-k.k n (lookup (bytes_eq n) (shown c.loop-k.table)) (omega
    (arith, c.loop-k-test.false, c.count-k-end.ensures)) (c.loop-k.invariant n)
