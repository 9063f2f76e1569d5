use Rattle.std.proofs.Common.{◌<◌, ◌≤◌, ap, subst, ◌∙◌, map, fold, drop}
use Rattle.names_out.specs.Told.{label_seen, taking, offers_told}
use Rattle.names_out.proofs.Offered.{offered_more, offered_all}
use Rattle.names_out.proofs.offering.offer_all.Goals as goal

pub loop-at-preserved : goal.loop-at-preserved
loop-at-preserved c =
    let o = c.args.o.now in
    offered_more c.args.numbering.now.functions o.input c.imported_functions-imported.result o.symbols c.args.symbols.now c.loop-at.at (subst (λ n. c.loop-at.at < n) c.len-at-end.ensures c.loop-at-test.true)
    (map label_seen c.loop-at.table) _ _ c.offer.ensures c.loop-at.invariant

pub returns : goal.returns
returns c =
    let o = c.args.o.now in
    offered_all c.args.numbering.now.functions o.input c.imported_functions-imported.result o.symbols (drop c.loop-at.at c.args.symbols.now) c.loop-at.at (subst (λ n. n ≤ c.loop-at.at) c.len-at-end.ensures c.loop-at-test.false)
    (map label_seen c.loop-at.table) _ c.loop-at.invariant
    ∙ ap (λ n. fold taking (map label_seen c.args.table.now) (offers_told c.args.numbering.now.functions o.input n o.symbols c.args.symbols.now)) c.imported_functions-imported.ensures
