use Rattle.std.proofs.Common.{sym, ap, ◌∙◌, map, fold}
use Rattle.partial_tree.specs.Rows.{Made, with_at, nothing_made, row_seen}
use Rattle.partial_tree.specs.Looks.{look_seen}
use Rattle.partial_tree.proofs.Listed.{rows_are}
use Rattle.partial_tree.proofs.symbols.rows_of.Goals as goal

pub returns : goal.returns
returns c = λ d p is objects names look standing.
    ap (map (row_seen p.objects)) c.into_rows-rows.ensures
    ∙ (ap (λ (m : Made). map (row_seen p.objects) m.rows)
    (c.in_ok-made.ensures ∙ (λ i. fold (with_at (look_seen c.args.look) (sym names i).names (sym objects i)) nothing_made c.args.symbols.now))
    ∙ rows_are d p is (look_seen c.args.look) look c.args.symbols.now standing)
