use Rattle.std.proofs.Common.{◌≡◌, ◌+◌, ◌++◌, length, length-append, ap, sym, ◌∙◌, arith}
use Rattle.wl_rows.specs.Rows.{all_rows}
use Rattle.wl_rows.proofs.Reading.{one_more}
use Rattle.wl_rows.proofs.rows.Rows.push.Goals as goal

pub returns : goal.returns
returns g c =
    let o = c.self.inside in
    one_more o.first o.behind c.push.new.self c.args.rows c.in_ok-push.ensures.ok ∙ ap (λ rows. rows ++ c.args.rows) c.self.view_is
