use Rattle.std.proofs.Common.{◌-◌, ℕ, [], length, get_or, ap, sym, ◌∙◌}
use Rattle.std.specs.Option.{option_copied}
use Rattle.wl_rows.proofs.Reading.{flat, in_first, in_behind}
use Rattle.wl_rows.proofs.rows.Rows.row.Goals as goal

pub returns-in-Some : goal.returns-in-Some
returns-in-Some g c =
    let o = c.self.inside in
    in_first o.first o.behind c.args.at c.in-Some.row.now (sym c.get.ensures ∙ ap option_copied c.in-Some.is) ∙ ap (λ rows. get_or rows c.args.at []) c.self.view_is

pub returns-in-None : goal.returns-in-None
returns-in-None g c =
    let o = c.self.inside in
    c.row_in.ensures ∙ ap (λ pieces. get_or (flat pieces) c.saturating_sub.result []) c.as_slice.ensures
    ∙ ap (λ (n : ℕ). get_or (flat o.behind) n []) (c.saturating_sub.ensures ∙ ap (λ (n : ℕ). c.args.at - n) c.len.ensures)
    ∙ in_behind o.first o.behind c.args.at (sym c.get.ensures ∙ ap option_copied c.in-None.is) ∙ ap (λ rows. get_or rows c.args.at []) c.self.view_is
