use Rattle.std.proofs.Common.{◌∙◌, ap}
use Rattle.link_program.specs.link_rules.ModeOf.{mode_of}
use Rattle.link_layout.specs.Seen.{address_of}
use Rattle.link_layout.specs.Layout.{looked}
use Rattle.link_layout.proofs.Told.{told_by}
use Rattle.link_layout.proofs.Windows.{address_told}
use Rattle.link_layout.proofs.values.Layout.address.Goals as goal

pub returns : goal.returns
returns g c e same =
    let is = told_by (mode_of g.s.program.plan) c.keys_are_told.ensures.numbers c.keys_are_told.ensures.refs g.s.program g.s.parts g.s.exports c.args.self c.requires in
    c.address_seen.ensures.is ∙ ap (address_of (looked c.args.self)) same ∙ address_told (mode_of g.s.program.plan) g.s.program g.s.parts g.s.exports c.args.self is e
