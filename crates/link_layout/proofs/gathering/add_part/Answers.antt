use Rattle.std.proofs.Common.{◌≡◌, Some, None, rules}
use Rattle.link_layout.specs.Layout.{looked}
use Rattle.link_layout.proofs.Gathered.{with_part, with_none}
use Rattle.link_layout.proofs.gathering.add_part.Goals as goal

pub returns-in_default : goal.returns-in_default
returns-in_default c =
    let none : c.args.part ≡ None = search rules in
    with_none (looked c.args.layout) c.args.sources.now.items c.args.place c.args.part none

pub returns : goal.returns
returns c =
    let some : c.args.part ≡ Some c.in-Some.number = search rules in
    with_part (looked c.args.layout) c.args.sources.now.items c.push.new.self.items c.args.place c.in-Some.number c.args.part some c.in_ok-push.ensures.items
