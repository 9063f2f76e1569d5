use Rattle.std.proofs.Common.{List, subst}
use Rattle.std.specs.Prelude.{IfSome}
use Rattle.link_layout.specs.Layout.{looked}
use Rattle.link_layout.specs.Parts.{IsWritten}
use Rattle.link_layout.specs.declared.gathering.Source.{Source}
use Rattle.link_layout.proofs.sharing.Sharing.made.Goals as goal

pub written-requires-clause-there : goal.written-requires-clause-there
written-requires-clause-there c = record { rows = c.args.self.now.rows; types = c.args.self.now.types }

pub written-requires-clause-targets : goal.written-requires-clause-targets
written-requires-clause-targets c = record { are = c.args.self.now.are; small = c.args.self.now.small }

pub returns : goal.returns
returns c =
    let k = looked c.args.self.now.layout in
    subst (λ (ss : List Source). IfSome c.written.result (IsWritten k ss)) c.part-sources.ensures c.written.ensures
