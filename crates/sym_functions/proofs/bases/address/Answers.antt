use Rattle.std.proofs.Common.{refl, ap, ◌∙◌}
use Rattle.link_program.specs.link_rules.Values.{address_of}
use Rattle.link_program.specs.link_rules.Output.{layout}
use Rattle.link_image.specs.Sections.{entry_of}
use Rattle.sym_functions.proofs.PlainLayout.{asked_layout}
use Rattle.sym_functions.proofs.bases.address.Goals as goal

pub address-requires : goal.address-requires
address-requires g c = asked_layout g.s.program g.s.parts g.s.exports c.args.layout c.requires

pub returns : goal.returns
returns g c =
    c.address.ensures (entry_of c.args.definition) refl
    ∙ ap (λ m. address_of m (layout m g.s.program g.s.parts g.s.exports) (entry_of c.args.definition)) c.requires.asked
