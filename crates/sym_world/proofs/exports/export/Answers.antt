use Rattle.std.proofs.Common.{◌∙◌, ap}
use Rattle.link_program.specs.made_symbols.declared.mode.Mode.TheVariants.{Plain}
use Rattle.link_program.specs.link_rules.Values.{address_of}
use Rattle.link_program.specs.link_rules.Output.{layout}
use Rattle.link_program.specs.declared.symbol.Winner.{Winner}
use Rattle.sym_functions.specs.link_image.Sections.{entry_of}
use Rattle.sym_functions.specs.sym_parts.Data.{target_seen}
use Rattle.sym_world.proofs.exports.export.Goals as goal

pub export_name-requires : goal.export_name-requires
export_name-requires g c = ((Plain, c.requires.0.program), c.requires.1)

pub returns : goal.returns
returns g c = λ e held is.
    let l = layout Plain g.s.program g.s.parts g.s.exports in
    let name = c.in_ok-name.ensures ∙ c.export_name.ensures e held is in
    let target = c.in_ok-target.ensures
    ∙ ap (λ (w : Winner). target_seen c.args.functions.now c.args.cells.now (address_of Plain l (entry_of w.definition)) w.definition w.definition.kind) is in
    λ i. record { name = name i; target = target i }
