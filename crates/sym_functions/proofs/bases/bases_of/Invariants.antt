use Rattle.std.proofs.Common.{◌≡◌, map, take}
use Rattle.link_program.specs.made_symbols.declared.mode.Mode.TheVariants.{Plain}
use Rattle.link_program.specs.link_rules.Output.{layout}
use Rattle.sym_functions.specs.Bases.{base_seen}
use Rattle.sym_functions.proofs.bases.bases_of.Given as goal

abbrev pub ghost-base_of : goal.ghost-base_of
ghost-base_of g a = g.s

abbrev pub invariant-loop-symbol : goal.invariant-loop-symbol
invariant-loop-symbol g l = l.bases.items ≡ map (base_seen (layout Plain g.s.program g.s.parts g.s.exports) l.layout.numbering.now) (take l.symbol-index l.symbols)
