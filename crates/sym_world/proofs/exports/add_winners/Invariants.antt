use Rattle.std.proofs.Common.{◌≡◌, ◌++◌, map, drop}
use Rattle.link_program.specs.made_symbols.declared.mode.Mode.TheVariants.{Plain}
use Rattle.link_program.specs.link_rules.Output.{layout}
use Rattle.sym_world.specs.Exports.{export_seen}
use Rattle.sym_world.proofs.exports.add_winners.Given as goal

abbrev pub ghost-export : goal.ghost-export
ghost-export g a = g.s

abbrev pub invariant-loop-winner : goal.invariant-loop-winner
invariant-loop-winner g l =
    l.exports ++ map (export_seen g.s.program (layout Plain g.s.program g.s.parts g.s.exports) l.functions l.cells) (drop l.winner-index g.s.exports)
    ≡ l.initial.exports ++ map (export_seen g.s.program (layout Plain g.s.program g.s.parts g.s.exports) l.functions l.cells) g.s.exports
