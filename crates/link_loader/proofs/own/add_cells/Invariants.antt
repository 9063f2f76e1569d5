use Rattle.std.proofs.Common.{◌≡◌, ◌++◌, filter_map, drop}
use Rattle.link_loader.specs.Words.{cell_word}
use Rattle.link_loader.specs.Layout.{loading}
use Rattle.link_loader.proofs.own.add_cells.Given as goal

abbrev pub ghost-cell_word : goal.ghost-cell_word
ghost-cell_word g a = g.s

abbrev pub invariant-loop-key : goal.invariant-loop-key
invariant-loop-key g l =
    l.words ++ filter_map (cell_word (loading g.s l.layout)) (drop l.key-index l.layout.numbering.now.globals)
    ≡ l.initial.words ++ filter_map (cell_word (loading g.s l.layout)) l.layout.numbering.now.globals
