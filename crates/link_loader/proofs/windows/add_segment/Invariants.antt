use Rattle.std.proofs.Common.{◌≡◌, ◌++◌, filter_map, drop}
use Rattle.link_program.specs.Look.{row_at}
use Rattle.link_loader.specs.Words.{window_word}
use Rattle.link_loader.specs.Layout.{loading}
use Rattle.link_loader.proofs.windows.add_segment.Given as goal

abbrev pub ghost-window_word : goal.ghost-window_word
ghost-window_word g a = g.s

abbrev pub invariant-loop-named : goal.invariant-loop-named
invariant-loop-named g l =
    l.words ++ filter_map (window_word (loading g.s l.layout) l.address) (drop l.named-index (row_at l.layout.program.tables.now l.number))
    ≡ l.initial.words ++ filter_map (window_word (loading g.s l.layout) l.address) (row_at l.layout.program.tables.now l.number)
