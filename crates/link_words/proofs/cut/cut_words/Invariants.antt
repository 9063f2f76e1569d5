use Rattle.std.proofs.Common.{◌≡◌, length, drop}
use Rattle.link_words.specs.Cut.{cut_of, cut_from, onto}
use Rattle.link_words.proofs.Placed.{ArePlaced}
use Rattle.link_words.proofs.cut.cut_words.Given as goal

abbrev pub invariant-loop-at : goal.invariant-loop-at
invariant-loop-at l = record {
  cut : onto l.items (cut_from l.next l.at (drop l.at l.words)) ≡ cut_of l.words;
  placed : ArePlaced (length l.words) l.at l.next l.items;
}
