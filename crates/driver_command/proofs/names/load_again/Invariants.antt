use Rattle.std.proofs.Common.{take}
use Rattle.link_command.proofs.Loads.{SoFar}
use Rattle.driver_command.proofs.names.load_again.Given as goal

abbrev pub invariant-loop-file : goal.invariant-loop-file
invariant-loop-file g l = SoFar (g.F.Shelf.shown l.initial.shelf) (g.F.Shelf.shown l.shelf) (take l.file-index l.files) l.held
