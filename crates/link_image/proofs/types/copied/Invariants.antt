use Rattle.std.proofs.Common.{◌≡◌, take}
use Rattle.link_image.proofs.types.copied.Given as goal

abbrev pub invariant-loop-t : goal.invariant-loop-t
invariant-loop-t l = l.copies ≡ take l.t-index l.types
