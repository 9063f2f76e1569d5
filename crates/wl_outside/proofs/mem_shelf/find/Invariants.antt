use Rattle.std.proofs.Common.{◌≡◌, take}
use Rattle.std.specs.Option.{option_copied}
use Rattle.wl_outside.specs.MemShelf.{found}
use Rattle.wl_outside.proofs.mem_shelf.find.Given as goal

abbrev pub invariant-loop-file : goal.invariant-loop-file
invariant-loop-file l = option_copied l.newest ≡ found (take l.file-index l.files) l.name
