-- The object of a program whose names are in order.
use Rattle.std.specs.Prelude.{ℕ, List, Result}
use Rattle.partial_items.specs.link_program.wl_base.Choice.{unless, ◌>>=◌}
use Rattle.partial_items.specs.link_program.wl_base.declared.fault.Fault.{Fault}
use Rattle.partial_items.specs.link_program.link_rules.Program.{Program}
use Rattle.partial_items.specs.partial_rules.Relocatable.{Relocatable, relocatable_bytes}
use Rattle.partial_items.specs.partial_rules.Partial.{relocatable, open_local}
use Rattle.partial_items.specs.partial_rules.PartialLink.{too_long}

-- The bytes of an object, unless they are too many.
abbrev pub bytes_or : List ℕ → Result (List ℕ) Fault
bytes_or bytes = unless (too_long bytes) bytes

-- What `partial_program` says behind too many names, a clash and a duplicate.
unfoldable pub made_of : Program → Result (List ℕ) Fault
made_of p = do
  p ← unless (open_local p) p
  bytes_or (relocatable_bytes (relocatable p))
