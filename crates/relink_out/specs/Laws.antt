-- What the object of a program says of a partial link.
use Rattle.std.specs.Prelude.{◌≡◌, ℕ, List, false, Result}
use Rattle.partial_items.specs.link_program.wl_base.Choice.{unless, ◌>>=◌}
use Rattle.partial_items.specs.link_program.wl_base.declared.fault.Fault.{Fault}
use Rattle.partial_items.specs.link_program.name_rules.Cases.{clash_by, duplicate}
use Rattle.partial_items.specs.link_program.link_rules.Program.{Program}
use Rattle.partial_items.specs.link_program.link_rules.LinkOf.{too_many_names}
use Rattle.partial_items.specs.partial_rules.PartialLink.{partial_program}
use Rattle.relink_out.specs.Made.{made_of}

-- The faults of names, in their order (`found_of` of program_build).
abbrev pub found_first : Program → Result Program Fault
found_first p = do
  p ← unless (too_many_names p) p
  p ← unless (clash_by p.plan.loose_calls p.entries) p
  unless (duplicate p.entries) p

-- A link that isn't like lld's is partial so: it stops at these faults, or else is what is made of the program.
abbrev pub PartialIsMade : Type 0
PartialIsMade = (p : Program) → p.plan.loose_calls ≡ false → partial_program p ≡ found_first p >>= made_of
