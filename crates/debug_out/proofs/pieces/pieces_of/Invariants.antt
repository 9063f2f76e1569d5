use Rattle.std.proofs.Common.{◌≡◌, ◌++◌, List, drop}
use Rattle.std.specs.Prelude.{flat_map}
use Rattle.std.specs.List.{AllByRecursion}
use Rattle.debug_rules.specs.Faults.{Debug}
use Rattle.debug_rules.specs.Joined.{Places, section_of}
use Rattle.debug_out.specs.Grouped.{IsGrouped}
use Rattle.debug_out.specs.Pieces.{pieces_bytes, Fits}
use Rattle.debug_out.specs.Windows.{Stands}
use Rattle.debug_out.proofs.pieces.pieces_of.Given as goal

abbrev pub invariant-loop-n : goal.invariant-loop-n
invariant-loop-n l = (ds : List Debug) → IsGrouped l.names.names l.groups ds → AllByRecursion Stands ds
    → ((p : Places) → pieces_bytes l.groups.rows.items p l.out ++ flat_map (section_of ds p) (drop l.n l.names.names) ≡ flat_map (section_of ds p) l.names.names)
    × AllByRecursion Fits l.out
