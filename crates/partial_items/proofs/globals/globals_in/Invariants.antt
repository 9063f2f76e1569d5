use Rattle.std.proofs.Common.{◌≡◌, map, filter_map, take}
use Rattle.partial_bytes.specs.Told.{global_told}
use Rattle.partial_items.specs.Items.{global_for}
use Rattle.partial_items.proofs.globals.globals_in.Given as goal

abbrev pub invariant-loop-part : goal.invariant-loop-part
invariant-loop-part l = map global_told l.rows ≡ filter_map (global_for l.files l.objects l.tables) (take l.part-index l.globals)
