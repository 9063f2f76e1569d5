use Rattle.std.proofs.Common.{◌≡◌, map, take}
use Rattle.partial_bytes.specs.Told.{info_told}
use Rattle.partial_items.specs.Items.{info_for}
use Rattle.partial_items.proofs.infos.infos_in.Given as goal

abbrev pub invariant-loop-part : goal.invariant-loop-part
invariant-loop-part l = map info_told l.rows ≡ map (info_for l.objects l.tables) (take l.part-index l.segments)
