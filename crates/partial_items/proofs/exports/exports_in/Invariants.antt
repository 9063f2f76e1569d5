use Rattle.std.proofs.Common.{◌≡◌, filter_map, take}
use Rattle.partial_items.specs.Items.{export_for}
use Rattle.partial_items.proofs.exports.exports_in.Given as goal

abbrev pub invariant-loop-part : goal.invariant-loop-part
invariant-loop-part l = l.exports ≡ filter_map (export_for l.objects l.tables l.kept l.imported) (take l.part-index l.functions)
