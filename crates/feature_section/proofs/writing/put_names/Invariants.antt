use Rattle.std.proofs.Common.{◌≡◌, ◌++◌, take, length}
use Rattle.std.specs.List.{flat_map, All}
use Rattle.leb_codec.specs.Shortest.{u32}
use Rattle.feature_section.specs.Fits.{IsShort}
use Rattle.feature_section.specs.Section.{used_feature}
use Rattle.feature_section.proofs.writing.put_names.Given as goal

abbrev pub invariant-loop-name : goal.invariant-loop-name
invariant-loop-name l = (l.to ≡ l.fn.to ++ (u32 (length l.names) ++ flat_map used_feature (take l.name-index l.names))) × All IsShort (take l.name-index l.names)
