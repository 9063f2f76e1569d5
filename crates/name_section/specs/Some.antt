-- No association is spelled by no byte.
use Rattle.std.proofs.Common.{◌<◌, length, arith, length-append}
use Rattle.leb_codec.specs.Shortest.{u32}
use Rattle.image_emit.specs.Bytes.{sized}
use Rattle.image_emit.specs.Some.{u32_some}
use Rattle.name_section.specs.Names.{Named, association}

pub association_some : (n : Named) → 0 < length (association n)
association_some n = omega (arith, u32_some n.index, length-append (u32 n.index) (sized n.name))
