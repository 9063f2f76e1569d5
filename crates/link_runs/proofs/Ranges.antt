-- What the numbers and names of a tree have to be so that it can be written.
use Rattle.std.specs.Prelude.{length, All}
use Rattle.image_emit.specs.Bytes.{Tree, bytes_of}
use Rattle.image_emit.specs.Spelled.{IsU32, IsImport, IsTable, AreLimits, IsGlobal, IsExport}

-- The bytes are few, the numbers of a tree are in their ranges, and its names UTF-8.
pub record IsRanged (t : Tree) : Type 0 where
  pub short : IsU32 (length (bytes_of t))
  pub imports : All IsImport t.imports
  pub tables : All IsTable t.tables
  pub memories : All AreLimits t.memories
  pub globals : All IsGlobal t.globals
  pub exports : All IsExport t.exports
