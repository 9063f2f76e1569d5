-- The image of its parts.
use Rattle.std.specs.Prelude.{ℕ, List, Option}
use Rattle.link_program.specs.image_emit.declared.tree.Image.{Image}
use Rattle.link_image.specs.declared.making.Declared.{Declared}
use Rattle.link_image.specs.declared.making.Defined.{Defined}
use Rattle.link_image.specs.declared.making.Held.{Held}

abbrev pub joined_image : Option (List ℕ) → Declared → Defined → Held → Image
joined_image custom a b c = record {
  custom = custom;
  types = a.types;
  imports = a.imports;
  functions = a.functions;
  tables = b.tables;
  memories = b.memories;
  globals = b.globals;
  exports = b.exports;
  elements = c.elements;
  bodies = c.bodies;
  data_offset = c.data_offset;
  blocks = c.blocks;
}
