use Rattle.std.proofs.Common.{length, refl, rules}
use Rattle.debug_out.specs.Refs.{entries_of}
use Rattle.debug_out.proofs.Bounds.{bounds_by}
use Rattle.debug_out.proofs.windows.put_content.Goals as goal

pub fill-requires : goal.fill-requires
fill-requires c = bounds_by _ (length c.args.d.now.content.now) (entries_of c.args.d.now.relocs.now) (entries_of c.args.d.now.relocs.now) refl c.requires.stands (search rules)
