use Rattle.std.proofs.Common.{refl}
use Rattle.link_program.specs.Moved.{moved_windows}
use Rattle.link_program.specs.reloc_apply.Windows.{filled}
use Rattle.link_program.specs.image_emit.Bytes.{bytes_of, tree_of}
use Rattle.link_output.proofs.Writes.{apart, writes}
use Rattle.link_output.proofs.laws.patches_make_the_output.Goals as goal

pub returns : goal.returns
returns c = λ files i m wss vss p lie measured stand stand_written told. (
  apart files i m wss vss (moved_windows m.places wss) (moved_windows m.places vss) lie measured refl refl stand stand_written p.patches told,
  writes files i m wss vss (moved_windows m.places wss) (moved_windows m.places vss) lie measured refl refl stand stand_written p.patches (filled p.patches (bytes_of (tree_of files i))) told refl,
)
