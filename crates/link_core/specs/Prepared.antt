-- An output that is ready to be written.
use Rattle.std.specs.Prelude.{◌≡◌, ◌<◌, ◌^◌, ℕ, List, length, Result, Ok, Err}
use Rattle.link_output.specs.link_program.reloc_apply.Windows.{filled}
use Rattle.link_output.specs.link_program.reloc_apply.Apart.{AreApart}
use Rattle.link_output.specs.link_program.image_emit.Bytes.{tree_of, bytes_of}
use Rattle.link_output.specs.link_program.image_emit.Measures.{LieIn, image_measure}
use Rattle.link_output.specs.link_program.declared.error.LinkError.{LinkError}
use Rattle.link_core.specs.declared.prepared.Prepared.{Prepared}

-- Its bytes: those of the image, with each patch written.
abbrev pub output_of : List (List ℕ) → Prepared → List ℕ
output_of files p = filled p.patches.patches (bytes_of (tree_of files p.image))

-- What is answered when it is written, or the error before that.
abbrev pub outputs : List (List ℕ) → Result Prepared LinkError → Result (List ℕ) LinkError
outputs files (Ok p) = Ok (output_of files p)
outputs files (Err e) = Err e

-- It can be written: its sources lie in the files, its patches apart in the output, which has fewer than 2^31 bytes.
pub record IsReady (files : List (List ℕ)) (p : Prepared) : Type 0 where
  pub measured : image_measure p.image ≡ Ok p.measured
  pub lie : LieIn files p.image
  pub apart : AreApart 0 (length (bytes_of (tree_of files p.image))) p.patches.patches
  pub short : p.measured.len < 2 ^ 31
