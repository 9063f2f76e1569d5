-- What is looked at of loaded objects, whose bytes are parts of files, and of where things are.
use Rattle.std.specs.Prelude.{ℕ, List, [], ◌∷◌}
use Rattle.wl_base.specs.declared.span.FileSpan.{FileSpan}
use Rattle.image_emit.specs.Bytes.{file_part}
use Rattle.object_file.specs.declared.object.Object.{Object}
use Rattle.debug_rules.specs.Faults.{Input}
use Rattle.debug_rules.specs.Joined.{Places}
use Rattle.debug_out.specs.declared.places.DebugPlaces.{DebugPlaces}

abbrev pub input_of : List ℕ → Object → Input
input_of bytes o = record { input = o.input; bytes = bytes; symbols = o.symbols }

abbrev pub inputs_of : List (List ℕ) → List Object → List FileSpan → List Input
inputs_of files [] spans = []
inputs_of files (o ∷ os) [] = []
inputs_of files (o ∷ os) (s ∷ ss) = input_of (file_part files s) o ∷ inputs_of files os ss

abbrev pub places_of : DebugPlaces → Places
places_of p = record { bodies = p.bodies; addresses = p.addresses; slots = p.slots; globals = p.globals }
