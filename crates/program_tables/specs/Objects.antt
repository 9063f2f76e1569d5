-- Where objects and their symbols stand, by input.
use Rattle.std.specs.Prelude.{◌≡◌, ℕ, ◌==◌, List, find, slice_get, Option, Some, option_and_then}
use Rattle.link_program.specs.object_file.declared.object.Object.{Object}
use Rattle.link_program.specs.name_rules.Entries.{InputSymbol, symbols_of}

-- By input, the place of the object among the objects.
abbrev pub ArePlaces : List Object → List ℕ → Type 0
ArePlaces objects places = (i : ℕ) (o : Object) → slice_get objects i ≡ Some o → slice_get places o.input ≡ Some i

-- The object of an input.
abbrev pub object_of : List Object → ℕ → Option Object
object_of objects input = find (λ o. o.input == input) objects

-- The symbol of an input at a place.
abbrev pub symbol_of : List Object → ℕ → ℕ → Option InputSymbol
symbol_of objects input place = option_and_then (λ o. slice_get (symbols_of objects o) place) (object_of objects input)
