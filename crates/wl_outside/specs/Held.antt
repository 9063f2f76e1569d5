-- Lists of named contents.
use Rattle.std.specs.Prelude.{◌≢◌, List, AllPairs}
use Rattle.wl_outside.specs.declared.held.Held.{Held}

-- no two have the same name
abbrev pub NamesDiffer : List Held → Type 0
NamesDiffer files = AllPairs (λ file later. file.name ≢ later.name) files
