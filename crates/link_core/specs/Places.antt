-- What an output says of places in its functions, where debug sections stand behind it.
use Rattle.std.specs.Prelude.{◌≡◌, ℕ, List, Ok}
use Rattle.link_output.specs.link_program.link_plan.declared.plan.Plan.{Plan}
use Rattle.link_output.specs.link_program.link_rules.LinkOf.{link_of}
use Rattle.link_tails.specs.debug_links.Offsets.{OffsetsKept}

-- Behind the module that the link gives stand sections whose places in functions are those of the same instructions.
abbrev pub SaysPlaces : Plan → List (List ℕ) → List ℕ → Type 0
SaysPlaces plan files whole = (bytes : List ℕ) × (link_of plan files ≡ Ok bytes) × OffsetsKept plan files bytes whole
