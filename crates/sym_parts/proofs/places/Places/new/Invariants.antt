use Rattle.std.proofs.Common.{◌≡◌, take}
use Rattle.indexmap.specs.IndexMap.{get}
use Rattle.link_keys.specs.Codes.{same_code}
use Rattle.link_numbers.specs.Places.{place_of}
use Rattle.link_keys.specs.declared.codes.Code.{Code}
use Rattle.sym_parts.proofs.places.Places.new.Given as goal

abbrev pub invariant-loop-at : goal.invariant-loop-at
invariant-loop-at l = (code : Code) → get same_code l.map code ≡ place_of (take l.at l.codes) code
