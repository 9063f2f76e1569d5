-- Numbers of keys by their codes, and slots.
use Rattle.std.proofs.Common.{◌≡◌, ℕ, ◌+◌, ◌<◌, ◌^◌, List, map, length, position, Option, Some, None, unwrap_or, refl, arith}
use Rattle.std.proofs.lemmas.List.Quantifiers.{position-Some}
use Rattle.link_keys.specs.link_program.index_layout.Numbers.{number_by}
use Rattle.link_keys.specs.link_program.declared.keys.FunctionKey.{FunctionKey}
use Rattle.link_keys.specs.link_program.declared.keys.GlobalKey.{GlobalKey}
use Rattle.link_keys.specs.link_program.Keys.{same_function_key, same_global_key}
use Rattle.link_keys.specs.Codes.{same_code, global_code}
use Rattle.link_numbers.specs.Places.{place_of}
use Rattle.link_numbers.proofs.Knows.{same_global_code}
use Rattle.link_keys.proofs.Positions.{number_of_map}

pub global_coded : (keys : List GlobalKey) (key : GlobalKey) → unwrap_or (place_of (map global_code keys) (global_code key)) 0 ≡ number_by same_global_key keys key
global_coded keys key = number_of_map global_code same_global_key same_code key keys (λ k d below. same_global_code key _)

-- a slot's number stays below the end of the slots
pub slot_below : (first : ℕ) (keys : List FunctionKey) (key : FunctionKey) → first + length keys < 2 ^ 32 → first + number_by same_function_key keys key < 2 ^ 32
slot_below first keys key room = by_place (position (same_function_key key) keys) refl
  where
    by_place : (o : Option ℕ) → position (same_function_key key) keys ≡ o → first + unwrap_or o 0 < 2 ^ 32
    by_place None is = omega arith
    by_place (Some n) is = let w = position-Some (same_function_key key) keys n key is in let below : n < length keys = w.0 in omega arith
