-- Places of keys by their codes.
use Rattle.std.proofs.Common.{◌≡◌, List, map, position}
use Rattle.link_program.specs.declared.keys.FunctionKey.{FunctionKey}
use Rattle.link_program.specs.declared.keys.GlobalKey.{GlobalKey}
use Rattle.link_program.specs.Keys.{same_function_key, same_global_key}
use Rattle.link_keys.specs.Codes.{same_code, function_code, global_code}
use Rattle.link_numbers.specs.Places.{place_of}
use Rattle.link_numbers.proofs.Knows.{same_function_code, same_global_code}
use Rattle.link_keys.proofs.Positions.{position_of_map}

pub function_placed : (keys : List FunctionKey) (key : FunctionKey) → place_of (map function_code keys) (function_code key) ≡ position (same_function_key key) keys
function_placed keys key = position_of_map function_code (same_function_key key) (same_code (function_code key)) keys (λ k d below. same_function_code key _)

pub cell_placed : (keys : List GlobalKey) (key : GlobalKey) → place_of (map global_code keys) (global_code key) ≡ position (same_global_key key) keys
cell_placed keys key = position_of_map global_code (same_global_key key) (same_code (global_code key)) keys (λ k d below. same_global_code key _)
