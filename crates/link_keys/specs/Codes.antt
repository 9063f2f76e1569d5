-- Codes of keys: keys are one exactly where their codes are.
use Rattle.std.specs.Prelude.{ℕ, nat_eq, Bool, ◌&&◌}
use Rattle.link_program.specs.declared.keys.FunctionKey.{FunctionKey}
use Rattle.link_program.specs.declared.keys.FunctionKey.TheVariants as functions
use Rattle.link_program.specs.declared.keys.GotKey.{GotKey}
use Rattle.link_program.specs.declared.keys.GotKey.TheVariants as cells
use Rattle.link_program.specs.declared.keys.GlobalKey.{GlobalKey}
use Rattle.link_program.specs.declared.keys.GlobalKey.TheVariants as globals
use Rattle.link_keys.specs.declared.codes.Code.{Code}

abbrev pub same_code : Code → Code → Bool
same_code a b = nat_eq a.kind b.kind && (nat_eq a.input b.input && nat_eq a.index b.index)

abbrev pub function_code : FunctionKey → Code
function_code (functions.Import n) = record { kind = 0; input = 0; index = n }
function_code (functions.Own input index) = record { kind = 1; input = input; index = index }
function_code (functions.Stub n) = record { kind = 2; input = 0; index = n }

abbrev pub got_code : GotKey → Code
got_code (cells.Here d) = record { kind = 2; input = d.input; index = d.place }
got_code (cells.Import n) = record { kind = 3; input = 0; index = n }
got_code (cells.Null kind) = record { kind = 4; input = 0; index = kind }

abbrev pub global_code : GlobalKey → Code
global_code (globals.Import n) = record { kind = 0; input = 0; index = n }
global_code (globals.Own input index) = record { kind = 1; input = input; index = index }
global_code (globals.Got key) = got_code key
global_code (globals.Datum d) = record { kind = 5; input = d.input; index = d.place }
