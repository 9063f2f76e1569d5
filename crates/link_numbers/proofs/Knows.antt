-- Keys that are known, and that keys as they are told are one exactly where the keys are.
use Rattle.std.proofs.Common.{◌≡◌, ℕ, ◌==◌, false, ◌&&◌, List, refl, arith}
use Rattle.std.specs.Prelude.{bytes_eq}
use Rattle.std.proofs.lemmas.Bool.Decides.{nat_tests}
use Rattle.link_keys.specs.link_program.name_rules.Entries.{ImportKey, same_import}
use Rattle.link_keys.specs.link_program.link_rules.Keys as rules
use Rattle.link_keys.specs.link_program.link_rules.Keys.{outside, linker_function, stub, own, same_function, got_entry, got_import, got_null, same_got, outside_global, linker_global, own_global, got, exported_datum, same_global, function_of, meant_function, ref_function, global_of, got_of, ref_got, meant_global, ref_global}
use Rattle.link_keys.specs.link_program.declared.keys.FunctionKey.{FunctionKey}
use Rattle.link_keys.specs.link_program.declared.keys.FunctionKey.TheVariants as functions
use Rattle.link_keys.specs.link_program.declared.symbol.Definition.{Definition}
use Rattle.link_keys.specs.link_program.declared.keys.GotKey.{GotKey}
use Rattle.link_keys.specs.link_program.declared.keys.GotKey.TheVariants as cells
use Rattle.link_keys.specs.link_program.declared.keys.GlobalKey.{GlobalKey}
use Rattle.link_keys.specs.link_program.declared.keys.GlobalKey.TheVariants as globals
use Rattle.link_keys.specs.link_program.Keys.{told_function, told_got, told_global, same_function_key, same_got_key, same_global_key}
use Rattle.link_keys.specs.Codes.{same_code, function_code, got_code, global_code}
use Rattle.link_numbers.specs.Knows.{KnowsFunction, KnowsGot, KnowsGlobal}
use Rattle.link_keys.proofs.Equals.{same_numbers}
use Rattle.link_keys.proofs.Heard.{same_got_code}
use Rattle.link_keys.proofs.Imports.{import_equal, import_itself, name_equal, name_itself}

-- ---- codes

pub same_function_code : (a b : FunctionKey) → same_code (function_code a) (function_code b) ≡ same_function_key a b
same_function_code (functions.Import a) (functions.Import b) = refl
same_function_code (functions.Import a) (functions.Own input index) = refl
same_function_code (functions.Import a) (functions.Stub b) = refl
same_function_code (functions.Own input index) (functions.Import b) = refl
same_function_code (functions.Own a i) (functions.Own b j) = refl
same_function_code (functions.Own input index) (functions.Stub b) = refl
same_function_code (functions.Stub a) (functions.Import b) = refl
same_function_code (functions.Stub a) (functions.Own input index) = refl
same_function_code (functions.Stub a) (functions.Stub b) = refl

import_and_got : (a : ℕ) (key : GotKey) → same_code (global_code (globals.Import a)) (got_code key) ≡ false
import_and_got a (cells.Here d) = refl
import_and_got a (cells.Import b) = refl
import_and_got a (cells.Null b) = refl

got_and_import : (key : GotKey) (a : ℕ) → same_code (got_code key) (global_code (globals.Import a)) ≡ false
got_and_import (cells.Here d) a = refl
got_and_import (cells.Import b) a = refl
got_and_import (cells.Null b) a = refl

own_and_got : (input index : ℕ) (key : GotKey) → same_code (global_code (globals.Own input index)) (got_code key) ≡ false
own_and_got input index (cells.Here d) = refl
own_and_got input index (cells.Import b) = refl
own_and_got input index (cells.Null b) = refl

got_and_own : (key : GotKey) (input index : ℕ) → same_code (got_code key) (global_code (globals.Own input index)) ≡ false
got_and_own (cells.Here d) input index = refl
got_and_own (cells.Import b) input index = refl
got_and_own (cells.Null b) input index = refl

datum_and_got : (d : Definition) (key : GotKey) → same_code (global_code (globals.Datum d)) (got_code key) ≡ false
datum_and_got d (cells.Here e) = refl
datum_and_got d (cells.Import b) = refl
datum_and_got d (cells.Null b) = refl

got_and_datum : (key : GotKey) (d : Definition) → same_code (got_code key) (global_code (globals.Datum d)) ≡ false
got_and_datum (cells.Here e) d = refl
got_and_datum (cells.Import b) d = refl
got_and_datum (cells.Null b) d = refl

pub same_global_code : (a b : GlobalKey) → same_code (global_code a) (global_code b) ≡ same_global_key a b
same_global_code (globals.Import a) (globals.Import b) = refl
same_global_code (globals.Import a) (globals.Own input index) = refl
same_global_code (globals.Import a) (globals.Got key) = import_and_got a key
same_global_code (globals.Import a) (globals.Datum d) = refl
same_global_code (globals.Own input index) (globals.Import b) = refl
same_global_code (globals.Own a i) (globals.Own b j) = refl
same_global_code (globals.Own input index) (globals.Got key) = own_and_got input index key
same_global_code (globals.Own input index) (globals.Datum d) = refl
same_global_code (globals.Got key) (globals.Import b) = got_and_import key b
same_global_code (globals.Got key) (globals.Own input index) = got_and_own key input index
same_global_code (globals.Got a) (globals.Got b) = same_got_code a b
same_global_code (globals.Got key) (globals.Datum d) = got_and_datum key d
same_global_code (globals.Datum d) (globals.Import b) = refl
same_global_code (globals.Datum d) (globals.Own input index) = refl
same_global_code (globals.Datum d) (globals.Got key) = datum_and_got d key
same_global_code (globals.Datum a) (globals.Datum b) = refl

-- ---- functions

made_or_own : (n input index : ℕ) → (input == 0) ≡ false → ((0 == input) && (n == index)) ≡ false
made_or_own n input index is = let e : (0 == input) ≡ false = grind (arith, nat_tests) in rw e refl

own_or_made : (n input index : ℕ) → (input == 0) ≡ false → ((input == 0) && (index == n)) ≡ false
own_or_made n input index is = rw is refl

module _ (names : List (List ℕ)) (imports : List ImportKey) where
  pub tells_function : (a b : rules.FunctionKey) → KnowsFunction names imports a → KnowsFunction names imports b
      → same_function_key (told_function names imports a) (told_function names imports b) ≡ same_function a b
  tells_function (outside a) (outside b) ka kb = same_numbers same_import import_equal import_itself imports a b ka kb
  tells_function (outside a) (linker_function b) ka kb = refl
  tells_function (outside a) (stub b) ka kb = refl
  tells_function (outside a) (own b j) ka kb = refl
  tells_function (linker_function a) (outside b) ka kb = refl
  tells_function (linker_function a) (linker_function b) ka kb = refl
  tells_function (linker_function a) (stub b) ka kb = refl
  tells_function (linker_function a) (own b j) ka kb = made_or_own a b j kb
  tells_function (stub a) (outside b) ka kb = refl
  tells_function (stub a) (linker_function b) ka kb = refl
  tells_function (stub a) (stub b) ka kb = same_numbers bytes_eq name_equal name_itself names a b ka kb
  tells_function (stub a) (own b j) ka kb = refl
  tells_function (own a i) (outside b) ka kb = refl
  tells_function (own a i) (linker_function b) ka kb = own_or_made b a i ka
  tells_function (own a i) (stub b) ka kb = refl
  tells_function (own a i) (own b j) ka kb = refl

pub tells_got : (imports : List ImportKey) (a b : rules.GotKey) → KnowsGot imports a → KnowsGot imports b → same_got_key (told_got imports a) (told_got imports b) ≡ same_got a b
tells_got imports (got_entry a) (got_entry b) ka kb = refl
tells_got imports (got_entry a) (got_import b) ka kb = refl
tells_got imports (got_entry a) (got_null b) ka kb = refl
tells_got imports (got_import a) (got_entry b) ka kb = refl
tells_got imports (got_import a) (got_import b) ka kb = same_numbers same_import import_equal import_itself imports a b ka kb
tells_got imports (got_import a) (got_null b) ka kb = refl
tells_got imports (got_null a) (got_entry b) ka kb = refl
tells_got imports (got_null a) (got_import b) ka kb = refl
tells_got imports (got_null a) (got_null b) ka kb = refl

pub tells_global : (imports : List ImportKey) (a b : rules.GlobalKey) → KnowsGlobal imports a → KnowsGlobal imports b → same_global_key (told_global imports a) (told_global imports b) ≡ same_global a b
tells_global imports (outside_global a) (outside_global b) ka kb = same_numbers same_import import_equal import_itself imports a b ka kb
tells_global imports (outside_global a) (linker_global b) ka kb = refl
tells_global imports (outside_global a) (own_global b j) ka kb = refl
tells_global imports (outside_global a) (got b) ka kb = refl
tells_global imports (outside_global a) (exported_datum b) ka kb = refl
tells_global imports (linker_global a) (outside_global b) ka kb = refl
tells_global imports (linker_global a) (linker_global b) ka kb = refl
tells_global imports (linker_global a) (own_global b j) ka kb = made_or_own a b j kb
tells_global imports (linker_global a) (got b) ka kb = refl
tells_global imports (linker_global a) (exported_datum b) ka kb = refl
tells_global imports (own_global a i) (outside_global b) ka kb = refl
tells_global imports (own_global a i) (linker_global b) ka kb = own_or_made b a i ka
tells_global imports (own_global a i) (own_global b j) ka kb = refl
tells_global imports (own_global a i) (got b) ka kb = refl
tells_global imports (own_global a i) (exported_datum b) ka kb = refl
tells_global imports (got a) (outside_global b) ka kb = refl
tells_global imports (got a) (linker_global b) ka kb = refl
tells_global imports (got a) (own_global b j) ka kb = refl
tells_global imports (got a) (got b) ka kb = tells_got imports a b ka kb
tells_global imports (got a) (exported_datum b) ka kb = refl
tells_global imports (exported_datum a) (outside_global b) ka kb = refl
tells_global imports (exported_datum a) (linker_global b) ka kb = refl
tells_global imports (exported_datum a) (own_global b j) ka kb = refl
tells_global imports (exported_datum a) (got b) ka kb = refl
tells_global imports (exported_datum a) (exported_datum b) ka kb = refl
