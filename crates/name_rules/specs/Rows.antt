-- Worked names: winners, meanings, groups, the least cases.
use Rattle.std.specs.Prelude.{◌≡◌, ℕ, Bool, true, false, List, [], ◌∷◌, Option, Some, None, option_map, refl, codes}
use Rattle.object_file.specs.wl_base.declared.fault.Fault.TheVariants.{Clash, Duplicate}
use Rattle.object_file.specs.wasm_types.declared.value.ValType.TheVariants.{I32}
use Rattle.object_file.specs.linking_section.declared.symbol.Symbol.{Symbol}
use Rattle.object_file.specs.linking_section.declared.symbol.SymbolKind.{SymbolKind}
use Rattle.object_file.specs.linking_section.declared.symbol.SymbolKind.TheVariants.{Function, Datum}
use Rattle.object_file.specs.declared.object.Object.{Object}
use Rattle.object_file.specs.Spaces.{no_type}
use Rattle.made_symbols.specs.declared.mode.Mode.TheVariants.{Plain}
use Rattle.name_rules.specs.Entries.{InputSymbol, ImportKey, of_function, untyped, is_kept, in_kept_part}
use Rattle.name_rules.specs.Meanings.{Meaning, imported, null, nothing, no_uses, winner, meaning}
use Rattle.name_rules.specs.Cases.{clash, loose_clash, duplicate}

-- ---- small entries, all of the name f

abbrev pub f : List ℕ
f = codes "f"

abbrev pub symbol : SymbolKind → ℕ → Symbol
symbol kind flags = record { kind = kind; flags = flags; name = Some f; index = 0; offset = 0; size = 0 }

-- a function that an input defines, of a class
abbrev pub defined : ℕ → ℕ → InputSymbol
defined input class = record { input = input; place = 0; symbol = symbol Function class; type = of_function no_type; import = None; defines = true; class = class; index = 0 }

abbrev pub key : List ℕ → ImportKey
key field = record { module_name = codes "m"; field = field; type = of_function no_type }

-- one that an input refers to, with these flags, by an import
abbrev pub wanted : ℕ → ℕ → List ℕ → InputSymbol
wanted input flags field = record (defined input 0) { symbol = symbol Function flags; import = Some (key field); defines = false }

-- ---- winners

abbrev pub winning : List InputSymbol → Option ℕ
winning all = option_map (λ e. e.input) (winner all f)

strong_wins : winning (defined 1 1 ∷ defined 2 0 ∷ []) ≡ Some 2
strong_wins = refl

first_weak_wins : winning (defined 1 1 ∷ defined 2 1 ∷ []) ≡ Some 1
first_weak_wins = refl

references_win_nothing : winning (wanted 1 0x10 f ∷ []) ≡ None
references_win_nothing = refl

-- ---- meanings, without and with `--allow-undefined`

abbrev pub meant : Bool → List InputSymbol → InputSymbol → Meaning
meant allow all e = meaning Plain no_uses allow all e

strong_is_nothing : meant false (wanted 1 0x10 (codes "a") ∷ []) (wanted 1 0x10 (codes "a")) ≡ nothing
strong_is_nothing = refl

weak_is_null : meant false (wanted 1 0x11 (codes "a") ∷ []) (wanted 1 0x11 (codes "a")) ≡ null
weak_is_null = refl

allowed_is_imported : meant true (wanted 1 0x10 (codes "a") ∷ wanted 2 0x10 (codes "b") ∷ []) (wanted 2 0x10 (codes "b")) ≡ imported (key (codes "a"))
allowed_is_imported = refl

explicit_comes_first : meant true (wanted 1 0x10 (codes "a") ∷ wanted 2 0x50 (codes "b") ∷ []) (wanted 1 0x10 (codes "a")) ≡ imported (key (codes "b"))
explicit_comes_first = refl

-- ---- cases

second_strong : duplicate (defined 1 1 ∷ defined 2 0 ∷ defined 5 0 ∷ []) ≡ Some (Duplicate f 2 5)
unfolding duplicate
second_strong = refl

other_type : clash (wanted 1 0x10 f ∷ record (defined 2 0) { type = of_function (record { params = I32 ∷ []; results = [] }) } ∷ []) ≡ Some (Clash f 1 2)
unfolding clash
other_type = refl

other_import : clash (wanted 1 0x50 (codes "a") ∷ wanted 2 0x50 (codes "b") ∷ []) ≡ Some (Clash f 1 2)
unfolding clash
other_import = refl

-- ---- clashes in a link that is like lld's: a function that is no definition may have another type than the definition

abbrev pub other_function : InputSymbol → InputSymbol
other_function e = record e { type = of_function (record { params = I32 ∷ []; results = [] }) }

loose_types : loose_clash (wanted 1 0x10 f ∷ other_function (defined 2 0) ∷ wanted 3 0x10 f ∷ []) ≡ None
unfolding loose_clash
loose_types = refl

loose_definitions : loose_clash (defined 1 1 ∷ other_function (defined 2 0) ∷ []) ≡ Some (Clash f 1 2)
unfolding loose_clash
loose_definitions = refl

loose_references : loose_clash (wanted 1 0x10 f ∷ other_function (wanted 2 0x10 f) ∷ []) ≡ Some (Clash f 1 2)
unfolding loose_clash
loose_references = refl

loose_kinds : loose_clash (wanted 1 0x10 f ∷ record (defined 2 0) { symbol = symbol Datum 0; type = untyped } ∷ []) ≡ Some (Clash f 2 1)
unfolding loose_clash
loose_kinds = refl

loose_imports : loose_clash (wanted 1 0x50 (codes "a") ∷ wanted 2 0x50 (codes "b") ∷ defined 3 0 ∷ []) ≡ Some (Clash f 1 2)
unfolding loose_clash
loose_imports = refl

-- ---- groups: inputs 1 and 2 have the group c of function 0 and segment 0

abbrev pub grouping : ℕ → Object
grouping input = record {
  input = input;
  types = [];
  imports = [];
  functions = [];
  globals = [];
  segments = [];
  symbols = [];
  inits = [];
  groups = record { name = codes "c"; members = record { kind = 1; index = 0 } ∷ record { kind = 0; index = 0 } ∷ [] } ∷ [];
}

abbrev pub both : List Object
both = grouping 1 ∷ grouping 2 ∷ []

first_is_kept : is_kept both (grouping 1) 1 0 ≡ true
first_is_kept = refl

second_is_dropped : is_kept both (grouping 2) 1 0 ≡ false
second_is_dropped = refl

datum_is_dropped : in_kept_part both (grouping 2) (symbol Datum 0) Datum ≡ false
datum_is_dropped = refl
