-- Where one object stands for a run, names have the same winners, symbols the same meanings, and imports one order; and no fault of names is new.
use Rattle.std.specs.Prelude.{◌≡◌, ℕ, Bool, true, false, is_some, List, map, filter, filter_map, flat_map, bytes_eq, IsTrue, All, None}
use Rattle.list_places.specs.Has.{Has}
use Rattle.name_rules.specs.object_file.wl_base.Choice.{distinct}
use Rattle.name_rules.specs.object_file.linking_section.declared.symbol.SymbolKind.TheVariants.{Datum}
use Rattle.name_rules.specs.object_file.linking_section.Flags.{is_undefined}
use Rattle.name_rules.specs.object_file.declared.object.Object.{Object}
use Rattle.made_symbols.specs.declared.mode.Mode.TheVariants.{Plain}
use Rattle.name_rules.specs.Entries.{InputSymbol, name_of, is_kind, is_entry, entries, symbols_of, same_import}
use Rattle.name_rules.specs.Meanings.{no_uses, meaning, winner}
use Rattle.name_rules.specs.Cases.{clash, duplicate}
use Rattle.link_rules.specs.Program.{Program, winners_of}
use Rattle.link_rules.specs.Marks.{all_symbols}
use Rattle.link_rules.specs.Keys.{import_of}
use Rattle.partial_rules.specs.Partial.{stands, standing, is_open, symbol_for}
use Rattle.partial_laws.specs.Joining.{joined, moved}
use Rattle.partial_laws.specs.Inputs.{Run, Objects, whole_objects, run_objects, later_objects, AreCut}
use Rattle.partial_laws.specs.Standing.{alone_symbol, joined_symbol, joining}
use Rattle.partial_laws.specs.Joined.{linked_symbols, SymbolsRead}
use Rattle.partial_laws.specs.Loaded.{AreLoaded}
use Rattle.partial_laws.specs.Premises.{is_uniform, is_grounded, explicit_among}

-- A program of these objects, in which each call is as the objects have it.
pub record IsOf (p : Program) (objects : List Object) : Type 0 where
  pub entries_are : p.entries ≡ entries Plain objects
  pub winners_are : p.winners ≡ winners_of p.entries
  pub symbols_are : all_symbols p ≡ flat_map (symbols_of objects) objects

-- As one object is read that stands for the run: it has the symbols that stand in the run alone, and each that isn't open defines what it does in the
-- whole link.
pub record IsRead (run : Run) (os : Objects) (p : Program) : Type 0 where
  pub symbols : os.joined.symbols ≡ map (symbol_for p) (standing p)
  pub read : SymbolsRead run os p
  pub closed : All (λ (e : InputSymbol). stands p (alone_symbol run os e) ≡ true → is_open p (alone_symbol run os e) ≡ false → (joined_symbol run os p (alone_symbol run os e)).defines ≡ e.defines)
      (flat_map (symbols_of (whole_objects os)) os.middle)

-- References of the run: an undefined entry that isn't a datum stands on an import, and a datum on none.
pub record Refer (run : Run) (os : Objects) : Type 0 where
  pub on_import : All (λ (e : InputSymbol). is_entry e ≡ true → is_undefined e.symbol ≡ true → is_kind Datum e ≡ false → is_some e.import ≡ true) (flat_map (symbols_of (whole_objects os)) os.middle)
  pub no_import : All (λ (e : InputSymbol). is_kind Datum e ≡ true → e.import ≡ None) (flat_map (symbols_of (whole_objects os)) os.middle)

-- One object stands for a run of the whole link's objects, and this is the program of the run alone; with what the law asks for.
pub record StandsForRun (run : Run) (os : Objects) (p : Program) : Type 0 where
  pub cut : AreCut run os
  pub loaded : AreLoaded (whole_objects os)
  pub program : IsOf p (run_objects run os)
  pub read : IsRead run os p
  pub refer : Refer run os
  pub uniform : IsTrue (is_uniform p)
  pub grounded : IsTrue (is_grounded p)
  pub explicit : IsTrue (explicit_among (entries Plain (whole_objects os)))
  pub no_clash : clash (entries Plain (whole_objects os)) ≡ None

-- The entries of the later link, and all symbols of its objects, are those of the whole link that are kept, moved.
abbrev pub SymbolsMove : Run → Objects → Program → Type 0
SymbolsMove run os p =
    (entries Plain (later_objects run os) ≡ joined (joining run os p) (entries Plain (whole_objects os)))
    × (flat_map (symbols_of (later_objects run os)) (later_objects run os) ≡ joined (joining run os p) (flat_map (symbols_of (whole_objects os)) (whole_objects os)))

-- The winners of the later link are the moved winners, in one order.
abbrev pub WinnersMove : Run → Objects → Program → Type 0
WinnersMove run os p = winners_of (entries Plain (later_objects run os)) ≡ map (joining run os p).move (winners_of (entries Plain (whole_objects os)))

-- A kept symbol means what it meant, moved, with `--allow-undefined` and without.
abbrev pub MeaningsMove : Run → Objects → Program → Type 0
MeaningsMove run os p =
    (allow : Bool) (e : InputSymbol) → Has (linked_symbols (whole_objects os)) e → (joining run os p).keep e ≡ true
    → meaning Plain no_uses allow (entries Plain (later_objects run os)) ((joining run os p).move e) ≡ moved (joining run os p) (meaning Plain no_uses allow (entries Plain (whole_objects os)) e)

-- The imports that symbols mean are the same, in one order.
abbrev pub ImportsStay : Run → Objects → Program → Type 0
ImportsStay run os p =
    (allow : Bool)
    → distinct same_import (filter_map import_of (map (meaning Plain no_uses allow (entries Plain (later_objects run os))) (flat_map (symbols_of (later_objects run os)) (later_objects run os))))
    ≡ distinct same_import (filter_map import_of (map (meaning Plain no_uses allow (entries Plain (whole_objects os))) (flat_map (symbols_of (whole_objects os)) (whole_objects os))))

-- The names of entries that a test picks among those without a winner are the same, in one order: those of null functions, say.
abbrev pub NamesStay : Run → Objects → Type 0
NamesStay run os =
    (test : List ℕ → Bool) → ((name : List ℕ) → test name ≡ true → winner (entries Plain (whole_objects os)) name ≡ None)
    → distinct bytes_eq (map name_of (filter (λ e. test (name_of e)) (entries Plain (later_objects run os)))) ≡ distinct bytes_eq (map name_of (filter (λ e. test (name_of e)) (entries Plain (whole_objects os))))

-- No name is defined twice that wasn't.
abbrev pub NoneTwice : Run → Objects → Type 0
NoneTwice run os = duplicate (entries Plain (whole_objects os)) ≡ None → duplicate (entries Plain (later_objects run os)) ≡ None

-- No names clash.
abbrev pub NoneClash : Run → Objects → Type 0
NoneClash run os = clash (entries Plain (later_objects run os)) ≡ None

pub record NamesKept (run : Run) (os : Objects) (p : Program) : Type 0 where
  pub symbols : SymbolsMove run os p
  pub winners : WinnersMove run os p
  pub meanings : MeaningsMove run os p
  pub imports : ImportsStay run os p
  pub names : NamesStay run os
  pub once : NoneTwice run os
  pub agree : NoneClash run os

abbrev pub NamesAreKept : Type 0
NamesAreKept = (run : Run) (os : Objects) (p : Program) → StandsForRun run os p → NamesKept run os p
