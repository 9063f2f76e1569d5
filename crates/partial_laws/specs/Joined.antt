-- What the symbols of one object that stands for a run are: those that stand in the run alone, in their order.
use Rattle.std.specs.Prelude.{◌≡◌, ◌^◌, ◌<◌, ◌≤◌, ◌==◌, true, false, List, ◌++◌, map, flat_map, find, length, if◌then◌else◌, is_some, IsTrue, All, Some, None}
use Rattle.list_places.specs.Has.{Has, Apart}
use Rattle.name_rules.specs.object_file.linking_section.declared.symbol.SymbolKind.TheVariants.{Datum}
use Rattle.name_rules.specs.object_file.linking_section.Flags.{is_undefined}
use Rattle.name_rules.specs.object_file.declared.object.Object.{Object}
use Rattle.name_rules.specs.Entries.{InputSymbol, name_of, is_kind, is_entry, entries, made_from, symbols_of, same_entry}
use Rattle.name_rules.specs.Cases.{clash}
use Rattle.made_symbols.specs.declared.mode.Mode.TheVariants.{Plain}
use Rattle.made_symbols.specs.Made.{made}
use Rattle.link_rules.specs.Program.{Program, winners_of}
use Rattle.link_rules.specs.Marks.{all_symbols}
use Rattle.partial_rules.specs.Partial.{stands, standing, is_open, open_import, symbol_for}
use Rattle.partial_laws.specs.Premises.{is_uniform, is_grounded}
use Rattle.partial_laws.specs.Inputs.{Run, Objects, whole_objects, run_objects}
use Rattle.partial_laws.specs.Standing.{alone_symbol, joined_symbol}

-- All symbols of a plain link: the linker's own, and those of objects.
abbrev pub linked_symbols : List Object → List InputSymbol
linked_symbols objects = made_from 0 (made Plain) ++ flat_map (symbols_of objects) objects

module _ (run : Run) (os : Objects) (p : Program) where
  -- The program is of the run's objects, and the one object has the symbols that stand there.
  pub record SymbolsStand : Type 0 where
    pub program : all_symbols p ≡ flat_map (symbols_of (run_objects run os)) (run_objects run os)
    pub symbols : os.joined.symbols ≡ map (symbol_for p) (standing p)
    -- no two are told by one input and place
    pub apart : Apart same_entry (all_symbols p)
    pub found : All (λ (o : Object). find (λ (x : Object). x.input == o.input) os.middle ≡ Some o) os.middle

  -- An entry before the run that defines the name of one, by the same class.
  pub record IsBefore (e d : InputSymbol) : Type 0 where
    pub entry : Has (entries Plain (whole_objects os)) d
    pub before : d.input ≤ run.first
    pub name : name_of d ≡ name_of e
    pub class : d.class ≡ e.class
    pub defines : d.defines ≡ true

  -- A symbol of the run that stands and isn't open defines what it does in the whole link; one whose part another input's group takes away from
  -- the run, in the whole link alone, has its name defined before the run.
  pub record NamesStand : Type 0 where
    pub entries_are : p.entries ≡ entries Plain (run_objects run os)
    pub winners_are : p.winners ≡ winners_of p.entries
    pub low : All (λ (e : InputSymbol). (e.class < 3) × (e.input < 2 ^ 20) × (e.place < 2 ^ 32)) (entries Plain (whole_objects os))
    pub closed : All (λ (e : InputSymbol). stands p (alone_symbol run os e) ≡ true → is_open p (alone_symbol run os e) ≡ false → (joined_symbol run os p (alone_symbol run os e)).defines ≡ e.defines)
        (flat_map (symbols_of (whole_objects os)) os.middle)
    pub alone_defines : All (λ (e : InputSymbol). e.defines ≡ true → (alone_symbol run os e).defines ≡ true) (flat_map (symbols_of (whole_objects os)) os.middle)
    pub taken : All (λ (e : InputSymbol). is_entry e ≡ true → e.defines ≡ false → (alone_symbol run os e).defines ≡ true → (d : InputSymbol) × IsBefore e d) (flat_map (symbols_of (whole_objects os)) os.middle)

  -- As the one object is read, its symbols have the types that they had, and stand on the imports on which they stood, or, if they are open, on their
  -- own; an open datum stands on none.
  pub record SymbolsRead : Type 0 where
    pub few : length (standing p) < 2 ^ 32
    pub type : All (λ (x : InputSymbol). (joined_symbol run os p x).type ≡ x.type) (standing p)
    pub closed_import : All (λ (x : InputSymbol). is_open p x ≡ false → (joined_symbol run os p x).import ≡ x.import) (standing p)
    pub import : All (λ (x : InputSymbol). is_open p x ≡ true → (joined_symbol run os p x).import ≡ (if is_kind Datum x then None else Some (open_import p x))) (standing p)

  -- References of the run: an undefined entry that isn't a datum stands on an import, and a datum on none; one whose part a group takes away in the
  -- run alone has its name defined there. The names that stay open have references that are alike, and one that stands on an import.
  pub record OpensStand : Type 0 where
    pub on_import : All (λ (e : InputSymbol). is_entry e ≡ true → is_undefined e.symbol ≡ true → is_kind Datum e ≡ false → is_some e.import ≡ true) (flat_map (symbols_of (whole_objects os)) os.middle)
    pub no_import : All (λ (e : InputSymbol). is_kind Datum e ≡ true → e.import ≡ None) (flat_map (symbols_of (whole_objects os)) os.middle)
    pub dropped : All (λ (e : InputSymbol). is_entry e ≡ true → (alone_symbol run os e).defines ≡ false → is_undefined e.symbol ≡ false
        → (d : InputSymbol) × Has p.entries d × (name_of d ≡ name_of e) × (d.defines ≡ true)) (flat_map (symbols_of (whole_objects os)) os.middle)
    pub uniform : IsTrue (is_uniform p)
    pub grounded : IsTrue (is_grounded p)
    pub no_clash : clash (entries Plain (whole_objects os)) ≡ None
