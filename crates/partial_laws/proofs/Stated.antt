-- What is stated of names and parts.
use Rattle.std.proofs.Common.{◌≡◌, true, false, List, map, filter, sym, ap, subst, ◌∙◌}
use Rattle.std.specs.Prelude.{filter_map, flat_map, bytes_eq, All}
use Rattle.list_places.specs.Has.{Has, Apart}
use Rattle.list_places.proofs.Lists.{has_right}
use Rattle.name_rules.specs.object_file.wl_base.Choice.{distinct}
use Rattle.made_symbols.specs.declared.mode.Mode.TheVariants.{Plain}
use Rattle.made_symbols.specs.Made.{made}
use Rattle.name_rules.specs.object_file.linking_section.Flags.{is_undefined}
use Rattle.name_rules.specs.Entries.{InputSymbol, name_of, is_entry, entries, symbols_of, made_from, same_entry, same_import}
use Rattle.name_rules.specs.Meanings.{no_uses, meaning}
use Rattle.name_rules.specs.Cases.{clash, duplicate}
use Rattle.link_rules.specs.Program.{Program, winners_of}
use Rattle.link_rules.specs.Keys.{import_of}
use Rattle.partial_laws.specs.Joining.{Joining, joined, IsJoining}
use Rattle.partial_laws.specs.Inputs.{Run, Objects, whole_objects, later_objects}
use Rattle.partial_laws.specs.Standing.{alone_symbol, joining}
use Rattle.partial_laws.specs.Joined.{linked_symbols, SymbolsStand, NamesStand, OpensStand}
use Rattle.partial_laws.specs.Names.{StandsForRun, NamesKept, NamesAreKept}
use Rattle.partial_laws.specs.Kept.{PartsAreKept}
use Rattle.partial_laws.proofs.Groups.{before_kept, behind_kept, run_kept, joined_kept}
use Rattle.partial_laws.proofs.Joins.{symbols_joined, entries_joined}
use Rattle.partial_laws.proofs.Winners.{winners_move}
use Rattle.partial_laws.proofs.Meant.{meaning_moves}
use Rattle.partial_laws.proofs.Imports.{imports_joined}
use Rattle.partial_laws.proofs.Cases.{duplicate_joined, clash_joined}
use Rattle.partial_laws.proofs.Clashing.{explicit_agrees}
use Rattle.partial_laws.proofs.Loading.{apart_alone, apart_linked, middle_found, low_entries, alone_defines}
use Rattle.partial_laws.proofs.Taken.{taken, dropped}
use Rattle.partial_laws.proofs.Earliest.{symbols_first, entries_first, stubs_joined}
use Rattle.partial_laws.proofs.Instance.{is_joining, all_known, all_from_has}

pub parts_are_kept : PartsAreKept
parts_are_kept run os cut = record {
  before = before_kept run os cut;
  behind = behind_kept run os cut;
  of_run = run_kept run os cut;
  joined = joined_kept run os cut;
}

module _ (run : Run) (os : Objects) (p : Program) (s : StandsForRun run os p) where
  abbrev j : Joining
  j = joining run os p

  abbrev K : InputSymbol → Type 0
  K e = Has (linked_symbols (whole_objects os)) e

  abbrev es : List InputSymbol
  es = entries Plain (whole_objects os)

  abbrev syms : List InputSymbol
  syms = flat_map (symbols_of (whole_objects os)) (whole_objects os)

  -- ---- what stands

  pub stand : SymbolsStand run os p
  stand = record {
    program = s.program.symbols_are;
    symbols = s.read.symbols;
    apart = subst (Apart same_entry) (sym s.program.symbols_are) (apart_alone run os s.cut s.loaded.rise);
    found = middle_found run os s.cut s.loaded.rise;
  }

  pub names : NamesStand run os p
  names = record {
    entries_are = s.program.entries_are;
    winners_are = s.program.winners_are;
    low = low_entries (whole_objects os) s.loaded.low;
    closed = s.read.closed;
    alone_defines = alone_defines run os s.cut s.loaded.rise;
    taken = taken run os p s.cut s.loaded;
  }

  pub opens : OpensStand run os p
  opens = record {
    on_import = s.refer.on_import;
    no_import = s.refer.no_import;
    dropped = subst (λ xs. All (λ (e : InputSymbol). is_entry e ≡ true → (alone_symbol run os e).defines ≡ false → is_undefined e.symbol ≡ false → (d : InputSymbol) × Has xs d × (name_of d ≡ name_of e) × (d.defines ≡ true))
        (flat_map (symbols_of (whole_objects os)) os.middle)) (sym s.program.entries_are) (dropped run os p s.cut s.loaded);
    uniform = s.uniform;
    grounded = s.grounded;
    no_clash = s.no_clash;
  }

  pub apart : Apart same_entry (linked_symbols (whole_objects os))
  apart = apart_linked (whole_objects os) s.loaded.rise

  -- ---- so what is kept

  entries_is : entries Plain (later_objects run os) ≡ joined (joining run os p) (entries Plain (whole_objects os))
  entries_is = entries_joined run os p s.cut stand

  symbols_is : flat_map (symbols_of (later_objects run os)) (later_objects run os) ≡ joined (joining run os p) (flat_map (symbols_of (whole_objects os)) (whole_objects os))
  symbols_is = symbols_joined run os p s.cut stand

  pub is : IsJoining (joining run os p) K (entries Plain (whole_objects os))
  is = is_joining run os p s.cut stand names s.read.read opens apart

  pub all : All K (entries Plain (whole_objects os))
  all = all_known run os p s.cut stand names s.read.read opens apart

  all_syms : All K (flat_map (symbols_of (whole_objects os)) (whole_objects os))
  all_syms = all_from_has K (flat_map (symbols_of (whole_objects os)) (whole_objects os)) (λ e has. has_right (made_from 0 (made Plain)) (flat_map (symbols_of (whole_objects os)) (whole_objects os)) e has)

  pub kept_names : NamesKept run os p
  kept_names = record {
    symbols = (entries_is, symbols_is);
    winners = ap winners_of entries_is ∙ winners_move j K es is all;
    meanings = λ allow e known kept. ap (λ xs. meaning Plain no_uses allow xs (j.move e)) entries_is ∙ meaning_moves j K es is all allow e (record { symbol = known; kept = kept });
    imports = λ allow.
        ap (λ xs. distinct same_import (filter_map import_of (map (meaning Plain no_uses allow xs) (flat_map (symbols_of (later_objects run os)) (later_objects run os))))) entries_is
        ∙ (ap (λ xs. distinct same_import (filter_map import_of (map (meaning Plain no_uses allow (joined j es)) xs))) symbols_is
        ∙ imports_joined j K es is all allow syms all_syms (symbols_first run os p s.cut stand names s.read.read opens));
    names = λ test none.
        ap (λ xs. distinct bytes_eq (map name_of (filter (λ e. test (name_of e)) xs))) entries_is
        ∙ stubs_joined j K es is all test none (entries_first run os p s.cut stand names s.read.read opens);
    once = λ none. ap duplicate entries_is ∙ duplicate_joined j K es is all none;
    agree =
        ap clash entries_is
        ∙ clash_joined j K es is all s.no_clash (explicit_agrees run os p s.cut stand names s.read.read opens s.explicit is.entries is.name);
  }

pub names_are_kept : NamesAreKept
names_are_kept run os p s = kept_names run os p s
