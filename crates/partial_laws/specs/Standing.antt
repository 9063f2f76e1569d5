-- Where the symbols of the whole link stand where one object stands for a run: those before the run stay, those behind it have another input, and
-- those of the run are the one object's.
use Rattle.std.specs.Prelude.{◌+◌, ◌==◌, nat_lt, nat_le, Bool, true, false, not, ◌&&◌, find, if◌then◌else◌, Option, Some, None}
use Rattle.name_rules.specs.object_file.linking_section.Flags.{is_undefined}
use Rattle.name_rules.specs.object_file.declared.object.Object.{Object}
use Rattle.name_rules.specs.Entries.{InputSymbol, in_kept_part, entry_in, same_entry}
use Rattle.index_layout.specs.Numbers.{number_by}
use Rattle.link_rules.specs.Program.{Program}
use Rattle.partial_rules.specs.Partial.{stands, standing, symbol_for}
use Rattle.partial_laws.specs.Joining.{Joining}
use Rattle.partial_laws.specs.Inputs.{Run, as_input, alone, later, Objects, run_objects, later_objects}

module _ (run : Run) (os : Objects) where
  abbrev pub is_of_run : InputSymbol → Bool
  is_of_run e = nat_lt run.first e.input && nat_le e.input (run.first + run.many)

  -- whether a symbol of the run defines in the run alone
  abbrev pub defines_in : InputSymbol → Option Object → Bool
  defines_in e None = false
  defines_in e (Some o) = not (is_undefined e.symbol) && in_kept_part (run_objects run os) (as_input (alone run o.input) o) e.symbol e.symbol.kind

  -- A symbol of the run, as it is in the run alone.
  abbrev pub alone_symbol : InputSymbol → InputSymbol
  alone_symbol e = record e { input = alone run e.input; defines = defines_in e (find (λ (o : Object). o.input == e.input) os.middle) }

  abbrev pub later_symbol : InputSymbol → InputSymbol
  later_symbol e = record e { input = later run e.input }

  -- The program is that of the run alone.
  module _ (p : Program) where
    -- what stands for a standing symbol of the run alone
    abbrev pub joined_symbol : InputSymbol → InputSymbol
    joined_symbol x = entry_in (later_objects run os) os.joined (number_by same_entry (standing p) x) (symbol_for p x)

    abbrev pub joining : Joining
    joining = record {
      keep = λ e. if is_of_run e then stands p (alone_symbol e) else true;
      move = λ e. if is_of_run e then joined_symbol (alone_symbol e) else (if nat_le e.input run.first then e else later_symbol e);
    }
