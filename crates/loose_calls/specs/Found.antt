-- What calls of the symbols of all objects name.
use Rattle.std.specs.Prelude.{◌≡◌, ℕ, ◌+◌, ◌∷◌, ◌++◌, Bool, true, false, List, [], map, filter, length, if◌then◌else◌, unwrap_or}
use Rattle.program_tables.specs.link_program.linking_section.declared.symbol.Symbol.{Symbol}
use Rattle.program_tables.specs.link_program.object_file.declared.object.Object.{Object}
use Rattle.program_tables.specs.link_program.made_symbols.declared.mode.Mode.{Mode}
use Rattle.program_tables.specs.link_program.name_rules.declared.meaning.Meaning.{Meaning as Answer}
use Rattle.program_tables.specs.link_program.name_rules.declared.meaning.Meaning.TheVariants.{Here, Made, Import, Null, Nothing}
use Rattle.program_tables.specs.link_program.name_rules.Entries.{InputSymbol, SymbolType, entries}
use Rattle.program_tables.specs.link_program.name_rules.Meanings.{resolve}
use Rattle.program_tables.specs.link_program.name_entries.Fits.{Fits}
use Rattle.program_tables.specs.link_program.name_meanings.Means.{IsResolution}
use Rattle.program_tables.specs.link_program.link_rules.Program.{renamed}
use Rattle.program_tables.specs.link_program.link_rules.Keys.{function_type_of}
use Rattle.name_cases.specs.Least.{AreJudges}
use Rattle.program_tables.specs.Loose.{all_symbols, loosens}
use Rattle.loose_calls.specs.declared.variant.Variant.{Variant}
use Rattle.loose_calls.specs.declared.finding.Calls.{Calls}
use Rattle.loose_calls.specs.declared.finding.Asking.{Asking}

-- the variant of a symbol, and of one of this type
abbrev pub variant_from : Symbol → SymbolType → Variant
variant_from s t = record { kind = s.kind; name = renamed t (unwrap_or s.name []); of_type = function_type_of t }

abbrev pub variant_seen : InputSymbol → Variant
variant_seen e = variant_from e.symbol e.type

-- whether an answer is a definition
abbrev pub is_here : Answer → Bool
is_here (Here input symbol) = true
is_here (Made number) = true
is_here (Import number) = false
is_here Null = false
is_here Nothing = false

-- What calls of these symbols name, where the next variant and the first of the symbols have these numbers.
abbrev pub called_onto : (InputSymbol → Bool) → ℕ → ℕ → List InputSymbol → List ℕ
called_onto test next at [] = []
called_onto test next at (e ∷ es) = if test e then next ∷ called_onto test (next + 1) (at + 1) es else at ∷ called_onto test next (at + 1) es

-- The new ones have more by these symbols, of which those that pass the test have variants, behind so many symbols.
pub record Grows (test : InputSymbol → Bool) (count : ℕ) (es : List InputSymbol) (old new : Calls) : Type 0 where
  pub called : new.called ≡ old.called ++ called_onto test (count + length old.variants) (length old.called) es
  pub variants : new.variants ≡ old.variants ++ map variant_seen (filter test es)

-- They are those of the symbols of all objects, in a link with loose calls.
pub record AreCalls (mode : Mode) (allow : Bool) (objects : List Object) (c : Calls) : Type 0 where
  pub called : c.called ≡ called_onto (loosens mode true allow objects) (length (all_symbols objects)) 0 (all_symbols objects)
  pub variants : c.variants ≡ map variant_seen (filter (loosens mode true allow objects) (all_symbols objects))

-- Symbols can be asked about.
pub record CanAsk (allow : Bool) (a : Asking) : Type 0 where
  pub fits : Fits a.mode a.entries
  pub resolution : IsResolution a.mode (entries a.mode a.entries.objects.now) a.resolution.now (resolve a.mode allow (entries a.mode a.entries.objects.now) a.entries.objects.now)
  pub judges : AreJudges a.mode a.entries.objects.now a.entries.names.now.names a.judges.now
  pub count : a.count ≡ length (all_symbols a.entries.objects.now)
