-- When the data are those of a program.
use Rattle.std.specs.Prelude.{◌≡◌, ℕ, ◌-◌, ◌<◌, ◌^◌, ◌++◌, false, List, length, map, slice_get, None, Some, All, bytes_eq}
use Rattle.std.specs.List.{list_any}
use Rattle.name_meanings.specs.name_entries.wl_base.Choice.{distinct}
use Rattle.name_meanings.specs.name_entries.wasm_types.declared.function.FuncType.{FuncType}
use Rattle.mark_bits.specs.declared.chunk.Chunk.{Chunk}
use Rattle.name_meanings.specs.name_entries.link_names.Numbered.{AreNumbers, different_names}
use Rattle.link_rules.specs.round_rules.Rounds.{Candidate}
use Rattle.name_meanings.specs.name_entries.name_rules.Entries.{InputSymbol, ImportKey, entries, name_of}
use Rattle.name_meanings.specs.name_entries.name_rules.Meanings.{resolve}
use Rattle.name_meanings.specs.name_entries.name_rules.Cases.{first_entry, clash_by}
use Rattle.name_meanings.specs.name_entries.made_symbols.declared.mode.Mode.{Mode}
use Rattle.name_meanings.specs.name_entries.View.{InputsRise, WinnersAre}
use Rattle.name_meanings.specs.Means.{IsResolution}
use Rattle.link_rules.specs.Program as rules
use Rattle.link_rules.specs.Program.{winners_of, parts_of, loose_parts, loose_variants}
use Rattle.link_rules.specs.ModeOf.{mode_of}
use Rattle.link_rules.specs.Keys.{all_imports, function_type_of, entry_type}
use Rattle.link_rules.specs.LinkOf.{asked_names}
use Rattle.link_program.specs.declared.program.Program.{Program}
use Rattle.link_program.specs.declared.program.Tables.{Tables}
use Rattle.link_program.specs.Told.{told_symbols, told_variant, told_winner}
use Rattle.link_program.specs.Seen.{seen_named, told_named, NamesOne, seen_part, told_part, HasType}

-- No chunk stands twice.
abbrev pub ChunksDiffer : List Chunk → Type 0
ChunksDiffer chunks = (i j : ℕ) (c : Chunk) → slice_get chunks i ≡ Some c → slice_get chunks j ≡ Some c → i ≡ j

-- The different names of variants, and the type by which a variant of a name is called.
abbrev pub variant_names : List InputSymbol → List (List ℕ)
variant_names variants = distinct bytes_eq (map name_of variants)

abbrev pub variant_type : List InputSymbol → List ℕ → FuncType
variant_type variants name = function_type_of (entry_type (first_entry variants name))

-- The tables are those of the program, by the numbers of names and of imports.
pub record AreTables (names : List (List ℕ)) (imports : List ImportKey) (t : Tables) (p : rules.Program) : Type 0 where
  pub symbols : t.symbols ≡ told_symbols names imports p.resolved ++ map (told_variant names imports) p.variants
  pub variants : map (slice_get t.types) t.variants ≡ map (λ name. Some (variant_type p.variants name)) (variant_names p.variants)
  pub winners : t.winners ≡ map (told_winner names) p.winners
  pub chunks : t.chunks ≡ map (λ part. part.chunk) p.parts
  pub differ : ChunksDiffer (map (λ part. part.chunk) p.parts)
  pub parts : map (seen_part t.types) t.parts ≡ map told_part p.parts
  pub named : map (map (seen_named t.symbols t.types)) t.named ≡ map (λ part. map (told_named names imports) part.named) p.parts
  -- What the tables name is there, and they are short.
  pub named_there : All (λ row. All (NamesOne t.symbols t.types) row) t.named
  pub types_there : All (λ part. HasType t.types part.content) t.parts
  pub few_parts : length p.parts < 2 ^ 32 - 1
  pub few_symbols : length t.symbols < 2 ^ 32

-- The data are those of the program of a mode.
pub record IsProgramOf (mode : Mode) (d : Program) (p : rules.Program) : Type 0 where
  -- the loaded objects, and what the definition finds of them
  pub plan : d.plan.now ≡ p.plan
  pub objects : d.objects.now ≡ p.objects
  pub rise : InputsRise 0 p.objects
  pub entries : p.entries ≡ entries mode p.objects
  pub unclashed : clash_by p.plan.loose_calls p.entries ≡ None
  pub winners_are : p.winners ≡ winners_of p.entries
  pub resolved : p.resolved ≡ resolve mode p.plan.allow_undefined p.entries p.objects
  pub parts_are : (all : List Candidate) × (p.parts ≡ loose_parts p.plan.loose_calls p.entries (parts_of mode all p.objects p.resolved))
  pub variants_are : p.variants ≡ loose_variants p.plan.loose_calls p.entries p.resolved
  -- names, winners and meanings by number
  pub numbers : AreNumbers mode p.objects d.names.now
  pub order : d.names.now.names ≡ different_names mode (asked_names p.plan ++ p.plan.exports_if) p.objects ++ variant_names p.variants
  pub apart : All (λ v. list_any (bytes_eq (name_of v)) (different_names mode (asked_names p.plan ++ p.plan.exports_if) p.objects) ≡ false) p.variants
  pub ranks : WinnersAre d.names.now.names p.entries d.ranks.now
  pub resolution : IsResolution mode p.entries d.resolution.now p.resolved
  pub imports : d.resolution.now.imports ≡ all_imports mode p
  -- what is looked up
  pub tables : AreTables d.names.now.names d.resolution.now.imports d.tables.now p

-- The same of the mode that its plan asks for.
abbrev pub IsProgram : Program → rules.Program → Type 0
IsProgram d p = IsProgramOf (mode_of p.plan) d p

-- The same of some mode, whichever it is.
abbrev pub IsProgramOfSome : Program → rules.Program → Type 0
IsProgramOfSome d p = (mode : Mode) × IsProgramOf mode d p
