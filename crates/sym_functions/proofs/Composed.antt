-- The functions and the table of a program, by what references are looked up in.
use Rattle.std.proofs.Common.{◌≡◌, ℕ, List, ◌∷◌, map, length, replicate, Option, Some, None, sym, ap, ◌∙◌}
use Rattle.std.proofs.lemmas.List.{length-map}
use Rattle.link_program.specs.object_file.declared.object.Object.{Object}
use Rattle.link_program.specs.made_symbols.declared.mode.Mode.TheVariants.{Plain}
use Rattle.link_program.specs.index_layout.Numbers.{number_by}
use Rattle.link_program.specs.link_names.Numbered.{symbol_number}
use Rattle.link_program.specs.name_rules.Entries.{InputSymbol}
use Rattle.link_program.specs.name_entries.declared.lookups.Entries.{Entries}
use Rattle.link_program.specs.name_entries.Fits.{FitsObjects}
use Rattle.link_program.specs.link_rules.Program as rules
use Rattle.link_program.specs.link_rules.Values as values
use Rattle.link_program.specs.link_rules.Output.{layout}
use Rattle.link_program.specs.Keys.{same_function_key}
use Rattle.link_keys.specs.Firsts.{firsts_rows}
use Rattle.link_image.specs.link_layout.declared.values.Layout.{Layout}
use Rattle.link_image.specs.link_layout.Layout.{IsLayoutIn}
use Rattle.run_rules.specs.declared.world.Function.{Function as Runs}
use Rattle.link_worlds.specs.Names.{all_functions}
use Rattle.link_worlds.specs.Worlds.{plan_function, plan_table}
use Rattle.sym_parts.specs.declared.sought.Sought.{Sought}
use Rattle.sym_parts.specs.Sought.{known}
use Rattle.sym_parts.specs.Code.{function_seen}
use Rattle.sym_parts.specs.Data.{taker_place}
use Rattle.sym_functions.specs.SoughtOf.{IsSoughtOf}
use Rattle.sym_functions.proofs.OpsTold.{IsSought}
use Rattle.sym_functions.proofs.FunctionsTold.{functions_told, table_told}

-- as many rows of names as objects
pub rows_counted : (es : Entries) (symbols : List (List (Option ℕ))) (count : ℕ) → FitsObjects es → es.names.now.symbols ≡ symbols → count ≡ length es.objects.now → length symbols ≡ count
rows_counted es symbols count fits same is =
    ap length (sym same) ∙ ap length fits.symbols ∙ length-map es.objects.now (λ (o : Object). map (symbol_number es.names.now.names) o.symbols) ∙ sym is

module _ (p : rules.Program) (parts : List rules.Part) (es : List InputSymbol) (d : Layout) (is : IsLayoutIn Plain p parts es d) where
  abbrev l : values.Layout
  l = layout Plain p parts es

  pub sought_is : (k : Sought) → IsSoughtOf l d k → IsSought p parts es d is (known k)
  sought_is k s = record { tables = s.tables; bases = s.bases; functions = s.functions; cells = s.cells }

  module _ (k : Sought) (s : IsSoughtOf l d k) where
    pub functions_are : (files : List (List ℕ)) → files ≡ p.files → (view : Entries) → FitsObjects view → view.objects.now ≡ d.program.objects.now → view.names.now ≡ d.program.names.now → (fs : List (Option Runs))
        → map (function_seen (known k) files d.program.resolution.now.imports view.objects.now (firsts_rows 0 (replicate (length d.program.names.now.names) None) d.program.names.now.symbols)) k.functions.now ≡ map Some fs
        → fs ≡ map (plan_function p l) (all_functions p)
    functions_are files same_files view fits seen named fs fs_are =
        let objects : view.objects.now ≡ p.objects = seen ∙ is.program.objects in
        let rows : d.program.names.now.symbols ≡ map (λ (o : Object). map (symbol_number d.program.names.now.names) o.symbols) p.objects =
        ap (λ n. n.symbols) (sym named) ∙ fits.symbols ∙ (λ i. map (λ (o : Object). map (symbol_number (named i).names) o.symbols) (objects i)) in
        functions_told p parts es d is rows (known k) (sought_is k s) files same_files fs
        (ap (map (function_seen (known k) files d.program.resolution.now.imports p.objects (firsts_rows 0 (replicate (length d.program.names.now.names) None) d.program.names.now.symbols))) (sym s.functions)
        ∙ ap (λ os. map (function_seen (known k) files d.program.resolution.now.imports os (firsts_rows 0 (replicate (length d.program.names.now.names) None) d.program.names.now.symbols)) k.functions.now) (sym objects) ∙ fs_are)

    pub table_is : (table : List (Option ℕ)) → table ≡ None ∷ map (taker_place k.functions.now d.numbering.now.functions) (map (number_by same_function_key d.numbering.now.functions) d.numbering.now.slots)
        → table ≡ plan_table p l
    table_is table is_table =
        is_table
        ∙ ap (λ fs. None ∷ map (taker_place fs d.numbering.now.functions) (map (number_by same_function_key d.numbering.now.functions) d.numbering.now.slots)) s.functions ∙ table_told p parts es d is
