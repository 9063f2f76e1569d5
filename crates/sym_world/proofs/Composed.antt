-- The objects of a program, put together of their parts.
use Rattle.std.proofs.Common.{◌≡◌, ℕ, true, false, List, [], ◌∷◌, ◌++◌, map, filter, Option, Some, option_map, unwrap_or, sym, ap, ◌∙◌}
use Rattle.std.specs.Prelude.{if◌then◌else◌, ◌/◌}
use Rattle.link_program.specs.made_symbols.declared.mode.Mode.TheVariants.{Plain}
use Rattle.link_program.specs.memory_layout.declared.rules.Places.{Places}
use Rattle.link_program.specs.name_rules.Entries.{InputSymbol}
use Rattle.link_program.specs.link_plan.declared.plan.Plan.{Plan}
use Rattle.link_program.specs.link_rules.Program as rules
use Rattle.link_program.specs.link_rules.Marks.{memory_name, live}
use Rattle.link_program.specs.link_rules.Values as values
use Rattle.link_program.specs.link_rules.Output.{layout}
use Rattle.link_program.specs.Live.{AreLive}
use Rattle.link_layout.specs.declared.values.Layout.{Layout}
use Rattle.link_layout.specs.Layout.{IsLayoutIn}
use Rattle.link_layout.specs.Segments.{segment_numbers}
use Rattle.run_rules.specs.declared.world.Function.{Function as Runs}
use Rattle.run_rules.specs.declared.world.Exported.{Exported}
use Rattle.run_rules.specs.declared.world.Target.TheVariants.{Elsewhere}
use Rattle.run_rules.specs.declared.world.World.{World}
use Rattle.run_machines.specs.declared.sym.SymCell.{SymCell}
use Rattle.run_machines.specs.declared.sym.SymSegment.{SymSegment}
use Rattle.link_worlds.specs.Names.{all_functions, all_cells}
use Rattle.link_worlds.specs.Worlds.{plan_function, plan_table, world_by, plan_world}
use Rattle.run_laws.specs.Objects.{sym_cell, sym_segment, blocks_of, objects_of}
use Rattle.sym_functions.specs.sym_parts.declared.sought.Sought.{Sought}
use Rattle.sym_functions.specs.sym_parts.Sought.{known}
use Rattle.sym_functions.specs.sym_parts.Data.{cell_seen, segment_seen, is_so}
use Rattle.sym_world.specs.Exports.{export_seen}
use Rattle.sym_functions.specs.sym_parts.Keys.{functions_of}
use Rattle.sym_functions.specs.SoughtOf.{IsSoughtOf}
use Rattle.sym_functions.proofs.Composed.{sought_is}
use Rattle.sym_world.proofs.CellsTold.{cells_told, segments_told}
use Rattle.sym_world.proofs.ExportsTold.{exports_told}

module _ (p : rules.Program) (parts : List rules.Part) (es : List InputSymbol) (d : Layout) (is : IsLayoutIn Plain p parts es d) where
  abbrev l : values.Layout
  l = layout Plain p parts es

  module _ (k : Sought) (s : IsSoughtOf l d k) where
    pub world_is : (fs : List (Option Runs)) → fs ≡ map (plan_function p l) (all_functions p) → (table : List (Option ℕ)) → table ≡ plan_table p l
        → (xs : List Exported) → xs ≡ (if d.program.plan.now.import_memory then [] else record { name = memory_name; target = Elsewhere } ∷ []) ++ map (export_seen p l k.functions.now k.cells.now) es
        → (n : ℕ) → n ≡ unwrap_or (option_map (λ n. n / 65536) d.program.plan.now.max_memory) 65536
        → record { functions = fs; table = Some table; exports = xs; memory = Some n } ≡ world_by p l es
    unfolding world_by
    world_is fs fs_are table table_is xs xs_are n n_is =
        let exports = xs_are
        ∙ ap (λ (plan : Plan). (if plan.import_memory then [] else record { name = memory_name; target = Elsewhere } ∷ []) ++ map (export_seen p l k.functions.now k.cells.now) es) is.program.plan
        ∙ ap (λ fs. (if p.plan.import_memory then [] else record { name = memory_name; target = Elsewhere } ∷ []) ++ map (export_seen p l fs k.cells.now) es) s.functions
        ∙ ap (λ gs. (if p.plan.import_memory then [] else record { name = memory_name; target = Elsewhere } ∷ []) ++ map (export_seen p l (functions_of d.program.resolution.now.imports d.program.tables.now) gs) es) s.cells
        ∙ ap (λ ys. (if p.plan.import_memory then [] else record { name = memory_name; target = Elsewhere } ∷ []) ++ ys) (exports_told p parts es d is es) in
        let most = n_is ∙ ap (λ (plan : Plan). unwrap_or (option_map (λ n. n / 65536) plan.max_memory) 65536) is.program.plan in
        λ i. record { functions = fs_are i; table = Some (table_is i); exports = exports i; memory = Some (most i) }

  module _ (k : Sought) (s : IsSoughtOf l d k) (files : List (List ℕ)) (same_files : files ≡ p.files) where
    pub segments_are : (live : List ℕ) → AreLive p live parts → (ys : List SymSegment)
        → map (segment_seen (known k) files d.placed.now.addresses) (filter (is_so k.tables.now files false) (segment_numbers k.tables.now live) ++ filter (is_so k.tables.now files true) (segment_numbers k.tables.now live)) ≡ map Some ys
        → ys ≡ map sym_segment (blocks_of p parts l)
    segments_are live lives ys e =
        segments_told p parts es d is (known k) (sought_is p parts es d is k s) files same_files live lives ys
        (ap (λ t. map (segment_seen (known k) files d.placed.now.addresses) (filter (is_so t files false) (segment_numbers t live) ++ filter (is_so t files true) (segment_numbers t live))) (sym s.tables) ∙ e)

    pub cells_are : (ys : List SymCell) → map (cell_seen d.program.tables.now d.program.resolution.now.imports d.placed.now.places.stack_high) k.cells.now ≡ map Some ys
        → ys ≡ map (sym_cell p.parts l) (all_cells p)
    cells_are ys e =
        cells_told p parts es d is ys
        (ap (map (cell_seen d.program.tables.now d.program.resolution.now.imports d.placed.now.places.stack_high)) (sym s.cells) ∙ e)

-- All of them.
pub objects_is : (p : rules.Program) (parts : List rules.Part) (es : List InputSymbol) (d : Layout) → IsLayoutIn Plain p parts es d → parts ≡ live p es
    → (w : World) → w ≡ world_by p (layout Plain p parts es) es → (cells : List SymCell) → cells ≡ map (sym_cell p.parts (layout Plain p parts es)) (all_cells p)
    → (segments : List SymSegment) → segments ≡ map sym_segment (blocks_of p parts (layout Plain p parts es))
    → record { world = w; cells = cells; imported = d.program.plan.now.import_memory; pages = d.placed.now.places.pages; segments = segments } ≡ objects_of p es
unfolding objects_of plan_world layout
objects_is p parts es d is same w w_is cells cells_are segments segments_are =
    let imported : d.program.plan.now.import_memory ≡ p.plan.import_memory = ap (λ (plan : Plan). plan.import_memory) is.program.plan in
    let pages : d.placed.now.places.pages ≡ (layout Plain p parts es).places.pages = ap (λ (x : Places). x.pages) is.placed.places in
    (λ i. record { world = w_is i; cells = cells_are i; imported = imported i; pages = pages i; segments = segments_are i })
    ∙ ap (λ xs. record {
      world = world_by p (layout Plain p xs es) es;
      cells = map (sym_cell p.parts (layout Plain p xs es)) (all_cells p);
      imported = p.plan.import_memory;
      pages = (layout Plain p xs es).places.pages;
      segments = map sym_segment (blocks_of p xs (layout Plain p xs es));
    }) same
