-- The objects begin as the definition of plan and files says.
use Rattle.std.proofs.Common.{◌≡◌, ℕ, List, [], ◌∷◌, map, refl, ap, ◌∙◌}
use Rattle.name_rules.specs.Entries.{InputSymbol}
use Rattle.image_emit.specs.Bytes.{Block}
use Rattle.image_emit.specs.Stored.{stored}
use Rattle.run_rules.specs.declared.session.Session.{Session}
use Rattle.run_rules.specs.Memory.{zeros, written}
use Rattle.run_rules.specs.Modules.{at_first}
use Rattle.run_rules.specs.Runs.{trace_of}
use Rattle.link_rules.specs.Program.{Program, Part}
use Rattle.link_rules.specs.Marks.{live}
use Rattle.link_rules.specs.Keys.{GlobalKey, outside_global, linker_global, own_global, got, exported_datum}
use Rattle.link_rules.specs.Values.{Layout}
use Rattle.link_worlds.specs.Names.{all_cells}
use Rattle.link_worlds.specs.Worlds.{layout_of, cell_value, pages_at_first, plan_world, plan_start, start_by, plan_trace}
use Rattle.run_machines.specs.Sym.{sym_value, with_segments, sym_start, sym_trace}
use Rattle.run_laws.specs.Objects.{sym_cell, sym_segment, blocks_of, objects_of}

cell_is : (s : Session) (parts : List Part) (l : Layout) (k : GlobalKey) → sym_value s (sym_cell parts l k) ≡ cell_value s parts l k
cell_is s parts l (outside_global k) = refl
cell_is s parts l (linker_global n) = refl
cell_is s parts l (own_global input index) = refl
cell_is s parts l (got k) = refl
cell_is s parts l (exported_datum e) = refl

cells_are : (s : Session) (parts : List Part) (l : Layout) (ks : List GlobalKey) → map (sym_value s) (map (sym_cell parts l) ks) ≡ map (cell_value s parts l) ks
cells_are s parts l [] = refl
cells_are s parts l (k ∷ ks) = rw (cell_is s parts l k, cells_are s parts l ks) refl

blocks_are : (blocks : List Block) (memory : List ℕ) → with_segments (map sym_segment blocks) memory ≡ stored blocks memory
unfolding written
blocks_are [] memory = refl
blocks_are (b ∷ bs) memory = blocks_are bs (written b.address b.bytes memory)

start_is : (s : Session) (p : Program) (exports : List InputSymbol) → sym_start s (objects_of p exports) ≡ plan_start s p exports
unfolding objects_of sym_start plan_start start_by
start_is s p exports =
    let l : Layout = layout_of p exports in
    ap (λ cells. at_first cells (with_segments (map sym_segment (blocks_of p (live p exports) l)) (zeros (pages_at_first s p l)))) (cells_are s p.parts l (all_cells p))
    ∙ ap (λ memory. at_first (map (cell_value s p.parts l) (all_cells p)) memory) (blocks_are (blocks_of p (live p exports) l) (zeros (pages_at_first s p l)))

-- so they have its trace
pub trace_is : (s : Session) (p : Program) (exports : List InputSymbol) (n : ℕ) → sym_trace s (objects_of p exports) n ≡ plan_trace s p exports n
unfolding objects_of sym_trace plan_trace
trace_is s p exports n = ap (λ start. trace_of (plan_world p exports) s start n) (start_is s p exports)
