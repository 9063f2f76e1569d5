-- Imported globals by their cells, and segments that fit.
use Rattle.std.proofs.Common.{◌≡◌, ℕ, zero, suc, ◌+◌, Bool, true, false, ◌*◌, List, [], ◌∷◌, ◌++◌, map, length, Option, Some, None, refl, sym, ap, ◌∙◌, arith}
use Rattle.std.specs.Prelude.{slice_get, unwrap_or, option_map, if◌then◌else◌}
use Rattle.std.specs.List.{list_all}
use Rattle.wasm_types.specs.declared.table.TableType.{TableType}
use Rattle.wasm_module.specs.declared.structure.Module.{Module}
use Rattle.wasm_module.specs.declared.parts.Element.{Element}
use Rattle.wasm_module.specs.declared.parts.DataSegment.{DataSegment}
use Rattle.run_rules.specs.declared.value.Value.{Value}
use Rattle.run_rules.specs.declared.session.Session.{Session}
use Rattle.run_rules.specs.Memory.{zeros}
use Rattle.run_rules.specs.Modules.{GlobalImport, cell_at, cell_of, imported_globals, module_firsts, module_cells, module_world, module_start, at_first, cells_of, with_segments, element_fits, segment_fits, least_of}
use Rattle.run_modules.specs.Cells.{cells_from, cell_seen}
use Rattle.run_modules.specs.Fits.{first_not, or_next, table_in, pages_in, first_outside, all_elements_fit, all_segments_fit}
use Rattle.run_rules.specs.declared.world.Function.{Function}
use Rattle.run_rules.specs.declared.world.Exported.{Exported}
use Rattle.run_rules.specs.declared.world.World.{World}
use Rattle.run_rules.specs.Ops.{op_of}
use Rattle.run_rules.specs.Modules.{first, imported_functions, imported_memories, defined_functions, table_of, export_of, most_pages}
use Rattle.run_modules.specs.Whole.{world_with}

cell_is : (gs : List GlobalImport) (n j : ℕ) (ks : List GlobalImport) → unwrap_or (slice_get (cells_from gs n ks) j) (n + j) ≡ cell_at gs (n + j) (slice_get ks j)
cell_is gs n j [] = refl
cell_is gs n zero (k ∷ ks) = let e : n ≡ n + 0 = omega arith in ap (λ m. cell_at gs m (Some k)) e
cell_is gs n (suc j) (k ∷ ks) =
    let e : n + suc j ≡ n + 1 + j = omega arith in
    ap (unwrap_or (slice_get (cells_from gs (n + 1) ks) j)) e ∙ cell_is gs (n + 1) j ks ∙ ap (λ m. cell_at gs m (slice_get ks j)) (sym e)

-- the cells of imported globals tell the cell of each global
pub seen_is : (gs : List GlobalImport) → cell_seen (cells_from gs 0 gs) ≡ cell_of gs
seen_is gs = λ i n. (ap (unwrap_or (slice_get (cells_from gs 0 gs) n)) (plain n) ∙ cell_is gs 0 n gs ∙ ap (λ m. cell_at gs m (slice_get gs n)) (sym (plain n))) i
  where
    plain : (n : ℕ) → n ≡ 0 + n
    plain n = omega arith

-- where none fails, all pass
pub none_fails : {A : Type 0} (test : A → Bool) (n : ℕ) (xs : List A) → first_not test n xs ≡ None → list_all test xs ≡ true
none_fails test n [] h = refl
none_fails test n (x ∷ xs) h = by (test x) refl h (none_fails test (n + 1) xs)
  where
    by : (b : Bool) → test x ≡ b → (if b then first_not test (n + 1) xs else Some n) ≡ None → (first_not test (n + 1) xs ≡ None → list_all test xs ≡ true) → list_all test (x ∷ xs) ≡ true
    by true e f rest = rw e (rest f)
    by false e f rest = absurd (grind arith)

first_none : (o next : Option ℕ) → or_next o next ≡ None → o ≡ None
first_none None next h = refl
first_none (Some n) next h = h

next_none : (o next : Option ℕ) → or_next o next ≡ None → next ≡ None
next_none None next h = h
next_none (Some n) next h = absurd (grind arith)

-- a world by its parts
pub world_made : (m : Module) (firsts : List Value) (cell : ℕ → ℕ) (functions : List (Option Function)) (table : Option (List (Option ℕ))) (exports : List Exported) (memory : Option ℕ)
    → functions ≡ imported_functions m.types m.imports ++ defined_functions (op_of m.types cell) m.types m.functions m.bodies → table ≡ table_of firsts m.elements (table_in m) → exports ≡ map (export_of cell) m.exports → memory ≡ option_map most_pages (first (imported_memories m.imports ++ m.memories))
    → (let w : World = record { functions = functions; table = table; exports = exports; memory = memory } in w) ≡ world_with m firsts cell
world_made m firsts cell functions table exports memory f t e h = λ i. record { functions = f i; table = t i; exports = e i; memory = h i }

-- the world of the module
pub world_is : (s : Session) (m : Module) (firsts : List Value) (cells : List ℕ) → firsts ≡ module_firsts s m → cells ≡ cells_from (imported_globals m.imports) 0 (imported_globals m.imports) → world_with m firsts (cell_seen cells) ≡ module_world s m
unfolding module_world
world_is s m firsts cells f c =
    let seen : cell_seen cells ≡ module_cells m = ap cell_seen c ∙ seen_is (imported_globals m.imports) in
    ap (λ vs. world_with m vs (cell_seen cells)) f ∙ ap (world_with m (module_firsts s m)) seen

-- how a run of it begins
pub start_is : (s : Session) (m : Module) (firsts : List Value) → firsts ≡ module_firsts s m → at_first (cells_of firsts m.globals) (with_segments firsts m.data_segments (zeros (pages_in s m))) ≡ module_start s m
unfolding module_start
start_is s m firsts f = ap (λ vs. at_first (cells_of vs m.globals) (with_segments vs m.data_segments (zeros (pages_in s m)))) f

-- what it asks of segments
pub elements_fit : (s : Session) (m : Module) (firsts : List Value) → firsts ≡ module_firsts s m → first_outside s m ≡ None → all_elements_fit firsts m ≡ true
unfolding first_outside
elements_fit s m firsts f h =
    ap (λ vs. all_elements_fit vs m) f ∙ none_fails (element_fits (module_firsts s m) (least_of (table_in m))) 0 m.elements (first_none (first_not (element_fits (module_firsts s m) (least_of (table_in m))) 0 m.elements) (first_not (segment_fits (module_firsts s m) (65536 * pages_in s m)) (length m.elements) m.data_segments) h)

pub segments_fit : (s : Session) (m : Module) (firsts : List Value) → firsts ≡ module_firsts s m → first_outside s m ≡ None → all_segments_fit s firsts m ≡ true
unfolding first_outside
segments_fit s m firsts f h =
    ap (λ vs. all_segments_fit s vs m) f ∙ none_fails (segment_fits (module_firsts s m) (65536 * pages_in s m)) (length m.elements) m.data_segments (next_none (first_not (element_fits (module_firsts s m) (least_of (table_in m))) 0 m.elements) (first_not (segment_fits (module_firsts s m) (65536 * pages_in s m)) (length m.elements) m.data_segments) h)

pub ruleset beginning = (world_is, start_is, elements_fit, segments_fit)

-- which segment lies outside, by the parts that are looked at
pub outside_is : (s : Session) (m : Module) (firsts : List Value) (slots pages : ℕ) (elements : List Element) (segments : List DataSegment) (o : Option ℕ)
    → firsts ≡ module_firsts s m → slots ≡ least_of (table_in m) → pages ≡ pages_in s m → elements ≡ m.elements → segments ≡ m.data_segments
    → o ≡ or_next (first_not (element_fits firsts slots) 0 elements) (first_not (segment_fits firsts (65536 * pages)) (length elements) segments) → o ≡ first_outside s m
unfolding first_outside
outside_is s m firsts slots pages elements segments o f k p e d is =
    is
    ∙ ap (λ vs. or_next (first_not (element_fits vs slots) 0 elements) (first_not (segment_fits vs (65536 * pages)) (length elements) segments)) f
    ∙ ap (λ n. or_next (first_not (element_fits (module_firsts s m) n) 0 elements) (first_not (segment_fits (module_firsts s m) (65536 * pages)) (length elements) segments)) k
    ∙ ap (λ n. or_next (first_not (element_fits (module_firsts s m) (least_of (table_in m))) 0 elements) (first_not (segment_fits (module_firsts s m) (65536 * n)) (length elements) segments)) p
    ∙ ap (λ es. or_next (first_not (element_fits (module_firsts s m) (least_of (table_in m))) 0 es) (first_not (segment_fits (module_firsts s m) (65536 * pages_in s m)) (length es) segments)) e
    ∙ ap (λ ds. or_next (first_not (element_fits (module_firsts s m) (least_of (table_in m))) 0 m.elements) (first_not (segment_fits (module_firsts s m) (65536 * pages_in s m)) (length m.elements) ds)) d

-- the element segments fit the table
pub fit_table : (firsts : List Value) (m : Module) (table : Option TableType) (elements : List Element) → table ≡ table_in m → elements ≡ m.elements → all_elements_fit firsts m ≡ true → list_all (element_fits firsts (least_of table)) elements ≡ true
fit_table firsts m table elements t e fit = ap (λ (o : Option TableType). list_all (element_fits firsts (least_of o)) elements) t ∙ ap (λ (es : List Element). list_all (element_fits firsts (least_of (table_in m))) es) e ∙ fit
