-- A definition of a shared output has the type of what its key numbers.
use Rattle.std.proofs.Common.{◌≡◌, ℕ, ◌+◌, List, [], ◌∷◌, None, Bool, true, false, refl, sym, ap, ◌∙◌, subst, inl, inr, arith}
use Rattle.std.specs.Prelude.{◌==◌, ◌&&◌, not, slice_get}
use Rattle.std.proofs.lemmas.Bool.{and_parts, and_from, eqb-true, eq-eqb, ne_eqb, cond-true, cond-false}
use Rattle.list_places.specs.Has.{Has, Apart}
use Rattle.list_places.proofs.Lists.{has_at, all_has}
use Rattle.wasm_types.specs.declared.table.GlobalType.{GlobalType}
use Rattle.linking_section.specs.declared.symbol.Symbol.{Symbol}
use Rattle.linking_section.specs.declared.symbol.SymbolKind.{SymbolKind}
use Rattle.linking_section.specs.declared.symbol.SymbolKind.TheVariants.{Function, GlobalVar}
use Rattle.linking_section.specs.Flags.{is_undefined}
use Rattle.object_file.specs.declared.object.Object.{Object}
use Rattle.object_file.specs.Spaces.{no_type}
use Rattle.object_file.specs.Sound.{NamesInRange}
use Rattle.round_rules.specs.Rounds.{Candidate}
use Rattle.link_plan.specs.declared.plan.Plan.{Plan}
use Rattle.made_symbols.specs.Made.{MadeSymbol, made}
use Rattle.made_symbols.specs.declared.mode.Mode.TheVariants.{Shared}
use Rattle.mark_bits.specs.declared.chunk.Chunk.{Chunk}
use Rattle.name_rules.specs.Entries.{InputSymbol, of_function, of_global, entries, type_in, index_in, made_type, made_from, in_kept_part}
use Rattle.name_rules.specs.Cases.{clash_by}
use Rattle.shared_facts.specs.shared_links.link_program.declared.home.Home.{Home}
use Rattle.shared_facts.specs.shared_links.link_program.Loaded.{IsLoaded}
use Rattle.shared_facts.specs.shared_links.program_build.Standing.{StrictPartsStand, LoadedPartsStand}
use Rattle.link_rules.specs.Program.{Program, loosened, Part, chunk_at}
use Rattle.link_rules.specs.Marks.{live}
use Rattle.link_rules.specs.Keys.{linker_function, own, own_global, linker_key, function_of, global_of, type_of, part_type, content_type, is_function_at}
use Rattle.shared_facts.specs.shared_links.link_worlds.Sound.{PartOf, same_part}
use Rattle.shared_facts.proofs.shared_links_lemmas.link_worlds_lemmas.Live.{live_part}
use Rattle.shared_facts.proofs.shared_links_lemmas.link_worlds_lemmas.Functions.{find_part, picks_apart}
use Rattle.shared_facts.proofs.shared_links_lemmas.link_facts_lemmas.Symbols.{OfObject, positive}
use Rattle.shared_facts.proofs.shared_links_lemmas.shared_module_lemmas.Keys.{finds}
use Rattle.output_types.specs.Types.{part_cell, content_cell, symbol_cell, is_global_at}
use Rattle.shared_facts.specs.shared_types.Types.{shared_cell}
use Rattle.shared_facts.proofs.shared_links_lemmas.shared_laws_lemmas.Meant.{made_input}
use Rattle.shared_facts.proofs.Entries.{Known}
use Rattle.shared_facts.proofs.Programs.{sound_in}
use Rattle.valid_shared_links.proofs.ObjectTypes.{defined_function, defined_global}
use Rattle.valid_shared_links.proofs.Parts.{strict, of_this_object, function_is, function_content, global_is}

-- the linker's functions take and give nothing
made_function : (place : ℕ) (ms : List MadeSymbol) (e : InputSymbol) → Has (made_from place ms) e → e.symbol.kind ≡ Function → e.type ≡ of_function no_type
made_function place [] e h k = absurd h
made_function place (m ∷ ms) e (inl q) k =
    subst (λ (w : InputSymbol). w.symbol.kind ≡ Function → w.type ≡ of_function no_type) q (λ f. ap (made_type m) f) k
made_function place (m ∷ ms) e (inr h) k = made_function (place + 1) ms e h k

-- what a part is known by
function_at : (part : Part) (input index : ℕ) → is_function_at input index part ≡ true → (part.chunk.kind ≡ 0) × (part.chunk.input ≡ input) × (part.chunk.index ≡ index)
function_at part input index t =
    let p = and_parts ((part.chunk.kind == 0) && (part.chunk.input == input)) (part.chunk.index == index) t in
    let q = and_parts (part.chunk.kind == 0) (part.chunk.input == input) p.0 in
    (eqb-true part.chunk.kind 0 q.0, eqb-true part.chunk.input input q.1, eqb-true part.chunk.index index p.1)

global_at : (part : Part) (input index : ℕ) → is_global_at input index part ≡ true → (part.chunk.kind ≡ 2) × (part.chunk.input ≡ input) × (part.chunk.index ≡ index)
global_at part input index t =
    let p = and_parts ((part.chunk.kind == 2) && (part.chunk.input == input)) (part.chunk.index == index) t in
    let q = and_parts (part.chunk.kind == 2) (part.chunk.input == input) p.0 in
    (eqb-true part.chunk.kind 2 q.0, eqb-true part.chunk.input input q.1, eqb-true part.chunk.index index p.1)

at_chunk : (part : Part) (kind input index : ℕ) → part.chunk ≡ chunk_at input kind index → ((part.chunk.kind == kind) && (part.chunk.input == input) && (part.chunk.index == index)) ≡ true
at_chunk part kind input index c =
    and_from ((part.chunk.kind == kind) && (part.chunk.input == input)) (part.chunk.index == index)
    (and_from (part.chunk.kind == kind) (part.chunk.input == input) (eq-eqb part.chunk.kind kind (ap (λ (c : Chunk). c.kind) c)) (eq-eqb part.chunk.input input (ap (λ (c : Chunk). c.input) c)))
    (eq-eqb part.chunk.index index (ap (λ (c : Chunk). c.index) c))

not_true : (b : Bool) → not b ≡ true → b ≡ false
not_true true h = absurd (grind arith)
not_true false h = refl

module _ (strict_law : StrictPartsStand) (stand_law : LoadedPartsStand) (plan : Plan) (files : List (List ℕ)) (all : List Candidate) (objects : List Object) (homes : List Home) (loaded : IsLoaded files all objects homes)
    (clear : clash_by plan.loose_calls (entries Shared objects) ≡ None) (exports : List InputSymbol) where
  abbrev l : Program
  l = loosened (strict strict_law stand_law plan files all objects homes loaded clear)

  abbrev parts : List Part
  parts = live l exports

  -- ---- what a definition is in its object

  module _ (d : InputSymbol) (x : OfObject objects d) (defines : d.defines ≡ true) where
    abbrev o : Object
    o = x.object

    abbrev s : Symbol
    s = x.symbol.symbol

    kind_of : s.kind ≡ d.symbol.kind
    kind_of = ap (λ (y : InputSymbol). y.symbol.kind) (sym x.symbol.is)

    input_of : d.input ≡ o.input
    input_of = ap (λ (y : InputSymbol). y.input) x.symbol.is

    not_made : (d.input == 0) ≡ false
    not_made = ne_eqb d.input 0 (λ z. positive objects loaded.rise o x.there (sym input_of ∙ z))

    index_of : (k : SymbolKind) → d.symbol.kind ≡ k → d.index ≡ index_in o s k
    index_of k e = ap (λ (y : InputSymbol). y.index) x.symbol.is ∙ ap (index_in o s) (kind_of ∙ e)

    type_of_d : (k : SymbolKind) → d.symbol.kind ≡ k → d.type ≡ type_in o s k
    type_of_d k e = ap (λ (y : InputSymbol). y.type) x.symbol.is ∙ ap (type_in o s) (kind_of ∙ e)

    in_range : (k : SymbolKind) → d.symbol.kind ≡ k → NamesInRange o s k
    in_range k e = subst (NamesInRange o s) (kind_of ∙ e)
        (all_has (λ (w : Symbol). NamesInRange o w w.kind) o.symbols (sound_in strict_law stand_law plan files all objects homes loaded clear o x.there).1.symbols s (has_at o.symbols x.symbol.place s x.symbol.there))

    is_defined : is_undefined s ≡ false
    is_defined = not_true (is_undefined s) (and_parts (not (is_undefined s)) (in_kept_part objects o s s.kind) (ap (λ (y : InputSymbol). y.defines) (sym x.symbol.is) ∙ defines)).0

    -- the part is the function that it defines
    function_part_type : d.symbol.kind ≡ Function → (part : Part) → Has l.parts part → is_function_at d.input d.index part ≡ true → of_function (content_type part.content) ≡ d.type
    function_part_type k part h t =
        let a = function_at part d.input d.index t in
        let b = of_this_object strict_law stand_law plan files all objects homes loaded clear o x.there part h (a.1 ∙ input_of) in
        let f = function_is strict_law stand_law plan files all objects homes loaded clear o part b.0 b.1 b.2 a.0 in
        ap (λ c. of_function (content_type c)) (function_content strict_law stand_law plan files all objects homes loaded clear o part f)
        ∙ sym (defined_function o s f.def (in_range Function k) is_defined (ap (slice_get o.functions) (sym (a.2 ∙ index_of Function k)) ∙ f.there))
        ∙ sym (type_of_d Function k)

    global_part_type : d.symbol.kind ≡ GlobalVar → (part : Part) → Has l.parts part → is_global_at d.input d.index part ≡ true → of_global (content_cell part.content) ≡ d.type
    global_part_type k part h t =
        let a = global_at part d.input d.index t in
        let b = of_this_object strict_law stand_law plan files all objects homes loaded clear o x.there part h (a.1 ∙ input_of) in
        let g = global_is strict_law stand_law plan files all objects homes loaded clear o part b.0 b.1 b.2 a.0 in
        ap (λ c. of_global (content_cell c)) g.content
        ∙ sym (defined_global o s g.def (in_range GlobalVar k) is_defined (ap (slice_get o.globals) (sym (a.2 ∙ index_of GlobalVar k)) ∙ g.there))
        ∙ sym (type_of_d GlobalVar k)

  -- ---- keys of definitions

  pub function_key_type : Apart same_part l.parts → (d : InputSymbol) → Known objects loaded.rise d → d.defines ≡ true → d.symbol.kind ≡ Function → PartOf parts (chunk_at d.input 0 d.index)
      → of_function (type_of l parts (function_of d)) ≡ d.type
  function_key_type apart d (inl m) t k st =
      let key = cond-true (d.input == 0) (linker_function d.place) (own d.input d.index) (eq-eqb d.input 0 (made_input 0 (made Shared) d m)) in
      ap (λ f. of_function (type_of l parts f)) key ∙ sym (made_function 0 (made Shared) d m k)
  function_key_type apart d (inr x) t k st =
      let key = cond-false (d.input == 0) (linker_function d.place) (own d.input d.index) (not_made d x t) in
      let at = at_chunk st.part 0 d.input d.index st.chunk in
      ap (λ f. of_function (type_of l parts f)) key
      ∙ ap (λ o. of_function (part_type o)) (find_part parts d.input d.index st.part (picks_apart l exports apart) st.there at)
      ∙ function_part_type d x t k st.part (live_part l exports st.part st.there) at

  -- the linker's globals are imports of their types
  pub global_key_type : (d : InputSymbol) → Known objects loaded.rise d → d.defines ≡ true → d.symbol.kind ≡ GlobalVar → PartOf parts (chunk_at d.input 2 d.index) → (g : GlobalType) → d.type ≡ of_global g
      → of_global (shared_cell parts (global_of Shared d)) ≡ d.type
  global_key_type d (inl m) t k st g e =
      let key = cond-true (d.input == 0) (linker_key Shared d) (own_global d.input d.index) (eq-eqb d.input 0 (made_input 0 (made Shared) d m)) in
      ap (λ f. of_global (shared_cell parts f)) key ∙ ap (λ w. of_global (symbol_cell w)) e ∙ sym e
  global_key_type d (inr x) t k st g e =
      let key = cond-false (d.input == 0) (linker_key Shared d) (own_global d.input d.index) (not_made d x t) in
      let f = finds (is_global_at d.input d.index) parts st.part st.there (at_chunk st.part 2 d.input d.index st.chunk) in
      ap (λ f. of_global (shared_cell parts f)) key
      ∙ ap (λ o. of_global (part_cell o)) f.is
      ∙ global_part_type d x t k f.part (live_part l exports f.part f.there) f.passes
