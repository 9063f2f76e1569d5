-- A definition has the type of the part that it names.
use Rattle.std.proofs.Common.{◌≡◌, ℕ, zero, suc, ◌+◌, List, [], ◌∷◌, Some, None, Bool, true, false, cond, refl, sym, ap, ◌∙◌, subst, inl, inr, arith}
use Rattle.std.specs.Prelude.{◌==◌, ◌&&◌, not, if◌then◌else◌, slice_get, find}
use Rattle.std.proofs.lemmas.Bool.{and_parts, eqb-true, eq-eqb, ne_eqb, cond-true, cond-false}
use Rattle.list_places.specs.Has.{Has}
use Rattle.list_places.proofs.Lists.{has_at, all_has, some_is}
use Rattle.object_file.specs.wasm_types.declared.value.ValType.TheVariants.{I32}
use Rattle.object_file.specs.linking_section.declared.symbol.Symbol.{Symbol}
use Rattle.object_file.specs.linking_section.declared.symbol.SymbolKind.{SymbolKind}
use Rattle.object_file.specs.linking_section.declared.symbol.SymbolKind.TheVariants.{Function, Datum, GlobalVar, Section, Table}
use Rattle.object_file.specs.linking_section.Flags.{is_undefined}
use Rattle.object_file.specs.declared.object.Object.{Object}
use Rattle.object_file.specs.Sound.{NamesInRange}
use Rattle.link_runs.specs.link_facts.link_worlds.link_rules.round_rules.Rounds.{Candidate}
use Rattle.link_plan.specs.declared.plan.Plan.{Plan}
use Rattle.made_symbols.specs.Made.{MadeSymbol, made, stack_pointer}
use Rattle.made_symbols.specs.declared.mode.Mode.TheVariants.{Plain}
use Rattle.link_runs.specs.link_facts.link_worlds.link_rules.name_rules.Entries.{InputSymbol, of_function, of_global, entries, type_in, index_in, made_type, in_kept_part}
use Rattle.link_runs.specs.link_facts.link_worlds.link_rules.name_rules.Cases.{clash_by}
use Rattle.link_runs.specs.link_facts.link_worlds.link_rules.Program.{Program, loosened, Part}
use Rattle.link_runs.specs.link_facts.link_worlds.link_rules.Marks.{live}
use Rattle.link_runs.specs.link_facts.link_worlds.link_rules.Keys.{linker_function, own, linker_global, own_global, function_of, global_of, type_of, part_type, content_type, is_function_at}
use Rattle.link_runs.specs.link_facts.link_worlds.Sound.{Sound}
use Rattle.link_runs.proofs.link_worlds_lemmas.Live.{live_part}
use Rattle.link_runs.proofs.link_worlds_lemmas.Functions.{find_part, live_apart, Stood}
use Rattle.link_runs.proofs.link_worlds_lemmas.Start.{IfOwn}
use Rattle.link_runs.specs.link_facts.Loaded.{AreLoaded}
use Rattle.link_runs.proofs.link_facts_lemmas.Symbols.{Known, OfObject, positive}
use Rattle.output_types.specs.Types.{part_cell, content_cell, is_global_at, cell_type}
use Rattle.valid_links.proofs.ObjectTypes.{defined_function, defined_global}
use Rattle.valid_links.proofs.Parts.{strict, of_this_object, function_is, function_content, global_is}

-- ---- the linker's own globals

-- Of them `__stack_pointer` alone can be set.
abbrev changes_as : ℕ → SymbolKind → Bool → Bool
changes_as k GlobalVar changes = if changes then k == stack_pointer else not (k == stack_pointer)
changes_as k Function changes = true
changes_as k Datum changes = true
changes_as k Section changes = true
changes_as k Table changes = true

abbrev all_change_as : ℕ → List MadeSymbol → Bool
all_change_as k [] = true
all_change_as k (m ∷ ms) = changes_as k m.kind m.changes && all_change_as (k + 1) ms

made_change_as : all_change_as 0 (made Plain) ≡ true
made_change_as = refl

one_changes_as : (k at : ℕ) (ms : List MadeSymbol) (m : MadeSymbol) → all_change_as k ms ≡ true → slice_get ms at ≡ Some m → changes_as (k + at) m.kind m.changes ≡ true
one_changes_as k at [] m e h = absurd (grind arith)
one_changes_as k zero (x ∷ xs) m e h =
    let z : k ≡ k + zero = omega arith in
    subst (λ n. changes_as n m.kind m.changes ≡ true) z
    (subst (λ (y : MadeSymbol). changes_as k y.kind y.changes ≡ true) (some_is x m h) (and_parts (changes_as k x.kind x.changes) (all_change_as (k + 1) xs) e).0)
one_changes_as k (suc at) (x ∷ xs) m e h =
    let z : k + 1 + at ≡ k + suc at = omega arith in
    subst (λ n. changes_as n m.kind m.changes ≡ true) z (one_changes_as (k + 1) at xs m (and_parts (changes_as k x.kind x.changes) (all_change_as (k + 1) xs) e).1 h)

made_changes : (k : ℕ) (m : MadeSymbol) → slice_get (made Plain) k ≡ Some m → m.kind ≡ GlobalVar → m.changes ≡ (k == stack_pointer)
made_changes k m at e =
    let z : 0 + k ≡ k = omega arith in
    by m.changes (k == stack_pointer) (subst (λ kind. changes_as k kind m.changes ≡ true) e (subst (λ n. changes_as n m.kind m.changes ≡ true) z (one_changes_as 0 k (made Plain) m made_change_as at)))
  where
    by : (a b : Bool) → cond a b (not b) ≡ true → a ≡ b
    by true b h = sym h
    by false true h = absurd (grind arith)
    by false false h = refl

-- what a part is known by
function_at : (part : Part) (input index : ℕ) → is_function_at input index part ≡ true → (part.chunk.kind ≡ 0) × (part.chunk.input ≡ input) × (part.chunk.index ≡ index)
function_at part input index t =
    let p = and_parts ((part.chunk.kind == 0) && (part.chunk.input == input)) (part.chunk.index == index) t in
    let q = and_parts (part.chunk.kind == 0) (part.chunk.input == input) p.0 in
    (eqb-true part.chunk.kind 0 q.0, eqb-true part.chunk.input input q.1, eqb-true part.chunk.index index p.1)

global_at : (part : Part) (input index : ℕ) → is_global_at input index part ≡ true → (part.chunk.kind ≡ 2) × (part.chunk.input ≡ input) × (part.chunk.index ≡ index)
global_at part input index t =
    let p = and_parts ((part.chunk.kind == 2) && (part.chunk.input == input)) (part.chunk.index == index) t in
    let q = and_parts (part.chunk.kind == 2) (part.chunk.input == input) p.0 in
    (eqb-true part.chunk.kind 2 q.0, eqb-true part.chunk.input input q.1, eqb-true part.chunk.index index p.1)

not_true : (b : Bool) → not b ≡ true → b ≡ false
not_true true h = absurd (grind arith)
not_true false h = refl

-- the first part that passes
found : (test : Part → Bool) (xs : List Part) (x : Part) → Has xs x → test x ≡ true → (y : Part) × (find test xs ≡ Some y) × Has xs y × (test y ≡ true)
found test [] x h t = absurd h
found test (y ∷ ys) x h t = onto (test y) refl h (λ k. found test ys x k t)
  where
    onto : (b : Bool) → test y ≡ b → Has (y ∷ ys) x → (Has ys x → (z : Part) × (find test ys ≡ Some z) × Has ys z × (test z ≡ true)) → (z : Part) × (cond b (Some y) (find test ys) ≡ Some z) × Has (y ∷ ys) z × (test z ≡ true)
    onto true e k again = (y, refl, inl refl, e)
    onto false e (inl q) again = absurd (let r : test y ≡ true = ap test q ∙ t in grind arith)
    onto false e (inr k) again = let r = again k in (r.0, r.1, inr r.2, r.3)

module _ (plan : Plan) (files : List (List ℕ)) (all : List Candidate) (objects : List Object) (loaded : AreLoaded objects)
    (clear : clash_by plan.loose_calls (entries Plain objects) ≡ None) (exports : List InputSymbol) where
  abbrev l : Program
  l = loosened (strict plan files all objects loaded clear)

  abbrev parts : List Part
  parts = live l exports

  -- ---- what a definition is in its object

  module _ (d : InputSymbol) (x : OfObject objects d) (defines : d.defines ≡ true) where
    abbrev o : Object
    o = x.object

    abbrev s : Symbol
    s = x.symbol.symbol

    kind_of : s.kind ≡ d.symbol.kind
    kind_of = ap (λ (y : InputSymbol). y.symbol.kind) (sym x.symbol.is)

    input_of : d.input ≡ o.input
    input_of = ap (λ (y : InputSymbol). y.input) x.symbol.is

    not_made : (d.input == 0) ≡ false
    not_made = ne_eqb d.input 0 (λ z. positive objects loaded.rise o x.there (sym input_of ∙ z))

    index_of : (k : SymbolKind) → d.symbol.kind ≡ k → d.index ≡ index_in o s k
    index_of k e = ap (λ (y : InputSymbol). y.index) x.symbol.is ∙ ap (index_in o s) (kind_of ∙ e)

    type_of_d : (k : SymbolKind) → d.symbol.kind ≡ k → d.type ≡ type_in o s k
    type_of_d k e = ap (λ (y : InputSymbol). y.type) x.symbol.is ∙ ap (type_in o s) (kind_of ∙ e)

    in_range : (k : SymbolKind) → d.symbol.kind ≡ k → NamesInRange o s k
    in_range k e = subst (NamesInRange o s) (kind_of ∙ e) (all_has (λ (w : Symbol). NamesInRange o w w.kind) o.symbols (loaded.each o x.there).1.symbols s (has_at o.symbols x.symbol.place s x.symbol.there))

    is_defined : is_undefined s ≡ false
    is_defined = not_true (is_undefined s) (and_parts (not (is_undefined s)) (in_kept_part objects o s s.kind) (ap (λ (y : InputSymbol). y.defines) (sym x.symbol.is) ∙ defines)).0

    -- the part is the function that it defines
    function_part_type : d.symbol.kind ≡ Function → (part : Part) → Has l.parts part → is_function_at d.input d.index part ≡ true → of_function (content_type part.content) ≡ d.type
    function_part_type k part h t =
        let a = function_at part d.input d.index t in
        let b = of_this_object plan files all objects loaded clear o x.there part h (a.1 ∙ input_of) in
        let f = function_is plan files all objects loaded clear o part b.0 b.1 b.2 a.0 in
        ap (λ c. of_function (content_type c)) (function_content plan files all objects loaded clear o part f)
        ∙ sym (defined_function o s f.def (in_range Function k) is_defined (ap (slice_get o.functions) (sym (a.2 ∙ index_of Function k)) ∙ f.there))
        ∙ sym (type_of_d Function k)

    global_part_type : d.symbol.kind ≡ GlobalVar → (part : Part) → Has l.parts part → is_global_at d.input d.index part ≡ true → of_global (content_cell part.content) ≡ d.type
    global_part_type k part h t =
        let a = global_at part d.input d.index t in
        let b = of_this_object plan files all objects loaded clear o x.there part h (a.1 ∙ input_of) in
        let g = global_is plan files all objects loaded clear o part b.0 b.1 b.2 a.0 in
        ap (λ c. of_global (content_cell c)) g.content
        ∙ sym (defined_global o s g.def (in_range GlobalVar k) is_defined (ap (slice_get o.globals) (sym (a.2 ∙ index_of GlobalVar k)) ∙ g.there))
        ∙ sym (type_of_d GlobalVar k)

  -- ---- keys of definitions

  pub function_key_type : Sound l → (d : InputSymbol) → Known objects d → d.defines ≡ true → d.symbol.kind ≡ Function → Stood parts (function_of d) → of_function (type_of l parts (function_of d)) ≡ d.type
  function_key_type sound d (inl m) t k st =
      let key = cond-true (d.input == 0) (linker_function d.place) (own d.input d.index) (eq-eqb d.input 0 (ap (λ (y : InputSymbol). y.input) m.is)) in
      ap (λ f. of_function (type_of l parts f)) key
      ∙ sym (ap (λ (y : InputSymbol). y.type) m.is ∙ ap (made_type m.symbol) (ap (λ (y : InputSymbol). y.symbol.kind) (sym m.is) ∙ k))
  function_key_type sound d (inr x) t k st =
      let key = cond-false (d.input == 0) (linker_function d.place) (own d.input d.index) (not_made d x t) in
      let q = subst (Stood parts) key st in
      ap (λ f. of_function (type_of l parts f)) key
      ∙ ap (λ o. of_function (part_type o)) (find_part parts d.input d.index q.0 (live_apart l exports sound) q.1 q.2)
      ∙ function_part_type d x t k q.0 (live_part l exports q.0 q.1) q.2

  pub global_key_type : (d : InputSymbol) → Known objects d → d.defines ≡ true → d.symbol.kind ≡ GlobalVar → IfOwn parts (global_of Plain d) → of_global (cell_type parts (global_of Plain d)) ≡ d.type
  global_key_type d (inl m) t k st =
      let key = cond-true (d.input == 0) (linker_global d.place) (own_global d.input d.index) (eq-eqb d.input 0 (ap (λ (y : InputSymbol). y.input) m.is)) in
      let kind = ap (λ (y : InputSymbol). y.symbol.kind) (sym m.is) ∙ k in
      ap (λ g. of_global (cell_type parts g)) key
      ∙ ap (λ n. of_global (record { kind = I32; var = n == stack_pointer })) (ap (λ (y : InputSymbol). y.place) m.is)
      ∙ ap (λ v. of_global (record { kind = I32; var = v })) (sym (made_changes m.place m.symbol m.there kind))
      ∙ sym (ap (λ (y : InputSymbol). y.type) m.is ∙ ap (made_type m.symbol) kind)
  global_key_type d (inr x) t k st =
      let key = cond-false (d.input == 0) (linker_global d.place) (own_global d.input d.index) (not_made d x t) in
      let q = subst (IfOwn parts) key st in
      let f = found (is_global_at d.input d.index) parts q.0 q.1 q.2 in
      ap (λ g. of_global (cell_type parts g)) key
      ∙ ap (λ o. of_global (part_cell o)) f.1
      ∙ global_part_type d x t k f.0 (live_part l exports f.0 f.2) f.3
