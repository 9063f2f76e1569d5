-- The functions and the table are those of the objects.
use Rattle.std.proofs.Common.{◌≡◌, ℕ, ◌+◌, ◌==◌, Bool, true, false, not, ◌&&◌, List, [], ◌∷◌, ◌++◌, map, filter, filter_map, flat_map, length, slice_get, get_or, position, replicate, Option, Some, None, option_map, unwrap_or, refl, sym, ap, subst, ◌∙◌, arith}
use Rattle.std.specs.Prelude.{if◌then◌else◌, slice_index_or, bytes_eq}
use Rattle.std.specs.List.{list_any, All}
use Rattle.std.proofs.lemmas.Bool.{eqb-true, eq-eqb}
use Rattle.std.proofs.lemmas.List.Elements.{All-head, All-tail, All-cons, All-append}
use Rattle.std.proofs.lemmas.Option.{slice_get-get_or, slice_get-map, get_or_from_slice_get}
use Rattle.link_program.specs.wl_base.Choice.{given}
use Rattle.link_program.specs.wl_base.Names.{number_of}
use Rattle.link_program.specs.wasm_types.declared.function.FuncType.{FuncType}
use Rattle.link_program.specs.object_file.declared.object.Object.{Object}
use Rattle.link_program.specs.object_file.Spaces.{no_type}
use Rattle.link_program.specs.made_symbols.declared.mode.Mode.TheVariants.{Plain}
use Rattle.link_program.specs.index_layout.Numbers.{number_by}
use Rattle.link_program.specs.link_names.Numbered.{symbol_number}
use Rattle.link_program.specs.name_rules.Entries.{InputSymbol, ImportKey, same_import, symbols_of, entries}
use Rattle.link_program.specs.link_rules.Program as rules
use Rattle.link_program.specs.link_rules.Program.{chunk_at}
use Rattle.link_program.specs.link_rules.Marks.{refs_of}
use Rattle.link_program.specs.link_rules.Keys as keys
use Rattle.link_program.specs.link_rules.Keys.{outside, linker_function, stub, own, is_function_type, imports_in_order, made_function_key, own_function_key, type_of, slots, is_taken}
use Rattle.link_program.specs.link_rules.Values as values
use Rattle.link_program.specs.link_rules.Output.{layout}
use Rattle.link_program.specs.declared.keys.FunctionKey.{FunctionKey}
use Rattle.link_program.specs.declared.keys.FunctionKey.TheVariants as functions
use Rattle.link_program.specs.Keys.{told_function, same_function_key}
use Rattle.link_program.specs.Look.{chunk_number}
use Rattle.link_keys.specs.declared.firsts.At.{At}
use Rattle.link_keys.specs.Firsts.{firsts_rows}
use Rattle.link_keys.specs.Types.{kept_type, stub_type}
use Rattle.link_keys.proofs.Any.{all_filtered, all_map}
use Rattle.link_keys.proofs.Equals.{Holds, stands, holds_at, number_is}
use Rattle.link_keys.proofs.FirstsTold.{AreFirsts, all_noted}
use Rattle.link_keys.proofs.Imports.{both}
use Rattle.link_keys.proofs.LiveTold.{content_is}
use Rattle.link_numbers.specs.Knows.{KnowsFunction}
use Rattle.link_numbers.proofs.TypesTold.{stub_types_told}
use Rattle.link_image.specs.link_layout.declared.values.Layout.{Layout}
use Rattle.link_image.specs.link_layout.Layout.{IsLayoutIn}
use Rattle.link_image.proofs.link_loader_lemmas.Known as loader_known
use Rattle.link_image.proofs.Lists.{import_there, all_chosen, all_mapped}
use Rattle.run_rules.specs.declared.world.Source.{Source}
use Rattle.run_rules.specs.declared.world.Source.TheVariants.{Host}
use Rattle.run_rules.specs.declared.world.Function.{Function as Runs}
use Rattle.link_worlds.specs.Bodies as bodies
use Rattle.link_worlds.specs.Names.{all_functions, function_place}
use Rattle.link_worlds.specs.Worlds as worlds
use Rattle.link_worlds.specs.Worlds.{plan_function}
use Rattle.sym_parts.specs.Sought.{Known}
use Rattle.sym_parts.specs.Code as seen
use Rattle.sym_parts.specs.Data.{no_function, taker_place}
use Rattle.sym_functions.proofs.Listed.{StubName}
use Rattle.sym_functions.proofs.Ground.{all_fs, functions_are, functions_known, function_at, one_name, others, in_order, apart, first_among, stub_names, stubs_known}
use Rattle.sym_functions.proofs.OpsTold.{IsSought}
use Rattle.sym_functions.proofs.OpsTold as ops
use Rattle.sym_functions.proofs.PlainLayout.{plain_stands}
use Rattle.sym_functions.proofs.CodeTold.{all_given, part_of, own_told, linker_told}

-- ---- keys

function_equal : (a b : FunctionKey) → same_function_key a b ≡ true → a ≡ b
function_equal (functions.Import a) (functions.Import b) e = ap functions.Import (eqb-true a b e)
function_equal (functions.Import a) (functions.Own b j) e = absurd cc
function_equal (functions.Import a) (functions.Stub b) e = absurd cc
function_equal (functions.Own a i) (functions.Import b) e = absurd cc
function_equal (functions.Own a i) (functions.Own b j) e =
    let t = both (a == b) (i == j) e in
    let x = eqb-true a b t.0 in
    let y = eqb-true i j t.1 in
    λ k. functions.Own (x k) (y k)
function_equal (functions.Own a i) (functions.Stub b) e = absurd cc
function_equal (functions.Stub a) (functions.Import b) e = absurd cc
function_equal (functions.Stub a) (functions.Own b j) e = absurd cc
function_equal (functions.Stub a) (functions.Stub b) e = ap functions.Stub (eqb-true a b e)

function_itself : (a : FunctionKey) → same_function_key a a ≡ true
function_itself (functions.Import a) = eq-eqb a a refl
function_itself (functions.Own a i) = rw (eq-eqb a a refl, eq-eqb i i refl) refl
function_itself (functions.Stub a) = eq-eqb a a refl

not_true : (b : Bool) → not b ≡ true → b ≡ false
not_true true e = absurd cc
not_true false e = refl

given_is : {A : Type 0} (b : Bool) (a x : A) → given b a ≡ Some x → (b ≡ true) × (a ≡ x)
given_is true a x e = (refl, cc)
given_is false a x e = absurd cc

module _ (p : rules.Program) (parts : List rules.Part) (es : List InputSymbol) (d : Layout) (is : IsLayoutIn Plain p parts es d) where
  abbrev l : values.Layout
  l = ops.l p parts es d is

  abbrev t_names : List (List ℕ)
  t_names = d.program.names.now.names

  abbrev t_imports : List ImportKey
  t_imports = d.program.resolution.now.imports

  abbrev column : List (Option At)
  column = firsts_rows 0 (replicate (length t_names) None) d.program.names.now.symbols

  module _ (rows : d.program.names.now.symbols ≡ map (λ (o : Object). map (symbol_number t_names) o.symbols) p.objects) (k : Known) (sought : IsSought p parts es d is k) (files : List (List ℕ)) (same_files : files ≡ p.files) where
    column_is : AreFirsts t_names p.objects (flat_map (symbols_of p.objects) p.objects) column
    column_is =
        subst (λ rows. AreFirsts t_names p.objects (flat_map (symbols_of p.objects) p.objects) (firsts_rows 0 (replicate (length t_names) None) rows)) (sym rows)
        (all_noted t_names (one_name d.program p is.program is.stand) p.objects)

    abbrev f : FunctionKey → Option (Option Runs)
    f key = seen.function_seen k files t_imports p.objects column key

    abbrev Gives : keys.FunctionKey → Type 0
    Gives key = (y : Option Runs) → f (told_function t_names t_imports key) ≡ Some y → y ≡ plan_function p l key

    run_is : (kind : FuncType) (source : Option Source) (y : Option Runs) (key : keys.FunctionKey) → seen.run_by kind source ≡ Some y → kind ≡ type_of p p.parts key → ((s : Source) → source ≡ Some s → s ≡ bodies.plan_source p l p.parts key)
        → y ≡ plan_function p l key
    run_is kind None y key e same each = absurd cc
    run_is kind (Some s) y key e same each =
        let a : Some (record { kind = kind; source = s }) ≡ y = cc in
        let b = each s refl in
        sym a ∙ (λ i. Some (record { kind = same i; source = b i }))

    outside_gives : (key : ImportKey) → list_any (same_import key) t_imports ≡ true → Gives (outside key)
    outside_gives key held y e =
        let there = import_there t_imports key held in
        run_is (kept_type (slice_get t_imports (number_by same_import t_imports key))) (seen.host_seen (slice_get t_imports (number_by same_import t_imports key))) y (outside key) e
        (ap kept_type there)
        (λ s is_s. let here : seen.host_seen (Some key) ≡ Some s = ap seen.host_seen (sym there) ∙ is_s in let a : Host key.module_name key.field ≡ s = cc in sym a)

    some_is : (a b : Source) → Some a ≡ Some b → b ≡ a
    some_is a b e = let x : a ≡ b = cc in sym x

    stub_gives : (name : List ℕ) → StubName t_names name → Gives (stub name)
    stub_gives name known y e =
        let types = stub_types_told Plain t_names p p.parts is.program.entries column column_is (others d.program p is.program is.stand) (in_order d.program p is.program is.stand) (apart d.program p is.program is.stand) (first_among d.program p is.program is.stand)
        d.program.tables.now.types d.program.tables.now.variants is.program.tables.variants (name ∷ []) (All-cons (StubName t_names) name [] known (λ k d below. absurd (omega arith))) in
        let told : stub_type (seen.stub_types d.program.tables.now p.objects column) (length t_names) (number_by bytes_eq t_names name) ≡ type_of p p.parts (stub name) = cc in
        let kind : stub_type (seen.stub_types k.tables p.objects column) (length column) (unwrap_or (number_of t_names name) 0) ≡ type_of p p.parts (stub name) =
        ap (λ t. stub_type (seen.stub_types t p.objects column) (length column) (unwrap_or (number_of t_names name) 0)) sought.tables
        ∙ ap (λ n. stub_type (seen.stub_types d.program.tables.now p.objects column) n (unwrap_or (number_of t_names name) 0)) column_is.count ∙ told in
        run_is (stub_type (seen.stub_types k.tables p.objects column) (length column) (unwrap_or (number_of t_names name) 0)) (seen.source_seen k files t_imports (functions.Stub (unwrap_or (number_of t_names name) 0))) y (stub name) e kind
        (λ s is_s. some_is (bodies.plan_source p l p.parts (stub name)) s is_s)

    made_gives : (n : ℕ) (part : rules.Part) → slice_get p.parts n ≡ Some part → (part.chunk.input == 0) ≡ true → (part.chunk.kind == 0) ≡ true → Gives (linker_function part.chunk.index)
    made_gives n part at mine code y e =
        run_is no_type (Some (seen.calls_seen k (chunk_number k.tables.chunks (chunk_at 0 0 part.chunk.index)))) y (linker_function part.chunk.index) e refl
        (λ s is_s. some_is (seen.calls_seen k (chunk_number k.tables.chunks (chunk_at 0 0 part.chunk.index))) s is_s ∙ linker_told p parts es d is k sought files same_files n part at mine code)

    own_gives : (n : ℕ) (part : rules.Part) → slice_get p.parts n ≡ Some part → (part.chunk.input == 0) ≡ false → (part.chunk.kind == 0) ≡ true → Gives (own part.chunk.input part.chunk.index)
    own_gives n part at foreign code y e =
        let w = part_of p parts es d is 0 n part at code in
        let kind : seen.part_kind k.tables (chunk_number k.tables.chunks (chunk_at part.chunk.input 0 part.chunk.index)) ≡ type_of p p.parts (own part.chunk.input part.chunk.index) =
        ap (λ t. seen.part_kind t (chunk_number t.chunks (chunk_at part.chunk.input 0 part.chunk.index))) sought.tables
        ∙ ap (seen.part_kind d.program.tables.now) w.chunk
        ∙ content_is t_names t_imports d.program.tables.now p is.program.tables w.number part w.at
        ∙ ap keys.part_type (sym w.found) in
        run_is (seen.part_kind k.tables (chunk_number k.tables.chunks (chunk_at part.chunk.input 0 part.chunk.index))) (seen.part_source k files (chunk_number k.tables.chunks (chunk_at part.chunk.input 0 part.chunk.index))) y (own part.chunk.input part.chunk.index)
        (ap (λ r. seen.run_by (if r then no_type else seen.part_kind k.tables (chunk_number k.tables.chunks (chunk_at part.chunk.input 0 part.chunk.index)))
        (if r then Some (seen.calls_seen k (chunk_number k.tables.chunks (chunk_at 0 0 part.chunk.index))) else seen.part_source k files (chunk_number k.tables.chunks (chunk_at part.chunk.input 0 part.chunk.index)))) (sym foreign) ∙ e)
        kind (λ s is_s. own_told p parts es d is k sought files same_files n part at code s is_s)

    made_key : (n : ℕ) (part : rules.Part) (key : keys.FunctionKey) → slice_get p.parts n ≡ Some part → made_function_key part ≡ Some key → Gives key
    made_key n part key at gives =
        let e = given_is ((part.chunk.input == 0) && (part.chunk.kind == 0)) (linker_function part.chunk.index) key gives in
        let two = both (part.chunk.input == 0) (part.chunk.kind == 0) e.0 in
        subst Gives e.1 (made_gives n part at two.0 two.1)

    own_key : (n : ℕ) (part : rules.Part) (key : keys.FunctionKey) → slice_get p.parts n ≡ Some part → own_function_key part ≡ Some key → Gives key
    own_key n part key at gives =
        let e = given_is (not (part.chunk.input == 0) && (part.chunk.kind == 0)) (own part.chunk.input part.chunk.index) key gives in
        let two = both (not (part.chunk.input == 0)) (part.chunk.kind == 0) e.0 in
        subst Gives e.1 (own_gives n part at (not_true (part.chunk.input == 0) two.0) two.1)

    abbrev Known_gives : keys.FunctionKey → Type 0
    Known_gives key = KnowsFunction t_names t_imports key → Gives key

    all_give : All Known_gives (all_functions p)
    all_give =
        let outs = map outside (filter (λ k. is_function_type k.type) (imports_in_order p)) in
        let made = filter_map made_function_key p.parts in
        let stubs = map stub (stub_names d.program p is.program is.stand) in
        let owns = filter_map own_function_key p.parts in
        All-append Known_gives (outs ++ made ++ stubs) owns
        (All-append Known_gives (outs ++ made) stubs
        (All-append Known_gives outs made
        (all_mapped Known_gives outside (λ key held. outside_gives key held) (filter (λ k. is_function_type k.type) (imports_in_order p)))
        (all_chosen Known_gives made_function_key p.parts (λ n part key at gives known. made_key n part key at gives)))
        (all_map Known_gives stub (stub_names d.program p is.program is.stand) (λ n name below known. stub_gives (get_or (stub_names d.program p is.program is.stand) n name) (stubs_known d.program p is.program is.stand n name below))))
        (all_chosen Known_gives own_function_key p.parts (λ n part key at gives known. own_key n part key at gives))

    -- The functions.
    pub functions_told : (ys : List (Option Runs)) → map f (all_fs d.program p is.program is.stand) ≡ map Some ys → ys ≡ map (plan_function p l) (all_functions p)
    functions_told ys e =
        all_given f (told_function t_names t_imports) (plan_function p l) (all_functions p) ys (λ n key below. all_give n key below (functions_known d.program p is.program is.stand n key below))
        (ap (map f) (sym (functions_are d.program p is.program is.stand)) ∙ e)

  -- ---- the table

  abbrev output : List FunctionKey
  output = d.numbering.now.functions

  taker_is : (key : FunctionKey) → Holds same_function_key function_equal function_itself output key → slice_index_or output (number_by same_function_key output key) no_function ≡ key
  taker_is key held =
      let s = stands same_function_key function_equal function_itself output key held in
      ap (λ n. slice_index_or output n no_function) (number_is same_function_key function_equal function_itself output key s.at s.found)
      ∙ get_or_from_slice_get output s.at key no_function s.there

  takers_told : (ss : List keys.FunctionKey) → All (λ s. Holds same_function_key function_equal function_itself output (told_function t_names t_imports s)) ss → All (KnowsFunction t_names t_imports) ss
      → map (taker_place (all_fs d.program p is.program is.stand) output) (map (number_by same_function_key output) (map (told_function t_names t_imports) ss)) ≡ map (function_place p) ss
  takers_told [] held known = refl
  takers_told (s ∷ ss) held known =
      let here =
      ap (λ key. position (same_function_key key) (all_fs d.program p is.program is.stand)) (taker_is (told_function t_names t_imports s) (All-head (λ s. Holds same_function_key function_equal function_itself output (told_function t_names t_imports s)) s ss held))
      ∙ function_at d.program p is.program is.stand s (All-head (KnowsFunction t_names t_imports) s ss known) in
      let there = takers_told ss (All-tail (λ s. Holds same_function_key function_equal function_itself output (told_function t_names t_imports s)) s ss held) (All-tail (KnowsFunction t_names t_imports) s ss known) in
      λ i. here i ∷ there i

  all_held : (fs : List keys.FunctionKey) → output ≡ map (told_function t_names t_imports) fs → All (λ s. Holds same_function_key function_equal function_itself output (told_function t_names t_imports s)) fs
  all_held fs are = λ n key below.
      subst (λ xs. Holds same_function_key function_equal function_itself xs (told_function t_names t_imports (get_or fs n key))) (sym are)
      (holds_at same_function_key function_equal function_itself (map (told_function t_names t_imports) fs) n (told_function t_names t_imports (get_or fs n key))
      (slice_get-map (told_function t_names t_imports) fs n ∙ ap (option_map (told_function t_names t_imports)) (slice_get-get_or fs n key below)))

  -- The table.
  pub table_told : None ∷ map (taker_place (all_fs d.program p is.program is.stand) output) (map (number_by same_function_key output) d.numbering.now.slots) ≡ worlds.plan_table p l
  unfolding layout slots
  table_told =
      let fs = keys.functions Plain p parts in
      let taken = map keys.ref_function (filter (keys.takes_slot Plain) (refs_of parts)) in
      let held = all_filtered (λ s. Holds same_function_key function_equal function_itself output (told_function t_names t_imports s)) (is_taken taken) fs (all_held fs is.numbering.functions) in
      let known = all_filtered (KnowsFunction t_names t_imports) (is_taken taken) fs (loader_known.functions_known Plain p parts es d (plain_stands p parts es d is)) in
      ap (λ ss. None ∷ map (taker_place (all_fs d.program p is.program is.stand) output) (map (number_by same_function_key output) ss)) is.numbering.slots
      ∙ ap (λ ps. None ∷ ps) (takers_told (filter (is_taken taken) fs) held known)
