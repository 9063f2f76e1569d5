-- What the data tell the loader is what the definition tells it.
use Rattle.std.proofs.Common.{◌≡◌, ℕ, ◌+◌, ◌==◌, Bool, true, false, cond, List, [], ◌∷◌, ◌++◌, map, filter, filter_map, length, get_or, slice_get, Option, Some, None, option_map, refl, sym, ap, ◌∙◌}
use Rattle.std.specs.Prelude.{if◌then◌else◌, bytes_eq, max}
use Rattle.std.specs.List.{list_any, list_all, All, cons_option}
use Rattle.std.proofs.Math.Nat.{zero-max}
use Rattle.std.proofs.lemmas.List.{length-map}
use Rattle.std.proofs.lemmas.List.Elements.{All-head, All-tail}
use Rattle.link_program.specs.wasm_types.declared.function.FuncType.{FuncType}
use Rattle.link_program.specs.linking_section.declared.symbol.SymbolKind.TheVariants.{Function}
use Rattle.link_program.specs.made_symbols.declared.mode.Mode.TheVariants.{Shared}
use Rattle.link_program.specs.name_rules.Entries.{InputSymbol, ImportKey, same_import}
use Rattle.link_program.specs.link_rules.Program as rules
use Rattle.link_program.specs.link_rules.Program.{function, segment, global, linker_made}
use Rattle.link_program.specs.link_rules.Keys as keys
use Rattle.link_program.specs.link_rules.Keys.{outside, linker_function, stub, own, outside_global, linker_global, own_global, got, exported_datum}
use Rattle.link_program.specs.link_rules.Values as values
use Rattle.link_program.specs.link_rules.Values.{segments}
use Rattle.link_program.specs.link_rules.Output.{layout}
use Rattle.link_program.specs.index_layout.Numbers.{number_by}
use Rattle.link_program.specs.link_rules.Loader as loader
use Rattle.link_program.specs.link_rules.Loader.{greatest, weak_imports, function_key_import, global_key_import}
use Rattle.dylink_out.specs.declared.dylink.ImportInfo.{ImportInfo}
use Rattle.link_program.specs.declared.part.Content.{Content}
use Rattle.link_program.specs.declared.part.Content.TheVariants as contents
use Rattle.link_program.specs.Keys.{told_function, told_global}
use Rattle.link_program.specs.Seen.{SeenContent, a_function, a_segment, a_global, the_linkers, seen_content, told_content}
use Rattle.link_program.specs.Look.{part_at}
use Rattle.link_program.specs.Live.{AreLive}
use Rattle.link_layout.specs.declared.values.Layout.{Layout}
use Rattle.link_layout.specs.link_numbers.Knows.{KnowsFunction, KnowsGlobal}
use Rattle.link_layout.proofs.Parts.{part_told}
use Rattle.link_layout.proofs.link_numbers_lemmas.Begun.{given_of}
use Rattle.link_layout.proofs.link_numbers_lemmas.Whole as whole
use Rattle.link_layout.proofs.link_numbers_lemmas.link_keys_lemmas.Equals.{OnePlace}
use Rattle.link_layout.proofs.link_numbers_lemmas.link_keys_lemmas.Imports.{import_equal, import_itself, name_equal, name_itself}
use Rattle.link_loader.specs.Cells.{all_tell}
use Rattle.link_loader.specs.Bound.{bound_part}
use Rattle.link_loader.specs.Weak.{flag_at, weak_seen}
use Rattle.link_loader.specs.Section.{content_align, align_at, info_of, info_seen, function_info, global_info, infos_seen, dylink_seen}
use Rattle.link_loader.proofs.Lists.{import_there}
use Rattle.link_loader.proofs.Stands.{Stands}
use Rattle.link_loader.proofs.Known as all_known
use Rattle.link_loader.proofs.Anys.{option_any}
use Rattle.link_loader.proofs.WeakTold.{weak_told}

-- ---- alignments

abbrev seen_align : SeenContent → ℕ
seen_align (a_function t) = 0
seen_align (a_segment align flags) = align
seen_align (a_global kind value) = 0
seen_align the_linkers = 0

align_seen : (types : List FuncType) (c : Content) → content_align c ≡ seen_align (seen_content types c)
align_seen types (contents.Function number) = refl
align_seen types (contents.Segment align flags) = refl
align_seen types (contents.Global kind value) = refl
align_seen types contents.Made = refl

align_told : (c : rules.Content) → seen_align (told_content c) ≡ values.content_align c
align_told (function t) = refl
align_told (segment info) = refl
align_told (global g) = refl
align_told (linker_made m) = refl

-- ---- infos

-- what is told of the items that pass
infos_of : {A : Type 0} (test : ImportKey → Bool) (h : A → Option ImportKey) (f : A → Option ImportInfo) (xs : List A)
    → All (λ x. f x ≡ (if option_any test (h x) then option_map info_of (h x) else None)) xs → filter_map f xs ≡ map info_of (filter test (filter_map h xs))
infos_of test h f [] all = refl
infos_of {A} test h f (x ∷ xs) all =
    let rest = infos_of test h f xs (All-tail (λ x. f x ≡ (if option_any test (h x) then option_map info_of (h x) else None)) x xs all) in
    (λ i. cons_option (All-head (λ x. f x ≡ (if option_any test (h x) then option_map info_of (h x) else None)) x xs all i) (rest i)) ∙ by (h x)
  where
    by_test : (k : ImportKey) (r : Bool) → cons_option (if r then Some (info_of k) else None) (map info_of (filter test (filter_map h xs))) ≡ map info_of (cond r (k ∷ filter test (filter_map h xs)) (filter test (filter_map h xs)))
    by_test k true = refl
    by_test k false = refl

    by : (o : Option ImportKey) → cons_option (if option_any test o then option_map info_of o else None) (map info_of (filter test (filter_map h xs))) ≡ map info_of (filter test (cons_option o (filter_map h xs)))
    by None = refl
    by (Some k) = by_test k (test k)

infos_append : (test : ImportKey → Bool) (xs ys : List ImportKey) → map info_of (filter test (xs ++ ys)) ≡ map info_of (filter test xs) ++ map info_of (filter test ys)
infos_append test [] ys = refl
infos_append test (x ∷ xs) ys = by (test x) (infos_append test xs ys)
  where
    by : (r : Bool) → map info_of (filter test (xs ++ ys)) ≡ map info_of (filter test xs) ++ map info_of (filter test ys)
        → map info_of (cond r (x ∷ filter test (xs ++ ys)) (filter test (xs ++ ys))) ≡ map info_of (cond r (x ∷ filter test xs) (filter test xs)) ++ map info_of (filter test ys)
    by true e = ap (λ r. info_of x ∷ r) e
    by false e = e

-- ---- a layout of a shared output

module _ (p : rules.Program) (parts : List rules.Part) (es : List InputSymbol) (d : Layout) (is : Stands Shared p parts es d) where
  abbrev N : List (List ℕ)
  N = d.program.names.now.names

  abbrev I : List ImportKey
  I = d.program.resolution.now.imports

  abbrev C : List (Option ℕ)
  C = d.program.resolution.now.cells

  abbrev L : values.Layout
  L = layout Shared p parts es

  one_import : OnePlace same_import import_equal import_itself I
  one_import = whole.one_import (given_of d.program p is.live.0 parts is.program is.stand is.live.1 is.meant)

  one_name : OnePlace bytes_eq name_equal name_itself N
  one_name = whole.one_name (given_of d.program p is.live.0 parts is.program is.stand is.live.1 is.meant)

  -- ---- alignment

  align_is : (n : ℕ) (x : rules.Part) → slice_get p.parts n ≡ Some x → align_at d.program.tables.now n ≡ (if x.chunk.kind == 1 then values.content_align x.content else 0)
  align_is n x at =
      let told = part_told N I d.program.tables.now p is.program.tables n x at in
      let content = align_seen d.program.tables.now.types (part_at d.program.tables.now n).content ∙ ap (λ y. seen_align y.content) told ∙ align_told x.content in
      λ i. if (told i).chunk.kind == 1 then content i else 0

  greatest_told : (ns : List ℕ) (xs : List rules.Part) → map (slice_get p.parts) ns ≡ map Some xs
      → greatest (map (align_at d.program.tables.now) ns) ≡ greatest (map (λ (part : rules.Part). values.content_align part.content) (segments xs))
  greatest_told [] [] e = refl
  greatest_told [] (x ∷ xs) e = absurd cc
  greatest_told (n ∷ ns) [] e = absurd cc
  greatest_told (n ∷ ns) (x ∷ xs) e =
      let at : slice_get p.parts n ≡ Some x = cc in
      let rest : map (slice_get p.parts) ns ≡ map Some xs = cc in
      let first = align_is n x at in
      let more = greatest_told ns xs rest in
      (λ i. max (first i) (more i)) ∙ by (x.chunk.kind == 1)
    where
      by : (r : Bool) → max (if r then values.content_align x.content else 0) (greatest (map (λ (part : rules.Part). values.content_align part.content) (segments xs)))
          ≡ greatest (map (λ (part : rules.Part). values.content_align part.content) (cond r (x ∷ segments xs) (segments xs)))
      by true = refl
      by false = zero-max _

  -- ---- imports that may be absent

  module _ (live : List ℕ) (lives : AreLive p live parts) (all : all_tell N I C 0 d.program.tables.now.symbols ≡ true) (bound : list_all (bound_part d.program.tables.now) live ≡ true) where
    abbrev Weak : List Bool
    Weak = weak_seen d.program live

    abbrev Test : ImportKey → Bool
    Test k = list_any (same_import k) (weak_imports Shared p parts L)

    key_info : (k : ImportKey) → list_any (same_import k) I ≡ true → info_seen I Weak ((number_by same_import I k)) ≡ (if Test k then Some (info_of k) else None)
    key_info k held =
        let there = import_there I k held in
        ap (λ o. if flag_at Weak ((number_by same_import I k)) then option_map info_of o else None) there
        ∙ ap (λ b. if b then Some (info_of k) else None) (weak_told p parts es d is all (number_by same_import I k) k there live lives bound)

    function_told : (f : keys.FunctionKey) → KnowsFunction N I f → function_info I Weak (told_function N I f) ≡ (if option_any Test (function_key_import Shared p parts L f) then option_map info_of (function_key_import Shared p parts L f) else None)
    function_told (outside k) knows = key_info k knows
    function_told (linker_function n) knows = refl
    function_told (stub name) knows = refl
    function_told (own input index) knows = refl

    global_told : (g : keys.GlobalKey) → KnowsGlobal I g → global_info I Weak (told_global I g) ≡ (if option_any Test (global_key_import Shared p parts L g) then option_map info_of (global_key_import Shared p parts L g) else None)
    global_told (outside_global k) knows = key_info k knows
    global_told (linker_global n) knows = refl
    global_told (own_global input index) knows = refl
    global_told (got key) knows = refl
    global_told (exported_datum e) knows = refl

    mapped : {A B C : Type 0} (h : B → Option C) (told : A → B) (xs : List A) → filter_map h (map told xs) ≡ filter_map (λ x. h (told x)) xs
    mapped h told [] = refl
    mapped h told (x ∷ xs) = ap (cons_option (h (told x))) (mapped h told xs)

    functions_told : filter_map (function_info I Weak) d.numbering.now.functions ≡ map info_of (filter Test (filter_map (function_key_import Shared p parts L) L.numbers.functions))
    unfolding layout
    functions_told =
        ap (filter_map (function_info I Weak)) is.numbering.functions
        ∙ mapped (function_info I Weak) (told_function N I) (keys.functions Shared p parts)
        ∙ infos_of Test (function_key_import Shared p parts L) (λ f. function_info I Weak (told_function N I f)) (keys.functions Shared p parts)
        (λ k f below. function_told (get_or (keys.functions Shared p parts) k f) (all_known.functions_known Shared p parts es d is k f below))

    globals_told : filter_map (global_info I Weak) d.numbering.now.globals ≡ map info_of (filter Test (filter_map (global_key_import Shared p parts L) L.numbers.globals))
    unfolding layout
    globals_told =
        ap (filter_map (global_info I Weak)) is.numbering.globals
        ∙ mapped (global_info I Weak) (told_global I) (keys.globals Shared p parts es)
        ∙ infos_of Test (global_key_import Shared p parts L) (λ g. global_info I Weak (told_global I g)) (keys.globals Shared p parts es)
        (λ k g below. global_told (get_or (keys.globals Shared p parts es) k g) (all_known.globals_known Shared p parts es d is k g below).0)

    infos_told : infos_seen d live ≡ loader.import_infos Shared p parts L
    infos_told =
        (λ i. functions_told i ++ globals_told i)
        ∙ sym (infos_append Test (filter_map (function_key_import Shared p parts L) L.numbers.functions) (filter_map (global_key_import Shared p parts L) L.numbers.globals))

    pub section_told : dylink_seen d live ≡ loader.dylink Shared p parts L
    unfolding layout
    section_told =
        let align = greatest_told live parts lives.are in
        let slots = ap length is.numbering.slots ∙ length-map (keys.slots Shared parts (keys.functions Shared p parts)) (told_function N I) in
        let infos = infos_told in
        λ i. record {
          memory_size = (is.placed.places i).data_end;
          memory_align = align i;
          table_size = slots i;
          table_align = 0;
          needed = [];
          exports = [];
          imports = infos i;
        }
