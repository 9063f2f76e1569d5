-- The windows of all sources of a layout, as the data show them.
use Rattle.std.proofs.Common.{◌≡◌, ℕ, zero, suc, ◌+◌, ◌==◌, Bool, true, false, not, ◌&&◌, ◌||◌, cond, List, [], ◌∷◌, ◌++◌, map, filter, filter_map, length, get_or, drop, slice_get, find, Some, None, option_map, refl, sym, ap, ◌∙◌, arith, eq-eqb, eqb-true, append_assoc}
use Rattle.std.specs.Prelude.{if◌then◌else◌}
use Rattle.std.specs.List.{list_any, list_all, All, cons_option}
use Rattle.std.proofs.lemmas.Bool.{and_parts, and_from}
use Rattle.std.proofs.lemmas.List.{length-map}
use Rattle.std.proofs.lemmas.List.Elements.{All-head, All-tail, All-cons, All-append}
use Rattle.std.proofs.lemmas.List.Sums.{AllPass-from_list_all}
use Rattle.std.proofs.lemmas.Option.{slice_get-get_or, slice_get-map, slice_get_within, get_or_from_slice_get}
use Rattle.link_program.specs.wl_base.Choice.{given}
use Rattle.link_program.specs.made_symbols.declared.mode.Mode.{Mode}
use Rattle.link_program.specs.made_symbols.declared.mode.Mode.TheVariants.{Plain, Shared}
use Rattle.link_program.specs.mark_bits.declared.chunk.Chunk.{Chunk}
use Rattle.link_program.specs.reloc_apply.declared.window.Window.{Window}
use Rattle.link_program.specs.name_rules.Entries.{InputSymbol, ImportKey}
use Rattle.link_program.specs.link_rules.Program as rules
use Rattle.link_program.specs.link_rules.Program.{chunk_at}
use Rattle.link_program.specs.link_rules.Keys as keys
use Rattle.link_program.specs.link_rules.Keys.{outside, linker_function, stub, own, functions, function_imports_of, defined_functions, made_function_key, own_function_key, stub_names, is_function_at}
use Rattle.link_program.specs.link_rules.Marks.{refs_of, by_mode}
use Rattle.link_program.specs.link_rules.Values as values
use Rattle.link_program.specs.link_rules.Values.{segments, solid_segments, is_zero, windows}
use Rattle.link_program.specs.link_rules.Output as output
use Rattle.link_program.specs.link_rules.Output.{layout, source_windows, held}
use Rattle.patch_pieces.specs.Judged.{judged_patches}
use Rattle.link_program.specs.declared.keys.FunctionKey.{FunctionKey}
use Rattle.link_program.specs.Keys.{told_function}
use Rattle.link_program.specs.Moved.{moved_window, moved_windows}
use Rattle.link_program.specs.Seen.{NamesOne}
use Rattle.link_program.specs.Live.{AreLive}
use Rattle.link_numbers.specs.Numbered.{is_import}
use Rattle.link_layout.specs.declared.values.Layout.{Layout}
use Rattle.link_program.specs.Look.{row_at}
use Rattle.link_layout.specs.Segments.{is_segment_at}
use Rattle.link_layout.specs.Placed.{is_solid}
use Rattle.link_program.specs.Look.{chunk_number}
use Rattle.link_layout.specs.Seen.{is_solid_at, defined}
use Rattle.link_layout.specs.Rows.{is_named_told, are_rows_told, are_told, window_by, row_windows, part_windows, body_windows, moved_sources}
use Rattle.link_layout.specs.Put.{written_of}
use Rattle.link_layout.proofs.Told.{IsTold}
use Rattle.link_layout.proofs.Patched.{written_judged}
use Rattle.link_layout.specs.Layout.{looked, AreThere}
use Rattle.link_program.proofs.Chunks.{stands_at}
use Rattle.link_layout.proofs.Pairs.{pairs_within, find_pair}
use Rattle.link_layout.proofs.Parts.{row_told, same_number, same_part, among_by_number}
use Rattle.link_layout.proofs.PlacedTold.{solid_at, solids_are}
use Rattle.link_layout.proofs.Windows.{known_parts, rows_told, all_known}

-- ---- lists

pub moved_append : (places : List ℕ) (a b : List (List Window)) → moved_windows places (a ++ b) ≡ moved_windows places a ++ moved_windows (drop (length a) places) b
moved_append [] [] b = refl
moved_append [] (w ∷ a) b = refl
moved_append (k ∷ places) [] b = refl
moved_append (k ∷ places) (w ∷ a) b = ap (λ r. map (moved_window k) w ++ r) (moved_append places a b) ∙ sym (append_assoc (map (moved_window k) w) (moved_windows places a) (moved_windows (drop (length a) places) b))

all_row : {A : Type 0} (P : A → Type 0) (rows : List (List A)) → All (λ row. All P row) rows → (n : ℕ) → All P (get_or rows n [])
all_row P [] all n = λ k d below. absurd (omega arith)
all_row P (row ∷ rows) all zero = All-head (λ row. All P row) row rows all
all_row P (row ∷ rows) all (suc n) = all_row P rows (All-tail (λ row. All P row) row rows all) n

map_same : {A B C : Type 0} (f : B → C) (g : A → C) (told : A → B) (xs : List A) → All (λ x. f (told x) ≡ g x) xs → map f (map told xs) ≡ map g xs
map_same f g told [] all = refl
map_same f g told (x ∷ xs) all =
    let h = All-head (λ x. f (told x) ≡ g x) x xs all in let t = map_same f g told xs (All-tail (λ x. f (told x) ≡ g x) x xs all) in λ i. h i ∷ t i

filter_same : {A : Type 0} (p q : A → Bool) (xs : List A) → All (λ x. p x ≡ q x) xs → filter p xs ≡ filter q xs
filter_same p q [] all = refl
filter_same p q (x ∷ xs) all =
    let h = All-head (λ x. p x ≡ q x) x xs all in let t = filter_same p q xs (All-tail (λ x. p x ≡ q x) x xs all) in λ i. cond (h i) (x ∷ t i) (t i)

filter_twice : {A : Type 0} (p q : A → Bool) (xs : List A) → filter q (filter p xs) ≡ filter (λ x. p x && q x) xs
filter_twice p q [] = refl
filter_twice {A} p q (x ∷ xs) = by_first (p x) (filter_twice p q xs)
  where
    by_first : (r : Bool) → filter q (filter p xs) ≡ filter (λ x. p x && q x) xs → filter q (cond r (x ∷ filter p xs) (filter p xs)) ≡ cond (r && q x) (x ∷ filter (λ x. p x && q x) xs) (filter (λ x. p x && q x) xs)
    by_first true again = ap (λ r. cond (q x) (x ∷ r) r) again
    by_first false again = again

any_here : {A : Type 0} (p : A → Bool) (xs : List A) (k : ℕ) (x : A) → slice_get xs k ≡ Some x → p x ≡ true → list_any p xs ≡ true
any_here p [] k x at is = absurd cc
any_here p (y ∷ xs) zero x at is = let same : y ≡ x = cc in ap (λ r. r || list_any p xs) (ap p same ∙ is)
any_here p (y ∷ xs) (suc k) x at is = or_last (p y) (list_any p xs) (any_here p xs k x at is)
  where
    or_last : (a b : Bool) → b ≡ true → (a || b) ≡ true
    or_last true b e = refl
    or_last false b e = e

-- a number is among those that are kept where it is there and is kept
any_filtered : (h : ℕ → Bool) (n : ℕ) (ns : List ℕ) → list_any (λ m. n == m) (filter h ns) ≡ (list_any (λ m. n == m) ns && h n)
any_filtered h n [] = refl
any_filtered h n (m ∷ ns) = by_first (h m) (n == m) refl refl (any_filtered h n ns)
  where
    by_first : (r a : Bool) → h m ≡ r → (n == m) ≡ a → list_any (λ m. n == m) (filter h ns) ≡ (list_any (λ m. n == m) ns && h n)
        → list_any (λ m. n == m) (cond r (m ∷ filter h ns) (filter h ns)) ≡ ((a || list_any (λ m. n == m) ns) && h n)
    by_first true true kept is again =
        let same : n ≡ m = eqb-true n m is in
        ap (λ v. v || list_any (λ m. n == m) (filter h ns)) is ∙ sym (ap h same ∙ kept)
    by_first true false kept is again = ap (λ v. v || list_any (λ m. n == m) (filter h ns)) is ∙ again
    by_first false true kept is again =
        let same : n ≡ m = eqb-true n m is in
        let no : h n ≡ false = ap h same ∙ kept in
        again ∙ ap (λ v. list_any (λ m. n == m) ns && v) no ∙ never (list_any (λ m. n == m) ns) ∙ sym no
      where
        never : (a : Bool) → (a && false) ≡ false
        never true = refl
        never false = refl
    by_first false false kept is again = again

all_there : (ns : List ℕ) → All (λ n. list_any (λ m. n == m) ns ≡ true) ns
all_there ns = λ k d below. any_here (λ m. get_or ns k d == m) ns k (get_or ns k d) (slice_get-get_or ns k d below) (eq-eqb (get_or ns k d) (get_or ns k d) refl)

-- what is kept was there
kept_among : {A : Type 0} (p : A → Bool) (xs : List A) (k : ℕ) (x : A) → slice_get (filter p xs) k ≡ Some x → (j : ℕ) × (slice_get xs j ≡ Some x)
kept_among p [] k x at = absurd cc
kept_among {A} p (y ∷ xs) k x at = by_first (p y) k at (kept_among p xs)
  where
    by_first : (r : Bool) (k : ℕ) → slice_get (cond r (y ∷ filter p xs) (filter p xs)) k ≡ Some x → ((k : ℕ) (x : A) → slice_get (filter p xs) k ≡ Some x → (j : ℕ) × (slice_get xs j ≡ Some x)) → (j : ℕ) × (slice_get (y ∷ xs) j ≡ Some x)
    by_first true zero at again = (0, at)
    by_first true (suc k) at again = let w = again k x at in (suc w.0, w.1)
    by_first false k at again = let w = again k x at in (suc w.0, w.1)

-- ---- functions behind the imports

module _ (mode : Mode) (names : List (List ℕ)) (imports : List ImportKey) (p : rules.Program) (parts : List rules.Part) (es : List InputSymbol) (l : values.Layout) where
  import_told : (f : keys.FunctionKey) → is_import (told_function names imports f) ≡ output.is_import mode p parts es l f
  import_told (outside k) = refl
  import_told (linker_function n) = refl
  import_told (stub name) = refl
  import_told (own input index) = refl

  no_imports : (fs : List keys.FunctionKey) → All (λ f. output.is_import mode p parts es l f ≡ false) fs → filter is_import (map (told_function names imports) fs) ≡ []
  no_imports [] all = refl
  no_imports (f ∷ fs) all =
      ap (λ r. cond r (told_function names imports f ∷ filter is_import (map (told_function names imports) fs)) (filter is_import (map (told_function names imports) fs)))
      (import_told f ∙ All-head (λ f. output.is_import mode p parts es l f ≡ false) f fs all)
      ∙ no_imports fs (All-tail (λ f. output.is_import mode p parts es l f ≡ false) f fs all)

  all_defined : (fs : List keys.FunctionKey) → All (λ f. output.is_import mode p parts es l f ≡ false) fs → filter (λ f. not (output.is_import mode p parts es l f)) fs ≡ fs
  all_defined [] all = refl
  all_defined (f ∷ fs) all =
      ap (λ r. cond (not r) (f ∷ filter (λ f. not (output.is_import mode p parts es l f)) fs) (filter (λ f. not (output.is_import mode p parts es l f)) fs)) (All-head (λ f. output.is_import mode p parts es l f ≡ false) f fs all)
      ∙ ap (λ r. f ∷ r) (all_defined fs (All-tail (λ f. output.is_import mode p parts es l f ≡ false) f fs all))

  -- what is behind the imports, in the data and in the definition
  behind_imports : (ks : List ImportKey) (fs : List keys.FunctionKey) → All (λ f. output.is_import mode p parts es l f ≡ false) fs
      → defined (map (told_function names imports) (map outside ks ++ fs)) ≡ map (told_function names imports) fs
  behind_imports [] fs all = ap (λ r. drop (length r) (map (told_function names imports) fs)) (no_imports fs all)
  behind_imports (k ∷ ks) fs all = behind_imports ks fs all

  defined_behind : (ks : List ImportKey) (fs : List keys.FunctionKey) → All (λ f. output.is_import mode p parts es l f ≡ false) fs
      → filter (λ f. not (output.is_import mode p parts es l f)) (map outside ks ++ fs) ≡ fs
  defined_behind [] fs all = all_defined fs all
  defined_behind (k ∷ ks) fs all = defined_behind ks fs all

  made_defined : (xs : List rules.Part) → All (λ f. output.is_import mode p parts es l f ≡ false) (filter_map made_function_key xs)
  made_defined [] = λ k d below. absurd (omega arith)
  made_defined (x ∷ xs) = by_test ((x.chunk.input == 0) && (x.chunk.kind == 0)) (made_defined xs)
    where
      by_test : (r : Bool) → All (λ f. output.is_import mode p parts es l f ≡ false) (filter_map made_function_key xs)
          → All (λ f. output.is_import mode p parts es l f ≡ false) (cons_option (given r (linker_function x.chunk.index)) (filter_map made_function_key xs))
      by_test true all = All-cons (λ f. output.is_import mode p parts es l f ≡ false) (linker_function x.chunk.index) (filter_map made_function_key xs) refl all
      by_test false all = all

  own_defined : (xs : List rules.Part) → All (λ f. output.is_import mode p parts es l f ≡ false) (filter_map own_function_key xs)
  own_defined [] = λ k d below. absurd (omega arith)
  own_defined (x ∷ xs) = by_test (not (x.chunk.input == 0) && (x.chunk.kind == 0)) (own_defined xs)
    where
      by_test : (r : Bool) → All (λ f. output.is_import mode p parts es l f ≡ false) (filter_map own_function_key xs)
          → All (λ f. output.is_import mode p parts es l f ≡ false) (cons_option (given r (own x.chunk.input x.chunk.index)) (filter_map own_function_key xs))
      by_test true all = All-cons (λ f. output.is_import mode p parts es l f ≡ false) (own x.chunk.input x.chunk.index) (filter_map own_function_key xs) refl all
      by_test false all = all

  stubs_defined : (xs : List (List ℕ)) → All (λ f. output.is_import mode p parts es l f ≡ false) (map stub xs)
  stubs_defined [] = λ k d below. absurd (omega arith)
  stubs_defined (x ∷ xs) = All-cons (λ f. output.is_import mode p parts es l f ≡ false) (stub x) (map stub xs) refl (stubs_defined xs)

  none_imported : All (λ f. output.is_import mode p parts es l f ≡ false) (defined_functions p parts)
  none_imported =
      let P : keys.FunctionKey → Type 0 = λ f. output.is_import mode p parts es l f ≡ false in
      let made = filter_map made_function_key parts in
      let stubs = map stub (stub_names p (refs_of parts)) in
      let owns = filter_map own_function_key parts in
      All-append P (made ++ stubs) owns (All-append P made stubs (made_defined parts) (stubs_defined (stub_names p (refs_of parts)))) (own_defined parts)

-- ---- a layout

module _ (mode : Mode) (p : rules.Program) (parts : List rules.Part) (es : List InputSymbol) (d : Layout) (is : IsTold mode p parts es d) where
  pub are_there : AreThere d
  are_there = record {
    rows = is.program.tables.named_there;
    types = ap length is.numbering.type_numbers ∙ length-map d.program.tables.now.types _;
  }

  -- ---- the numbers of segments

  module _ (live : List ℕ) (lives : AreLive p live parts) where
    pairs : map (slice_get p.parts) (filter (λ n. is_segment_at d.program.tables.now n && solid_at d.program.tables.now p.files n) live) ≡ map Some (solid_segments p parts)
    pairs =
        ap (map (slice_get p.parts)) (sym (filter_twice (is_segment_at d.program.tables.now) (solid_at d.program.tables.now p.files) live))
        ∙ solids_are mode d.program.names.now.names d.program.resolution.now.imports d.program.tables.now p is.program.tables live parts lives p.files refl

    -- the flag of a live part
    flag_told : (n : ℕ) (part : rules.Part) → slice_get p.parts n ≡ Some part → list_any (λ m. n == m) live ≡ true
        → is_solid_at (looked d) n ≡ (is_segment_at d.program.tables.now n && solid_at d.program.tables.now p.files n)
    flag_told n part at there =
        let h : ℕ → Bool = λ m. is_segment_at d.program.tables.now m && solid_at d.program.tables.now p.files m in
        let g : rules.Part → Bool = λ (x : rules.Part). is_solid p parts x.chunk in
        ap (λ xs. get_or xs n false) is.placed.solid
        ∙ get_or_from_slice_get (map g p.parts) n (g part) false (slice_get-map g p.parts n ∙ ap (option_map g) at)
        ∙ sym (among_by_number p.parts is.program.tables.differ n part at (filter h live) (solid_segments p parts) pairs)
        ∙ any_filtered h n live
        ∙ ap (λ r. r && h n) there

    flags_told : (ns : List ℕ) (xs : List rules.Part) → map (slice_get p.parts) ns ≡ map Some xs → All (λ n. list_any (λ m. n == m) live ≡ true) ns
        → filter (is_solid_at (looked d)) ns ≡ filter (λ n. is_segment_at d.program.tables.now n && solid_at d.program.tables.now p.files n) ns
    flags_told [] xs e there = refl
    flags_told (n ∷ ns) [] e there = absurd cc
    flags_told (n ∷ ns) (x ∷ xs) e there =
        let at : slice_get p.parts n ≡ Some x = cc in
        let rest : map (slice_get p.parts) ns ≡ map Some xs = cc in
        let h = flag_told n x at (All-head (λ n. list_any (λ m. n == m) live ≡ true) n ns there) in
        let t = flags_told ns xs rest (All-tail (λ n. list_any (λ m. n == m) live ≡ true) n ns there) in
        λ i. cond (h i) (n ∷ t i) (t i)

    -- The flags of the live parts are those of the live segments that aren't zero.
    pub solid_numbers : map (slice_get p.parts) (filter (is_solid_at (looked d)) live) ≡ map Some (solid_segments p parts)
    solid_numbers = ap (map (slice_get p.parts)) (flags_told live parts lives.are (all_there live)) ∙ pairs

  module _ (right : are_told (looked d) is.live.0 ≡ true) where
    -- that which the windows of a live part name can be told
    row_right : (m : Mode) → by_mode m true (are_rows_told (looked d) is.live.0) ≡ true → (n : ℕ) → (k : ℕ) → slice_get is.live.0 k ≡ Some n
        → All (λ named. by_mode m true (is_named_told (looked d) named) ≡ true) (row_at d.program.tables.now n)
    row_right Plain told n k at = λ i x below. refl
    row_right Shared told n k at =
        let whole = AllPass-from_list_all (λ n. list_all (is_named_told (looked d)) (row_at d.program.tables.now n)) is.live.0 told k n (slice_get_within is.live.0 k n at) in
        let same : get_or is.live.0 k n ≡ n = get_or_from_slice_get is.live.0 k n n at in
        λ i x below. AllPass-from_list_all (is_named_told (looked d)) (row_at d.program.tables.now n) (ap (λ m. list_all (is_named_told (looked d)) (row_at d.program.tables.now m)) (sym same) ∙ whole) i x below

    part_right : (n k : ℕ) (part : rules.Part) → slice_get p.parts n ≡ Some part → slice_get parts k ≡ Some part → All (λ named. by_mode mode true (is_named_told (looked d) named) ≡ true) (row_at d.program.tables.now n)
    part_right n k part at live =
        let w = pairs_within p.parts is.live.0 parts is.live.1.are k part live in
        let same : w.0 ≡ n = same_number p.parts is.program.tables.differ w.0 n part part w.2 at refl in
        row_right mode (ap (λ m. by_mode m true (are_rows_told (looked d) is.live.0)) (sym is.asked) ∙ right) n k (w.1 ∙ ap (λ m. Some m) same)

    -- the windows of a part, by its number
    part_windows_told : (n k : ℕ) (part : rules.Part) → slice_get p.parts n ≡ Some part → slice_get parts k ≡ Some part
        → row_windows (looked d) n ≡ windows mode (layout mode p parts es) part
    unfolding windows
    part_windows_told n k part at live =
        ap (λ m. map (window_by m (looked d)) (row_at d.program.tables.now n)) is.asked
        ∙ rows_told mode p parts es d is (row_at d.program.tables.now n) part.named
        (row_told d.program.names.now.names d.program.resolution.now.imports d.program.tables.now p is.program.tables n part at)
        (all_row (NamesOne d.program.tables.now.symbols d.program.tables.now.types) d.program.tables.now.named is.program.tables.named_there n)
        (known_parts mode d.program.names.now.names d.program.resolution.now.imports parts (all_known mode p parts es d is) k part live)
        (part_right n k part at live)

    -- ---- bodies

    abbrev Body : keys.FunctionKey → Type 0
    Body f = body_windows (looked d) (told_function d.program.names.now.names d.program.resolution.now.imports f) ≡ output.body_windows mode p parts es (layout mode p parts es) f

    -- the body of a live function of an object
    own_part : (k : ℕ) (part : rules.Part) → slice_get parts k ≡ Some part → (part.chunk.input == 0) ≡ false → (part.chunk.kind == 0) ≡ true
        → body_windows (looked d) (told_function d.program.names.now.names d.program.resolution.now.imports (own part.chunk.input part.chunk.index))
        ≡ output.body_windows mode p parts es (layout mode p parts es) (own part.chunk.input part.chunk.index)
    own_part k part live foreign code =
        let w = pairs_within p.parts is.live.0 parts is.live.1.are k part live in
        let chunk : chunk_at part.chunk.input 0 part.chunk.index ≡ part.chunk = own_chunk part.chunk code in
        let there : slice_get d.program.tables.now.chunks w.0 ≡ Some part.chunk =
        ap (λ xs. slice_get xs w.0) is.program.tables.chunks ∙ slice_get-map (λ (x : rules.Part). x.chunk) p.parts w.0 ∙ ap (option_map (λ (x : rules.Part). x.chunk)) w.2 in
        let only : (m : ℕ) → slice_get d.program.tables.now.chunks m ≡ Some part.chunk → m ≡ w.0 =
        (λ m at. is.program.tables.differ m w.0 part.chunk (ap (λ xs. slice_get xs m) (sym is.program.tables.chunks) ∙ at) (ap (λ xs. slice_get xs w.0) (sym is.program.tables.chunks) ∙ there)) in
        let number : chunk_number d.program.tables.now.chunks (chunk_at part.chunk.input 0 part.chunk.index) ≡ Some w.0 =
        ap (chunk_number d.program.tables.now.chunks) chunk ∙ stands_at d.program.tables.now.chunks part.chunk w.0 there only in
        let found : find (is_function_at part.chunk.input part.chunk.index) parts ≡ Some part =
        find_pair p.parts (is_function_at part.chunk.input part.chunk.index) part
        (λ m y at t. same_part p.parts is.program.tables.differ m w.0 y part at w.2 (function_chunk part.chunk y.chunk code t))
        (function_itself part.chunk code) is.live.0 parts is.live.1.are k live in
        ap (λ r. part_windows (looked d) (if r then None else chunk_number d.program.tables.now.chunks (chunk_at part.chunk.input 0 part.chunk.index))) foreign
        ∙ ap (part_windows (looked d)) number
        ∙ part_windows_told w.0 k part w.2 live
        ∙ ap (output.windows_in mode p parts es (layout mode p parts es)) (sym found)
      where
        own_chunk : (c : Chunk) → (c.kind == 0) ≡ true → chunk_at c.input 0 c.index ≡ c
        own_chunk c e = let k : 0 ≡ c.kind = sym (eqb-true c.kind 0 e) in λ i. record { input = c.input; kind = k i; index = c.index }

        function_chunk : (c y : Chunk) → (c.kind == 0) ≡ true → ((y.kind == 0) && (y.input == c.input) && (y.index == c.index)) ≡ true → y ≡ c
        function_chunk c y e t =
            let a = and_parts ((y.kind == 0) && (y.input == c.input)) (y.index == c.index) t in
            let b = and_parts (y.kind == 0) (y.input == c.input) a.0 in
            let kind : y.kind ≡ c.kind = eqb-true y.kind 0 b.0 ∙ sym (eqb-true c.kind 0 e) in
            let input : y.input ≡ c.input = eqb-true y.input c.input b.1 in
            let index : y.index ≡ c.index = eqb-true y.index c.index a.1 in
            λ i. record { input = input i; kind = kind i; index = index i }

        function_itself : (c : Chunk) → (c.kind == 0) ≡ true → ((c.kind == 0) && (c.input == c.input) && (c.index == c.index)) ≡ true
        function_itself c e =
            and_from ((c.kind == 0) && (c.input == c.input)) (c.index == c.index) (and_from (c.kind == 0) (c.input == c.input) e (eq-eqb c.input c.input refl)) (eq-eqb c.index c.index refl)

    own_bodies : (xs : List rules.Part) → ((k : ℕ) (x : rules.Part) → slice_get xs k ≡ Some x → (j : ℕ) × (slice_get parts j ≡ Some x)) → All Body (filter_map own_function_key xs)
    own_bodies [] among = λ k d below. absurd (omega arith)
    own_bodies (x ∷ xs) among = by_test (x.chunk.input == 0) (x.chunk.kind == 0) refl refl (own_bodies xs (λ k y at. among (suc k) y at))
      where
        by_test : (a b : Bool) → (x.chunk.input == 0) ≡ a → (x.chunk.kind == 0) ≡ b → All Body (filter_map own_function_key xs)
            → All Body (cons_option (given (not a && b) (own x.chunk.input x.chunk.index)) (filter_map own_function_key xs))
        by_test false true foreign code all =
            let w = among 0 x refl in
            All-cons Body (own x.chunk.input x.chunk.index) (filter_map own_function_key xs) (own_part w.0 x w.1 foreign code) all
        by_test false false foreign code all = all
        by_test true b foreign code all = all

    made_bodies : (xs : List rules.Part) → All Body (filter_map made_function_key xs)
    made_bodies [] = λ k d below. absurd (omega arith)
    made_bodies (x ∷ xs) = by_test ((x.chunk.input == 0) && (x.chunk.kind == 0)) (made_bodies xs)
      where
        by_test : (r : Bool) → All Body (filter_map made_function_key xs) → All Body (cons_option (given r (linker_function x.chunk.index)) (filter_map made_function_key xs))
        by_test true all = All-cons Body (linker_function x.chunk.index) (filter_map made_function_key xs) refl all
        by_test false all = all

    stub_bodies : (xs : List (List ℕ)) → All Body (map stub xs)
    stub_bodies [] = λ k d below. absurd (omega arith)
    stub_bodies (x ∷ xs) = All-cons Body (stub x) (map stub xs) refl (stub_bodies xs)

    all_bodies : All Body (defined_functions p parts)
    all_bodies =
        let made = filter_map made_function_key parts in
        let stubs = map stub (stub_names p (refs_of parts)) in
        let owns = filter_map own_function_key parts in
        All-append Body (made ++ stubs) owns (All-append Body made stubs (made_bodies parts) (stub_bodies (stub_names p (refs_of parts)))) (own_bodies parts (λ k x at. (k, at)))

    functions_are : d.numbering.now.functions ≡ map (told_function d.program.names.now.names d.program.resolution.now.imports) (map outside (function_imports_of mode p (refs_of parts)) ++ defined_functions p parts)
    unfolding functions
    functions_are = is.numbering.functions

    defined_data : defined d.numbering.now.functions ≡ map (told_function d.program.names.now.names d.program.resolution.now.imports) (defined_functions p parts)
    defined_data =
        ap defined functions_are
        ∙ behind_imports mode d.program.names.now.names d.program.resolution.now.imports p parts es (layout mode p parts es) (function_imports_of mode p (refs_of parts)) (defined_functions p parts)
        (none_imported mode d.program.names.now.names d.program.resolution.now.imports p parts es (layout mode p parts es))

    defined_rules : output.defined mode p parts es (layout mode p parts es) ≡ defined_functions p parts
    unfolding layout functions
    defined_rules =
        defined_behind mode d.program.names.now.names d.program.resolution.now.imports p parts es (layout mode p parts es) (function_imports_of mode p (refs_of parts)) (defined_functions p parts)
        (none_imported mode d.program.names.now.names d.program.resolution.now.imports p parts es (layout mode p parts es))

    bodies_told : map (body_windows (looked d)) (defined d.numbering.now.functions) ≡ map (output.body_windows mode p parts es (layout mode p parts es)) (output.defined mode p parts es (layout mode p parts es))
    bodies_told =
        ap (map (body_windows (looked d))) defined_data
        ∙ map_same (body_windows (looked d)) (output.body_windows mode p parts es (layout mode p parts es)) (told_function d.program.names.now.names d.program.resolution.now.imports) (defined_functions p parts) all_bodies
        ∙ ap (map (output.body_windows mode p parts es (layout mode p parts es))) (sym defined_rules)

    -- ---- segments

    segments_told : (ns : List ℕ) (xs : List rules.Part) → map (slice_get p.parts) ns ≡ map Some xs → ((k : ℕ) (x : rules.Part) → slice_get xs k ≡ Some x → (j : ℕ) × (slice_get parts j ≡ Some x))
        → map (row_windows (looked d)) ns ≡ map (windows mode (layout mode p parts es)) xs
    segments_told [] [] e among = refl
    segments_told [] (x ∷ xs) e among = absurd cc
    segments_told (n ∷ ns) [] e among = absurd cc
    segments_told (n ∷ ns) (x ∷ xs) e among =
        let at : slice_get p.parts n ≡ Some x = cc in
        let rest : map (slice_get p.parts) ns ≡ map Some xs = cc in
        let w = among 0 x refl in
        let h = part_windows_told n w.0 x at w.1 in
        let t = segments_told ns xs rest (λ k y there. among (suc k) y there) in
        λ i. h i ∷ t i

    pub sources_told : (places : List ℕ) → moved_sources (looked d) is.live.0 places ≡ moved_windows places (source_windows mode p parts es (layout mode p parts es))
    unfolding source_windows
    sources_told places =
        let bodies = bodies_told in
        let segs = segments_told (filter (is_solid_at (looked d)) is.live.0) (solid_segments p parts) (solid_numbers is.live.0 is.live.1) solid_among in
        (λ i. moved_windows places (bodies i) ++ moved_windows (drop (long i) places) (segs i))
        ∙ sym (moved_append places (map (output.body_windows mode p parts es (layout mode p parts es)) (output.defined mode p parts es (layout mode p parts es))) (map (windows mode (layout mode p parts es)) (solid_segments p parts)))
      where
        long : length (defined d.numbering.now.functions) ≡ length (map (output.body_windows mode p parts es (layout mode p parts es)) (output.defined mode p parts es (layout mode p parts es)))
        long = sym (length-map (defined d.numbering.now.functions) (body_windows (looked d))) ∙ ap length bodies_told

        solid_among : (k : ℕ) (x : rules.Part) → slice_get (solid_segments p parts) k ≡ Some x → (j : ℕ) × (slice_get parts j ≡ Some x)
        solid_among k x at =
            let a = kept_among (λ part. not (is_zero p part)) (segments parts) k x at in
            kept_among (λ (part : rules.Part). part.chunk.kind == 1) parts a.0 x a.1

    -- what is written into the windows of the data is what is written into those of the definition
    pub answered : (places : List ℕ) → written_of (looked d).mode (moved_sources (looked d) is.live.0 places)
        ≡ judged_patches (moved_windows places (source_windows mode p parts es (layout mode p parts es))) (moved_windows places (held mode (source_windows mode p parts es (layout mode p parts es))))
    answered places =
        ap (λ m. written_of m (moved_sources (looked d) is.live.0 places)) is.asked ∙ ap (written_of mode) (sources_told places)
        ∙ written_judged mode places (source_windows mode p parts es (layout mode p parts es))
