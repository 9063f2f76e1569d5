-- Where the sources of an image lie, and their windows in them.
use Rattle.std.proofs.Common.{◌≡◌, ℕ, zero, suc, ◌+◌, ◌==◌, List, [], ◌∷◌, ◌++◌, length, map, filter, refl, sym, ap, ◌∙◌, subst, arith, All, Bool, true, false, not, ◌&&◌, Option, Some, None, inl, inr, ◌⊎◌, drop, IfSome, if◌then◌else◌, length-take, length-drop}
use Rattle.std.specs.List.{AllZip, find, filter_map, slice_get, cons_option}
use Rattle.std.proofs.lemmas.Bool.{eqb-true, eq-eqb}
use Rattle.link_program.specs.wl_base.Choice.{given}
use Rattle.std.specs.Prelude.{slice_index_or}
use Rattle.std.proofs.lemmas.List.Elements.{All-nil, All-cons, All-head, All-tail, All-append, All-map, All-filter, All-weaker}
use Rattle.link_program.specs.wl_base.declared.span.FileSpan.{FileSpan}
use Rattle.link_program.specs.made_symbols.declared.mode.Mode.{Mode}
use Rattle.link_program.specs.made_symbols.declared.mode.Mode.TheVariants.{Plain, Shared}
use Rattle.link_program.specs.reloc_apply.declared.window.Window.{Window}
use Rattle.link_program.specs.reloc_apply.declared.window.Form.{Form}
use Rattle.link_program.specs.reloc_apply.declared.window.Form.TheVariants.{Unsigned5, Signed5, Word4}
use Rattle.link_program.specs.reloc_apply.declared.window.Patch.{Patch}
use Rattle.link_program.specs.reloc_apply.Windows.{patch_of}
use Rattle.link_program.specs.reloc_apply.Apart.{AreApart, size_of}
use Rattle.link_program.specs.image_emit.declared.tree.Source.{Source}
use Rattle.link_program.specs.image_emit.declared.tree.Source.TheVariants.{File, Own}
use Rattle.link_program.specs.image_emit.declared.tree.PlacedSource.{PlacedSource}
use Rattle.link_program.specs.image_emit.Bytes.{tree_of, source_bytes, block_of, Block}
use Rattle.link_program.specs.image_emit.Measures.{LieIn, Lies}
use Rattle.link_program.specs.image_emit.Pieces.{sources}
use Rattle.link_program.specs.name_rules.Entries.{InputSymbol}
use Rattle.link_program.specs.link_rules.Program.{Program, Part, Named, a_symbol, a_type}
use Rattle.link_program.specs.link_rules.Keys.{FunctionKey, outside, linker_function, stub, own, functions, function_imports_of, stub_names, made_function_key, own_function_key, is_function_at}
use Rattle.link_program.specs.link_rules.Marks.{refs_of}
use Rattle.link_program.specs.link_rules.Values.{Layout, windows, named_window, is_zero, segments, solid_segments}
use Rattle.link_program.specs.link_rules.Output.{layout, image, source_windows, held_as, held, body_of, body_windows, windows_in, part_at, source_of, defined, placed_source, is_import}
use Rattle.link_program.specs.Stand.{PartsStand, PartStands, SourceLies, NamedStand, named_place, named_size}
use Rattle.link_program.specs.Live.{AreLive}
use Rattle.link_output.specs.Written.{StandInSources}

-- ---- lists

every : {X : Type 0} (P : X → Type 0) → ((x : X) → P x) → (xs : List X) → All P xs
every P all xs = λ k d below. all (slice_index_or xs k d)

abbrev head_of : {A : Type 0} → List (Option A) → Option A
head_of [] = None
head_of (x ∷ xs) = x

abbrev tail_of : {A : Type 0} → List (Option A) → List (Option A)
tail_of [] = []
tail_of (x ∷ xs) = xs

abbrev value_or : {A : Type 0} → A → Option A → A
value_or a None = a
value_or a (Some b) = b

got : (P : Part → Type 0) (xs : List Part) (n : ℕ) (q : Part) → slice_get xs n ≡ Some q → All P xs → P q
got P [] n q e all = absurd (none e)
  where
    Is : Option Part → Type 0
    Is None = Unit {0}
    Is (Some x) = ⊥

    none : (let o : Option Part = None in o ≡ Some q) → ⊥
    none e = subst Is e tt
got P (x ∷ xs) zero q e all = subst P (ap (value_or x) e) (All-head P x xs all)
got P (x ∷ xs) (suc n) q e all = got P xs n q e (All-tail P x xs all)

all_got : (P : Part → Type 0) (xs : List Part) (ns : List ℕ) (qs : List Part) → map (slice_get xs) ns ≡ map Some qs → All P xs → All P qs
all_got P xs [] [] e all = All-nil P
all_got P xs [] (q ∷ qs) e all = All-nil-not (ap length e)
  where
    All-nil-not : 0 ≡ suc (length (map {A = Part} {B = Option Part} Some qs)) → All P (q ∷ qs)
    All-nil-not e = absurd (omega (arith, e))
all_got P xs (n ∷ ns) [] e all = All-nil P
all_got P xs (n ∷ ns) (q ∷ qs) e all = All-cons P q qs (got P xs n q (ap head_of e) all) (all_got P xs ns qs (ap tail_of e) all)

-- what a search finds
found_by : (b : Bool) (P : Part → Type 0) (t : Part → Bool) (x : Part) (rest : Option Part) → t x ≡ b → P x
    → IfSome rest (λ y. P y × (t y ≡ true)) → IfSome (if b then Some x else rest) (λ y. P y × (t y ≡ true))
found_by true P t x rest e here after = (here, e)
found_by false P t x rest e here after = after

found : (P : Part → Type 0) (t : Part → Bool) (xs : List Part) → All P xs → IfSome (find t xs) (λ y. P y × (t y ≡ true))
found P t [] all = tt
found P t (x ∷ xs) all = found_by (t x) P t x (find t xs) refl (All-head P x xs all) (found P t xs (All-tail P x xs all))

kept_by : (b : Bool) (P : Part → Type 0) (t : Part → Bool) (x : Part) (rest : List Part) → t x ≡ b → P x
    → All (λ y. P y × (t y ≡ true)) rest → All (λ y. P y × (t y ≡ true)) (if b then x ∷ rest else rest)
kept_by true P t x rest e here after = All-cons (λ y. P y × (t y ≡ true)) x rest (here, e) after
kept_by false P t x rest e here after = after

kept : (P : Part → Type 0) (t : Part → Bool) (xs : List Part) → All P xs → All (λ y. P y × (t y ≡ true)) (filter t xs)
kept P t [] all = All-nil (λ y. P y × (t y ≡ true))
kept P t (x ∷ xs) all = kept_by (t x) P t x (filter t xs) refl (All-head P x xs all) (kept P t xs (All-tail P x xs all))

zip_maps : {X A B C : Type 0} (R : A → B → Type 0) (g : X → A) (h : C → B) (k : X → C) (xs : List X) → All (λ x. R (g x) (h (k x))) xs → AllZip R (map g xs) (map h (map k xs))
zip_maps R g h k [] all = tt
zip_maps R g h k (x ∷ xs) all = (All-head (λ y. R (g y) (h (k y))) x xs all, zip_maps R g h k xs (All-tail (λ y. R (g y) (h (k y))) x xs all))

zip_both : {A B : Type 0} (R : A → B → Type 0) (xs : List A) (ys : List B) (us : List A) (vs : List B) → AllZip R xs ys → AllZip R us vs → AllZip R (xs ++ us) (ys ++ vs)
zip_both R [] [] us vs first second = second
zip_both R [] (y ∷ ys) us vs first second = absurd first
zip_both R (x ∷ xs) [] us vs first second = absurd first
zip_both R (x ∷ xs) (y ∷ ys) us vs first second = (first.0, zip_both R xs ys us vs first.1 second)

-- ---- windows of a part

named_apart : (mode : Mode) (l : Layout) (from end : ℕ) (ns : List Named) → NamedStand from end ns → AreApart from end (map patch_of (map (named_window mode l) ns))
named_apart mode l from end [] stand = stand
named_apart mode l from end (a_symbol ref ∷ ns) stand = (stand.0, named_apart mode l (named_place (a_symbol ref) + named_size (a_symbol ref)) end ns stand.1)
named_apart mode l from end (a_type w ∷ ns) stand = (stand.0, named_apart mode l (named_place (a_type w) + named_size (a_type w)) end ns stand.1)

part_length : (files : List (List ℕ)) (s : FileSpan) → SourceLies files s → length (source_bytes files (File s)) ≡ s.span.len
part_length files s lies = omega (arith, lies, length-take s.span.len (drop s.span.start (slice_index_or files s.file [])), length-drop s.span.start (slice_index_or files s.file []))

abbrev InSource : List (List ℕ) → List Window → Source → Type 0
InSource files ws s = AreApart 0 (length (source_bytes files s)) (map patch_of ws)

none_in : (files : List (List ℕ)) (s : Source) → InSource files [] s
none_in files s = omega (arith)

-- the windows of a part of an object, or of a segment
part_in : (mode : Mode) (p : Program) (l : Layout) (part : Part) → PartStands p part → ((part.chunk.input ≡ 0) × (part.chunk.kind ≡ 0) → ⊥) → InSource p.files (windows mode l part) (File part.source)
unfolding windows
part_in mode p l part stands other = by stands.windows
  where
    by : ((part.chunk.input ≡ 0) × (part.chunk.kind ≡ 0)) ⊎ NamedStand 0 part.source.span.len part.named → InSource p.files (map (named_window mode l) part.named) (File part.source)
    by (inl made) = absurd (other made)
    by (inr stand) = subst (λ n. AreApart 0 n (map patch_of (map (named_window mode l) part.named))) (sym (part_length p.files part.source stands.source)) (named_apart mode l 0 part.source.span.len part.named stand)

-- ---- functions

abbrev Owned : FunctionKey → Type 0
Owned (outside k) = Unit {0}
Owned (linker_function k) = Unit {0}
Owned (stub name) = Unit {0}
Owned (own input index) = input ≡ 0 → ⊥

module _ (mode : Mode) (p : Program) (parts : List Part) (es : List InputSymbol) (l : Layout) (all : All (PartStands p) parts) where
  source_lies : (o : Option Part) → IfSome o (λ part. PartStands p part × Unit {0}) → Lies p.files (source_of mode p parts es l o)
  source_lies None stands = tt
  source_lies (Some part) stands = stands.0.source

  weaker : (t : Part → Bool) (o : Option Part) → IfSome o (λ part. PartStands p part × (t part ≡ true)) → IfSome o (λ part. PartStands p part × Unit {0})
  weaker t None some = tt
  weaker t (Some part) some = (some.0, tt)

  body_lies : (f : FunctionKey) → Lies p.files (body_of mode p parts es l f)
  body_lies (outside k) = tt
  body_lies (linker_function k) = tt
  body_lies (stub name) = tt
  body_lies (own input index) =
      source_lies (part_at mode p parts es l input index) (weaker (is_function_at input index) (part_at mode p parts es l input index) (found (PartStands p) (is_function_at input index) parts all))

  solid_stand : All (PartStands p) (solid_segments p parts)
  solid_stand = All-filter (λ part. not (is_zero p part)) (PartStands p) (segments parts) (All-filter (λ part. part.chunk.kind == 1) (PartStands p) parts all)

  pub lies : LieIn p.files (image mode p parts es l)
  unfolding image
  lies = record {
    of_bodies = All-map (Lies p.files) (body_of mode p parts es l) (defined mode p parts es l) (every (λ f. Lies p.files (body_of mode p parts es l f)) body_lies (defined mode p parts es l));
    of_blocks = All-map (λ (x : PlacedSource). Lies p.files x.source) (placed_source mode p parts es l) (solid_segments p parts) (All-weaker (PartStands p) (λ part. SourceLies p.files part.source) (λ part stands. stands.source) (solid_segments p parts) solid_stand);
  }

  -- ---- windows

  first_true : (a b : Bool) → (a && b) ≡ true → a ≡ true
  first_true true b e = refl
  first_true false b e = e

  second_true : (a b : Bool) → (a && b) ≡ true → b ≡ true
  second_true true b e = e
  second_true false b e = absurd (no e)
    where
      Is : Bool → Type 0
      Is true = ⊥
      Is false = Unit {0}

      no : (let t : Bool = false in t ≡ true) → ⊥
      no e = subst Is e tt

  at_input : (input index : ℕ) (part : Part) → is_function_at input index part ≡ true → part.chunk.input ≡ input
  at_input input index part e =
      eqb-true part.chunk.input input
      (second_true (part.chunk.kind == 0) (part.chunk.input == input)
      (first_true ((part.chunk.kind == 0) && (part.chunk.input == input)) (part.chunk.index == index) e))

  found_in : (input index : ℕ) (o : Option Part) → (input ≡ 0 → ⊥) → IfSome o (λ part. PartStands p part × (is_function_at input index part ≡ true))
      → InSource p.files (windows_in mode p parts es l o) (source_of mode p parts es l o)
  found_in input index None owned some = none_in p.files (Own [])
  found_in input index (Some part) owned some = part_in mode p l part some.0 (λ made. owned (sym (at_input input index part some.1) ∙ made.0))

  body_in : (f : FunctionKey) → Owned f → InSource p.files (body_windows mode p parts es l f) (body_of mode p parts es l f)
  body_in (outside k) owned = none_in p.files (Own [])
  body_in (linker_function k) owned = none_in p.files (body_of mode p parts es l (linker_function k))
  body_in (stub name) owned = none_in p.files (body_of mode p parts es l (stub name))
  body_in (own input index) owned =
      found_in input index (part_at mode p parts es l input index) owned (found (PartStands p) (is_function_at input index) parts all)

  segment_in : All (λ part. InSource p.files (windows mode l part) (File part.source)) (solid_segments p parts)
  segment_in = All-filter (λ part. not (is_zero p part)) (λ part. InSource p.files (windows mode l part) (File part.source)) (segments parts)
      (All-weaker (λ part. PartStands p part × ((part.chunk.kind == 1) ≡ true)) (λ part. InSource p.files (windows mode l part) (File part.source))
      (λ part stands. part_in mode p l part stands.0 (λ made. no_segment part made.1 stands.1)) (segments parts)
      (kept (PartStands p) (λ part. part.chunk.kind == 1) parts all))
    where
      no_segment : (part : Part) → part.chunk.kind ≡ 0 → (part.chunk.kind == 1) ≡ true → ⊥
      no_segment part e one = omega (arith, e, eqb-true part.chunk.kind 1 one)

-- the functions of the output that objects define are of no input 0
module _ (mode : Mode) (p : Program) (parts : List Part) (es : List InputSymbol) where
  made_by : (part : Part) (b : Bool) → IfSome (given b (linker_function part.chunk.index)) Owned
  made_by part true = tt
  made_by part false = tt

  own_by : (part : Part) (b c : Bool) → (part.chunk.input == 0) ≡ b → IfSome (given (not b && c) (own part.chunk.input part.chunk.index)) Owned
  own_by part true c e = tt
  own_by part false true e = λ z. differ (sym e ∙ eq-eqb part.chunk.input 0 z)
    where
      Is : Bool → Type 0
      Is true = ⊥
      Is false = Unit {0}

      differ : (let f : Bool = false in f ≡ true) → ⊥
      differ e = subst Is e tt
  own_by part false false e = tt

  option_onto_list : (o : Option FunctionKey) (fs : List FunctionKey) → IfSome o Owned → All Owned fs → All Owned (cons_option o fs)
  option_onto_list None fs one rest = rest
  option_onto_list (Some f) fs one rest = All-cons Owned f fs one rest

  made_owned : (ps : List Part) → All Owned (filter_map made_function_key ps)
  made_owned [] = All-nil Owned
  made_owned (x ∷ xs) = option_onto_list (made_function_key x) (filter_map made_function_key xs) (made_by x ((x.chunk.input == 0) && (x.chunk.kind == 0))) (made_owned xs)

  own_owned : (ps : List Part) → All Owned (filter_map own_function_key ps)
  own_owned [] = All-nil Owned
  own_owned (x ∷ xs) = option_onto_list (own_function_key x) (filter_map own_function_key xs) (own_by x (x.chunk.input == 0) (x.chunk.kind == 0) refl) (own_owned xs)

  pub all_owned : All Owned (functions mode p parts)
  unfolding functions
  all_owned =
      All-append Owned (map outside (function_imports_of mode p (refs_of parts))) (filter_map made_function_key parts ++ map stub (stub_names p (refs_of parts)) ++ filter_map own_function_key parts)
      (All-map Owned outside (function_imports_of mode p (refs_of parts)) (every (λ k. Unit {0}) (λ k. tt) (function_imports_of mode p (refs_of parts))))
      (All-append Owned (filter_map made_function_key parts ++ map stub (stub_names p (refs_of parts))) (filter_map own_function_key parts)
      (All-append Owned (filter_map made_function_key parts) (map stub (stub_names p (refs_of parts))) (made_owned parts)
      (All-map Owned stub (stub_names p (refs_of parts)) (every (λ name. Unit {0}) (λ name. tt) (stub_names p (refs_of parts)))))
      (own_owned parts))

-- ---- the laws

live_stand : (p : Program) (live : List ℕ) (parts : List Part) → PartsStand p → AreLive p live parts → All (PartStands p) parts
live_stand p live parts stand are = all_got (PartStands p) p.parts live parts are.are stand

pub image_lies : (mode : Mode) (p : Program) (live : List ℕ) (parts : List Part) (es : List InputSymbol) → PartsStand p → AreLive p live parts
    → LieIn p.files (image mode p parts es (layout mode p parts es))
image_lies mode p live parts es stand are = lies mode p parts es (layout mode p parts es) (live_stand p live parts stand are)

pub windows_stand : (mode : Mode) (p : Program) (live : List ℕ) (parts : List Part) (es : List InputSymbol) → PartsStand p → AreLive p live parts
    → StandInSources (source_windows mode p parts es (layout mode p parts es)) (sources (tree_of p.files (image mode p parts es (layout mode p parts es))))
unfolding source_windows image layout
windows_stand mode p live parts es stand are =
    let l : Layout = layout mode p parts es in
    let all : All (PartStands p) parts = live_stand p live parts stand are in
    let fs : List FunctionKey = defined mode p parts es l in
    let segs : List Part = solid_segments p parts in
    let owned : All Owned fs = All-filter (λ f. not (is_import mode p parts es l f)) Owned (functions mode p parts) (all_owned mode p parts es) in
    zip_both Apart (map (body_windows mode p parts es l) fs) (map (source_bytes p.files) (map (body_of mode p parts es l) fs))
    (map (windows mode l) segs) (map bytes_in_block (map (block_of p.files) (map (placed_source mode p parts es l) segs)))
    (zip_maps Apart (body_windows mode p parts es l) (source_bytes p.files) (body_of mode p parts es l) fs
    (All-weaker Owned (λ f. InSource p.files (body_windows mode p parts es l f) (body_of mode p parts es l f)) (λ f own. body_in mode p parts es l all f own) fs owned))
    (segments_in p parts es l segs (segment_in mode p parts es l all))
  where
    bytes_in_block : Block → List ℕ
    bytes_in_block b = b.bytes

    Apart : List Window → List ℕ → Type 0
    Apart ws bytes = AreApart 0 (length bytes) (map patch_of ws)

    segments_in : (p : Program) (parts : List Part) (es : List InputSymbol) (l : Layout) (segs : List Part) → All (λ part. InSource p.files (windows mode l part) (File part.source)) segs
        → AllZip Apart (map (windows mode l) segs) (map bytes_in_block (map (block_of p.files) (map (placed_source mode p parts es l) segs)))
    segments_in p parts es l [] all = tt
    segments_in p parts es l (x ∷ xs) all = (All-head (λ part. InSource p.files (windows mode l part) (File part.source)) x xs all, segments_in p parts es l xs (All-tail (λ part. InSource p.files (windows mode l part) (File part.source)) x xs all))

-- ---- windows that hold 0 until the output is loaded stand where they stood

one_held : (form : Form) (w : Window) (at end : ℕ) (ps : List Patch) → AreApart at end (patch_of w ∷ ps) → AreApart at end (patch_of (held_as form w) ∷ ps)
one_held Unsigned5 w at end ps apart = apart
one_held Signed5 w at end ps apart = apart
one_held Word4 w at end ps apart = apart

apart_held : (ws : List Window) (at end : ℕ) → AreApart at end (map patch_of ws) → AreApart at end (map patch_of (map (λ (w : Window). held_as w.form w) ws))
apart_held [] at end apart = apart
apart_held (w ∷ ws) at end apart =
    one_held w.form w at end (map patch_of (map (λ (w : Window). held_as w.form w) ws)) (apart.0, apart_held ws (w.place + size_of w.form) end apart.1)

held_stand : (mode : Mode) (wss : List (List Window)) (bss : List (List ℕ)) → StandInSources wss bss → StandInSources (held mode wss) bss
held_stand Plain wss bss stand = stand
held_stand Shared [] [] stand = tt
held_stand Shared [] (b ∷ bss) stand = absurd stand
held_stand Shared (ws ∷ wss) [] stand = absurd stand
held_stand Shared (ws ∷ wss) (b ∷ bss) stand = (apart_held ws 0 (length b) stand.0, held_stand Shared wss bss stand.1)

pub held_windows_stand : (mode : Mode) (p : Program) (live : List ℕ) (parts : List Part) (es : List InputSymbol) → PartsStand p → AreLive p live parts
    → StandInSources (held mode (source_windows mode p parts es (layout mode p parts es))) (sources (tree_of p.files (image mode p parts es (layout mode p parts es))))
held_windows_stand mode p live parts es stand are =
    held_stand mode (source_windows mode p parts es (layout mode p parts es)) (sources (tree_of p.files (image mode p parts es (layout mode p parts es)))) (windows_stand mode p live parts es stand are)
