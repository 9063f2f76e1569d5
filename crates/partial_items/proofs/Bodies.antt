-- The bodies and data segments that are made of kept parts are those of the definition, and the windows of their relocations lie in them.
use Rattle.std.proofs.Common.{◌≡◌, ℕ, zero, suc, ◌+◌, ◌-◌, ◌<◌, ◌≤◌, ◌==◌, true, false, List, [], ◌∷◌, ◌++◌, map, take, drop, length, get_or, slice_get, Option, Some, None, option_map, refl, sym, ap, subst, ◌∙◌, arith, inl, inr, All, eq-eqb}
use Rattle.std.specs.Prelude.{◌⊎◌}
use Rattle.std.specs.List.{AllByRecursion}
use Rattle.std.proofs.lemmas.List.{length-drop, length-take-le}
use Rattle.std.proofs.lemmas.List.Elements.{All-cons, All-nil, All-head, All-tail}
use Rattle.std.proofs.lemmas.Option.{slice_get-map, get_or_from_slice_get}
use Rattle.partial_tree.specs.link_program.wl_base.declared.span.FileSpan.{FileSpan}
use Rattle.partial_tree.specs.link_program.reloc_section.declared.entry.Reloc.{Reloc}
use Rattle.partial_tree.specs.link_program.image_emit.Bytes.{file_part}
use Rattle.partial_tree.specs.link_program.made_symbols.declared.mode.Mode.TheVariants.{Plain}
use Rattle.partial_tree.specs.link_program.reloc_apply.Apart.{LiesIn}
use Rattle.partial_tree.specs.link_program.link_rules.Program.{Program, Part, Named as Window, a_symbol, a_type}
use Rattle.partial_tree.specs.link_program.link_rules.Values.{part_bytes}
use Rattle.partial_tree.specs.link_program.declared.program.Program.{Program as Data}
use Rattle.partial_tree.specs.link_program.declared.program.Tables.{Tables}
use Rattle.partial_tree.specs.link_program.Look.{part_at, row_at}
use Rattle.partial_tree.specs.link_program.Program.{IsProgramOf}
use Rattle.partial_tree.specs.link_program.declared.symbol.Symbol.{Symbol}
use Rattle.partial_tree.specs.link_program.declared.named.Named.{Named}
use Rattle.partial_tree.specs.link_program.declared.named.Named.TheVariants as names
use Rattle.partial_tree.specs.link_program.Seen.{SeenPart, NamesOne}
use Rattle.partial_tree.specs.link_program.Stand.{named_place, named_size, NamedStand, SourceLies, PartStands, PartsStand}
use Rattle.partial_tree.specs.partial_rules.Partial as partial
use Rattle.partial_tree.specs.partial_rules.Partial.{empty_window}
use Rattle.partial_tree.specs.partial_symbols.Standing.{Stood}
use Rattle.partial_tree.specs.partial_symbols.Known.{AreStanding}
use Rattle.partial_tree.specs.partial_symbols.Referring.{number_for}
use Rattle.partial_tree.specs.Relocs.{reloc_told, RelocsAre}
use Rattle.partial_bytes.specs.declared.tree.Part.{Part as Lent}
use Rattle.partial_bytes.specs.declared.tree.Numbers.{Numbers}
use Rattle.partial_bytes.specs.Relocs.{reloc_by, relocs_by, relocs_of}
use Rattle.partial_bytes.specs.Told.{part_told, PartFits, AreRows, RowsAreWindowed, WindowsLie, RowsFit}
use Rattle.partial_items.specs.Items.{Given, given, part_given}
use Rattle.partial_items.specs.Numbered.{values_from, all_numbers}
use Rattle.partial_items.proofs.Listed.{IsKept, all_kept, of_object, at_number, maps_agree, part_seen}

-- ---- numbers

number_there : (f : ℕ → ℕ) (at n k : ℕ) → k < n → get_or (values_from f at n) k 0 ≡ f (at + k)
number_there f at zero k lt = absurd (omega (arith, lt))
number_there f at (suc n) zero lt = let e : at ≡ at + 0 = omega arith in ap f e
number_there f at (suc n) (suc k) lt = let e : at + 1 + k ≡ at + suc k = omega arith in number_there f (at + 1) n k (omega (arith, lt)) ∙ ap f e

number_more : (f : ℕ → ℕ) (at n : ℕ) → values_from f at (n + 1) ≡ values_from f at n ++ f (at + n) ∷ []
number_more f at zero =
    let one : 0 + 1 ≡ suc zero = omega arith in
    let e : at ≡ at + 0 = omega arith in
    ap (λ (k : ℕ). values_from f at k) one ∙ ap (λ (k : ℕ). let xs : List ℕ = f k ∷ [] in xs) e
number_more f at (suc n) =
    let more : suc n + 1 ≡ suc (n + 1) = omega arith in
    let e : at + 1 + n ≡ at + suc n = omega arith in
    ap (λ (k : ℕ). values_from f at k) more
    ∙ ap (λ (ns : List ℕ). let xs : List ℕ = f at ∷ ns in xs) (number_more f (at + 1) n ∙ ap (λ (k : ℕ). values_from f (at + 1) n ++ f k ∷ []) e)

pub numbers_more : (s : Stood) (xs ys : List Symbol) (k : ℕ) (old new : List ℕ) (n : ℕ) → xs ≡ ys → new ≡ old ++ n ∷ [] → n ≡ number_for s xs k
    → old ≡ values_from (number_for s ys) 0 k → new ≡ values_from (number_for s ys) 0 (k + 1)
numbers_more s xs ys k old new n same put is so_far =
    let plain : k ≡ 0 + k = omega arith in
    let value : n ≡ number_for s ys (0 + k) = is ∙ (λ j. number_for s (same j) (plain j)) in
    put ∙ ((λ j. so_far j ++ value j ∷ []) ∙ sym (number_more (number_for s ys) 0 k))

pub numbers_end : (s : Stood) (xs ys : List Symbol) (k : ℕ) (numbers : List ℕ) → xs ≡ ys → k ≡ length xs → numbers ≡ values_from (number_for s ys) 0 k → numbers ≡ all_numbers s ys
numbers_end s xs ys k numbers same is so_far = so_far ∙ ap (values_from (number_for s ys) 0) (is ∙ ap (λ (zs : List Symbol). length zs) same)

module _ (s : Stood) (t : Tables) (numbers : Numbers) (column : numbers.symbols.now ≡ all_numbers s t.symbols) where
  one_made : (m : Named) → NamesOne t.symbols t.types m → reloc_by numbers m ≡ reloc_told s t.symbols numbers.types.now m
  one_made (names.Symbol kind place addend symbol) there =
      let plain : 0 + symbol ≡ symbol = omega arith in
      let index : get_or numbers.symbols.now symbol 0 ≡ number_for s t.symbols symbol =
      ap (λ ns. get_or ns symbol 0) column ∙ (number_there (number_for s t.symbols) 0 (length t.symbols) symbol there ∙ ap (number_for s t.symbols) plain) in
      λ i. record { kind = kind; offset = place; index = index i; addend = addend }
  one_made (names.Type place number) there = refl

  row_made : (ms : List Named) → All (NamesOne t.symbols t.types) ms → relocs_by numbers ms ≡ map (reloc_told s t.symbols numbers.types.now) ms
  row_made [] there = refl
  row_made (m ∷ ms) there =
      let h = one_made m (All-head (NamesOne t.symbols t.types) m ms there) in
      let r = row_made ms (All-tail (NamesOne t.symbols t.types) m ms there) in
      λ i. h i ∷ r i

  row_there : (rows : List (List Named)) (n : ℕ) → All (λ row. All (NamesOne t.symbols t.types) row) rows → All (NamesOne t.symbols t.types) (get_or rows n [])
  row_there [] n there = All-nil (NamesOne t.symbols t.types)
  row_there (row ∷ rows) zero there = All-head (λ row. All (NamesOne t.symbols t.types) row) row rows there
  row_there (row ∷ rows) (suc n) there = row_there rows n (All-tail (λ row. All (NamesOne t.symbols t.types) row) row rows there)

-- ---- by number

map_twice : {A B C : Type 0} (g : B → C) (f : A → B) (xs : List A) → map g (map f xs) ≡ map (λ x. g (f x)) xs
map_twice g f [] = refl
map_twice g f (x ∷ xs) = ap (λ ys. g (f x) ∷ ys) (map_twice g f xs)

all_of : (xs : List Part) (P Q : Part → Type 0) → ((n : ℕ) (part : Part) → slice_get xs n ≡ Some part → P part → Q part)
    → (ns : List ℕ) (parts : List Part) → map (slice_get xs) ns ≡ map Some parts → AllByRecursion P parts → All Q parts
all_of xs P Q each ns [] same all = All-nil Q
all_of xs P Q each [] (part ∷ parts) same all = absurd cc
all_of xs P Q each (n ∷ ns) (part ∷ parts) same all =
    let at : slice_get xs n ≡ Some part = cc in
    let others : map (slice_get xs) ns ≡ map Some parts = cc in
    All-cons Q part parts (each n part at all.0) (all_of xs P Q each ns parts others all.1)

all_relocs : (ps : List Lent) → map (λ (row : Lent). relocs_of row) ps ≡ map (λ (g : Given). g.relocs) (map given ps)
all_relocs [] = refl
all_relocs (p ∷ ps) = ap (λ rs. relocs_of p ∷ rs) (all_relocs ps)

all_bytes : (ps : List Lent) → map (λ (row : Lent). row.bytes.now) ps ≡ map (λ (g : Given). g.bytes) (map given ps)
all_bytes [] = refl
all_bytes (p ∷ ps) = ap (λ bs. p.bytes.now ∷ bs) (all_bytes ps)

-- ---- windows lie in their part

stand_le : (from end : ℕ) (ns : List Window) → NamedStand from end ns → from ≤ end
stand_le from end [] s = s
stand_le from end (n ∷ ns) s = let b = stand_le (named_place n + named_size n) end ns s.1 in omega (arith, s.0, b)

module _ (p : Program) where
  one_lies : (end : ℕ) (n : Window) → named_place n + named_size n ≤ end → LiesIn end (empty_window n)
  one_lies end (a_symbol ref) le = le
  one_lies end (a_type w) le = le

  all_lie : (from end : ℕ) (ns : List Window) → NamedStand from end ns → All (LiesIn end) (map empty_window ns)
  all_lie from end [] s = All-nil (LiesIn end)
  all_lie from end (n ∷ ns) s =
      All-cons (LiesIn end) (empty_window n) (map empty_window ns)
      (one_lies end n (stand_le (named_place n + named_size n) end ns s.1)) (all_lie (named_place n + named_size n) end ns s.1)

  as_long : (s : FileSpan) → SourceLies p.files s → length (file_part p.files s) ≡ s.span.len
  as_long s lies =
      let file = get_or p.files s.file [] in
      let left = length-drop s.span.start file in
      length-take-le s.span.len (drop s.span.start file) (omega (arith, lies, left))

  part_lies : (part : Part) → PartStands p part → (part.chunk.input == 0) ≡ false → WindowsLie p part
  part_lies part stands object = by stands.windows
    where
      long : length (part_bytes p part) ≡ part.source.span.len
      long = as_long part.source stands.source

      by : ((part.chunk.input ≡ 0) × (part.chunk.kind ≡ 0)) ⊎ NamedStand 0 part.source.span.len part.named → All (LiesIn (length (part_bytes p part))) (map empty_window part.named)
      by (inl linkers) = absurd (let e : true ≡ false = sym (eq-eqb part.chunk.input 0 linkers.0) ∙ object in cc)
      by (inr stand) = subst (λ n. All (LiesIn n) (map empty_window part.named)) (sym long) (all_lie 0 part.source.span.len part.named stand)

-- ---- all parts

module _ (law : RelocsAre) (emptied : RowsAreWindowed) (fitting : RowsFit) (d : Data) (p : Program) (is : IsProgramOf Plain d p) (stand : PartsStand p) (strict : p.plan.loose_calls ≡ false) (s : Stood)
    (are : AreStanding p d.names.now.names s) (numbers : Numbers) (numbered : numbers.types.now ≡ map (partial.type_number p) d.tables.now.types)
    (column : numbers.symbols.now ≡ all_numbers s d.tables.now.symbols) where
  abbrev t : Tables
  t = d.tables.now

  abbrev relocs : ℕ → List Reloc
  relocs n = relocs_by numbers (row_at t n)

  module _ (files : List (List ℕ)) (same_files : files ≡ p.files) (kind : ℕ) (ns : List ℕ) (same : map (slice_get p.parts) ns ≡ map Some (partial.kept p kind)) (ps : List Lent)
      (made : map given ps ≡ map (part_given files t numbers) ns) where
    as_given : map given ps ≡ map (part_given p.files t numbers) ns
    as_given = made ∙ ap (λ fs. map (part_given fs t numbers) ns) same_files

    by_law : (n : ℕ) (part : Part) → slice_get p.parts n ≡ Some part → relocs n ≡ map (partial.named_reloc p) part.named
    by_law n part at =
        row_made s t numbers column (row_at t n) (row_there s t numbers column t.named n is.tables.named_there)
        ∙ law d p is stand strict s are numbers.types.now numbered n part at

    are_rows : AreRows p (partial.kept p kind) ps
    are_rows = record {
      relocs =
          all_relocs ps
          ∙ (ap (map (λ (g : Given). g.relocs)) as_given
          ∙ (map_twice (λ (g : Given). g.relocs) (part_given p.files t numbers) ns
          ∙ maps_agree p.parts (IsKept kind) relocs (λ (part : Part). map (partial.named_reloc p) part.named) (λ n part at kept. by_law n part at) ns (partial.kept p kind) same (all_kept p kind)));
      bytes =
          all_bytes ps
          ∙ (ap (map (λ (g : Given). g.bytes)) as_given
          ∙ (map_twice (λ (g : Given). g.bytes) (part_given p.files t numbers) ns
          ∙ maps_agree p.parts (IsKept kind) (λ n. file_part p.files (part_at t n).source) (part_bytes p) (λ n part at kept. ap (λ (x : SeenPart). file_part p.files x.source) (part_seen d p is n part at)) ns (partial.kept p kind) same (all_kept p kind)));
    }

    pub parts_are : map part_told ps ≡ map (partial.windowed p) (partial.kept p kind)
    parts_are = emptied p (partial.kept p kind) ps are_rows

    pub parts_fit : All PartFits ps
    parts_fit =
        fitting p (partial.kept p kind) ps are_rows
        (all_of p.parts (IsKept kind) (WindowsLie p) (λ n part at kept. part_lies p part (at_number (PartStands p) p.parts n part stand at) (of_object kind part kept)) ns (partial.kept p kind) same (all_kept p kind))
