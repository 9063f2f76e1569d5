-- Windows of segments that stand one behind another rise, lie apart, and end within so many bytes.
use Rattle.std.proofs.Common.{ℕ, ◌+◌, ◌≤◌, ◌<◌, List, [], ◌∷◌, ◌++◌, map, refl, sym, subst, inl, inr, arith, append_assoc}
use Rattle.std.specs.Prelude.{◌^◌, filter_map, flat_map}
use Rattle.std.specs.List.{AllByRecursion}
use Rattle.list_places.specs.Has.{Has}
use Rattle.reloc_apply.specs.declared.window.Form.{Form}
use Rattle.reloc_apply.specs.declared.window.Form.TheVariants.{Unsigned5, Signed5, Word4}
use Rattle.reloc_apply.specs.Apart.{size_of}
use Rattle.dylink_out.specs.declared.word.WordReloc.{WordReloc}
use Rattle.dylink_out.specs.declared.word.WordPlace.{WordPlace}
use Rattle.dylink_out.specs.declared.word.WordPlace.TheVariants.{Window, Got}
use Rattle.dylink_out.specs.declared.word.WordValue.{WordValue}
use Rattle.dylink_out.specs.Loading.{LieFrom, LiesBy, RiseFrom, PlaceFits}
use Rattle.link_rules.specs.Program.{Part, Ref, Named, a_symbol, a_type, named_ref, refs}
use Rattle.link_rules.specs.Values.{form_of}
use Rattle.program_build.specs.link_program.Stand.{NamedStand}

-- ---- from lower places on, and up to the end

pub lie_lower : (size low at : ℕ) (ws : List WordReloc) → low ≤ at → LieFrom size at ws → LieFrom size low ws
lie_lower size low at [] le h = omega (arith, le, h)
lie_lower size low at (w ∷ ws) le h = by w.to h (lie_lower size low at ws le)
  where
    by : (to : WordPlace) → LiesBy to at (λ next. LieFrom size next ws) → (LieFrom size at ws → LieFrom size low ws) → LiesBy to low (λ next. LieFrom size next ws)
    by (Window p) l others = (omega (arith, le, l.0), l.1)
    by (Got g) l others = others l

pub lie_within : (size at : ℕ) (ws : List WordReloc) → LieFrom size at ws → at ≤ size
lie_within size at [] h = h
lie_within size at (w ∷ ws) h = by w.to h (λ n. lie_within size n ws)
  where
    by : (to : WordPlace) → LiesBy to at (λ next. LieFrom size next ws) → ((n : ℕ) → LieFrom size n ws → n ≤ size) → at ≤ size
    by (Window p) l others = let e : p + 4 ≤ size = others (p + 4) l.1 in omega (arith, e, l.0)
    by (Got g) l others = others at l

-- a cell among so many
abbrev pub CellFits : ℕ → WordPlace → Type 0
CellFits cells (Window p) = Unit {0}
CellFits cells (Got g) = g < cells

pub places_fit : (size cells at : ℕ) (ws : List WordReloc) → size ≤ 2 ^ 32 → LieFrom size at ws → ((w : WordReloc) → Has ws w → CellFits cells w.to) → AllByRecursion (λ (w : WordReloc). PlaceFits cells w.to) ws
places_fit size cells at [] small h fits = tt
places_fit size cells at (w ∷ ws) small h fits = by w.to h (fits w (inl refl)) (λ n l. places_fit size cells n ws small l (λ v k. fits v (inr k)))
  where
    by : (to : WordPlace) → LiesBy to at (λ next. LieFrom size next ws) → CellFits cells to → ((n : ℕ) → LieFrom size n ws → AllByRecursion (λ (w : WordReloc). PlaceFits cells w.to) ws)
        → PlaceFits cells to × AllByRecursion (λ (w : WordReloc). PlaceFits cells w.to) ws
    by (Window p) l f others = let e : p + 4 ≤ size = lie_within size (p + 4) ws l.1 in (omega (arith, e, small), others (p + 4) l.1)
    by (Got g) l f others = (f, others at l)

-- ---- the rows of a segment

four_bytes : (form : Form) → 4 ≤ size_of form
four_bytes Unsigned5 = omega arith
four_bytes Signed5 = omega arith
four_bytes Word4 = omega arith

abbrev pub row_word : (Ref → WordValue) → ℕ → Ref → WordReloc
row_word value address ref = record { to = Window (address + ref.place); value = value ref }

module _ (size address : ℕ) (value : Ref → WordValue) (rest : List WordReloc) where
  abbrev rows : List Named → List WordReloc
  rows named = map (row_word value address) (filter_map named_ref named)

  pub rows_lie : (from len : ℕ) (named : List Named) → NamedStand from len named → LieFrom size (address + len) rest → LieFrom size (address + from) (rows named ++ rest)
  rows_lie from len [] stand r = lie_lower size (address + from) (address + len) rest (omega (arith, stand)) r
  rows_lie from len (a_symbol ref ∷ ns) stand r =
      let long = four_bytes (form_of ref.kind) in
      let next : ℕ = ref.place + size_of (form_of ref.kind) in
      (omega (arith, stand.0), lie_lower size (address + ref.place + 4) (address + next) (rows ns ++ rest) (omega (arith, long)) (rows_lie next len ns stand.1 r))
  rows_lie from len (a_type w ∷ ns) stand r =
      lie_lower size (address + from) (address + (w.place + 5)) (rows ns ++ rest) (omega (arith, stand.0)) (rows_lie (w.place + 5) len ns stand.1 r)

-- windows change no cell
rows_rise : (address at : ℕ) (value : Ref → WordValue) (rest : List WordReloc) (rs : List Ref) → RiseFrom at rest → RiseFrom at (map (row_word value address) rs ++ rest)
rows_rise address at value rest [] h = h
rows_rise address at value rest (r ∷ rs) h = rows_rise address at value rest rs h

-- ---- the rows of all segments

-- segments stand one behind another, from a place on and within so many bytes
abbrev pub StandFrom : ℕ → (Part → ℕ) → ℕ → List Part → Type 0
StandFrom size address at [] = at ≤ size
StandFrom size address at (x ∷ xs) = (at ≤ address x) × StandFrom size address (address x + x.source.span.len) xs

abbrev pub part_words : (Part → ℕ) → (Ref → WordValue) → Part → List WordReloc
part_words address value part = map (row_word value (address part)) (refs part)

module _ (size : ℕ) (address : Part → ℕ) (value : Ref → WordValue) (rest : List WordReloc) where
  abbrev words_of : Part → List WordReloc
  words_of = part_words address value

  pub segments_lie : (at : ℕ) (parts : List Part) → StandFrom size address at parts → ((x : Part) → Has parts x → NamedStand 0 x.source.span.len x.named) → LieFrom size size rest
      → LieFrom size at (flat_map (part_words address value) parts ++ rest)
  segments_lie at [] stand named r = lie_lower size at size rest stand r
  segments_lie at (x ∷ xs) stand named r =
      let others = segments_lie (address x + x.source.span.len) xs stand.1 (λ y h. named y (inr h)) r in
      let all = rows_lie size (address x) value (flat_map words_of xs ++ rest) 0 x.source.span.len x.named (named x (inl refl)) others in
      subst (λ (ws : List WordReloc). LieFrom size at ws) (sym (append_assoc (words_of x) (flat_map words_of xs) rest))
      (lie_lower size at (address x + 0) (words_of x ++ (flat_map words_of xs ++ rest)) (omega (arith, stand.0)) all)

  pub segments_rise : (at : ℕ) (parts : List Part) → RiseFrom at rest → RiseFrom at (flat_map (part_words address value) parts ++ rest)
  segments_rise at [] h = h
  segments_rise at (x ∷ xs) h =
      subst (λ (ws : List WordReloc). RiseFrom at ws) (sym (append_assoc (words_of x) (flat_map words_of xs) rest))
      (rows_rise (address x) at value (flat_map words_of xs ++ rest) (refs x) (segments_rise at xs h))
