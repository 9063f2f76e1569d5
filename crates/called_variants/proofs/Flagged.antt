-- What is marked is what calls name.
use Rattle.std.proofs.Common.{◌≡◌, ℕ, ◌==◌, Bool, true, false, ◌&&◌, ◌||◌, List, [], ◌∷◌, ◌++◌, map, flat_map, filter_map, fold, length, replicate, slice_get, Option, Some, None, refl, sym, ap, subst, ◌∙◌, arith}
use Rattle.std.specs.Prelude.{bytes_eq, slice_index_or, if◌then◌else◌}
use Rattle.std.specs.List.{list_any}
use Rattle.std.proofs.lemmas.Bool.Decides.{nat_tests}
use Rattle.std.proofs.lemmas.List.Folds.{list_any-append}
use Rattle.std.proofs.lemmas.List.Sums.{fold-append}
use Rattle.std.proofs.lemmas.Option.{slice_get_within, same_Some}
use Rattle.link_keys.specs.link_program.wl_base.Names.{number_of}
use Rattle.link_keys.specs.link_program.wasm_types.declared.function.FuncType.{FuncType}
use Rattle.link_keys.specs.link_program.name_rules.Entries.{InputSymbol, ImportKey, is_entry, name_of}
use Rattle.link_keys.specs.link_program.name_entries.View.{entry_number}
use Rattle.link_keys.specs.link_program.link_rules.Program as rules
use Rattle.link_keys.specs.link_program.link_rules.Program.{Program, Part, Ref, a_symbol, a_type, named_ref, refs}
use Rattle.link_keys.specs.link_program.link_rules.Marks.{refs_of}
use Rattle.link_keys.specs.link_program.declared.symbol.Symbol.{Symbol}
use Rattle.link_keys.specs.link_program.declared.named.Named.{Named}
use Rattle.link_keys.specs.link_program.declared.named.Named.TheVariants as windows
use Rattle.link_keys.specs.link_program.declared.program.Tables.{Tables}
use Rattle.link_keys.specs.link_program.Seen.{SeenNamed, seen_symbol, seen_type, seen_named, told_named}
use Rattle.link_keys.specs.Noted.{where_so, flagged, is_at}
use Rattle.link_keys.proofs.Equals.{position_held, stands}
use Rattle.link_keys.proofs.Flags.{flags_set}
use Rattle.link_keys.proofs.Imports.{name_equal, name_itself}
use Rattle.called_variants.specs.Called.{calls}
use Rattle.called_variants.specs.Marked.{name_called, number_called, marking, marked, AreMarks, NameThese}

-- ---- flags are set one after another

row_flags : (symbols : List Symbol) (flags : List Bool) (row : List Named) → fold (marking symbols) flags row ≡ fold flagged flags (map (number_called symbols) row)
row_flags symbols flags [] = refl
row_flags symbols flags (n ∷ row) = row_flags symbols (marking symbols flags n) row

all_flags : (symbols : List Symbol) (flags : List Bool) (rows : List (List Named))
    → fold (λ fs row. fold (marking symbols) fs row) flags rows ≡ fold flagged flags (flat_map (map (number_called symbols)) rows)
all_flags symbols flags [] = refl
all_flags symbols flags (row ∷ rows) =
    all_flags symbols (fold (marking symbols) flags row) rows
    ∙ ap (λ fs. fold flagged fs (flat_map (map (number_called symbols)) rows)) (row_flags symbols flags row)
    ∙ sym (fold-append flagged flags (map (number_called symbols) row) (flat_map (map (number_called symbols)) rows))

-- ---- what the data show

abbrev asks : SeenNamed → Option ℕ
asks (seen_symbol r) = name_called r.kind r.symbol
asks (seen_type place t) = None

row_shown : (symbols : List Symbol) (types : List FuncType) (row : List Named) → map (number_called symbols) row ≡ map asks (map (seen_named symbols types) row)
row_shown symbols types [] = refl
row_shown symbols types (windows.Symbol kind place addend symbol ∷ row) = ap (λ rest. number_called symbols (windows.Symbol kind place addend symbol) ∷ rest) (row_shown symbols types row)
row_shown symbols types (windows.Type place number ∷ row) = ap (λ rest. None ∷ rest) (row_shown symbols types row)

rows_shown : (symbols : List Symbol) (types : List FuncType) (rows : List (List Named))
    → flat_map (map (number_called symbols)) rows ≡ flat_map (map asks) (map (map (seen_named symbols types)) rows)
rows_shown symbols types [] = refl
rows_shown symbols types (row ∷ rows) = λ i. row_shown symbols types row i ++ rows_shown symbols types rows i

-- ---- the number of a name

place_of : (names : List (List ℕ)) (name : List ℕ) (i : ℕ) → number_of names name ≡ Some i → slice_get names i ≡ Some name
place_of names name i found =
    let s = stands bytes_eq name_equal name_itself names name (position_held bytes_eq name_equal name_itself names name i found) in
    subst (λ n. slice_get names n ≡ Some name) (same_Some s.at i (sym s.found ∙ found)) s.there

same_name : (names : List (List ℕ)) (a b : List ℕ) (i : ℕ) → number_of names a ≡ Some i → number_of names b ≡ Some i → a ≡ b
same_name names a b i at bt = same_Some a b (sym (place_of names a i at) ∙ place_of names b i bt)

module _ (names : List (List ℕ)) (i : ℕ) (name : List ℕ) (found : number_of names name ≡ Some i) where
  itself : is_at i (Some i) ≡ true
  itself = grind (arith, nat_tests)

  other_number : (x : List ℕ) (o : Option ℕ) → number_of names x ≡ o → bytes_eq x name ≡ false → is_at i o ≡ false
  other_number x None at differ = refl
  other_number x (Some j) at differ = by (j == i) refl
    where
      by : (r : Bool) → (j == i) ≡ r → r ≡ false
      by false is = refl
      by true is =
          let same : j ≡ i = grind (arith, nat_tests) in
          let equal : x ≡ name = same_name names x name i (at ∙ ap Some same) found in
          sym (subst (λ y. bytes_eq x y ≡ true) equal (name_itself x)) ∙ differ

  name_at : (x : List ℕ) → is_at i (number_of names x) ≡ bytes_eq x name
  name_at x = by (bytes_eq x name) refl
    where
      by : (r : Bool) → bytes_eq x name ≡ r → is_at i (number_of names x) ≡ r
      by true is = ap (is_at i) (ap (number_of names) (name_equal x name is) ∙ found) ∙ itself
      by false is = other_number x (number_of names x) refl is

  -- ---- calls

  entry_called : (e : InputSymbol) (a r : Bool) → is_at i (where_so a (if r then number_of names (name_of e) else None)) ≡ (a && (r && bytes_eq (name_of e) name))
  entry_called e true true = name_at (name_of e)
  entry_called e true false = refl
  entry_called e false r = refl

  module _ (imports : List ImportKey) where
    part_called : (ns : List rules.Named) → list_any (is_at i) (map asks (map (told_named names imports) ns)) ≡ list_any (calls name) (filter_map named_ref ns)
    part_called [] = refl
    part_called (a_symbol ref ∷ ns) = λ j. entry_called ref.entry (ref.kind == 0) (is_entry ref.entry) j || part_called ns j
    part_called (a_type w ∷ ns) = part_called ns

    parts_called : (parts : List Part)
        → list_any (is_at i) (flat_map (map asks) (map (λ (part : Part). map (told_named names imports) part.named) parts)) ≡ list_any (calls name) (refs_of parts)
    parts_called [] = refl
    parts_called (part ∷ parts) =
        list_any-append (is_at i) (map asks (map (told_named names imports) part.named)) (flat_map (map asks) (map (λ (q : Part). map (told_named names imports) q.named) parts))
        ∙ (λ j. part_called part.named j || parts_called parts j)
        ∙ sym (list_any-append (calls name) (refs part) (refs_of parts))

-- The marks of all that the parts of a program call.
pub marks_are : (names : List (List ℕ)) (t : Tables) (p : Program) → NameThese names t p → AreMarks names (marked (length names) t) p
marks_are names t p these = λ name i found.
    ap (λ (fs : List Bool). slice_index_or fs i false) (all_flags t.symbols (replicate (length names) false) t.named)
    ∙ flags_set (length names) (flat_map (map (number_called t.symbols)) t.named) i (slice_get_within names i name (place_of names name i found))
    ∙ ap (list_any (is_at i)) (rows_shown t.symbols t.types t.named ∙ ap (flat_map (map asks)) these.named)
    ∙ parts_called names i name found these.imports p.parts
