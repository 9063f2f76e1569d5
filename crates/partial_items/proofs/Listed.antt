-- What is made of kept parts by their numbers is what is made of the parts.
use Rattle.std.proofs.Common.{◌≡◌, ℕ, zero, suc, ◌+◌, ◌<◌, ◌==◌, Bool, true, false, not, ◌&&◌, cond, List, [], ◌∷◌, ◌++◌, map, filter, filter_map, take, length, get_or, slice_get, Option, Some, None, option_map, refl, sym, ap, subst, ◌∙◌, arith, append_assoc, All}
use Rattle.std.specs.List.{AllByRecursion, cons_option}
use Rattle.std.proofs.lemmas.Bool.{and_parts}
use Rattle.std.proofs.lemmas.List.{take_more, map-append}
use Rattle.std.proofs.lemmas.List.Elements.{filter_map-append, All-head, All-tail}
use Rattle.std.proofs.lemmas.Option.{slice_get-map, same_Some, none-some, get_or_from_slice_get}
use Rattle.partial_tree.specs.link_program.link_rules.Program.{Program, Part}
use Rattle.partial_tree.specs.link_program.link_rules.Marks.{is_object_part}
use Rattle.partial_tree.specs.link_program.made_symbols.declared.mode.Mode.TheVariants.{Plain}
use Rattle.partial_tree.specs.link_program.declared.program.Program.{Program as Data}
use Rattle.partial_tree.specs.link_program.declared.part.Part.{Part as Told}
use Rattle.partial_tree.specs.link_program.Look.{no_part, part_at}
use Rattle.partial_tree.specs.link_program.Program.{IsProgramOf}
use Rattle.partial_tree.specs.link_program.Seen.{SeenPart, seen_part, told_part}
use Rattle.partial_tree.specs.partial_rules.Partial as partial

-- ---- loops

-- one item more that may be found, behind what stood there first
pub found_more : {A B : Type 0} (f : A → Option B) (xs : List A) (i : ℕ) (d : A) → i < length xs → (first old new : List B) (found : Option B) → new ≡ old ++ cons_option found [] → found ≡ f (get_or xs i d)
    → old ≡ first ++ filter_map f (take i xs) → new ≡ first ++ filter_map f (take (i + 1) xs)
found_more f xs i d lt first old new found put is so_far =
    put
    ∙ ((λ j. so_far j ++ cons_option (is j) [])
    ∙ (append_assoc first (filter_map f (take i xs)) (cons_option (f (get_or xs i d)) [])
    ∙ ap (λ os. first ++ os) (sym (ap (filter_map f) (take_more xs i d lt) ∙ filter_map-append f (take i xs) (get_or xs i d ∷ [])))))

-- the same, of what is seen in it
pub seen_more : {A B C : Type 0} (view : C → B) (f : A → Option B) (xs : List A) (i : ℕ) (d : A) → i < length xs → (old new : List C) (found : Option C) → new ≡ old ++ cons_option found [] → option_map view found ≡ f (get_or xs i d)
    → map view old ≡ filter_map f (take i xs) → map view new ≡ filter_map f (take (i + 1) xs)
seen_more {C = C} view f xs i d lt old new found put is so_far =
    found_more f xs i d lt [] (map view old) (map view new) (option_map view found)
    (ap (map view) put ∙ (map-append view old (cons_option found []) ∙ ap (λ os. map view old ++ os) (one found))) is so_far
  where
    one : (o : Option C) → map view (cons_option o []) ≡ cons_option (option_map view o) []
    one None = refl
    one (Some c) = refl

-- an item for each
pub each_more : {A B C : Type 0} (view : C → B) (f : A → B) (xs : List A) (i : ℕ) (d : A) → i < length xs → (old new : List C) (item : C) → new ≡ old ++ item ∷ [] → view item ≡ f (get_or xs i d)
    → map view old ≡ map f (take i xs) → map view new ≡ map f (take (i + 1) xs)
each_more view f xs i d lt old new item put is so_far =
    ap (map view) put
    ∙ (map-append view old (item ∷ [])
    ∙ ((λ j. so_far j ++ is j ∷ [])
    ∙ sym (ap (map f) (take_more xs i d lt) ∙ map-append f (take i xs) (get_or xs i d ∷ []))))

-- ---- kept parts

pub passing : {A : Type 0} (test : A → Bool) (xs : List A) → AllByRecursion (λ x. test x ≡ true) (filter test xs)
passing test [] = tt
passing test (x ∷ xs) = by (test x) refl (passing test xs)
  where
    by : (b : Bool) → test x ≡ b → AllByRecursion (λ x. test x ≡ true) (filter test xs) → AllByRecursion (λ x. test x ≡ true) (cond b (x ∷ filter test xs) (filter test xs))
    by true is rest = (is, rest)
    by false is rest = rest

abbrev pub IsKept : ℕ → Part → Type 0
IsKept kind part = (is_object_part part && (part.chunk.kind == kind)) ≡ true

pub all_kept : (p : Program) (kind : ℕ) → AllByRecursion (IsKept kind) (partial.kept p kind)
all_kept p kind = passing (λ (part : Part). is_object_part part && (part.chunk.kind == kind)) p.parts

not_true : (b : Bool) → not b ≡ true → b ≡ false
not_true true e = absurd cc
not_true false e = refl

pub of_object : (kind : ℕ) (part : Part) → IsKept kind part → (part.chunk.input == 0) ≡ false
of_object kind part kept = not_true (part.chunk.input == 0) (and_parts (is_object_part part) (part.chunk.kind == kind) kept).0

pub of_kind : (kind : ℕ) (part : Part) → IsKept kind part → (part.chunk.kind == kind) ≡ true
of_kind kind part kept = (and_parts (is_object_part part) (part.chunk.kind == kind) kept).1

pub at_number : {A : Type 0} (P : A → Type 0) (xs : List A) (i : ℕ) (x : A) → All P xs → slice_get xs i ≡ Some x → P x
at_number P [] i x all at = absurd (none-some x at)
at_number P (y ∷ xs) zero x all at = subst P (same_Some y x at) (All-head P y xs all)
at_number P (y ∷ xs) (suc i) x all at = at_number P xs i x (All-tail P y xs all) at

module _ {B : Type 0} (xs : List Part) (P : Part → Type 0) where
  pub maps_agree : (f : ℕ → B) (g : Part → B) → ((n : ℕ) (part : Part) → slice_get xs n ≡ Some part → P part → f n ≡ g part)
      → (ns : List ℕ) (parts : List Part) → map (slice_get xs) ns ≡ map Some parts → AllByRecursion P parts → map f ns ≡ map g parts
  maps_agree f g each [] [] same all = refl
  maps_agree f g each [] (part ∷ parts) same all = absurd cc
  maps_agree f g each (n ∷ ns) [] same all = absurd cc
  maps_agree f g each (n ∷ ns) (part ∷ parts) same all =
      let at : slice_get xs n ≡ Some part = cc in
      let others : map (slice_get xs) ns ≡ map Some parts = cc in
      let h = each n part at all.0 in
      let t = maps_agree f g each ns parts others all.1 in
      λ i. h i ∷ t i

  pub founds_agree : (f : ℕ → Option B) (g : Part → Option B) → ((n : ℕ) (part : Part) → slice_get xs n ≡ Some part → P part → f n ≡ g part)
      → (ns : List ℕ) (parts : List Part) → map (slice_get xs) ns ≡ map Some parts → AllByRecursion P parts → filter_map f ns ≡ filter_map g parts
  founds_agree f g each [] [] same all = refl
  founds_agree f g each [] (part ∷ parts) same all = absurd cc
  founds_agree f g each (n ∷ ns) [] same all = absurd cc
  founds_agree f g each (n ∷ ns) (part ∷ parts) same all =
      let at : slice_get xs n ≡ Some part = cc in
      let others : map (slice_get xs) ns ≡ map Some parts = cc in
      let h = each n part at all.0 in
      let t = founds_agree f g each ns parts others all.1 in
      λ i. cons_option (h i) (t i)

-- ---- what the tables tell of a part

pub part_seen : (d : Data) (p : Program) → IsProgramOf Plain d p → (n : ℕ) (part : Part) → slice_get p.parts n ≡ Some part → seen_part d.tables.now.types (part_at d.tables.now n) ≡ told_part part
part_seen d p is n part at = by (slice_get d.tables.now.parts n) refl
  where
    mapped : slice_get (map (seen_part d.tables.now.types) d.tables.now.parts) n ≡ Some (told_part part)
    mapped = ap (λ xs. slice_get xs n) is.tables.parts ∙ (slice_get-map told_part p.parts n ∙ ap (option_map told_part) at)

    by : (x : Option Told) → slice_get d.tables.now.parts n ≡ x → seen_part d.tables.now.types (get_or d.tables.now.parts n no_part) ≡ told_part part
    by None none = absurd (none-some (told_part part) (sym (slice_get-map (seen_part d.tables.now.types) d.tables.now.parts n ∙ ap (option_map (seen_part d.tables.now.types)) none) ∙ mapped))
    by (Some x) there =
        ap (seen_part d.tables.now.types) (get_or_from_slice_get d.tables.now.parts n x no_part there)
        ∙ same_Some (seen_part d.tables.now.types x) (told_part part) (sym (slice_get-map (seen_part d.tables.now.types) d.tables.now.parts n ∙ ap (option_map (seen_part d.tables.now.types)) there) ∙ mapped)
