-- Parts of which none is unresolved.
use Rattle.std.proofs.Common.{◌≡◌, ℕ, Bool, true, false, cond, ◌&&◌, List, [], ◌∷◌, map, find, slice_get, Option, Some, None, option_map, refl, sym, ap, ◌∙◌, inl, inr, ⊎_elim, ◌⊎◌}
use Rattle.std.specs.List.{AllByRecursion}
use Rattle.std.proofs.lemmas.Bool.{and_from, false_from_ne_true}
use Rattle.std.proofs.lemmas.List.Elements.{recursion_from_All, All-from_recursion}
use Rattle.std.proofs.lemmas.Option.{none-some}
use Rattle.link_program.specs.wl_base.Choice.{first_some}
use Rattle.link_program.specs.wl_base.declared.fault.Fault.{Fault}
use Rattle.link_program.specs.name_rules.Entries.{same_entry}
use Rattle.link_program.specs.name_rules.Meanings.{Resolved, is_nothing}
use Rattle.link_program.specs.link_rules.Program.{Program, Part, Ref, refs}
use Rattle.link_program.specs.link_rules.Marks.{refs_of, all_symbols, is_open, unresolved}
use Rattle.link_program.specs.Stand.{PartStands, IsSymbolOf, IsVariantOf, IsRefOf}
use Rattle.link_marks.specs.Laws.{AllAreMeant}
use Rattle.link_marks.proofs.Members.{In, in_at, in_any, in_flat, all_in, all_from, all_flat}
use Rattle.link_marks.proofs.Leasts.{entry_itself}

second_none : (a b : Option Fault) → first_some (a ∷ b ∷ []) ≡ None → b ≡ None
second_none (Some x) b h = absurd (none-some x (sym h))
second_none None None h = refl
second_none None (Some y) h = absurd (none-some y (sym h))

map_none : {A B : Type 0} (f : A → B) (o : Option A) → option_map f o ≡ None → o ≡ None
map_none f None h = refl
map_none f (Some x) h = absurd (none-some (f x) (sym h))

find_none_by : {A : Type 0} (q : A → Bool) (x y : A) (xs : List A) → (find q xs ≡ None → In x xs → q x ≡ false) → (b : Bool) → q y ≡ b → cond b (Some y) (find q xs) ≡ None → (y ≡ x) ⊎ In x xs → q x ≡ false
find_none_by q x y xs again true is h k = absurd (none-some y (sym h))
find_none_by q x y xs again false is h (inl e) = ap q (sym e) ∙ is
find_none_by q x y xs again false is h (inr j) = again h j

find_none : {A : Type 0} (q : A → Bool) (x : A) (xs : List A) → find q xs ≡ None → In x xs → q x ≡ false
find_none q x [] h k = absurd k
find_none q x (y ∷ xs) h k = find_none_by q x y xs (find_none q x xs) (q y) refl h k

-- parts by number are parts of the program
pub parts_in : (P : Part → Type 0) (all : List Part) (numbers : List ℕ) (parts : List Part) → map (slice_get all) numbers ≡ map Some parts → AllByRecursion P all → AllByRecursion P parts
parts_in P all numbers [] is h = tt
parts_in P all [] (x ∷ parts) is h = absurd cc
parts_in P all (n ∷ numbers) (x ∷ parts) is h =
    let here : slice_get all n ≡ Some x = cc in
    let rest : map (slice_get all) numbers ≡ map Some parts = cc in
    (all_in P x all h (in_at all n x here), parts_in P all numbers parts rest h)

symbol_in : (p : Program) (r : Ref) → IsSymbolOf p.resolved r.entry r.meaning → In r.entry (all_symbols p)
symbol_in p r is = in_flat (λ (x : Resolved). x.symbols) is.2 r.entry p.resolved (in_at p.resolved is.0 is.2 is.3) (in_at is.2.symbols is.1 r.entry is.4)

pub all_are_meant : AllAreMeant
unfolding unresolved
all_are_meant p numbers parts stand are none =
    let nothing_found : find (is_open (refs_of parts)) (all_symbols p) ≡ None = map_none _ _ (second_none _ _ none) in
    let known : AllByRecursion (IsRefOf p) (refs_of parts) =
    all_flat (IsRefOf p) refs parts (all_from _ parts (λ part h.
    let stands : PartStands p part = all_in (PartStands p) part parts (parts_in (PartStands p) p.parts numbers parts are.are (recursion_from_All (PartStands p) p.parts stand)) h in
    recursion_from_All (IsRefOf p) (refs part) stands.refs)) in
    All-from_recursion (λ (r : Ref). is_nothing r.meaning ≡ false) (refs_of parts) (all_from _ (refs_of parts) (λ r h.
    false_from_ne_true (is_nothing r.meaning) (λ yes.
    ⊎_elim
    (λ is. no (sym (in_any (λ (ref : Ref). is_nothing ref.meaning && same_entry ref.entry r.entry) r (refs_of parts) h (and_from (is_nothing r.meaning) (same_entry r.entry r.entry) yes (entry_itself r.entry)))
    ∙ find_none (is_open (refs_of parts)) r.entry (all_symbols p) nothing_found (symbol_in p r is)))
    (λ (v : IsVariantOf p.variants r.entry r.meaning). no (sym yes ∙ ap is_nothing v.0))
    (all_in (IsRefOf p) r (refs_of parts) known h))))
  where
    no : true ≡ false → ⊥
    no e = cc
