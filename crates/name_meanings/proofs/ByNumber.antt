-- The references of a name, by its number.
use Rattle.std.proofs.Common.{◌≡◌, ℕ, ◌+◌, ◌<◌, Bool, true, false, ◌&&◌, ◌∙◌, List, [], ◌∷◌, ◌++◌, refl, ap, sym, Option, Some, None, not, length, get_or}
use Rattle.std.specs.Prelude.{filter, if◌then◌else◌, bytes_eq, slice_get}
use Rattle.std.specs.List.{position, IsDistinct}
use Rattle.std.proofs.lemmas.List.Elements.{filter-append}
use Rattle.std.proofs.lemmas.List.Quantifiers.{position-Some}
use Rattle.name_entries.specs.wl_base.Names.{number_of}
use Rattle.name_entries.specs.object_file.declared.object.Object.{Object}
use Rattle.name_entries.specs.made_symbols.declared.mode.Mode.{Mode}
use Rattle.name_entries.specs.made_symbols.Made.{MadeSymbol, made}
use Rattle.name_entries.specs.name_rules.Entries.{InputSymbol, made_entry, made_from, is_entry, entries, name_of, is_named, named}
use Rattle.name_entries.specs.name_rules.Meanings.{references}
use Rattle.name_entries.specs.View.{is_number}
use Rattle.name_entries.proofs.Numbers.{number_is}
use Rattle.name_meanings.specs.Columns.{is_reference_of, all_symbols}
use Rattle.name_meanings.proofs.Filters.{filter_both, filter_same}

-- ---- places

pub position_passes : {X : Type 0} (p : X → Bool) (xs : List X) (n : ℕ) (d : X) → position p xs ≡ Some n → (n < length xs) × (p (get_or xs n d) ≡ true)
position_passes p xs n d at = let found = position-Some p xs n d at in (found.0, found.1)

-- ---- an entry of a name, by the name's number

by_entry : (names : List (List ℕ)) (x name : List ℕ) (n : ℕ) (entry : Bool) → IsDistinct bytes_eq names → slice_get names n ≡ Some name
    → is_number n (if entry then number_of names x else None) ≡ (entry && bytes_eq x name)
by_entry names x name n true differ at = number_is names x name n (bytes_eq x name) differ at refl
by_entry names x name n false differ at = refl

reference_is : (names : List (List ℕ)) (name : List ℕ) (n : ℕ) → IsDistinct bytes_eq names → slice_get names n ≡ Some name
    → (e : InputSymbol) → is_reference_of names n e ≡ ((is_entry e && is_named name e) && not e.defines)
reference_is names name n differ at e = ap (λ b. b && not e.defines) (by_entry names (name_of e) name n (is_entry e) differ at)

-- ---- the linker's own symbols define their names

made_none_by : (q : Bool) (e : InputSymbol) (rest : List InputSymbol) → e.defines ≡ true → references rest ≡ [] → references (if q then e ∷ rest else rest) ≡ []
made_none_by true e rest defines none = ap (λ d. if not d then e ∷ references rest else references rest) defines ∙ none
made_none_by false e rest defines none = none

made_none : (q : InputSymbol → Bool) (k : ℕ) (ms : List MadeSymbol) → references (filter q (made_from k ms)) ≡ []
made_none q k [] = refl
made_none q k (m ∷ ms) = made_none_by (q (made_entry k m)) (made_entry k m) (filter q (made_from (k + 1) ms)) refl (made_none q (k + 1) ms)

-- ---- the references of a name

references_append : (xs ys : List InputSymbol) → references (xs ++ ys) ≡ references xs ++ references ys
references_append xs ys = filter-append (λ (e : InputSymbol). not e.defines) xs ys

pub references_are : (mode : Mode) (names : List (List ℕ)) (objects : List Object) (n : ℕ) (name : List ℕ) → IsDistinct bytes_eq names → slice_get names n ≡ Some name
    → filter (is_reference_of names n) (all_symbols objects) ≡ references (named (entries mode objects) name)
unfolding entries
references_are mode names objects n name differ at =
    let all = all_symbols objects in
    let by_tests : references (named (filter is_entry all) name) ≡ filter (λ (e : InputSymbol). (is_entry e && is_named name e) && not e.defines) all =
    ap references (filter_both (is_named name) is_entry all) ∙ filter_both (λ (e : InputSymbol). not e.defines) (λ (e : InputSymbol). is_entry e && is_named name e) all in
    filter_same (is_reference_of names n) (λ (e : InputSymbol). (is_entry e && is_named name e) && not e.defines) (reference_is names name n differ at) all
    ∙ sym by_tests
    ∙ ap (λ r. r ++ references (named (filter is_entry all) name)) (sym (made_none (is_named name) 0 (made mode)))
    ∙ sym (references_append (named (made_from 0 (made mode)) name) (named (filter is_entry all) name))
    ∙ ap references (sym (filter-append (is_named name) (made_from 0 (made mode)) (filter is_entry all)))
