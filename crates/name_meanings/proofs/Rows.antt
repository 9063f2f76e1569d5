-- Rows of answers, and one more.
use Rattle.std.proofs.Common.{◌≡◌, ℕ, ◌+◌, ◌<◌, ◌∙◌, List, [], ◌∷◌, ◌++◌, refl, ap, sym, subst, arith, Some, length, get_or, take}
use Rattle.std.specs.Prelude.{map, filter_map, slice_get, if◌then◌else◌}
use Rattle.std.specs.List.{AllZip, list_any}
use Rattle.std.proofs.lemmas.List.{take_more, map-append}
use Rattle.std.proofs.lemmas.List.Elements.{filter_map-append}
use Rattle.std.proofs.lemmas.Option.{slice_get-get_or}
use Rattle.name_entries.specs.wl_base.Choice.{distinct_onto}
use Rattle.name_entries.specs.name_rules.declared.meaning.Meaning.{Meaning as Told}
use Rattle.name_entries.specs.name_rules.declared.meaning.Meaning.TheVariants.{Here, Made, Import, Null, Nothing}
use Rattle.name_entries.specs.name_rules.Entries.{InputSymbol, ImportKey, same_import}
use Rattle.name_entries.specs.name_rules.Meanings.{Meaning, here, imported, null, nothing}
use Rattle.name_meanings.specs.declared.naming.Known.{Known}
use Rattle.name_meanings.specs.declared.naming.Found.{Found}
use Rattle.name_meanings.specs.Means.{Means, import_meant}
use Rattle.name_meanings.specs.Known.{meant, imports_with, Finds, IsRow}
use Rattle.name_meanings.proofs.Finding.{get_onto}
use Rattle.name_meanings.proofs.Flattened.{with_first}

-- ---- imports that grow

abbrev pub Grow : List ImportKey → List ImportKey → Type 0
Grow old new = (n : ℕ) (key : ImportKey) → slice_get old n ≡ Some key → slice_get new n ≡ Some key

pub means_still : (old new : List ImportKey) → Grow old new → (told : Told) (m : Meaning) → Means old told m → Means new told m
means_still old new grow (Here i s) (here e) means = means
means_still old new grow (Made k) (here e) means = means
means_still old new grow (Import n) (imported key) means = grow n key means
means_still old new grow Null null means = tt
means_still old new grow Nothing nothing means = tt
means_still old new grow (Here i s) (imported key) means = absurd means
means_still old new grow (Here i s) null means = absurd means
means_still old new grow (Here i s) nothing means = absurd means
means_still old new grow (Made k) (imported key) means = absurd means
means_still old new grow (Made k) null means = absurd means
means_still old new grow (Made k) nothing means = absurd means
means_still old new grow (Import n) (here e) means = absurd means
means_still old new grow (Import n) null means = absurd means
means_still old new grow (Import n) nothing means = absurd means
means_still old new grow Null (here e) means = absurd means
means_still old new grow Null (imported key) means = absurd means
means_still old new grow Null nothing means = absurd means
means_still old new grow Nothing (here e) means = absurd means
means_still old new grow Nothing (imported key) means = absurd means
means_still old new grow Nothing null means = absurd means

pub zip_still : (old new : List ImportKey) → Grow old new → (row : List Told) (ms : List Meaning) → AllZip (Means old) row ms → AllZip (Means new) row ms
zip_still old new grow [] [] all = all
zip_still old new grow [] (m ∷ ms) all = absurd all
zip_still old new grow (t ∷ ts) [] all = absurd all
zip_still old new grow (t ∷ ts) (m ∷ ms) all = (means_still old new grow t m all.0, zip_still old new grow ts ms all.1)

zip_more : (imports : List ImportKey) (row : List Told) (ms : List Meaning) (t : Told) (m : Meaning) → AllZip (Means imports) row ms → Means imports t m → AllZip (Means imports) (row ++ t ∷ []) (ms ++ m ∷ [])
zip_more imports [] [] t m all means = (means, tt)
zip_more imports [] (x ∷ xs) t m all means = absurd all
zip_more imports (y ∷ ys) [] t m all means = absurd all
zip_more imports (y ∷ ys) (x ∷ xs) t m all means = (all.0, zip_more imports ys xs t m all.1 means)

pub onto_append : (seen xs ys : List ImportKey) → distinct_onto same_import (distinct_onto same_import seen xs) ys ≡ distinct_onto same_import seen (xs ++ ys)
onto_append seen [] ys = refl
onto_append seen (x ∷ xs) ys = onto_append (if list_any (same_import x) seen then seen else seen ++ x ∷ []) xs ys

pub with_append : (imports : List ImportKey) (xs ys : List Meaning) → imports_with (imports_with imports xs) ys ≡ imports_with imports (xs ++ ys)
with_append imports xs ys =
    onto_append imports (filter_map import_meant xs) (filter_map import_meant ys) ∙ ap (distinct_onto same_import imports) (sym (filter_map-append import_meant xs ys))

-- ---- one more symbol of a row

row_more : (k : Known) (row : List Told) (ms : List Meaning) (old : List ImportKey) (f g : Found) (t : Told) (m : Meaning) → IsRow k row ms old f → Finds k t m f g
    → IsRow k (row ++ t ∷ []) (ms ++ m ∷ []) old g
row_more k row ms old f g t m before finds =
    let grow : Grow f.imports g.imports = λ n key at. subst (λ l. slice_get l n ≡ Some key) (sym finds.imports) (get_onto f.imports (filter_map import_meant (m ∷ [])) n key at) in
    record {
      means = zip_more g.imports row ms t m (zip_still f.imports g.imports grow row ms before.means) finds.means;
      imports = finds.imports ∙ ap (λ l. imports_with l (m ∷ [])) before.imports ∙ with_append old ms (m ∷ []);
      found = finds.found;
    }

pub row_symbol : (k : Known) (row : List Told) (es : List InputSymbol) (p : ℕ) (old : List ImportKey) (f g : Found) (t : Told) → p < length es
    → IsRow k row (map (meant k) (take p es)) old f → ((e : InputSymbol) → slice_get es p ≡ Some e → Finds k t (meant k e) f g)
    → IsRow k (row ++ t ∷ []) (map (meant k) (take (p + 1) es)) old g
row_symbol k row es p old f g t within before finds =
    let some : 0 < length es = omega arith in
    let d : InputSymbol = with_first es some in
    let e = get_or es p d in
    let more : map (meant k) (take (p + 1) es) ≡ map (meant k) (take p es) ++ meant k e ∷ [] =
    ap (map (meant k)) (take_more es p d within) ∙ map-append (meant k) (take p es) (e ∷ []) in
    subst (λ ms. IsRow k (row ++ t ∷ []) ms old g) (sym more) (row_more k row (map (meant k) (take p es)) old f g t (meant k e) before (finds e (slice_get-get_or es p d within)))
