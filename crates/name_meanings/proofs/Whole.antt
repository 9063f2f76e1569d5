-- The answers of objects, and one more.
use Rattle.std.proofs.Common.{◌≡◌, ℕ, ◌+◌, ◌-◌, ◌<◌, ◌≤◌, ◌∙◌, List, [], ◌∷◌, ◌++◌, ap, sym, subst, arith, Some, length, length-append, get_or, take, drop, drop-cons, add-one}
use Rattle.std.specs.Prelude.{map, filter_map, slice_get, flat_map}
use Rattle.std.specs.List.{All, AllZip}
use Rattle.std.proofs.lemmas.List.{take_more, take_all, map-append, append-nil, get_or_append_left, get_or-append-add}
use Rattle.std.proofs.lemmas.List.Elements.{All-append, All-cons, All-nil}
use Rattle.std.proofs.lemmas.Grind.{flat_map-append}
use Rattle.std.proofs.lemmas.Option.{slice_get-map, get_or_from_slice_get, slice_get-get_or}
use Rattle.name_entries.specs.object_file.declared.object.Object.{Object}
use Rattle.name_entries.specs.name_rules.declared.meaning.Meaning.{Meaning as Told}
use Rattle.name_entries.specs.name_rules.Entries.{ImportKey, symbols_of}
use Rattle.name_entries.specs.name_rules.Meanings.{Meaning, Resolved}
use Rattle.name_entries.specs.View.{rows_of, InputsRise}
use Rattle.name_meanings.specs.declared.naming.Known.{Known}
use Rattle.name_meanings.specs.declared.naming.Found.{Found}
use Rattle.name_meanings.specs.Means.{Means, import_meant, row_of, imports_meant}
use Rattle.name_meanings.specs.Known.{meant, imports_with, IsRow, AreAnswers, SoFar, Resolves, resolved_of}
use Rattle.name_meanings.proofs.Finding.{get_onto}
use Rattle.name_meanings.proofs.Rows.{Grow, zip_still, with_append}

abbrev meanings_of : List Resolved → List Meaning
meanings_of rs = flat_map (λ (x : Resolved). x.meanings) rs

meanings_more : (rs : List Resolved) (r : Resolved) → meanings_of (rs ++ r ∷ []) ≡ meanings_of rs ++ r.meanings
meanings_more rs r = flat_map-append (λ (x : Resolved). x.meanings) rs (r ∷ []) ∙ ap (λ l. meanings_of rs ++ l) (append-nil r.meanings)

row_before : (rows : List (List Told)) (row : List Told) (i : ℕ) → i < length rows → row_of (rows ++ row ∷ []) i ≡ row_of rows i
row_before rows row i within = get_or_append_left rows (row ∷ []) [] i within

row_last : (rows : List (List Told)) (row : List Told) (i : ℕ) → length rows ≡ i → row_of (rows ++ row ∷ []) i ≡ row
row_last rows row i is =
    ap (row_of (rows ++ row ∷ [])) (let e : i ≡ length rows + 0 = omega arith in e) ∙ get_or-append-add rows (row ∷ []) 0 []

one_more : (k : Known) (rows padded : List (List Told)) (row : List Told) (f g : Found) (rs : List Resolved) (r : Resolved) → SoFar k rows f rs
    → length rows ≤ length padded → length padded ≡ r.object.input → ((j : ℕ) → row_of padded j ≡ row_of rows j) → IsRow k row r.meanings f.imports g
    → SoFar k (padded ++ row ∷ []) g (rs ++ r ∷ [])
one_more k rows padded row f g rs r before longer input same filled =
    let grow : Grow f.imports g.imports = λ n key at. subst (λ l. slice_get l n ≡ Some key) (sym filled.imports) (get_onto f.imports (filter_map import_meant r.meanings) n key at) in
    let told = λ (x : Resolved). AllZip (Means g.imports) (row_of (padded ++ row ∷ []) x.object.input) x.meanings in
    let lower = λ (x : Resolved). x.object.input < length (padded ++ row ∷ []) in
    let counted : length (padded ++ row ∷ []) ≡ length padded + 1 = length-append padded (row ∷ []) in
    let earlier : (x : Resolved) → x.object.input < length rows → row_of (padded ++ row ∷ []) x.object.input ≡ row_of rows x.object.input =
    (λ x below. row_before padded row x.object.input (let e : x.object.input < length padded = omega arith in e) ∙ same x.object.input) in
    let old_told : All told rs = λ n d within.
    (let x : Resolved = get_or rs n d in
    subst (λ l. AllZip (Means g.imports) l x.meanings) (sym (earlier x (before.below n d within)))
    (zip_still f.imports g.imports grow (row_of rows x.object.input) x.meanings (before.answers.meanings n d within))) in
    let new_told : told r = subst (λ l. AllZip (Means g.imports) l r.meanings) (sym (row_last padded row r.object.input input)) filled.means in
    let old_lower : All lower rs = λ n d within.
    (let below : (get_or rs n d).object.input < length rows = before.below n d within in
    let e : (get_or rs n d).object.input < length (padded ++ row ∷ []) = omega arith in e) in
    let new_lower : lower r = (let e : r.object.input < length (padded ++ row ∷ []) = omega arith in e) in
    record {
      answers = record {
        meanings = All-append told rs (r ∷ []) old_told (All-cons told r [] new_told (All-nil told));
        imports_are = filled.imports ∙ ap (λ l. imports_with l r.meanings) before.answers.imports_are ∙ with_append [] (meanings_of rs) r.meanings ∙ ap imports_meant (sym (meanings_more rs r));
      };
      below = All-append lower rs (r ∷ []) old_lower (All-cons lower r [] new_lower (All-nil lower));
      found = filled.found;
    }

row_at : (objects : List Object) (i : ℕ) (o : Object) → i < length objects → o ≡ get_or objects i o → get_or (rows_of objects) i [] ≡ symbols_of objects o
row_at objects i o within is =
    let at : slice_get (rows_of objects) i ≡ Some (symbols_of objects o) =
    slice_get-map (symbols_of objects) objects i ∙ ap (λ x. Rattle.std.specs.Prelude.option_map (symbols_of objects) x) (slice_get-get_or objects i o within ∙ ap Some (sym is)) in
    get_or_from_slice_get (rows_of objects) i (symbols_of objects o) [] at

rises_at : (objects : List Object) (i last : ℕ) (o : Object) → i < length objects → o ≡ get_or objects i o → InputsRise last (drop i objects) → InputsRise last (o ∷ drop (i + 1) objects)
rises_at objects i last o within is rise = subst (InputsRise last) (drop-cons objects i o within ∙ ap (λ n. get_or objects i o ∷ drop n objects) (sym (add-one i)) ∙ ap (λ x. x ∷ drop (i + 1) objects) (sym is)) rise

pub room : (k : Known) (rows : List (List Told)) (f : Found) (i : ℕ) (o : Object) → Resolves k rows f i → i < length k.entries.objects.now → o ≡ get_or k.entries.objects.now i o → length rows ≤ o.input
room k rows f i o before within is =
    let first = rises_at k.entries.objects.now i (length rows - 1) o within is before.rise in
    let above : length rows - 1 < o.input = first.0 in
    let some : 0 < length rows = before.some in
    omega arith

pub object_done : (k : Known) (rows padded : List (List Told)) (row : List Told) (f g : Found) (i : ℕ) (o : Object) → Resolves k rows f i → i < length k.entries.objects.now
    → o ≡ get_or k.entries.objects.now i o → length padded ≡ o.input → ((j : ℕ) → row_of padded j ≡ row_of rows j)
    → IsRow k row (map (meant k) (get_or (rows_of k.entries.objects.now) i [])) f.imports g → Resolves k (padded ++ row ∷ []) g (i + 1)
object_done k rows padded row f g i o before within is padded_to same filled =
    let objects = k.entries.objects.now in
    let longer : length rows ≤ length padded = subst (λ n. length rows ≤ n) (sym padded_to) (room k rows f i o before within is) in
    let own : IsRow k row (resolved_of k o).meanings f.imports g = subst (λ es. IsRow k row (map (meant k) es) f.imports g) (row_at objects i o within is) filled in
    let more : map (resolved_of k) (take (i + 1) objects) ≡ map (resolved_of k) (take i objects) ++ resolved_of k o ∷ [] =
    ap (map (resolved_of k)) (take_more objects i o within ∙ ap (λ x. take i objects ++ x ∷ []) (sym is)) ∙ map-append (resolved_of k) (take i objects) (o ∷ []) in
    let counted : length (padded ++ row ∷ []) ≡ length padded + 1 = length-append padded (row ∷ []) in
    let last : o.input ≡ length (padded ++ row ∷ []) - 1 = omega arith in
    let first = rises_at objects i (length rows - 1) o within is before.rise in
    record {
      done = subst (λ rs. SoFar k (padded ++ row ∷ []) g rs) (sym more) (one_more k rows padded row f g (map (resolved_of k) (take i objects)) (resolved_of k o) before.done longer padded_to same own);
      some = omega arith;
      rise = subst (λ n. InputsRise n (drop (i + 1) objects)) last first.2;
    }

pub all_done : (k : Known) (rows : List (List Told)) (f : Found) (i : ℕ) → Resolves k rows f i → length k.entries.objects.now ≤ i
    → AreAnswers rows f.imports (map (resolved_of k) k.entries.objects.now)
all_done k rows f i before past =
    subst (λ os. AreAnswers rows f.imports (map (resolved_of k) os)) (take_all i k.entries.objects.now past) before.done.answers
