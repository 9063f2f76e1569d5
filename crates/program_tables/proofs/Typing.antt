-- Numbers of types, as the table grows.
use Rattle.std.proofs.Common.{◌≡◌, ℕ, ◌+◌, Bool, true, false, ◌∙◌, List, [], ◌∷◌, ◌++◌, refl, ap, sym, subst, Some, get_or, take}
use Rattle.std.specs.Prelude.{slice_get, map, if◌then◌else◌}
use Rattle.std.specs.List.{list_any}
use Rattle.std.proofs.lemmas.List.{map-append}
use Rattle.std.proofs.lemmas.Option.{slice_get-get_or}
use Rattle.link_program.specs.wasm_types.declared.function.FuncType.{FuncType}
use Rattle.link_program.specs.wasm_types.Same.{same_type}
use Rattle.link_program.specs.wasm_types.SameLaws.{same_type_is}
use Rattle.link_program.specs.object_file.declared.object.Object.{Object}
use Rattle.link_program.specs.type_merge.Types.{type_number, with_type}
use Rattle.link_program.proofs.name_meanings_lemmas.ByNumber.{position_passes}
use Rattle.link_program.specs.object_file.Spaces.{no_type}
use Rattle.program_tables.specs.Types.{Keep, AreNumbered, AreTyped}
use Rattle.program_tables.proofs.Lists.{front, at_take}

keep_by : (held : Bool) (types : List FuncType) (t : FuncType) → Keep types (if held then types else types ++ t ∷ [])
keep_by true types t n x at = at
keep_by false types t n x at = front types (t ∷ []) n x at

pub keep_with : (types : List FuncType) (t : FuncType) → Keep types (with_type types t)
keep_with types t = keep_by (list_any (same_type t) types) types t

pub number_at : (types : List FuncType) (t : FuncType) (n : ℕ) → type_number types t ≡ Some n → slice_get types n ≡ Some t
number_at types t n is =
    let found = position_passes (same_type t) types n t is in
    slice_get-get_or types n t found.0 ∙ ap Some (sym ((same_type_is t (get_or types n t)).0 found.1))

pub keep_on : (a b c : List FuncType) → Keep a b → Keep b c → Keep a c
keep_on a b c first second n t at = second n t (first n t at)

heads : {A : Type 0} (x y : A) (xs ys : List A) → x ∷ xs ≡ y ∷ ys → (x ≡ y) × (xs ≡ ys)
heads x y xs ys e = (cc, cc)

pub numbered_still : (old new : List FuncType) (row : List ℕ) (ts : List FuncType) → Keep old new → AreNumbered old row ts → AreNumbered new row ts
numbered_still old new [] [] keep are = refl
numbered_still old new [] (t ∷ ts) keep are = absurd cc
numbered_still old new (n ∷ row) [] keep are = absurd cc
numbered_still old new (n ∷ row) (t ∷ ts) keep are =
    let two = heads (slice_get old n) (Some t) (map (slice_get old) row) (map Some ts) are in
    rw (keep n t two.0, numbered_still old new row ts keep two.1) refl

pub numbered_more : (old new : List FuncType) (row : List ℕ) (ts : List FuncType) (i n : ℕ) (t : FuncType) → Keep old new → AreNumbered old row (take i ts) → slice_get ts i ≡ Some t → slice_get new n ≡ Some t
    → AreNumbered new (row ++ n ∷ []) (take (i + 1) ts)
numbered_more old new row ts i n t keep are at number =
    map-append (slice_get new) row (n ∷ [])
    ∙ ap (λ l. l ++ slice_get new n ∷ []) (numbered_still old new row (take i ts) keep are)
    ∙ ap (λ o. map Some (take i ts) ++ o ∷ []) number
    ∙ sym (map-append Some (take i ts) (t ∷ []))
    ∙ ap (map Some) (sym (at_take ts i t at))

rows_still : (old new : List FuncType) (rows : List (List ℕ)) (os : List Object) → Keep old new → map (map (slice_get old)) rows ≡ map (λ (o : Object). map Some o.types) os
    → map (map (slice_get new)) rows ≡ map (λ (o : Object). map Some o.types) os
rows_still old new [] [] keep are = refl
rows_still old new [] (o ∷ os) keep are = absurd cc
rows_still old new (row ∷ rows) [] keep are = absurd cc
rows_still old new (row ∷ rows) (o ∷ os) keep are =
    let two = heads (map (slice_get old) row) (map Some o.types) (map (map (slice_get old)) rows) (map (λ (o : Object). map Some o.types) os) are in
    rw (numbered_still old new row o.types keep two.0, rows_still old new rows os keep two.1) refl

pub rows_more : (old new : List FuncType) (rows : List (List ℕ)) (row : List ℕ) (os : List Object) (i : ℕ) (o : Object) → Keep old new
    → map (map (slice_get old)) rows ≡ map (λ (o : Object). map Some o.types) (take i os) → slice_get os i ≡ Some o → AreNumbered new row o.types
    → map (map (slice_get new)) (rows ++ row ∷ []) ≡ map (λ (o : Object). map Some o.types) (take (i + 1) os)
rows_more old new rows row os i o keep are at numbered =
    map-append (map (slice_get new)) rows (row ∷ [])
    ∙ ap (λ l. l ++ map (slice_get new) row ∷ []) (rows_still old new rows (take i os) keep are)
    ∙ ap (λ r. map (λ (o : Object). map Some o.types) (take i os) ++ r ∷ []) numbered
    ∙ sym (map-append (λ (o : Object). map Some o.types) (take i os) (o ∷ []))
    ∙ ap (map (λ (o : Object). map Some o.types)) (sym (at_take os i o at))

pub kept : (old new : List FuncType) (t : FuncType) → new ≡ with_type old t → Keep old new
kept old new t is = subst (Keep old) (sym is) (keep_with old t)

pub all_typed : (none first second third copies : List FuncType) (numbers : List (List ℕ)) (objects : List Object) → none ≡ [] → first ≡ with_type none no_type → Keep first second → Keep second third
    → map (map (slice_get second)) numbers ≡ map (λ (o : Object). map Some o.types) objects → copies ≡ third → AreTyped copies numbers objects
all_typed none first second third copies numbers objects empty is keep on each same =
    let one : first ≡ no_type ∷ [] = is ∙ ap (λ l. with_type l no_type) empty in
    let at : slice_get third 0 ≡ Some no_type = on 0 no_type (keep 0 no_type (ap (λ l. slice_get l 0) one)) in
    subst (λ types. AreTyped types numbers objects) (sym same) (record { first = at; each = rows_still second third numbers objects on each })
