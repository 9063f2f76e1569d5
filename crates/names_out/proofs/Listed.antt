-- Names that are listed by number.
use Rattle.std.proofs.Common.{◌≡◌, ℕ, ◌+◌, ◌==◌, ◌<◌, ◌≤◌, true, false, List, [], ◌∷◌, ◌++◌, map, length, drop, get_or, refl, sym, ap, ◌∙◌, arith, append_assoc, eqb-true}
use Rattle.std.proofs.lemmas.List.{at_drop_more, at_drop_all, get_or-map, map_push, length-map}
use Rattle.name_section.specs.declared.name.FunctionName.{FunctionName}
use Rattle.name_section.specs.Names.{Named, named_seen}
use Rattle.function_names.specs.Names.{named_onto}
use Rattle.names_out.specs.declared.labels.Label.{Label}
use Rattle.names_out.specs.Told.{label_seen, listed_from}

append_none : {A : Type 0} (xs : List A) → xs ++ [] ≡ xs
append_none [] = refl
append_none (x ∷ xs) = ap (λ ys. x ∷ ys) (append_none xs)

-- ---- one function

one_named : (k : ℕ) (name : List ℕ) → (length name == 0) ≡ false → record { index = k; name = name } ∷ [] ≡ named_onto k name []
one_named k [] some = absurd cc
one_named k (b ∷ bs) some = refl

pub pushed : (old : List FunctionName) (l : Label) (k : ℕ) → (length (label_seen l) == 0) ≡ false
    → map named_seen (old ++ record { index = k; prefix = l.prefix; name = l.name } ∷ []) ≡ map named_seen old ++ named_onto k (label_seen l) []
pushed old l k some = map_push named_seen old (record { index = k; prefix = l.prefix; name = l.name }) ∙ ap (λ ns. map named_seen old ++ ns) (one_named k (label_seen l) some)

pub unnamed : (old : List Named) (k : ℕ) (name : List ℕ) → (length name == 0) ≡ true → old ≡ old ++ named_onto k name []
unnamed old k [] none = sym (append_none old)
unnamed old k (b ∷ bs) none = absurd (let e = eqb-true (length (b ∷ bs)) 0 none in omega (arith, e))

-- ---- all

onto : (k : ℕ) (name : List ℕ) (rest : List Named) → named_onto k name [] ++ rest ≡ named_onto k name rest
onto k [] rest = refl
onto k (b ∷ bs) rest = refl

listed_more : (names : List (List ℕ)) (i : ℕ) → i < length names → (old new whole : List Named) → new ≡ old ++ named_onto i (get_or names i []) []
    → old ++ listed_from i (drop i names) ≡ whole → new ++ listed_from (i + 1) (drop (i + 1) names) ≡ whole
listed_more names i lt old new whole is so_far =
    let name = get_or names i [] in
    let rest = listed_from (i + 1) (drop (i + 1) names) in
    ap (λ ns. ns ++ rest) is
    ∙ (append_assoc old (named_onto i name []) rest
    ∙ (ap (λ ns. old ++ ns) (onto i name rest)
    ∙ (sym (at_drop_more (λ (ns : List (List ℕ)). old ++ listed_from i ns) names i [] lt) ∙ so_far)))

pub labels_more : (labels : List Label) (i : ℕ) (d : Label) → i < length labels → (old new whole : List Named) → new ≡ old ++ named_onto i (label_seen (get_or labels i d)) []
    → old ++ listed_from i (drop i (map label_seen labels)) ≡ whole → new ++ listed_from (i + 1) (drop (i + 1) (map label_seen labels)) ≡ whole
labels_more labels i d lt old new whole is so_far =
    let long = length-map labels label_seen in
    listed_more (map label_seen labels) i (omega (arith, long, lt)) old new whole
    (is ∙ ap (λ name. old ++ named_onto i name []) (sym (get_or-map label_seen labels i d [] lt))) so_far

pub labels_all : (labels : List Label) (i : ℕ) → length labels ≤ i → (old whole : List Named) → old ++ listed_from i (drop i (map label_seen labels)) ≡ whole → old ≡ whole
labels_all labels i le old whole so_far =
    let long = length-map labels label_seen in
    sym (append_none old)
    ∙ (sym (at_drop_all (λ (ns : List (List ℕ)). old ++ listed_from i ns) (map label_seen labels) i (omega (arith, long, le))) ∙ so_far)
