-- The names in a table when all were offered.
use Rattle.std.proofs.Common.{◌≡◌, ℕ, suc, ◌+◌, ◌==◌, ◌<◌, Bool, true, false, List, [], ◌∷◌, map, fold, length, set, get_or, Option, Some, None, refl, sym, ap, subst, ◌∙◌, arith, eqb-true}
use Rattle.std.specs.Prelude.{if◌then◌else◌}
use Rattle.std.proofs.lemmas.List.{length-set, get_or-set_same, get_or-set_other}
use Rattle.link_program.specs.made_symbols.declared.mode.Mode.{Mode}
use Rattle.link_program.specs.link_rules.Keys.{FunctionKey}
use Rattle.function_names.specs.Labels.{key_label}
use Rattle.function_names.specs.Names.{Offer, is_number, or_name, offered, named_onto, named_from}
use Rattle.names_out.specs.Told.{taken_by, taking, listed_from}

or_none : (xs : List ℕ) → or_name xs [] ≡ xs
or_none [] = refl
or_none (x ∷ xs) = refl

or_or : (xs ys zs : List ℕ) → or_name (or_name xs ys) zs ≡ or_name xs (or_name ys zs)
or_or [] ys zs = refl
or_or (x ∷ xs) ys zs = refl

-- ---- one name

taken_long : (table : List (List ℕ)) (n : Option ℕ) (name : List ℕ) → length (taken_by table n name) ≡ length table
taken_long table None name = refl
taken_long table (Some n) name = length-set table n (or_name (get_or table n []) name)

taken_at : (table : List (List ℕ)) (n : Option ℕ) (name : List ℕ) (k : ℕ) → k < length table → get_or (taken_by table n name) k [] ≡ or_name (get_or table k []) (if is_number k n then name else [])
taken_at table None name k lt = sym (or_none (get_or table k []))
taken_at table (Some n) name k lt = by_test (n == k) refl
  where
    by_test : (r : Bool) → (n == k) ≡ r → get_or (set table n (or_name (get_or table n []) name)) k [] ≡ or_name (get_or table k []) (if r then name else [])
    by_test true is =
        let same : n ≡ k = eqb-true n k is in
        ap (λ m. get_or (set table m (or_name (get_or table m []) name)) k []) same ∙ get_or-set_same table k (or_name (get_or table k []) name) [] lt
    by_test false is =
        get_or-set_other table n k (or_name (get_or table n []) name) [] (λ same. let e : (n == k) ≡ true = ap (λ m. n == m) same ∙ itself n in absurd (let z : true ≡ false = sym e ∙ is in cc))
        ∙ sym (or_none (get_or table k []))
      where
        itself : (m : ℕ) → (m == m) ≡ true
        itself m = grind arith

-- ---- all names

pub folded_long : (os : List Offer) (table : List (List ℕ)) → length (fold taking table os) ≡ length table
folded_long [] table = refl
folded_long (o ∷ os) table = folded_long os (taking table o) ∙ taken_long table o.number o.name

pub folded_at : (os : List Offer) (table : List (List ℕ)) (k : ℕ) → k < length table → get_or (fold taking table os) k [] ≡ or_name (get_or table k []) (offered k os)
folded_at [] table k lt = sym (or_none (get_or table k []))
folded_at (o ∷ os) table k lt =
    let long = taken_long table o.number o.name in
    folded_at os (taking table o) k (omega (arith, long, lt))
    ∙ (ap (λ name. or_name name (offered k os)) (taken_at table o.number o.name k lt)
    ∙ or_or (get_or table k []) (if is_number k o.number then o.name else []) (offered k os))

-- ---- as the definition has them

pub listed_is : (mode : Mode) (os : List Offer) (k : ℕ) (fs : List FunctionKey) (table : List (List ℕ)) → length table ≡ length fs
    → ((j : ℕ) → j < length fs → get_or table j [] ≡ or_name (get_or (map (key_label mode) fs) j []) (offered (k + j) os))
    → listed_from k table ≡ named_from mode os k fs
listed_is mode os k [] [] long each = refl
listed_is mode os k [] (n ∷ ns) long each = absurd cc
listed_is mode os k (f ∷ fs) [] long each = absurd cc
listed_is mode os k (f ∷ fs) (n ∷ ns) long each =
    let at : k + 0 ≡ k = omega arith in
    let first : n ≡ or_name (key_label mode f) (offered k os) = each 0 (omega arith) ∙ ap (λ m. or_name (key_label mode f) (offered m os)) at in
    let rest = listed_is mode os (k + 1) fs ns (omega (arith, long)) (λ j lt.
    let e : k + suc j ≡ k + 1 + j = omega arith in
    each (suc j) (omega (arith, lt)) ∙ ap (λ m. or_name (get_or (map (key_label mode) fs) j []) (offered m os)) e) in
    λ i. named_onto k (first i) (rest i)
