-- Files whose names differ, one more at a time.
use Rattle.std.proofs.Common.{◌≡◌, ◌≢◌, ℕ, ◌+◌, ◌<◌, List, [], ◌∷◌, ◌++◌, length, take, get_or, ap, subst, sym, ◌∙◌, arith, Any}
use Rattle.std.proofs.lemmas.List.{get_or-take, get_or_default, length-take, take_more}
use Rattle.std.proofs.lemmas.List.Quantifiers.{all_pairs_push}
use Rattle.wl_outside.specs.declared.held.Held.{Held}
use Rattle.wl_outside.specs.Held.{NamesDiffer}

pub differ_more : (files : List Held) (p : ℕ) (file : Held) (name : List ℕ) → p < length files → file ≡ get_or files p file → name ≡ file.name
    → ((k : ℕ) (d : Held) → k < length (take p files) → (get_or (take p files) k d).name ≢ name)
    → NamesDiffer (take p files) → NamesDiffer (take (p + 1) files)
differ_more files p file name h is named new old =
    let e : take (p + 1) files ≡ take p files ++ file ∷ [] = take_more files p file h ∙ ap (λ f. take p files ++ f ∷ []) (sym is) in
    subst NamesDiffer (sym e) (all_pairs_push (λ a b. a.name ≢ b.name) (take p files) file old (λ k d lt same. new k d lt (same ∙ sym named)))

pub same_name : (files : List Held) (p : ℕ) (file : Held) (name : List ℕ) → p < length files → file ≡ get_or files p file → name ≡ file.name
    → Any (λ f. f.name ≡ name) (take p files) → NamesDiffer files → ⊥
same_name files p file name h is named (k, x, lt, at, e) differ =
    let below : k < p = omega (arith, length-take p files) in
    let left : get_or files k x ≡ x = sym (get_or-take p files k x below) ∙ at in
    let right : get_or files p x ≡ file = get_or_default files p x file h ∙ sym is in
    differ k p x below h (ap (λ f. f.name) left ∙ e ∙ named ∙ sym (ap (λ f. f.name) right))
