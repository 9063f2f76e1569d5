-- Where no export is repeated, the names of exports differ.
use Rattle.std.proofs.Common.{◌≡◌, ℕ, List, [], ◌∷◌, ◌++◌, map, Option, Some, None, Bool, true, false, refl, sym, ap, ◌∙◌, subst, inl, inr, ⊎_elim, arith}
use Rattle.std.specs.Prelude.{not, ◌||◌, find, option_map, cond, bytes_eq}
use Rattle.std.specs.List.{list_any}
use Rattle.std.proofs.lemmas.Bool.{and_from, not_from_false}
use Rattle.list_places.specs.Has.{Has}
use Rattle.list_places.proofs.Lists.{has_left, has_right}
use Rattle.wl_base.specs.Choice.{first_some}
use Rattle.link_rules.specs.Marks.{Given, repeated_by, first_repeat}
use Rattle.wasm_valid.specs.Rules.{all_differ}

-- ---- what isn't found isn't there

none_found : {A B : Type 0} (f : A → B) (test : A → Bool) (xs : List A) → option_map f (find test xs) ≡ None → (x : A) → Has xs x → test x ≡ false
none_found f test [] e x h = absurd h
none_found f test (y ∷ ys) e x h = onto (test y) refl e h (λ q k. none_found f test ys q x k)
  where
    onto : (b : Bool) → test y ≡ b → option_map f (cond b (Some y) (find test ys)) ≡ None → Has (y ∷ ys) x → (option_map f (find test ys) ≡ None → Has ys x → test x ≡ false) → test x ≡ false
    onto true t q h rest = absurd (grind arith)
    onto false t q (inl s) rest = sym (ap test s) ∙ t
    onto false t q (inr k) rest = rest q k

first_none : {A : Type 0} (a b : Option A) → first_some (a ∷ b ∷ []) ≡ None → (a ≡ None) × (b ≡ None)
first_none (Some x) b h = absurd (grind arith)
first_none None (Some x) h = absurd (grind arith)
first_none None None h = (refl, refl)

-- no name of the one list is one of the other
no_earlier : (earlier gs : List Given) → first_repeat earlier gs ≡ None → (f g : Given) → Has earlier f → Has gs g → bytes_eq f.name g.name ≡ false
no_earlier earlier [] e f g hf hg = absurd hg
no_earlier earlier (x ∷ xs) e f g hf hg =
    let q = first_none (repeated_by earlier x) (first_repeat (earlier ++ x ∷ []) xs) e in
    ⊎_elim
    (λ (s : x ≡ g). none_found _ (λ (f : Given). bytes_eq f.name g.name) earlier (subst (λ y. repeated_by earlier y ≡ None) s q.0) f hf)
    (λ k. no_earlier (earlier ++ x ∷ []) xs q.1 f g (has_left earlier (x ∷ []) f hf) k)
    hg

none_any : (name : List ℕ) (gs : List Given) → ((g : Given) → Has gs g → bytes_eq name g.name ≡ false) → list_any (bytes_eq name) (map (λ (g : Given). g.name) gs) ≡ false
none_any name [] h = refl
none_any name (g ∷ gs) h = both (bytes_eq name g.name) (list_any (bytes_eq name) (map (λ (g : Given). g.name) gs)) (h g (inl refl)) (none_any name gs (λ x k. h x (inr k)))
  where
    both : (a b : Bool) → a ≡ false → b ≡ false → (a || b) ≡ false
    both true b p q = p
    both false b p q = q

pub names_differ : (earlier gs : List Given) → first_repeat earlier gs ≡ None → all_differ bytes_eq (map (λ (g : Given). g.name) gs) ≡ true
names_differ earlier [] e = refl
names_differ earlier (x ∷ xs) e =
    let q = first_none (repeated_by earlier x) (first_repeat (earlier ++ x ∷ []) xs) e in
    and_from (not (list_any (bytes_eq x.name) (map (λ (g : Given). g.name) xs))) (all_differ bytes_eq (map (λ (g : Given). g.name) xs))
    (not_from_false (list_any (bytes_eq x.name) (map (λ (g : Given). g.name) xs)) (none_any x.name xs (λ g h. no_earlier (earlier ++ x ∷ []) xs q.1 x g (has_right earlier (x ∷ []) x (inl refl)) h)))
    (names_differ (earlier ++ x ∷ []) xs q.1)
