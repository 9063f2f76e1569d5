-- What a run of loads keeps.
use Rattle.std.proofs.Common.{◌≡◌, ℕ, Bool, ◌+◌, List, [], ◌∷◌, ◌++◌, length, map, take, Option, Some, None, IsTrue, subst, sym, ◌∙◌, refl, ap, get_or, ◌<◌, arith, length-append}
use Rattle.std.specs.Option.{option_map}
use Rattle.std.proofs.lemmas.List.{take_more, map-append}
use Rattle.wl_outside.specs.Shelf.{Shown, Same, Grows, Holds}
use Rattle.link_command.specs.Command.{contents, with_first, taken}

-- the shelf holds what it held, and the files are the contents of the names
pub record SoFar (before now : Shown) (names : List (List ℕ)) (files : List (List ℕ)) : Type 0 where
  pub held : Same before now
  pub counts : Grows before now
  pub count : length files ≡ length names
  pub loaded : IsTrue before.tells → contents before.held names ≡ Some files

with_first_some : (x : Option (List ℕ)) (y : Option (List (List ℕ))) (fs : List (List ℕ)) → with_first x y ≡ Some fs
    → (b : List ℕ) × (bs : List (List ℕ)) × (x ≡ Some b) × (y ≡ Some bs) × (fs ≡ b ∷ bs)
with_first_some (Some b) (Some bs) fs e = (b, bs, refl, refl, cc)
with_first_some (Some b) None fs e = absurd cc
with_first_some None y fs e = absurd cc

with_first_at : (x : Option (List ℕ)) (y : Option (List (List ℕ))) (b : List ℕ) (bs : List (List ℕ)) → x ≡ Some b → y ≡ Some bs
    → with_first x y ≡ Some (b ∷ bs)
with_first_at x y b bs e h = rw (e, h) refl

contents_push : (held : List ℕ → Option (List ℕ)) (names files : List (List ℕ)) (n b : List ℕ)
    → contents held names ≡ Some files → held n ≡ Some b → contents held (names ++ n ∷ []) ≡ Some (files ++ b ∷ [])
contents_push held [] files n b e h =
    let none : [] ≡ files = cc in with_first_at (held n) (Some []) b [] h refl ∙ ap (λ fs. Some (fs ++ b ∷ [])) none
contents_push held (x ∷ xs) files n b e h =
    let p = with_first_some (held x) (contents held xs) files e in
    with_first_at (held x) (contents held (xs ++ n ∷ [])) p.0 (p.1 ++ b ∷ []) p.2 (contents_push held xs p.1 n b p.3 h)
    ∙ ap (λ fs. Some (fs ++ b ∷ [])) (sym p.4)

-- one more of the names
pub names_more : {A : Type 0} (g : ℕ → List ℕ) (f : A → ℕ) (xs : List A) (i : ℕ) (d : A) → i < length xs
    → map g (map f (take (i + 1) xs)) ≡ map g (map f (take i xs)) ++ g (f (get_or xs i d)) ∷ []
names_more g f xs i d h = rw (take_more xs i d h, map-append f, map-append g) refl

-- one more load
pub so_far_more : (before mid after : Shown) (names files : List (List ℕ)) (n b : List ℕ) → SoFar before mid names files
    → Same mid after → Grows mid after → Holds mid n b → SoFar before after (names ++ n ∷ []) (files ++ b ∷ [])
so_far_more before mid after names files n b s same grows holds =
    let tells : IsTrue before.tells → IsTrue mid.tells = λ t. subst (λ v. IsTrue v) (sym s.counts.tells) t in
    record {
      held = λ t k. same (tells t) k ∙ s.held t k;
      counts = record {
        tells = grows.tells ∙ s.counts.tells;
        loads = λ k. let x = s.counts.loads k in let y = grows.loads k in omega arith;
        saves = λ k. let x = s.counts.saves k in let y = grows.saves k in omega arith;
      };
      count = omega (arith, s.count, length-append names (n ∷ []), length-append files (b ∷ []));
      loaded = λ t. contents_push before.held names files n b (s.loaded t) (sym (s.held t n) ∙ holds (tells t));
    }

-- what a link takes of what was loaded
pub taken_is : (like_lld : Bool) (read : Option (List (List ℕ))) (files all : List (List ℕ)) → read ≡ Some files → all ≡ taken like_lld files → option_map (taken like_lld) read ≡ Some all
taken_is like_lld read files all is are = rw (is, are) refl
