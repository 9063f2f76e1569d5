-- Whether all of a list pass a test, item by item.
use Rattle.std.proofs.Common.{◌≡◌, ◌∙◌, ℕ, ◌+◌, ◌<◌, Bool, true, List, length, take, get_or, refl, sym, ap}
use Rattle.std.specs.List.{list_all}
use Rattle.std.proofs.Math.Seq.{take-length}
use Rattle.std.proofs.lemmas.List.Folds.{list_all_more}
use Rattle.name_entries.specs.name_rules.declared.meaning.Meaning.{Meaning as Told}
use Rattle.name_entries.specs.name_rules.declared.meaning.Meaning.TheVariants.{Here, Made, Import, Null, Nothing}
use Rattle.name_meanings.specs.Means.{means_something}

pub something : (m : Told) → (m ≡ Nothing → ⊥) → means_something m ≡ true
something (Here input symbol) other = refl
something (Made number) other = refl
something (Import number) other = refl
something Null other = refl
something Nothing other = absurd (other refl)

module _ {A : Type 0} (p : A → Bool) where
  -- one that passes
  pub one_passes : (xs : List A) (i : ℕ) (d : A) → i < length xs → p (get_or xs i d) ≡ true → list_all p (take i xs) ≡ true → list_all p (take (i + 1) xs) ≡ true
  one_passes xs i d below passes so_far = list_all_more p xs i d below ∙ rw (so_far, passes) refl

  -- the end of the list
  pub all_passed : (xs : List A) (i : ℕ) → i ≡ length xs → list_all p (take i xs) ≡ true → true ≡ list_all p xs
  all_passed xs i end passed = sym (sym (ap (λ n. list_all p (take n xs)) end ∙ ap (list_all p) (take-length xs)) ∙ passed)
