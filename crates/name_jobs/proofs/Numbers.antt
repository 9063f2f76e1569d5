-- The number of a name among names that differ.
use Rattle.std.proofs.Common.{◌≡◌, ℕ, ◌<◌, true, List, length, slice_get, bytes_eq, Some, sym, ap, ◌∙◌}
use Rattle.std.specs.List.{IsDistinct}
use Rattle.std.proofs.lemmas.Option.{slice_get_within}
use Rattle.std.proofs.lemmas.Slice.Eq.{bytes_eq-Decides}
use Rattle.name_entries.specs.wl_base.Names.{number_of}
use Rattle.name_entries.proofs.Numbers.{name_at, own_number}

pub number_below : (names : List (List ℕ)) (name : List ℕ) (i : ℕ) → number_of names name ≡ Some i → i < length names
number_below names name i e = slice_get_within names i name (name_at names name i e)

same_name : {a b : List ℕ} → Some a ≡ Some b → a ≡ b
same_name e = cc

-- the two ways of saying that a name is the one at a place
pub record Places (names : List (List ℕ)) (i : ℕ) (name : List ℕ) : Type 0 where
  pub number : (other : List ℕ) → bytes_eq other name ≡ true → number_of names other ≡ Some i
  pub named : (other : List ℕ) → number_of names other ≡ Some i → bytes_eq other name ≡ true

pub placed : (names : List (List ℕ)) (i : ℕ) (name : List ℕ) → IsDistinct bytes_eq names → slice_get names i ≡ Some name → Places names i name
placed names i name distinct at = record {
  number = λ other same. ap (number_of names) ((bytes_eq-Decides other name).0 same) ∙ own_number names name i distinct at;
  named = λ other e. (bytes_eq-Decides other name).1 (same_name (sym (name_at names other i e) ∙ at));
}
