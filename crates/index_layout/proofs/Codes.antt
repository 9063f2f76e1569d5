-- Keys that are told by numbers have the numbers of these.
use Rattle.std.proofs.Common.{◌≡◌, ℕ, ◌==◌, Bool, List, [], ◌∷◌, refl}
use Rattle.std.specs.Prelude.{map, All, position}
use Rattle.std.specs.List.{position_or_len}
use Rattle.std.proofs.lemmas.List.{length-map}
use Rattle.std.proofs.lemmas.List.Elements.{All-head, All-tail}
use Rattle.index_layout.specs.Numbers.{number_in}

module _ {A : Type 0} (same : A → A → Bool) (code : A → ℕ) (key : A) where
  abbrev Tells : A → Type 0
  Tells k = same key k ≡ (code key == code k)

  place : (keys : List A) → All Tells keys → position_or_len (λ n. code key == n) (map code keys) ≡ position_or_len (same key) keys
  place [] all = refl
  place (k ∷ keys) all = rw (All-head Tells k keys all, place keys (All-tail Tells k keys all)) refl

  pub by_code : (keys : List A) → All Tells keys → number_in (map code keys) (code key) ≡ position (same key) keys
  by_code keys all = rw (place keys all, length-map keys code) refl
