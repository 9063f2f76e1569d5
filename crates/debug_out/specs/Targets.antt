-- What is known of the sections of an object, by their places.
use Rattle.std.specs.Prelude.{◌≡◌, ℕ, ◌==◌, ◌<◌, Bool, false, List, [], ◌∷◌, length, slice_index_or, Option, Some, None}
use Rattle.std.specs.List.{list_any}
use Rattle.debug_rules.specs.Sections.{Custom, payloads_for}
use Rattle.debug_out.specs.declared.refs.Payloads.{Payloads}
use Rattle.debug_out.specs.declared.refs.Payloads.TheVariants.{Nothing, One, More}

-- whether the target is the section at a place
abbrev pub targets : ℕ → Option ℕ → Bool
targets at None = false
targets at (Some n) = n == at

-- what is kept of payloads; of two or more it is only that they are
abbrev pub payloads_seen : Payloads → List (List ℕ)
payloads_seen Nothing = []
payloads_seen (One p) = p.now ∷ []
payloads_seen More = [] ∷ [] ∷ []

abbrev pub two_at_most : List (List ℕ) → List (List ℕ)
two_at_most [] = []
two_at_most (p ∷ []) = p ∷ []
two_at_most (p ∷ q ∷ more) = [] ∷ [] ∷ []

-- by place, whether it is one of these
abbrev pub HasPlaces : List Bool → List ℕ → Type 0
HasPlaces table places = (at : ℕ) → slice_index_or table at false ≡ list_any (λ a. a == at) places

-- by place, what holds relocations for the section there
abbrev pub HasPayloads : List Payloads → List Custom → Type 0
HasPayloads table cs = (at : ℕ) → at < length table → payloads_seen (slice_index_or table at Nothing) ≡ two_at_most (payloads_for at cs)
