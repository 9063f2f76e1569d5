-- One part more of an option of several values.
use Rattle.std.proofs.Common.{◌≡◌, ◌++◌, ℕ, List, ◌∷◌, [], map, ap, sym, ◌∙◌, append_assoc}
use Rattle.std.specs.List.{filter}
use Rattle.std.proofs.lemmas.List.{map-append}
use Rattle.std.proofs.lemmas.List.Elements.{filter-append}
use Rattle.driver_fields.specs.Sections.{is_value}

pub part_more : {A : Type 0} (view : A → List ℕ) (parts : List A) (part : A) (start names new : List (List ℕ)) → names ≡ start ++ filter is_value (map view parts)
    → new ≡ names ++ filter is_value (view part ∷ []) → new ≡ start ++ filter is_value (map view (parts ++ part ∷ []))
part_more view parts part start names new so_far put =
    let one = filter is_value (view part ∷ []) in
    let front = filter is_value (map view parts) in
    put ∙ ap (λ (ns : List (List ℕ)). ns ++ one) so_far ∙ append_assoc start front one
    ∙ ap (λ (ns : List (List ℕ)). start ++ ns) (sym (ap (filter is_value) (map-append view parts (part ∷ [])) ∙ filter-append is_value (map view parts) (view part ∷ [])))
