-- What holds of loaded objects: their inputs rise, and their groups have their members once and agree.
use Rattle.std.specs.Prelude.{◌≡◌, ℕ, ◌^◌, ◌<◌, true, List, [], ◌∷◌, length, IsTrue, All}
use Rattle.list_places.specs.Has.{Has}
use Rattle.name_rules.specs.object_file.linking_section.declared.group.Group.{Group}
use Rattle.name_rules.specs.object_file.declared.object.Object.{Object}
use Rattle.name_rules.specs.Entries.{has_member}
use Rattle.partial_laws.specs.Premises.{groups_among}

abbrev pub Rise : ℕ → List Object → Type 0
Rise last [] = Unit {0}
Rise last (o ∷ os) = (last < o.input) × Rise o.input os

pub record AreLoaded (objects : List Object) : Type 0 where
  pub rise : Rise 0 objects
  pub low : All (λ (o : Object). (o.input < 2 ^ 20) × (length o.symbols < 2 ^ 32)) objects
  -- no part is a member of two groups
  pub once : (o : Object) → Has objects o → (g h : Group) → Has o.groups g → Has o.groups h → (kind index : ℕ) → has_member kind index g ≡ true → has_member kind index h ≡ true → g.name ≡ h.name
  -- groups of one name define the same
  pub agree : IsTrue (groups_among objects)
