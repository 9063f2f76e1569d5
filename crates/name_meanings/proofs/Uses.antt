-- What is used of names is what the definition of meanings asks.
use Rattle.std.proofs.Common.{◌≡◌, ℕ, Bool, ◌&&◌, ◌∙◌, List, [], ◌∷◌, ◌++◌, refl, ap, subst, sym}
use Rattle.std.specs.Prelude.{filter, flat_map}
use Rattle.std.proofs.lemmas.List.Elements.{filter-append}
use Rattle.name_entries.specs.wl_base.Choice.{has_name}
use Rattle.name_entries.specs.object_file.declared.object.Object.{Object}
use Rattle.name_entries.specs.made_symbols.declared.mode.Mode.{Mode}
use Rattle.name_entries.specs.made_symbols.declared.mode.Mode.TheVariants.{Plain, Shared}
use Rattle.name_entries.specs.name_rules.Meanings.{Use, Uses, uses_of, uses_in, uses_split}
use Rattle.name_uses.specs.declared.found.NameUses.{NameUses}
use Rattle.name_uses.specs.Meant.{counted, uses_at, all_uses, AreUsesOf}
use Rattle.name_meanings.specs.Known.{AreUses}

pub none_asked : (mode : Mode) (names : List (List ℕ)) (objects : List Object) → mode ≡ Plain → AreUses mode names objects []
none_asked mode names objects plain = subst (λ m. AreUses m names objects []) (sym plain) (record { called = λ i name at. refl; addressed = λ i name at. refl })

counted_all : (objects os : List Object) → counted (flat_map (uses_at objects) os) ≡ flat_map (uses_in objects) os
counted_all objects [] = refl
counted_all objects (o ∷ os) = filter-append _ (uses_at objects o) (flat_map (uses_at objects) os) ∙ ap (λ us. uses_in objects o ++ us) (counted_all objects os)

uses_are : (objects : List Object) → all_uses objects ≡ uses_of Shared objects
uses_are objects = ap uses_split (counted_all objects objects)

pub all_asked : (mode : Mode) (names : List (List ℕ)) (objects : List Object) (columns : List NameUses) → mode ≡ Shared → AreUsesOf names objects columns → AreUses mode names objects columns
all_asked mode names objects columns shared are = subst (λ m. AreUses m names objects columns) (sym shared) (record {
  called = λ i name at. are.called i name at ∙ ap (λ (u : Uses). has_name u.called name) (uses_are objects);
  addressed = λ i name at. are.addressed i name at ∙ ap (λ (u : Uses). has_name u.addressed name) (uses_are objects);
})
