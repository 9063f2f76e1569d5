-- Names as they are lent.
use Rattle.std.proofs.Common.{◌≡◌, ℕ, List, [], ◌∷◌, ◌++◌, length, map, flat_map, refl, ap, sym, ◌∙◌}
use Rattle.std.specs.Prelude.{if◌then◌else◌}
use Rattle.std.proofs.lemmas.Bool.{ne_eqb}
use Rattle.std.proofs.lemmas.List.{length-map}
use Rattle.leb_codec.specs.Shortest.{u32}
use Rattle.image_emit.specs.Bytes.{vector}
use Rattle.name_section.specs.declared.name.FunctionName.{FunctionName}
use Rattle.name_section.specs.Names.{Named, named_seen, association, name_map, whole_section, name_section}

each_is : (names : List FunctionName) → flat_map (λ n. association (named_seen n)) names ≡ flat_map association (map named_seen names)
each_is [] = refl
each_is (n ∷ names) = ap (λ bytes. association (named_seen n) ++ bytes) (each_is names)

pub map_is : (names : List FunctionName) → vector (λ n. association (named_seen n)) names ≡ name_map (map named_seen names)
map_is names = ap (λ n. u32 n ++ flat_map (λ n. association (named_seen n)) names) (sym (length-map {A = FunctionName} {B = Named} names named_seen)) ∙ ap (λ bytes. u32 (length (map named_seen names)) ++ bytes) (each_is names)

pub none_are : (names : List FunctionName) → length names ≡ 0 → name_section (map named_seen names) ≡ []
unfolding name_section
none_are [] e = refl
none_are (n ∷ names) e = absurd cc

pub some_are : (names : List FunctionName) → (length names ≡ 0 → ⊥) → name_section (map named_seen names) ≡ whole_section (map named_seen names)
unfolding name_section
some_are [] some = absurd (some refl)
some_are (n ∷ names) some =
    let none : List ℕ = [] in
    ap (λ b. if b then none else whole_section (map named_seen (n ∷ names))) (ne_eqb (length (map named_seen (n ∷ names))) 0 (λ e. absurd cc))
