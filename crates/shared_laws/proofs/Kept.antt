-- No two parts of the program of loaded objects have one chunk.
use Rattle.std.proofs.Common.{◌≡◌, ℕ, ◌+◌, ◌<◌, ◌≤◌, List, [], ◌∷◌, ◌++◌, Option, Some, None, sym, ap, ◌∙◌, arith}
use Rattle.std.specs.Prelude.{option_map}
use Rattle.list_places.specs.Has.{Apart}
use Rattle.list_places.proofs.Lists.{apart_append}
use Rattle.mark_bits.specs.declared.chunk.Chunk.{Chunk}
use Rattle.made_symbols.specs.Made.{MadeSymbol, made}
use Rattle.made_symbols.specs.declared.mode.Mode.TheVariants.{Shared}
use Rattle.object_file.specs.declared.object.Object.{Object}
use Rattle.name_rules.specs.Meanings.{Resolved}
use Rattle.round_rules.specs.Rounds.{Candidate}
use Rattle.program_build.specs.link_program.name_entries.View.{InputsRise}
use Rattle.link_rules.specs.Program.{Part, Ref, option_onto, parts_in, made_kind, made_parts_from}
use Rattle.link_facts.specs.link_worlds.Sound.{same_part}
use Rattle.link_facts.proofs.link_worlds_lemmas.Keys.{chunk_equal}
use Rattle.link_facts.proofs.Symbols.{above, positive}
use Rattle.link_facts.proofs.Parts.{made_as, made_behind, own_apart, object_parts, of_some_object, input_of}

made_apart : (calls : List Ref) (place : ℕ) (ms : List MadeSymbol) → Apart same_part (made_parts_from calls place ms)
made_apart calls place [] = tt
made_apart calls place (m ∷ ms) = onto (made_kind m.kind) (made_apart calls (place + 1) ms)
  where
    onto : (o : Option ℕ) → Apart same_part (made_parts_from calls (place + 1) ms) → Apart same_part (option_onto (option_map (made_as calls place m) o) (made_parts_from calls (place + 1) ms))
    onto None a = a
    onto (Some kind) a = (
      λ y h t.
          let q : place + 1 ≤ y.chunk.index = (made_behind calls (place + 1) ms y h).1 in
          let z : place ≡ y.chunk.index = ap (λ (z : Chunk). z.index) (chunk_equal (made_as calls place m kind).chunk y.chunk t) in
          omega (arith, q, z),
      a,
    )

module _ (all : List Candidate) (objects : List Object) (res : Object → Resolved) (same : (o : Object) → (res o).object ≡ o) (calls : List Ref) where
  abbrev in_objects : List Object → List Part
  in_objects os = object_parts all objects res same calls os

  objects_apart : (last : ℕ) (os : List Object) → InputsRise last os → Apart same_part (in_objects os)
  objects_apart last [] rise = tt
  objects_apart last (o ∷ os) rise =
      apart_append same_part (parts_in all objects (res o)) (in_objects os) (own_apart all objects (res o)) (objects_apart o.input os rise.2)
      (λ x y h k t.
      let a = input_of all objects res same calls o x h in
      let j = of_some_object all objects res same calls os y k in
      let b = input_of all objects res same calls j.0 y j.2 in
      let c : x.chunk.input ≡ y.chunk.input = ap (λ (z : Chunk). z.input) (chunk_equal x.chunk y.chunk t) in
      let q : o.input < j.0.input = above o.input os rise.2 j.0 j.1 in
      omega (arith, a, b, c, q))

  pub parts_apart : InputsRise 0 objects → Apart same_part (made_parts_from calls 0 (made Shared) ++ in_objects objects)
  parts_apart rise =
      apart_append same_part (made_parts_from calls 0 (made Shared)) (in_objects objects) (made_apart calls 0 (made Shared)) (objects_apart 0 objects rise)
      (λ x y h k t.
      let a = (made_behind calls 0 (made Shared) x h).2 in
      let j = of_some_object all objects res same calls objects y k in
      let b = input_of all objects res same calls j.0 y j.2 in
      let c : x.chunk.input ≡ y.chunk.input = ap (λ (z : Chunk). z.input) (chunk_equal x.chunk y.chunk t) in
      positive objects rise j.0 j.1 (sym b ∙ sym c ∙ a))
