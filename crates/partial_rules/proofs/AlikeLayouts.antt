-- The layouts of two programs that are one but for places.
use Rattle.std.proofs.Common.{◌≡◌, ℕ, Bool, List, map, refl, sym, ap, ◌∙◌}
use Rattle.std.specs.Prelude.{All}
use Rattle.made_symbols.specs.declared.mode.Mode.TheVariants.{Plain}
use Rattle.name_rules.specs.Entries.{InputSymbol}
use Rattle.mark_bits.specs.declared.chunk.Chunk.{Chunk}
use Rattle.memory_layout.specs.declared.rules.SegmentShape.{SegmentShape}
use Rattle.memory_layout.specs.Memory.{places}
use Rattle.link_rules.specs.Program.{Program, Part}
use Rattle.link_rules.specs.Keys.{FunctionKey, parts_of_kind, functions, slots, types}
use Rattle.link_rules.specs.Values.{shape_of, shapes, rules_of, content_align, is_zero}
use Rattle.link_rules.specs.Output.{layout}
use Rattle.partial_rules.specs.Moving.{Moving, IsMoving, moved_function, AlikePart, AlikeParts, AlikeStage}
use Rattle.partial_rules.proofs.Lists.{zip_map, zip_first, map_map, map_all, filter_all}
use Rattle.partial_rules.proofs.AlikeKeys.{KnowsFunction}
use Rattle.partial_rules.proofs.AlikeNumbers.{functions_alike, functions_known}
use Rattle.partial_rules.proofs.AlikeSlots.{slots_alike}
use Rattle.partial_rules.proofs.AlikeGlobals.{globals_alike, globals_known}
use Rattle.partial_rules.proofs.AlikeTypes.{types_alike}
use Rattle.partial_rules.proofs.AlikeWindows.{AlikeLayout}

module _ (m : Moving) (C : Chunk → Type 0) (K : InputSymbol → Type 0) (is : IsMoving m C K) (p q : Program) where
  shape_alike : (x y : Part) → AlikePart m C K p q x y → shape_of q y ≡ shape_of p x
  shape_alike x y a =
      ap (λ (n : ℕ). shape n (content_align y.content) (is_zero q y)) a.len
      ∙ (ap (λ (n : ℕ). shape x.source.span.len n (is_zero q y)) a.content.align ∙ ap (shape x.source.span.len (content_align x.content)) a.zero)
    where
      shape : ℕ → ℕ → Bool → SegmentShape
      shape len align zero = record { len = len; align = align; zero = zero }

  pub shapes_alike : (xs ys : List Part) → AlikeParts m C K p q xs ys → shapes q ys ≡ shapes p xs
  unfolding shapes
  shapes_alike xs ys alike = zip_map (AlikePart m C K p q) (shape_of p) (shape_of q) shape_alike (parts_of_kind 1 xs) (parts_of_kind 1 ys) alike.segments

  slots_known : (xs : List Part) (fs : List FunctionKey) → All (KnowsFunction m C K is) fs → All (KnowsFunction m C K is) (slots Plain xs fs)
  unfolding slots
  slots_known xs fs known = filter_all (KnowsFunction m C K is) _ fs known

  pub layouts_alike : (xs ys : List Part) (ep eq : List InputSymbol) → AlikeStage m C K p q xs ys ep eq → AlikeLayout m C K is (layout Plain p xs ep) (layout Plain q ys eq)
  unfolding layout
  layouts_alike xs ys ep eq s =
      let fs : List FunctionKey = functions Plain p xs in
      let gs : List FunctionKey = functions Plain q ys in
      let fs_are : gs ≡ map (moved_function m) fs = functions_alike m C K is p q xs ys ep eq s in
      let known : All (KnowsFunction m C K is) fs = functions_known m C K is p q xs ys s.parts in
      record {
        segments = zip_map (AlikePart m C K p q) (λ (x : Part). m.chunk x.chunk) (λ (y : Part). y.chunk) (λ x y a. a.chunk) (parts_of_kind 1 xs) (parts_of_kind 1 ys) s.parts.segments
            ∙ sym (map_map (λ (x : Part). x.chunk) m.chunk (parts_of_kind 1 xs));
        held = map_all (λ (x : Part). C x.chunk) C (λ (x : Part). x.chunk) (λ x c. c) (parts_of_kind 1 xs)
            (zip_first (AlikePart m C K p q) (λ (x : Part). C x.chunk) (λ x y a. a.held) (parts_of_kind 1 xs) (parts_of_kind 1 ys) s.parts.segments);
        places = ap (λ rules. places rules (shapes q ys)) s.rules ∙ ap (places (rules_of Plain p.plan)) (shapes_alike xs ys s.parts);
        functions = fs_are;
        functions_known = known;
        slots = ap (slots Plain ys) fs_are ∙ slots_alike m C K is p q xs ys fs s.parts known;
        slots_known = slots_known xs fs known;
        first = refl;
        globals = globals_alike m C K is p q xs ys ep eq s;
        globals_known = globals_known m C K is p q xs ys ep eq s;
        types = ap (types q ys) fs_are ∙ types_alike m C K is p q xs ys ep eq s;
      }
