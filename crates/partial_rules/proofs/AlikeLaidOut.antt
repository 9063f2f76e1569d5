-- From live parts to bytes: what is laid out of two programs that are one but for places is the same.
use Rattle.std.proofs.Common.{◌≡◌, ℕ, List, ◌++◌, map, refl, ap, ◌∙◌}
use Rattle.std.specs.Prelude.{Option, Some, None, option_map, All, Result, Ok, pos}
use Rattle.object_file.specs.wl_base.Choice.{unless, ◌>>=◌}
use Rattle.object_file.specs.wl_base.declared.fault.Fault.{Fault}
use Rattle.object_file.specs.wl_base.declared.fault.Fault.TheVariants.{Overflow}
use Rattle.object_file.specs.wl_base.declared.fault.What.TheVariants.{TableSize}
use Rattle.table_layout.specs.Slots.{table_overflow}
use Rattle.made_symbols.specs.declared.mode.Mode.TheVariants.{Plain}
use Rattle.name_rules.specs.Entries.{InputSymbol}
use Rattle.mark_bits.specs.declared.chunk.Chunk.{Chunk}
use Rattle.memory_layout.specs.Memory.{memory_overflow}
use Rattle.reloc_apply.specs.declared.window.Window.{Window}
use Rattle.image_emit.specs.declared.tree.Image.{Image}
use Rattle.link_rules.specs.Program.{Program, Part}
use Rattle.link_rules.specs.Keys.{FunctionKey, outside, linker_function, stub, own}
use Rattle.link_rules.specs.Values.{Layout, rules_of, shapes, solid_segments, windows}
use Rattle.link_rules.specs.Output.{layout, image, source_windows, defined, windows_in, body_windows}
use Rattle.link_rules.specs.LinkOf.{memory_fault, passed_fault, table_fault, output_fault, reference_fault, output_bytes, written, placed, laid_out}
use Rattle.partial_rules.specs.Moving.{Moving, IsMoving, moved_function, AlikePart, AlikeStage}
use Rattle.partial_rules.proofs.Lists.{map_map, map_where, zip_map}
use Rattle.partial_rules.proofs.AlikeTypes.{IsTyped}
use Rattle.partial_rules.proofs.AlikeWindows.{AlikeLayout, windows_alike}
use Rattle.partial_rules.proofs.AlikeLayouts.{shapes_alike, layouts_alike}
use Rattle.partial_rules.proofs.AlikeSections.{defined_alike, count_same, IsGlobalKnown}
use Rattle.partial_rules.proofs.AlikeSources.{IsBody, found_alike, solid_alike}
use Rattle.partial_rules.proofs.AlikeOutput.{outputs_same}

module _ (m : Moving) (C : Chunk → Type 0) (K : InputSymbol → Type 0) (is : IsMoving m C K) (p q : Program) (xs ys : List Part) (ep eq : List InputSymbol) (s : AlikeStage m C K p q xs ys ep eq) where
  pub memory_fault_same : memory_fault Plain q ys ≡ memory_fault Plain p xs
  unfolding memory_fault
  memory_fault_same =
      ap (λ rules. option_map passed_fault (memory_overflow rules (shapes q ys))) s.rules
      ∙ ap (λ sh. option_map passed_fault (memory_overflow (rules_of Plain p.plan) sh)) (shapes_alike m C K is p q xs ys s.parts)

  module _ (l o : Layout) (t : AlikeLayout m C K is l o) where
    pub table_fault_same : table_fault o ≡ table_fault l
    unfolding table_fault
    table_fault_same = λ i. option_map (λ n. Overflow TableSize (pos n)) (table_overflow (t.first i) (count_same m C K is p q xs ys ep eq l o s t i))

    body_windows_alike : (f : FunctionKey) → IsBody m C K is p q xs ys ep eq l o s t f → body_windows Plain q ys eq o (moved_function m f) ≡ body_windows Plain p xs ep l f
    body_windows_alike (outside k) known = refl
    body_windows_alike (linker_function n) known = refl
    body_windows_alike (stub name) known = refl
    body_windows_alike (own input index) held =
        found_alike m C K is p q xs ys ep eq l o s t input index held (windows_in Plain p xs ep l) (windows_in Plain q ys eq o) refl (λ x y a at. windows_alike m C K is l o t p q x y a)

    pub source_windows_same : All (IsBody m C K is p q xs ys ep eq l o s t) (defined Plain p xs ep l) → source_windows Plain q ys eq o ≡ source_windows Plain p xs ep l
    unfolding source_windows
    source_windows_same known =
        let bodies : map (body_windows Plain q ys eq o) (defined Plain q ys eq o) ≡ map (body_windows Plain p xs ep l) (defined Plain p xs ep l) =
        ap (map (body_windows Plain q ys eq o)) (defined_alike m C K is p q xs ys ep eq l o s t)
        ∙ (map_map (moved_function m) (body_windows Plain q ys eq o) (defined Plain p xs ep l)
        ∙ map_where (λ f. body_windows Plain q ys eq o (moved_function m f)) (body_windows Plain p xs ep l) (IsBody m C K is p q xs ys ep eq l o s t) body_windows_alike (defined Plain p xs ep l) known) in
        let blocks : map (windows Plain o) (solid_segments q ys) ≡ map (windows Plain l) (solid_segments p xs) =
        zip_map (AlikePart m C K p q) (windows Plain l) (windows Plain o) (λ x y a. windows_alike m C K is l o t p q x y a) (solid_segments p xs) (solid_segments q ys) (solid_alike m C K is p q xs ys ep eq l o s t) in
        λ i. bodies i ++ blocks i

  -- ---- step by step

  pub no_fault : {A : Type 0} (fault : Option Fault) (a : A) (next : A → Result (List ℕ) Fault) (bytes : List ℕ) → (unless fault a >>= next) ≡ Ok bytes → (fault ≡ None) × (next a ≡ Ok bytes)
  no_fault None a next bytes e = (refl, e)
  no_fault (Some f) a next bytes e = absurd cc

  pub goes_on : {A : Type 0} (fault : Option Fault) (a : A) (next : A → Result (List ℕ) Fault) (bytes : List ℕ) → fault ≡ None → next a ≡ Ok bytes → (unless fault a >>= next) ≡ Ok bytes
  goes_on None a next bytes none e = e
  goes_on (Some f) a next bytes none e = absurd cc

  -- What is laid out of the other program is the same, where its length is no fault either.
  pub laid_out_same : (bytes : List ℕ) → laid_out Plain p ep xs ≡ Ok bytes
      → (let l : Layout = layout Plain p xs ep in let o : Layout = layout Plain q ys eq in let t : AlikeLayout m C K is l o = layouts_alike m C K is p q xs ys ep eq s in
      All (IsTyped m C K is p q) (defined Plain p xs ep l) → All (IsGlobalKnown m C K is p q xs ys ep eq l o s t) l.numbers.globals → All (IsBody m C K is p q xs ys ep eq l o s t) (defined Plain p xs ep l)
      → (output_fault p (image Plain p xs ep l) ≡ None → output_fault q (image Plain q ys eq o) ≡ None) → laid_out Plain q eq ys ≡ Ok bytes)
  unfolding laid_out written
  laid_out_same bytes e typed known bodies short =
      let l : Layout = layout Plain p xs ep in
      let o : Layout = layout Plain q ys eq in
      let t : AlikeLayout m C K is l o = layouts_alike m C K is p q xs ys ep eq s in
      let a = no_fault (memory_fault Plain p xs) xs (λ parts. placed Plain p ep parts (layout Plain p parts ep)) bytes e in
      let b = no_fault (table_fault l) l (λ z. written Plain p (image Plain p xs ep z) (source_windows Plain p xs ep z)) bytes a.1 in
      let i : Image = image Plain p xs ep l in
      let ws : List (List Window) = source_windows Plain p xs ep l in
      let c = no_fault (output_fault p i) i (λ im. unless (reference_fault ws) ws >>= λ wss. Ok (output_bytes Plain p im wss)) bytes b.1 in
      let d = no_fault (reference_fault ws) ws (λ wss. Ok (output_bytes Plain p i wss)) bytes c.1 in
      let same : source_windows Plain q ys eq o ≡ ws = source_windows_same l o t bodies in
      let out : output_bytes Plain q (image Plain q ys eq o) (source_windows Plain q ys eq o) ≡ output_bytes Plain p i ws = outputs_same m C K is p q xs ys ep eq l o s t typed known bodies in
      goes_on (memory_fault Plain q ys) ys (λ parts. placed Plain q eq parts (layout Plain q parts eq)) bytes (memory_fault_same ∙ a.0)
      (goes_on (table_fault o) o (λ z. written Plain q (image Plain q ys eq z) (source_windows Plain q ys eq z)) bytes (table_fault_same l o t ∙ b.0)
      (goes_on (output_fault q (image Plain q ys eq o)) (image Plain q ys eq o) (λ im. unless (reference_fault (source_windows Plain q ys eq o)) (source_windows Plain q ys eq o) >>= λ wss. Ok (output_bytes Plain q im wss)) bytes (short c.0)
      (goes_on (reference_fault (source_windows Plain q ys eq o)) (source_windows Plain q ys eq o) (λ wss. Ok (output_bytes Plain q (image Plain q ys eq o) wss)) bytes (ap reference_fault same ∙ d.0)
      (ap (λ (bs : List ℕ). Ok bs) out ∙ d.1))))
