-- Two programs that are one but for places give the same output.
use Rattle.std.proofs.Common.{◌≡◌, ℕ, suc, ◌+◌, Bool, true, false, List, [], ◌∷◌, refl, arith}
use Rattle.std.specs.Prelude.{if◌then◌else◌, None, Ok, All}
use Rattle.std.proofs.lemmas.List.Elements.{All-head, All-tail, All-cons}
use Rattle.object_file.specs.wl_base.Choice.{unless, ◌>>=◌}
use Rattle.made_symbols.specs.declared.mode.Mode.TheVariants.{Plain}
use Rattle.name_rules.specs.Entries.{InputSymbol}
use Rattle.mark_bits.specs.declared.chunk.Chunk.{Chunk}
use Rattle.live_mark.specs.Live.{ReachedLaw, reached, is_among}
use Rattle.link_rules.specs.Program.{Program, Part}
use Rattle.link_rules.specs.Marks.{exported, repeated_export, targets, root_places, picked, live, unresolved, uncalled, pic_fault}
use Rattle.link_rules.specs.LinkOf.{laid_out, marked, exporting}
use Rattle.partial_rules.specs.Alike.{In, AlikePrograms, LiveMeant}
use Rattle.partial_rules.specs.Moving.{Moving, IsMoving, AlikeParts, AlikeStage}
use Rattle.partial_rules.proofs.AlikeReach.{live_alike}
use Rattle.partial_rules.proofs.AlikeRooted.{roots_alike}
use Rattle.partial_rules.proofs.AlikeExports.{exports_are, exports_held, export_names, repeats_alike, resolved_alike}
use Rattle.partial_rules.proofs.AlikeLinks.{laid_out_alike}
use Rattle.partial_rules.proofs.AlikeLaidOut.{no_fault, goes_on}

-- ---- what is live is of the program

among_more : {A : Type 0} (x : A) (xs ys : List A) → All (λ y. In y xs) ys → All (λ y. In y (x ∷ xs)) ys
among_more x xs [] all = λ k d below. absurd (omega (arith, below))
among_more x xs (y ∷ ys) all =
    let i = All-head (λ z. In z xs) y ys all in
    All-cons (λ z. In z (x ∷ xs)) y ys (suc i.0, i.1) (among_more x xs ys (All-tail (λ z. In z xs) y ys all))

picked_among : (marked : List ℕ) (at : ℕ) (xs : List Part) → All (λ x. In x xs) (picked marked at xs)
picked_among marked at [] = λ k d below. absurd (omega (arith, below))
picked_among marked at (x ∷ xs) = by_mark (is_among marked at) (among_more x xs (picked marked (at + 1) xs) (picked_among marked (at + 1) xs))
  where
    by_mark : (b : Bool) → All (λ y. In y (x ∷ xs)) (picked marked (at + 1) xs) → All (λ y. In y (x ∷ xs)) (if b then x ∷ picked marked (at + 1) xs else picked marked (at + 1) xs)
    by_mark true rest = All-cons (λ y. In y (x ∷ xs)) x (picked marked (at + 1) xs) (0, refl) rest
    by_mark false rest = rest

live_among : (p : Program) (exports : List InputSymbol) → All (λ x. In x p.parts) (live p exports)
unfolding live
live_among p exports = picked_among (reached (targets p) (root_places p exports)) 0 p.parts

module _ (m : Moving) (C : Chunk → Type 0) (K : InputSymbol → Type 0) (is : IsMoving m C K) (p q : Program) where
  pub exporting_alike : ReachedLaw → AlikePrograms m C K p q → LiveMeant p → (bytes : List ℕ) → exporting Plain p (exported Plain p) ≡ Ok bytes → exporting Plain q (exported Plain q) ≡ Ok bytes
  unfolding marked pic_fault
  exporting_alike law s meant bytes e =
      let ep : List InputSymbol = exported Plain p in
      let eq : List InputSymbol = exported Plain q in
      let xs : List Part = live p ep in
      let ys : List Part = live q eq in
      let rooted = roots_alike m C K is p q s.parts s.one_place s.one_place_too s.there s.words s.winners s.gc in
      let parts : AlikeParts m C K p q xs ys = live_alike m C K is p q s.parts s.one_place s.one_place_too s.there ep eq rooted law in
      let stage : AlikeStage m C K p q xs ys ep eq = record {
        rules = s.rules;
        imports = s.imports;
        parts = parts;
        exports_are = exports_are m C K is p q s.words s.winners;
        exports_held = exports_held m C K is p q s.words s.winners;
        export_names = export_names m C K is p q s.words s.winners;
        imported = s.words.memory;
        most = s.most;
        stubs = s.stubs xs ys (live_among p ep) parts;
        stub_types = s.stub_types xs;
      } in
      let a = no_fault m C K is p q xs ys ep eq stage (repeated_export Plain p ep) ep (λ es. marked Plain p es) bytes e in
      let b = no_fault m C K is p q xs ys ep eq stage None xs (λ us. unless (unresolved p us) us >>= λ vs. unless (uncalled Plain p vs) vs >>= λ ws. laid_out Plain p ep ws) bytes a.1 in
      let c = no_fault m C K is p q xs ys ep eq stage (unresolved p xs) xs (λ us. unless (uncalled Plain p us) us >>= λ vs. laid_out Plain p ep vs) bytes b.1 in
      let d = no_fault m C K is p q xs ys ep eq stage (uncalled Plain p xs) xs (λ us. laid_out Plain p ep us) bytes c.1 in
      let out : laid_out Plain q eq ys ≡ Ok bytes = laid_out_alike m C K is p q xs ys ep eq stage bytes d.1 in
      let settled : unresolved q ys ≡ None = resolved_alike m C K is p q s.words s.winners xs ys parts meant c.0 in
      goes_on m C K is p q xs ys ep eq stage (repeated_export Plain q eq) eq (λ es. marked Plain q es) bytes (repeats_alike m C K is p q s.words s.winners a.0)
      (goes_on m C K is p q xs ys ep eq stage None ys (λ us. unless (unresolved q us) us >>= λ vs. unless (uncalled Plain q vs) vs >>= λ ws. laid_out Plain q eq ws) bytes refl
      (goes_on m C K is p q xs ys ep eq stage (unresolved q ys) ys (λ us. unless (uncalled Plain q us) us >>= λ vs. laid_out Plain q eq vs) bytes settled
      (goes_on m C K is p q xs ys ep eq stage (uncalled Plain q ys) ys (λ us. laid_out Plain q eq us) bytes (s.kept_calls xs ys parts d.0) out)))
