-- The relocations that are made of what a part names are those of the definition.
use Rattle.std.proofs.Common.{◌≡◌, ℕ, zero, suc, ◌<◌, List, [], ◌∷◌, map, filter_map, length, slice_get, get_or, Option, Some, None, option_map, All, inl, inr, pos, refl, sym, ap, subst, ◌∙◌, arith}
use Rattle.std.specs.Prelude.{false}
use Rattle.std.proofs.lemmas.List.Elements.{All-cons, All-head, All-tail}
use Rattle.std.proofs.lemmas.Option.{slice_get-map, same_Some, none-some, get_or_from_slice_get}
use Rattle.partial_symbols.specs.link_program.wasm_types.declared.function.FuncType.{FuncType}
use Rattle.partial_symbols.specs.link_program.object_file.Spaces.{no_type}
use Rattle.partial_symbols.specs.link_program.name_rules.Entries.{InputSymbol}
use Rattle.partial_symbols.specs.link_program.name_rules.Meanings.{Meaning}
use Rattle.partial_symbols.specs.link_program.link_rules.Program as rules
use Rattle.partial_symbols.specs.link_program.link_rules.Program.{Program, Part, Ref, TypeWindow, a_symbol, a_type, named_ref, loose_variants}
use Rattle.partial_symbols.specs.link_program.declared.symbol.Symbol.{Symbol}
use Rattle.partial_symbols.specs.link_program.declared.named.Named.{Named}
use Rattle.partial_symbols.specs.link_program.declared.named.Named.TheVariants as names
use Rattle.partial_symbols.specs.link_program.declared.program.Program.{Program as Data}
use Rattle.partial_symbols.specs.link_program.Look.{row_at}
use Rattle.partial_symbols.specs.link_program.Told.{told_symbol}
use Rattle.partial_symbols.specs.link_program.Seen.{SeenRef, SeenNamed, seen_named, told_ref, told_named, NamesOne, no_symbol}
use Rattle.partial_symbols.specs.link_program.Stand.{IsRefOf, IsVariantOf, PartStands, PartsStand}
use Rattle.partial_symbols.specs.link_program.made_symbols.declared.mode.Mode.TheVariants.{Plain}
use Rattle.partial_symbols.specs.link_program.Program.{IsProgramOf}
use Rattle.partial_symbols.specs.partial_rules.Partial as partial
use Rattle.partial_symbols.specs.Standing.{Stood}
use Rattle.partial_symbols.specs.Known.{AreStanding}
use Rattle.partial_symbols.specs.Referring.{number_for}
use Rattle.partial_symbols.proofs.Referring.{number_is}
use Rattle.partial_tree.specs.Relocs.{reloc_told}

all_at : {A : Type 0} (P : A → Type 0) (xs : List A) (i : ℕ) (x : A) → All P xs → slice_get xs i ≡ Some x → P x
all_at P [] i x all at = absurd (none-some x at)
all_at P (y ∷ xs) zero x all at = subst P (same_Some y x at) (All-head P y xs all)
all_at P (y ∷ xs) (suc i) x all at = all_at P xs i x (All-tail P y xs all) at

mapped_number : (f : FuncType → ℕ) (types : List FuncType) (n : ℕ) → n < length types → get_or (map f types) n 0 ≡ f (get_or types n no_type)
mapped_number f [] n lt = absurd (omega (arith, lt))
mapped_number f (t ∷ types) zero lt = refl
mapped_number f (t ∷ types) (suc n) lt = mapped_number f types n (omega (arith, lt))

module _ (d : Data) (p : Program) (is : IsProgramOf Plain d p) (stand : PartsStand p) (strict : p.plan.loose_calls ≡ false) (s : Stood) (are : AreStanding p d.names.now.names s)
    (numbers : List ℕ) (numbered : numbers ≡ map (partial.type_number p) d.tables.now.types) where
  abbrev symbols : List Symbol
  symbols = d.tables.now.symbols

  abbrev types : List FuncType
  types = d.tables.now.types

  abbrev told : rules.Named → SeenNamed
  told n = told_named d.names.now.names d.resolution.now.imports n

  no_variant : (e : InputSymbol) (m : Meaning) → IsVariantOf p.variants e m → ⊥
  no_variant e m of = none-some e (sym (ap (λ (vs : List InputSymbol). slice_get vs of.1) (is.variants_are ∙ ap (λ b. loose_variants b p.entries p.resolved) strict)) ∙ of.2)

  number_by : (symbol : ℕ) (ref : Ref) → IsRefOf p ref → get_or symbols symbol no_symbol ≡ told_symbol d.names.now.names d.resolution.now.imports ref.entry ref.meaning
      → number_for s symbols symbol ≡ partial.symbol_number p ref.entry
  number_by symbol ref (inl of) seen = number_is d p is strict s are symbol ref.entry ref.meaning of seen
  number_by symbol ref (inr of) seen = absurd (no_variant ref.entry ref.meaning of)

  -- one window
  one : (m : Named) (n : rules.Named) → seen_named symbols types m ≡ told n → NamesOne symbols types m → All (IsRefOf p) (filter_map named_ref (n ∷ [])) → reloc_told s symbols numbers m ≡ partial.named_reloc p n
  one (names.Symbol kind place addend symbol) (a_symbol ref) same there refs =
      let seen : SeenRef = record { place = place; kind = kind; addend = addend; symbol = get_or symbols symbol no_symbol } in
      let eq : seen ≡ told_ref d.names.now.names d.resolution.now.imports ref = cc in
      let number = number_by symbol ref (All-head (IsRefOf p) ref [] refs) (ap (λ (r : SeenRef). r.symbol) eq) in
      λ i. record { kind = (eq i).kind; offset = (eq i).place; index = number i; addend = (eq i).addend }
  one (names.Symbol kind place addend symbol) (a_type w) same there refs = absurd cc
  one (names.Type place number) (a_symbol ref) same there refs = absurd cc
  one (names.Type place number) (a_type w) same there refs =
      let at : place ≡ w.place = cc in
      let type : get_or types number no_type ≡ w.type = cc in
      let index : get_or numbers number 0 ≡ partial.type_number p w.type = ap (λ ns. get_or ns number 0) numbered ∙ (mapped_number (partial.type_number p) types number there ∙ ap (partial.type_number p) type) in
      λ i. record { kind = 6; offset = at i; index = index i; addend = pos 0 }

  first_refs : (n : rules.Named) (ns : List rules.Named) → All (IsRefOf p) (filter_map named_ref (n ∷ ns)) → All (IsRefOf p) (filter_map named_ref (n ∷ []))
  first_refs (a_symbol ref) ns all = All-cons (IsRefOf p) ref [] (All-head (IsRefOf p) ref (filter_map named_ref ns) all) (λ k d below. absurd (omega (arith, below)))
  first_refs (a_type w) ns all = λ k d below. absurd (omega (arith, below))

  other_refs : (n : rules.Named) (ns : List rules.Named) → All (IsRefOf p) (filter_map named_ref (n ∷ ns)) → All (IsRefOf p) (filter_map named_ref ns)
  other_refs (a_symbol ref) ns all = All-tail (IsRefOf p) ref (filter_map named_ref ns) all
  other_refs (a_type w) ns all = all

  row : (ms : List Named) (ns : List rules.Named) → map (seen_named symbols types) ms ≡ map told ns → All (NamesOne symbols types) ms → All (IsRefOf p) (filter_map named_ref ns)
      → map (reloc_told s symbols numbers) ms ≡ map (partial.named_reloc p) ns
  row [] [] same there refs = refl
  row [] (n ∷ ns) same there refs = absurd cc
  row (m ∷ ms) [] same there refs = absurd cc
  row (m ∷ ms) (n ∷ ns) same there refs =
      let first : seen_named symbols types m ≡ told n = cc in
      let others : map (seen_named symbols types) ms ≡ map told ns = cc in
      let h = one m n first (All-head (NamesOne symbols types) m ms there) (first_refs n ns refs) in
      let t = row ms ns others (All-tail (NamesOne symbols types) m ms there) (other_refs n ns refs) in
      λ i. h i ∷ t i

  pub part_relocs : (n : ℕ) (part : Part) → slice_get p.parts n ≡ Some part → map (reloc_told s symbols numbers) (row_at d.tables.now n) ≡ map (partial.named_reloc p) part.named
  part_relocs n part at = by (slice_get d.tables.now.named n) refl
    where
      told_row : Part → List SeenNamed
      told_row part = map told part.named

      mapped : slice_get (map (map (seen_named symbols types)) d.tables.now.named) n ≡ Some (told_row part)
      mapped = ap (λ xs. slice_get xs n) is.tables.named ∙ (slice_get-map told_row p.parts n ∙ ap (option_map told_row) at)

      by : (x : Option (List Named)) → slice_get d.tables.now.named n ≡ x → map (reloc_told s symbols numbers) (get_or d.tables.now.named n []) ≡ map (partial.named_reloc p) part.named
      by None none = absurd (none-some (told_row part) (sym (slice_get-map (map (seen_named symbols types)) d.tables.now.named n ∙ ap (option_map (map (seen_named symbols types))) none) ∙ mapped))
      by (Some ms) there =
          let same : map (seen_named symbols types) ms ≡ told_row part = same_Some (map (seen_named symbols types) ms) (told_row part) (sym (slice_get-map (map (seen_named symbols types)) d.tables.now.named n ∙ ap (option_map (map (seen_named symbols types))) there) ∙ mapped) in
          ap (map (reloc_told s symbols numbers)) (get_or_from_slice_get d.tables.now.named n ms [] there)
          ∙ row ms part.named same (all_at (λ row. All (NamesOne symbols types) row) d.tables.now.named n ms is.tables.named_there there) (all_at (PartStands p) p.parts n part stand at).refs
