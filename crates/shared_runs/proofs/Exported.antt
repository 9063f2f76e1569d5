-- The offset of an exported datum has 32 bits: it lies in a live segment.
use Rattle.std.proofs.Common.{◌≡◌, ℕ, ◌+◌, ◌<◌, ◌≤◌, ◌^◌, List, [], map, Option, Some, None, true, false, refl, sym, ap, ◌∙◌, subst, arith}
use Rattle.std.specs.Prelude.{◌==◌, ◌&&◌, zero, suc, filter, filter_map, slice_index_or}
use Rattle.std.proofs.lemmas.Bool.{eq-eqb, eqb-true, cond-true, cond-false}
use Rattle.list_places.specs.Has.{Has}
use Rattle.list_places.proofs.Lists.{by_test, has_left, pick_has, filter_has}
use Rattle.linking_section.specs.declared.symbol.SymbolKind.{SymbolKind}
use Rattle.linking_section.specs.declared.symbol.SymbolKind.TheVariants.{Function, Datum, GlobalVar, Section, Table}
use Rattle.linking_section.specs.Flags.{kind_code}
use Rattle.object_file.specs.declared.object.Object.{Object}
use Rattle.made_symbols.specs.declared.mode.Mode.TheVariants.{Shared}
use Rattle.mark_bits.specs.declared.chunk.Chunk.{Chunk}
use Rattle.live_mark.specs.Live.{ReachedLaw}
use Rattle.name_rules.specs.Entries.{InputSymbol, is_kind}
use Rattle.round_rules.specs.Rounds.{Candidate}
use Rattle.link_plan.specs.declared.plan.Plan.{Plan}
use Rattle.link_program.specs.declared.home.Home.{Home}
use Rattle.link_program.specs.Loaded.{IsLoaded}
use Rattle.program_build.specs.Standing.{LoadedPartsStand}
use Rattle.link_rules.specs.Program.{Program, Part, same_chunk, chunk_at, chunk_of, chunk_by, program_of}
use Rattle.link_rules.specs.Marks.{live, roots}
use Rattle.link_rules.specs.Values.{Layout, segment_address, address_of}
use Rattle.link_rules.specs.Output.{layout}
use Rattle.link_rules.specs.LinkOf.{memory_fault}
use Rattle.link_worlds.specs.Sound.{same_part}
use Rattle.link_worlds.proofs.Keys.{chunk_itself}
use Rattle.link_worlds.proofs.Live.{live_part, live_root}
use Rattle.link_worlds.proofs.Functions.{picks_apart}
use Rattle.shared_laws.specs.Linked.{LiesInPart, SharedStands}
use Rattle.shared_laws.proofs.Places.{one_item}
use Rattle.shared_laws.proofs.Solid.{turned_chunk, segment_lies, end_small}
use Rattle.shared_laws.proofs.Programs.{of_entry, datum_lies}
use Rattle.shared_types.specs.Linked.{SharedLinkedBy}
use Rattle.shared_runs.specs.Links.{ExportsDefine}

datum_chunk : (e : InputSymbol) → is_kind Datum e ≡ true → (e.input == 0) ≡ false → chunk_of e ≡ Some (chunk_at e.input 1 e.index)
datum_chunk e d z = by_kind e.symbol.kind d
  where
    by_kind : (k : SymbolKind) → (kind_code k == kind_code Datum) ≡ true → chunk_by e k ≡ Some (chunk_at e.input 1 e.index)
    by_kind Function h = absurd (grind arith)
    by_kind Datum h = cond-false (e.input == 0) None (Some (chunk_at e.input 1 e.index)) z
    by_kind GlobalVar h = absurd (grind arith)
    by_kind Section h = absurd (grind arith)
    by_kind Table h = absurd (grind arith)

-- no linker-made datum has an offset but 0
nothing_there : (k : ℕ) → slice_index_or {A = ℕ} [] k 0 ≡ 0
nothing_there zero = refl
nothing_there (suc k) = refl

module _ (law : ReachedLaw) (p : Program) (exports : List InputSymbol) (s : SharedStands p) (fault : memory_fault Shared p (live p exports) ≡ None) where
  abbrev lay : Layout
  lay = layout Shared p (live p exports) exports

  module _ (e : InputSymbol) (h : Has exports e) (d : is_kind Datum e ≡ true) where
    of_linker : (e.input == 0) ≡ true → address_of Shared lay e < 2 ^ 32
    of_linker t =
        let none : address_of Shared lay e ≡ 0 = cond-true (e.input == 0) (slice_index_or {A = ℕ} [] e.place 0) (segment_address lay (chunk_at e.input 1 e.index) + e.symbol.offset) t ∙ nothing_there e.place in
        omega (arith, none)

    pub in_segment : (e.input == 0) ≡ false → LiesInPart p e → address_of Shared lay e < 2 ^ 32
    in_segment t i =
        let c = chunk_at e.input 1 e.index in
        let apart = picks_apart p exports s.apart in
        let first = pick_has chunk_of exports e c h (datum_chunk e d t) in
        let l = live_root law p exports c (has_left _ _ c (has_left _ _ c (has_left (filter_map chunk_of exports) _ c first))) (record { part = i.part; there = i.there; chunk = i.chunk }) in
        let same : same_part i.part l.part ≡ true = ap (λ d. same_chunk d l.part.chunk) (i.chunk ∙ sym l.chunk) ∙ chunk_itself l.part.chunk in
        let j = one_item same_part (λ x y t. turned_chunk x.chunk y.chunk t) p.parts s.apart i.part l.part i.there (live_part p exports l.part l.there) same in
        let kind : (l.part.chunk.kind == 1) ≡ true = eq-eqb l.part.chunk.kind 1 (ap (λ (c : Chunk). c.kind) l.chunk) in
        let lies = segment_lies p exports apart l.part (filter_has (λ (x : Part). x.chunk.kind == 1) (live p exports) l.part l.there kind) in
        let inside : e.symbol.offset ≤ l.part.source.span.len = subst (λ (q : Part). e.symbol.offset ≤ q.source.span.len) j i.inside in
        let place : segment_address lay l.part.chunk ≡ segment_address lay c = ap (segment_address lay) l.chunk in
        let end = end_small p exports apart fault in
        let is : address_of Shared lay e ≡ segment_address lay c + e.symbol.offset = cond-false (e.input == 0) (slice_index_or {A = ℕ} [] e.place 0) (segment_address lay c + e.symbol.offset) t in
        omega (arith, lies, inside, place, end, is)

    pub fits_by : ((e.input ≡ 0 → ⊥) → LiesInPart p e) → address_of Shared lay e < 2 ^ 32
    fits_by f = by_test (e.input == 0) of_linker (λ t. in_segment t (f (λ z. no_both (eq-eqb e.input 0 z) t)))
      where
        no_both : (e.input == 0) ≡ true → (e.input == 0) ≡ false → ⊥
        no_both a b = absurd (let q : true ≡ false = sym a ∙ b in grind arith)

pub exports_fit : ReachedLaw → (stand : LoadedPartsStand) (plan : Plan) (files : List (List ℕ)) (all : List Candidate) (objects : List Object) (homes : List Home) (loaded : IsLoaded files all objects homes) (exports : List InputSymbol)
    → SharedStands (program_of Shared plan files all objects) → memory_fault Shared (program_of Shared plan files all objects) (live (program_of Shared plan files all objects) exports) ≡ None
    → SharedLinkedBy (program_of Shared plan files all objects) exports → ExportsDefine exports
    → (e : InputSymbol) → Has exports e → is_kind Datum e ≡ true → address_of Shared (layout Shared (program_of Shared plan files all objects) (live (program_of Shared plan files all objects) exports) exports) e < 2 ^ 32
unfolding program_of
exports_fit law stand plan files all objects homes loaded exports s fault lk define e h d =
    fits_by law (program_of Shared plan files all objects) exports s fault e h d
    (λ z. datum_lies stand plan files all objects homes loaded e (of_entry stand plan files all objects homes loaded e (lk.entries.exported e h) z) (define e h) d)
