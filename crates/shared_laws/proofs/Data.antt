-- Data that live parts refer to stand in live segments, and what cells are made for.
use Rattle.std.proofs.Common.{◌≡◌, ℕ, ◌≤◌, List, [], map, Option, Some, None, true, sym, ap, ◌∙◌, subst, ⊎_elim, arith}
use Rattle.std.specs.Prelude.{◌==◌, filter}
use Rattle.std.proofs.lemmas.Bool.{eqb-true, eq-eqb, cond-false}
use Rattle.list_places.specs.Has.{Has, Apart}
use Rattle.list_places.proofs.Lists.{by_test, has_filter, filter_has, has_map, pick_has, has_flat, distinct_only}
use Rattle.linking_section.specs.declared.symbol.SymbolKind.{SymbolKind}
use Rattle.linking_section.specs.declared.symbol.SymbolKind.TheVariants.{Function, Datum, GlobalVar, Section, Table}
use Rattle.linking_section.specs.Flags.{kind_code}
use Rattle.made_symbols.specs.declared.mode.Mode.TheVariants.{Shared}
use Rattle.mark_bits.specs.declared.chunk.Chunk.{Chunk}
use Rattle.live_mark.specs.Live.{ReachedLaw}
use Rattle.name_rules.specs.Entries.{InputSymbol, is_kind}
use Rattle.name_rules.specs.Meanings.{Meaning, here, imported, null, nothing}
use Rattle.link_rules.specs.Program.{Program, Part, Ref, refs, same_chunk, chunk_at, chunk_of, chunk_by, meant_chunk}
use Rattle.link_rules.specs.Marks.{live, refs_of}
use Rattle.link_rules.specs.Keys.{GotKey, got_entry, got_import, got_null, got_entries, needs_got, parts_of_kind, ref_got, got_of}
use Rattle.link_facts.specs.link_worlds.Sound.{same_part}
use Rattle.link_facts.proofs.link_worlds_lemmas.Keys.{chunk_itself}
use Rattle.link_facts.proofs.link_worlds_lemmas.Live.{live_part, live_closed}
use Rattle.shared_laws.specs.Linked.{SharedStands}
use Rattle.shared_laws.specs.Numbered.{IsPlaced}
use Rattle.shared_laws.proofs.Places.{one_item}
use Rattle.shared_laws.proofs.Solid.{turned_chunk, segment_numbered, segment_lies}

datum_chunk : (e : InputSymbol) → is_kind Datum e ≡ true → (e.input ≡ 0 → ⊥) → chunk_of e ≡ Some (chunk_at e.input 1 e.index)
datum_chunk e d z = by_kind e.symbol.kind d
  where
    by_kind : (k : SymbolKind) → (kind_code k == kind_code Datum) ≡ true → chunk_by e k ≡ Some (chunk_at e.input 1 e.index)
    by_kind Function h = absurd (grind arith)
    by_kind Datum h = cond-false (e.input == 0) None (Some (chunk_at e.input 1 e.index)) (by_test (e.input == 0) (λ t. absurd (z (eqb-true e.input 0 t))) (λ t. t))
    by_kind GlobalVar h = absurd (grind arith)
    by_kind Section h = absurd (grind arith)
    by_kind Table h = absurd (grind arith)

-- a datum of an object that a live part refers to
pub placed_there : ReachedLaw → (p : Program) (exports : List InputSymbol) → SharedStands p → Apart same_part (live p exports)
    → (part : Part) (ref : Ref) (e : InputSymbol) → Has (live p exports) part → Has (refs part) ref → ref.meaning ≡ here e → is_kind Datum e ≡ true → (e.input ≡ 0 → ⊥) → IsPlaced p exports e
placed_there law p exports s apart part ref e h r m d z =
    let c = chunk_at e.input 1 e.index in
    let meant : meant_chunk ref.meaning ≡ Some c = ap meant_chunk m ∙ datum_chunk e d z in
    let i = s.datum part ref e (live_part p exports part h) r m d z in
    let l = live_closed law p exports part c h (pick_has (λ (x : Ref). meant_chunk x.meaning) (refs part) ref c r meant) (record { part = i.part; there = i.there; chunk = i.chunk }) in
    let same : same_part i.part l.part ≡ true = ap (λ d. same_chunk d l.part.chunk) (i.chunk ∙ sym l.chunk) ∙ chunk_itself l.part.chunk in
    let j = one_item same_part (λ x y t. turned_chunk x.chunk y.chunk t) p.parts s.apart i.part l.part i.there (live_part p exports l.part l.there) same in
    let kind : (l.part.chunk.kind == 1) ≡ true = eq-eqb l.part.chunk.kind 1 (ap (λ (c : Chunk). c.kind) l.chunk) in
    record {
      part = l.part;
      live_part = l.there;
      chunk = l.chunk;
      inside = subst (λ (q : Part). e.symbol.offset ≤ q.source.span.len) j i.inside;
      numbered = segment_numbered p exports apart l.part (filter_has (λ (x : Part). x.chunk.kind == 1) (live p exports) l.part l.there kind);
      within = segment_lies p exports apart l.part (filter_has (λ (x : Part). x.chunk.kind == 1) (live p exports) l.part l.there kind);
    }

-- ---- cells

-- a cell is made for what a reference of live code means
pub got_from : (p : Program) (exports : List InputSymbol) (k : GotKey) → Has (got_entries Shared (live p exports)) k
    → (part : Part) × (ref : Ref) × Has (live p exports) part × Has (refs part) ref × (ref_got ref ≡ k) × (needs_got Shared ref ≡ true)
got_from p exports k h =
    let parts = live p exports in
    let code = parts_of_kind 0 parts in
    ⊎_elim (λ q. absurd q)
    (λ q. let r = has_map ref_got (filter (needs_got Shared) (refs_of code)) k q in
    let f = has_filter (needs_got Shared) (refs_of code) r.0 r.1 in
    let g = has_flat refs code r.0 f.0 in
    let c = has_filter (λ (x : Part). x.chunk.kind == 0) parts g.0 g.1 in
    (g.0, r.0, c.0, g.2, r.2, f.1))
    (distinct_only _ [] (map ref_got (filter (needs_got Shared) (refs_of code))) k h)

entry_of : GotKey → Option InputSymbol
entry_of (got_entry e) = Some e
entry_of (got_import k) = None
entry_of (got_null k) = None

pub meant_by : (kind : ℕ) (mean : Meaning) (e : InputSymbol) → got_of kind mean ≡ got_entry e → mean ≡ here e
unfolding entry_of
meant_by kind (here f) e h = let q : Some f ≡ Some e = ap entry_of h in let z : f ≡ e = grind arith in ap here z
meant_by kind (imported k) e h = absurd (let q = ap entry_of h in grind arith)
meant_by kind null e h = absurd (let q = ap entry_of h in grind arith)
meant_by kind nothing e h = absurd (let q = ap entry_of h in grind arith)
