-- The parts of the run, and those of the one object that stands for it.
use Rattle.std.proofs.Common.{◌≡◌, ℕ, ◌+◌, ◌<◌, ◌≤◌, ◌==◌, Bool, true, false, ◌&&◌, List, [], ◌∷◌, ◌++◌, suc, map, length, inl, inr, refl, sym, ap, ◌∙◌, subst, arith}
use Rattle.std.specs.Prelude.{if◌then◌else◌, find, Option, Some, option_map, unwrap_or, slice_get, slice_index_or, filter_map, flat_map, ℤ}
use Rattle.std.specs.List.{AllZip, list_all, list_any, AllByRecursion}
use Rattle.std.proofs.lemmas.Option.{slice_get-map, get_or_from_slice_get}
use Rattle.std.proofs.lemmas.Bool.{ne_eqb}
use Rattle.list_places.specs.Has.{Has}
use Rattle.list_places.proofs.Lists.{all_has, has_at, has_left, has_right, has_filter, has_any, flat_has, pick_has, placed, stands as stands_at}
use Rattle.name_rules.specs.object_file.wl_base.Choice.{distinct_onto}
use Rattle.name_rules.specs.object_file.wasm_types.declared.function.FuncType.{FuncType}
use Rattle.name_rules.specs.object_file.wasm_types.Same.{same_type}
use Rattle.name_rules.specs.object_file.wasm_types.SameLaws.{same_type_is}
use Rattle.name_rules.specs.object_file.reloc_section.declared.entry.Reloc.{Reloc}
use Rattle.name_rules.specs.object_file.linking_section.declared.symbol.Symbol.{Symbol}
use Rattle.name_rules.specs.object_file.linking_section.declared.symbol.SymbolKind.{SymbolKind}
use Rattle.name_rules.specs.object_file.linking_section.declared.symbol.SymbolKind.TheVariants.{Section}
use Rattle.name_rules.specs.object_file.linking_section.Flags.{kind_code}
use Rattle.name_rules.specs.object_file.body_windows.declared.operand.Operand.{Operand}
use Rattle.name_rules.specs.object_file.body_windows.declared.operand.Operand.TheVariants as operands
use Rattle.object_file.specs.Sound.{IsNamedBy, OperandNames, WindowNames}
use Rattle.object_rules.specs.Relocs.{may_name}
use Rattle.name_rules.specs.object_file.declared.object.Object.{Object}
use Rattle.name_rules.specs.object_file.Spaces.{no_type, written_type}
use Rattle.made_symbols.specs.declared.mode.Mode.TheVariants.{Plain}
use Rattle.name_rules.specs.Entries.{InputSymbol, is_kind, entries, symbols_of}
use Rattle.name_rules.specs.Meanings.{Meaning, no_uses, meaning}
use Rattle.index_layout.specs.Numbers.{number_by}
use Rattle.type_merge.specs.Types.{merged}
use Rattle.reloc_apply.specs.declared.window.Patch.{Patch}
use Rattle.reloc_apply.specs.declared.window.Form.TheVariants.{Unsigned5}
use Rattle.mark_bits.specs.declared.chunk.Chunk.{Chunk}
use Rattle.reloc_apply.specs.Windows.{filled}
use Rattle.reloc_apply.specs.Apart.{AreApart, LiesIn, size_of}
use Rattle.reloc_apply.proofs.Apart.{apart_le}
use Rattle.reloc_apply.proofs.Over.{filled_long}
use Rattle.link_rules.specs.Program.{Program, Part, Named, a_symbol, a_type, TypeWindow, Ref, refs, named_ref, ref_to, ref_in, operand_named, window_named, chunk_at}
use Rattle.link_rules.specs.Marks.{refs_of, is_object_part}
use Rattle.link_rules.specs.Values.{part_bytes, form_of, is_zero}
use Rattle.partial_rules.specs.Partial.{kept, place_of, types, type_number, symbol_number, empty_window}
use Rattle.partial_rules.specs.Moving.{moved_meaning, MeansHeld, AlikeRef, AlikeContent}
use Rattle.partial_laws.specs.Inputs.{Run, Objects, as_input, alone, whole_objects, run_objects, later_objects, AreCut}
use Rattle.partial_laws.specs.Standing.{alone_symbol, joining}
use Rattle.partial_laws.specs.Joining.{Joining}
use Rattle.partial_laws.proofs.Symbols.{alone_symbols}
use Rattle.partial_laws.proofs.Loading.{middle_found}
use Rattle.partial_parts_laws.specs.Linked.{Links, alone_program, whole_program, later_program}
use Rattle.partial_parts_laws.specs.Moves.{moving, StandsInLinks}
use Rattle.partial_parts_laws.specs.Alike.{HeldChunk, HeldSymbol}
use Rattle.partial_parts_laws.proofs.Zips.{BothOr, zip_picked, zip_told, zip_map, zip_length}
use Rattle.partial_parts_laws.proofs.Parts.{res}
use Rattle.partial_parts_laws.proofs.Symbols.{symbol_at}
use Rattle.partial_parts_laws.proofs.Chunks.{chunk_inside}
use Rattle.partial_parts_laws.proofs.Again.{filled_again}
use Rattle.partial_parts_laws.proofs.Referred.{whole_meaning, StoodBy, stood_by, run_known}
use Rattle.partial_parts_laws.proofs.Built.{code_section, data_section, both_refs, later_meaning, alike_by, Alikes, AlikeSides}

-- ---- types that are listed once

type_itself : (t : FuncType) → same_type t t ≡ true
type_itself t = (same_type_is t t).1 refl

seen_stays : (seen ts : List FuncType) (t : FuncType) → Has seen t → Has (distinct_onto same_type seen ts) t
seen_stays seen [] t has = has
seen_stays seen (x ∷ ts) t has = by_test (list_any (same_type x) seen) (seen_stays seen ts t has) (seen_stays (seen ++ x ∷ []) ts t (has_left seen (x ∷ []) t has))
  where
    by_test : (b : Bool) → Has (distinct_onto same_type seen ts) t → Has (distinct_onto same_type (seen ++ x ∷ []) ts) t → Has (distinct_onto same_type (if b then seen else seen ++ x ∷ []) ts) t
    by_test true stays more = stays
    by_test false stays more = more

listed : (seen ts : List FuncType) (t : FuncType) → Has ts t → Has (distinct_onto same_type seen ts) t
listed seen [] t has = absurd has
listed seen (x ∷ ts) t (inr has) = listed (if list_any (same_type x) seen then seen else seen ++ x ∷ []) ts t has
listed seen (x ∷ ts) t (inl it) = seen_stays (if list_any (same_type x) seen then seen else seen ++ x ∷ []) ts t (by_test (list_any (same_type x) seen) refl)
  where
    by_test : (b : Bool) → list_any (same_type x) seen ≡ b → Has (if b then seen else seen ++ x ∷ []) t
    by_test true e = let r = has_any (same_type x) seen e in subst (Has seen) (sym ((same_type_is x r.0).0 r.2) ∙ it) r.1
    by_test false e = has_right seen (x ∷ []) t (inl it)

pub merged_has : (ts : List FuncType) (t : FuncType) → Has ts t → Has (merged ts) t
merged_has ts t has = listed [] ts t has

-- a type is found at its number
pub type_found : (ts : List FuncType) (t : FuncType) → Has ts t → slice_index_or ts (number_by same_type ts t) no_type ≡ t
type_found ts t has =
    let r = placed (same_type t) ts t has (type_itself t) in
    let at = stands_at (same_type t) ts r.0 r.1 in
    ap (λ o. slice_index_or ts (unwrap_or o 0) no_type) r.1 ∙ (get_or_from_slice_get ts r.0 at.item no_type at.there ∙ sym ((same_type_is t at.item).0 at.passes))

-- ---- windows that lie in bytes

within : (at end : ℕ) (ps : List Patch) → AreApart at end ps → AllByRecursion (LiesIn end) ps
within at end [] h = tt
within at end (x ∷ ps) h = (apart_le (x.place + size_of x.form) end ps h.1, within (x.place + size_of x.form) end ps h.1)

module _ (run : Run) (os : Objects) (ls : Links) (s : StandsInLinks run os ls) where
  abbrev cut : AreCut run os
  cut = s.names.cut

  abbrev p : Program
  p = alone_program run os ls

  abbrev P : Program
  P = whole_program run os ls

  abbrev Q : Program
  Q = later_program run os ls

  abbrev W : List Object
  W = whole_objects os

  abbrev L : List Object
  L = later_objects run os

  abbrev RO : List Object
  RO = run_objects run os

  abbrev M : List InputSymbol
  M = flat_map (symbols_of W) os.middle

  abbrev j : Joining
  j = joining run os p

  abbrev al : InputSymbol → InputSymbol
  al = alone_symbol run os

  abbrev in_run : Object → Object
  in_run o = as_input (alone run o.input) o

  -- ---- references of the run, in the whole link and in the run alone

  pub record RunRef (a b : Ref) : Type 0 where
    pub place : b.place ≡ a.place
    pub kind : b.kind ≡ a.kind
    pub addend : b.addend ≡ a.addend
    pub entry : b.entry ≡ al a.entry
    pub there : Has M a.entry
    pub meaning : a.meaning ≡ whole_meaning run os ls s a.entry
    pub may : may_name a.kind a.entry.symbol.kind ≡ true
    pub section : is_kind Section a.entry ≡ false

  abbrev pub RunNamed : Named → Named → Type 0
  RunNamed (a_symbol a) (a_symbol b) = RunRef a b
  RunNamed (a_symbol a) (a_type w) = ⊥
  RunNamed (a_type v) (a_symbol b) = ⊥
  RunNamed (a_type v) (a_type w) = w ≡ v

  -- what a symbol means in the run alone
  abbrev pub alone_meaning : InputSymbol → Meaning
  alone_meaning e = meaning Plain no_uses ls.run_alone.plan.allow_undefined (entries Plain RO) e

  found : (o : Object) → Has os.middle o → find (λ (x : Object). x.input == o.input) os.middle ≡ Some o
  found o has = all_has (λ (y : Object). find (λ (x : Object). x.input == y.input) os.middle ≡ Some y) os.middle (middle_found run os cut s.names.loaded.rise) o has

  run_ref : (o : Object) → Has os.middle o → (place kind symbol : ℕ) (addend : ℤ) → IsNamedBy kind (slice_get o.symbols symbol) → ((k : SymbolKind) → may_name kind k ≡ true → (kind_code k == kind_code Section) ≡ false)
      → BothOr RunNamed (option_map a_symbol (ref_in (res ls.whole W o) place kind symbol addend)) (option_map a_symbol (ref_in (res ls.run_alone RO (in_run o)) place kind symbol addend))
  run_ref o ho place kind symbol addend named section =
      both_refs RunNamed al (whole_meaning run os ls s) alone_meaning place kind addend
      (slice_get (symbols_of W o) symbol) (slice_get (map (whole_meaning run os ls s) (symbols_of W o)) symbol) (slice_get (symbols_of RO (in_run o)) symbol) (slice_get (map alone_meaning (symbols_of RO (in_run o))) symbol)
      (slice_get-map (whole_meaning run os ls s) (symbols_of W o) symbol)
      (ap (λ xs. slice_get xs symbol) (alone_symbols run os cut o (found o ho)) ∙ slice_get-map al (symbols_of W o) symbol)
      (slice_get-map alone_meaning (symbols_of RO (in_run o)) symbol)
      (λ e is. let may = may_of (slice_get o.symbols symbol) e.symbol (symbol_at W o 0 o.symbols symbol e is) named in
      record {
        place = refl;
        kind = refl;
        addend = refl;
        entry = refl;
        there = flat_has (symbols_of W) os.middle o e ho (has_at (symbols_of W o) symbol e is);
        meaning = refl;
        may = may;
        section = section e.symbol.kind may;
      })
    where
      may_of : (y : Option Symbol) (sy : Symbol) → y ≡ Some sy → IsNamedBy kind y → may_name kind sy.kind ≡ true
      may_of y sy is told = (subst (IsNamedBy kind) is told).0

  pub function_named : (o : Object) → Has os.middle o → (ops : List Operand) → ((op : Operand) → Has ops op → OperandNames o op)
      → AllZip RunNamed (filter_map (λ op. operand_named (res ls.whole W o) op) ops) (filter_map (λ op. operand_named (res ls.run_alone RO (in_run o)) op) ops)
  function_named o ho ops names = zip_picked RunNamed (λ op. operand_named (res ls.whole W o) op) (λ op. operand_named (res ls.run_alone RO (in_run o)) op) ops (λ op has. each op (names op has))
    where
      each : (op : Operand) → OperandNames o op → BothOr RunNamed (operand_named (res ls.whole W o) op) (operand_named (res ls.run_alone RO (in_run o)) op)
      each operands.Number named = tt
      each (operands.Symbol kind place symbol addend) named = run_ref o ho place kind symbol addend named.1 (code_section kind named.0)
      each (operands.TypeRef place index) named = refl
      each operands.TableZero named = tt

  pub segment_named : (o : Object) → Has os.middle o → (ws : List Reloc) → ((w : Reloc) → Has ws w → WindowNames o w)
      → AllZip RunNamed (filter_map (λ w. window_named (res ls.whole W o) w) ws) (filter_map (λ w. window_named (res ls.run_alone RO (in_run o)) w) ws)
  segment_named o ho ws names =
      zip_picked RunNamed (λ w. window_named (res ls.whole W o) w) (λ w. window_named (res ls.run_alone RO (in_run o)) w) ws
      (λ w has. let named = names w has in run_ref o ho w.offset w.kind w.index w.addend named.1 (data_section w.kind named.0))

  -- ---- what the one object has for them

  abbrev pub joined_named : Named → Option Named
  joined_named (a_symbol ref) = option_map a_symbol (ref_in (res ls.after L os.joined) ref.place ref.kind (symbol_number p ref.entry) ref.addend)
  joined_named (a_type w) = Some (a_type (record { place = w.place; type = written_type os.joined (type_number p w.type) }))

  pub told : (x y : Named) → RunNamed x y → ((ref : Ref) → y ≡ a_symbol ref → Has (refs_of p.parts) ref) → ((w : TypeWindow) → y ≡ a_type w → Has (types p) w.type)
      → (z : Named) × (joined_named y ≡ Some z) × Alikes run os ls s x z
  told (a_symbol a) (a_symbol b) r refers typed = by_stood (stood_by run os ls s a.entry r.there r.section b (refers b refl) r.entry)
    where
      by_stood : StoodBy run os ls s a.entry (symbol_number p (al a.entry)) → (z : Named) × (joined_named (a_symbol b) ≡ Some z) × Alikes run os ls s (a_symbol a) z
      by_stood st = (a_symbol it, joined_is, alike)
        where
          it : Ref
          it = record { place = b.place; kind = b.kind; addend = b.addend; entry = j.move st.by; meaning = later_meaning run os ls s (j.move st.by) }

          at : slice_get (symbols_of L os.joined) (symbol_number p b.entry) ≡ Some (j.move st.by)
          at = ap (λ e. slice_get (symbols_of L os.joined) (symbol_number p e)) r.entry ∙ st.at

          joined_is : joined_named (a_symbol b) ≡ Some (a_symbol it)
          joined_is =
              ap (λ o. option_map a_symbol (ref_to b.place b.kind b.addend (slice_get (symbols_of L os.joined) (symbol_number p b.entry)) o))
              (slice_get-map (later_meaning run os ls s) (symbols_of L os.joined) (symbol_number p b.entry))
              ∙ ap (λ o. option_map a_symbol (ref_to b.place b.kind b.addend o (option_map (later_meaning run os ls s) o))) at

          same : AlikeRef (moving run os p) (HeldChunk run os ls) (HeldSymbol run os ls) (record { place = a.place; kind = a.kind; addend = a.addend; entry = a.entry; meaning = whole_meaning run os ls s a.entry })
              (record { place = a.place; kind = a.kind; addend = a.addend; entry = j.move st.by; meaning = later_meaning run os ls s (j.move st.by) })
          same =
              alike_by run os ls s a.place a.kind a.addend a.entry st.by (run_known run os ls s a.entry r.there) (run_known run os ls s st.by st.there) st.kept st.kind st.name st.meaning r.section r.may

          alike : Alikes run os ls s (a_symbol a) (a_symbol it)
          alike = record {
            place = r.place;
            kind = r.kind;
            addend = r.addend;
            symbol_kind = same.symbol_kind;
            name = same.name;
            meaning = same.meaning ∙ ap (moved_meaning (moving run os p)) (sym r.meaning);
            held = subst (MeansHeld (moving run os p) (HeldChunk run os ls) (HeldSymbol run os ls) a.entry.symbol.kind) (sym r.meaning) same.held;
            may = r.may;
          }
  told (a_symbol a) (a_type w) r refers typed = absurd r
  told (a_type v) (a_symbol b) r refers typed = absurd r
  told (a_type v) (a_type w) r refers typed = (
    a_type (record { place = w.place; type = written_type os.joined (type_number p w.type) }),
    refl,
    ap (λ t. record { place = w.place; type = t }) (ap (λ ts. slice_index_or ts (type_number p w.type) no_type) s.read.types_are ∙ type_found (types p) w.type (typed w refl)) ∙ r,
  )

  -- ---- parts of the run

  pub record RunPart (a b : Part) : Type 0 where
    pub chunk : b.chunk ≡ chunk_at (alone run a.chunk.input) a.chunk.kind a.chunk.index
    pub from : run.first < a.chunk.input
    pub to : a.chunk.input ≤ run.first + run.many
    pub content : b.content ≡ a.content
    pub len : b.source.span.len ≡ a.source.span.len
    pub bytes : part_bytes p b ≡ part_bytes P a
    pub named : AllZip RunNamed a.named b.named
    pub apart : AreApart 0 (length (part_bytes P a)) (map empty_window a.named)

  -- and what the one object has
  pub record JoinedPart (k : ℕ) (b z : Part) : Type 0 where
    pub kind : b.chunk.kind ≡ k
    pub chunk : z.chunk ≡ chunk_at os.joined.input k (place_of p k b.chunk)
    pub content : AlikeContent b.content z.content
    pub len : z.source.span.len ≡ b.source.span.len
    pub bytes : part_bytes Q z ≡ filled (map empty_window b.named) (part_bytes p b)
    pub named : z.named ≡ filter_map (λ n. joined_named n) b.named
    pub typed : (w : TypeWindow) → Has b.named (a_type w) → Has (types p) w.type

  same_windows : (xs ys : List Named) → AllZip RunNamed xs ys → map empty_window ys ≡ map empty_window xs
  same_windows xs ys z = zip_map RunNamed empty_window empty_window each xs ys z
    where
      each : (x y : Named) → RunNamed x y → empty_window y ≡ empty_window x
      each (a_symbol a) (a_symbol b) r = ap (λ n. record { place = n; form = form_of b.kind; value = 0 }) r.place ∙ ap (λ k. record { place = a.place; form = form_of k; value = 0 }) r.kind
      each (a_symbol a) (a_type w) r = absurd r
      each (a_type v) (a_symbol b) r = absurd r
      each (a_type v) (a_type w) r = ap (λ (u : TypeWindow). record { place = u.place; form = Unsigned5; value = 0 }) r

  pub run_alike : (k : ℕ) (x y z : Part) → Has (kept p k) y → RunPart x y → JoinedPart k y z → AlikeSides run os ls s x z
  run_alike k x y z has r q held = record {
    chunk = q.chunk ∙ (ap (λ (c : Chunk). chunk_at os.joined.input k (place_of p k c)) r.chunk
        ∙ (ap (λ n. chunk_at os.joined.input n (place_of p n (chunk_at (alone run x.chunk.input) x.chunk.kind x.chunk.index))) (sym kind_is) ∙ sym (chunk_inside run os p x.chunk r.from r.to)));
    held = held;
    content = subst (λ c. AlikeContent c z.content) r.content q.content;
    named = named;
    len = q.len ∙ r.len;
    long = ap (λ bs. length bs) bytes_are ∙ filled_long (map empty_window x.named) (part_bytes P x) (within 0 (length (part_bytes P x)) (map empty_window x.named) r.apart);
    bytes = λ ps same. ap (filled ps) bytes_are ∙ filled_again (map empty_window x.named) ps (part_bytes P x) 0 same r.apart;
    made = λ none kind. absurd (omega (arith, r.from, none));
    calls = λ none. absurd (omega (arith, r.from, none));
    zero = zero;
  }
    where
      kind_is : x.chunk.kind ≡ k
      kind_is = ap (λ (c : Chunk). c.kind) (sym r.chunk) ∙ q.kind

      in_program : Has p.parts y
      in_program = (has_filter (λ (part : Part). is_object_part part && (part.chunk.kind == k)) p.parts y has).0

      bytes_are : part_bytes Q z ≡ filled (map empty_window x.named) (part_bytes P x)
      bytes_are = q.bytes ∙ (ap (λ ps. filled ps (part_bytes p y)) (same_windows x.named y.named r.named) ∙ ap (filled (map empty_window x.named)) r.bytes)

      named : AllZip (Alikes run os ls s) x.named z.named
      named =
          subst (AllZip (Alikes run os ls s) x.named) (sym q.named)
          (zip_told RunNamed (Alikes run os ls s) (λ n. joined_named n) x.named y.named
          (λ a b hb rn. told a b rn
          (λ ref is. flat_has refs p.parts y ref in_program (pick_has named_ref y.named b ref hb (ap named_ref is)))
          (λ w is. q.typed w (subst (Has y.named) is hb))) r.named)

      empties : (ns : List Named) (bs : List ℕ) → ((length ns == 0) && list_all (λ n. n == 0) (filled (map empty_window ns) bs)) ≡ ((length ns == 0) && list_all (λ n. n == 0) bs)
      empties [] bs = refl
      empties (n ∷ ns) bs = ap (λ (b : Bool). b && list_all (λ n. n == 0) (filled (map empty_window (n ∷ ns)) bs)) (some_length ns) ∙ sym (ap (λ (b : Bool). b && list_all (λ n. n == 0) bs) (some_length ns))
        where
          some_length : (ms : List Named) → (suc (length ms) == 0) ≡ false
          some_length ms = ne_eqb (suc (length ms)) 0 (λ e. omega (arith, e))

      zero : is_zero Q z ≡ is_zero P x
      zero =
          ap (λ n. (n == 0) && list_all (λ n. n == 0) (part_bytes Q z)) (zip_length (Alikes run os ls s) x.named z.named named)
          ∙ (ap (λ bs. (length x.named == 0) && list_all (λ n. n == 0) bs) bytes_are ∙ empties x.named (part_bytes P x))
