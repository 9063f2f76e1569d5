-- Where chunks and definitions of the whole link stand in the later one.
use Rattle.std.proofs.Common.{◌≡◌, ℕ, ◌+◌, ◌-◌, ◌<◌, ◌≤◌, ◌==◌, Bool, true, false, not, ◌&&◌, List, ◌++◌, length, inl, inr, ⊎_elim, refl, sym, ap, ◌∙◌, subst, arith}
use Rattle.std.specs.Prelude.{◌⊎◌, if◌then◌else◌, nat_lt, nat_le, Some, None, option_map, position, unwrap_or, flat_map}
use Rattle.std.specs.List.{list_any}
use Rattle.std.proofs.lemmas.Bool.{and_parts, and_from, eq-eqb, ne_eqb, eqb-true, lt-ltb}
use Rattle.std.proofs.lemmas.Bool.Decides.{nat_tests, eqb_tells}
use Rattle.list_places.specs.Has.{Has, Same}
use Rattle.list_places.proofs.Lists.{has_either, has_filter, has_any, has_map, has_flat, map_has, all_has, placed, same_place, one_place}
use Rattle.name_rules.specs.object_file.linking_section.declared.symbol.SymbolKind.{SymbolKind}
use Rattle.name_rules.specs.object_file.linking_section.declared.symbol.SymbolKind.TheVariants.{Function, Datum, GlobalVar, Section, Table}
use Rattle.name_rules.specs.object_file.linking_section.declared.member_kinds.TheConstants as members
use Rattle.name_rules.specs.object_file.declared.object.Object.{Object}
use Rattle.name_rules.specs.object_file.Spaces.{function_imports, global_imports}
use Rattle.made_symbols.specs.declared.mode.Mode.TheVariants.{Plain}
use Rattle.made_symbols.specs.Made.{made}
use Rattle.name_rules.specs.Entries.{InputSymbol, name_of, same_entry, is_kept, index_in, entry_in}
use Rattle.mark_bits.specs.declared.chunk.Chunk.{Chunk}
use Rattle.index_layout.specs.Numbers.{number_by}
use Rattle.link_rules.specs.Program.{Program, Part, init_calls, kept_in, function_part, segment_part, global_part, chunk_at, chunk_by, chunk_of, same_chunk}
use Rattle.link_rules.specs.Marks.{table_of}
use Rattle.partial_rules.specs.Partial.{kept, place_of, standing, is_open, open_of, open_symbol, defined_index, symbol_for}
use Rattle.partial_laws.specs.Inputs.{Run, Objects, as_input, alone, later, whole_objects, run_objects, later_objects, AreCut}
use Rattle.partial_laws.specs.Kept.{is_taken_away}
use Rattle.partial_laws.specs.Standing.{is_of_run, alone_symbol, later_symbol, joined_symbol, joining}
use Rattle.partial_laws.specs.Joining.{Joining}
use Rattle.partial_laws.specs.Joined.{SymbolsStand}
use Rattle.partial_laws.proofs.Same.{entry_itself}
use Rattle.partial_laws.proofs.Groups.{lowered}
use Rattle.partial_laws.proofs.Members.{chunk_equal, numbers_tell}
use Rattle.partial_laws.proofs.Joins.{not_after, not_before, of_run}
use Rattle.partial_laws.proofs.Regions.{entries_turned, entries_follow}
use Rattle.partial_laws.proofs.Stated.{stand, parts_are_kept}
use Rattle.partial_parts_laws.specs.Linked.{Links, alone_program, whole_program}
use Rattle.partial_parts_laws.specs.Moves.{moved_chunk, StandsInLinks}
use Rattle.partial_parts_laws.specs.Alike.{is_placed, HeldChunk, HeldSymbol, PartsMove, PartsAreMoved}
use Rattle.partial_parts_laws.proofs.Parts.{make_function, make_segment, make_global, res, own_parts, object_parts, parts_are, function_parts, segment_parts, global_parts, object_input, of_three}
use Rattle.partial_parts_laws.proofs.RunParts.{made_input}
use Rattle.partial_parts_laws.proofs.Runs.{chunks_kept, function_there, segment_there, global_there}
use Rattle.partial_parts_laws.proofs.Zips.{has_indexed}
use Rattle.partial_parts_laws.proofs.Chunks.{chunk_before, chunk_behind, chunk_inside}

-- ---- tests

turned : (a b : ℕ) → (a == b) ≡ (b == a)
turned a b = ⊎_elim
    (λ same. same.0 ∙ sym (eq-eqb b a (sym same.1)))
    (λ other. other.0 ∙ sym (ne_eqb b a (λ e. other.1 (sym e))))
    (eqb_tells a b)

same_tests : (a b : Bool) → (a ≡ true → b ≡ true) → (b ≡ true → a ≡ true) → a ≡ b
same_tests true b f g = sym (f refl)
same_tests false true f g = g refl
same_tests false false f g = refl

no_true : false ≡ true → ⊥
no_true e = absurd cc

-- ---- where an input is

abbrev pub InRegion : Run → ℕ → Type 0
InRegion run n = (n ≤ run.first) ⊎ (((run.first < n) × (n ≤ run.first + run.many)) ⊎ (run.first + run.many < n))

pub region_of : (run : Run) (n : ℕ) → InRegion run n
region_of run n = by_low (nat_lt run.first n) refl (nat_lt (run.first + run.many) n) refl
  where
    by_low : (a : Bool) → nat_lt run.first n ≡ a → (b : Bool) → nat_lt (run.first + run.many) n ≡ b → InRegion run n
    by_low false low b high = inl (grind (arith, nat_tests, low))
    by_low true low true high = inr (inr (grind (arith, nat_tests, high)))
    by_low true low false high = inr (inl (grind (arith, nat_tests, low), grind (arith, nat_tests, high)))

module _ (run : Run) (os : Objects) (ls : Links) (s : StandsInLinks run os ls) where
  abbrev cut : AreCut run os
  cut = s.names.cut

  abbrev p : Program
  p = alone_program run os ls

  abbrev W : List Object
  W = whole_objects os

  abbrev L : List Object
  L = later_objects run os

  abbrev RO : List Object
  RO = run_objects run os

  abbrev P : Program
  P = whole_program run os ls

  abbrev move : Chunk → Chunk
  move = moved_chunk run os p

  abbrev j : Joining
  j = joining run os p

  abbrev al : InputSymbol → InputSymbol
  al = alone_symbol run os

  abbrev standing_symbols : SymbolsStand run os p
  standing_symbols = stand run os p s.names

  -- ---- chunks of parts

  -- where a part of the whole link comes from
  abbrev Source : Chunk → Type 0
  Source c = (c.input ≡ 0) ⊎ ((o : Object) × Has W o × (x : Part) × Has (object_parts ls.whole W o) x × (x.chunk ≡ c))

  source : (c : Chunk) → HeldChunk run os ls c → Source c
  source c held =
      let a = has_any (same_chunk c) (table_of P) held in
      let m = has_map (λ (y : Part). y.chunk) P.parts a.0 a.1 in
      let is : m.0.chunk ≡ c = m.2 ∙ sym (chunk_equal c a.0 a.2) in
      ⊎_elim (λ own. inl (ap (λ (d : Chunk). d.input) (sym is) ∙ made_input (init_calls P.resolved) 0 (made Plain) m.0 own))
      (λ rest. let f = has_flat (object_parts ls.whole W) W m.0 rest in inr (f.0, f.1, m.0, f.2, is))
      (has_either (own_parts ls.whole W) (flat_map (object_parts ls.whole W) W) m.0 (subst (λ xs. Has xs m.0) (parts_are ls.whole W s.strict) m.1))

  abbrev alone_chunk : Chunk → Chunk
  alone_chunk c = chunk_at (alone run c.input) c.kind c.index

  -- A part of the run in the whole link is one of the run alone.
  kept_alone : (o : Object) → Has os.middle o → (x : Part) → Has (object_parts ls.whole W o) x → Has (chunks_kept run os ls s x.chunk.kind) (alone_chunk x.chunk)
  kept_alone o ho x has =
      of_three (function_parts ls.whole W o) (segment_parts ls.whole W o) (global_parts ls.whole W o) x f.0
      (λ h. let i = has_indexed (make_function ls.whole W o) 0 o.functions x h refl in
      subst (λ (y : Part). kept_in W o y.chunk ≡ true → Has (chunks_kept run os ls s y.chunk.kind) (alone_chunk y.chunk)) i.is
      (λ keeps. map_has (λ (y : Part). y.chunk) (kept p 0) (function_part ls.run_alone.all RO (res ls.run_alone RO (run_object o)) i.place i.item)
      (function_there run os ls s o ho i.place i.item i.there (still members.FUNCTION (i.place + length (function_imports o)) keeps))) f.1)
      (λ h. let i = has_indexed (make_segment ls.whole W o) 0 o.segments x h refl in
      subst (λ (y : Part). kept_in W o y.chunk ≡ true → Has (chunks_kept run os ls s y.chunk.kind) (alone_chunk y.chunk)) i.is
      (λ keeps. map_has (λ (y : Part). y.chunk) (kept p 1) (segment_part ls.run_alone.all RO (res ls.run_alone RO (run_object o)) i.place i.item)
      (segment_there run os ls s o ho i.place i.item i.there (still members.DATA i.place keeps))) f.1)
      (λ h. let i = has_indexed (make_global ls.whole W o) 0 o.globals x h refl in
      subst (λ (y : Part). kept_in W o y.chunk ≡ true → Has (chunks_kept run os ls s y.chunk.kind) (alone_chunk y.chunk)) i.is
      (λ keeps. map_has (λ (y : Part). y.chunk) (kept p 2) (global_part ls.run_alone.all RO (res ls.run_alone RO (run_object o)) i.place i.item)
      (global_there run os ls s o ho i.place i.item i.there)) f.1)
    where
      run_object : Object → Object
      run_object y = as_input (alone run y.input) y

      f : Has (function_parts ls.whole W o ++ segment_parts ls.whole W o ++ global_parts ls.whole W o) x × (kept_in W o x.chunk ≡ true)
      f = has_filter (λ (y : Part). kept_in W o y.chunk) (function_parts ls.whole W o ++ segment_parts ls.whole W o ++ global_parts ls.whole W o) x has

      still : (kind index : ℕ) → is_kept W o kind index ≡ true → is_kept RO (run_object o) kind index ≡ true
      still kind index keeps =
          (and_parts (not (is_taken_away os o kind index)) (is_kept RO (run_object o) kind index)
          (sym ((parts_are_kept run os cut).of_run o kind index (all_has (λ (y : Object). run.first < y.input) os.middle cut.from o ho) (all_has (λ (y : Object). y.input ≤ run.first + run.many) os.middle cut.to o ho)) ∙ keeps)).1

  pub chunk_there : (c : Chunk) → HeldChunk run os ls c → run.first < c.input → c.input ≤ run.first + run.many → Has (chunks_kept run os ls s c.kind) (alone_chunk c)
  chunk_there c held gt le =
      ⊎_elim (λ none. absurd (omega (arith, gt, none)))
      (λ (src : (o : Object) × Has W o × (x : Part) × Has (object_parts ls.whole W o) x × (x.chunk ≡ c)).
      let input : c.input ≡ src.0.input = ap (λ (d : Chunk). d.input) (sym src.4) ∙ object_input ls.whole W src.0 src.2 src.3 in
      subst (λ (d : Chunk). Has (chunks_kept run os ls s d.kind) (alone_chunk d)) src.4 (kept_alone src.0 (inside src.0 src.1 (omega (arith, gt, input)) (omega (arith, le, input))) src.2 src.3))
      (source c held)
    where
      inside : (o : Object) → Has W o → run.first < o.input → o.input ≤ run.first + run.many → Has os.middle o
      inside o has gt' le' =
          ⊎_elim (λ before. let low = all_has (λ (y : Object). y.input ≤ run.first) os.before cut.before o before in absurd (omega (arith, low, gt')))
          (λ rest. ⊎_elim (λ middle. middle) (λ behind. let high = all_has (λ (y : Object). run.first + run.many < y.input) os.behind cut.behind o behind in absurd (omega (arith, high, le')))
          (has_either os.middle os.behind o rest))
          (has_either os.before (os.middle ++ os.behind) o has)

  -- ---- chunks are told apart

  chunks_differ : (c d : Chunk) → (c.input ≡ d.input → ⊥) → same_chunk c d ≡ false
  chunks_differ c d other = ap (λ (b : Bool). (b && (c.kind == d.kind)) && (c.index == d.index)) (ne_eqb c.input d.input other)

  later_told : (a b : ℕ) → run.first + run.many < a → run.first + run.many < b → (later run a == later run b) ≡ (a == b)
  later_told a b ga gb =
      lowered run.many (a + 1) (b + 1) (omega (arith, ga)) (omega (arith, gb))
      ∙ same_tests ((a + 1) == (b + 1)) (a == b) (λ e. eq-eqb a b (omega (arith, eqb-true (a + 1) (b + 1) e))) (λ e. eq-eqb (a + 1) (b + 1) (ap (λ n. n + 1) (eqb-true a b e)))

  chunks_apart : (a b : Chunk) → HeldChunk run os ls a → HeldChunk run os ls b → same_chunk (move a) (move b) ≡ same_chunk a b
  chunks_apart a b ha hb = by_regions (region_of run a.input) (region_of run b.input)
    where
      joined_chunk : Chunk → Chunk
      joined_chunk c = chunk_at os.joined.input c.kind (place_of p c.kind (alone_chunk c))

      both_inside : (run.first < a.input) × (a.input ≤ run.first + run.many) → (run.first < b.input) × (b.input ≤ run.first + run.many) → same_chunk (joined_chunk a) (joined_chunk b) ≡ same_chunk a b
      both_inside ra rb = same_tests (same_chunk (joined_chunk a) (joined_chunk b)) (same_chunk a b) forth (λ e. ap (λ (d : Chunk). same_chunk (joined_chunk a) (joined_chunk d)) (sym (chunk_equal a b e)) ∙ chunk_itself_at (joined_chunk a))
        where
          chunk_itself_at : (c : Chunk) → same_chunk c c ≡ true
          chunk_itself_at c =
              and_from ((c.input == c.input) && (c.kind == c.kind)) (c.index == c.index)
              (and_from (c.input == c.input) (c.kind == c.kind) (eq-eqb c.input c.input refl) (eq-eqb c.kind c.kind refl)) (eq-eqb c.index c.index refl)

          forth : same_chunk (joined_chunk a) (joined_chunk b) ≡ true → same_chunk a b ≡ true
          forth e =
              let kinds : a.kind ≡ b.kind = ap (λ (c : Chunk). c.kind) (chunk_equal (joined_chunk a) (joined_chunk b) e) in
              let places : place_of p a.kind (alone_chunk a) ≡ place_of p b.kind (alone_chunk b) = ap (λ (c : Chunk). c.index) (chunk_equal (joined_chunk a) (joined_chunk b) e) in
              let hb' : Has (chunks_kept run os ls s a.kind) (alone_chunk b) = subst (λ k. Has (chunks_kept run os ls s k) (alone_chunk b)) (sym kinds) (chunk_there b hb rb.0 rb.1) in
              let same : same_chunk (alone_chunk a) (alone_chunk b) ≡ true =
              sym (numbers_tell (chunks_kept run os ls s a.kind) (alone_chunk a) (alone_chunk b) (chunk_there a ha ra.0 ra.1) hb')
              ∙ eq-eqb (place_of p a.kind (alone_chunk a)) (place_of p a.kind (alone_chunk b)) (places ∙ ap (λ k. place_of p k (alone_chunk b)) (sym kinds)) in
              let inputs : alone run a.input ≡ alone run b.input = ap (λ (c : Chunk). c.input) (chunk_equal (alone_chunk a) (alone_chunk b) same) in
              let indexes : a.index ≡ b.index = ap (λ (c : Chunk). c.index) (chunk_equal (alone_chunk a) (alone_chunk b) same) in
              and_from ((a.input == b.input) && (a.kind == b.kind)) (a.index == b.index)
              (and_from (a.input == b.input) (a.kind == b.kind) (eq-eqb a.input b.input (omega (arith, inputs, ra.0, rb.0))) (eq-eqb a.kind b.kind kinds)) (eq-eqb a.index b.index indexes)

      by_regions : InRegion run a.input → InRegion run b.input → same_chunk (move a) (move b) ≡ same_chunk a b
      by_regions (inl la) (inl lb) = ap (λ c. same_chunk c (move b)) (chunk_before run os p a la) ∙ ap (same_chunk a) (chunk_before run os p b lb)
      by_regions (inl la) (inr (inl rb)) =
          ap (λ c. same_chunk c (move b)) (chunk_before run os p a la) ∙ (ap (same_chunk a) (chunk_inside run os p b rb.0 rb.1)
          ∙ (chunks_differ a (joined_chunk b) (λ e. omega (arith, e, la, cut.place)) ∙ sym (chunks_differ a b (λ e. omega (arith, e, la, rb.0)))))
      by_regions (inl la) (inr (inr bb)) =
          ap (λ c. same_chunk c (move b)) (chunk_before run os p a la) ∙ (ap (same_chunk a) (chunk_behind run os p b bb)
          ∙ (chunks_differ a (chunk_at (later run b.input) b.kind b.index) (λ e. omega (arith, e, la, bb, cut.some)) ∙ sym (chunks_differ a b (λ e. omega (arith, e, la, bb)))))
      by_regions (inr (inl ra)) (inl lb) =
          ap (λ c. same_chunk c (move b)) (chunk_inside run os p a ra.0 ra.1) ∙ (ap (same_chunk (joined_chunk a)) (chunk_before run os p b lb)
          ∙ (chunks_differ (joined_chunk a) b (λ e. omega (arith, e, lb, cut.place)) ∙ sym (chunks_differ a b (λ e. omega (arith, e, lb, ra.0)))))
      by_regions (inr (inl ra)) (inr (inl rb)) =
          ap (λ c. same_chunk c (move b)) (chunk_inside run os p a ra.0 ra.1) ∙ (ap (same_chunk (joined_chunk a)) (chunk_inside run os p b rb.0 rb.1) ∙ both_inside ra rb)
      by_regions (inr (inl ra)) (inr (inr bb)) =
          ap (λ c. same_chunk c (move b)) (chunk_inside run os p a ra.0 ra.1) ∙ (ap (same_chunk (joined_chunk a)) (chunk_behind run os p b bb)
          ∙ (chunks_differ (joined_chunk a) (chunk_at (later run b.input) b.kind b.index) (λ e. omega (arith, e, bb, cut.place, cut.some)) ∙ sym (chunks_differ a b (λ e. omega (arith, e, bb, ra.1)))))
      by_regions (inr (inr ba)) (inl lb) =
          ap (λ c. same_chunk c (move b)) (chunk_behind run os p a ba) ∙ (ap (same_chunk (chunk_at (later run a.input) a.kind a.index)) (chunk_before run os p b lb)
          ∙ (chunks_differ (chunk_at (later run a.input) a.kind a.index) b (λ e. omega (arith, e, lb, ba, cut.some)) ∙ sym (chunks_differ a b (λ e. omega (arith, e, lb, ba)))))
      by_regions (inr (inr ba)) (inr (inl rb)) =
          ap (λ c. same_chunk c (move b)) (chunk_behind run os p a ba) ∙ (ap (same_chunk (chunk_at (later run a.input) a.kind a.index)) (chunk_inside run os p b rb.0 rb.1)
          ∙ (chunks_differ (chunk_at (later run a.input) a.kind a.index) (joined_chunk b) (λ e. omega (arith, e, ba, cut.place, cut.some)) ∙ sym (chunks_differ a b (λ e. omega (arith, e, ba, rb.1)))))
      by_regions (inr (inr ba)) (inr (inr bb)) =
          ap (λ c. same_chunk c (move b)) (chunk_behind run os p a ba) ∙ (ap (same_chunk (chunk_at (later run a.input) a.kind a.index)) (chunk_behind run os p b bb)
          ∙ ap (λ (t : Bool). (t && (a.kind == b.kind)) && (a.index == b.index)) (later_told a.input b.input ba bb))

  -- ---- what holds of one chunk, by where it is

  chunk_kind : (c : Chunk) → (move c).kind ≡ c.kind
  chunk_kind c =
      ⊎_elim (λ le. ap (λ (d : Chunk). d.kind) (chunk_before run os p c le))
      (λ rest. ⊎_elim (λ (r : (run.first < c.input) × (c.input ≤ run.first + run.many)). ap (λ (d : Chunk). d.kind) (chunk_inside run os p c r.0 r.1)) (λ lt. ap (λ (d : Chunk). d.kind) (chunk_behind run os p c lt)) rest)
      (region_of run c.input)

  not_zero : (n m : ℕ) → 0 < n → 0 < m → (n == 0) ≡ (m == 0)
  not_zero n m a b = ne_eqb n 0 (λ e. omega (arith, e, a)) ∙ sym (ne_eqb m 0 (λ e. omega (arith, e, b)))

  input_made : (n m : ℕ) → InRegion run n → ((n ≤ run.first) → m ≡ n) → ((run.first < n) → 0 < m) → (m == 0) ≡ (n == 0)
  input_made n m r low high =
      ⊎_elim (λ le. ap (λ k. k == 0) (low le))
      (λ rest. ⊎_elim (λ (b : (run.first < n) × (n ≤ run.first + run.many)). not_zero m n (high b.0) (omega (arith, b.0))) (λ lt. let gt : run.first < n = omega (arith, lt) in not_zero m n (high gt) (omega (arith, gt))) rest) r

  chunk_made : (c : Chunk) → ((move c).input == 0) ≡ (c.input == 0)
  chunk_made c = input_made c.input (move c).input (region_of run c.input) (λ le. ap (λ (d : Chunk). d.input) (chunk_before run os p c le)) above
    where
      above : run.first < c.input → 0 < (move c).input
      above gt =
          ⊎_elim (λ le. absurd (omega (arith, gt, le)))
          (λ rest. ⊎_elim (λ (r : (run.first < c.input) × (c.input ≤ run.first + run.many)). let e = ap (λ (d : Chunk). d.input) (chunk_inside run os p c r.0 r.1) in omega (arith, e, cut.place))
          (λ lt. let e = ap (λ (d : Chunk). d.input) (chunk_behind run os p c lt) in omega (arith, e, lt)) rest)
          (region_of run c.input)

  chunk_stays : (c : Chunk) → c.input ≡ 0 → move c ≡ c
  chunk_stays c none = chunk_before run os p c (omega (arith, none))

  -- ---- what holds of one symbol

  pub low_entry : (e : InputSymbol) → e.input ≤ run.first → j.move e ≡ e
  low_entry e le = (not_after run os p cut standing_symbols e le).1

  pub high_entry : (e : InputSymbol) → run.first + run.many < e.input → j.move e ≡ later_symbol run os e
  high_entry e lt = (not_before run os p cut standing_symbols e lt).1

  mid_entry : (e : InputSymbol) → run.first < e.input → e.input ≤ run.first + run.many → j.move e ≡ joined_symbol run os p (al e)
  mid_entry e gt le = (of_run run os p cut standing_symbols e gt le).1

  record Stands (e : InputSymbol) : Type 0 where
    there : list_any (same_entry (al e)) (standing p) ≡ true
    closed : is_open p (al e) ≡ false

  in_run_test : (e : InputSymbol) → run.first < e.input → e.input ≤ run.first + run.many → is_of_run run os e ≡ true
  in_run_test e gt le = and_from (nat_lt run.first e.input) (nat_le e.input (run.first + run.many)) (lt-ltb run.first e.input gt) (grind (arith, nat_tests, le))

  stands_so : (e : InputSymbol) → HeldSymbol run os ls e → run.first < e.input → e.input ≤ run.first + run.many → Stands e
  stands_so e held gt le =
      let a = and_parts (is_placed P (chunk_of e)) (if is_of_run run os e then list_any (same_entry (al e)) (standing p) && not (is_open p (al e)) else true) held in
      let b = and_parts (list_any (same_entry (al e)) (standing p)) (not (is_open p (al e)))
      (sym (ap (λ (t : Bool). if t then list_any (same_entry (al e)) (standing p) && not (is_open p (al e)) else true) (in_run_test e gt le)) ∙ a.1) in
      record { there = b.0; closed = not_true (is_open p (al e)) b.1 }
    where
      not_true : (t : Bool) → not t ≡ true → t ≡ false
      not_true true h = absurd (no_true h)
      not_true false h = refl

  -- what a closed symbol is there
  closed_is : (e : InputSymbol) → Stands e → symbol_for p (al e) ≡ record e.symbol { index = defined_index p (al e) e.symbol.kind }
  closed_is e st = ap (λ (t : Bool). if t then open_symbol p (al e) else record e.symbol { index = defined_index p (al e) e.symbol.kind }) st.closed

  pub joined_is : (e : InputSymbol) → HeldSymbol run os ls e → run.first < e.input → e.input ≤ run.first + run.many
      → j.move e ≡ entry_in L os.joined (number_by same_entry (standing p) (al e)) (record e.symbol { index = defined_index p (al e) e.symbol.kind })
  joined_is e held gt le = mid_entry e gt le ∙ ap (λ x. entry_in L os.joined (number_by same_entry (standing p) (al e)) x) (closed_is e (stands_so e held gt le))

  by_entry : (G : InputSymbol → Type 0) (e : InputSymbol) → HeldSymbol run os ls e
      → (e.input ≤ run.first → G e)
      → (run.first < e.input → e.input ≤ run.first + run.many → G (entry_in L os.joined (number_by same_entry (standing p) (al e)) (record e.symbol { index = defined_index p (al e) e.symbol.kind })))
      → (run.first + run.many < e.input → G (later_symbol run os e)) → G (j.move e)
  by_entry G e held low mid high =
      ⊎_elim (λ le. subst G (sym (low_entry e le)) (low le))
      (λ rest. ⊎_elim (λ (r : (run.first < e.input) × (e.input ≤ run.first + run.many)). subst G (sym (joined_is e held r.0 r.1)) (mid r.0 r.1)) (λ lt. subst G (sym (high_entry e lt)) (high lt)) rest)
      (region_of run e.input)

  entry_chunk : (e : InputSymbol) → HeldSymbol run os ls e → chunk_of (j.move e) ≡ option_map move (chunk_of e)
  entry_chunk e held = by_entry (λ x. chunk_of x ≡ option_map move (chunk_of e)) e held (λ le. low_chunk le e.symbol.kind) (λ gt le. mid_chunk gt le e.symbol.kind) (λ lt. high_chunk lt e.symbol.kind)
    where
      abbrev_none : (b : Bool) (c d : Chunk) → c ≡ d → (if b then None else Some c) ≡ (if b then None else Some d)
      abbrev_none b c d e' = ap (λ x. if b then None else Some x) e'

      through : (b : Bool) (c : Chunk) → option_map move (if b then None else Some c) ≡ (if b then None else Some (move c))
      through true c = refl
      through false c = refl

      low_chunk : e.input ≤ run.first → (k : SymbolKind) → chunk_by e k ≡ option_map move (chunk_by e k)
      low_chunk le Function = ap Some (sym (chunk_before run os p (chunk_at e.input 0 e.index) le))
      low_chunk le Datum = abbrev_none (e.input == 0) (chunk_at e.input 1 e.index) (move (chunk_at e.input 1 e.index)) (sym (chunk_before run os p (chunk_at e.input 1 e.index) le)) ∙ sym (through (e.input == 0) (chunk_at e.input 1 e.index))
      low_chunk le GlobalVar = ap Some (sym (chunk_before run os p (chunk_at e.input 2 e.index) le))
      low_chunk le Section = refl
      low_chunk le Table = refl

      high_chunk : run.first + run.many < e.input → (k : SymbolKind) → chunk_by (later_symbol run os e) k ≡ option_map move (chunk_by e k)
      high_chunk lt Function = ap Some (sym (chunk_behind run os p (chunk_at e.input 0 e.index) lt))
      high_chunk lt Datum =
          ap (λ (t : Bool). if t then None else Some (chunk_at (later run e.input) 1 e.index)) (not_zero (later run e.input) e.input (omega (arith, lt)) (omega (arith, lt)))
          ∙ (abbrev_none (e.input == 0) (chunk_at (later run e.input) 1 e.index) (move (chunk_at e.input 1 e.index)) (sym (chunk_behind run os p (chunk_at e.input 1 e.index) lt)) ∙ sym (through (e.input == 0) (chunk_at e.input 1 e.index)))
      high_chunk lt GlobalVar = ap Some (sym (chunk_behind run os p (chunk_at e.input 2 e.index) lt))
      high_chunk lt Section = refl
      high_chunk lt Table = refl

      joined_entry : SymbolKind → InputSymbol
      joined_entry k = record (entry_in L os.joined (number_by same_entry (standing p) (al e)) (record e.symbol { index = defined_index p (al e) e.symbol.kind })) { index = index_in os.joined (record e.symbol { index = defined_index p (al e) k }) k }

      less : (n a m : ℕ) → n ≡ m → m + a - n ≡ a
      less n a m same = omega (arith, same)

      mid_chunk : run.first < e.input → e.input ≤ run.first + run.many → (k : SymbolKind) → chunk_by (joined_entry k) k ≡ option_map move (chunk_by e k)
      mid_chunk gt le Function =
          ap (λ n. Some (chunk_at os.joined.input 0 n)) (less (length (function_imports os.joined)) (place_of p 0 (chunk_at (alone run e.input) 0 e.index)) (length (open_of p Function)) s.read.functions_imported)
          ∙ ap Some (sym (chunk_inside run os p (chunk_at e.input 0 e.index) gt le))
      mid_chunk gt le Datum =
          ap (λ (t : Bool). if t then None else Some (chunk_at os.joined.input 1 (place_of p 1 (chunk_at (alone run e.input) 1 e.index)))) (not_zero os.joined.input e.input (omega (arith, cut.place)) (omega (arith, gt)))
          ∙ (abbrev_none (e.input == 0) (chunk_at os.joined.input 1 (place_of p 1 (chunk_at (alone run e.input) 1 e.index))) (move (chunk_at e.input 1 e.index)) (sym (chunk_inside run os p (chunk_at e.input 1 e.index) gt le))
          ∙ sym (through (e.input == 0) (chunk_at e.input 1 e.index)))
      mid_chunk gt le GlobalVar =
          ap (λ n. Some (chunk_at os.joined.input 2 n)) (less (length (global_imports os.joined)) (place_of p 2 (chunk_at (alone run e.input) 2 e.index)) (length (open_of p GlobalVar)) s.read.globals_imported)
          ∙ ap Some (sym (chunk_inside run os p (chunk_at e.input 2 e.index) gt le))
      mid_chunk gt le Section = refl
      mid_chunk gt le Table = refl

  pub entry_held : (e : InputSymbol) (c : Chunk) → HeldSymbol run os ls e → chunk_of e ≡ Some c → HeldChunk run os ls c
  entry_held e c held is =
      sym (ap (is_placed P) is) ∙ (and_parts (is_placed P (chunk_of e)) (if is_of_run run os e then list_any (same_entry (al e)) (standing p) && not (is_open p (al e)) else true) held).0

  -- ---- symbols are told apart

  sameness : Same same_entry
  sameness = record { itself = entry_itself; carries = λ x y e z. same_tests (same_entry x z) (same_entry y z) (λ t. entries_follow y x z (entries_turned y x ∙ e) t) (λ t. entries_follow x y z e t) }

  symbols_differ : (a b : InputSymbol) → (a.input ≡ b.input → ⊥) → same_entry a b ≡ false
  symbols_differ a b other = ap (λ (t : Bool). t && (a.place == b.place)) (ne_eqb a.input b.input other)

  entries_apart : (a b : InputSymbol) → HeldSymbol run os ls a → HeldSymbol run os ls b → same_entry (j.move a) (j.move b) ≡ same_entry a b
  entries_apart a b ha hb = by_regions (region_of run a.input) (region_of run b.input)
    where
      joined_entry : InputSymbol → InputSymbol
      joined_entry e = entry_in L os.joined (number_by same_entry (standing p) (al e)) (record e.symbol { index = defined_index p (al e) e.symbol.kind })

      both_inside : (run.first < a.input) × (a.input ≤ run.first + run.many) → (run.first < b.input) × (b.input ≤ run.first + run.many) → same_entry (joined_entry a) (joined_entry b) ≡ same_entry a b
      both_inside ra rb =
          ap (λ (t : Bool). t && (number_by same_entry (standing p) (al a) == number_by same_entry (standing p) (al b))) (eq-eqb os.joined.input os.joined.input refl)
          ∙ same_tests (number_by same_entry (standing p) (al a) == number_by same_entry (standing p) (al b)) (same_entry a b) forth back
        where
          alone_told : same_entry (al a) (al b) ≡ same_entry a b
          alone_told = ap (λ (t : Bool). t && (a.place == b.place)) (lowered run.first a.input b.input (omega (arith, ra.0)) (omega (arith, rb.0)))

          place_a : (k : ℕ) × (position (same_entry (al a)) (standing p) ≡ Some k)
          place_a = let h = has_any (same_entry (al a)) (standing p) (stands_so a ha ra.0 ra.1).there in placed (same_entry (al a)) (standing p) h.0 h.1 h.2

          place_b : (k : ℕ) × (position (same_entry (al b)) (standing p) ≡ Some k)
          place_b = let h = has_any (same_entry (al b)) (standing p) (stands_so b hb rb.0 rb.1).there in placed (same_entry (al b)) (standing p) h.0 h.1 h.2

          forth : (number_by same_entry (standing p) (al a) == number_by same_entry (standing p) (al b)) ≡ true → same_entry a b ≡ true
          forth e =
              let numbers = eqb-true (number_by same_entry (standing p) (al a)) (number_by same_entry (standing p) (al b)) e in
              let ks : place_a.0 ≡ place_b.0 = sym (ap (λ o. unwrap_or o 0) place_a.1) ∙ (numbers ∙ ap (λ o. unwrap_or o 0) place_b.1) in
              sym alone_told ∙ one_place same_entry sameness (al a) (al b) (standing p) place_a.0 place_a.1 (place_b.1 ∙ ap Some (sym ks))

          back : same_entry a b ≡ true → (number_by same_entry (standing p) (al a) == number_by same_entry (standing p) (al b)) ≡ true
          back e =
              eq-eqb (number_by same_entry (standing p) (al a)) (number_by same_entry (standing p) (al b))
              (ap (λ o. unwrap_or o 0) (same_place same_entry sameness (al a) (al b) (standing p) (alone_told ∙ e)))

      by_regions : InRegion run a.input → InRegion run b.input → same_entry (j.move a) (j.move b) ≡ same_entry a b
      by_regions (inl la) (inl lb) = ap (λ x. same_entry x (j.move b)) (low_entry a la) ∙ ap (same_entry a) (low_entry b lb)
      by_regions (inl la) (inr (inl rb)) =
          ap (λ x. same_entry x (j.move b)) (low_entry a la) ∙ (ap (same_entry a) (joined_is b hb rb.0 rb.1)
          ∙ (symbols_differ a (joined_entry b) (λ e. omega (arith, e, la, cut.place)) ∙ sym (symbols_differ a b (λ e. omega (arith, e, la, rb.0)))))
      by_regions (inl la) (inr (inr bb)) =
          ap (λ x. same_entry x (j.move b)) (low_entry a la) ∙ (ap (same_entry a) (high_entry b bb)
          ∙ (symbols_differ a (later_symbol run os b) (λ e. omega (arith, e, la, bb, cut.some)) ∙ sym (symbols_differ a b (λ e. omega (arith, e, la, bb)))))
      by_regions (inr (inl ra)) (inl lb) =
          ap (λ x. same_entry x (j.move b)) (joined_is a ha ra.0 ra.1) ∙ (ap (same_entry (joined_entry a)) (low_entry b lb)
          ∙ (symbols_differ (joined_entry a) b (λ e. omega (arith, e, lb, cut.place)) ∙ sym (symbols_differ a b (λ e. omega (arith, e, lb, ra.0)))))
      by_regions (inr (inl ra)) (inr (inl rb)) =
          ap (λ x. same_entry x (j.move b)) (joined_is a ha ra.0 ra.1) ∙ (ap (same_entry (joined_entry a)) (joined_is b hb rb.0 rb.1) ∙ both_inside ra rb)
      by_regions (inr (inl ra)) (inr (inr bb)) =
          ap (λ x. same_entry x (j.move b)) (joined_is a ha ra.0 ra.1) ∙ (ap (same_entry (joined_entry a)) (high_entry b bb)
          ∙ (symbols_differ (joined_entry a) (later_symbol run os b) (λ e. omega (arith, e, bb, cut.place, cut.some)) ∙ sym (symbols_differ a b (λ e. omega (arith, e, bb, ra.1)))))
      by_regions (inr (inr ba)) (inl lb) =
          ap (λ x. same_entry x (j.move b)) (high_entry a ba) ∙ (ap (same_entry (later_symbol run os a)) (low_entry b lb)
          ∙ (symbols_differ (later_symbol run os a) b (λ e. omega (arith, e, lb, ba, cut.some)) ∙ sym (symbols_differ a b (λ e. omega (arith, e, lb, ba)))))
      by_regions (inr (inr ba)) (inr (inl rb)) =
          ap (λ x. same_entry x (j.move b)) (high_entry a ba) ∙ (ap (same_entry (later_symbol run os a)) (joined_is b hb rb.0 rb.1)
          ∙ (symbols_differ (later_symbol run os a) (joined_entry b) (λ e. omega (arith, e, ba, cut.place, cut.some)) ∙ sym (symbols_differ a b (λ e. omega (arith, e, ba, rb.1)))))
      by_regions (inr (inr ba)) (inr (inr bb)) =
          ap (λ x. same_entry x (j.move b)) (high_entry a ba) ∙ (ap (same_entry (later_symbol run os a)) (high_entry b bb)
          ∙ ap (λ (t : Bool). t && (a.place == b.place)) (later_told a.input b.input ba bb))

  entry_above : (e : InputSymbol) → HeldSymbol run os ls e → run.first < e.input → 0 < (j.move e).input
  entry_above e held gt =
      by_entry (λ x. 0 < x.input) e held (λ le. absurd (omega (arith, le, gt))) (λ g le. omega (arith, cut.place)) (λ lt. omega (arith, lt))

  is_moving : PartsMove run os ls
  is_moving = record {
    chunks_apart = chunks_apart;
    chunk_kind = λ c held. chunk_kind c;
    chunk_made = λ c held. chunk_made c;
    chunk_stays = λ c held none. chunk_stays c none;
    entries_apart = entries_apart;
    entry_kind = λ e held. by_entry (λ x. x.symbol.kind ≡ e.symbol.kind) e held (λ le. refl) (λ gt le. refl) (λ lt. refl);
    entry_name = λ e held. by_entry (λ x. name_of x ≡ name_of e) e held (λ le. refl) (λ gt le. refl) (λ lt. refl);
    entry_flags = λ e held. by_entry (λ x. x.symbol.flags ≡ e.symbol.flags) e held (λ le. refl) (λ gt le. refl) (λ lt. refl);
    entry_offset = λ e held. by_entry (λ x. x.symbol.offset ≡ e.symbol.offset) e held (λ le. refl) (λ gt le. refl) (λ lt. refl);
    entry_made = λ e held. input_made e.input (j.move e).input (region_of run e.input) (λ le. ap (λ (x : InputSymbol). x.input) (low_entry e le)) (entry_above e held);
    entry_stays = λ e held none. low_entry e (omega (arith, none));
    entry_chunk = entry_chunk;
    entry_held = entry_held;
  }

pub parts_are_moved : PartsAreMoved
parts_are_moved run os ls s = is_moving run os ls s
