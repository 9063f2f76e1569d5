-- Rows show the parts of the definition.
use Rattle.std.proofs.Common.{◌≡◌, ℕ, zero, suc, ◌+◌, ◌<◌, Bool, true, false, cond, not, ◌∙◌, List, [], ◌∷◌, ◌++◌, refl, ap, sym, subst, arith, Option, Some, None, length, ℤ, nat_lt}
use Rattle.std.specs.Prelude.{◌==◌, ◌&&◌, ◌||◌, option_and_then, slice_get, slice_index_or, filter, filter_map, option_map, if◌then◌else◌, pos}
use Rattle.std.specs.List.{AllZip, cons_option}
use Rattle.std.proofs.lemmas.Bool.Decides.{nat_tests}
use Rattle.std.proofs.lemmas.List.Elements.{filter-append}
use Rattle.std.proofs.lemmas.Option.{slice_get_within, get_or_from_slice_get}
use Rattle.link_program.specs.wl_base.Choice.{given}
use Rattle.link_program.specs.wl_base.declared.span.Span.{Span}
use Rattle.link_program.specs.wasm_types.declared.function.FuncType.{FuncType}
use Rattle.link_program.specs.linking_section.declared.init.InitFunc.{InitFunc}
use Rattle.link_program.specs.linking_section.Flags.{is_undefined}
use Rattle.link_program.specs.reloc_section.declared.entry.Reloc.{Reloc}
use Rattle.link_program.specs.body_windows.declared.operand.Operand.{Operand}
use Rattle.link_program.specs.body_windows.declared.operand.Operand.TheVariants as operands
use Rattle.link_program.specs.object_parts.declared.parts.GlobalDef.{GlobalDef}
use Rattle.link_program.specs.object_columns.declared.functions.FunctionDef.{FunctionDef}
use Rattle.link_program.specs.object_columns.declared.segments.SegmentDef.{SegmentDef}
use Rattle.link_program.specs.object_file.declared.object.Object.{Object}
use Rattle.link_program.specs.object_file.Spaces.{written_type, function_imports}
use Rattle.link_program.specs.mark_bits.declared.chunk.Chunk.{Chunk}
use Rattle.link_program.specs.name_rules.Entries.{InputSymbol, ImportKey, is_kept, symbols_of}
use Rattle.link_program.specs.name_rules.Meanings.{Meaning, null, Resolved, is_init_use}
use Rattle.link_program.specs.name_entries.Parts.{has_flag, ArePartsOf}
use Rattle.link_program.specs.round_rules.Rounds.{Candidate}
use Rattle.link_program.specs.link_rules.Program as rules
use Rattle.link_program.specs.link_rules.Program.{Ref, is_mismatch, variant, ref_to, ref_in, operand_named as rule_operand, window_named as rule_window, a_symbol, a_type, indexed, function_part, segment_part, global_part, is_part_kept, parts_in, kept_in, span_of, init_call, init_calls_in, is_skipped}
use Rattle.link_program.specs.declared.symbol.Symbol.{Symbol}
use Rattle.link_program.specs.declared.named.Named.{Named}
use Rattle.link_program.specs.declared.named.Named.TheVariants as items
use Rattle.link_program.specs.Told.{told_symbol, told_variant}
use Rattle.link_program.specs.Seen.{seen_symbol, seen_type, seen_named, told_named, NamesOne, no_symbol, a_function, seen_content, told_content, HasType}
use Rattle.program_tables.specs.Views.{View, called_from, number_named, type_from, source_from}
use Rattle.program_tables.specs.Rows.{Row, keeps_chunk, symbol_named, operand_named, window_named, function_row, segment_row, global_row, keeps_row, rows_in}
use Rattle.program_tables.specs.declared.inits.InitCall.{InitCall}
use Rattle.program_tables.specs.Inits.{call_by, calls_in}
use Rattle.program_tables.proofs.Lists.{zip_append, zip_filter, zip_indexed}
use Rattle.program_tables.proofs.Typed.{IsNumberOf}

-- ---- what calls name

-- What a call names, or another reference: the variant where the link is like lld's and the call is by another type.
abbrev pub picked : Bool → Bool → Ref → rules.Named
picked true other ref = a_symbol (if other then record ref { entry = variant ref.entry; meaning = null } else ref)
picked false other ref = a_symbol ref

abbrev pub named_by : Bool → List InputSymbol → rules.Named → rules.Named
named_by like es (a_symbol ref) = picked like ((ref.kind == 0) && is_mismatch es ref.entry ref.meaning) ref
named_by like es (a_type w) = a_type w

-- A call names this symbol, or the one of the number itself.
abbrev pub IsNamedBy : Bool → Symbol → List Symbol → ℕ → ℕ → Type 0
IsNamedBy true v symbols number called = slice_get symbols called ≡ Some v
IsNamedBy false v symbols number called = called ≡ number

-- ---- what an object's numbers stand for

-- What the numbers of a view stand for.
pub record IsView (like : Bool) (es : List InputSymbol) (names : List (List ℕ)) (imports : List ImportKey) (symbols : List Symbol) (types : List FuncType) (all : List Candidate) (objects : List Object) (r : Resolved) (v : View) : Type 0 where
  pub object : v.object ≡ r.object
  pub row : r.symbols ≡ symbols_of objects v.object
  pub entries : length r.symbols ≡ length v.object.symbols
  pub meanings : length r.meanings ≡ length v.object.symbols
  pub told : (k : ℕ) (e : InputSymbol) (m : Meaning) → slice_get r.symbols k ≡ Some e → slice_get r.meanings k ≡ Some m
      → slice_get symbols (v.first + k) ≡ Some (told_symbol names imports e m)
  pub called : (k : ℕ) (e : InputSymbol) (m : Meaning) → slice_get r.symbols k ≡ Some e → slice_get r.meanings k ≡ Some m
      → IsNamedBy (like && is_mismatch es e m) (told_variant names imports (variant e)) symbols (v.first + k) (called_from v k)
  pub typed : (index : ℕ) → IsNumberOf types (type_from v index) (written_type v.object index)
  pub source : (s : Span) → source_from v.home s ≡ span_of all v.object.input s
  pub parts : ArePartsOf objects v.object v.parts
  pub imported : length v.parts.imports.functions ≡ length (function_imports v.object)

-- ---- places

missing : {A : Type 0} (xs : List A) (k : ℕ) → k < length xs → slice_get xs k ≡ None → ⊥
missing [] k lt none = absurd (omega arith)
missing (x ∷ xs) zero lt none = let e : Some x ≡ None = none in absurd cc
missing (x ∷ xs) (suc k) lt none = missing xs k (omega arith) none

below : (a b : ℕ) → nat_lt a b ≡ true → a < b
below a b e = grind (arith, nat_tests)

not_below : (a b : ℕ) → nat_lt a b ≡ false → a < b → ⊥
not_below a b e lt = grind (arith, nat_tests)

-- ---- what windows name

-- What an item shows, and that it is there.
pub record ShowsNamed (like : Bool) (es : List InputSymbol) (symbols : List Symbol) (types : List FuncType) (names : List (List ℕ)) (imports : List ImportKey) (n : Named) (r : rules.Named) : Type 0 where
  pub seen : seen_named symbols types n ≡ told_named names imports (named_by like es r)
  pub there : NamesOne symbols types n

-- The same, where there is one.
abbrev pub BothNamed : Bool → List InputSymbol → List Symbol → List FuncType → List (List ℕ) → List ImportKey → Option Named → Option rules.Named → Type 0
BothNamed like es symbols types names imports (Some n) (Some r) = ShowsNamed like es symbols types names imports n r
BothNamed like es symbols types names imports None None = Unit {0}
BothNamed like es symbols types names imports (Some n) None = ⊥
BothNamed like es symbols types names imports None (Some r) = ⊥

-- What a row shows of a part.
pub record ShowsPart (like : Bool) (es : List InputSymbol) (symbols : List Symbol) (types : List FuncType) (names : List (List ℕ)) (imports : List ImportKey) (row : Row) (p : rules.Part) : Type 0 where
  pub chunk : row.part.chunk ≡ p.chunk
  pub content : seen_content types row.part.content ≡ told_content p.content
  pub source : row.part.source ≡ p.source
  pub named : AllZip (ShowsNamed like es symbols types names imports) row.named p.named
  pub typed : HasType types row.part.content

-- What the call of an init function shows.
pub record ShowsCall (like : Bool) (es : List InputSymbol) (symbols : List Symbol) (types : List FuncType) (names : List (List ℕ)) (imports : List ImportKey) (c : InitCall) (d : rules.InitCall) : Type 0 where
  pub priority : c.priority ≡ d.priority
  pub named : ShowsNamed like es symbols types names imports c.named (a_symbol d.ref)

-- the symbol of a number, which is there
at_number : (symbols : List Symbol) (names : List (List ℕ)) (imports : List ImportKey) (ref : Ref) (n : ℕ) (x : Symbol) → slice_get symbols n ≡ Some x → x ≡ told_symbol names imports ref.entry ref.meaning
    → (seen_symbol (record { place = ref.place; kind = ref.kind; addend = ref.addend; symbol = slice_index_or symbols n no_symbol }) ≡ told_named names imports (a_symbol ref)) × (n < length symbols)
at_number symbols names imports ref n x at is = (
  ap (λ y. seen_symbol (record { place = ref.place; kind = ref.kind; addend = ref.addend; symbol = y })) (get_or_from_slice_get symbols n x no_symbol at ∙ is),
  slice_get_within symbols n x at,
)

named_at : (symbols : List Symbol) (names : List (List ℕ)) (imports : List ImportKey) (like calls other : Bool) (ref : Ref) (n c : ℕ) → slice_get symbols n ≡ Some (told_symbol names imports ref.entry ref.meaning)
    → IsNamedBy (like && other) (told_variant names imports (variant ref.entry)) symbols n c
    → (seen_symbol (record { place = ref.place; kind = ref.kind; addend = ref.addend; symbol = slice_index_or symbols (if calls then c else n) no_symbol })
    ≡ told_named names imports (picked like (calls && other) ref)) × ((if calls then c else n) < length symbols)
named_at symbols names imports true true true ref n c at by =
    at_number symbols names imports (record ref { entry = variant ref.entry; meaning = null }) c (told_variant names imports (variant ref.entry)) by refl
named_at symbols names imports true true false ref n c at by =
    at_number symbols names imports ref c (told_symbol names imports ref.entry ref.meaning) (ap (slice_get symbols) by ∙ at) refl
named_at symbols names imports true false other ref n c at by = at_number symbols names imports ref n (told_symbol names imports ref.entry ref.meaning) at refl
named_at symbols names imports false true other ref n c at by =
    at_number symbols names imports ref c (told_symbol names imports ref.entry ref.meaning) (ap (slice_get symbols) by ∙ at) refl
named_at symbols names imports false false other ref n c at by = at_number symbols names imports ref n (told_symbol names imports ref.entry ref.meaning) at refl

module _ (like : Bool) (es : List InputSymbol) (names : List (List ℕ)) (imports : List ImportKey) (symbols : List Symbol) (types : List FuncType) (all : List Candidate) (objects : List Object) (r : Resolved) (v : View)
    (is : IsView like es names imports symbols types all objects r v) where
  there_named : (place kind : ℕ) (addend : ℤ) (s : ℕ) (e : InputSymbol) (m : Meaning) → slice_get r.symbols s ≡ Some e → slice_get r.meanings s ≡ Some m
      → ShowsNamed like es symbols types names imports (items.Symbol kind place addend (number_named v kind s)) (a_symbol (record { place = place; kind = kind; addend = addend; entry = e; meaning = m }))
  there_named place kind addend s e m at_e at_m =
      let found = named_at symbols names imports like (kind == 0) (is_mismatch es e m) (record { place = place; kind = kind; addend = addend; entry = e; meaning = m }) (v.first + s) (called_from v s)
      (is.told s e m at_e at_m) (is.called s e m at_e at_m) in
      record { seen = found.0; there = found.1 }

  symbol_shown : (place kind : ℕ) (addend : ℤ) (s : ℕ) (inside : Bool) (e : Option InputSymbol) (m : Option Meaning) → nat_lt s (length v.object.symbols) ≡ inside
      → slice_get r.symbols s ≡ e → slice_get r.meanings s ≡ m
      → BothNamed like es symbols types names imports (given inside (items.Symbol kind place addend (number_named v kind s))) (option_map a_symbol (ref_to place kind addend e m))
  symbol_shown place kind addend s true (Some e) (Some m) lt at_e at_m = there_named place kind addend s e m at_e at_m
  symbol_shown place kind addend s true (Some e) None lt at_e at_m =
      let inside : s < length r.meanings = subst (λ n. s < n) (sym is.meanings) (below s (length v.object.symbols) lt) in
      absurd (missing r.meanings s inside at_m)
  symbol_shown place kind addend s true None m lt at_e at_m =
      let inside : s < length r.symbols = subst (λ n. s < n) (sym is.entries) (below s (length v.object.symbols) lt) in
      absurd (missing r.symbols s inside at_e)
  symbol_shown place kind addend s false (Some e) m lt at_e at_m =
      let inside : s < length v.object.symbols = subst (λ n. s < n) is.entries (slice_get_within r.symbols s e at_e) in
      absurd (not_below s (length v.object.symbols) lt inside)
  symbol_shown place kind addend s false None m lt at_e at_m = tt

  named_shown : (place kind : ℕ) (addend : ℤ) (s : ℕ) → BothNamed like es symbols types names imports (symbol_named v place kind addend s) (option_map a_symbol (ref_in r place kind s addend))
  named_shown place kind addend s = symbol_shown place kind addend s (nat_lt s (length v.object.symbols)) (slice_get r.symbols s) (slice_get r.meanings s) refl refl refl

  operand_shown : (o : Operand) → BothNamed like es symbols types names imports (operand_named v o) (rule_operand r o)
  operand_shown operands.Number = tt
  operand_shown (operands.Symbol kind place s addend) = named_shown place kind addend s
  operand_shown (operands.TypeRef place index) =
      let t = is.typed index in
      record {
        seen = ap (seen_type place) (t.is ∙ ap (λ (o : Object). written_type o index) is.object);
        there = t.below;
      }
  operand_shown operands.TableZero = tt

  window_shown : (w : Reloc) → BothNamed like es symbols types names imports (window_named v w) (rule_window r w)
  window_shown w = named_shown w.offset w.kind w.addend w.index

  all_shown : {X : Type 0} (f : X → Option Named) (g : X → Option rules.Named) → ((x : X) → BothNamed like es symbols types names imports (f x) (g x)) → (xs : List X)
      → AllZip (ShowsNamed like es symbols types names imports) (filter_map f xs) (filter_map g xs)
  all_shown f g each [] = tt
  all_shown {X = X} f g each (x ∷ xs) = by (f x) (g x) (each x) (all_shown f g each xs)
    where
      by : (a : Option Named) (b : Option rules.Named) → BothNamed like es symbols types names imports a b → AllZip (ShowsNamed like es symbols types names imports) (filter_map f xs) (filter_map g xs)
          → AllZip (ShowsNamed like es symbols types names imports) (cons_option a (filter_map f xs)) (cons_option b (filter_map g xs))
      by (Some n) (Some m) first rest = (first, rest)
      by None None first rest = rest
      by (Some n) None first rest = absurd first
      by None (Some m) first rest = absurd first

  -- ---- parts

  input_is : v.object.input ≡ r.object.input
  input_is = ap (λ (o : Object). o.input) is.object

  source_shown : (s : Span) → source_from v.home s ≡ span_of all r.object.input s
  source_shown s = is.source s ∙ ap (λ n. span_of all n s) input_is

  function_shown : (index : ℕ) (f : FunctionDef) → ShowsPart like es symbols types names imports (function_row v index f) (function_part all objects r index f)
  function_shown index f =
      let t = is.typed f.type_index in
      record {
        chunk = ap (λ n. record { input = n; kind = 0; index = index }) input_is;
        content = ap a_function (t.is ∙ ap (λ (o : Object). written_type o f.type_index) is.object);
        source = source_shown f.span;
        named = all_shown (operand_named v) (rule_operand r) operand_shown f.operands;
        typed = t.below;
      }

  segment_shown : (index : ℕ) (g : SegmentDef) → ShowsPart like es symbols types names imports (segment_row v index g) (segment_part all objects r index g)
  segment_shown index g = record {
    chunk = ap (λ n. record { input = n; kind = 1; index = index }) input_is;
    content = refl;
    source = source_shown g.span;
    named = all_shown (window_named v) (rule_window r) window_shown g.windows;
    typed = tt;
  }

  global_shown : (index : ℕ) (g : GlobalDef) → ShowsPart like es symbols types names imports (global_row v index g) (global_part all objects r index g)
  global_shown index g = record {
    chunk = ap (λ n. record { input = n; kind = 2; index = index }) input_is;
    content = refl;
    source = refl;
    named = tt;
    typed = tt;
  }

  chunk_kept : (c : Chunk) → keeps_chunk v c ≡ kept_in objects r.object c
  chunk_kept c =
      ap (λ n. if c.kind == 0 then not (has_flag v.parts.dropped_functions (c.index + n)) else if c.kind == 1 then not (has_flag v.parts.dropped_segments c.index) else true) is.imported
      ∙ ap (λ b. if c.kind == 0 then b else if c.kind == 1 then not (has_flag v.parts.dropped_segments c.index) else true) (sym (is.parts.functions (c.index + length (function_imports v.object))))
      ∙ ap (λ b. if c.kind == 0 then is_kept objects v.object 1 (c.index + length (function_imports v.object)) else if c.kind == 1 then b else true) (sym (is.parts.segments c.index))
      ∙ ap (λ (o : Object). kept_in objects o c) is.object

  part_kept : (row : Row) (p : rules.Part) → ShowsPart like es symbols types names imports row p → keeps_row v row ≡ is_part_kept all objects r p
  part_kept row p shows = chunk_kept row.part.chunk ∙ ap (kept_in objects r.object) shows.chunk

  kind_shown : {X : Type 0} (f : ℕ → X → Row) (g : ℕ → X → rules.Part) → ((i : ℕ) (x : X) → ShowsPart like es symbols types names imports (f i x) (g i x)) → (xs ys : List X) → xs ≡ ys
      → AllZip (ShowsPart like es symbols types names imports) (filter (keeps_row v) (indexed f 0 xs)) (filter (is_part_kept all objects r) (indexed g 0 ys))
  kind_shown f g each xs ys same =
      subst (λ l. AllZip (ShowsPart like es symbols types names imports) (filter (keeps_row v) (indexed f 0 xs)) (filter (is_part_kept all objects r) (indexed g 0 l))) same
      (zip_filter (ShowsPart like es symbols types names imports) (keeps_row v) (is_part_kept all objects r) part_kept (indexed f 0 xs) (indexed g 0 xs)
      (zip_indexed (ShowsPart like es symbols types names imports) f g each 0 xs))

  parts_split : parts_in all objects r ≡ filter (is_part_kept all objects r) (indexed (function_part all objects r) 0 r.object.functions)
      ++ filter (is_part_kept all objects r) (indexed (segment_part all objects r) 0 r.object.segments)
      ++ filter (is_part_kept all objects r) (indexed (global_part all objects r) 0 r.object.globals)
  parts_split =
      let k = is_part_kept all objects r in
      let a = indexed (function_part all objects r) 0 r.object.functions in
      let b = indexed (segment_part all objects r) 0 r.object.segments in
      let c = indexed (global_part all objects r) 0 r.object.globals in
      filter-append k (a ++ b) c ∙ ap (λ l. l ++ filter k c) (filter-append k a b)

  pub rows_shown : AllZip (ShowsPart like es symbols types names imports) (rows_in v) (parts_in all objects r)
  rows_shown =
      let shows = ShowsPart like es symbols types names imports in
      let k = is_part_kept all objects r in
      subst (λ l. AllZip shows (rows_in v) l) (sym parts_split)
      (zip_append shows (filter (keeps_row v) (indexed (function_row v) 0 v.object.functions) ++ filter (keeps_row v) (indexed (segment_row v) 0 v.object.segments))
      (filter (keeps_row v) (indexed (global_row v) 0 v.object.globals))
      (filter k (indexed (function_part all objects r) 0 r.object.functions) ++ filter k (indexed (segment_part all objects r) 0 r.object.segments))
      (filter k (indexed (global_part all objects r) 0 r.object.globals))
      (zip_append shows (filter (keeps_row v) (indexed (function_row v) 0 v.object.functions)) (filter (keeps_row v) (indexed (segment_row v) 0 v.object.segments))
      (filter k (indexed (function_part all objects r) 0 r.object.functions)) (filter k (indexed (segment_part all objects r) 0 r.object.segments))
      (kind_shown (function_row v) (function_part all objects r) function_shown v.object.functions r.object.functions (ap (λ (o : Object). o.functions) is.object))
      (kind_shown (segment_row v) (segment_part all objects r) segment_shown v.object.segments r.object.segments (ap (λ (o : Object). o.segments) is.object)))
      (kind_shown (global_row v) (global_part all objects r) global_shown v.object.globals r.object.globals (ap (λ (o : Object). o.globals) is.object)))

  -- ---- init functions

  skipped_is : (undefined defines : Bool) → not (not undefined && not defines) ≡ defines || undefined
  skipped_is true true = refl
  skipped_is true false = refl
  skipped_is false true = refl
  skipped_is false false = refl

  used_call : (used kept : Bool) (a : InitCall) (b : rules.InitCall) (rest : List InitCall) (others : List rules.InitCall) → kept ≡ used → ShowsCall like es symbols types names imports a b
      → AllZip (ShowsCall like es symbols types names imports) rest others → AllZip (ShowsCall like es symbols types names imports) (cons_option (given used a) rest) (cond kept (b ∷ others) others)
  used_call true true a b rest others same first all = (first, all)
  used_call false false a b rest others same first all = all
  used_call true false a b rest others same first all = absurd cc
  used_call false true a b rest others same first all = absurd cc

  one_call : (i : InitFunc) (e : Option InputSymbol) (m : Option Meaning) (rest : List InitCall) (others : List rules.InitCall) → slice_get r.symbols i.symbol ≡ e → slice_get r.meanings i.symbol ≡ m
      → AllZip (ShowsCall like es symbols types names imports) rest (filter (λ c. not (is_skipped c)) others)
      → AllZip (ShowsCall like es symbols types names imports) (cons_option (option_and_then (call_by v i) e) rest)
      (filter (λ c. not (is_skipped c)) (cons_option (option_map (λ ref. record { priority = i.priority; ref = ref }) (ref_to 0 0 (pos 0) e m)) others))
  one_call i (Some e) (Some m) rest others at_e at_m all =
      used_call (is_init_use e) (not (not (is_undefined e.symbol) && not e.defines)) (record { priority = i.priority; named = items.Symbol 0 0 (pos 0) (called_from v i.symbol) })
      (record { priority = i.priority; ref = record { place = 0; kind = 0; addend = pos 0; entry = e; meaning = m } }) rest (filter (λ c. not (is_skipped c)) others)
      (skipped_is (is_undefined e.symbol) e.defines) (record { priority = refl; named = there_named 0 0 (pos 0) i.symbol e m at_e at_m }) all
  one_call i (Some e) None rest others at_e at_m all =
      let there = slice_get_within r.symbols i.symbol e at_e in
      let inside : i.symbol < length r.meanings = subst (λ n. i.symbol < n) (is.entries ∙ sym is.meanings) there in
      absurd (missing r.meanings i.symbol inside at_m)
  one_call i None m rest others at_e at_m all = all

  calls_by : (inits : List InitFunc) → AllZip (ShowsCall like es symbols types names imports) (filter_map (λ i. option_and_then (call_by v i) (slice_get r.symbols i.symbol)) inits)
      (filter (λ c. not (is_skipped c)) (filter_map (init_call r) inits))
  calls_by [] = tt
  calls_by (i ∷ inits) =
      one_call i (slice_get r.symbols i.symbol) (slice_get r.meanings i.symbol) (filter_map (λ i. option_and_then (call_by v i) (slice_get r.symbols i.symbol)) inits)
      (filter_map (init_call r) inits) refl refl (calls_by inits)

  pub calls_shown : AllZip (ShowsCall like es symbols types names imports) (calls_in objects (Some v)) (init_calls_in r)
  calls_shown =
      subst (λ l. AllZip (ShowsCall like es symbols types names imports) (calls_in objects (Some v)) (filter (λ c. not (is_skipped c)) (filter_map (init_call r) l)))
      (ap (λ (o : Object). o.inits) is.object)
      (subst (λ row. AllZip (ShowsCall like es symbols types names imports) (filter_map (λ i. option_and_then (call_by v i) (slice_get row i.symbol)) v.object.inits)
      (filter (λ c. not (is_skipped c)) (filter_map (init_call r) v.object.inits))) is.row (calls_by v.object.inits))
