-- Bodies, globals and data as the data tell them, of a layout.
use Rattle.std.proofs.Common.{◌≡◌, ℕ, zero, suc, ◌+◌, ◌<◌, ◌==◌, Bool, true, false, not, ◌&&◌, cond, List, [], ◌∷◌, ◌++◌, map, filter, filter_map, flat_map, length, get_or, slice_get, position, find, Option, Some, None, option_map, refl, sym, ap, subst, ◌∙◌, arith, eq-eqb, eqb-true}
use Rattle.std.specs.Prelude.{if◌then◌else◌, slice_index_or, unwrap_or}
use Rattle.std.specs.List.{list_any, list_all, All, cons_option}
use Rattle.std.proofs.lemmas.Bool.{and_parts, and_from}
use Rattle.std.proofs.lemmas.List.Elements.{All-head, All-tail, All-cons, All-append}
use Rattle.std.proofs.lemmas.Option.{slice_get-map, get_or_from_slice_get}
use Rattle.link_program.specs.wasm_types.declared.function.FuncType.{FuncType}
use Rattle.link_program.specs.wasm_module.declared.parts.ModuleGlobal.{ModuleGlobal}
use Rattle.link_program.specs.index_layout.Numbers.{number_by}
use Rattle.link_program.specs.linking_section.Flags.{kind_code}
use Rattle.link_program.specs.linking_section.declared.symbol.SymbolKind.TheVariants.{Datum}
use Rattle.link_program.specs.made_symbols.declared.mode.Mode.{Mode}
use Rattle.link_program.specs.made_symbols.declared.mode.Mode.TheVariants.{Plain, Shared}
use Rattle.link_program.specs.mark_bits.declared.chunk.Chunk.{Chunk}
use Rattle.link_program.specs.memory_layout.declared.rules.Places.{Places}
use Rattle.ctor_call.specs.Body.{ctor_body}
use Rattle.link_program.specs.image_emit.declared.tree.Source.{Source}
use Rattle.link_program.specs.image_emit.declared.tree.Source.TheVariants.{File, Own}
use Rattle.link_program.specs.name_rules.Entries.{InputSymbol, ImportKey, is_kind}
use Rattle.link_program.specs.name_rules.Meanings.{is_nothing}
use Rattle.dylink_out.specs.Shared.{apply_body}
use Rattle.link_program.specs.link_rules.Loader.{words}
use Rattle.link_program.specs.link_rules.Program as rules
use Rattle.link_program.specs.link_rules.Program.{chunk_at, same_chunk, a_symbol, a_type, named_ref, refs, function, segment, global, linker_made}
use Rattle.link_program.specs.link_rules.Keys as keys
use Rattle.link_program.specs.link_rules.Keys.{outside, linker_function, stub, own, outside_global, linker_global, own_global, got, exported_datum, got_entry, got_import, got_null, is_function_at, made_function_key, own_function_key, ref_function, same_function}
use Rattle.link_program.specs.link_rules.Marks.{refs_of, by_mode}
use Rattle.link_program.specs.link_rules.Values as values
use Rattle.link_program.specs.link_rules.Values.{segments, solid_segments}
use Rattle.link_program.specs.link_rules.Output as output
use Rattle.link_program.specs.link_rules.Output.{layout}
use Rattle.link_program.specs.declared.named.Named.{Named}
use Rattle.link_program.specs.declared.named.Named.TheVariants as names_of
use Rattle.link_program.specs.declared.part.Content.{Content}
use Rattle.link_program.specs.declared.part.Content.TheVariants as contents
use Rattle.link_program.specs.declared.symbol.Symbol.{Symbol}
use Rattle.link_program.specs.Seen.{SeenContent, a_function, a_segment, a_global, the_linkers, seen_content, told_content, seen_named, told_named, no_symbol, SeenNamed, seen_symbol, seen_type}
use Rattle.link_program.specs.Keys.{told_function, told_global, told_got, same_function_key}
use Rattle.link_program.specs.Live.{AreLive}
use Rattle.link_layout.specs.link_numbers.Knows.{KnowsFunction, KnowsGlobal, KnowsGot}
use Rattle.link_layout.specs.link_numbers.Laws.{TellsNumbers}
use Rattle.link_layout.specs.declared.values.Layout.{Layout}
use Rattle.link_program.specs.Look.{part_at, row_at}
use Rattle.link_layout.specs.Placed.{chunks_of, address_among}
use Rattle.link_program.specs.Look.{chunk_number}
use Rattle.link_program.specs.Meant.{function_meant}
use Rattle.link_layout.specs.Seen.{is_solid_at}
use Rattle.link_layout.specs.Layout.{looked}
use Rattle.link_layout.proofs.Pairs.{map_pairs, pairs_within, find_pair}
use Rattle.link_layout.proofs.Parts.{part_told, row_told, same_part}
use Rattle.link_layout.proofs.KeysTold.{function_told, function_known, meant_told}
use Rattle.link_image.specs.Sections.{call_seen, calls_seen, file_seen, linker_bytes, body_seen, constant, entry_of, cell_seen, content_seen, part_global, global_made, block_at, first_of}
use Rattle.link_program.proofs.Chunks.{stands_at}
use Rattle.link_loader.proofs.Lists.{given_is, all_chosen, not_true, filter_map_same, filter_map_but, first_ones, last_ones}
use Rattle.link_loader.proofs.Known as all_known
use Rattle.link_loader.proofs.Known.{MeansKnown}
use Rattle.link_loader.proofs.Stands.{Stands}
use Rattle.link_loader.proofs.PlacesTold.{address_told}

-- ---- calls

module _ (names : List (List ℕ)) (imports : List ImportKey) (l : values.Layout) (tells : TellsNumbers names imports l.numbers) where
  abbrev seen_call : SeenNamed → Option ℕ
  seen_call (seen_symbol r) = Some (number_by same_function_key (map (told_function names imports) l.numbers.functions) (function_meant r.symbol.name r.symbol.lead))
  seen_call (seen_type place t) = None

  call_is_seen : (symbols : List Symbol) (types : List FuncType) (n : Named) → call_seen (map (told_function names imports) l.numbers.functions) symbols n ≡ seen_call (seen_named symbols types n)
  call_is_seen symbols types (names_of.Symbol kind place addend symbol) = refl
  call_is_seen symbols types (names_of.Type place number) = refl

  told_call : (ref : rules.Ref) → MeansKnown names imports ref → seen_call (told_named names imports (a_symbol ref)) ≡ Some (keys.function_number l.numbers (ref_function ref))
  told_call ref known =
      ap (λ f. Some (number_by same_function_key (map (told_function names imports) l.numbers.functions) f)) (meant_told names imports ref.entry ref.meaning known.named known.meant)
      ∙ ap Some (tells.functions (ref_function ref) known.function)

  row_calls : (symbols : List Symbol) (types : List FuncType) (row : List Named) (ns : List rules.Named) → map (seen_named symbols types) row ≡ map (told_named names imports) ns
      → All (MeansKnown names imports) (filter_map named_ref ns)
      → filter_map (call_seen (map (told_function names imports) l.numbers.functions) symbols) row ≡ map (λ ref. keys.function_number l.numbers (ref_function ref)) (filter_map named_ref ns)
  row_calls symbols types [] [] e known = refl
  row_calls symbols types [] (n ∷ ns) e known = absurd cc
  row_calls symbols types (x ∷ row) [] e known = absurd cc
  row_calls symbols types (x ∷ row) (a_symbol ref ∷ ns) e known =
      let same : seen_named symbols types x ≡ told_named names imports (a_symbol ref) = cc in
      let rest : map (seen_named symbols types) row ≡ map (told_named names imports) ns = cc in
      let first = call_is_seen symbols types x ∙ ap seen_call same ∙ told_call ref (All-head (MeansKnown names imports) ref (filter_map named_ref ns) known) in
      let more = row_calls symbols types row ns rest (All-tail (MeansKnown names imports) ref (filter_map named_ref ns) known) in
      λ i. cons_option (first i) (more i)
  row_calls symbols types (x ∷ row) (a_type w ∷ ns) e known =
      let same : seen_named symbols types x ≡ told_named names imports (a_type w) = cc in
      let rest : map (seen_named symbols types) row ≡ map (told_named names imports) ns = cc in
      let first = call_is_seen symbols types x ∙ ap seen_call same in
      let more = row_calls symbols types row ns rest known in
      λ i. cons_option (first i) (more i)

refs_known : (P : rules.Ref → Type 0) (parts : List rules.Part) → All P (refs_of parts) → (k : ℕ) (part : rules.Part) → slice_get parts k ≡ Some part → All P (refs part)
refs_known P [] all k part at = absurd cc
refs_known P (x ∷ parts) all zero part at = let same : x ≡ part = cc in subst (λ (y : rules.Part). All P (refs y)) same (first_ones P (refs x) (refs_of parts) all)
refs_known P (x ∷ parts) all (suc k) part at = refs_known P parts (last_ones P (refs x) (refs_of parts) all) k part at

-- ---- contents

abbrev seen_global : SeenContent → Option ModuleGlobal
seen_global (a_function t) = None
seen_global (a_segment align flags) = None
seen_global (a_global kind value) = Some (record { kind = kind; value = value })
seen_global the_linkers = None

content_is_seen : (types : List FuncType) (c : Content) → content_seen c ≡ seen_global (seen_content types c)
content_is_seen types (contents.Function number) = refl
content_is_seen types (contents.Segment align flags) = refl
content_is_seen types (contents.Global kind value) = refl
content_is_seen types contents.Made = refl

told_global_content : (c : rules.Content) → seen_global (told_content c) ≡ output.content_global c
told_global_content (function t) = refl
told_global_content (segment info) = refl
told_global_content (global g) = refl
told_global_content (linker_made m) = refl

-- a chunk by its three numbers
chunk_of_kind : (c : Chunk) (kind : ℕ) → (c.kind == kind) ≡ true → chunk_at c.input kind c.index ≡ c
chunk_of_kind c kind e = let k : kind ≡ c.kind = sym (eqb-true c.kind kind e) in λ i. record { input = c.input; kind = k i; index = c.index }

one_chunk : (c y : Chunk) (kind : ℕ) → (c.kind == kind) ≡ true → ((y.kind == kind) && (y.input == c.input) && (y.index == c.index)) ≡ true → y ≡ c
one_chunk c y kind e t =
    let a = and_parts ((y.kind == kind) && (y.input == c.input)) (y.index == c.index) t in
    let b = and_parts (y.kind == kind) (y.input == c.input) a.0 in
    let kinds : y.kind ≡ c.kind = eqb-true y.kind kind b.0 ∙ sym (eqb-true c.kind kind e) in
    let input : y.input ≡ c.input = eqb-true y.input c.input b.1 in
    let index : y.index ≡ c.index = eqb-true y.index c.index a.1 in
    λ i. record { input = input i; kind = kinds i; index = index i }

chunk_itself : (c : Chunk) (kind : ℕ) → (c.kind == kind) ≡ true → ((c.kind == kind) && (c.input == c.input) && (c.index == c.index)) ≡ true
chunk_itself c kind e =
    and_from ((c.kind == kind) && (c.input == c.input)) (c.index == c.index) (and_from (c.kind == kind) (c.input == c.input) e (eq-eqb c.input c.input refl)) (eq-eqb c.index c.index refl)

-- ---- a layout

module _ (m : Mode) (p : rules.Program) (parts : List rules.Part) (es : List InputSymbol) (d : Layout) (is : Stands m p parts es d) where
  pub tells_all : TellsNumbers d.program.names.now.names d.program.resolution.now.imports (keys.numbers m p parts es)
  tells_all = all_known.tells m p parts es d is

  -- the bytes of the function that makes addresses right
  abbrev apply : List ℕ
  apply = apply_body (words m p parts (layout m p parts es))

  -- the addresses of data
  abbrev pub addresses : InputSymbol → ℕ
  addresses e = values.address_of m (layout m p parts es) e

  -- a live part of a kind, by its number
  pub record IsPart (kind : ℕ) (part : rules.Part) : Type 0 where
    pub number : ℕ
    pub at : slice_get p.parts number ≡ Some part
    pub chunk : chunk_number d.program.tables.now.chunks (chunk_at part.chunk.input kind part.chunk.index) ≡ Some number
    pub found : find (λ (x : rules.Part). (x.chunk.kind == kind) && (x.chunk.input == part.chunk.input) && (x.chunk.index == part.chunk.index)) parts ≡ Some part

  live_part : (kind k : ℕ) (part : rules.Part) → slice_get parts k ≡ Some part → (part.chunk.kind == kind) ≡ true → IsPart kind part
  live_part kind k part live code =
      let w = pairs_within p.parts is.live.0 parts is.live.1.are k part live in
      let there : slice_get d.program.tables.now.chunks w.0 ≡ Some part.chunk =
      ap (λ xs. slice_get xs w.0) is.program.tables.chunks ∙ slice_get-map (λ (x : rules.Part). x.chunk) p.parts w.0 ∙ ap (option_map (λ (x : rules.Part). x.chunk)) w.2 in
      let only : (m : ℕ) → slice_get d.program.tables.now.chunks m ≡ Some part.chunk → m ≡ w.0 =
      (λ m at. is.program.tables.differ m w.0 part.chunk (ap (λ xs. slice_get xs m) (sym is.program.tables.chunks) ∙ at) (ap (λ xs. slice_get xs w.0) (sym is.program.tables.chunks) ∙ there)) in
      record {
        number = w.0;
        at = w.2;
        chunk = ap (chunk_number d.program.tables.now.chunks) (chunk_of_kind part.chunk kind code) ∙ stands_at d.program.tables.now.chunks part.chunk w.0 there only;
        found = find_pair p.parts (λ (x : rules.Part). (x.chunk.kind == kind) && (x.chunk.input == part.chunk.input) && (x.chunk.index == part.chunk.index)) part
            (λ m y at t. same_part p.parts is.program.tables.differ m w.0 y part at w.2 (one_chunk part.chunk y.chunk kind code t))
            (chunk_itself part.chunk kind code) is.live.0 parts is.live.1.are k live;
      }

  -- ---- bodies

  abbrev Body : keys.FunctionKey → Type 0
  Body f =
      body_seen apply (looked d) (told_function d.program.names.now.names d.program.resolution.now.imports f)
      ≡ (if output.is_import m p parts es (layout m p parts es) f then None else Some (output.body_of m p parts es (layout m p parts es) f))

  source_told : (n : ℕ) (part : rules.Part) → slice_get p.parts n ≡ Some part → (part_at d.program.tables.now n).source ≡ part.source
  source_told n part at = ap (λ x. x.source) (part_told d.program.names.now.names d.program.resolution.now.imports d.program.tables.now p is.program.tables n part at)

  own_body : (k : ℕ) (part : rules.Part) → slice_get parts k ≡ Some part → (part.chunk.input == 0) ≡ false → (part.chunk.kind == 0) ≡ true → Body (own part.chunk.input part.chunk.index)
  own_body k part live foreign code =
      let w = live_part 0 k part live code in
      ap (λ r. if r then Some (Own (linker_bytes apply (looked d) part.chunk.index)) else Some (file_seen (looked d) (chunk_number d.program.tables.now.chunks (chunk_at part.chunk.input 0 part.chunk.index)))) foreign
      ∙ ap (λ o. Some (file_seen (looked d) o)) w.chunk
      ∙ ap (λ s. Some (File s)) (source_told w.number part w.at)
      ∙ ap (λ o. Some (output.source_of m p parts es (layout m p parts es) o)) (sym w.found)

  calls_told : (k : ℕ) (part : rules.Part) → slice_get parts k ≡ Some part → (n : ℕ) → slice_get p.parts n ≡ Some part
      → calls_seen (looked d) (Some n) ≡ output.calls_of m p parts es (layout m p parts es) (Some part)
  unfolding layout
  calls_told k part live n at =
      ap (λ fs. filter_map (call_seen fs d.program.tables.now.symbols) (row_at d.program.tables.now n)) is.numbering.functions
      ∙ row_calls d.program.names.now.names d.program.resolution.now.imports (layout m p parts es) tells_all d.program.tables.now.symbols d.program.tables.now.types (row_at d.program.tables.now n) part.named
      (row_told d.program.names.now.names d.program.resolution.now.imports d.program.tables.now p is.program.tables n part at)
      (refs_known (MeansKnown d.program.names.now.names d.program.resolution.now.imports) parts (all_known.refs_mean m p parts es d is) k part live)

  made_body : (k : ℕ) (part : rules.Part) → slice_get parts k ≡ Some part → (part.chunk.input == 0) ≡ true → (part.chunk.kind == 0) ≡ true → Body (linker_function part.chunk.index)
  made_body k part live mine code =
      let w = live_part 0 k part live code in
      let none : part.chunk.input ≡ 0 = eqb-true part.chunk.input 0 mine in
      let calls : calls_seen (looked d) (chunk_number d.program.tables.now.chunks (chunk_at 0 0 part.chunk.index)) ≡ output.calls_of m p parts es (layout m p parts es) (output.part_at m p parts es (layout m p parts es) 0 part.chunk.index) =
      ap (λ input. calls_seen (looked d) (chunk_number d.program.tables.now.chunks (chunk_at input 0 part.chunk.index))) (sym none)
      ∙ ap (calls_seen (looked d)) w.chunk
      ∙ calls_told k part live w.number w.at
      ∙ ap (output.calls_of m p parts es (layout m p parts es)) (sym w.found)
      ∙ ap (λ input. output.calls_of m p parts es (layout m p parts es) (output.part_at m p parts es (layout m p parts es) input part.chunk.index)) none in
      ap (λ ns. Some (Own (if part.chunk.index == 0 then ctor_body ns else apply))) calls

  outside_bodies : (ks : List ImportKey) → All Body (map outside ks)
  outside_bodies [] = λ k d below. absurd (omega arith)
  outside_bodies (x ∷ ks) = All-cons Body (outside x) (map outside ks) refl (outside_bodies ks)

  stub_bodies : (xs : List (List ℕ)) → All Body (map stub xs)
  stub_bodies [] = λ k d below. absurd (omega arith)
  stub_bodies (x ∷ xs) = All-cons Body (stub x) (map stub xs) refl (stub_bodies xs)

  own_key : (k : ℕ) (part : rules.Part) (f : keys.FunctionKey) → slice_get parts k ≡ Some part → own_function_key part ≡ Some f → Body f
  own_key k part f live gives =
      let e = given_is (not (part.chunk.input == 0) && (part.chunk.kind == 0)) (own part.chunk.input part.chunk.index) f gives in
      let two = and_parts (not (part.chunk.input == 0)) (part.chunk.kind == 0) e.0 in
      subst Body e.1 (own_body k part live (not_true (part.chunk.input == 0) two.0) two.1)

  made_key : (k : ℕ) (part : rules.Part) (f : keys.FunctionKey) → slice_get parts k ≡ Some part → made_function_key part ≡ Some f → Body f
  made_key k part f live gives =
      let e = given_is ((part.chunk.input == 0) && (part.chunk.kind == 0)) (linker_function part.chunk.index) f gives in
      let two = and_parts (part.chunk.input == 0) (part.chunk.kind == 0) e.0 in
      subst Body e.1 (made_body k part live two.0 two.1)

  all_bodies : All Body (keys.functions m p parts)
  unfolding keys.functions
  all_bodies =
      let made = filter_map made_function_key parts in
      let stubs = map stub (keys.stub_names p (refs_of parts)) in
      let owns = filter_map own_function_key parts in
      All-append Body (map outside (keys.function_imports_of m p (refs_of parts))) (made ++ stubs ++ owns) (outside_bodies (keys.function_imports_of m p (refs_of parts)))
      (All-append Body (made ++ stubs) owns (All-append Body made stubs (all_chosen Body made_function_key parts made_key) (stub_bodies (keys.stub_names p (refs_of parts)))) (all_chosen Body own_function_key parts own_key))

  pub bodies_are : filter_map (body_seen apply (looked d)) d.numbering.now.functions ≡ map (output.body_of m p parts es (layout m p parts es)) (output.defined m p parts es (layout m p parts es))
  unfolding layout
  bodies_are =
      let told = told_function d.program.names.now.names d.program.resolution.now.imports in
      let fs = keys.functions m p parts in
      ap (filter_map (body_seen apply (looked d))) is.numbering.functions
      ∙ filter_map_same (body_seen apply (looked d)) (λ f. if output.is_import m p parts es (layout m p parts es) f then None else Some (output.body_of m p parts es (layout m p parts es) f)) told fs all_bodies
      ∙ filter_map_but (output.is_import m p parts es (layout m p parts es)) (output.body_of m p parts es (layout m p parts es)) fs

  -- ---- globals

  abbrev Made : keys.GlobalKey → Type 0
  Made g = KnowsGlobal d.program.resolution.now.imports g
      → global_made m addresses (looked d) (told_global d.program.resolution.now.imports g) ≡ output.global_for m p parts es (layout m p parts es) g

  linker_made_global : (n : ℕ) → Made (linker_global n)
  unfolding layout
  linker_made_global n known = ap (λ (x : Places). Some (constant (n == 1) (if n == 1 then x.stack_high else 0))) is.placed.places

  slot_told : (f : keys.FunctionKey) → KnowsFunction d.program.names.now.names d.program.resolution.now.imports f
      → d.numbering.now.first_slot + number_by same_function_key d.numbering.now.slots (told_function d.program.names.now.names d.program.resolution.now.imports f) ≡ keys.slot_of (layout m p parts es).numbers f
  unfolding layout
  slot_told f known =
      (λ i. is.numbering.first_slot i + number_by same_function_key (is.numbering.slots i) (told_function d.program.names.now.names d.program.resolution.now.imports f))
      ∙ ap (λ n. (layout m p parts es).numbers.first_slot + n) (tells_all.slots f known)

  cell_entry : (e : InputSymbol) (r : Bool) → (if r then values.address_of m (layout m p parts es) e else d.numbering.now.first_slot + number_by same_function_key d.numbering.now.slots (told_function d.program.names.now.names d.program.resolution.now.imports (keys.function_of e)))
      ≡ (if r then values.address_of m (layout m p parts es) e else keys.slot_of (layout m p parts es).numbers (keys.function_of e))
  cell_entry e true = refl
  cell_entry e false = slot_told (keys.function_of e) (function_known d.program.names.now.names d.program.resolution.now.imports e)

  cell_told : (key : keys.GotKey) → KnowsGot d.program.resolution.now.imports key
      → cell_seen addresses d.numbering.now (told_got d.program.resolution.now.imports key) ≡ values.got_value m (layout m p parts es) key
  cell_told (got_entry e) known =
      ap (λ f. if kind_code e.symbol.kind == kind_code Datum then values.address_of m (layout m p parts es) e else d.numbering.now.first_slot + number_by same_function_key d.numbering.now.slots f)
      (function_told d.program.names.now.names d.program.resolution.now.imports e)
      ∙ cell_entry e (kind_code e.symbol.kind == kind_code Datum)
  cell_told (got_import k) known = slot_told (outside k) known
  cell_told (got_null kind) known = refl

  own_global_at : (k : ℕ) (part : rules.Part) → slice_get parts k ≡ Some part → (part.chunk.input == 0) ≡ false → (part.chunk.kind == 2) ≡ true → Made (own_global part.chunk.input part.chunk.index)
  own_global_at k part live foreign code known =
      let w = live_part 2 k part live code in
      let shown = part_told d.program.names.now.names d.program.resolution.now.imports d.program.tables.now p is.program.tables w.number part w.at in
      ap (λ r. if r then Some (constant (part.chunk.index == 1) (if part.chunk.index == 1 then d.placed.now.places.stack_high else 0)) else part_global (looked d) (chunk_number d.program.tables.now.chunks (chunk_at part.chunk.input 2 part.chunk.index))) foreign
      ∙ ap (part_global (looked d)) w.chunk
      ∙ content_is_seen d.program.tables.now.types (part_at d.program.tables.now w.number).content
      ∙ ap (λ x. seen_global x.content) shown
      ∙ told_global_content part.content
      ∙ ap (output.global_content m p parts es (layout m p parts es)) (sym w.found)

  outside_globals : (ks : List ImportKey) → All Made (map outside_global ks)
  outside_globals [] = λ k d below. absurd (omega arith)
  outside_globals (x ∷ ks) = All-cons Made (outside_global x) (map outside_global ks) (λ known. refl) (outside_globals ks)

  cell_globals : (xs : List keys.GotKey) → All Made (map got xs)
  cell_globals [] = λ k d below. absurd (omega arith)
  cell_globals (x ∷ xs) = All-cons Made (got x) (map got xs) (λ known. ap (λ n. Some (by_mode m (constant false n) (constant true 0))) (cell_told x known)) (cell_globals xs)

  own_global_made : (k : ℕ) (part : rules.Part) (g : keys.GlobalKey) → slice_get parts k ≡ Some part → keys.own_global_key part ≡ Some g → Made g
  own_global_made k part g live gives =
      let e = given_is (not (part.chunk.input == 0) && (part.chunk.kind == 2)) (own_global part.chunk.input part.chunk.index) g gives in
      let two = and_parts (not (part.chunk.input == 0)) (part.chunk.kind == 2) e.0 in
      subst Made e.1 (own_global_at k part live (not_true (part.chunk.input == 0) two.0) two.1)

  made_global_made : (k : ℕ) (part : rules.Part) (g : keys.GlobalKey) → slice_get parts k ≡ Some part → keys.made_global_key part ≡ Some g → Made g
  made_global_made k part g live gives =
      let e = given_is ((part.chunk.input == 0) && (part.chunk.kind == 2)) (linker_global part.chunk.index) g gives in
      subst Made e.1 (linker_made_global part.chunk.index)

  all_made : (x : Mode) → All Made (keys.made_globals x parts)
  all_made Plain = all_chosen Made keys.made_global_key parts made_global_made
  all_made Shared = λ k d below. absurd (omega arith)

  datum_made : (k : ℕ) (e : InputSymbol) (g : keys.GlobalKey) → slice_get es k ≡ Some e → keys.datum_key e ≡ Some g → Made g
  datum_made k e g live gives =
      let x = given_is (is_kind Datum e) (exported_datum e) g gives in
      subst Made x.1 (λ known. refl)

  all_globals : All Made (keys.globals m p parts es)
  unfolding keys.globals
  all_globals =
      let made = keys.made_globals m parts in
      let owns = filter_map keys.own_global_key parts in
      let cells = map got (keys.got_entries m parts) in
      let datas = filter_map keys.datum_key es in
      All-append Made (map outside_global (keys.global_imports_in m p parts)) (made ++ owns ++ cells ++ datas) (outside_globals (keys.global_imports_in m p parts))
      (All-append Made (made ++ owns ++ cells) datas
      (All-append Made (made ++ owns) cells
      (All-append Made made owns (all_made m) (all_chosen Made keys.own_global_key parts own_global_made))
      (cell_globals (keys.got_entries m parts)))
      (all_chosen Made keys.datum_key es datum_made))

  pub globals_are : All (KnowsGlobal d.program.resolution.now.imports) (keys.globals m p parts es)
      → filter_map (global_made m addresses (looked d)) d.numbering.now.globals ≡ filter_map (output.global_for m p parts es (layout m p parts es)) (layout m p parts es).numbers.globals
  unfolding layout
  globals_are known =
      ap (filter_map (global_made m addresses (looked d))) is.numbering.globals
      ∙ filter_map_same (global_made m addresses (looked d)) (output.global_for m p parts es (layout m p parts es)) (told_global d.program.resolution.now.imports) (keys.globals m p parts es)
      (λ k g below. all_globals k g below (known k g below))

  -- ---- data

  block_told : (n : ℕ) (part : rules.Part) → slice_get p.parts n ≡ Some part → block_at (looked d) n ≡ output.placed_source m p parts es (layout m p parts es) part
  block_told n part at =
      let address = address_told m p parts es d is n part at in
      let source = source_told n part at in
      λ i. record { address = address i; source = File (source i) }

  pub blocks_are : (live : List ℕ) → AreLive p live parts
      → map (block_at (looked d)) (filter (is_solid_at (looked d)) live) ≡ map (output.placed_source m p parts es (layout m p parts es)) (solid_segments p parts)
  blocks_are live lives =
      map_pairs p.parts (block_at (looked d)) (output.placed_source m p parts es (layout m p parts es)) block_told (filter (is_solid_at (looked d)) live) (solid_segments p parts) (is.solid live lives)

  pub first_is : (xs : List rules.Part) → first_of (map (output.placed_source m p parts es (layout m p parts es)) xs) ≡ output.first_address m p parts es (layout m p parts es) xs
  first_is [] = refl
  first_is (x ∷ xs) = refl
