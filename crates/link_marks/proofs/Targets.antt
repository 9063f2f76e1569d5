-- The data tell what parts refer to as the definition has it.
use Rattle.std.proofs.Common.{◌≡◌, ℕ, zero, suc, ◌+◌, ◌<◌, ◌==◌, Bool, true, false, not, cond, List, [], ◌∷◌, ◌++◌, length, get_or, map, filter, filter_map, slice_get, Option, Some, None, refl, sym, ap, ◌∙◌, subst, arith, option_and_then, option_map, position, inl, inr}
use Rattle.std.specs.List.{cons_option}
use Rattle.std.proofs.lemmas.Bool.{cases_eq, ne_eqb}
use Rattle.std.proofs.lemmas.List.Elements.{filter_map-append}
use Rattle.std.proofs.lemmas.List.Quantifiers.{position-Some}
use Rattle.std.proofs.lemmas.Option.{slice_get-map}
use Rattle.link_program.specs.linking_section.declared.symbol.SymbolKind.{SymbolKind}
use Rattle.link_program.specs.linking_section.declared.symbol.SymbolKind.TheVariants.{Function, Datum, GlobalVar, Section, Table}
use Rattle.link_program.specs.wasm_types.declared.function.FuncType.{FuncType}
use Rattle.link_program.specs.mark_bits.declared.chunk.Chunk.{Chunk}
use Rattle.link_program.specs.mark_bits.Words.{times, Among}
use Rattle.live_mark.specs.Asks.{Below, AllBelow}
use Rattle.link_program.specs.name_rules.Entries.{InputSymbol, ImportKey}
use Rattle.link_program.specs.name_rules.Meanings.{Meaning, here, imported, null, nothing}
use Rattle.link_program.specs.link_rules.Program as rules
use Rattle.link_program.specs.link_rules.Program.{a_symbol, a_type, named_ref, refs, meant_chunk, chunk_of, chunk_by, same_chunk, function, segment, global, linker_made}
use Rattle.link_program.specs.link_rules.Marks.{table_of, places_in, refers, targets, roots, root_places, is_retained, is_object_part, is_no_strip_winner}
use Rattle.link_program.specs.declared.symbol.Symbol.{Symbol}
use Rattle.link_program.specs.declared.symbol.Winner.{Winner}
use Rattle.link_program.specs.declared.named.Named.{Named}
use Rattle.link_program.specs.declared.named.Named.TheVariants as names
use Rattle.link_program.specs.declared.part.Part.{Part}
use Rattle.link_program.specs.declared.part.Content.{Content}
use Rattle.link_program.specs.declared.part.Content.TheVariants as contents
use Rattle.link_program.specs.declared.program.Tables.{Tables}
use Rattle.link_program.specs.Told.{told_definition, told_lead, told_winner}
use Rattle.link_program.specs.Seen.{SeenNamed, seen_symbol, seen_type, seen_named, told_named, no_symbol, SeenPart, SeenContent, a_function, a_segment, a_global, the_linkers, seen_content, seen_part, told_content, told_part}
use Rattle.link_program.specs.Program.{ChunksDiffer, AreTables}
use Rattle.link_marks.specs.Seen as seen
use Rattle.link_marks.specs.Seen.{defined_chunk, number_in, led_number, led_numbers, named_number, targets_seen, is_retained_content, is_root, places_from, winner_numbers, roots_seen, is_not_stripped}
use Rattle.link_marks.proofs.Mapped.{map_agree, filter_map_agree, filter-map, map-map, filter_map-map, filter_map-twice, map_at, map_count}
use Rattle.link_program.proofs.Chunks.{stands_at}

-- ---- chunks of definitions

by_kind : (e : InputSymbol) (kind : SymbolKind) → seen.chunk_by (told_definition e) kind ≡ chunk_by e kind
by_kind e Function = refl
by_kind e Datum = refl
by_kind e GlobalVar = refl
by_kind e Section = refl
by_kind e Table = refl

module _ (table : List Chunk) where
  abbrev place : Chunk → Option ℕ
  place c = position (same_chunk c) table

  pub defined : (e : InputSymbol) → number_in table (defined_chunk (told_definition e)) ≡ option_and_then place (chunk_of e)
  defined e = ap (λ o. option_and_then place o) (by_kind e e.symbol.kind)

  pub led : (imports : List ImportKey) (m : Meaning) → led_number table (told_lead imports m) ≡ option_and_then place (meant_chunk m)
  led imports (here e) = defined e
  led imports (imported key) = refl
  led imports null = refl
  led imports nothing = refl

  -- ---- what windows name

  abbrev seen_number : SeenNamed → Option ℕ
  seen_number (seen_symbol r) = led_number table r.symbol.lead
  seen_number (seen_type place t) = None

  number_is_seen : (symbols : List Symbol) (types : List FuncType) (n : Named) → named_number (led_numbers table symbols) n ≡ seen_number (seen_named symbols types n)
  number_is_seen symbols types (names.Symbol kind at addend symbol) = map_at (λ (s : Symbol). led_number table s.lead) symbols symbol no_symbol None refl
  number_is_seen symbols types (names.Type at number) = refl

  abbrev meant : rules.Named → Option ℕ
  meant n = option_and_then (λ (r : rules.Ref). option_and_then place (meant_chunk r.meaning)) (named_ref n)

  number_is_told : (ns : List (List ℕ)) (imports : List ImportKey) (n : rules.Named) → seen_number (told_named ns imports n) ≡ meant n
  number_is_told ns imports (a_symbol r) = led imports r.meaning
  number_is_told ns imports (a_type w) = refl

  row_is_seen : (symbols : List Symbol) (types : List FuncType) (row : List Named) → filter_map (named_number (led_numbers table symbols)) row ≡ filter_map seen_number (map (seen_named symbols types) row)
  row_is_seen symbols types row =
      filter_map_agree (named_number (led_numbers table symbols)) (λ n. seen_number (seen_named symbols types n)) (number_is_seen symbols types) row
      ∙ sym (filter_map-map seen_number (seen_named symbols types) row)

  row_is_told : (ns : List (List ℕ)) (imports : List ImportKey) (part : rules.Part) → filter_map seen_number (map (told_named ns imports) part.named) ≡ places_in table (refers part)
  row_is_told ns imports part =
      filter_map-map seen_number (told_named ns imports) part.named
      ∙ filter_map_agree (λ n. seen_number (told_named ns imports n)) meant (number_is_told ns imports) part.named
      ∙ sym (filter_map-twice place (λ (r : rules.Ref). meant_chunk r.meaning) (refs part)
      ∙ filter_map-twice (λ (r : rules.Ref). option_and_then place (meant_chunk r.meaning)) named_ref part.named)

  rows_are : (ns : List (List ℕ)) (imports : List ImportKey) (symbols : List Symbol) (types : List FuncType) (named : List (List Named)) (parts : List rules.Part)
      → map (map (seen_named symbols types)) named ≡ map (λ (part : rules.Part). map (told_named ns imports) part.named) parts
      → targets_seen (led_numbers table symbols) named ≡ map (λ (part : rules.Part). places_in table (refers part)) parts
  rows_are ns imports symbols types named parts same =
      map_agree (filter_map (named_number (led_numbers table symbols))) (λ row. filter_map seen_number (map (seen_named symbols types) row)) (row_is_seen symbols types) named
      ∙ sym (map-map (filter_map seen_number) (map (seen_named symbols types)) named)
      ∙ ap (map (filter_map seen_number)) same
      ∙ map-map (filter_map seen_number) (λ (part : rules.Part). map (told_named ns imports) part.named) parts
      ∙ map_agree (λ (part : rules.Part). filter_map seen_number (map (told_named ns imports) part.named)) (λ (part : rules.Part). places_in table (refers part)) (row_is_told ns imports) parts

  -- ---- winners

  winners_are : (ns : List (List ℕ)) (es : List InputSymbol) → winner_numbers table (map (told_winner ns) es) ≡ places_in table (filter_map chunk_of es)
  winners_are ns es =
      filter_map-map (λ (w : Winner). number_in table (defined_chunk w.definition)) (told_winner ns) es
      ∙ filter_map_agree (λ (e : InputSymbol). number_in table (defined_chunk (told_definition e))) (λ e. option_and_then place (chunk_of e)) defined es
      ∙ sym (filter_map-twice place chunk_of es)

  filtered : {A : Type 0} (q : A → Bool) (f : A → Option ℕ) (xs : List A) → filter_map (λ x. cond (q x) (f x) None) xs ≡ filter_map f (filter q xs)
  filtered q f [] = refl
  filtered q f (x ∷ xs) = by (q x) (filtered q f xs)
    where
      by : (b : Bool) → filter_map (λ x. cond (q x) (f x) None) xs ≡ filter_map f (filter q xs)
          → cons_option (cond b (f x) None) (filter_map (λ x. cond (q x) (f x) None) xs) ≡ filter_map f (cond b (x ∷ filter q xs) (filter q xs))
      by true h = ap (cons_option (f x)) h
      by false h = h

  not_stripped_are : (ns : List (List ℕ)) (es : List InputSymbol) → filter_map (seen.number_not_stripped table) (map (told_winner ns) es) ≡ places_in table (filter_map chunk_of (filter is_no_strip_winner es))
  not_stripped_are ns es =
      filtered is_not_stripped (λ (w : Winner). number_in table (defined_chunk w.definition)) (map (told_winner ns) es)
      ∙ ap (winner_numbers table) (filter-map is_not_stripped (told_winner ns) es) ∙ winners_are ns (filter is_no_strip_winner es)

  -- ---- parts that are roots by themselves

  abbrev seen_retained : SeenContent → Bool
  seen_retained (a_function t) = false
  seen_retained (a_segment align flags) = seen.is_retained_content (contents.Segment align flags)
  seen_retained (a_global kind value) = false
  seen_retained the_linkers = false

  abbrev seen_root : Bool → SeenPart → Bool
  seen_root all part = cond all (not (part.chunk.input == 0)) (seen_retained part.content)

  retained_is_seen : (types : List FuncType) (content : Content) → is_retained_content content ≡ seen_retained (seen_content types content)
  retained_is_seen types (contents.Function number) = refl
  retained_is_seen types (contents.Segment align flags) = refl
  retained_is_seen types (contents.Global kind value) = refl
  retained_is_seen types contents.Made = refl

  retained_is_told : (content : rules.Content) → seen_retained (told_content content) ≡ is_retained content
  retained_is_told (function t) = refl
  retained_is_told (segment info) = refl
  retained_is_told (global g) = refl
  retained_is_told (linker_made m) = refl

  abbrev root_part : Bool → rules.Part → Bool
  root_part all part = cond all (is_object_part part) (is_retained part.content)

  root_is_seen : (types : List FuncType) (all : Bool) (part : Part) → is_root all part ≡ seen_root all (seen_part types part)
  root_is_seen types true part = refl
  root_is_seen types false part = retained_is_seen types part.content

  root_is_told : (all : Bool) (part : rules.Part) → seen_root all (told_part part) ≡ root_part all part
  root_is_told true part = refl
  root_is_told false part = retained_is_told part.content

  places_agree : {A : Type 0} (p q : A → Bool) → ((x : A) → p x ≡ q x) → (n : ℕ) (xs : List A) → places_from p n xs ≡ places_from q n xs
  places_agree p q same n [] = refl
  places_agree p q same n (x ∷ xs) = let h = same x in let t = places_agree p q same (n + 1) xs in λ i. cond (h i) (n ∷ t i) (t i)

  places-map : {A B : Type 0} (p : B → Bool) (f : A → B) (n : ℕ) (xs : List A) → places_from p n (map f xs) ≡ places_from (λ x. p (f x)) n xs
  places-map p f n [] = refl
  places-map p f n (x ∷ xs) = let t = places-map p f (n + 1) xs in λ i. cond (p (f x)) (n ∷ t i) (t i)

  places_are : (test : rules.Part → Bool) (n : ℕ) (ps : List rules.Part) → ((i : ℕ) (part : rules.Part) → slice_get ps i ≡ Some part → place part.chunk ≡ Some (n + i))
      → places_from test n ps ≡ places_in table (map (λ (part : rules.Part). part.chunk) (filter test ps))
  places_are test n [] at = refl
  places_are test n (part ∷ ps) at =
      by (test part) (at 0 part refl) (places_are test (n + 1) ps (λ i q is. at (suc i) q is ∙ ap (λ k. Some k) (let e : n + suc i ≡ n + 1 + i = omega arith in e)))
    where
      by : (b : Bool) → place part.chunk ≡ Some (n + 0) → places_from test (n + 1) ps ≡ places_in table (map (λ (part : rules.Part). part.chunk) (filter test ps))
          → cond b (n ∷ places_from test (n + 1) ps) (places_from test (n + 1) ps) ≡ places_in table (map (λ (part : rules.Part). part.chunk) (cond b (part ∷ filter test ps) (filter test ps)))
      by false h t = t
      by true h t = ap (λ l. n ∷ l) t ∙ ap (λ o. cons_option o (places_in table (map (λ (part : rules.Part). part.chunk) (filter test ps)))) (sym (h ∙ ap (λ k. Some k) (let e : n + 0 ≡ n = omega arith in e)))

  parts_are : (types : List FuncType) (all : Bool) (ps : List Part) (qs : List rules.Part) → map (seen_part types) ps ≡ map told_part qs → table ≡ map (λ (part : rules.Part). part.chunk) qs
      → ChunksDiffer table → places_from (is_root all) 0 ps ≡ places_in table (map (λ (part : rules.Part). part.chunk) (filter (root_part all) qs))
  parts_are types all ps qs same is differ =
      places_agree (is_root all) (λ part. seen_root all (seen_part types part)) (root_is_seen types all) 0 ps
      ∙ sym (places-map (seen_root all) (seen_part types) 0 ps)
      ∙ ap (places_from (seen_root all) 0) same
      ∙ places-map (seen_root all) told_part 0 qs
      ∙ places_agree (λ part. seen_root all (told_part part)) (root_part all) (root_is_told all) 0 qs
      ∙ places_are (root_part all) 0 qs (λ i part at.
      let here : slice_get table i ≡ Some part.chunk = ap (λ t. slice_get t i) is ∙ slice_get-map (λ (part : rules.Part). part.chunk) qs i ∙ ap (option_map (λ (part : rules.Part). part.chunk)) at in
      stands_at table part.chunk i here (λ k there. differ k i part.chunk there here) ∙ ap (λ k. Some k) (let e : i ≡ 0 + i = omega arith in e))

-- ---- all roots

gc_parts : (table : List Chunk) (gc : Bool) (chunks : List Chunk) (numbers : List ℕ) → numbers ≡ places_in table chunks → cond gc [] numbers ≡ places_in table (cond gc [] chunks)
gc_parts table true chunks numbers is = refl
gc_parts table false chunks numbers is = is

split : (table : List Chunk) (xs ys : List Chunk) → places_in table (xs ++ ys) ≡ places_in table xs ++ places_in table ys
split table xs ys = filter_map-append (λ c. position (same_chunk c) table) xs ys

four : {A : Type 0} (a b c d a' b' c' d' : List A) → a ≡ a' → b ≡ b' → c ≡ c' → d ≡ d' → a ++ b ++ c ++ d ≡ a' ++ b' ++ c' ++ d'
four a b c d a' b' c' d' p q r s = λ i. p i ++ q i ++ r i ++ s i

module _ (ns : List (List ℕ)) (imports : List ImportKey) (t : Tables) (p : rules.Program) (is : AreTables ns imports t p) where
  targets_are : targets_seen (led_numbers t.chunks t.symbols) t.named ≡ targets p
  targets_are = rows_are t.chunks ns imports t.symbols t.types t.named p.parts is.named ∙ ap (λ (table : List Chunk). map (λ (part : rules.Part). places_in table (refers part)) p.parts) is.chunks

  pub led_are : (led : List (Option ℕ)) → led ≡ led_numbers t.chunks t.symbols → targets_seen led t.named ≡ targets p
  led_are led same = ap (λ l. targets_seen l t.named) same ∙ targets_are

  pub roots_are : (gc : Bool) (exports : List Winner) (es : List InputSymbol) → gc ≡ p.plan.gc → exports ≡ map (told_winner ns) es → roots_seen t.chunks gc exports t.winners t.parts ≡ root_places p es
  roots_are gc exports es gc_is told =
      let table = t.chunks in
      let exported : List Chunk = filter_map chunk_of es in
      let unstripped : List Chunk = filter_map chunk_of (filter is_no_strip_winner p.winners) in
      let retained : List Chunk = map (λ (part : rules.Part). part.chunk) (filter (λ (part : rules.Part). is_retained part.content) p.parts) in
      let others : List Chunk = cond gc [] (map (λ (part : rules.Part). part.chunk) (filter is_object_part p.parts)) in
      let differ : ChunksDiffer table = subst ChunksDiffer (sym is.chunks) is.differ in
      four _ _ _ _ _ _ _ _
      (ap (winner_numbers table) told ∙ winners_are table ns es)
      (ap (filter_map (seen.number_not_stripped table)) is.winners ∙ not_stripped_are table ns p.winners)
      (parts_are table t.types false t.parts p.parts is.parts is.chunks differ)
      (gc_parts table gc (map (λ (part : rules.Part). part.chunk) (filter is_object_part p.parts)) (places_from (is_root true) 0 t.parts) (parts_are table t.types true t.parts p.parts is.parts is.chunks differ))
      ∙ sym (split table (exported ++ unstripped ++ retained) others
      ∙ ap (λ l. l ++ places_in table others) (split table (exported ++ unstripped) retained ∙ ap (λ l. l ++ places_in table retained) (split table exported unstripped)))
      ∙ ap (λ g. places_in table (exported ++ unstripped ++ retained ++ cond g [] (map (λ (part : rules.Part). part.chunk) (filter is_object_part p.parts)))) gc_is
      ∙ ap (λ (table : List Chunk). places_in table (roots p es)) is.chunks

-- ---- all numbers are below the count

below_by : (table : List Chunk) (d : Chunk) (cs : List Chunk) (c : ℕ) → (Among c (places_in table cs) → c < length table) → (o : Option ℕ) → position (same_chunk d) table ≡ o
    → Among c (cons_option o (places_in table cs)) → c < length table
below_by table d cs c again None is k = again k
below_by table d cs c again (Some n) is k = elim (cases_eq n c) as (λ _. c < length table) [
  | inl same ↦ let inside = (position-Some (same_chunk d) table n d is).0 in omega (arith, inside, same)
  | inr differ ↦ again (let h = subst (λ b. 0 < cond b 1 0 + times c (places_in table cs)) (ne_eqb n c differ) k in omega (arith, h))
]

below_places : (table : List Chunk) (cs : List Chunk) → Below (length table) (places_in table cs)
below_places table [] c h = absurd (omega (arith, h))
below_places table (d ∷ cs) c h = below_by table d cs c (below_places table cs c) (position (same_chunk d) table) refl h

none_of : (n : ℕ) → Below n []
none_of n c h = absurd (omega (arith, h))

row_below : (table : List Chunk) (ps : List rules.Part) (k : ℕ) → Below (length table) (get_or (map (λ (part : rules.Part). places_in table (refers part)) ps) k [])
row_below table [] k = none_of (length table)
row_below table (part ∷ ps) zero = below_places table (refers part)
row_below table (part ∷ ps) (suc k) = row_below table ps k

pub count_is : (p : rules.Program) → length (table_of p) ≡ length p.parts
count_is p = map_count (λ (part : rules.Part). part.chunk) p.parts

pub targets_count : (p : rules.Program) → length (targets p) ≡ length p.parts
targets_count p = map_count (λ (part : rules.Part). places_in (table_of p) (refers part)) p.parts

pub targets_below : (p : rules.Program) → AllBelow (targets p)
targets_below p k = subst (λ n. Below n (get_or (targets p) k [])) (count_is p ∙ sym (targets_count p)) (row_below (table_of p) p.parts k)

pub roots_below : (p : rules.Program) (es : List InputSymbol) → Below (length (targets p)) (root_places p es)
roots_below p es = subst (λ n. Below n (root_places p es)) (count_is p ∙ sym (targets_count p)) (below_places (table_of p) (roots p es))
