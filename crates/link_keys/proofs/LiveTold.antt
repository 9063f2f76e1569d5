-- What the data show of the live parts is told by the definition's parts.
use Rattle.std.proofs.Common.{◌≡◌, ℕ, ◌==◌, Bool, true, false, List, [], ◌∷◌, ◌++◌, map, filter, filter_map, flat_map, length, slice_get, get_or, Option, Some, None, option_map, refl, sym, ap, subst, ◌∙◌}
use Rattle.std.specs.List.{cons_option}
use Rattle.std.proofs.lemmas.List.{map-append}
use Rattle.std.proofs.lemmas.List.Elements.{filter_map-append}
use Rattle.link_program.specs.wasm_types.declared.function.FuncType.{FuncType}
use Rattle.link_program.specs.object_file.Spaces.{no_type}
use Rattle.link_program.specs.name_rules.Entries.{ImportKey}
use Rattle.link_program.specs.link_rules.Program as rules
use Rattle.link_program.specs.link_rules.Program.{Ref, a_symbol, a_type, refs, types_named, named_type, function, segment, global, linker_made}
use Rattle.link_program.specs.link_rules.Marks.{refs_of}
use Rattle.link_program.specs.link_rules.Keys.{window_types, content_type}
use Rattle.link_program.specs.declared.symbol.Symbol.{Symbol}
use Rattle.link_program.specs.declared.named.Named.{Named}
use Rattle.link_program.specs.declared.named.Named.TheVariants as windows
use Rattle.link_program.specs.declared.part.Content.{Content}
use Rattle.link_program.specs.declared.part.Content.TheVariants as contents
use Rattle.link_program.specs.declared.part.Part.{Part}
use Rattle.link_program.specs.declared.program.Tables.{Tables}
use Rattle.link_program.specs.Told.{told_symbol}
use Rattle.link_program.specs.Seen.{SeenNamed, seen_symbol, seen_type, seen_named, told_named, SeenContent, a_function, a_segment, a_global, the_linkers, seen_content, told_content, seen_part, told_part}
use Rattle.link_program.specs.Program.{AreTables}
use Rattle.link_program.specs.Look.{no_part, part_at, row_at}
use Rattle.link_keys.specs.LiveRefs.{LiveRef, named_ref, named_number, is_code, refs_at, live_refs, window_numbers}
use Rattle.link_keys.specs.Lists.{chunk_at}
use Rattle.link_keys.specs.Types.{type_at, content_type_at}
use Rattle.link_keys.proofs.Any.{mapped_at}

-- ---- rows

abbrev seen_ref : Bool → SeenNamed → Option LiveRef
seen_ref code (seen_symbol r) = Some (record { code = code; kind = r.kind; symbol = r.symbol })
seen_ref code (seen_type place t) = None

abbrev seen_window : SeenNamed → Option FuncType
seen_window (seen_symbol r) = None
seen_window (seen_type place t) = Some t

refs_shown : (symbols : List Symbol) (types : List FuncType) (code : Bool) (row : List Named) → filter_map (named_ref symbols code) row ≡ filter_map (seen_ref code) (map (seen_named symbols types) row)
refs_shown symbols types code [] = refl
refs_shown symbols types code (windows.Symbol kind place addend symbol ∷ row) = ap (λ rest. cons_option (named_ref symbols code (windows.Symbol kind place addend symbol)) rest) (refs_shown symbols types code row)
refs_shown symbols types code (windows.Type place number ∷ row) = refs_shown symbols types code row

windows_shown : (symbols : List Symbol) (types : List FuncType) (row : List Named) → map (type_at types) (filter_map named_number row) ≡ filter_map seen_window (map (seen_named symbols types) row)
windows_shown symbols types [] = refl
windows_shown symbols types (windows.Symbol kind place addend symbol ∷ row) = windows_shown symbols types row
windows_shown symbols types (windows.Type place number ∷ row) = ap (λ rest. type_at types number ∷ rest) (windows_shown symbols types row)

content_shown : (types : List FuncType) (c : Content) (told : rules.Content) → seen_content types c ≡ told_content told → content_type_at types c ≡ content_type told
content_shown types (contents.Function number) (function t) e = cc
content_shown types (contents.Function number) (segment info) e = absurd cc
content_shown types (contents.Function number) (global g) e = absurd cc
content_shown types (contents.Function number) (linker_made m) e = absurd cc
content_shown types (contents.Segment align flags) (function t) e = absurd cc
content_shown types (contents.Segment align flags) (segment info) e = refl
content_shown types (contents.Segment align flags) (global g) e = absurd cc
content_shown types (contents.Segment align flags) (linker_made m) e = absurd cc
content_shown types (contents.Global kind value) (function t) e = absurd cc
content_shown types (contents.Global kind value) (segment info) e = absurd cc
content_shown types (contents.Global kind value) (global g) e = refl
content_shown types (contents.Global kind value) (linker_made m) e = absurd cc
content_shown types contents.Made (function t) e = absurd cc
content_shown types contents.Made (segment info) e = absurd cc
content_shown types contents.Made (global g) e = absurd cc
content_shown types contents.Made (linker_made m) e = refl

module _ (names : List (List ℕ)) (imports : List ImportKey) where
  -- A reference as it is told.
  abbrev pub told_live : Bool → Ref → LiveRef
  told_live code ref = record { code = code; kind = ref.kind; symbol = told_symbol names imports ref.entry ref.meaning }

  abbrev pub part_code : rules.Part → Bool
  part_code part = part.chunk.kind == 0

  abbrev pub part_refs : rules.Part → List LiveRef
  part_refs part = map (told_live (part_code part)) (refs part)

  -- The references of parts as they are told.
  abbrev pub told_refs : List rules.Part → List LiveRef
  told_refs parts = flat_map part_refs parts

  refs_told : (code : Bool) (ns : List rules.Named) → filter_map (seen_ref code) (map (told_named names imports) ns) ≡ map (told_live code) (filter_map rules.named_ref ns)
  refs_told code [] = refl
  refs_told code (a_symbol ref ∷ ns) = ap (λ rest. told_live code ref ∷ rest) (refs_told code ns)
  refs_told code (a_type w ∷ ns) = refs_told code ns

  windows_told : (ns : List rules.Named) → filter_map seen_window (map (told_named names imports) ns) ≡ filter_map named_type ns
  windows_told [] = refl
  windows_told (a_symbol ref ∷ ns) = windows_told ns
  windows_told (a_type w ∷ ns) = ap (λ rest. w.type ∷ rest) (windows_told ns)

  module _ (t : Tables) (p : rules.Program) (are : AreTables names imports t p) where
    row_is : (n : ℕ) (part : rules.Part) → slice_get p.parts n ≡ Some part → map (seen_named t.symbols t.types) (row_at t n) ≡ map (told_named names imports) part.named
    row_is n part at = mapped_at (map (seen_named t.symbols t.types)) (λ q. map (told_named names imports) q.named) t.named p.parts n part [] are.named at

    part_is : (n : ℕ) (part : rules.Part) → slice_get p.parts n ≡ Some part → seen_part t.types (part_at t n) ≡ told_part part
    part_is n part at = mapped_at (seen_part t.types) told_part t.parts p.parts n part no_part are.parts at

    pub chunk_is : (n : ℕ) (part : rules.Part) → slice_get p.parts n ≡ Some part → chunk_at t n ≡ part.chunk
    chunk_is n part at = ap (λ s. s.chunk) (part_is n part at)

    pub content_is : (n : ℕ) (part : rules.Part) → slice_get p.parts n ≡ Some part → content_type_at t.types (part_at t n).content ≡ content_type part.content
    content_is n part at = content_shown t.types (part_at t n).content part.content (ap (λ s. s.content) (part_is n part at))

    refs_are : (n : ℕ) (part : rules.Part) → slice_get p.parts n ≡ Some part → refs_at t n ≡ part_refs part
    refs_are n part at =
        ap (λ code. filter_map (named_ref t.symbols code) (row_at t n)) (ap (λ c. c.kind == 0) (chunk_is n part at))
        ∙ refs_shown t.symbols t.types (part_code part) (row_at t n)
        ∙ ap (filter_map (seen_ref (part_code part))) (row_is n part at)
        ∙ refs_told (part_code part) part.named

    windows_are : (n : ℕ) (part : rules.Part) → slice_get p.parts n ≡ Some part → map (type_at t.types) (filter_map named_number (row_at t n)) ≡ types_named part
    windows_are n part at =
        windows_shown t.symbols t.types (row_at t n)
        ∙ ap (filter_map seen_window) (row_is n part at)
        ∙ windows_told part.named

    -- Live parts by number, and the parts themselves.
    abbrev pub Are : List ℕ → List rules.Part → Type 0
    Are numbers parts = map (slice_get p.parts) numbers ≡ map Some parts

    are_head : (n : ℕ) (numbers : List ℕ) (part : rules.Part) (parts : List rules.Part) → Are (n ∷ numbers) (part ∷ parts) → slice_get p.parts n ≡ Some part
    are_head n numbers part parts e = cc

    are_tail : (n : ℕ) (numbers : List ℕ) (part : rules.Part) (parts : List rules.Part) → Are (n ∷ numbers) (part ∷ parts) → Are numbers parts
    are_tail n numbers part parts e = cc

    pub live_refs_told : (numbers : List ℕ) (parts : List rules.Part) → Are numbers parts → live_refs t numbers ≡ told_refs parts
    live_refs_told [] [] e = refl
    live_refs_told [] (part ∷ parts) e = absurd cc
    live_refs_told (n ∷ numbers) [] e = absurd cc
    live_refs_told (n ∷ numbers) (part ∷ parts) e =
        ap (λ xs. xs ++ live_refs t numbers) (refs_are n part (are_head n numbers part parts e))
        ∙ ap (λ xs. part_refs part ++ xs) (live_refs_told numbers parts (are_tail n numbers part parts e))

    pub windows_told_all : (numbers : List ℕ) (parts : List rules.Part) → Are numbers parts → map (type_at t.types) (window_numbers t numbers) ≡ window_types parts
    windows_told_all [] [] e = refl
    windows_told_all [] (part ∷ parts) e = absurd cc
    windows_told_all (n ∷ numbers) [] e = absurd cc
    windows_told_all (n ∷ numbers) (part ∷ parts) e =
        map-append (type_at t.types) (filter_map named_number (row_at t n)) (window_numbers t numbers)
        ∙ ap (λ xs. xs ++ map (type_at t.types) (window_numbers t numbers)) (windows_are n part (are_head n numbers part parts e))
        ∙ ap (λ xs. types_named part ++ xs) (windows_told_all numbers parts (are_tail n numbers part parts e))

    -- What each live part gives, by its number and by the part.
    pub given_told : {X : Type 0} (h : ℕ → Option X) (g : rules.Part → Option X) → ((n : ℕ) (part : rules.Part) → slice_get p.parts n ≡ Some part → h n ≡ g part)
        → (numbers : List ℕ) (parts : List rules.Part) → Are numbers parts → filter_map h numbers ≡ filter_map g parts
    given_told h g each [] [] e = refl
    given_told h g each [] (part ∷ parts) e = absurd cc
    given_told h g each (n ∷ numbers) [] e = absurd cc
    given_told h g each (n ∷ numbers) (part ∷ parts) e =
        ap (λ o. cons_option o (filter_map h numbers)) (each n part (are_head n numbers part parts e))
        ∙ ap (λ xs. cons_option (g part) xs) (given_told h g each numbers parts (are_tail n numbers part parts e))

  -- ---- what references ask, by the references of the definition

  module _ {X : Type 0} (h : LiveRef → X) (g : Ref → X) (each : (code : Bool) (ref : Ref) → h (told_live code ref) ≡ g ref) where
    asked : (code : Bool) (rs : List Ref) → map h (map (told_live code) rs) ≡ map g rs
    asked code [] = refl
    asked code (ref ∷ rs) = ap (λ x. x ∷ map h (map (told_live code) rs)) (each code ref) ∙ ap (λ xs. g ref ∷ xs) (asked code rs)

    pub asked_all : (parts : List rules.Part) → map h (told_refs parts) ≡ map g (refs_of parts)
    asked_all [] = refl
    asked_all (part ∷ parts) =
        map-append h (part_refs part) (told_refs parts)
        ∙ ap (λ xs. xs ++ map h (told_refs parts)) (asked (part_code part) (refs part))
        ∙ ap (λ xs. map g (refs part) ++ xs) (asked_all parts)
        ∙ sym (map-append g (refs part) (refs_of parts))

  module _ {X : Type 0} (h : LiveRef → Option X) (g : Ref → Option X) (each : (code : Bool) (ref : Ref) → h (told_live code ref) ≡ g ref) where
    chosen : (code : Bool) (rs : List Ref) → filter_map h (map (told_live code) rs) ≡ filter_map g rs
    chosen code [] = refl
    chosen code (ref ∷ rs) = ap (λ o. cons_option o (filter_map h (map (told_live code) rs))) (each code ref) ∙ ap (λ xs. cons_option (g ref) xs) (chosen code rs)

    pub chosen_all : (parts : List rules.Part) → filter_map h (told_refs parts) ≡ filter_map g (refs_of parts)
    chosen_all [] = refl
    chosen_all (part ∷ parts) =
        filter_map-append h (part_refs part) (told_refs parts)
        ∙ ap (λ xs. xs ++ filter_map h (told_refs parts)) (chosen (part_code part) (refs part))
        ∙ ap (λ xs. filter_map g (refs part) ++ xs) (chosen_all parts)
        ∙ sym (filter_map-append g (refs part) (refs_of parts))
