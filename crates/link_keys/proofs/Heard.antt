-- What is noted of references, as lists of what each asks for.
use Rattle.std.proofs.Common.{◌≡◌, ℕ, nat_eq, Bool, true, false, List, [], ◌∷◌, ◌++◌, map, filter_map, flat_map, fold, replicate, Option, Some, None, option_map, refl, sym, ap, subst, ◌∙◌, append_assoc, append-nil}
use Rattle.std.specs.Prelude.{if◌then◌else◌, slice_index_or}
use Rattle.link_program.specs.Seen.{no_symbol}
use Rattle.std.specs.List.{list_any, cons_option}
use Rattle.std.proofs.lemmas.List.{map-append}
use Rattle.std.proofs.lemmas.List.Sums.{fold-append}
use Rattle.std.proofs.lemmas.List.Elements.{filter_map-append}
use Rattle.indexmap.specs.IndexSet.{insert_key}
use Rattle.link_program.specs.wl_base.Choice.{distinct, distinct_onto}
use Rattle.link_program.specs.declared.symbol.Symbol.{Symbol}
use Rattle.link_program.specs.declared.keys.FunctionKey.{FunctionKey}
use Rattle.link_program.specs.declared.keys.GotKey.{GotKey}
use Rattle.link_program.specs.declared.keys.GotKey.TheVariants as cells
use Rattle.link_program.specs.declared.named.Named.{Named}
use Rattle.link_program.specs.declared.named.Named.TheVariants as windows
use Rattle.link_program.specs.declared.program.Tables.{Tables}
use Rattle.link_program.specs.Keys.{same_got_key}
use Rattle.link_keys.specs.declared.codes.Code.{Code}
use Rattle.link_keys.specs.Codes.{same_code, function_code, got_code}
use Rattle.link_program.specs.Look.{part_at, row_at}
use Rattle.link_keys.specs.LiveRefs.{LiveRef, named_ref, named_number, is_code, refs_at, live_refs, window_numbers}
use Rattle.link_keys.specs.Noted.{Noted, import_named, stub_called, function_taken, cell_read, flagged, with_taken, with_read, taking, reading, flagging, noted_ref, noted_number, noted, noted_part, noted_parts, nothing_noted}
use Rattle.link_keys.proofs.ToldLists.{any_told}

abbrev pub import_asked : LiveRef → Option ℕ
import_asked r = import_named r.symbol.lead

abbrev pub stub_asked : LiveRef → Option ℕ
stub_asked r = stub_called r.kind r.symbol

abbrev pub slot_asked : LiveRef → Option FunctionKey
slot_asked r = function_taken r.kind r.symbol

abbrev pub cell_asked : LiveRef → Option GotKey
cell_asked r = cell_read r.code r.kind r.symbol

pub record NotedAre (import_count name_count : ℕ) (refs : List LiveRef) (numbers : List ℕ) (m : Noted) : Type 0 where
  pub imports : m.imports ≡ fold flagged (replicate import_count false) (map import_asked refs)
  pub stubs : m.stubs ≡ fold flagged (replicate name_count false) (map stub_asked refs)
  pub taken : m.taken ≡ distinct same_code (map function_code (filter_map slot_asked refs))
  pub cells : m.cells ≡ distinct same_got_key (filter_map cell_asked refs)
  pub codes : m.cell_codes ≡ map got_code m.cells
  pub windows : m.windows ≡ distinct nat_eq numbers

-- ---- codes of cells

pub same_got_code : (a b : GotKey) → same_code (got_code a) (got_code b) ≡ same_got_key a b
same_got_code (cells.Here a) (cells.Here b) = refl
same_got_code (cells.Here a) (cells.Import b) = refl
same_got_code (cells.Here a) (cells.Null b) = refl
same_got_code (cells.Import a) (cells.Here b) = refl
same_got_code (cells.Import a) (cells.Import b) = refl
same_got_code (cells.Import a) (cells.Null b) = refl
same_got_code (cells.Null a) (cells.Here b) = refl
same_got_code (cells.Null a) (cells.Import b) = refl
same_got_code (cells.Null a) (cells.Null b) = refl

any_code : (key : GotKey) (keys : List GotKey) → list_any (same_code (got_code key)) (map got_code keys) ≡ list_any (same_got_key key) keys
any_code key keys = any_told got_code same_got_key same_code (λ k. Unit {0}) (λ a b ka kb. same_got_code a b) key keys tt (λ k d below. tt)

-- ---- one more

pub onto_append : {A : Type 0} (same : A → A → Bool) (seen xs ys : List A) → distinct_onto same seen (xs ++ ys) ≡ distinct_onto same (distinct_onto same seen xs) ys
onto_append same seen [] ys = refl
onto_append same seen (x ∷ xs) ys = onto_append same (if list_any (same x) seen then seen else seen ++ x ∷ []) xs ys

one_more : {A X : Type 0} (same : A → A → Bool) (h : X → Option A) (xs : List X) (x : X) → distinct same (filter_map h (xs ++ x ∷ [])) ≡ distinct_onto same (distinct same (filter_map h xs)) (cons_option (h x) [])
one_more same h xs x = ap (distinct same) (filter_map-append h xs (x ∷ [])) ∙ onto_append same [] (filter_map h xs) (cons_option (h x) [])

flag_more : {X : Type 0} (h : X → Option ℕ) (flags : List Bool) (xs : List X) (x : X) → flagged (fold flagged flags (map h xs)) (h x) ≡ fold flagged flags (map h (xs ++ x ∷ []))
flag_more h flags xs x = sym (ap (fold flagged flags) (map-append h xs (x ∷ [])) ∙ fold-append flagged flags (map h xs) (h x ∷ []))

-- ---- a reference

taking_imports : (m : Noted) (o : Option FunctionKey) → (taking m o).imports ≡ m.imports
taking_imports m None = refl
taking_imports m (Some key) = refl

taking_stubs : (m : Noted) (o : Option FunctionKey) → (taking m o).stubs ≡ m.stubs
taking_stubs m None = refl
taking_stubs m (Some key) = refl

taking_cells : (m : Noted) (o : Option FunctionKey) → (taking m o).cells ≡ m.cells
taking_cells m None = refl
taking_cells m (Some key) = refl

taking_codes : (m : Noted) (o : Option FunctionKey) → (taking m o).cell_codes ≡ m.cell_codes
taking_codes m None = refl
taking_codes m (Some key) = refl

taking_windows : (m : Noted) (o : Option FunctionKey) → (taking m o).windows ≡ m.windows
taking_windows m None = refl
taking_windows m (Some key) = refl

taking_taken : (m : Noted) (o : Option FunctionKey) → (taking m o).taken ≡ distinct_onto same_code m.taken (map function_code (cons_option o []))
taking_taken m None = refl
taking_taken m (Some key) = refl

reading_imports : (m : Noted) (o : Option GotKey) → (reading m o).imports ≡ m.imports
reading_imports m None = refl
reading_imports m (Some key) = refl

reading_stubs : (m : Noted) (o : Option GotKey) → (reading m o).stubs ≡ m.stubs
reading_stubs m None = refl
reading_stubs m (Some key) = refl

reading_taken : (m : Noted) (o : Option GotKey) → (reading m o).taken ≡ m.taken
reading_taken m None = refl
reading_taken m (Some key) = refl

reading_windows : (m : Noted) (o : Option GotKey) → (reading m o).windows ≡ m.windows
reading_windows m None = refl
reading_windows m (Some key) = refl

pub reading_cells : (m : Noted) (o : Option GotKey) → m.cell_codes ≡ map got_code m.cells → (reading m o).cells ≡ distinct_onto same_got_key m.cells (cons_option o [])
reading_cells m None codes = refl
reading_cells m (Some key) codes =
    ap (λ cs. if list_any (same_code (got_code key)) cs then m.cells else m.cells ++ key ∷ []) codes
    ∙ ap (λ r. if r then m.cells else m.cells ++ key ∷ []) (any_code key m.cells)

code_pushed : (r : Bool) (keys : List GotKey) (key : GotKey) → (if r then map got_code keys else map got_code keys ++ got_code key ∷ []) ≡ map got_code (if r then keys else keys ++ key ∷ [])
code_pushed true keys key = refl
code_pushed false keys key = sym (map-append got_code keys (key ∷ []))

pub reading_codes : (m : Noted) (o : Option GotKey) → m.cell_codes ≡ map got_code m.cells → (reading m o).cell_codes ≡ map got_code (reading m o).cells
reading_codes m None codes = codes
reading_codes m (Some key) codes =
    ap (λ cs. if list_any (same_code (got_code key)) m.cell_codes then cs else cs ++ got_code key ∷ []) codes
    ∙ code_pushed (list_any (same_code (got_code key)) m.cell_codes) m.cells key

module _ {imports names : ℕ} {refs : List LiveRef} {numbers : List ℕ} {m : Noted} (are : NotedAre imports names refs numbers m) where
  ref_noted : (r : LiveRef) → NotedAre imports names (refs ++ r ∷ []) numbers (noted_ref r.code r.kind r.symbol m)
  ref_noted r =
      let f : Noted = flagging r.kind r.symbol m in
      let t : Noted = taking f (slot_asked r) in
      let codes : t.cell_codes ≡ map got_code t.cells = taking_codes f (slot_asked r) ∙ are.codes ∙ ap (map got_code) (sym (taking_cells f (slot_asked r))) in
      record {
        imports = reading_imports t (cell_asked r) ∙ taking_imports f (slot_asked r) ∙ ap (λ flags. flagged flags (import_asked r)) are.imports ∙ flag_more import_asked (replicate imports false) refs r;
        stubs = reading_stubs t (cell_asked r) ∙ taking_stubs f (slot_asked r) ∙ ap (λ flags. flagged flags (stub_asked r)) are.stubs ∙ flag_more stub_asked (replicate names false) refs r;
        taken = reading_taken t (cell_asked r) ∙ taking_taken f (slot_asked r) ∙ ap (λ codes. distinct_onto same_code codes (map function_code (cons_option (slot_asked r) []))) are.taken ∙ sym (taken_more r);
        cells = reading_cells t (cell_asked r) codes ∙ ap (λ cs. distinct_onto same_got_key cs (cons_option (cell_asked r) [])) (taking_cells f (slot_asked r) ∙ are.cells) ∙ sym (one_more same_got_key cell_asked refs r);
        codes = reading_codes t (cell_asked r) codes;
        windows = reading_windows t (cell_asked r) ∙ taking_windows f (slot_asked r) ∙ are.windows;
      }
    where
      taken_more : (r : LiveRef) → distinct same_code (map function_code (filter_map slot_asked (refs ++ r ∷ []))) ≡ distinct_onto same_code (distinct same_code (map function_code (filter_map slot_asked refs))) (map function_code (cons_option (slot_asked r) []))
      taken_more r =
          ap (λ keys. distinct same_code (map function_code keys)) (filter_map-append slot_asked refs (r ∷ []))
          ∙ ap (distinct same_code) (map-append function_code (filter_map slot_asked refs) (cons_option (slot_asked r) []))
          ∙ onto_append same_code [] (map function_code (filter_map slot_asked refs)) (map function_code (cons_option (slot_asked r) []))

  number_noted : (n : ℕ) → NotedAre imports names refs (numbers ++ n ∷ []) (noted_number n m)
  number_noted n = record {
    imports = are.imports;
    stubs = are.stubs;
    taken = are.taken;
    cells = are.cells;
    codes = are.codes;
    windows = ap (λ ns. distinct_onto nat_eq ns (n ∷ [])) are.windows ∙ sym (onto_append nat_eq [] numbers (n ∷ []));
  }

-- ---- all

module _ (imports names : ℕ) where
  abbrev moved : (refs more : List LiveRef) (numbers others : List ℕ) (m : Noted) → refs ≡ more → numbers ≡ others → NotedAre imports names refs numbers m → NotedAre imports names more others m
  moved refs more numbers others m er en are = subst (λ rs. NotedAre imports names rs others m) er (subst (λ ns. NotedAre imports names refs ns m) en are)

  row_noted : (symbols : List Symbol) (code : Bool) (row : List Named) (refs : List LiveRef) (numbers : List ℕ) (m : Noted) → NotedAre imports names refs numbers m
      → NotedAre imports names (refs ++ filter_map (named_ref symbols code) row) (numbers ++ filter_map named_number row) (fold (noted symbols code) m row)
  row_noted symbols code [] refs numbers m are = moved refs (refs ++ []) numbers (numbers ++ []) m (sym (append-nil refs)) (sym (append-nil numbers)) are
  row_noted symbols code (windows.Symbol kind place addend symbol ∷ row) refs numbers m are =
      let r : LiveRef = record { code = code; kind = kind; symbol = slice_index_or symbols symbol no_symbol } in
      moved ((refs ++ r ∷ []) ++ filter_map (named_ref symbols code) row) (refs ++ r ∷ filter_map (named_ref symbols code) row) (numbers ++ filter_map named_number row) (numbers ++ filter_map named_number row) _
      (append_assoc refs (r ∷ []) (filter_map (named_ref symbols code) row)) refl
      (row_noted symbols code row (refs ++ r ∷ []) numbers (noted_ref code kind r.symbol m) (ref_noted are r))
  row_noted symbols code (windows.Type place number ∷ row) refs numbers m are =
      moved (refs ++ filter_map (named_ref symbols code) row) (refs ++ filter_map (named_ref symbols code) row) ((numbers ++ number ∷ []) ++ filter_map named_number row) (numbers ++ number ∷ filter_map named_number row) _
      refl (append_assoc numbers (number ∷ []) (filter_map named_number row))
      (row_noted symbols code row refs (numbers ++ number ∷ []) (noted_number number m) (number_noted are number))

  part_noted : (t : Tables) (n : ℕ) (refs : List LiveRef) (numbers : List ℕ) (m : Noted) → NotedAre imports names refs numbers m
      → NotedAre imports names (refs ++ refs_at t n) (numbers ++ filter_map named_number (row_at t n)) (noted_part t m n)
  part_noted t n refs numbers m are = row_noted t.symbols (is_code (part_at t n)) (row_at t n) refs numbers m are

  pub parts_noted : (t : Tables) (live : List ℕ) (refs : List LiveRef) (numbers : List ℕ) (m : Noted) → NotedAre imports names refs numbers m
      → NotedAre imports names (refs ++ live_refs t live) (numbers ++ window_numbers t live) (noted_parts t m live)
  parts_noted t [] refs numbers m are = moved refs (refs ++ []) numbers (numbers ++ []) m (sym (append-nil refs)) (sym (append-nil numbers)) are
  parts_noted t (n ∷ live) refs numbers m are =
      moved ((refs ++ refs_at t n) ++ live_refs t live) (refs ++ (refs_at t n ++ live_refs t live)) ((numbers ++ filter_map named_number (row_at t n)) ++ window_numbers t live) (numbers ++ (filter_map named_number (row_at t n) ++ window_numbers t live)) _
      (append_assoc refs (refs_at t n) (live_refs t live)) (append_assoc numbers (filter_map named_number (row_at t n)) (window_numbers t live))
      (parts_noted t live (refs ++ refs_at t n) (numbers ++ filter_map named_number (row_at t n)) (noted_part t m n) (part_noted t n refs numbers m are))

  -- What is noted of the live parts.
  pub all_noted : (t : Tables) (live : List ℕ) → NotedAre imports names (live_refs t live) (window_numbers t live) (noted_parts t (nothing_noted imports names) live)
  all_noted t live = parts_noted t live [] [] (nothing_noted imports names) (record { imports = refl; stubs = refl; taken = refl; cells = refl; codes = refl; windows = refl })
