-- The data tell of the init functions that would be lost as the definition has them.
use Rattle.std.proofs.Common.{◌≡◌, ℕ, zero, suc, ◌+◌, ◌<◌, ◌≤◌, Bool, true, false, not, cond, ◌&&◌, ◌||◌, List, [], ◌∷◌, ◌++◌, filter, filter_map, length, slice_get, get_or, map, take, drop, refl, sym, ap, ◌∙◌, arith, Option, Some, None, option_map, length-append, append_assoc}
use Rattle.std.specs.Prelude.{flat_map, pos, slice_index_or}
use Rattle.std.specs.List.{list_any, cons_option}
use Rattle.std.proofs.lemmas.List.{drop_more}
use Rattle.std.proofs.lemmas.Option.{slice_get-map, slice_get_within, get_or_from_slice_get}
use Rattle.link_marks.specs.link_program.linking_section.declared.init.InitFunc.{InitFunc}
use Rattle.link_marks.specs.link_program.linking_section.Flags.{is_undefined}
use Rattle.link_marks.specs.link_program.object_columns.Seen.{symbol_seen}
use Rattle.link_marks.specs.link_program.linking_section.declared.symbol.Symbol.{Symbol as ObjectSymbol}
use Rattle.link_marks.specs.link_program.object_file.declared.object.Object.{Object}
use Rattle.link_marks.specs.link_program.made_symbols.declared.mode.Mode.TheVariants.{Plain}
use Rattle.link_marks.specs.link_program.name_rules.Entries.{InputSymbol, ImportKey, symbols_of, entries}
use Rattle.link_marks.specs.link_program.name_rules.Meanings.{Meaning, Resolved, meaning, no_uses, resolved_in, is_init_use}
use Rattle.link_marks.specs.link_program.name_entries.View.{entry_at, rows_of}
use Rattle.link_marks.specs.link_program.name_entries.Shown.{Shows, AreShown}
use Rattle.link_marks.specs.link_program.name_entries.declared.entry.EntryRef.{EntryRef}
use Rattle.link_marks.specs.link_program.link_rules.Program as rules
use Rattle.link_marks.specs.link_program.link_rules.Program.{InitCall, init_call, is_skipped, ref_to, meant_chunk}
use Rattle.link_marks.specs.link_program.link_rules.Marks.{is_in, is_at_chunk, loses_inits}
use Rattle.link_marks.specs.link_program.declared.symbol.Symbol.{Symbol}
use Rattle.link_marks.specs.link_program.declared.program.Tables.{Tables}
use Rattle.link_marks.specs.link_program.Told.{told_symbol, told_all, told_symbols}
use Rattle.link_marks.specs.link_program.Seen.{no_symbol}
use Rattle.link_marks.specs.link_program.Program.{AreTables}
use Rattle.link_marks.specs.Seen.{led_number, number_in}
use Rattle.link_marks.proofs.Targets.{led}
use Rattle.lost_ctors.specs.declared.alive.Alive.{Alive}
use Rattle.lost_ctors.specs.Alive.{lives_beside, alive_of, AreAlive}
use Rattle.lost_ctors.specs.Inits.{own_part, lost_by, init_lost, inits_lost, lost_of, lost_from, objects_lost}
use Rattle.lost_ctors.proofs.Numbers.{beside}

-- ---- one init function, as the code asks for it

shown_entry : (names : List (List ℕ)) (r : EntryRef) (o : Option InputSymbol) → AreShown names (Some r) o → (e : InputSymbol) × (o ≡ Some e) × Shows names r e
shown_entry names r None shown = absurd shown
shown_entry names r (Some e) shown = (e, refl, shown)

pub shown_none : (names : List (List ℕ)) (o : Option InputSymbol) → AreShown names None o → o ≡ None
shown_none names None shown = refl
shown_none names (Some e) shown = absurd shown

pub number_within : (names : List (List ℕ)) (objects : List Object) (object place : ℕ) (r : EntryRef) → AreShown names (Some r) (entry_at objects object place)
    → place < length (slice_index_or (rows_of objects) object [])
number_within names objects object place r shown =
    let (e, there, shows) = shown_entry names r (entry_at objects object place) shown in
    slice_get_within (slice_index_or (rows_of objects) object []) place e there

pub one_lost : (names : List (List ℕ)) (t : Tables) (objects : List Object) (alive : Alive) (object first : ℕ) (i : InitFunc) (r : EntryRef) → AreShown names (Some r) (entry_at objects object i.symbol)
    → ((r.defines || is_undefined (symbol_seen r.symbol)) && lives_beside alive (own_part t (first + i.symbol))) ≡ init_lost t objects alive object first i
one_lost names t objects alive object first i r shown =
    let (e, there, shows) = shown_entry names r (entry_at objects object i.symbol) shown in
    ap (λ d. (d || is_undefined (symbol_seen r.symbol)) && lives_beside alive (own_part t (first + i.symbol))) shows.defines
    ∙ ap (λ (s : ObjectSymbol). (e.defines || is_undefined s) && lives_beside alive (own_part t (first + i.symbol))) shows.symbol
    ∙ ap (lost_by t alive (first + i.symbol)) (sym there)

-- ---- object by object

passed : (os : List Object) (i : ℕ) (o : Object) → slice_get os i ≡ Some o → drop i os ≡ o ∷ drop (i + 1) os
passed os i o at = drop_more os i o (slice_get_within os i o at) ∙ ap (λ z. z ∷ drop (i + 1) os) (get_or_from_slice_get os i o o at)

object_there : (os : List Object) (i : ℕ) → i < length os → (o : Object) × (slice_get os i ≡ Some o)
object_there [] i lt = absurd (omega (arith, lt))
object_there (x ∷ os) zero lt = (x, refl)
object_there (x ∷ os) (suc i) lt = object_there os i (omega (arith, lt))

pub one_more : (t : Tables) (objects : List Object) (alive : List Alive) (i first : ℕ) → i < length objects
    → lost_from t objects alive i first (drop i objects)
    ≡ (lost_of t objects alive i first (slice_get objects i) || lost_from t objects alive (i + 1) (first + length (slice_index_or (rows_of objects) i [])) (drop (i + 1) objects))
one_more t objects alive i first lt =
    let (o, at) = object_there objects i lt in
    let row : slice_index_or (rows_of objects) i [] ≡ symbols_of objects o =
    get_or_from_slice_get (rows_of objects) i (symbols_of objects o) [] (slice_get-map (symbols_of objects) objects i ∙ ap (option_map (symbols_of objects)) at) in
    ap (lost_from t objects alive i first) (passed objects i o at)
    ∙ ap (λ found. lost_of t objects alive i first found || lost_from t objects alive (i + 1) (first + length (symbols_of objects o)) (drop (i + 1) objects)) (sym at)
    ∙ ap (λ (es : List InputSymbol). lost_of t objects alive i first (slice_get objects i) || lost_from t objects alive (i + 1) (first + length es) (drop (i + 1) objects)) (sym row)

pub rows_step : {A : Type 0} (rows : List (List A)) (i : ℕ) → i < length rows
    → length (flat_map (λ row. row) (take (i + 1) rows)) ≡ length (flat_map (λ row. row) (take i rows)) + length (slice_index_or rows i [])
rows_step [] i lt = absurd (omega (arith, lt))
rows_step (r ∷ rs) zero lt = let whole = length-append r [] in omega (arith, whole)
rows_step (r ∷ rs) (suc i) lt =
    let next : suc i + 1 ≡ suc (i + 1) = omega arith in
    let rest = rows_step rs i (omega (arith, lt)) in
    let more : length (flat_map (λ row. row) (take (suc i + 1) (r ∷ rs))) ≡ length r + length (flat_map (λ row. row) (take (i + 1) rs)) =
    ap (λ k. length (flat_map (λ row. row) (take k (r ∷ rs)))) next ∙ length-append r (flat_map (λ row. row) (take (i + 1) rs)) in
    let less : length (flat_map (λ row. row) (take (suc i) (r ∷ rs))) ≡ length r + length (flat_map (λ row. row) (take i rs)) = length-append r (flat_map (λ row. row) (take i rs)) in
    let here : length (slice_index_or (r ∷ rs) (suc i) []) ≡ length (slice_index_or rs i []) = refl in
    omega (arith, rest, more, less, here)

pub rows_within : {A : Type 0} (rows : List (List A)) (i : ℕ) → i < length rows
    → length (flat_map (λ row. row) (take i rows)) + length (slice_index_or rows i []) ≤ length (flat_map (λ row. row) rows)
rows_within [] i lt = absurd (omega (arith, lt))
rows_within (r ∷ rs) zero lt = let whole = length-append r (flat_map (λ row. row) rs) in omega (arith, whole)
rows_within (r ∷ rs) (suc i) lt =
    let rest = rows_within rs i (omega (arith, lt)) in
    let whole = length-append r (flat_map (λ row. row) rs) in
    let less = length-append r (flat_map (λ row. row) (take i rs)) in
    omega (arith, rest, whole, less)

-- ---- the definition

skipped_is : (undefined defines : Bool) → not (not undefined && not defines) ≡ (defines || undefined)
skipped_is true true = refl
skipped_is true false = refl
skipped_is false true = refl
skipped_is false false = refl

front_at : {A : Type 0} (xs ys : List A) (k : ℕ) (x : A) → slice_get xs k ≡ Some x → slice_get (xs ++ ys) k ≡ Some x
front_at [] ys k x at = absurd cc
front_at (y ∷ xs) ys zero x at = at
front_at (y ∷ xs) ys (suc k) x at = front_at xs ys k x at

behind_at : {A : Type 0} (xs ys : List A) (n k : ℕ) → length xs ≡ n → slice_get (xs ++ ys) (n + k) ≡ slice_get ys k
behind_at [] ys n k is = let e : n + k ≡ k = omega (arith, is) in ap (slice_get ys) e
behind_at (x ∷ xs) ys zero k is = absurd (omega (arith, is))
behind_at (x ∷ xs) ys (suc n) k is = let e : suc n + k ≡ suc (n + k) = omega arith in ap (slice_get (x ∷ (xs ++ ys))) e ∙ behind_at xs ys n k (omega (arith, is))

module _ (names : List (List ℕ)) (imports : List ImportKey) (t : Tables) (p : rules.Program) (are : AreTables names imports t p) (allow : Bool) (objects : List Object)
    (numbers : List ℕ) (parts : List rules.Part) (is : map (slice_get p.parts) numbers ≡ map Some parts) (alive : List Alive) (column : AreAlive t numbers alive) where
  abbrev means : InputSymbol → Meaning
  means e = meaning Plain no_uses allow (entries Plain objects) e

  abbrev resolved : Object → Resolved
  resolved o = resolved_in Plain no_uses allow (entries Plain objects) objects o

  -- whether another part of the input than the one that is called is live
  abbrev loses : ℕ → InitCall → Bool
  loses input c = list_any (λ part. is_in input part && not (is_at_chunk (meant_chunk c.ref.meaning) part)) parts

  symbol_lost : (input number : ℕ) (e : InputSymbol) → slice_get t.symbols number ≡ Some (told_symbol names imports e (means e))
      → lives_beside (alive_of alive input) (own_part t number) ≡ list_any (λ part. is_in input part && not (is_at_chunk (meant_chunk (means e)) part)) parts
  symbol_lost input number e at =
      let own : own_part t number ≡ number_in t.chunks (meant_chunk (means e)) =
      ap (λ (s : Symbol). led_number t.chunks s.lead) (get_or_from_slice_get t.symbols number (told_symbol names imports e (means e)) no_symbol at) ∙ led t.chunks imports (means e) in
      ap (lives_beside (alive_of alive input)) own ∙ column input (number_in t.chunks (meant_chunk (means e))) ∙ beside names imports t p are input (meant_chunk (means e)) numbers parts is

  -- ---- the init functions of an object

  module _ (o : Object) (i first : ℕ) (told : (k : ℕ) (e : InputSymbol) → slice_get (symbols_of objects o) k ≡ Some e → slice_get t.symbols (first + k) ≡ Some (told_symbol names imports e (means e)))
      (row : (k : ℕ) → entry_at objects i k ≡ slice_get (symbols_of objects o) k) where
    abbrev called : List InitFunc → List InitCall
    called inits = filter_map (init_call (resolved o)) inits

    abbrev kept : List InitCall → List InitCall
    kept cs = filter (λ c. not (is_skipped c)) cs

    one : (x : InitFunc) (rest : Bool) (cs : List InitCall) → rest ≡ list_any (loses o.input) (kept cs)
        → (init_lost t objects (alive_of alive o.input) i first x || rest) ≡ list_any (loses o.input) (kept (cons_option (init_call (resolved o) x) cs))
    one x rest cs same = by (slice_get (symbols_of objects o) x.symbol) refl
      where
        call : InputSymbol → InitCall
        call e = record { priority = x.priority; ref = record { place = 0; kind = 0; addend = pos 0; entry = e; meaning = means e } }

        used : (e : InputSymbol) (b : Bool) → is_init_use e ≡ b → slice_get (symbols_of objects o) x.symbol ≡ Some e
            → ((b && lives_beside (alive_of alive o.input) (own_part t (first + x.symbol))) || rest) ≡ list_any (loses o.input) (cond b (call e ∷ kept cs) (kept cs))
        used e true is at = λ k. symbol_lost o.input (first + x.symbol) e (told x.symbol e at) k || same k
        used e false is at = same

        by : (found : Option InputSymbol) → slice_get (symbols_of objects o) x.symbol ≡ found
            → (init_lost t objects (alive_of alive o.input) i first x || rest) ≡ list_any (loses o.input) (kept (cons_option (init_call (resolved o) x) cs))
        by None at =
            ap (λ e. lost_by t (alive_of alive o.input) (first + x.symbol) e || rest) (row x.symbol ∙ at) ∙ same
            ∙ sym (ap (λ e. list_any (loses o.input) (kept (cons_option (option_map (λ ref. record { priority = x.priority; ref = ref }) (ref_to 0 0 (pos 0) e (slice_get (map means (symbols_of objects o)) x.symbol))) cs))) at)
        by (Some e) at =
            let meant : slice_get (map means (symbols_of objects o)) x.symbol ≡ Some (means e) = slice_get-map means (symbols_of objects o) x.symbol ∙ ap (option_map means) at in
            ap (λ e. lost_by t (alive_of alive o.input) (first + x.symbol) e || rest) (row x.symbol ∙ at)
            ∙ used e (is_init_use e) refl at
            ∙ ap (λ b. list_any (loses o.input) (cond b (call e ∷ kept cs) (kept cs))) (sym (skipped_is (is_undefined e.symbol) e.defines))
            ∙ sym (λ k. list_any (loses o.input) (kept (cons_option (option_map (λ ref. record { priority = x.priority; ref = ref }) (ref_to 0 0 (pos 0) (at k) (meant k))) cs)))

    inits_are : (inits : List InitFunc) → inits_lost t objects (alive_of alive o.input) i first inits ≡ list_any (loses o.input) (kept (called inits))
    inits_are [] = refl
    inits_are (x ∷ xs) = one x (inits_lost t objects (alive_of alive o.input) i first xs) (called xs) (inits_are xs)

    pub object_lost : inits_lost t objects (alive_of alive o.input) i first o.inits ≡ loses_inits parts (resolved o)
    object_lost = inits_are o.inits

  -- ---- all objects

  told_at : (es : List InputSymbol) (k : ℕ) (e : InputSymbol) → slice_get es k ≡ Some e → slice_get (told_all names imports es (map means es)) k ≡ Some (told_symbol names imports e (means e))
  told_at [] k e at = absurd cc
  told_at (x ∷ es) zero e at = let same : x ≡ e = cc in ap (λ x. Some (told_symbol names imports x (means x))) same
  told_at (x ∷ es) (suc k) e at = told_at es k e at

  told_length : (es : List InputSymbol) → length (told_all names imports es (map means es)) ≡ length es
  told_length [] = refl
  told_length (e ∷ es) = ap suc (told_length es)

  from : (os : List Object) (i first : ℕ) (before more : List Symbol) → ((j : ℕ) → slice_get os j ≡ slice_get objects (i + j)) → t.symbols ≡ before ++ (told_symbols names imports (map resolved os) ++ more) → length before ≡ first
      → lost_from t objects alive i first os ≡ list_any (loses_inits parts) (map resolved os)
  from [] i first before more same told at = refl
  from (o ∷ os) i first before more same told at =
      let es = symbols_of objects o in
      let here = told_all names imports es (map means es) in
      let rest = told_symbols names imports (map resolved os) in
      let z : i ≡ i + 0 = omega arith in
      let found : slice_get objects i ≡ Some o = ap (slice_get objects) z ∙ sym (same 0) in
      let row : get_or (rows_of objects) i [] ≡ es = get_or_from_slice_get (rows_of objects) i es [] (slice_get-map (symbols_of objects) objects i ∙ ap (option_map (symbols_of objects)) found) in
      let first_one = object_lost o i first
      (λ k e there. ap (λ l. slice_get l (first + k)) told ∙ behind_at before ((here ++ rest) ++ more) first k at
      ∙ front_at (here ++ rest) more k (told_symbol names imports e (means e)) (front_at here rest k (told_symbol names imports e (means e)) (told_at es k e there)))
      (λ k. ap (λ l. slice_get l k) row) in
      let onward : t.symbols ≡ (before ++ here) ++ (rest ++ more) =
      told ∙ ap (λ l. before ++ l) (append_assoc here rest more) ∙ sym (append_assoc before here (rest ++ more)) in
      let counted : length (before ++ here) ≡ first + length es = omega (arith, length-append before here, told_length es, at) in
      let later = from os (i + 1) (first + length es) (before ++ here) more (λ j. let e : i + suc j ≡ i + 1 + j = omega arith in same (suc j) ∙ ap (slice_get objects) e) onward counted in
      λ k. first_one k || later k

  pub all_lost : (more : List Symbol) → t.symbols ≡ told_symbols names imports (map resolved objects) ++ more → objects_lost t objects alive ≡ list_any (loses_inits parts) (map resolved objects)
  all_lost more told = from objects 0 0 [] more (λ j. let e : j ≡ 0 + j = omega arith in ap (slice_get objects) e) told refl
