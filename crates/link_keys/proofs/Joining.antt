-- What several workers noted, joined, is what one notes of all.
use Rattle.std.proofs.Common.{◌≡◌, ℕ, zero, suc, ◌+◌, ◌-◌, ◌<◌, ◌≤◌, nat_eq, Bool, true, false, ◌||◌, List, [], ◌∷◌, ◌++◌, map, filter_map, fold, length, get_or, set, take, drop, replicate, Option, Some, None, refl, sym, ap, subst, ◌∙◌, arith, length-set}
use Rattle.std.specs.Prelude.{if◌then◌else◌, slice_get, slice_range}
use Rattle.std.specs.List.{list_any}
use Rattle.std.proofs.lemmas.Bool.Decides.{nat_tests}
use Rattle.std.proofs.lemmas.List.{map-append, length-replicate, take_all}
use Rattle.std.proofs.lemmas.List.Sums.{fold-append}
use Rattle.std.proofs.lemmas.List.Elements.{filter_map-append}
use Rattle.std.proofs.lemmas.Option.{same_Some, slice_get_within}
use Rattle.indexmap.specs.IndexSet.{insert_all}
use Rattle.link_program.specs.wl_base.Choice.{distinct, distinct_onto}
use Rattle.link_program.specs.declared.keys.GotKey.{GotKey}
use Rattle.link_program.specs.declared.program.Tables.{Tables}
use Rattle.link_program.specs.Keys.{same_got_key}
use Rattle.wl_rows.specs.Ranges.{first_at, Rising}
use Rattle.wl_rows.proofs.Cuts.{first_past}
use Rattle.link_keys.specs.declared.codes.Code.{Code}
use Rattle.link_keys.specs.Codes.{same_code, function_code, got_code}
use Rattle.link_keys.specs.LiveRefs.{LiveRef, live_refs, window_numbers}
use Rattle.link_keys.specs.Noted.{Noted, flagged, with_read, noted_part, noted_parts, nothing_noted}
use Rattle.link_keys.specs.Joined.{flagged_if, either_flag, with_all_read, joined, both_joined, joined_all, AreNoted}
use Rattle.link_keys.proofs.Any.{any_left, any_right, or_left, or_right}
use Rattle.link_keys.proofs.Flags.{flagged_length}
use Rattle.link_keys.proofs.Heard.{NotedAre, import_asked, stub_asked, slot_asked, cell_asked, same_got_code, onto_append, reading_cells, reading_codes, parts_noted, all_noted}

-- ---- flags

or_false : (b : Bool) → (b || false) ≡ b
or_false true = refl
or_false false = refl

or_true : (b : Bool) → (b || true) ≡ true
or_true true = refl
or_true false = refl

either_none : (flags : List Bool) (n : ℕ) → either_flag flags (replicate n false) ≡ flags
either_none [] n = refl
either_none (f ∷ flags) zero = refl
either_none (f ∷ flags) (suc n) = ap (λ (b : Bool). b ∷ either_flag flags (replicate n false)) (or_false f) ∙ ap (λ (bs : List Bool). f ∷ bs) (either_none flags n)

either_set : (flags more : List Bool) (n : ℕ) → length flags ≡ length more → either_flag flags (set more n true) ≡ set (either_flag flags more) n true
either_set [] [] n long = refl
either_set [] (b ∷ more) n long = absurd (omega (arith, long))
either_set (f ∷ flags) [] n long = absurd (omega (arith, long))
either_set (f ∷ flags) (b ∷ more) zero long = ap (λ (c : Bool). c ∷ either_flag flags more) (or_true f)
either_set (f ∷ flags) (b ∷ more) (suc n) long = ap (λ (bs : List Bool). (f || b) ∷ bs) (either_set flags more n (omega (arith, long)))

either_flagged : (flags more : List Bool) (o : Option ℕ) → length flags ≡ length more → either_flag flags (flagged more o) ≡ flagged (either_flag flags more) o
either_flagged flags more None long = refl
either_flagged flags more (Some n) long = either_set flags more n long

either_folded : (os : List (Option ℕ)) (flags more : List Bool) → length flags ≡ length more → either_flag flags (fold flagged more os) ≡ fold flagged (either_flag flags more) os
either_folded [] flags more long = refl
either_folded (o ∷ os) flags more long =
    either_folded os flags (flagged more o) (long ∙ sym (flagged_length more o)) ∙ ap (λ (bs : List Bool). fold flagged bs os) (either_flagged flags more o long)

folded_length : (os : List (Option ℕ)) (flags : List Bool) → length (fold flagged flags os) ≡ length flags
folded_length [] flags = refl
folded_length (o ∷ os) flags = folded_length os (flagged flags o) ∙ flagged_length flags o

-- Flags of both, from flags that were not set.
flags_joined : (n : ℕ) (os more : List (Option ℕ)) → either_flag (fold flagged (replicate n false) os) (fold flagged (replicate n false) more) ≡ fold flagged (replicate n false) (os ++ more)
flags_joined n os more =
    let none : List Bool = replicate n false in
    let first : List Bool = fold flagged none os in
    either_folded more first none (folded_length os none) ∙ ap (λ (bs : List Bool). fold flagged bs more) (either_none first n) ∙ sym (fold-append flagged none os more)

-- The flags at one place more of another list.
pub either_empty : (flags : List Bool) → flags ≡ either_flag flags []
either_empty [] = refl
either_empty (f ∷ flags) = refl

pub flag_set : (flags more : List Bool) (n : ℕ) → n < length more → get_or more n false ≡ true → set (either_flag flags (take n more)) n true ≡ either_flag flags (take (suc n) more)
flag_set [] more n below is = refl
flag_set (f ∷ flags) [] n below is = absurd (omega (arith, below))
flag_set (f ∷ flags) (b ∷ more) zero below is =
    ap (λ (bs : List Bool). true ∷ bs) (either_empty flags) ∙ ap (λ (c : Bool). c ∷ either_flag flags []) (sym (ap (λ (c : Bool). f || c) is ∙ or_true f))
flag_set (f ∷ flags) (b ∷ more) (suc n) below is = ap (λ (bs : List Bool). (f || b) ∷ bs) (flag_set flags more n (omega (arith, below)) is)

pub flag_kept : (flags more : List Bool) (n : ℕ) → n < length more → get_or more n false ≡ false → either_flag flags (take n more) ≡ either_flag flags (take (suc n) more)
flag_kept [] more n below is = refl
flag_kept (f ∷ flags) [] n below is = absurd (omega (arith, below))
flag_kept (f ∷ flags) (b ∷ more) zero below is =
    ap (λ (bs : List Bool). f ∷ bs) (either_empty flags) ∙ ap (λ (c : Bool). c ∷ either_flag flags []) (sym (ap (λ (c : Bool). f || c) is ∙ or_false f))
flag_kept (f ∷ flags) (b ∷ more) (suc n) below is = ap (λ (bs : List Bool). (f || b) ∷ bs) (flag_kept flags more n (omega (arith, below)) is)

pub flag_next : (flags more now new : List Bool) (n : ℕ) (d : Bool) → n < length more → now ≡ either_flag flags (take n more) → new ≡ flagged_if now n (get_or more n d)
    → new ≡ either_flag flags (take (n + 1) more)
flag_next flags more now new n d below was put = by_flag (get_or more n d) (same_at more n below d) put ∙ (let e : suc n ≡ n + 1 = omega arith in ap (λ (k : ℕ). either_flag flags (take k more)) e)
  where
    same_at : (bs : List Bool) (k : ℕ) → k < length bs → (e : Bool) → get_or bs k e ≡ get_or bs k false
    same_at [] k lt e = absurd (omega (arith, lt))
    same_at (x ∷ bs) zero lt e = refl
    same_at (x ∷ bs) (suc k) lt e = same_at bs k (omega (arith, lt)) e

    by_flag : (f : Bool) → f ≡ get_or more n false → new ≡ flagged_if now n f → new ≡ either_flag flags (take (suc n) more)
    by_flag true at put = put ∙ ap (λ (bs : List Bool). set bs n true) was ∙ flag_set flags more n below (sym at)
    by_flag false at put = put ∙ was ∙ flag_kept flags more n below (sym at)

-- ---- keys

put_is_onto : {A : Type 0} (same : A → A → Bool) (seen xs : List A) → insert_all same seen xs ≡ distinct_onto same seen xs
put_is_onto same seen [] = refl
put_is_onto same seen (x ∷ xs) = put_is_onto same (if list_any (same x) seen then seen else seen ++ x ∷ []) xs

module _ {A : Type 0} (same : A → A → Bool) (whole : (x : A) → same x x ≡ true) (passes : (x y z : A) → same x y ≡ true → same y z ≡ true → same x z ≡ true) where
  abbrev put : List A → A → List A
  put seen x = if list_any (same x) seen then seen else seen ++ x ∷ []

  one_true : (b : Bool) → b ≡ true → (b || false) ≡ true
  one_true true e = refl
  one_true false e = absurd cc

  -- what one of a list passes, another passes that is the same as it
  any_passes : (x y : A) (seen : List A) → same x y ≡ true → list_any (same y) seen ≡ true → list_any (same x) seen ≡ true
  any_passes x y [] is held = absurd cc
  any_passes x y (z ∷ seen) is held = by_head (same y z) refl (any_passes x y seen is) held
    where
      by_head : (r : Bool) → same y z ≡ r → (list_any (same y) seen ≡ true → list_any (same x) seen ≡ true) → (r || list_any (same y) seen) ≡ true → (same x z || list_any (same x) seen) ≡ true
      by_head true e again held = or_left (same x z) (list_any (same x) seen) (passes x y z is e)
      by_head false e again held = or_right (same x z) (list_any (same x) seen) (again held)

  put_keeps : (x y : A) (seen : List A) (r : Bool) → list_any (same x) seen ≡ true → list_any (same x) (if r then seen else seen ++ y ∷ []) ≡ true
  put_keeps x y seen true held = held
  put_keeps x y seen false held = any_left (same x) seen (y ∷ []) held

  onto_keeps : (x : A) (seen xs : List A) → list_any (same x) seen ≡ true → list_any (same x) (distinct_onto same seen xs) ≡ true
  onto_keeps x seen [] held = held
  onto_keeps x seen (y ∷ xs) held = onto_keeps x (put seen y) xs (put_keeps x y seen (list_any (same y) seen) held)

  put_holds : (x y : A) (seen : List A) (r : Bool) → list_any (same y) seen ≡ r → same x y ≡ true → list_any (same x) (if r then seen else seen ++ y ∷ []) ≡ true
  put_holds x y seen true there is = any_passes x y seen is there
  put_holds x y seen false there is = any_right (same x) seen (y ∷ []) (one_true (same x y) is)

  onto_holds : (x : A) (seen xs : List A) → list_any (same x) xs ≡ true → list_any (same x) (distinct_onto same seen xs) ≡ true
  onto_holds x seen [] held = absurd cc
  onto_holds x seen (y ∷ xs) held = by_head (same x y) refl (onto_holds x (put seen y) xs) held
    where
      by_head : (r : Bool) → same x y ≡ r → (list_any (same x) xs ≡ true → list_any (same x) (distinct_onto same (put seen y) xs) ≡ true)
          → (r || list_any (same x) xs) ≡ true → list_any (same x) (distinct_onto same (put seen y) xs) ≡ true
      by_head true e again held = onto_keeps x (put seen y) xs (put_holds x y seen (list_any (same y) seen) refl e)
      by_head false e again held = again held

  -- What is put behind others, and was put together before, each once.
  onto_onto : (seen s xs : List A) → distinct_onto same seen (distinct_onto same s xs) ≡ distinct_onto same (distinct_onto same seen s) xs
  onto_onto seen s [] = refl
  onto_onto seen s (x ∷ xs) = onto_onto seen (put s x) xs ∙ ap (λ (ys : List A). distinct_onto same ys xs) (by_held (list_any (same x) s) refl)
    where
      by_held : (r : Bool) → list_any (same x) s ≡ r → distinct_onto same seen (if r then s else s ++ x ∷ []) ≡ put (distinct_onto same seen s) x
      by_held true e = ap (λ (b : Bool). if b then distinct_onto same seen s else distinct_onto same seen s ++ x ∷ []) (sym (onto_holds x seen s e))
      by_held false e = onto_append same seen s (x ∷ [])

  keys_joined : (xs ys : List A) → distinct_onto same (distinct same xs) (distinct same ys) ≡ distinct same (xs ++ ys)
  keys_joined xs ys = onto_onto (distinct same xs) [] ys ∙ sym (onto_append same [] xs ys)

code_equal : (x y : Code) → same_code x y ≡ true → x ≡ y
code_equal x y e = let a : x.kind ≡ y.kind = grind (arith, nat_tests) in let b : x.input ≡ y.input = grind (arith, nat_tests) in let d : x.index ≡ y.index = grind (arith, nat_tests) in
    λ i. record { kind = a i; input = b i; index = d i }

code_itself : (x : Code) → same_code x x ≡ true
code_itself x = grind (arith, nat_tests)

code_passes : (x y z : Code) → same_code x y ≡ true → same_code y z ≡ true → same_code x z ≡ true
code_passes x y z a b = subst (λ (w : Code). same_code w z ≡ true) (sym (code_equal x y a)) b

got_itself : (x : GotKey) → same_got_key x x ≡ true
got_itself x = sym (same_got_code x x) ∙ code_itself (got_code x)

got_passes : (x y z : GotKey) → same_got_key x y ≡ true → same_got_key y z ≡ true → same_got_key x z ≡ true
got_passes x y z a b = sym (same_got_code x z) ∙ code_passes (got_code x) (got_code y) (got_code z) (same_got_code x y ∙ a) (same_got_code y z ∙ b)

nat_itself : (x : ℕ) → nat_eq x x ≡ true
nat_itself x = grind (arith, nat_tests)

nat_passes : (x y z : ℕ) → nat_eq x y ≡ true → nat_eq y z ≡ true → nat_eq x z ≡ true
nat_passes x y z a b = grind (arith, nat_tests)

-- ---- cells

reads_imports : (m : Noted) (keys : List GotKey) → (with_all_read m keys).imports ≡ m.imports
reads_imports m [] = refl
reads_imports m (key ∷ keys) = reads_imports (with_read m key) keys

reads_stubs : (m : Noted) (keys : List GotKey) → (with_all_read m keys).stubs ≡ m.stubs
reads_stubs m [] = refl
reads_stubs m (key ∷ keys) = reads_stubs (with_read m key) keys

reads_taken : (m : Noted) (keys : List GotKey) → (with_all_read m keys).taken ≡ m.taken
reads_taken m [] = refl
reads_taken m (key ∷ keys) = reads_taken (with_read m key) keys

reads_windows : (m : Noted) (keys : List GotKey) → (with_all_read m keys).windows ≡ m.windows
reads_windows m [] = refl
reads_windows m (key ∷ keys) = reads_windows (with_read m key) keys

reads_codes : (m : Noted) (keys : List GotKey) → m.cell_codes ≡ map got_code m.cells → (with_all_read m keys).cell_codes ≡ map got_code (with_all_read m keys).cells
reads_codes m [] codes = codes
reads_codes m (key ∷ keys) codes = reads_codes (with_read m key) keys (reading_codes m (Some key) codes)

reads_cells : (m : Noted) (keys : List GotKey) → m.cell_codes ≡ map got_code m.cells → (with_all_read m keys).cells ≡ distinct_onto same_got_key m.cells keys
reads_cells m [] codes = refl
reads_cells m (key ∷ keys) codes =
    reads_cells (with_read m key) keys (reading_codes m (Some key) codes) ∙ ap (λ (cells : List GotKey). distinct_onto same_got_key cells keys) (reading_cells m (Some key) codes)

-- ---- two

module _ (imports names : ℕ) where
  joined_are : (refs others : List LiveRef) (numbers more : List ℕ) (m o w : Noted) → NotedAre imports names refs numbers m → NotedAre imports names others more o
      → NotedAre imports names (refs ++ others) (numbers ++ more) w → joined m o ≡ w
  joined_are refs others numbers more m o w a b c =
      let base : Noted = record m {
        imports = either_flag m.imports o.imports;
        stubs = either_flag m.stubs o.stubs;
        taken = insert_all same_code m.taken o.taken;
        windows = insert_all nat_eq m.windows o.windows;
      } in
      let flags : (joined m o).imports ≡ w.imports =
      reads_imports base o.cells ∙ (λ i. either_flag (a.imports i) (b.imports i)) ∙ flags_joined imports (map import_asked refs) (map import_asked others)
      ∙ ap (fold flagged (replicate imports false)) (sym (map-append import_asked refs others)) ∙ sym c.imports in
      let calls : (joined m o).stubs ≡ w.stubs =
      reads_stubs base o.cells ∙ (λ i. either_flag (a.stubs i) (b.stubs i)) ∙ flags_joined names (map stub_asked refs) (map stub_asked others)
      ∙ ap (fold flagged (replicate names false)) (sym (map-append stub_asked refs others)) ∙ sym c.stubs in
      let slots : (joined m o).taken ≡ w.taken =
      reads_taken base o.cells ∙ put_is_onto same_code m.taken o.taken ∙ (λ i. distinct_onto same_code (a.taken i) (b.taken i))
      ∙ keys_joined same_code code_itself code_passes (map function_code (filter_map slot_asked refs)) (map function_code (filter_map slot_asked others))
      ∙ ap (distinct same_code) (sym (map-append function_code (filter_map slot_asked refs) (filter_map slot_asked others)) ∙ ap (map function_code) (sym (filter_map-append slot_asked refs others)))
      ∙ sym c.taken in
      let read : (joined m o).cells ≡ w.cells =
      reads_cells base o.cells a.codes ∙ (λ i. distinct_onto same_got_key (a.cells i) (b.cells i))
      ∙ keys_joined same_got_key got_itself got_passes (filter_map cell_asked refs) (filter_map cell_asked others)
      ∙ ap (distinct same_got_key) (sym (filter_map-append cell_asked refs others)) ∙ sym c.cells in
      let codes : (joined m o).cell_codes ≡ w.cell_codes = reads_codes base o.cells a.codes ∙ ap (map got_code) read ∙ sym c.codes in
      let types : (joined m o).windows ≡ w.windows =
      reads_windows base o.cells ∙ put_is_onto nat_eq m.windows o.windows ∙ (λ i. distinct_onto nat_eq (a.windows i) (b.windows i))
      ∙ keys_joined nat_eq nat_itself nat_passes numbers more ∙ sym c.windows in
      λ i. record { imports = flags i; stubs = calls i; taken = slots i; cells = read i; cell_codes = codes i; windows = types i }

  -- What is noted of parts, and what is noted of others, joined.
  pub parts_joined : (t : Tables) (xs ys : List ℕ) → joined (noted_parts t (nothing_noted imports names) xs) (noted_parts t (nothing_noted imports names) ys) ≡ noted_parts t (nothing_noted imports names) (xs ++ ys)
  parts_joined t xs ys =
      let none : Noted = nothing_noted imports names in
      let m : Noted = noted_parts t none xs in
      joined_are (live_refs t xs) (live_refs t ys) (window_numbers t xs) (window_numbers t ys) m (noted_parts t none ys) (noted_parts t m ys)
      (all_noted imports names t xs) (all_noted imports names t ys) (parts_noted imports names t ys (live_refs t xs) (window_numbers t xs) m (all_noted imports names t xs))
      ∙ sym (fold-append (noted_part t) none xs ys)

-- ---- all

none_stays : (slots : List (Option Noted)) → fold both_joined None slots ≡ None
none_stays [] = refl
none_stays (slot ∷ slots) = none_stays slots

take_both : {A : Type 0} (xs : List A) (a n : ℕ) → take a xs ++ take n (drop a xs) ≡ take (a + n) xs
take_both xs zero n = let e : n ≡ zero + n = omega arith in ap (λ (k : ℕ). take k xs) e
take_both {A = A} [] (suc a) zero = let e : suc (a + zero) ≡ suc a + zero = omega arith in ap (λ (k : ℕ). let none : List A = [] in take k none) e
take_both {A = A} [] (suc a) (suc n) = let e : suc (a + suc n) ≡ suc a + suc n = omega arith in ap (λ (k : ℕ). let none : List A = [] in take k none) e
take_both (x ∷ xs) (suc a) n = ap (λ ys. x ∷ ys) (take_both xs a n) ∙ (let e : suc (a + n) ≡ suc a + n = omega arith in ap (λ (k : ℕ). take k (x ∷ xs)) e)

take_range : {A : Type 0} (xs : List A) (a b : ℕ) → a ≤ b → take a xs ++ slice_range xs a b ≡ take b xs
take_range xs a b le = let e : a + (b - a) ≡ b = omega arith in take_both xs a (b - a) ∙ ap (λ (k : ℕ). take k xs) e

module _ (t : Tables) (imports names : ℕ) (live cuts : List ℕ) (count : ℕ) (rising : Rising cuts count) (whole : count ≡ length live) where
  abbrev noted_of : List ℕ → Noted
  noted_of parts = noted_parts t (nothing_noted imports names) parts

  abbrev before : ℕ → Noted
  before k = noted_of (take (first_at cuts count k) live)

  abbrev own : ℕ → Noted
  own k = noted_of (slice_range live (first_at cuts count k) (first_at cuts count (k + 1)))

  before_more : (k : ℕ) → joined (before k) (own k) ≡ before (k + 1)
  before_more k =
      let a = first_at cuts count k in
      let b = first_at cuts count (k + 1) in
      parts_joined imports names t (take a live) (slice_range live a b) ∙ ap noted_of (take_range live a b (rising k (k + 1) (omega arith)))

  rest_joined : (k : ℕ) (m r : Noted) (slots : List (Option Noted)) → k + length slots ≡ length cuts + 1 → ((i : ℕ) (o : Noted) → slice_get slots i ≡ Some (Some o) → o ≡ own (k + i))
      → m ≡ before k → fold both_joined (Some m) slots ≡ Some r → r ≡ noted_of live
  rest_joined k m r [] end each so is =
      let e : k ≡ length cuts + 1 = omega (arith, end) in
      sym (same_Some m r is) ∙ so ∙ ap (λ (n : ℕ). noted_of (take n live)) (ap (first_at cuts count) e ∙ first_past cuts count) ∙ ap noted_of (take_all count live (omega (arith, whole)))
  rest_joined k m r (None ∷ slots) end each so is = absurd (let f : None ≡ Some r = sym (none_stays slots) ∙ is in cc)
  rest_joined k m r (Some o ∷ slots) end each so is =
      let none : k + 0 ≡ k = omega arith in
      let here : o ≡ own k = each 0 o refl ∙ ap own none in
      rest_joined (k + 1) (joined m o) r slots (omega (arith, end)) (λ i p at. let e : k + suc i ≡ k + 1 + i = omega arith in each (suc i) p at ∙ ap own e)
      ((λ i. joined (so i) (here i)) ∙ before_more k) is

  -- What all workers noted, joined, is what is noted of all live parts.
  pub all_are_joined : (slots : List (Option Noted)) (r : Noted) → AreNoted t imports names live cuts count slots → joined_all slots ≡ Some r → r ≡ noted_of live
  all_are_joined [] r are is = absurd cc
  all_are_joined (None ∷ slots) r are is = absurd (let f : None ≡ Some r = sym (none_stays slots) ∙ is in cc)
  all_are_joined (Some m ∷ slots) r are is =
      let long = are.long in
      rest_joined 1 m r slots (omega (arith, long)) (λ i o at. let e : suc i ≡ 1 + i = omega arith in are.each (suc i) o at ∙ ap own e)
      (are.each 0 m refl ∙ ap noted_of (take_range live 0 (first_at cuts count 1) (omega arith))) is

-- ---- one slot after another

pub joined_begun : (slots rest : List (Option Noted)) (first : Option Noted) (m : Noted) → slots ≡ first ∷ rest → first ≡ Some m → fold both_joined (Some m) rest ≡ joined_all slots
joined_begun slots rest first m are is = ap (λ (o : Option Noted). fold both_joined o rest) (sym is) ∙ ap joined_all (sym are)

pub joined_next : (left rest : List (Option Noted)) (slot all : Option Noted) (m now : Noted) → fold both_joined (Some m) left ≡ all → left ≡ slot ∷ rest → both_joined (Some m) slot ≡ Some now
    → fold both_joined (Some now) rest ≡ all
joined_next left rest slot all m now held are is =
    ap (λ (o : Option Noted). fold both_joined o rest) (sym is) ∙ ap (λ (os : List (Option Noted)). fold both_joined (Some m) os) (sym are) ∙ held

pub joined_ended : (left : List (Option Noted)) (all : Option Noted) (m : Noted) → fold both_joined (Some m) left ≡ all → left ≡ [] → all ≡ Some m
joined_ended left all m held none = sym held ∙ ap (λ (os : List (Option Noted)). fold both_joined (Some m) os) none
