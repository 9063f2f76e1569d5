-- Flags that were set one after another, as the loops set them.
use Rattle.std.proofs.Common.{◌≡◌, ℕ, zero, suc, ◌+◌, ◌<◌, ◌≤◌, Bool, true, ◌&&◌, List, [], ◌∷◌, ◌++◌, map, fold, drop, length, get_or, slice_get, Option, Some, None, refl, sym, ap, ◌∙◌, arith}
use Rattle.std.proofs.lemmas.List.Sums.{fold-append}
use Rattle.link_program.specs.linking_section.declared.symbol.Symbol.{Symbol as Written}
use Rattle.link_program.specs.object_file.declared.object.Object.{Object}
use Rattle.link_program.specs.name_rules.Entries.{ImportKey}
use Rattle.link_program.specs.declared.symbol.Symbol.{Symbol}
use Rattle.link_program.specs.Seen.{no_symbol}
use Rattle.link_layout.specs.link_numbers.link_keys.Noted.{flagged}
use Rattle.link_loader.specs.Cells.{tells_cell, all_tell}
use Rattle.link_loader.specs.Weak.{strong_of, noted_at, strong_row, object_row, strong_rows}

-- those of one item, and then of the others
pub folded : (flags : List Bool) (xs ys : List (Option ℕ)) → fold flagged flags (xs ++ ys) ≡ fold flagged (fold flagged flags xs) ys
folded flags xs ys = fold-append flagged flags xs ys

one_more : (at : ℕ) → suc at ≡ at + 1
one_more at = omega arith

nothing_left : {A : Type 0} (k : ℕ) → drop {A = A} k [] ≡ []
nothing_left zero = refl
nothing_left (suc k) = refl

all_left : {A : Type 0} (xs : List A) (at : ℕ) → length xs ≤ at → drop at xs ≡ []
all_left [] at past = nothing_left at
all_left (x ∷ xs) zero past = absurd (omega (arith, past))
all_left (x ∷ xs) (suc at) past = all_left xs at (omega (arith, past))

-- ---- names of an object's symbols

row_there : (row : List (Option ℕ)) (ss : List Written) (at : ℕ) (s : Written) → at < length row → slice_get ss at ≡ Some s
    → strong_row (drop at row) (drop at ss) ≡ strong_of (get_or row at None) s ∷ strong_row (drop (suc at) row) (drop (suc at) ss)
row_there [] ss at s below there = absurd (omega (arith, below))
row_there (n ∷ row) [] at s below there = absurd cc
row_there (n ∷ row) (x ∷ ss) zero s below there = let same : x ≡ s = cc in ap (λ y. strong_of n y ∷ strong_row row ss) same
row_there (n ∷ row) (x ∷ ss) (suc at) s below there = row_there row ss at s (omega (arith, below)) there

pub row_noted : (row : List (Option ℕ)) (ss : List Written) (at : ℕ) (s : Written) → at < length row → slice_get ss at ≡ Some s
    → strong_row (drop at row) (drop at ss) ≡ strong_of (get_or row at None) s ∷ strong_row (drop (at + 1) row) (drop (at + 1) ss)
row_noted row ss at s below there = row_there row ss at s below there ∙ ap (λ k. strong_of (get_or row at None) s ∷ strong_row (drop k row) (drop k ss)) (one_more at)

no_symbols : (row : List (Option ℕ)) → strong_row row [] ≡ []
no_symbols [] = refl
no_symbols (n ∷ row) = refl

past_end : (ss : List Written) (at : ℕ) → slice_get ss at ≡ None → length ss ≤ at
past_end [] at none = omega arith
past_end (s ∷ ss) zero none = absurd cc
past_end (s ∷ ss) (suc at) none = let le = past_end ss at none in omega arith

pub row_ended : (row : List (Option ℕ)) (ss : List Written) (at : ℕ) → slice_get ss at ≡ None → strong_row (drop at row) (drop at ss) ≡ strong_row (drop (at + 1) row) (drop (at + 1) ss)
row_ended row ss at none =
    let le = past_end ss at none in
    let more : length ss ≤ at + 1 = omega arith in
    ap (strong_row (drop at row)) (all_left ss at le) ∙ no_symbols (drop at row)
    ∙ sym (ap (strong_row (drop (at + 1) row)) (all_left ss (at + 1) more) ∙ no_symbols (drop (at + 1) row))

-- the flags with the name of one symbol more
pub row_next : (row : List (Option ℕ)) (ss : List Written) (at : ℕ) (flags : List Bool) → at < length row
    → fold flagged flags (strong_row (drop at row) (drop at ss)) ≡ fold flagged (noted_at flags (get_or row at None) (slice_get ss at)) (strong_row (drop (at + 1) row) (drop (at + 1) ss))
row_next row ss at flags below = by (slice_get ss at) refl
  where
    by : (o : Option Written) → slice_get ss at ≡ o → fold flagged flags (strong_row (drop at row) (drop at ss)) ≡ fold flagged (noted_at flags (get_or row at None) o) (strong_row (drop (at + 1) row) (drop (at + 1) ss))
    by None is = ap (fold flagged flags) (row_ended row ss at is)
    by (Some s) is = ap (fold flagged flags) (row_noted row ss at s below is)

pub row_past : (row : List (Option ℕ)) (ss : List Written) (at : ℕ) → length row ≤ at → strong_row (drop at row) (drop at ss) ≡ []
row_past row ss at past = ap (λ r. strong_row r (drop at ss)) (all_left row at past)

-- ---- cells that are told

tell_from : (names : List (List ℕ)) (imports : List ImportKey) (cells : List (Option ℕ)) (ss : List Symbol) (at k : ℕ) → at < length ss
    → all_tell names imports cells k (drop at ss) ≡ (tells_cell names imports cells k (get_or ss at no_symbol) && all_tell names imports cells (k + 1) (drop (suc at) ss))
tell_from names imports cells [] at k below = absurd (omega (arith, below))
tell_from names imports cells (s ∷ ss) zero k below = refl
tell_from names imports cells (s ∷ ss) (suc at) k below = tell_from names imports cells ss at k (omega (arith, below))

pub tell_more : (names : List (List ℕ)) (imports : List ImportKey) (cells : List (Option ℕ)) (ss : List Symbol) (at : ℕ) → at < length ss
    → all_tell names imports cells at (drop at ss) ≡ (tells_cell names imports cells at (get_or ss at no_symbol) && all_tell names imports cells (at + 1) (drop (at + 1) ss))
tell_more names imports cells ss at below =
    tell_from names imports cells ss at at below
    ∙ ap (λ k. tells_cell names imports cells at (get_or ss at no_symbol) && all_tell names imports cells (at + 1) (drop k ss)) (one_more at)

pub tell_ended : (names : List (List ℕ)) (imports : List ImportKey) (cells : List (Option ℕ)) (ss : List Symbol) (at : ℕ) → length ss ≤ at → all_tell names imports cells at (drop at ss) ≡ true
tell_ended names imports cells ss at past = ap (all_tell names imports cells at) (all_left ss at past)

-- ---- names of the linker's symbols

made_from : (made : List ℕ) (k : ℕ) (flags : List Bool) → k < length made → fold flagged flags (map Some (drop k made)) ≡ fold flagged (flagged flags (slice_get made k)) (map Some (drop (suc k) made))
made_from [] k flags below = absurd (omega (arith, below))
made_from (n ∷ made) zero flags below = refl
made_from (n ∷ made) (suc k) flags below = made_from made k flags (omega (arith, below))

pub made_more : (made : List ℕ) (k : ℕ) (flags : List Bool) → k < length made → fold flagged flags (map Some (drop k made)) ≡ fold flagged (flagged flags (slice_get made k)) (map Some (drop (k + 1) made))
made_more made k flags below = made_from made k flags below ∙ ap (λ j. fold flagged (flagged flags (slice_get made k)) (map Some (drop j made))) (one_more k)

pub made_ended : (made : List ℕ) (k : ℕ) (flags : List Bool) → length made ≤ k → fold flagged flags (map Some (drop k made)) ≡ flags
made_ended made k flags past = ap (λ ns. fold flagged flags (map Some ns)) (all_left made k past)

-- ---- names of all objects

no_rows : (os : List Object) → strong_rows [] os ≡ []
no_rows [] = refl
no_rows (o ∷ os) = refl

rows_from : (rows : List (List (Option ℕ))) (os : List Object) (at : ℕ) (flags : List Bool) → at < length os
    → fold flagged flags (strong_rows (drop at rows) (drop at os)) ≡ fold flagged (fold flagged flags (object_row (get_or rows at []) (slice_get os at))) (strong_rows (drop (suc at) rows) (drop (suc at) os))
rows_from rows [] at flags below = absurd (omega (arith, below))
rows_from [] (x ∷ os) at flags below =
    ap (λ rs. fold flagged flags (strong_rows rs (drop at (x ∷ os)))) (nothing_left at)
    ∙ ap (fold flagged flags) (no_rows (drop at (x ∷ os)))
    ∙ ap (fold flagged flags) (sym (no_rows (drop (suc at) (x ∷ os))))
    ∙ ap (λ r. fold flagged (fold flagged flags r) (strong_rows [] (drop (suc at) (x ∷ os)))) (none (slice_get (x ∷ os) at))
  where
    none : (o : Option Object) → [] ≡ object_row [] o
    none None = refl
    none (Some o) = refl
rows_from (row ∷ rows) (x ∷ os) zero flags below = folded flags (strong_row row x.symbols) (strong_rows rows os)
rows_from (row ∷ rows) (x ∷ os) (suc at) flags below = rows_from rows os at flags (omega (arith, below))

pub rows_next : (rows : List (List (Option ℕ))) (os : List Object) (at : ℕ) (flags : List Bool) → at < length os
    → fold flagged flags (strong_rows (drop at rows) (drop at os)) ≡ fold flagged (fold flagged flags (object_row (get_or rows at []) (slice_get os at))) (strong_rows (drop (at + 1) rows) (drop (at + 1) os))
rows_next rows os at flags below =
    rows_from rows os at flags below
    ∙ ap (λ k. fold flagged (fold flagged flags (object_row (get_or rows at []) (slice_get os at))) (strong_rows (drop k rows) (drop k os))) (one_more at)

pub rows_past : (rows : List (List (Option ℕ))) (os : List Object) (at : ℕ) → length os ≤ at → strong_rows (drop at rows) (drop at os) ≡ []
rows_past rows os at past = ap (strong_rows (drop at rows)) (all_left os at past) ∙ no_objects (drop at rows)
  where
    no_objects : (rs : List (List (Option ℕ))) → strong_rows rs [] ≡ []
    no_objects [] = refl
    no_objects (r ∷ rs) = refl
