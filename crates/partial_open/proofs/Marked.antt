-- Flags of what functions and segments name.
use Rattle.std.proofs.Common.{◌≡◌, ℕ, zero, suc, ◌+◌, ◌<◌, ◌≤◌, Bool, false, List, [], ◌∷◌, ◌++◌, map, filter_map, fold, drop, length, slice_get, get_or, Option, Some, None, refl, sym, ap, ◌∙◌, arith}
use Rattle.std.specs.Prelude.{if◌then◌else◌, replicate}
use Rattle.std.proofs.lemmas.List.Elements.{filter_map-append}
use Rattle.std.proofs.Math.ListN.{drop_of_length-le}
use Rattle.link_program.specs.reloc_section.declared.entry.Reloc.{Reloc}
use Rattle.link_program.specs.body_windows.declared.operand.Operand.TheVariants.{Number}
use Rattle.link_program.specs.body_windows.declared.operands.Reference.{Reference}
use Rattle.link_program.specs.body_windows.Operands.{operand_of, spread}
use Rattle.partial_open.specs.Named.{symbol_named, kept_lists, marked}
use Rattle.partial_open.specs.Steps.{marked_by, by_reference, by_window}

pub fold_append : {A C : Type 0} (g : C → A → C) (c : C) (xs ys : List A) → fold g c (xs ++ ys) ≡ fold g (fold g c xs) ys
fold_append g c [] ys = refl
fold_append g c (x ∷ xs) ys = fold_append g (g c x) xs ys

numbers_name : (n : ℕ) → filter_map symbol_named (replicate n Number) ≡ []
numbers_name zero = refl
numbers_name (suc n) = numbers_name n

-- the references of a list of operands
pub references_are : (rs : List Reference) (behind : ℕ) (flags : List Bool) → fold by_reference flags rs ≡ fold marked flags (filter_map symbol_named (spread rs behind))
references_are [] behind flags = ap (fold marked flags) (sym (numbers_name behind))
references_are (r ∷ rs) behind flags =
    by (symbol_named (operand_of r)) refl (references_are rs behind)
    ∙ ap (fold marked flags) (sym (filter_map-append symbol_named (replicate r.numbers Number) (operand_of r ∷ spread rs behind) ∙ ap (λ ns. ns ++ filter_map symbol_named (operand_of r ∷ spread rs behind)) (numbers_name r.numbers)))
  where
    by : (o : Option ℕ) → symbol_named (operand_of r) ≡ o → ((fs : List Bool) → fold by_reference fs rs ≡ fold marked fs (filter_map symbol_named (spread rs behind))) → fold by_reference (marked_by flags (symbol_named (operand_of r))) rs ≡ fold marked flags (filter_map symbol_named (operand_of r ∷ spread rs behind))
    by None is again = rw is (again flags)
    by (Some n) is again = rw is (again (marked flags n))

pub windows_are : (ws : List Reloc) (flags : List Bool) → fold by_window flags ws ≡ fold marked flags (map (λ (w : Reloc). w.index) ws)
windows_are [] flags = refl
windows_are (w ∷ ws) flags = windows_are ws (marked flags w.index)

-- ---- what stands at a place of a mapped list

pub listed : {A B : Type 0} (f : A → List B) (xs : List A) (i : ℕ) (x : A) → Some x ≡ slice_get xs i → f x ≡ get_or (map f xs) i []
listed f [] i x at = absurd cc
listed f (y ∷ xs) zero x at = let same : x ≡ y = cc in ap f same
listed f (y ∷ xs) (suc i) x at = listed f xs i x at

pub none_listed : {A B : Type 0} (f : A → List B) (xs : List A) (i : ℕ) → None ≡ slice_get xs i → get_or (map f xs) i [] ≡ []
none_listed f [] i at = refl
none_listed f (y ∷ xs) zero at = absurd cc
none_listed f (y ∷ xs) (suc i) at = none_listed f xs i at

-- ---- lists one behind another

kept_from : (dropped : List Bool) (xss : List (List ℕ)) (m i : ℕ) → i < length xss
    → kept_lists dropped m (drop i xss) ≡ (if get_or dropped m false then [] else get_or xss i []) ++ kept_lists dropped (m + 1) (drop (i + 1) xss)
kept_from dropped [] m i lt = absurd (omega (arith, lt))
kept_from dropped (xs ∷ xss) m zero lt = refl
kept_from dropped (xs ∷ xss) m (suc i) lt =
    let moved : suc (i + 1) ≡ suc i + 1 = omega arith in
    kept_from dropped xss m i (omega (arith, lt))
    ∙ ap (λ k. (if get_or dropped m false then [] else get_or xss i []) ++ kept_lists dropped (m + 1) (drop {A = List ℕ} k (xs ∷ xss))) moved

-- one list more
pub list_more : (dropped : List Bool) (xss : List (List ℕ)) (i : ℕ) (old new whole : List Bool) → i < length xss
    → new ≡ fold marked old (if get_or dropped i false then [] else get_or xss i [])
    → fold marked old (kept_lists dropped i (drop i xss)) ≡ whole → fold marked new (kept_lists dropped (i + 1) (drop (i + 1) xss)) ≡ whole
list_more dropped xss i old new whole lt step so_far =
    let rest = kept_lists dropped (i + 1) (drop (i + 1) xss) in
    let first = if get_or dropped i false then [] else get_or xss i [] in
    ap (λ flags. fold marked flags rest) step
    ∙ (sym (fold_append marked old first rest)
    ∙ (ap (fold marked old) (sym (kept_from dropped xss i i lt)) ∙ so_far))

pub lists_end : (dropped : List Bool) (xss : List (List ℕ)) (i : ℕ) (old whole : List Bool) → length xss ≤ i → fold marked old (kept_lists dropped i (drop i xss)) ≡ whole → old ≡ whole
lists_end dropped xss i old whole past so_far = sym (ap (λ (yss : List (List ℕ)). fold marked old (kept_lists dropped i yss)) (drop_of_length-le xss past)) ∙ so_far
