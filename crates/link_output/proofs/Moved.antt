-- Windows that are moved have the same values, and their patches are the moved patches.
use Rattle.std.proofs.Common.{◌≡◌, ℕ, List, [], ◌∷◌, ◌++◌, length, map, refl, sym, ap, ◌∙◌, arith, Bool, true, false, Option, Some, None, if◌then◌else◌, ℤ}
use Rattle.std.specs.List.{flat_map, find}
use Rattle.std.specs.Prelude.{option_map, not}
use Rattle.std.specs.Option.{option_or}
use Rattle.std.proofs.lemmas.List.Folds.{find-append}
use Rattle.link_program.specs.reloc_apply.declared.window.Window.{Window}
use Rattle.link_program.specs.reloc_apply.declared.window.Patch.{Patch}
use Rattle.link_program.specs.reloc_apply.Windows.{fits, value, patch_of, value_overflow}
use Rattle.link_program.specs.reloc_apply.Apart.{moved}
use Rattle.link_program.specs.image_emit.Filled.{all_moved}
use Rattle.link_program.specs.Moved.{moved_window, moved_windows}

-- ---- patches

patches_moved : (n : ℕ) (ws : List Window) → map patch_of (map {A = Window} {B = Window} (moved_window n) ws) ≡ map {A = Patch} {B = Patch} (moved n) (map patch_of ws)
patches_moved n [] = refl
patches_moved n (w ∷ ws) = ap (λ ps. patch_of (moved_window n w) ∷ ps) (patches_moved n ws)

map_both : (xs ys : List Window) → map patch_of (xs ++ ys) ≡ map patch_of xs ++ map patch_of ys
map_both [] ys = refl
map_both (x ∷ xs) ys = ap (λ ps. patch_of x ∷ ps) (map_both xs ys)

pub all_patches : (ks : List ℕ) (wss : List (List Window)) → map patch_of (moved_windows ks wss) ≡ all_moved ks (map (map patch_of) wss)
all_patches [] wss = refl
all_patches (k ∷ ks) [] = refl
all_patches (k ∷ ks) (ws ∷ wss) =
    map_both (map {A = Window} {B = Window} (moved_window k) ws) (moved_windows ks wss)
    ∙ ap (λ ps. ps ++ map patch_of (moved_windows ks wss)) (patches_moved k ws)
    ∙ ap (λ ps. map {A = Patch} {B = Patch} (moved k) (map patch_of ws) ++ ps) (all_patches ks wss)

-- ---- values

abbrev bad : Window → Bool
bad w = not (fits w)

abbrev first_bad : List Window → Option ℤ
first_bad ws = option_map value (find bad ws)

same_first : (b : Bool) (x y : Window) (r s : Option Window) → value x ≡ value y → option_map value r ≡ option_map value s
    → option_map value (if b then Some x else r) ≡ option_map value (if b then Some y else s)
same_first true x y r s one rest = ap Some one
same_first false x y r s one rest = rest

values_moved : (n : ℕ) (ws : List Window) → first_bad (map {A = Window} {B = Window} (moved_window n) ws) ≡ first_bad ws
values_moved n [] = refl
values_moved n (w ∷ ws) =
    same_first (bad w) (moved_window n w) w (find bad (map {A = Window} {B = Window} (moved_window n) ws)) (find bad ws) refl (values_moved n ws)

map_or : (a b : Option Window) → option_map value (option_or a b) ≡ option_or (option_map value a) (option_map value b)
map_or None b = refl
map_or (Some a) b = refl

first_of_both : (xs ys : List Window) → first_bad (xs ++ ys) ≡ option_or (first_bad xs) (first_bad ys)
first_of_both xs ys = ap (option_map value) (find-append bad xs ys) ∙ map_or (find bad xs) (find bad ys)

pub all_values : (ks : List ℕ) (wss : List (List Window)) → length ks ≡ length wss
    → value_overflow (moved_windows ks wss) ≡ value_overflow (flat_map (λ ws. ws) wss)
unfolding value_overflow
all_values [] [] same = refl
all_values [] (ws ∷ wss) same = absurd (omega (arith, same))
all_values (k ∷ ks) [] same = absurd (omega (arith, same))
all_values (k ∷ ks) (ws ∷ wss) same =
    first_of_both (map {A = Window} {B = Window} (moved_window k) ws) (moved_windows ks wss)
    ∙ ap (λ o. option_or o (first_bad (moved_windows ks wss))) (values_moved k ws)
    ∙ ap (λ o. option_or (first_bad ws) o) (all_values ks wss (omega (arith, same)))
    ∙ sym (first_of_both ws (flat_map (λ (xs : List Window). xs) wss))
