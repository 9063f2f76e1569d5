-- Values one after another.
use Rattle.std.proofs.Common.{◌≡◌, List, [], ◌∷◌, ◌++◌, Bool, true, false, not, map, append_assoc, refl, sym, ap, ◌∙◌, Result, Ok, Err, Option, Some, None}
use Rattle.std.specs.Prelude.{find, option_map}
use Rattle.wl_base.specs.Choice.{◌>>=◌, unless}
use Rattle.wl_base.specs.declared.fault.What.TheVariants.{Reference}
use Rattle.wl_base.specs.declared.layout_error.LayoutError.{LayoutError}
use Rattle.wl_base.specs.declared.layout_error.LayoutError.TheVariants.{Overflow}
use Rattle.reloc_apply.specs.declared.window.Window.{Window}
use Rattle.reloc_apply.specs.declared.window.Patch.{Patch}
use Rattle.reloc_apply.specs.declared.window.Patches.{Patches}
use Rattle.reloc_apply.specs.Windows.{patches_from, patched_on, patch_at, patches_of, patch_of, value_overflow, value, fits}

-- patches before others
abbrev pub with_front : List Patch → Result (List Patch) LayoutError → Result (List Patch) LayoutError
with_front front rest = rest >>= λ xs. Ok (front ++ xs)

abbrev In : Result (List Patch) LayoutError → Result Patches LayoutError
In found = found >>= λ xs. Ok (record { patches = xs })

abbrev past : List Window → Option LayoutError
past ws = option_map (Overflow Reference) (option_map value (find (λ w. not (fits w)) ws))

one_more : (fault : Option LayoutError) (w : Window) (xs : List Patch)
    → ◌>>=◌ {B = List Patch} (unless fault xs) (λ others. Ok (patch_of w ∷ others)) ≡ unless fault (patch_of w ∷ xs)
one_more None w xs = refl
one_more (Some f) w xs = refl

from_step : (w : Window) (ws : List Window) (fit : Bool) → fits w ≡ fit → patches_from ws ≡ unless (past ws) (map patch_of ws)
    → patches_from (w ∷ ws) ≡ unless (past (w ∷ ws)) (map patch_of (w ∷ ws))
from_step w ws true is rest = rw (is, rest) (one_more (past ws) w (map patch_of ws))
from_step w ws false is rest = rw is refl

from_is : (ws : List Window) → patches_from ws ≡ unless (past ws) (map patch_of ws)
from_is [] = refl
from_is (w ∷ ws) = from_step w ws (fits w) refl (from_is ws)

patches_are_by : (fault : Option LayoutError) (xs : List Patch) → In (unless fault xs) ≡ unless fault (record { patches = xs })
patches_are_by None xs = refl
patches_are_by (Some f) xs = refl

patches_are : (ws : List Window) → In (patches_from ws) ≡ patches_of ws
unfolding patches_of value_overflow
patches_are ws = rw (from_is ws) (patches_are_by (past ws) (map patch_of ws))

pub patches_err : (ws : List Window) (f : LayoutError) → patches_from ws ≡ Err f → patches_of ws ≡ Err f
patches_err ws f e = sym (patches_are ws) ∙ rw e refl

pub patches_ok : (ws : List Window) (ps : List Patch) → patches_from ws ≡ Ok ps → patches_of ws ≡ Ok (record { patches = ps })
patches_ok ws ps e = sym (patches_are ws) ∙ rw e refl

-- ---- patches put behind others

from_append : (ws vs : List Window) → patches_from (ws ++ vs) ≡ patches_from ws >>= λ xs. with_front xs (patches_from vs)
from_append [] vs = sym (none_in_front (patches_from vs))
  where
    none_in_front : (r : Result (List Patch) LayoutError) → with_front [] r ≡ r
    none_in_front (Ok xs) = refl
    none_in_front (Err f) = refl
from_append (w ∷ ws) vs = more (patch_at w) (patches_from (ws ++ vs)) (patches_from ws) (from_append ws vs)
  where
    more : (one : Result Patch LayoutError) (both first : Result (List Patch) LayoutError) → both ≡ first >>= (λ xs. with_front xs (patches_from vs))
        → (one >>= λ p. both >>= λ others. Ok (p ∷ others)) ≡ (one >>= λ p. first >>= λ others. Ok (p ∷ others)) >>= λ xs. with_front xs (patches_from vs)
    more (Err f) both first is = refl
    more (Ok p) both (Err f) is = rw is refl
    more (Ok p) both (Ok xs) is = rw is (behind (patches_from vs))
      where
        behind : (r : Result (List Patch) LayoutError) → ◌>>=◌ {B = List Patch} (with_front xs r) (λ others. Ok (p ∷ others)) ≡ with_front (p ∷ xs) r
        behind (Ok ys) = refl
        behind (Err f) = refl

pub put_more : (front now : List Patch) (ws vs : List Window) → patched_on front ws ≡ Ok now → patched_on front (ws ++ vs) ≡ patched_on now vs
put_more front now ws vs is = rw (from_append ws vs) (by (patches_from ws) is (patches_from vs))
  where
    by : (r : Result (List Patch) LayoutError) → with_front front r ≡ Ok now → (s : Result (List Patch) LayoutError)
        → with_front front (r >>= λ xs. with_front xs s) ≡ with_front now s
    by (Err f) is s = absurd cc
    by (Ok xs) is (Err f) = refl
    by (Ok xs) is (Ok ys) = let same : front ++ xs ≡ now = cc in ap (λ zs. Ok zs) (sym (append_assoc front xs ys) ∙ ap (λ zs. zs ++ ys) same)

pub put_stops : (front : List Patch) (ws vs : List Window) (f : LayoutError) → patched_on front ws ≡ Err f → patched_on front (ws ++ vs) ≡ Err f
put_stops front ws vs f is = rw (from_append ws vs) (by (patches_from ws) is)
  where
    by : (r : Result (List Patch) LayoutError) → with_front front r ≡ Err f → with_front front (r >>= λ xs. with_front xs (patches_from vs)) ≡ Err f
    by (Err g) is = is
    by (Ok xs) is = absurd cc

pub put_alone : (ws : List Window) (ps : List Patch) → patched_on [] ws ≡ Ok ps → patches_of ws ≡ Ok (record { patches = ps })
put_alone ws ps is = patches_ok ws ps (by (patches_from ws) is)
  where
    by : (r : Result (List Patch) LayoutError) → with_front [] r ≡ Ok ps → r ≡ Ok ps
    by (Ok xs) is = is
    by (Err f) is = is

pub put_alone_stops : (ws : List Window) (f : LayoutError) → patched_on [] ws ≡ Err f → patches_of ws ≡ Err f
put_alone_stops ws f is = patches_err ws f (by (patches_from ws) is)
  where
    by : (r : Result (List Patch) LayoutError) → with_front [] r ≡ Err f → r ≡ Err f
    by (Ok xs) is = is
    by (Err g) is = is
