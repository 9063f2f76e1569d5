-- Patches that loops put behind others.
use Rattle.std.proofs.Common.{◌≡◌, ℕ, ◌+◌, ◌<◌, ◌≤◌, Bool, true, false, not, List, [], ◌∷◌, ◌++◌, length, map, drop, get_or, slice_get, Option, None, Some, Result, Ok, Err, refl, sym, ap, ◌∙◌, append_assoc, subst}
use Rattle.std.specs.Prelude.{find, flat_map, option_map, if◌then◌else◌}
use Rattle.std.proofs.lemmas.List.{append-nil}
use Rattle.std.proofs.lemmas.Option.{slice_get-get_or}
use Rattle.link_program.specs.wl_base.Choice.{◌>>=◌, unless}
use Rattle.link_program.specs.wl_base.declared.fault.What.TheVariants.{Reference}
use Rattle.link_program.specs.wl_base.declared.layout_error.LayoutError.{LayoutError}
use Rattle.link_program.specs.wl_base.declared.layout_error.LayoutError.TheVariants.{Overflow, OutOfMemory}
use Rattle.link_program.specs.wl_base.Answers.{Answers}
use Rattle.link_program.specs.made_symbols.declared.mode.Mode.{Mode}
use Rattle.link_program.specs.made_symbols.declared.mode.Mode.TheVariants.{Plain, Shared}
use Rattle.link_program.specs.reloc_apply.declared.window.Form.{Form}
use Rattle.link_program.specs.reloc_apply.declared.window.Form.TheVariants.{Unsigned5, Signed5, Word4}
use Rattle.link_program.specs.reloc_apply.declared.window.Window.{Window}
use Rattle.link_program.specs.reloc_apply.declared.window.Patch.{Patch}
use Rattle.link_program.specs.reloc_apply.declared.window.Patches.{Patches}
use Rattle.link_program.specs.reloc_apply.Windows.{patch_of, value, fits, value_overflow, patch_at, patched_on, held_at, held_on, Puts}
use Rattle.link_program.specs.link_rules.Output.{held_as, held}
use Rattle.link_program.specs.declared.named.Named.{Named}
use Rattle.link_program.specs.Moved.{moved_window, moved_windows}
use Rattle.patch_pieces.specs.Judged.{judged_patches}
use Rattle.reloc_apply.proofs.Sums.{with_front}
use Rattle.link_layout.specs.declared.gathering.Source.{Source}
use Rattle.link_layout.specs.Seen.{Looked}
use Rattle.link_layout.specs.Put.{shared_at, written_at, written_from, written_on, written_of}
use Rattle.link_layout.specs.Sources.{windows_by, windows_of, plain_windows, shared_windows}
use Rattle.link_layout.proofs.Steps.{drop_at, no_more}

-- a fault of some windows is that of all
pub puts_fault : (f g : LayoutError) (now new : List Patch) (some all : Result (List Patch) LayoutError) → g ≡ f
    → Puts {A = Unit {0}} (Err f) now some → (some ≡ Err f → all ≡ Err f) → Puts {A = Unit {0}} (Err g) new all
puts_fault (Overflow what needed) g now new some all same puts on = rw same (on puts)
puts_fault OutOfMemory g now new some all same puts on = rw same tt

-- ---- one window

held_last : (front : List Patch) (w : Window) (form : Form) → form ≡ Word4 → held_on front w ≡ with_front front (shared_at form w >>= λ first. Ok (first ∷ []))
held_last front w form is = by (held_at w) ∙ ap (λ f. with_front front (shared_at f w >>= λ first. Ok (first ∷ []))) (sym is)
  where
    by : (r : Result Patch LayoutError) → (r >>= λ x. Ok (front ++ x ∷ [])) ≡ with_front front (◌>>=◌ {B = List Patch} r (λ first. Ok (first ∷ [])))
    by (Ok p) = refl
    by (Err f) = refl

-- what is put for a window of data, and for one of code
pub puts_held : {A : Type 0} (r : Result A LayoutError) (now front : List Patch) (w : Window) → w.form ≡ Word4 → Puts r now (held_on front w) → Puts r now (written_on Shared front (w ∷ []))
puts_held r now front w is puts = subst (Puts r now) (held_last front w w.form is) puts

puts_by : {A : Type 0} (r : Result A LayoutError) (now front : List Patch) (w : Window) (form : Form) → shared_at form w ≡ patch_at w → Puts r now (patched_on front (w ∷ []))
    → Puts r now (with_front front (shared_at form w >>= λ first. Ok (first ∷ [])))
puts_by r now front w form is puts = subst (λ p. Puts r now (with_front front (p >>= λ first. Ok (first ∷ [])))) (sym is) puts

pub puts_unsigned : {A : Type 0} (r : Result A LayoutError) (now front : List Patch) (w : Window) → w.form ≡ Unsigned5 → Puts r now (patched_on front (w ∷ [])) → Puts r now (written_on Shared front (w ∷ []))
puts_unsigned r now front w is puts = puts_by r now front w w.form (ap (λ form. shared_at form w) is) puts

pub puts_signed : {A : Type 0} (r : Result A LayoutError) (now front : List Patch) (w : Window) → w.form ≡ Signed5 → Puts r now (patched_on front (w ∷ [])) → Puts r now (written_on Shared front (w ∷ []))
puts_signed r now front w is puts = puts_by r now front w w.form (ap (λ form. shared_at form w) is) puts

-- ---- all windows, by the mode

pub puts_plain : {A : Type 0} (k : Looked) (r : Result A LayoutError) (now front : List Patch) (sources : List Source) → k.mode ≡ Plain → Puts r now (written_on Plain front (flat_map (plain_windows k) sources))
    → Puts r now (written_on k.mode front (windows_of k sources))
puts_plain k r now front sources plain puts = subst (λ m. Puts r now (written_on m front (windows_by m k sources))) (sym plain) puts

pub puts_shared : {A : Type 0} (k : Looked) (r : Result A LayoutError) (now front : List Patch) (sources : List Source) → k.mode ≡ Shared → Puts r now (written_on Shared front (flat_map (shared_windows k) sources))
    → Puts r now (written_on k.mode front (windows_of k sources))
puts_shared k r now front sources shared puts = subst (λ m. Puts r now (written_on m front (windows_by m k sources))) (sym shared) puts

-- ---- windows one after another

module _ (m : Mode) where
  -- where no window is put
  pub put_none : (now : List Patch) → written_on m now [] ≡ Ok now
  put_none now = ap (λ xs. Ok xs) (append-nil now)

  from_append : (ws vs : List Window) → written_from m (ws ++ vs) ≡ written_from m ws >>= λ xs. with_front xs (written_from m vs)
  from_append [] vs = sym (none_in_front (written_from m vs))
    where
      none_in_front : (r : Result (List Patch) LayoutError) → with_front [] r ≡ r
      none_in_front (Ok xs) = refl
      none_in_front (Err f) = refl
  from_append (w ∷ ws) vs = more (written_at m w) (written_from m (ws ++ vs)) (written_from m ws) (from_append ws vs)
    where
      more : (one : Result Patch LayoutError) (both first : Result (List Patch) LayoutError) → both ≡ first >>= (λ xs. with_front xs (written_from m vs))
          → (one >>= λ p. both >>= λ others. Ok (p ∷ others)) ≡ (one >>= λ p. first >>= λ others. Ok (p ∷ others)) >>= λ xs. with_front xs (written_from m vs)
      more (Err f) both first is = refl
      more (Ok p) both (Err f) is = rw is refl
      more (Ok p) both (Ok xs) is = rw is (behind (written_from m vs))
        where
          behind : (r : Result (List Patch) LayoutError) → ◌>>=◌ {B = List Patch} (with_front xs r) (λ others. Ok (p ∷ others)) ≡ with_front (p ∷ xs) r
          behind (Ok ys) = refl
          behind (Err f) = refl

  pub put_more : (front now : List Patch) (ws vs : List Window) → written_on m front ws ≡ Ok now → written_on m front (ws ++ vs) ≡ written_on m now vs
  put_more front now ws vs is = rw (from_append ws vs) (by (written_from m ws) is (written_from m vs))
    where
      by : (r : Result (List Patch) LayoutError) → with_front front r ≡ Ok now → (s : Result (List Patch) LayoutError)
          → with_front front (r >>= λ xs. with_front xs s) ≡ with_front now s
      by (Err f) is s = absurd cc
      by (Ok xs) is (Err f) = refl
      by (Ok xs) is (Ok ys) = let same : front ++ xs ≡ now = cc in ap (λ zs. Ok zs) (sym (append_assoc front xs ys) ∙ ap (λ zs. zs ++ ys) same)

  pub put_stops : (front : List Patch) (ws vs : List Window) (f : LayoutError) → written_on m front ws ≡ Err f → written_on m front (ws ++ vs) ≡ Err f
  put_stops front ws vs f is = rw (from_append ws vs) (by (written_from m ws) is)
    where
      by : (r : Result (List Patch) LayoutError) → with_front front r ≡ Err f → with_front front (r >>= λ xs. with_front xs (written_from m vs)) ≡ Err f
      by (Err g) is = is
      by (Ok xs) is = absurd cc

  -- the windows that are put in front of none
  pub put_alone : (ws : List Window) (ps : List Patch) → written_on m [] ws ≡ Ok ps → written_of m ws ≡ Ok (record { patches = ps })
  put_alone ws ps is = by (written_from m ws) is
    where
      by : (r : Result (List Patch) LayoutError) → with_front [] r ≡ Ok ps → ◌>>=◌ {B = Patches} r (λ xs. Ok (record { patches = xs })) ≡ Ok (record { patches = ps })
      by (Ok xs) is = let same : xs ≡ ps = cc in ap (λ (ys : List Patch). let r : Result Patches LayoutError = Ok (record { patches = ys }) in r) same
      by (Err f) is = absurd cc

  put_alone_stops : (ws : List Window) (f : LayoutError) → written_on m [] ws ≡ Err f → written_of m ws ≡ Err f
  put_alone_stops ws f is = by (written_from m ws) is
    where
      by : (r : Result (List Patch) LayoutError) → with_front [] r ≡ Err f → ◌>>=◌ {B = Patches} r (λ xs. Ok (record { patches = xs })) ≡ Err f
      by (Ok xs) is = absurd cc
      by (Err g) is = let same : g ≡ f = cc in ap (λ (h : LayoutError). let r : Result Patches LayoutError = Err h in r) same

  -- the fault of the windows that are put in front of none
  pub fault_alone : (ws : List Window) (f g : LayoutError) (now : List Patch) → g ≡ f → Puts {A = Unit {0}} (Err f) now (written_on m [] ws)
      → Answers {A = Patches} (Err g) (written_of m ws)
  fault_alone ws (Overflow what needed) g now same puts = rw same (put_alone_stops ws (Overflow what needed) puts)
  fault_alone ws OutOfMemory g now same puts = rw same tt

  -- patches behind others, and those of windows beside others
  pub put_behind : (xs ys : List Patch) (ws : List Window) → written_on m [] ws ≡ Ok ys → written_on m xs ws ≡ Ok (xs ++ ys)
  put_behind xs ys ws is = by (written_from m ws) is
    where
      by : (r : Result (List Patch) LayoutError) → with_front [] r ≡ Ok ys → with_front xs r ≡ Ok (xs ++ ys)
      by (Ok zs) is = let same : zs ≡ ys = cc in ap (λ (vs : List Patch). Ok (xs ++ vs)) same
      by (Err f) is = absurd cc

  pub put_both : (ws vs : List Window) (xs ys : List Patch) → written_on m [] ws ≡ Ok xs → written_on m [] vs ≡ Ok ys → written_on m [] (ws ++ vs) ≡ Ok (xs ++ ys)
  put_both ws vs xs ys one two = put_more [] xs ws vs one ∙ put_behind xs ys vs two

  -- one window behind another
  pub window_step : (f : Named → Window) (by : ℕ) (row : List Named) (i : ℕ) (d : Named) (now new : List Patch) (w : Window) (all : Result (List Patch) LayoutError) → i < length row → w ≡ f (get_or row i d)
      → written_on m now (map {A = Window} {B = Window} (moved_window by) (map f (drop i row))) ≡ all → written_on m now (moved_window by w ∷ []) ≡ Ok new
      → written_on m new (map {A = Window} {B = Window} (moved_window by) (map f (drop (i + 1) row))) ≡ all
  window_step f by row i d now new w all lt is inv step =
      let n = get_or row i d in
      let rest = map {A = Window} {B = Window} (moved_window by) (map f (drop (i + 1) row)) in
      sym (put_more now new (moved_window by w ∷ []) rest step)
      ∙ ap (λ (v : Window). written_on m now (moved_window by v ∷ rest)) is
      ∙ sym (ap (λ (ns : List Named). written_on m now (map {A = Window} {B = Window} (moved_window by) (map f ns))) (drop_at row i n (slice_get-get_or row i d lt)))
      ∙ inv

  -- one source behind another
  module _ (f : Source → List Window) (sources : List Source) where
    abbrev left : ℕ → List Window
    left i = flat_map f (drop i sources)

    opened : (i : ℕ) (s : Source) → slice_get sources i ≡ Some s → left i ≡ f s ++ left (i + 1)
    opened i s at = ap (flat_map f) (drop_at sources i s at)

    pub source_step : (i : ℕ) (s : Source) (now new : List Patch) (all : Result (List Patch) LayoutError) → slice_get sources i ≡ Some s
        → written_on m now (left i) ≡ all → written_on m now (f s) ≡ Ok new → written_on m new (left (i + 1)) ≡ all
    source_step i s now new all at inv step =
        sym (put_more now new (f s) (left (i + 1)) step) ∙ sym (ap (λ ws. written_on m now ws) (opened i s at)) ∙ inv

    pub source_stops : (i : ℕ) (s : Source) (now : List Patch) (all : Result (List Patch) LayoutError) (fault : LayoutError) → slice_get sources i ≡ Some s
        → written_on m now (left i) ≡ all → written_on m now (f s) ≡ Err fault → all ≡ Err fault
    source_stops i s now all fault at inv step =
        sym inv ∙ ap (λ ws. written_on m now ws) (opened i s at) ∙ put_stops now (f s) (left (i + 1)) fault step

    pub source_end : (i : ℕ) (now : List Patch) (all : Result (List Patch) LayoutError) → length sources ≤ i → written_on m now (left i) ≡ all → all ≡ Ok now
    source_end i now all past inv = sym inv ∙ ap (λ ss. written_on m now (flat_map f ss)) (no_more sources i past) ∙ put_none now

-- ---- judged by their values, and written as they are held

abbrev kept : Mode → List Window → List Window
kept Plain ws = ws
kept Shared ws = map (λ w. held_as w.form w) ws

abbrev kept_one : Mode → Window → Window
kept_one Plain w = w
kept_one Shared w = held_as w.form w

abbrev past : List Window → Option LayoutError
past ws = option_map (Overflow Reference) (option_map value (find (λ w. not (fits w)) ws))

abbrev said : Window → Window → Result Patch LayoutError
said w v = if fits w then Ok (patch_of v) else Err (Overflow Reference (value w))

one_held : (form : Form) (w : Window) → shared_at form w ≡ said w (held_as form w)
one_held Unsigned5 w = refl
one_held Signed5 w = refl
one_held Word4 w = refl

one_written : (m : Mode) (w : Window) → written_at m w ≡ said w (kept_one m w)
one_written Plain w = refl
one_written Shared w = one_held w.form w

kept_more : (m : Mode) (w : Window) (ws : List Window) → kept m (w ∷ ws) ≡ kept_one m w ∷ kept m ws
kept_more Plain w ws = refl
kept_more Shared w ws = refl

kept_none : (m : Mode) → kept m [] ≡ []
kept_none Plain = refl
kept_none Shared = refl

one_more : (fault : Option LayoutError) (p : Patch) (xs : List Patch) → ◌>>=◌ {B = List Patch} (unless fault xs) (λ others. Ok (p ∷ others)) ≡ unless fault (p ∷ xs)
one_more None p xs = refl
one_more (Some f) p xs = refl

from_step : (m : Mode) (w : Window) (ws : List Window) (fit : Bool) → fits w ≡ fit → written_from m ws ≡ unless (past ws) (map patch_of (kept m ws))
    → (said w (kept_one m w) >>= λ first. written_from m ws >>= λ others. Ok (first ∷ others)) ≡ unless (past (w ∷ ws)) (patch_of (kept_one m w) ∷ map patch_of (kept m ws))
from_step m w ws true is rest = rw (is, rest) (one_more (past ws) (patch_of (kept_one m w)) (map patch_of (kept m ws)))
from_step m w ws false is rest = rw is refl

from_is : (m : Mode) (ws : List Window) → written_from m ws ≡ unless (past ws) (map patch_of (kept m ws))
from_is m [] = ap (λ vs. unless {A = List Patch} {F = LayoutError} None (map patch_of vs)) (sym (kept_none m))
from_is m (w ∷ ws) =
    ap (λ r. r >>= λ first. written_from m ws >>= λ others. Ok (first ∷ others)) (one_written m w)
    ∙ from_step m w ws (fits w) refl (from_is m ws)
    ∙ ap (λ vs. unless (past (w ∷ ws)) (map patch_of vs)) (sym (kept_more m w ws))

patches_are_by : (fault : Option LayoutError) (xs : List Patch) → ◌>>=◌ {B = Patches} (unless fault xs) (λ ys. Ok (record { patches = ys })) ≡ unless fault (record { patches = xs })
patches_are_by None xs = refl
patches_are_by (Some f) xs = refl

all_written : (m : Mode) (ws : List Window) → written_of m ws ≡ judged_patches ws (kept m ws)
unfolding value_overflow
all_written m ws = ap (λ r. ◌>>=◌ {B = Patches} r (λ ys. Ok (record { patches = ys }))) (from_is m ws) ∙ patches_are_by (past ws) (map patch_of (kept m ws))

-- windows that move hold what they hold
held_moved : (form : Form) (n : ℕ) (w : Window) → held_as form (moved_window n w) ≡ moved_window n (held_as form w)
held_moved Unsigned5 n w = refl
held_moved Signed5 n w = refl
held_moved Word4 n w = refl

all_held_moved : (n : ℕ) (ws vs : List Window) → map (λ (w : Window). held_as w.form w) (map {A = Window} {B = Window} (moved_window n) ws ++ vs)
    ≡ map {A = Window} {B = Window} (moved_window n) (map (λ (w : Window). held_as w.form w) ws) ++ map (λ (w : Window). held_as w.form w) vs
all_held_moved n [] vs = refl
all_held_moved n (w ∷ ws) vs = let h = held_moved w.form n w in let t = all_held_moved n ws vs in λ i. h i ∷ t i

kept_moved : (m : Mode) (places : List ℕ) (wss : List (List Window)) → kept m (moved_windows places wss) ≡ moved_windows places (held m wss)
kept_moved Plain places wss = refl
kept_moved Shared [] wss = refl
kept_moved Shared (k ∷ places) [] = refl
kept_moved Shared (k ∷ places) (ws ∷ wss) =
    all_held_moved k ws (moved_windows places wss)
    ∙ ap (λ vs. map {A = Window} {B = Window} (moved_window k) (map (λ (w : Window). held_as w.form w) ws) ++ vs) (kept_moved Shared places wss)

-- What is written into the windows of sources, one after another, is what is judged by their values and written as they are held.
pub written_judged : (m : Mode) (places : List ℕ) (wss : List (List Window)) → written_of m (moved_windows places wss) ≡ judged_patches (moved_windows places wss) (moved_windows places (held m wss))
written_judged m places wss = all_written m (moved_windows places wss) ∙ ap (judged_patches (moved_windows places wss)) (kept_moved m places wss)
