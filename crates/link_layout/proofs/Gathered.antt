-- Sources that loops put behind others.
use Rattle.std.proofs.Common.{◌≡◌, ℕ, ◌+◌, ◌≤◌, List, [], ◌∷◌, ◌++◌, map, filter, length, drop, slice_get, Option, Some, None, append_assoc, sym, ap, ◌∙◌}
use Rattle.std.proofs.lemmas.List.{append-nil}
use Rattle.std.proofs.lemmas.Grind.{flat_map-append}
use Rattle.link_program.specs.reloc_apply.declared.window.Window.{Window}
use Rattle.link_program.specs.Moved.{moved_window, moved_windows}
use Rattle.link_program.specs.declared.keys.FunctionKey.{FunctionKey}
use Rattle.link_layout.specs.Seen.{Looked, defined, is_solid_at}
use Rattle.link_layout.specs.Rows.{body_windows, row_windows, part_windows, moved_sources}
use Rattle.link_layout.specs.declared.gathering.Source.{Source}
use Rattle.link_layout.specs.Sources.{source_windows, windows_of}
use Rattle.link_layout.proofs.Steps.{drop_at, drop_none, drop_past, no_more, none_moved}

-- one source more
pub with_one : (k : Looked) (now new : List Source) (s : Source) → new ≡ now ++ s ∷ [] → windows_of k new ≡ windows_of k now ++ source_windows k s
with_one k now new s is =
    ap (windows_of k) is ∙ flat_map-append (source_windows k) now (s ∷ []) ∙ ap (λ ws. windows_of k now ++ ws) (append-nil (source_windows k s))

-- the body of a function is a source, or has no windows
pub with_part : (k : Looked) (now new : List Source) (place n : ℕ) (o : Option ℕ) → o ≡ Some n → new ≡ now ++ record { place = place; number = n } ∷ []
    → windows_of k new ≡ windows_of k now ++ map {A = Window} {B = Window} (moved_window place) (part_windows k o)
with_part k now new place n o some is =
    with_one k now new (record { place = place; number = n }) is ∙ ap (λ o. windows_of k now ++ map {A = Window} {B = Window} (moved_window place) (part_windows k o)) (sym some)

pub with_none : (k : Looked) (now : List Source) (place : ℕ) (o : Option ℕ) → o ≡ None
    → windows_of k now ≡ windows_of k now ++ map {A = Window} {B = Window} (moved_window place) (part_windows k o)
with_none k now place o none =
    sym (append-nil (windows_of k now)) ∙ ap (λ o. windows_of k now ++ map {A = Window} {B = Window} (moved_window place) (part_windows k o)) (sym none)

module _ {A : Type 0} (f : A → List Window) (places : List ℕ) (keys : List A) where
  abbrev left : ℕ → List Window
  left i = moved_windows (drop i places) (map f (drop i keys))

  begun : (i place : ℕ) (x : A) → slice_get places i ≡ Some place → slice_get keys i ≡ Some x → left i ≡ map (moved_window place) (f x) ++ left (i + 1)
  begun i place x at_place at_key = λ j. moved_windows (drop_at places i place at_place j) (map f (drop_at keys i x at_key j))

  pub add_step : (i place : ℕ) (x : A) (now new all : List Window) → slice_get places i ≡ Some place → slice_get keys i ≡ Some x
      → now ++ left i ≡ all → new ≡ now ++ map (moved_window place) (f x) → new ++ left (i + 1) ≡ all
  add_step i place x now new all at_place at_key inv step =
      ap (λ ws. ws ++ left (i + 1)) step ∙ append_assoc now (map (moved_window place) (f x)) (left (i + 1))
      ∙ ap (λ ws. now ++ ws) (sym (begun i place x at_place at_key)) ∙ inv

  pub add_past : (i : ℕ) (now all : List Window) → slice_get places i ≡ None → now ++ left i ≡ all → now ++ left (i + 1) ≡ all
  add_past i now all at inv =
      ap (λ ps. now ++ moved_windows ps (map f (drop (i + 1) keys))) (drop_past places i at)
      ∙ ap (λ ps. now ++ moved_windows ps (map f (drop i keys))) (sym (drop_none places i at)) ∙ inv

  pub add_end : (i : ℕ) (now all : List Window) → length keys ≤ i → now ++ left i ≡ all → now ≡ all
  add_end i now all past inv =
      sym (append-nil now) ∙ ap (λ ws. now ++ ws) (sym (none_moved (drop i places)))
      ∙ ap (λ ks. now ++ moved_windows (drop i places) (map f ks)) (sym (no_more keys i past)) ∙ inv

-- first the bodies, and then the segments
pub all_gathered : (k : Looked) (live places : List ℕ) (keys : List FunctionKey) (numbers tail : List ℕ) (first last : List Window) → keys ≡ defined k.numbers.functions
    → numbers ≡ filter (is_solid_at k) live → tail ≡ drop (length keys) places → first ≡ moved_windows places (map (body_windows k) keys)
    → last ≡ first ++ moved_windows tail (map (row_windows k) numbers) → last ≡ moved_sources k live places
all_gathered k live places keys numbers tail first last same_keys same_numbers same_tail one two =
    two ∙ ap (λ ws. ws ++ moved_windows tail (map (row_windows k) numbers)) one
    ∙ ap (λ ks. moved_windows places (map (body_windows k) keys) ++ moved_windows ks (map (row_windows k) numbers)) same_tail
    ∙ (λ j. moved_windows places (map (body_windows k) (same_keys j)) ++ moved_windows (drop (length (same_keys j)) places) (map (row_windows k) (same_numbers j)))
