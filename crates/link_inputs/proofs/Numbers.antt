-- Inputs that are numbered one file after another.
use Rattle.std.proofs.Common.{◌≡◌, ◌∙◌, ◌+◌, ◌<◌, ℕ, zero, suc, Some, List, [], ◌∷◌, ◌++◌, length, drop, refl, sym, ap, arith, get_or}
use Rattle.std.proofs.lemmas.List.{drop_more, append_assoc, append-nil}
use Rattle.std.proofs.lemmas.List.Sums.{sum_by-cons}
use Rattle.std.specs.Prelude.{map, slice_get}
use Rattle.link_program.specs.wl_base.declared.span.Span.{Span}
use Rattle.link_program.specs.lib_index.Library.{Contents}
use Rattle.link_program.specs.link_plan.declared.plan.InputWord.{InputWord}
use Rattle.link_program.specs.round_rules.declared.given.LibraryFile.{LibraryFile}
use Rattle.link_program.specs.declared.home.Home.{Home}
use Rattle.link_inputs.specs.declared.numbering.ObjectFile.{ObjectFile}
use Rattle.link_inputs.specs.declared.numbering.Sources.{Sources}
use Rattle.link_inputs.specs.declared.opening.OpenFile.{OpenFile}
use Rattle.link_inputs.specs.declared.opening.OpenFile.TheVariants.{Library}
use Rattle.link_inputs.specs.Opened.{count_in, input_count}
use Rattle.link_inputs.specs.Sources.{objects_in, libraries_in, homes_in, objects_from, libraries_from, homes_from, IsAdded, AreSources}

-- What is numbered so far, and what is left, are all.
pub record Numbering (ws : List InputWord) (all : List OpenFile) (file input : ℕ) (left : List OpenFile) (s : Sources) : Type 0 where
  pub many : file + length left ≡ length ws
  pub count : input + input_count left ≡ 1 + input_count all
  pub objects : s.objects ++ objects_from file input (drop file ws) left ≡ objects_from 0 1 ws all
  pub libraries : s.libraries ++ libraries_from file input (drop file ws) left ≡ libraries_from 0 1 ws all
  pub homes : s.homes ++ homes_from file left ≡ homes_from 0 all

pub starts : (ws : List InputWord) (all : List OpenFile) (s : Sources) → length all ≡ length ws → s.objects ≡ [] → s.libraries ≡ [] → s.homes ≡ []
    → Numbering ws all 0 1 all s
starts ws all s same no_objects no_libraries no_homes = record {
  many = omega (arith, same);
  count = refl;
  objects = ap (λ (xs : List ObjectFile). xs ++ objects_from 0 1 ws all) no_objects;
  libraries = ap (λ (xs : List LibraryFile). xs ++ libraries_from 0 1 ws all) no_libraries;
  homes = ap (λ (xs : List Home). xs ++ homes_from 0 all) no_homes;
}

none : (file input : ℕ) (ws : List InputWord) → [] ≡ objects_from file input ws []
none file input [] = refl
none file input (w ∷ ws) = refl

no_library : (file input : ℕ) (ws : List InputWord) → [] ≡ libraries_from file input ws []
no_library file input [] = refl
no_library file input (w ∷ ws) = refl

pub ends : (ws : List InputWord) (all : List OpenFile) (file input : ℕ) (s : Sources) → Numbering ws all file input [] s → AreSources ws all s
ends ws all file input s n = record {
  objects = sym (append-nil s.objects) ∙ ap (λ (xs : List ObjectFile). s.objects ++ xs) (none file input (drop file ws)) ∙ n.objects;
  libraries = sym (append-nil s.libraries) ∙ ap (λ (xs : List LibraryFile). s.libraries ++ xs) (no_library file input (drop file ws)) ∙ n.libraries;
  homes = sym (append-nil s.homes) ∙ n.homes;
}

pub goes_on : (ws : List InputWord) (all : List OpenFile) (file input : ℕ) (w : InputWord) (o : OpenFile) (left : List OpenFile) (old new : Sources)
    → file < length ws → w ≡ get_or ws file w → IsAdded file input w o old new → Numbering ws all file input (o ∷ left) old
    → Numbering ws all (file + 1) (input + count_in o) left new
goes_on ws all file input w o left old new lt is added n =
    let at : drop file ws ≡ w ∷ drop (file + 1) ws = drop_more ws file w lt ∙ ap (λ (x : InputWord). let xs : List InputWord = x ∷ drop (file + 1) ws in xs) (sym is) in
    record {
      many = omega (arith, n.many);
      count = omega (arith, n.count, sum_by-cons count_in o left);
      objects =
          ap (λ (xs : List ObjectFile). xs ++ objects_from (file + 1) (input + count_in o) (drop (file + 1) ws) left) added.objects
          ∙ append_assoc old.objects (objects_in file input w o) (objects_from (file + 1) (input + count_in o) (drop (file + 1) ws) left)
          ∙ ap (λ (xs : List InputWord). old.objects ++ objects_from file input xs (o ∷ left)) (sym at)
          ∙ n.objects;
      libraries =
          ap (λ (xs : List LibraryFile). xs ++ libraries_from (file + 1) (input + count_in o) (drop (file + 1) ws) left) added.libraries
          ∙ append_assoc old.libraries (libraries_in file input w o) (libraries_from (file + 1) (input + count_in o) (drop (file + 1) ws) left)
          ∙ ap (λ (xs : List InputWord). old.libraries ++ libraries_from file input xs (o ∷ left)) (sym at)
          ∙ n.libraries;
      homes =
          ap (λ (xs : List Home). xs ++ homes_from (file + 1) left) added.homes
          ∙ append_assoc old.homes (homes_in file o) (homes_from (file + 1) left)
          ∙ n.homes;
    }

-- ---- where members begin

home_next : {X Y : Type 0} (f : X → Y) (xs : List X) (m : ℕ) (x : X) → Some x ≡ slice_get xs m → drop m (map f xs) ≡ f x ∷ drop (m + 1) (map f xs)
home_next f [] m x e = absurd cc
home_next f (y ∷ ys) zero x e = let s : x ≡ y = cc in rw s refl
home_next {Y = Y} f (y ∷ ys) (suc m) x e =
    let n : suc m + 1 ≡ suc (m + 1) = omega arith in
    home_next f ys m x e ∙ ap (λ (zs : List Y). let all : List Y = f x ∷ zs in all) (sym (ap (λ (k : ℕ). drop k (let zs : List Y = f y ∷ map f ys in zs)) n))

pub home_more : (file member : ℕ) (l : Contents) (s : Span) (old new total : List Home) → Some s ≡ slice_get l.members member
    → new ≡ old ++ record { file = file; start = s.start; len = s.len } ∷ []
    → old ++ drop member (homes_in file (Library l)) ≡ total → new ++ drop (member + 1) (homes_in file (Library l)) ≡ total
home_more file member l s old new total at is so_far =
    ap (λ (hs : List Home). hs ++ drop (member + 1) (homes_in file (Library l))) is
    ∙ append_assoc old (record { file = file; start = s.start; len = s.len } ∷ []) (drop (member + 1) (homes_in file (Library l)))
    ∙ ap (λ (hs : List Home). old ++ hs) (sym (home_next (λ (s : Span). let h : Home = record { file = file; start = s.start; len = s.len } in h) l.members member s at))
    ∙ so_far
