-- Members of whole libraries that are read one after another.
use Rattle.std.proofs.Common.{◌≡◌, ◌∙◌, ◌+◌, ◌<◌, ◌≤◌, ℕ, List, [], ◌∷◌, ◌++◌, length, drop, Option, Some, None, refl, sym, ap, subst, arith, get_or}
use Rattle.std.specs.Prelude.{slice_get, map}
use Rattle.std.proofs.lemmas.List.{drop_more, drop_all}
use Rattle.std.proofs.lemmas.List.Elements.{All-get_or}
use Rattle.std.proofs.lemmas.Option.{get_or_from_slice_get, slice_get_within}
use Rattle.link_program.specs.wl_base.Choice.{first_some}
use Rattle.link_program.specs.wl_base.declared.fault.Fault.{Fault}
use Rattle.link_program.specs.wl_base.declared.span.Span.{Span}
use Rattle.link_program.specs.object_file.ObjectOf.{object_of}
use Rattle.link_program.specs.lib_index.Library.{bytes_of}
use Rattle.link_program.proofs.lib_index_lemmas.LibraryLaws.{library_within}
use Rattle.link_program.specs.round_rules.declared.given.LibraryFile.{LibraryFile}
use Rattle.link_program.specs.round_rules.Rounds.{Candidate, object_fault, fault_in}
use Rattle.link_program.specs.round_rules.Inputs.{IsRead, members_from}
use Rattle.link_program.specs.declared.error.LinkError.{LinkError}
use Rattle.link_program.specs.declared.error.LinkError.TheVariants.{Refused, OutOfMemory}
use Rattle.link_program.specs.Answers.{Stops}
use Rattle.link_inputs.specs.Reading.{file_at, fault_of, early_members, whole_before}

-- a list from a place on, by what stands there
from_place : {X : Type 0} (xs : List X) (i : ℕ) (x : X) → Some x ≡ slice_get xs i → drop i xs ≡ x ∷ drop (i + 1) xs
from_place {X} xs i x e =
    drop_more xs i x (slice_get_within xs i x (sym e)) ∙ ap (λ (y : X). let ys : List X = y ∷ drop (i + 1) xs in ys) (get_or_from_slice_get xs i x x (sym e))

-- the file of a library is there
pub file_there : (files : List (List ℕ)) (l : LibraryFile) → IsRead files l → l.file < length files
file_there files l read = slice_get_within files l.file read.0 read.1

-- a member lies in its file
pub member_lies : (files : List (List ℕ)) (l : LibraryFile) (b : List ℕ) (m : ℕ) (s : Span) → IsRead files l → b ≡ file_at files l.file
    → Some s ≡ slice_get l.library.members m → s.start + s.len ≤ length b
member_lies files l b m s read is at =
    let own : file_at files l.file ≡ read.0 = get_or_from_slice_get files l.file read.0 [] read.1 in
    let lies = All-get_or (λ (x : Span). x.start + x.len ≤ length read.0) l.library.members m s (slice_get_within l.library.members m s (sym at))
    (library_within l.library read.0 read.2) in
    let here : get_or l.library.members m s ≡ s = get_or_from_slice_get l.library.members m s s (sym at) in
    subst (λ (x : List ℕ). s.start + s.len ≤ length x) (sym (is ∙ own)) (subst (λ (x : Span). x.start + x.len ≤ length read.0) here lies)

-- ---- one member after another

first_is : (f : Option Fault) (later : List (Option Fault)) → f ≡ None → first_some (f ∷ later) ≡ first_some later
first_is None more e = refl
first_is (Some f) more e = absurd cc

first_fault : (f : Option Fault) (later : List (Option Fault)) (g : Fault) → f ≡ Some g → first_some (f ∷ later) ≡ Some g
first_fault None later g e = absurd cc
first_fault (Some f) later g e = e

module _ (l : LibraryFile) (b : List ℕ) (m : ℕ) (s : Span) (at : Some s ≡ slice_get l.library.members m) (total : Option Fault)
    (so_far : fault_of (members_from l b (l.first + m) m (drop m l.library.members)) ≡ total) where
  abbrev later : List Candidate
  later = members_from l b (l.first + m + 1) (m + 1) (drop (m + 1) l.library.members)

  abbrev here : Option Fault
  here = fault_in (object_of (l.first + m) (bytes_of b s))

  split : first_some (here ∷ map object_fault later) ≡ total
  split = ap (λ (ss : List Span). fault_of (members_from l b (l.first + m) m ss)) (sym (from_place l.library.members m s at)) ∙ so_far

  pub goes_on : here ≡ None → fault_of (members_from l b (l.first + (m + 1)) (m + 1) (drop (m + 1) l.library.members)) ≡ total
  goes_on none =
      let n : l.first + (m + 1) ≡ l.first + m + 1 = omega arith in
      ap (λ (k : ℕ). fault_of (members_from l b k (m + 1) (drop (m + 1) l.library.members))) n ∙ sym (first_is here (map object_fault later) none) ∙ split

  pub fails : (e : LinkError) → Stops e here → Stops e total
  fails (Refused f) is = sym split ∙ first_fault here (map object_fault later) f is
  fails OutOfMemory is = tt

pub ends : (l : LibraryFile) (b : List ℕ) (m : ℕ) (total : Option Fault) → length l.library.members ≤ m
    → fault_of (members_from l b (l.first + m) m (drop m l.library.members)) ≡ total → total ≡ None
ends l b m total le so_far = sym so_far ∙ ap (λ (ss : List Span). fault_of (members_from l b (l.first + m) m ss)) (drop_all m l.library.members le)

-- ---- one library after another

-- one, or else the other
abbrev pub or_else : Option Fault → Option Fault → Option Fault
or_else None more = more
or_else (Some f) more = Some f

fault_first : (f : Option Fault) (xs ys zs : List (Option Fault)) → first_some zs ≡ or_else (first_some xs) (first_some ys)
    → first_some (f ∷ zs) ≡ or_else (first_some (f ∷ xs)) (first_some ys)
fault_first None xs ys zs e = e
fault_first (Some f) xs ys zs e = refl

pub fault_both : (xs ys : List Candidate) → fault_of (xs ++ ys) ≡ or_else (fault_of xs) (fault_of ys)
fault_both [] ys = refl
fault_both (x ∷ xs) ys = fault_first (object_fault x) (map object_fault xs) (map object_fault ys) (map object_fault (xs ++ ys)) (fault_both xs ys)

or_none : (f later : Option Fault) → f ≡ None → or_else f later ≡ later
or_none None later e = refl
or_none (Some f) later e = absurd cc

or_fault : (f later : Option Fault) (g : Fault) → f ≡ Some g → or_else f later ≡ Some g
or_fault None later g e = absurd cc
or_fault (Some f) later g e = e

module _ (files : List (List ℕ)) (input : ℕ) (ls : List LibraryFile) (at : ℕ) (l : LibraryFile) (lt : at < length ls) (total : Option Fault)
    (so_far : fault_of (whole_before files input (drop at ls)) ≡ total) where
  abbrev one : Option Fault
  one = fault_of (early_members files input (get_or ls at l))

  parted : or_else one (fault_of (whole_before files input (drop (at + 1) ls))) ≡ total
  parted =
      sym (fault_both (early_members files input (get_or ls at l)) (whole_before files input (drop (at + 1) ls)))
      ∙ ap (λ (xs : List LibraryFile). fault_of (whole_before files input xs)) (sym (drop_more ls at l lt)) ∙ so_far

  pub library_goes_on : one ≡ None → fault_of (whole_before files input (drop (at + 1) ls)) ≡ total
  library_goes_on none = sym (or_none one (fault_of (whole_before files input (drop (at + 1) ls))) none) ∙ parted

  pub library_fails : (e : LinkError) → Stops e one → Stops e total
  library_fails (Refused f) is = sym parted ∙ or_fault one (fault_of (whole_before files input (drop (at + 1) ls))) f is
  library_fails OutOfMemory is = tt
