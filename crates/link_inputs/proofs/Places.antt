-- Each candidate in its place: its number, its file, and the bytes of which it is read.
use Rattle.std.proofs.Common.{◌≡◌, ◌∙◌, ◌+◌, ◌<◌, ◌≤◌, ℕ, zero, suc, List, [], ◌∷◌, ◌++◌, length, take, drop, Some, refl, sym, ap, subst, arith}
use Rattle.std.specs.Prelude.{slice_get, All}
use Rattle.std.proofs.lemmas.List.{length-take-le, length-drop}
use Rattle.std.proofs.lemmas.List.Elements.{All-head, All-tail}
use Rattle.link_program.specs.wl_base.declared.span.Span.{Span}
use Rattle.link_program.specs.object_file.ObjectOf.{object_of}
use Rattle.link_program.proofs.lib_index_lemmas.LibraryLaws.{library_within}
use Rattle.link_program.specs.round_rules.Rounds.{Candidate}
use Rattle.link_program.specs.link_plan.declared.plan.InputWord.{InputWord}
use Rattle.link_program.specs.link_rules.Candidates.{members_from}
use Rattle.link_program.specs.link_rules.LinkOf.{the_readers}
use Rattle.link_inputs.specs.declared.opening.OpenFile.{OpenFile}
use Rattle.link_inputs.specs.declared.opening.OpenFile.TheVariants.{Object as ObjectFile, Library}
use Rattle.link_inputs.specs.Opened.{count_in}
use Rattle.link_inputs.specs.Reading.{file_at}
use Rattle.link_inputs.specs.Inputs.{candidates_at, inputs_from}
use Rattle.link_inputs.proofs.Files.{IsOpened, AreOpened}
use Rattle.link_inputs.proofs.Cut.{many_at}

-- a list from a place on
pub at_rest : {X : Type 0} (xs : List X) (i : ℕ) (y : X) (ys : List X) → y ∷ ys ≡ drop i xs → slice_get xs i ≡ Some y
at_rest [] zero y ys e = absurd cc
at_rest [] (suc i) y ys e = absurd cc
at_rest (x ∷ xs) zero y ys e = let s : y ≡ x = cc in rw s refl
at_rest (x ∷ xs) (suc i) y ys e = at_rest xs i y ys e

pub behind_rest : {X : Type 0} (xs : List X) (i : ℕ) (y : X) (ys : List X) → y ∷ ys ≡ drop i xs → ys ≡ drop (i + 1) xs
behind_rest [] zero y ys e = absurd cc
behind_rest [] (suc i) y ys e = absurd cc
behind_rest (x ∷ xs) zero y ys e = cc
behind_rest {X} (x ∷ xs) (suc i) y ys e =
    let n : suc i + 1 ≡ suc (i + 1) = omega arith in
    behind_rest xs i y ys e ∙ sym (ap (λ (k : ℕ). drop k (let zs : List X = x ∷ xs in zs)) n)

pub file_is : (whole : List (List ℕ)) (file : ℕ) (b : List ℕ) (bs : List (List ℕ)) → b ∷ bs ≡ drop file whole → file_at whole file ≡ b
file_is [] zero b bs e = absurd cc
file_is [] (suc file) b bs e = absurd cc
file_is (x ∷ whole) zero b bs e = cc
file_is (x ∷ whole) (suc file) b bs e = file_is whole file b bs e

pub file_within : {X : Type 0} (whole : List X) (file : ℕ) (b : X) (bs : List X) → b ∷ bs ≡ drop file whole → file < length whole
file_within [] zero b bs e = absurd cc
file_within [] (suc file) b bs e = absurd cc
file_within (x ∷ whole) zero b bs e = omega arith
file_within (x ∷ whole) (suc file) b bs e = omega (arith, file_within whole file b bs e)

-- A candidate is read of bytes that lie in its file.
pub record Stands (files : List (List ℕ)) (c : Candidate) : Type 0 where
  pub bytes : List ℕ
  pub long : length bytes ≡ c.len
  pub object : c.object ≡ object_of c.input bytes
  pub file : c.file < length files
  pub lies : c.start + c.len ≤ length (file_at files c.file)

abbrev pub Placed : List (List ℕ) → ℕ → List Candidate → Type 0
Placed files input [] = Unit {0}
Placed files input (c ∷ cs) = (c.input ≡ input) × Stands files c × Placed files (input + 1) cs

placed_both : (files : List (List ℕ)) (input : ℕ) (cs ds : List Candidate) → Placed files input cs → Placed files (input + length cs) ds
    → Placed files input (cs ++ ds)
placed_both files input [] ds p q = subst (λ (n : ℕ). Placed files n ds) (let n : input + 0 ≡ input = omega arith in n) q
placed_both files input (c ∷ cs) ds p q = (
  p.0,
  p.1,
  placed_both files (input + 1) cs ds p.2 (subst (λ (n : ℕ). Placed files n ds) (let n : input + suc (length cs) ≡ input + 1 + length cs = omega arith in n) q),
)

module _ (whole : List (List ℕ)) (file : ℕ) (w : InputWord) (b : List ℕ) (is : file_at whole file ≡ b) (within : file < length whole) where
  abbrev Lies : Span → Type 0
  Lies s = s.start + s.len ≤ length b

  part_long : (s : Span) → s.start + s.len ≤ length b → length (take s.len (drop s.start b)) ≡ s.len
  part_long s lies = length-take-le s.len (drop s.start b) (omega (arith, lies, length-drop s.start b))

  members_placed : (input member : ℕ) (offered : List (List ℕ × ℕ)) (ss : List Span) → All Lies ss
      → Placed whole input (members_from the_readers file w b input member offered ss)
  members_placed input member offered [] lie = tt
  members_placed input member offered (s ∷ ss) lie = (
    refl,
    record {
      bytes = take s.len (drop s.start b);
      long = part_long s (All-head Lies s ss lie);
      object = refl;
      file = within;
      lies = subst (λ (x : List ℕ). s.start + s.len ≤ length x) (sym is) (All-head Lies s ss lie);
    },
    members_placed (input + 1) (member + 1) offered ss (All-tail Lies s ss lie),
  )

  file_placed : (input : ℕ) (o : OpenFile) → IsOpened b o → Placed whole input (candidates_at file input w b o)
  file_placed input (ObjectFile n) opened = (
    refl,
    record { bytes = b; long = refl; object = refl; file = within; lies = omega (arith, ap (λ (x : List ℕ). length x) is) },
    tt,
  )
  file_placed input (Library l) opened = members_placed input 0 l.offered l.members (library_within l b opened)

pub inputs_placed : (whole : List (List ℕ)) (file input : ℕ) (ws : List InputWord) (bs : List (List ℕ)) (os : List OpenFile) → bs ≡ drop file whole
    → AreOpened bs os → Placed whole input (inputs_from file input ws bs os)
inputs_placed whole file input [] bs os at are = tt
inputs_placed whole file input (w ∷ ws) [] os at are = tt
inputs_placed whole file input (w ∷ ws) (b ∷ bs) [] at are = tt
inputs_placed whole file input (w ∷ ws) (b ∷ bs) (o ∷ os) at are =
    placed_both whole input (candidates_at file input w b o) (inputs_from (file + 1) (input + count_in o) ws bs os)
    (file_placed whole file w b (file_is whole file b bs at) (file_within whole file b bs at) input o are.0)
    (subst (λ (n : ℕ). Placed whole n (inputs_from (file + 1) (input + count_in o) ws bs os))
    (let n : input + count_in o ≡ input + length (candidates_at file input w b o) = omega (arith, many_at file input w b o) in n)
    (inputs_placed whole (file + 1) (input + count_in o) ws bs os (behind_rest whole file b bs at) are.1))

pub numbered : (files : List (List ℕ)) (input : ℕ) (cs : List Candidate) → Placed files input cs → (i : ℕ) (c : Candidate) → slice_get cs i ≡ Some c
    → c.input ≡ input + i
numbered files input [] p i c e = absurd cc
numbered files input (d ∷ cs) p zero c e = let s : d ≡ c = cc in sym (ap (λ (x : Candidate). x.input) s) ∙ p.0 ∙ (let n : input ≡ input + 0 = omega arith in n)
numbered files input (d ∷ cs) p (suc i) c e = omega (arith, numbered files (input + 1) cs p.2 i c e)
