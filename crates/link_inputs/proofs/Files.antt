-- Files that are opened, as a relation.
use Rattle.std.proofs.Common.{◌≡◌, ◌∙◌, ◌+◌, ◌≤◌, ℕ, Bool, true, false, List, [], ◌∷◌, ◌++◌, length, Result, Ok, Err, refl, sym, ap, arith}
use Rattle.std.proofs.lemmas.List.Sums.{sum_by-cons}
use Rattle.link_program.specs.wl_base.Choice.{◌>>=◌}
use Rattle.link_program.specs.wl_base.declared.fault.Fault.{Fault}
use Rattle.link_program.specs.wl_base.declared.fault.LibFault.{LibFault}
use Rattle.std.proofs.lemmas.List.{length-append}
use Rattle.link_program.specs.lib_index.Archive.{magic}
use Rattle.link_program.specs.lib_index.Library.{Contents, IsLibrary}
use Rattle.link_program.specs.lib_index.Reading.{library_of}
use Rattle.link_program.proofs.lib_index_lemmas.LibraryLaws.{library_found}
use Rattle.link_program.proofs.lib_index_lemmas.MemberLaws.{members_few, headers_few, spans_many}
use Rattle.link_program.specs.link_rules.Candidates.{is_library, total_len}
use Rattle.link_inputs.specs.declared.opening.OpenFile.{OpenFile}
use Rattle.link_inputs.specs.declared.opening.OpenFile.TheVariants.{Object, Library}
use Rattle.link_inputs.specs.Opened.{library_file, opened_as, opened_file, opened_from, count_in, input_count}
use Rattle.link_inputs.proofs.Binds.{bind_ok, ok_is}

-- What a file is.
abbrev pub IsOpened : List ℕ → OpenFile → Type 0
IsOpened bytes (Object len) = (is_library bytes ≡ false) × (len ≡ length bytes)
IsOpened bytes (Library l) = IsLibrary l bytes

abbrev pub AreOpened : List (List ℕ) → List OpenFile → Type 0
AreOpened [] [] = Unit {0}
AreOpened [] (o ∷ os) = ⊥
AreOpened (b ∷ bs) [] = ⊥
AreOpened (b ∷ bs) (o ∷ os) = IsOpened b o × AreOpened bs os

library_is : (file : ℕ) (bytes : List ℕ) (r : Result Contents LibFault) (o : OpenFile) → library_of bytes ≡ r → library_file file r ≡ Ok o → IsOpened bytes o
library_is file bytes (Ok l) (Object len) e is = absurd cc
library_is file bytes (Ok l) (Library m) e is = let same : l ≡ m = cc in library_found bytes m (e ∙ ap (λ (x : Contents). let r : Result Contents LibFault = Ok x in r) same)
library_is file bytes (Err f) o e is = absurd cc

opened_is : (file : ℕ) (bytes : List ℕ) (k : Bool) (o : OpenFile) → is_library bytes ≡ k → opened_as file bytes k ≡ Ok o → IsOpened bytes o
opened_is file bytes false (Object len) e is = let same : length bytes ≡ len = cc in (e, sym same)
opened_is file bytes false (Library l) e is = absurd cc
opened_is file bytes true o e is = library_is file bytes (library_of bytes) o refl is

pub opened_are : (file : ℕ) (bs : List (List ℕ)) (os : List OpenFile) → opened_from file bs ≡ Ok os → AreOpened bs os
opened_are file [] [] e = tt
opened_are file [] (o ∷ os) e = absurd cc
opened_are file (b ∷ bs) [] e =
    let a = bind_ok (opened_file file b) (λ o. opened_from (file + 1) bs >>= λ os. Ok (o ∷ os)) [] e in
    let r = bind_ok (opened_from (file + 1) bs) (λ os. Ok (a.0 ∷ os)) [] a.2 in
    let none : a.0 ∷ r.0 ≡ [] = ok_is r.2 in absurd cc
opened_are file (b ∷ bs) (o ∷ os) e =
    let a = bind_ok (opened_file file b) (λ o. opened_from (file + 1) bs >>= λ os. Ok (o ∷ os)) (o ∷ os) e in
    let r = bind_ok (opened_from (file + 1) bs) (λ os. Ok (a.0 ∷ os)) (o ∷ os) a.2 in
    let both : a.0 ∷ r.0 ≡ o ∷ os = ok_is r.2 in
    let head : a.0 ≡ o = cc in
    let rest : r.0 ≡ os = cc in (
      opened_is file b (is_library b) o refl (a.1 ∙ ap (λ (x : OpenFile). let y : Result OpenFile Fault = Ok x in y) head),
      opened_are (file + 1) bs os (r.1 ∙ ap (λ (x : List OpenFile). let y : Result (List OpenFile) Fault = Ok x in y) rest),
    )

pub opened_long : (bs : List (List ℕ)) (os : List OpenFile) → AreOpened bs os → length os ≡ length bs
opened_long [] [] are = refl
opened_long [] (o ∷ os) are = absurd are
opened_long (b ∷ bs) [] are = absurd are
opened_long (b ∷ bs) (o ∷ os) are = omega (arith, opened_long bs os are.1)

rest_few : (b rest : List ℕ) → b ≡ magic ++ rest → length rest ≤ length b
rest_few b rest begins = omega (arith, ap (λ (xs : List ℕ). length xs) begins, length-append magic rest)

-- a file has as many inputs as bytes at most, or one
few_in : (b : List ℕ) (o : OpenFile) → IsOpened b o → count_in o ≤ 1 + length b
few_in b (Object len) is = omega arith
few_in b (Library l) is =
    let few = members_few (length b) is.all is.rest (rest_few b is.rest is.begins) is.cut in
    omega (arith, few, rest_few b is.rest is.begins, headers_few is.all, spans_many is.all, ap (λ xs. length xs) is.holds)

pub few_inputs : (bs : List (List ℕ)) (os : List OpenFile) → AreOpened bs os → input_count os ≤ length bs + total_len bs
few_inputs [] [] are = omega arith
few_inputs [] (o ∷ os) are = absurd are
few_inputs (b ∷ bs) [] are = absurd are
few_inputs (b ∷ bs) (o ∷ os) are = omega (arith, few_in b o are.0, few_inputs bs os are.1, sum_by-cons count_in o os, sum_by-cons (λ (f : List ℕ). length f) b bs)
