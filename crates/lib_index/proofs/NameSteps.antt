-- Reading names one after the other, as a loop does, into what is offered.
use Rattle.std.proofs.Common.{◌≡◌, ℕ, ◌+◌, ◌≤◌, ◌<◌, true, false, cond, List, [], ◌∷◌, length, drop, Some, None, Result, Ok, Err, refl, sym, ap, ◌∙◌, arith, inl, inr, add-one}
use Rattle.std.specs.Prelude.{min, nat_lt}
use Rattle.std.specs.Map.{lookup}
use Rattle.std.specs.Str.{bytes_eq}
use Rattle.std.proofs.lemmas.Bool.{cases_Bool, ltb-true, ltb-false}
use Rattle.std.proofs.lemmas.List.{drop_all}
use Rattle.std.proofs.Math.Seq.{drop-cons}
use Rattle.std.proofs.Math.ListN.{get_or}
use Rattle.wl_base.specs.declared.fault.LibFault.{LibFault}
use Rattle.wl_base.specs.declared.fault.LibFault.TheVariants.{BadIndex}
use Rattle.lib_index.specs.Reading.{◌>>=◌, name_at, entries_at, offers}
use Rattle.indexmap.specs.IndexMap.{insert_entry}
use Rattle.lib_index.specs.Table.{offered_onto, lesser}
use Rattle.lib_index.proofs.LeastLaws.{Entry, onto_all, onto_nothing}

-- what is offered so far, and the entries that are still read
abbrev pub onto : List Entry → Result (List Entry) LibFault → Result (List Entry) LibFault
onto os read = read >>= λ es. Ok (onto_all os es)

regroup : (os : List Entry) (e : Entry) (read : Result (List Entry) LibFault) → onto os (read >>= λ es. Ok (e ∷ es)) ≡ onto (offered_onto os e.0 e.1) read
regroup os e (Ok es) = refl
regroup os e (Err d) = refl

next_number : (numbers : List ℕ) (i : ℕ) → i < length numbers → drop i numbers ≡ get_or numbers i 0 ∷ drop (i + 1) numbers
next_number numbers i lt = rw add-one (drop-cons numbers i 0 lt)

pub goes_on : (os : List Entry) (numbers : List ℕ) (i : ℕ) (rest name after : List ℕ) (total : Result (List Entry) LibFault) → i < length numbers → name_at rest ≡ Some (name, after)
    → onto os (entries_at (drop i numbers) rest) ≡ total → onto (offered_onto os name (get_or numbers i 0)) (entries_at (drop (i + 1) numbers) after) ≡ total
unfolding entries_at
goes_on os numbers i rest name after total lt h so_far =
    let one : onto os (entries_at (drop i numbers) rest) ≡ onto (offered_onto os name (get_or numbers i 0)) (entries_at (drop (i + 1) numbers) after)
    = rw (next_number numbers i lt, h) (regroup os (name, get_or numbers i 0) (entries_at (drop (i + 1) numbers) after)) in
    sym one ∙ so_far

pub ends : (os : List Entry) (numbers : List ℕ) (i : ℕ) (rest : List ℕ) (total : Result (List Entry) LibFault) → i < length numbers → name_at rest ≡ None
    → onto os (entries_at (drop i numbers) rest) ≡ total → total ≡ Err (BadIndex 3)
unfolding entries_at
ends os numbers i rest total lt h so_far =
    let one : onto os (entries_at (drop i numbers) rest) ≡ Err (BadIndex 3) = rw (next_number numbers i lt, h) refl in
    sym so_far ∙ one

pub is_done : (os : List Entry) (numbers : List ℕ) (i : ℕ) (rest : List ℕ) (total : Result (List Entry) LibFault) → length numbers ≤ i
    → onto os (entries_at (drop i numbers) rest) ≡ total → total ≡ Ok os
unfolding entries_at
is_done os numbers i rest total le so_far =
    let one : onto os (entries_at (drop i numbers) rest) ≡ Ok os = rw (drop_all i numbers le) refl in
    sym so_far ∙ one

-- onto nothing, entries offer what they offer
pub onto_offers : (read : Result (List Entry) LibFault) → onto [] read ≡ offers read
onto_offers (Ok es) = ap Ok (onto_nothing es)
onto_offers (Err d) = refl

-- ---- one offer

not_less : (first k : ℕ) → lesser (Some first) k ≡ None → k ≤ first
not_less first k none =
    elim (cases_Bool (nat_lt first k)) [
      | inl less ↦ let h : lesser (Some first) k ≡ Some first = rw less refl in absurd cc
      | inr not_so ↦ ltb-false first k not_so
    ]

is_less : (before k first : ℕ) → lesser (Some before) k ≡ Some first → (before ≡ first) × (before < k)
is_less before k first some =
    elim (cases_Bool (nat_lt before k)) [
      | inl less ↦ let h : lesser (Some before) k ≡ Some before = rw less refl in (let e : before ≡ first = cc in e, ltb-true before k less)
      | inr not_so ↦ let h : lesser (Some before) k ≡ None = rw not_so refl in absurd cc
    ]

-- where none that is less was offered, the member takes the place
pub put_in : (os : List Entry) (name : List ℕ) (k : ℕ) → lesser (lookup (bytes_eq name) os) k ≡ None → insert_entry bytes_eq os name k ≡ offered_onto os name k
put_in [] name k is = refl
put_in (o ∷ os) name k is =
    elim (cases_Bool (bytes_eq name o.0)) [
      | inl same ↦
          let none : lesser (Some o.1) k ≡ None = rw same at is in
          let least : min k o.1 ≡ k = omega (arith, not_less o.1 k none) in
          rw (same, least) refl
      | inr other ↦ rw other (ap (λ (xs : List Entry). o ∷ xs) (put_in os name k (rw other at is)))
    ]

-- and else the lesser is put back
pub put_back : (os : List Entry) (name : List ℕ) (k first : ℕ) → lesser (lookup (bytes_eq name) os) k ≡ Some first
    → insert_entry bytes_eq (insert_entry bytes_eq os name k) name first ≡ offered_onto os name k
put_back [] name k first is = absurd cc
put_back (o ∷ os) name k first is =
    elim (cases_Bool (bytes_eq name o.0)) [
      | inl same ↦
          let less = is_less o.1 k first (rw same at is) in
          let least : min k o.1 ≡ first = omega (arith, less.0, less.1) in
          rw (same, same, least) refl
      | inr other ↦ rw (other, other) (ap (λ (xs : List Entry). o ∷ xs) (put_back os name k first (rw other at is)))
    ]
