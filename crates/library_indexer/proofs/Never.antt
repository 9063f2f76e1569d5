-- Where the first member is the index, reading never says that there is none.
use Rattle.std.proofs.Common.{◌≡◌, ℕ, zero, suc, ◌-◌, ◌*◌, Bool, true, false, cond, List, [], ◌∷◌, length, drop, Option, Some, None, Result, Ok, Err, refl}
use Rattle.std.specs.Prelude.{is_some, position, ◌==◌, nat_lt}
use Rattle.wl_base.specs.declared.fault.LibFault.{LibFault}
use Rattle.wl_base.specs.declared.fault.LibFault.TheVariants.{NotLibrary, Thin, BadHeader, NoIndex, BadIndex}
use Rattle.lib_index.specs.Archive.{thin_magic, magic}
use Rattle.lib_index.specs.Reading.{◌>>=◌, or_fault, behind, after_magic, member_at, members_at, word_at, number_at, numbers_at, name_at, entries_at, counted_index, index_at}

abbrev pub Never : {A : Type 0} → Result A LibFault → Type 0
Never r = r ≡ Err NoIndex → ⊥

ok_never : {A : Type 0} (x : A) → (let r : Result A LibFault = Ok x in Never r)
ok_never x = λ e. absurd cc

err_never : {A : Type 0} (d : LibFault) → (d ≡ NoIndex → ⊥) → (let r : Result A LibFault = Err d in Never r)
err_never d other = λ e. other cc

bind_never : {A B : Type 0} (r : Result A LibFault) (f : A → Result B LibFault) → Never r → ((x : A) → Never (f x)) → Never (r >>= f)
bind_never (Ok x) f l g = g x
bind_never (Err d) f l g = λ e. l (let same : d ≡ NoIndex = cc in rw same refl)

or_never : {A : Type 0} (d : LibFault) (o : Option A) → (d ≡ NoIndex → ⊥) → Never (or_fault d o)
or_never d (Some x) other = ok_never x
or_never d None other = err_never d other

cond_never : {A : Type 0} (b : Bool) (r s : Result A LibFault) → Never r → Never s → Never (cond b r s)
cond_never true r s l m = l
cond_never false r s l m = m

-- ---- the faults

start_other : (b : Bool) → cond b Thin NotLibrary ≡ NoIndex → ⊥
start_other true e = absurd cc
start_other false e = absurd cc

header_other : (place : ℕ) → BadHeader place ≡ NoIndex → ⊥
header_other place e = absurd cc

index_other : (rule : ℕ) → BadIndex rule ≡ NoIndex → ⊥
index_other rule e = absurd cc

-- ---- the steps

pub start_never : (bytes : List ℕ) → Never (after_magic bytes)
start_never bytes = or_never (cond (is_some (behind thin_magic bytes)) Thin NotLibrary) (behind magic bytes) (start_other (is_some (behind thin_magic bytes)))

pub members_never : (n end : ℕ) (bytes : List ℕ) → Never (members_at n end bytes)
unfolding members_at
members_never n end [] = ok_never []
members_never zero end (b ∷ bytes) = ok_never []
members_never (suc n) end (b ∷ bytes) =
    let place : ℕ = end - length (b ∷ bytes) in
    bind_never (or_fault (BadHeader place) (member_at end (b ∷ bytes))) _ (or_never (BadHeader place) (member_at end (b ∷ bytes)) (header_other place))
    (λ m. bind_never (members_at n end m.1) (λ ms. Ok (m.0 ∷ ms)) (members_never n end m.1) (λ ms. ok_never (m.0 ∷ ms)))

number_never : (places bytes : List ℕ) → Never (number_at places bytes)
unfolding number_at
number_never places bytes =
    bind_never (or_fault (BadIndex 1) (word_at bytes)) _ (or_never (BadIndex 1) (word_at bytes) (index_other 1))
    (λ word. bind_never (or_fault (BadIndex 2) (position (λ place. place == word.0) places)) (λ number. Ok (number, word.1)) (or_never (BadIndex 2) (position (λ place. place == word.0) places) (index_other 2)) (λ number. ok_never (number, word.1)))

numbers_never : (places : List ℕ) (n : ℕ) (bytes : List ℕ) → Never (numbers_at places n bytes)
unfolding numbers_at
numbers_never places zero bytes = ok_never []
numbers_never places (suc n) bytes =
    bind_never (number_at places bytes) _ (number_never places bytes) (λ k. bind_never (numbers_at places n k.1) (λ ks. Ok (k.0 ∷ ks)) (numbers_never places n k.1) (λ ks. ok_never (k.0 ∷ ks)))

entries_never : (ks bytes : List ℕ) → Never (entries_at ks bytes)
unfolding entries_at
entries_never [] bytes = ok_never []
entries_never (k ∷ ks) bytes =
    bind_never (or_fault (BadIndex 3) (name_at bytes)) _ (or_never (BadIndex 3) (name_at bytes) (index_other 3)) (λ name. bind_never (entries_at ks name.1) (λ es. Ok ((name.0, k) ∷ es)) (entries_never ks name.1) (λ es. ok_never ((name.0, k) ∷ es)))

pub index_never : (places content : List ℕ) → Never (index_at places content)
unfolding index_at counted_index
index_never places content =
    bind_never (or_fault (BadIndex 1) (word_at content)) _ (or_never (BadIndex 1) (word_at content) (index_other 1))
    (λ count. cond_never (nat_lt (length count.1) (4 * count.0)) (Err (BadIndex 1)) (numbers_at places count.0 count.1 >>= λ ks. entries_at ks (drop (4 * count.0) count.1)) (err_never (BadIndex 1) (index_other 1))
    (bind_never (numbers_at places count.0 count.1) (λ ks. entries_at ks (drop (4 * count.0) count.1)) (numbers_never places count.0 count.1) (λ ks. entries_never ks (drop (4 * count.0) count.1))))
