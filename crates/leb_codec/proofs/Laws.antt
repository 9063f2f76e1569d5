-- What is read is spelled so, what is spelled so is read, and each fault has its cause.
use Rattle.std.proofs.Common.{◌≡◌, ℕ, zero, suc, ◌-◌, ◌<◌, ◌≤◌, Bool, true, false, cond, ltb, eqb, List, [], ◌∷◌, ◌++◌, length, take, drop, get_or, Result, Ok, Err, refl, sym, ap, ◌∙◌, arith, inl, inr, ◌⊎◌, ◌&&◌, not, ◌↔◌}
use Rattle.std.specs.List.{AllByRecursion}
use Rattle.std.specs.Prelude.{IfOk}
use Rattle.std.proofs.lemmas.Bool.{lt-ltb, le-ltb, cases_lt, cases_eq, eqb-true, eq-eqb, ne_eqb}
use Rattle.std.proofs.Math.Bool.{and-false}
use Rattle.std.proofs.lemmas.List.{length-take, get_or-take, get_or_append_left, take_at, take-append-drop}
use Rattle.leb_codec.specs.declared.form.Form.{Form}
use Rattle.leb_codec.specs.declared.form.Form.TheVariants.{U32, S32, S33, S64}
use Rattle.leb_codec.specs.declared.fault.LebFault.{LebFault}
use Rattle.leb_codec.specs.declared.fault.LebFault.TheVariants.{Short, Long, BadTail}
use Rattle.leb_codec.specs.Spelling.{greatest_of, is_allowed, EndsOnce, last_byte, IsSpelling, Spells, IsAtFront, IsShort, IsLong, IsBadTail}
use Rattle.leb_codec.specs.Reading.{one_more, end_within, checked, end_of, valued, number_at}

-- ---- the place where it ends

-- what a spelling of n bytes at the front is
pub record Ends (g : ℕ) (bytes : List ℕ) (n : ℕ) : Type 0 where
  pub pos_n : 0 < n
  pub within : n ≤ g
  pub held : n ≤ length bytes
  pub once : EndsOnce (take n bytes)

pub EndsOnce-cons : (b : ℕ) (bytes : List ℕ) → 128 ≤ b → EndsOnce bytes → EndsOnce (b ∷ bytes)
EndsOnce-cons b [] high ends = absurd ends
EndsOnce-cons b (c ∷ bytes) high ends = (high, ends)

one_more_ok : (r : Result ℕ LebFault) (n : ℕ) → one_more r ≡ Ok n → (m : ℕ) × (r ≡ Ok m) × (n ≡ suc m)
one_more_ok (Ok m) n e = (m, refl, cc)
one_more_ok (Err d) n e = absurd cc

one_more_err : (r : Result ℕ LebFault) (d : LebFault) → one_more r ≡ Err d → r ≡ Err d
one_more_err (Ok m) d e = absurd cc
one_more_err (Err x) d e = cc

ok_is : (m n : ℕ) → (let r : Result ℕ LebFault = Ok m in r ≡ Ok n) → m ≡ n
ok_is m n e = cc

Ends-cons : (g b n m : ℕ) (bytes : List ℕ) → 128 ≤ b → n ≡ suc m → Ends g bytes m → Ends (suc g) (b ∷ bytes) n
Ends-cons g b n m bytes high is ends =
    rw is (record { pos_n = omega arith; within = omega arith; held = omega arith; once = EndsOnce-cons b (take m bytes) high ends.once })

pub end_found : (g : ℕ) (bytes : List ℕ) (n : ℕ) → end_within g bytes ≡ Ok n → Ends g bytes n
unfolding end_within
end_found zero bytes n e = absurd cc
end_found (suc g) [] n e = absurd cc
end_found (suc g) (b ∷ bytes) n e =
    elim (cases_lt b 128) [
      | inl low ↦
          let test : ltb b 128 ≡ true = lt-ltb _ _ low in
          let one : 1 ≡ n = ok_is 1 n (rw test at e) in
          rw (← one) (record { pos_n = omega arith; within = omega arith; held = omega arith; once = low })
      | inr high ↦
          let test : ltb b 128 ≡ false = le-ltb _ _ high in
          let more = one_more_ok (end_within g bytes) n (rw test at e) in
          Ends-cons g b n more.0 bytes high more.2 (end_found g bytes more.0 more.1)
    ]

pub end_again : (g : ℕ) (a rest : List ℕ) → EndsOnce a → length a ≤ g → end_within g (a ++ rest) ≡ Ok (length a)
unfolding end_within
end_again g [] rest ends within = absurd ends
end_again zero (b ∷ a) rest ends within = absurd (omega arith)
end_again (suc g) (b ∷ []) rest ends within = rw (lt-ltb b 128 ends) refl
end_again (suc g) (b ∷ c ∷ a) rest ends within =
    rw (le-ltb b 128 ends.0, end_again g (c ∷ a) rest ends.1 (omega arith)) refl

-- ---- the faults

pub short_found : (g : ℕ) (bytes : List ℕ) → end_within g bytes ≡ Err Short → (length bytes < g) × AllByRecursion (λ b. 128 ≤ b) bytes
unfolding end_within
short_found zero bytes e = absurd cc
short_found (suc g) [] e = (omega arith, tt)
short_found (suc g) (b ∷ bytes) e =
    elim (cases_lt b 128) [
      | inl low ↦
          let test : ltb b 128 ≡ true = lt-ltb _ _ low in
          let not_so = rw test at e in absurd cc
      | inr high ↦
          let test : ltb b 128 ≡ false = le-ltb _ _ high in
          let below = short_found g bytes (one_more_err (end_within g bytes) Short (rw test at e)) in
          (omega (arith, below.0), (high, below.1))
    ]

pub short_again : (g : ℕ) (bytes : List ℕ) → length bytes < g → AllByRecursion (λ b. 128 ≤ b) bytes → end_within g bytes ≡ Err Short
unfolding end_within
short_again zero bytes ended high = absurd (omega arith)
short_again (suc g) [] ended high = refl
short_again (suc g) (b ∷ bytes) ended high = rw (le-ltb b 128 high.0, short_again g bytes (omega arith) high.1) refl

pub long_found : (g : ℕ) (bytes : List ℕ) → end_within g bytes ≡ Err Long → (g ≤ length bytes) × AllByRecursion (λ b. 128 ≤ b) (take g bytes)
unfolding end_within
long_found zero bytes e = (omega arith, tt)
long_found (suc g) [] e = absurd cc
long_found (suc g) (b ∷ bytes) e =
    elim (cases_lt b 128) [
      | inl low ↦
          let test : ltb b 128 ≡ true = lt-ltb _ _ low in
          let not_so = rw test at e in absurd cc
      | inr high ↦
          let test : ltb b 128 ≡ false = le-ltb _ _ high in
          let below = long_found g bytes (one_more_err (end_within g bytes) Long (rw test at e)) in
          (omega (arith, below.0), (high, below.1))
    ]

pub long_again : (g : ℕ) (bytes : List ℕ) → g ≤ length bytes → AllByRecursion (λ b. 128 ≤ b) (take g bytes) → end_within g bytes ≡ Err Long
unfolding end_within
long_again zero bytes reaches high = refl
long_again (suc g) [] reaches high = absurd (omega arith)
long_again (suc g) (b ∷ bytes) reaches high = rw (le-ltb b 128 high.0, long_again g bytes (omega arith) high.1) refl

pub never_bad_tail : (g : ℕ) (bytes : List ℕ) → end_within g bytes ≡ Err BadTail → ⊥
unfolding end_within
never_bad_tail zero bytes e = cc
never_bad_tail (suc g) [] e = cc
never_bad_tail (suc g) (b ∷ bytes) e =
    elim (cases_lt b 128) [
      | inl low ↦
          let test : ltb b 128 ≡ true = lt-ltb _ _ low in
          let not_so = rw test at e in cc
      | inr high ↦
          let test : ltb b 128 ≡ false = le-ltb _ _ high in
          never_bad_tail g bytes (one_more_err (end_within g bytes) BadTail (rw test at e))
    ]

-- ---- a form

last_of_take : (bytes : List ℕ) (n : ℕ) → 0 < n → n ≤ length bytes → last_byte (take n bytes) ≡ get_or bytes (n - 1) 0
last_of_take bytes n pos_n held =
    let len : length (take n bytes) ≡ n = omega (arith, length-take n bytes) in
    rw (len, get_or-take n bytes (n - 1) 0 (omega arith)) refl

last_of_append : (a rest : List ℕ) → 0 < length a → get_or (a ++ rest) (length a - 1) 0 ≡ last_byte a
last_of_append a rest pos_n = get_or_append_left a rest 0 (length a - 1) (omega arith)

cond_ok : (b : Bool) (m n : ℕ) (d : LebFault) → (let r : Result ℕ LebFault = cond b (Err d) (Ok m) in r ≡ Ok n) → (b ≡ false) × (m ≡ n)
cond_ok true m n d e = absurd cc
cond_ok false m n d e = (refl, cc)

cond_err : (b : Bool) (m : ℕ) (d x : LebFault) → (let r : Result ℕ LebFault = cond b (Err d) (Ok m) in r ≡ Err x) → (b ≡ true) × (d ≡ x)
cond_err true m d x e = (refl, cc)
cond_err false m d x e = absurd cc

-- a test of two parts
both_false : (x y : Bool) → (x && not y) ≡ false → x ≡ true → y ≡ true
both_false true true e h = refl
both_false true false e h = absurd cc
both_false false y e h = absurd cc

both_true : (x y : Bool) → (x && not y) ≡ true → (x ≡ true) × (y ≡ false)
both_true true true e = absurd cc
both_true true false e = (refl, refl)
both_true false y e = absurd cc

-- whether the byte before the end is one that may not stand there
abbrev is_bad : Form → List ℕ → ℕ → Bool
is_bad form bytes n = eqb n (greatest_of form) && not (is_allowed form (get_or bytes (n - 1) 0))

form_found : (form : Form) (bytes : List ℕ) (r : Result ℕ LebFault) (n : ℕ) → r ≡ end_within (greatest_of form) bytes → checked form bytes r ≡ Ok n → (n ≤ length bytes) × IsSpelling form (take n bytes)
form_found form bytes (Err d) n is e = absurd cc
form_found form bytes (Ok m) n is e =
    let g = cond_ok (is_bad form bytes m) m n BadTail e in
    let ends : Ends (greatest_of form) bytes m = end_found (greatest_of form) bytes m (sym is) in
    let len : length (take m bytes) ≡ m = omega (arith, length-take m bytes) in
    rw (← g.1) (
      ends.held,
      record {
        within = omega arith;
        ends = ends.once;
        tail = λ full. rw (last_of_take bytes m ends.pos_n ends.held) (both_false (eqb m (greatest_of form)) (is_allowed form (get_or bytes (m - 1) 0)) g.0 (eq-eqb m (greatest_of form) (omega arith)));
      },
    )

pub EndsOnce-pos : (a : List ℕ) → EndsOnce a → 0 < length a
EndsOnce-pos [] ends = absurd ends
EndsOnce-pos (b ∷ a) ends = omega arith

not_bad : (form : Form) (a rest : List ℕ) → IsSpelling form a → is_bad form (a ++ rest) (length a) ≡ false
not_bad form a rest spelled =
    rw (last_of_append a rest (EndsOnce-pos a spelled.ends)) (
    elim (cases_eq (length a) (greatest_of form)) [
      | inl full ↦ rw (spelled.tail full) (and-false (eqb (length a) (greatest_of form)))
      | inr less ↦ rw (ne_eqb (length a) (greatest_of form) less) refl
    ])

form_again : (form : Form) (a rest : List ℕ) → IsSpelling form a → end_of form (a ++ rest) ≡ Ok (length a)
unfolding end_of
form_again form a rest spelled =
    rw (end_again (greatest_of form) a rest spelled.ends spelled.within, not_bad form a rest spelled) refl

-- a fault of the end is a fault of the form
form_fault : (form : Form) (bytes : List ℕ) (d : LebFault) → end_within (greatest_of form) bytes ≡ Err d → end_of form bytes ≡ Err d
unfolding end_of
form_fault form bytes d is = rw is refl

-- a fault of the form is one of the end, or a bad last byte
fault_of_form : (form : Form) (bytes : List ℕ) (r : Result ℕ LebFault) (d : LebFault) → checked form bytes r ≡ Err d
    → (r ≡ Err d) ⊎ ((d ≡ BadTail) × (m : ℕ) × (r ≡ Ok m) × (m ≡ greatest_of form) × (is_allowed form (get_or bytes (m - 1) 0) ≡ false))
fault_of_form form bytes (Err x) d e = inl e
fault_of_form form bytes (Ok m) d e =
    let g = cond_err (is_bad form bytes m) m BadTail d e in
    let b = both_true (eqb m (greatest_of form)) (is_allowed form (get_or bytes (m - 1) 0)) g.0 in
    inr (sym g.1, m, refl, eqb-true m (greatest_of form) b.0, b.1)

form_short : (form : Form) (bytes : List ℕ) → (end_of form bytes ≡ Err Short) ↔ IsShort form bytes
unfolding end_of
form_short form bytes = (
  λ e. elim (fault_of_form form bytes (end_within (greatest_of form) bytes) Short e) [
    | inl is ↦ let h = short_found (greatest_of form) bytes is in record { ended = h.0; high = h.1 }
    | inr bad ↦ let wrong = bad.0 in absurd cc
  ],
  λ h. form_fault form bytes Short (short_again (greatest_of form) bytes h.ended h.high),
)

form_long : (form : Form) (bytes : List ℕ) → (end_of form bytes ≡ Err Long) ↔ IsLong form bytes
unfolding end_of
form_long form bytes = (
  λ e. elim (fault_of_form form bytes (end_within (greatest_of form) bytes) Long e) [
    | inl is ↦ let h = long_found (greatest_of form) bytes is in record { reaches = h.0; high = h.1 }
    | inr bad ↦ let wrong = bad.0 in absurd cc
  ],
  λ h. form_fault form bytes Long (long_again (greatest_of form) bytes h.reaches h.high),
)

greatest_pos : (form : Form) → 0 < greatest_of form
greatest_pos U32 = omega arith
greatest_pos S32 = omega arith
greatest_pos S33 = omega arith
greatest_pos S64 = omega arith

form_bad_tail : (form : Form) (bytes : List ℕ) → (end_of form bytes ≡ Err BadTail) ↔ IsBadTail form bytes
unfolding end_of
form_bad_tail form bytes = (
  λ e. elim (fault_of_form form bytes (end_within (greatest_of form) bytes) BadTail e) [
    | inl is ↦ absurd (never_bad_tail (greatest_of form) bytes is)
    | inr bad ↦
        let ends : Ends (greatest_of form) bytes bad.1 = end_found (greatest_of form) bytes bad.1 bad.2 in
        let full = bad.3 in
        record { reaches = omega (arith, ends.held); ends = rw (← full) ends.once; tail = rw (← full) bad.4 }
  ],
  λ h.
      let g = greatest_of form in
      let len : length (take g bytes) ≡ g = omega (arith, length-take g bytes, h.reaches) in
      let parts : take g bytes ++ drop g bytes ≡ bytes = take-append-drop g bytes in
      let end : end_within g bytes ≡ Ok g = rw parts at (rw len at (end_again g (take g bytes) (drop g bytes) h.ends (omega (arith, len)))) in
      let bad : is_bad form bytes g ≡ true = rw (h.tail, eq-eqb g g refl) refl in
      rw (end, bad) refl,
)

-- ---- a number

ok_found : {A : Type 0} {x y : A} → (let r : Result A LebFault = Ok x in r ≡ Ok y) → x ≡ y
ok_found e = cc

valued_ok : {N : Type 0} (value : List ℕ → N) (bytes : List ℕ) (r : Result ℕ LebFault) (found : N × ℕ) → valued value bytes r ≡ Ok found → (r ≡ Ok found.1) × (found.0 ≡ value (take found.1 bytes))
valued_ok value bytes (Err d) found e = absurd cc
valued_ok value bytes (Ok n) found e =
    let both : (value (take n bytes), n) ≡ found = ok_found e in
    rw (← both) (refl, refl)

pub number_found : {N : Type 0} (value : List ℕ → N) (form : Form) (bytes : List ℕ) (r : Result (N × ℕ) LebFault) → r ≡ number_at value form bytes → IfOk r (IsAtFront value form bytes)
unfolding number_at end_of
number_found value form bytes (Err d) is = tt
number_found value form bytes (Ok found) is =
    let v = valued_ok value bytes (end_of form bytes) found (sym is) in
    let f = form_found form bytes (end_within (greatest_of form) bytes) found.1 refl v.0 in
    record { held = f.0; spells = record { spelled = f.1; value_is = v.1 } }

pub number_again : {N : Type 0} (value : List ℕ → N) (form : Form) (bytes : List ℕ) (r : Result (N × ℕ) LebFault) → r ≡ number_at value form bytes
    → (spelling rest : List ℕ) (n : N) → Spells value form spelling n → bytes ≡ spelling ++ rest → r ≡ Ok (n, length spelling)
unfolding number_at
number_again value form bytes r is spelling rest n spells parts =
    is ∙ rw (parts, form_again form spelling rest spells.spelled, take_at spelling rest (length spelling) refl, spells.value_is) refl

valued_err : {N : Type 0} (value : List ℕ → N) (bytes : List ℕ) (r : Result ℕ LebFault) (d : LebFault) → (valued value bytes r ≡ Err d) ↔ (r ≡ Err d)
valued_err value bytes (Ok n) d = (λ e. absurd cc, λ e. absurd cc)
valued_err value bytes (Err x) d = (λ e. cc, λ e. cc)

through : {N : Type 0} (value : List ℕ → N) (form : Form) (bytes : List ℕ) (r : Result (N × ℕ) LebFault) (d : LebFault) (P : Type 0) → r ≡ number_at value form bytes → (end_of form bytes ≡ Err d) ↔ P → (r ≡ Err d) ↔ P
unfolding number_at
through value form bytes r d P is h =
    let v = valued_err value bytes (end_of form bytes) d in
    (λ e. h.0 (v.0 (sym is ∙ e)), λ p. is ∙ v.1 (h.1 p))

pub number_short : {N : Type 0} (value : List ℕ → N) (form : Form) (bytes : List ℕ) (r : Result (N × ℕ) LebFault) → r ≡ number_at value form bytes → (r ≡ Err Short) ↔ IsShort form bytes
number_short value form bytes r is = through value form bytes r Short (IsShort form bytes) is (form_short form bytes)

pub number_long : {N : Type 0} (value : List ℕ → N) (form : Form) (bytes : List ℕ) (r : Result (N × ℕ) LebFault) → r ≡ number_at value form bytes → (r ≡ Err Long) ↔ IsLong form bytes
number_long value form bytes r is = through value form bytes r Long (IsLong form bytes) is (form_long form bytes)

pub number_bad_tail : {N : Type 0} (value : List ℕ → N) (form : Form) (bytes : List ℕ) (r : Result (N × ℕ) LebFault) → r ≡ number_at value form bytes → (r ≡ Err BadTail) ↔ IsBadTail form bytes
number_bad_tail value form bytes r is = through value form bytes r BadTail (IsBadTail form bytes) is (form_bad_tail form bytes)

-- what is spelled is read, whatever follows
pub number_read : {N : Type 0} (value : List ℕ → N) (form : Form) (bytes rest : List ℕ) (n : N) → Spells value form bytes n → number_at value form (bytes ++ rest) ≡ Ok (n, length bytes)
number_read value form bytes rest n spells = number_again value form (bytes ++ rest) (number_at value form (bytes ++ rest)) refl bytes rest n spells refl

-- no spelling has two values, and none begins another
pub no_other : {N : Type 0} (value : List ℕ → N) (form : Form) (a b r q : List ℕ) (n m : N) → Spells value form a n → Spells value form b m → a ++ r ≡ b ++ q → (a ≡ b) × (n ≡ m)
no_other {N} value form a b r q n m first second same =
    let one = number_read value form a r n first in
    let two = number_again value form (a ++ r) (number_at value form (a ++ r)) refl b q m second same in
    let x : N × ℕ = (n, length a) in
    let y : N × ℕ = (m, length b) in
    let both : x ≡ y = ok_found (sym one ∙ two) in
    let long : length a ≡ length b = ap (λ p. p.1) both in
    let front : take (length a) (a ++ r) ≡ take (length b) (b ++ q) = rw (long, same) refl in
    (sym (take_at a r (length a) refl) ∙ front ∙ take_at b q (length b) refl, ap (λ p. p.0) both)

-- ---- another value at the same place

pub number_as : {N M : Type 0} (one : List ℕ → N) (other : List ℕ → M) (form : Form) (bytes : List ℕ) (n : N) (used : ℕ) (m : M)
    → (let r : Result (N × ℕ) LebFault = Ok (n, used) in r ≡ number_at one form bytes) → (n ≡ one (take used bytes) → m ≡ other (take used bytes))
    → (let r : Result (M × ℕ) LebFault = Ok (m, used) in r ≡ number_at other form bytes)
unfolding number_at
number_as {N} one other form bytes n used m is same =
    let found : N × ℕ = (n, used) in
    let v = valued_ok one bytes (end_of form bytes) found (sym is) in
    rw (v.0, same v.1) refl

pub fault_as : {N M : Type 0} (one : List ℕ → N) (other : List ℕ → M) (form : Form) (bytes : List ℕ) (fault : LebFault)
    → (let r : Result (N × ℕ) LebFault = Err fault in r ≡ number_at one form bytes) → (let r : Result (M × ℕ) LebFault = Err fault in r ≡ number_at other form bytes)
unfolding number_at
fault_as one other form bytes fault is = rw ((valued_err one bytes (end_of form bytes) fault).0 (sym is)) refl

-- a number of one byte
pub one_byte : {N : Type 0} (value : List ℕ → N) (form : Form) (bytes : List ℕ) (n : N) → 0 < length bytes → get_or bytes 0 0 < 128 → n ≡ value (get_or bytes 0 0 ∷ [])
    → (let r : Result (N × ℕ) LebFault = Ok (n, 1) in r ≡ number_at value form bytes)
unfolding number_at end_of end_within
one_byte value form [] n some low is = absurd (omega arith)
one_byte value U32 (b ∷ bytes) n some low is = rw (lt-ltb b 128 low, is) refl
one_byte value S32 (b ∷ bytes) n some low is = rw (lt-ltb b 128 low, is) refl
one_byte value S33 (b ∷ bytes) n some low is = rw (lt-ltb b 128 low, is) refl
one_byte value S64 (b ∷ bytes) n some low is = rw (lt-ltb b 128 low, is) refl
