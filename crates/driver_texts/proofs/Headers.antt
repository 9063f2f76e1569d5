-- A thin library's headers, one after another.
use Rattle.std.proofs.Common.{◌≡◌, ◌≤◌, ◌<◌, ◌+◌, ◌-◌, ◌++◌, ℕ, suc, Bool, List, [], length, drop, if◌then◌else◌, sym, ap, ◌∙◌, arith, le-ltb, append_assoc, append-nil}
use Rattle.driver_texts.specs.Thin.{members_from, members_of, names_here, name_in, longs_after, taken}

-- nothing is read yet
pub begins : (text : List ℕ) (names : List (List ℕ)) (longs left : List ℕ) → names ≡ [] → longs ≡ [] → left ≡ drop 8 text → names ++ members_from (length text - 0) longs left ≡ members_of text
begins text names longs left none no_longs is =
    let all : length text - 0 ≡ length text = omega arith in
    ap (λ (ns : List (List ℕ)). ns ++ members_from (length text - 0) longs left) none
    ∙ ap (λ (n : ℕ). members_from n longs left) all
    ∙ ap (λ (bytes : List ℕ). members_from (length text) bytes left) no_longs
    ∙ ap (λ (bytes : List ℕ). members_from (length text) [] bytes) is

one_header : (n : ℕ) (longs left : List ℕ) → 60 ≤ length left → members_from (suc n) longs left ≡ names_here longs (name_in left) ++ members_from n (longs_after longs left) (drop (taken left) left)
one_header n longs left room =
    ap (λ (short : Bool). if short then [] else names_here longs (name_in left) ++ members_from n (longs_after longs left) (drop (taken left) left)) (le-ltb (length left) 60 room)

-- a header is read
pub goes_on : (n k : ℕ) (names new : List (List ℕ)) (longs left name later rest : List ℕ) (all : List (List ℕ)) → k < n → 60 ≤ length left
    → name ≡ name_in left → new ≡ names ++ names_here longs name → later ≡ longs_after longs left → rest ≡ drop (taken left) left
    → names ++ members_from (n - k) longs left ≡ all → new ++ members_from (n - (k + 1)) later rest ≡ all
goes_on n k names new longs left name later rest all below room called put longs_are left_is so_far =
    let m = n - (k + 1) in
    let here = names_here longs (name_in left) in
    let next = members_from m (longs_after longs left) (drop (taken left) left) in
    let d : n - k ≡ suc m = omega (arith, below) in
    let one : members_from (n - k) longs left ≡ here ++ next = ap (λ (i : ℕ). members_from i longs left) d ∙ one_header m longs left room in
    let added : new ≡ names ++ here = put ∙ ap (λ (bytes : List ℕ). names ++ names_here longs bytes) called in
    ap (λ (ns : List (List ℕ)). ns ++ members_from m later rest) added
    ∙ ap (λ (bytes : List ℕ). (names ++ here) ++ members_from m bytes rest) longs_are
    ∙ ap (λ (bytes : List ℕ). (names ++ here) ++ members_from m (longs_after longs left) bytes) left_is
    ∙ append_assoc names here next ∙ ap (λ (more : List (List ℕ)). names ++ more) (sym one) ∙ so_far

-- as many headers were read as there may be
pub is_done : (n k : ℕ) (names : List (List ℕ)) (longs left : List ℕ) (all : List (List ℕ)) → n ≤ k → names ++ members_from (n - k) longs left ≡ all → names ≡ all
is_done n k names longs left all past so_far =
    let d : n - k ≡ 0 = omega (arith, past) in
    sym (append-nil names) ∙ sym (ap (λ (i : ℕ). names ++ members_from i longs left) d) ∙ so_far
