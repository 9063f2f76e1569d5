-- One debug section more, by the number of its name.
use Rattle.std.proofs.Common.{◌≡◌, ℕ, ◌<◌, ◌+◌, ◌==◌, List, [], ◌∷◌, ◌++◌, Bool, true, false, cond, refl, sym, ap, ◌∙◌, arith, length, map, filter, sum_by, Option, Some, None, get_or, slice_index_or, slice_set, set}
use Rattle.std.specs.Str.{bytes_eq}
use Rattle.std.proofs.lemmas.Bool.Decides.{nat_tests}
use Rattle.std.proofs.lemmas.List.{map-append, get_or-set_same, get_or-set_other}
use Rattle.std.proofs.lemmas.List.Elements.{filter-append}
use Rattle.std.proofs.lemmas.List.Sums.{sum_by-append}
use Rattle.wl_base.specs.Names.{number_of}
use Rattle.debug_rules.specs.Faults.{Debug}
use Rattle.debug_rules.specs.Joined.{is_named, length_of, own_length}
use Rattle.debug_out.specs.declared.refs.DebugRef.{DebugRef}
use Rattle.debug_out.specs.Refs.{debug_seen}
use Rattle.debug_out.specs.Grouped.{HasMembers, HasLengths}
use Rattle.debug_out.proofs.Names.{same_number}

-- what is set is read where it was set, and nowhere else
read_set : {A : Type 0} (xs : List A) (m n : ℕ) (x d : A) → m < length xs → get_or (set xs m x) n d ≡ cond (m == n) x (get_or xs n d)
read_set xs m n x d lt = by (m == n) refl
  where
    by : (b : Bool) → (m == n) ≡ b → get_or (set xs m x) n d ≡ cond b x (get_or xs n d)
    by true e = let mn : m ≡ n = grind (arith, nat_tests) in ap (λ k. get_or (set xs m x) k d) (sym mn) ∙ get_or-set_same xs m x d lt
    by false e = get_or-set_other xs m n x d (λ nm. absurd (grind (arith, nat_tests)))

nil_behind : {A : Type 0} (xs : List A) → xs ++ [] ≡ xs
nil_behind [] = refl
nil_behind (x ∷ xs) = ap (λ ys. x ∷ ys) (nil_behind xs)

one_kept : (p : Debug → Bool) (ds : List Debug) (d : Debug) → filter p (ds ++ d ∷ []) ≡ filter p ds ++ cond (p d) (d ∷ []) []
one_kept p ds d = filter-append p ds (d ∷ [])

pub members_more : (names : List (List ℕ)) (members : List (List DebugRef)) (ds : List Debug) (r : DebugRef) (m : ℕ)
    → number_of names r.name.now ≡ Some m → m < length members → HasMembers names members ds
    → HasMembers names (slice_set members m (slice_index_or members m [] ++ r ∷ [])) (ds ++ debug_seen r ∷ [])
members_more names members ds r m at lt has n name is =
    by (m == n) refl (same_number names r.name.now name m n at is)
  where
    kept : (b : Bool) → bytes_eq r.name.now name ≡ b → filter (is_named name) (ds ++ debug_seen r ∷ []) ≡ filter (is_named name) ds ++ cond b (debug_seen r ∷ []) []
    kept b same = one_kept (is_named name) ds (debug_seen r) ∙ ap (λ c. filter (is_named name) ds ++ cond c (debug_seen r ∷ []) []) same

    by : (b : Bool) → (m == n) ≡ b → bytes_eq r.name.now name ≡ (m == n)
        → map debug_seen (get_or (set members m (get_or members m [] ++ r ∷ [])) n []) ≡ filter (is_named name) (ds ++ debug_seen r ∷ [])
    by true e same =
        let mn : m ≡ n = grind (arith, nat_tests) in
        let read = read_set members m n (get_or members m [] ++ r ∷ []) [] lt ∙ ap (λ b. cond b (get_or members m [] ++ r ∷ []) (get_or members n [])) e in
        ap (map debug_seen) read
        ∙ (map-append debug_seen (get_or members m []) (r ∷ [])
        ∙ (ap (λ xs. xs ++ debug_seen r ∷ []) (ap (λ k. map debug_seen (get_or members k [])) mn ∙ has n name is)
        ∙ sym (kept true (same ∙ e))))
    by false e same =
        let read = read_set members m n (get_or members m [] ++ r ∷ []) [] lt ∙ ap (λ b. cond b (get_or members m [] ++ r ∷ []) (get_or members n [])) e in
        ap (map debug_seen) read ∙ (has n name is ∙ (sym (nil_behind (filter (is_named name) ds)) ∙ sym (kept false (same ∙ e))))

pub lengths_more : (names : List (List ℕ)) (lengths : List ℕ) (ds : List Debug) (d : Debug) (m : ℕ)
    → number_of names d.section.name ≡ Some m → m < length lengths → HasLengths names lengths ds
    → HasLengths names (slice_set lengths m (slice_index_or lengths m 0 + length d.section.content)) (ds ++ d ∷ [])
lengths_more names lengths ds d m at lt has n name is =
    by (m == n) refl (same_number names d.section.name name m n at is)
  where
    sums : (b : Bool) → bytes_eq d.section.name name ≡ b → length_of name (ds ++ d ∷ []) ≡ length_of name ds + sum_by own_length (cond b (d ∷ []) [])
    sums b same =
        ap (sum_by own_length) (one_kept (is_named name) ds d ∙ ap (λ c. filter (is_named name) ds ++ cond c (d ∷ []) []) same)
        ∙ sum_by-append own_length (filter (is_named name) ds) (cond b (d ∷ []) [])

    by : (b : Bool) → (m == n) ≡ b → bytes_eq d.section.name name ≡ (m == n)
        → get_or (set lengths m (get_or lengths m 0 + length d.section.content)) n 0 ≡ length_of name (ds ++ d ∷ [])
    by true e same =
        let mn : m ≡ n = grind (arith, nat_tests) in
        let read = read_set lengths m n (get_or lengths m 0 + length d.section.content) 0 lt ∙ ap (λ b. cond b (get_or lengths m 0 + length d.section.content) (get_or lengths n 0)) e in
        let here = ap (λ k. get_or lengths k 0) mn ∙ has n name is in
        omega (arith, read, here, sums true (same ∙ e))
    by false e same =
        let read = read_set lengths m n (get_or lengths m 0 + length d.section.content) 0 lt ∙ ap (λ b. cond b (get_or lengths m 0 + length d.section.content) (get_or lengths n 0)) e in
        let here = has n name is in
        omega (arith, read, here, sums false (same ∙ e))
