-- The roots of two programs that are one but for places: they are moved, and there are no others.
use Rattle.std.proofs.Common.{◌≡◌, ◌⊎◌, inl, inr, ℕ, zero, suc, ◌==◌, ◌&&◌, Bool, true, false, not, cond, List, [], ◌∷◌, ◌++◌, map, filter, refl, sym, ap, subst, ◌∙◌}
use Rattle.std.specs.Prelude.{Option, Some, None, option_map, filter_map, All, if◌then◌else◌}
use Rattle.std.specs.List.{cons_option}
use Rattle.object_file.specs.linking_section.Flags.{has_bit}
use Rattle.made_symbols.specs.declared.mode.Mode.TheVariants.{Plain}
use Rattle.name_rules.specs.Entries.{InputSymbol}
use Rattle.mark_bits.specs.declared.chunk.Chunk.{Chunk}
use Rattle.link_rules.specs.Program.{Program, Part, chunk_of}
use Rattle.link_rules.specs.Marks.{exported, is_no_strip_winner, is_retained, is_object_part, table_of}
use Rattle.partial_rules.specs.Moving.{Moving, IsMoving, AlikePart, AlikeParts}
use Rattle.partial_rules.specs.Alike.{AlikeWords, AlikeWinners, At, In, OnePlace}
use Rattle.partial_rules.proofs.Lists.{filter_moved, filter_all}
use Rattle.partial_rules.proofs.AlikeLive.{at_map, of_map}
use Rattle.partial_rules.proofs.AlikeReach.{AlikeRoots, counterpart, original, in_filter, of_filter, all_at}
use Rattle.partial_rules.proofs.AlikeExports.{exports_are, exports_held}

-- ---- what stands in two lists one behind the other

at_left : {A : Type 0} (x : A) (xs ys : List A) (i : ℕ) → At xs i x → At (xs ++ ys) i x
at_left x [] ys i at = absurd at
at_left x (z ∷ zs) ys zero at = at
at_left x (z ∷ zs) ys (suc i) at = at_left x zs ys i at

in_left : {A : Type 0} (x : A) (xs ys : List A) → In x xs → In x (xs ++ ys)
in_left x xs ys found = (found.0, at_left x xs ys found.0 found.1)

in_right : {A : Type 0} (x : A) (xs ys : List A) → In x ys → In x (xs ++ ys)
in_right x [] ys found = found
in_right x (z ∷ zs) ys found = let rest = in_right x zs ys found in (suc rest.0, rest.1)

in_either : {A : Type 0} (x : A) (xs ys : List A) (i : ℕ) → At (xs ++ ys) i x → In x xs ⊎ In x ys
in_either x [] ys i at = inr (i, at)
in_either x (z ∷ zs) ys zero at = inl (0, at)
in_either x (z ∷ zs) ys (suc i) at = elim (in_either x zs ys i at) [ inl found ↦ inl (suc found.0, found.1) | inr found ↦ inr found ]

of_filter_map : {A B : Type 0} (f : A → Option B) (xs : List A) (i : ℕ) (b : B) → At (filter_map f xs) i b → (x : A) × In x xs × (f x ≡ Some b)
of_filter_map f [] i b at = absurd at
of_filter_map {A} {B} f (x ∷ xs) i b at = by_head (f x) refl i at (of_filter_map f xs)
  where
    Found : Type 0
    Found = (y : A) × In y (x ∷ xs) × (f y ≡ Some b)

    later : (y : A) × In y xs × (f y ≡ Some b) → Found
    later found = (found.0, (suc found.1.0, found.1.1), found.2)

    by_head : (o : Option B) → f x ≡ o → (k : ℕ) → At (cons_option o (filter_map f xs)) k b → ((j : ℕ) (c : B) → At (filter_map f xs) j c → (y : A) × In y xs × (f y ≡ Some c)) → Found
    by_head None is k at again = later (again k b at)
    by_head (Some c) is zero at again = (x, (0, refl), is ∙ ap Some at)
    by_head (Some c) is (suc k) at again = later (again k b at)

to_filter_map : {A B : Type 0} (f : A → Option B) (xs : List A) (i : ℕ) (x : A) (b : B) → At xs i x → f x ≡ Some b → In b (filter_map f xs)
to_filter_map f [] i x b at is = absurd at
to_filter_map f (y ∷ ys) zero x b at is = let e : f y ≡ Some b = ap f at ∙ is in rw e (0, refl)
to_filter_map {A} {B} f (y ∷ ys) (suc i) x b at is = by_head (f y) (to_filter_map f ys i x b at is)
  where
    by_head : (o : Option B) → In b (filter_map f ys) → In b (cons_option o (filter_map f ys))
    by_head None found = found
    by_head (Some c) found = (suc found.0, found.1)

filter_test : {A : Type 0} (t : A → Bool) (xs : List A) (i : ℕ) (x : A) → At (filter t xs) i x → t x ≡ true
filter_test t [] i x at = absurd at
filter_test {A} t (y ∷ ys) i x at = by_test (t y) refl i at (filter_test t ys)
  where
    by_test : (r : Bool) → t y ≡ r → (k : ℕ) → At (cond r (y ∷ filter t ys) (filter t ys)) k x → ((j : ℕ) (z : A) → At (filter t ys) j z → t z ≡ true) → t x ≡ true
    by_test true is zero at again = ap t (sym at) ∙ is
    by_test true is (suc k) at again = again k x at
    by_test false is k at again = again k x at

module _ (m : Moving) (C : Chunk → Type 0) (K : InputSymbol → Type 0) (is : IsMoving m C K) (p q : Program) (alike : AlikeParts m C K p q p.parts q.parts)
    (one_p : OnePlace (table_of p)) (one_q : OnePlace (table_of q)) (there : (c : Chunk) → C c → In c (table_of p)) where
  -- Two lists of chunks, the second of which has the moved ones of the first and no others.
  pub record AlikeChunks (cs ds : List Chunk) : Type 0 where
    pub held : (c : Chunk) → In c cs → C c
    pub moved : (c : Chunk) → In c cs → In (m.chunk c) ds
    pub from : (d : Chunk) → In d ds → (c : Chunk) × In c cs × (d ≡ m.chunk c)

  both : (as' bs cs ds : List Chunk) → AlikeChunks as' bs → AlikeChunks cs ds → AlikeChunks (as' ++ cs) (bs ++ ds)
  both as' bs cs ds a c = record {
    held = λ x found. elim (in_either x as' cs found.0 found.1) [ inl mine ↦ a.held x mine | inr mine ↦ c.held x mine ];
    moved = λ x found. elim (in_either x as' cs found.0 found.1) [ inl mine ↦ in_left (m.chunk x) bs ds (a.moved x mine) | inr mine ↦ in_right (m.chunk x) bs ds (c.moved x mine) ];
    from = λ y found. elim (in_either y bs ds found.0 found.1) [
      | inl mine ↦ (let f = a.from y mine in (f.0, in_left f.0 as' cs f.1, f.2))
      | inr mine ↦ (let f = c.from y mine in (f.0, in_right f.0 as' cs f.1, f.2))
    ];
  }

  none : AlikeChunks [] []
  none = record { held = λ c found. absurd found.1; moved = λ c found. absurd found.1; from = λ d found. absurd found.1 }

  -- of definitions and the moved ones
  of_entries : (es fs : List InputSymbol) → fs ≡ map m.entry es → All K es → AlikeChunks (filter_map chunk_of es) (filter_map chunk_of fs)
  of_entries es fs are held = record {
    held = λ c found. let e = of_filter_map chunk_of es found.0 c found.1 in is.entry_held e.0 c (all_at K es e.1.0 e.0 held e.1.1) e.2;
    moved = λ c found.
        let e = of_filter_map chunk_of es found.0 c found.1 in
        let k : K e.0 = all_at K es e.1.0 e.0 held e.1.1 in
        subst (λ gs. In (m.chunk c) (filter_map chunk_of gs)) (sym are)
        (to_filter_map chunk_of (map m.entry es) e.1.0 (m.entry e.0) (m.chunk c) (at_map m.entry es e.1.0 e.0 e.1.1) (is.entry_chunk e.0 k ∙ ap (option_map m.chunk) e.2));
    from = λ d found.
        let f = of_filter_map chunk_of (map m.entry es) found.0 d (subst (λ gs. At (filter_map chunk_of gs) found.0 d) are found.1) in
        let e = of_map m.entry es f.1.0 f.0 f.1.1 in
        let k : K e.0 = all_at K es f.1.0 e.0 held e.1 in
        by_chunk e.0 f.1.0 e.1 k (chunk_of e.0) refl (sym (is.entry_chunk e.0 k) ∙ (ap chunk_of e.2 ∙ f.2));
  }
    where
      same_some : (a b : Chunk) → (let o : Option Chunk = Some a in o ≡ Some b) → a ≡ b
      same_some a b e = cc

      by_chunk : {d : Chunk} (e : InputSymbol) (i : ℕ) → At es i e → K e → (o : Option Chunk) → chunk_of e ≡ o → option_map m.chunk (chunk_of e) ≡ Some d → (c : Chunk) × In c (filter_map chunk_of es) × (d ≡ m.chunk c)
      by_chunk {d} e i at k None absent some = absurd (let f : None ≡ Some d = ap (option_map m.chunk) (sym absent) ∙ some in cc)
      by_chunk {d} e i at k (Some c) given_one some = (c, to_filter_map chunk_of es i e c at given_one, sym (same_some (m.chunk c) d (ap (option_map m.chunk) (sym given_one) ∙ some)))

  -- of parts that a test alike picks
  of_parts : (t : Part → Bool) → ((x y : Part) → AlikePart m C K p q x y → t y ≡ t x) → AlikeChunks (map (λ part. part.chunk) (filter t p.parts)) (map (λ part. part.chunk) (filter t q.parts))
  of_parts t same = record {
    held = λ c found.
        let x = of_map (λ part. part.chunk) (filter t p.parts) found.0 c found.1 in
        let mine = of_filter t p.parts found.0 x.0 x.1 in
        let y = counterpart m C K is p q alike one_p one_q there mine.0 x.0 mine.1 in
        subst C x.2 y.1.held;
    moved = λ c found.
        let x = of_map (λ part. part.chunk) (filter t p.parts) found.0 c found.1 in
        let mine = of_filter t p.parts found.0 x.0 x.1 in
        let y = counterpart m C K is p q alike one_p one_q there mine.0 x.0 mine.1 in
        let passes : t y.0 ≡ true = same x.0 y.0 y.1 ∙ filter_test t p.parts found.0 x.0 x.1 in
        let other = in_filter t q.parts y.2.0 y.0 y.2.1 passes in
        (other.0, subst (At (map (λ part. part.chunk) (filter t q.parts)) other.0) (y.1.chunk ∙ ap m.chunk x.2) (at_map (λ part. part.chunk) (filter t q.parts) other.0 y.0 other.1));
    from = λ d found.
        let y = of_map (λ part. part.chunk) (filter t q.parts) found.0 d found.1 in
        let mine = of_filter t q.parts found.0 y.0 y.1 in
        let x = original m C K is p q alike one_p one_q there mine.0 y.0 mine.1 in
        let passes : t x.0 ≡ true = sym (same x.0 y.0 x.1) ∙ filter_test t q.parts found.0 y.0 y.1 in
        let other = in_filter t p.parts x.2.0 x.0 x.2.1 passes in
        (x.0.chunk, (other.0, at_map (λ part. part.chunk) (filter t p.parts) other.0 x.0 other.1), sym y.2 ∙ x.1.chunk);
  }

  no_strip_alike : (e : InputSymbol) → K e → is_no_strip_winner (m.entry e) ≡ is_no_strip_winner e
  no_strip_alike e k = λ i. not (is.entry_made e k i) && has_bit 0x80 (is.entry_flags e k i)

  object_alike : (x y : Part) → AlikePart m C K p q x y → is_object_part y ≡ is_object_part x
  object_alike x y a = ap (λ (c : Chunk). not (c.input == 0)) a.chunk ∙ ap not (is.chunk_made x.chunk a.held)

  by_gc : (gc : Bool) → AlikeChunks (if gc then [] else map (λ part. part.chunk) (filter is_object_part p.parts)) (if gc then [] else map (λ part. part.chunk) (filter is_object_part q.parts))
  by_gc true = none
  by_gc false = of_parts is_object_part object_alike

  pub roots_alike : AlikeWords p q → AlikeWinners m K p q → q.plan.gc ≡ p.plan.gc → AlikeRoots m C K is p q alike one_p one_q there (exported Plain p) (exported Plain q)
  roots_alike words winners gc =
      let first = of_entries (exported Plain p) (exported Plain q) (exports_are m C K is p q words winners) (exports_held m C K is p q words winners) in
      let strip : filter is_no_strip_winner q.winners ≡ map m.entry (filter is_no_strip_winner p.winners) =
      ap (filter is_no_strip_winner) winners.are ∙ filter_moved m.entry is_no_strip_winner is_no_strip_winner K no_strip_alike p.winners winners.held in
      let second = of_entries (filter is_no_strip_winner p.winners) (filter is_no_strip_winner q.winners) strip (filter_all K is_no_strip_winner p.winners winners.held) in
      let third = of_parts (λ part. is_retained part.content) (λ x y a. a.content.retained) in
      let fourth = subst (λ g. AlikeChunks (if p.plan.gc then [] else map (λ part. part.chunk) (filter is_object_part p.parts)) (if g then [] else map (λ part. part.chunk) (filter is_object_part q.parts))) (sym gc) (by_gc p.plan.gc) in
      let a : List Chunk = filter_map chunk_of (exported Plain p) in
      let b : List Chunk = filter_map chunk_of (filter is_no_strip_winner p.winners) in
      let c : List Chunk = map (λ part. part.chunk) (filter (λ part. is_retained part.content) p.parts) in
      let d : List Chunk = if p.plan.gc then [] else map (λ part. part.chunk) (filter is_object_part p.parts) in
      let a' : List Chunk = filter_map chunk_of (exported Plain q) in
      let b' : List Chunk = filter_map chunk_of (filter is_no_strip_winner q.winners) in
      let c' : List Chunk = map (λ part. part.chunk) (filter (λ part. is_retained part.content) q.parts) in
      let d' : List Chunk = if q.plan.gc then [] else map (λ part. part.chunk) (filter is_object_part q.parts) in
      let all : AlikeChunks (a ++ b ++ c ++ d) (a' ++ b' ++ c' ++ d') = both (a ++ b ++ c) (a' ++ b' ++ c') d d' (both (a ++ b) (a' ++ b') c c' (both a a' b b' first second) third) fourth in
      record { held = all.held; moved = all.moved; from = all.from }
