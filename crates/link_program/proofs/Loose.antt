-- What loosening a part does: its references are loosened, one by one, and each is either as it was or that of a variant, which is null.
use Rattle.std.proofs.Common.{◌≡◌, ℕ, zero, suc, ◌+◌, ◌≤◌, ◌==◌, ◌&&◌, not, Bool, true, false, cond, List, [], ◌∷◌, ◌++◌, map, slice_get, Some, All, refl, sym, ap, subst, ◌∙◌, inl, inr, ◌⊎◌}
use Rattle.std.specs.Prelude.{filter_map, is_some}
use Rattle.std.proofs.lemmas.List.Elements.{All-cons, All-nil, All-head, All-tail}
use Rattle.name_meanings.specs.name_entries.linking_section.Flags.{is_local_definition}
use Rattle.name_meanings.specs.name_entries.name_rules.Entries.{InputSymbol, is_entry, name_of}
use Rattle.name_meanings.specs.name_entries.name_rules.Cases.{passes, judge, mismatches}
use Rattle.name_meanings.specs.name_entries.name_rules.Meanings.{Meaning, here, imported, null, nothing}
use Rattle.name_meanings.specs.name_entries.name_rules.Meanings.{Resolved}
use Rattle.link_rules.specs.Program.{Program, Ref, Named, a_symbol, a_type, Part, named_ref, refs, is_mismatch, variant, variants_among, variants_of, loose_ref, loose_named, loose_part, loose_parts, loose_variants, loosened}
use Rattle.link_program.specs.Stand.{NamedStand, named_place, named_size, IsSymbolOf, IsRefOf, PartStandsBy, PartStands}

module _ (all : List InputSymbol) where
  -- A call by another type, which means a definition.
  pub record IsLoosened (ref : Ref) : Type 0 where
    pub calls : (ref.kind == 0) ≡ true
    pub differs : is_mismatch all ref.entry ref.meaning ≡ true
    pub is : loose_ref all ref ≡ record ref { entry = variant ref.entry; meaning = null }

  pub and_both : (a b : Bool) → (a && b) ≡ true → (a ≡ true) × (b ≡ true)
  and_both true true h = (refl, refl)
  and_both true false h = absurd cc
  and_both false b h = absurd cc

  pub loosened_or_not : (ref : Ref) → IsLoosened ref ⊎ (loose_ref all ref ≡ ref)
  loosened_or_not ref = by ((ref.kind == 0) && is_mismatch all ref.entry ref.meaning) refl
    where
      changed : Ref
      changed = record ref { entry = variant ref.entry; meaning = null }

      by : (b : Bool) → ((ref.kind == 0) && is_mismatch all ref.entry ref.meaning) ≡ b → IsLoosened ref ⊎ (loose_ref all ref ≡ ref)
      by true is =
          let both = and_both (ref.kind == 0) (is_mismatch all ref.entry ref.meaning) is in
          inl (record { calls = both.0; differs = both.1; is = ap (λ b. cond b changed ref) is })
      by false is = inr (ap (λ b. cond b changed ref) is)

  -- What is called by another type has a definition.
  pub mismatch_here : (e : InputSymbol) (m : Meaning) → is_mismatch all e m ≡ true → (d : InputSymbol) × (m ≡ here d)
  mismatch_here e (here d) is = (d, refl)
  mismatch_here e (imported k) is = absurd cc
  mismatch_here e null is = absurd cc
  mismatch_here e nothing is = absurd cc

  pub named_loose : (ns : List Named) → filter_map named_ref (map (loose_named all) ns) ≡ map (loose_ref all) (filter_map named_ref ns)
  named_loose [] = refl
  named_loose (a_symbol ref ∷ ns) = ap (λ rs. loose_ref all ref ∷ rs) (named_loose ns)
  named_loose (a_type w ∷ ns) = named_loose ns

  pub refs_loose : (part : Part) → refs (loose_part all part) ≡ map (loose_ref all) (refs part)
  refs_loose part = named_loose part.named

  -- ---- variants

  get_left : {A : Type 0} (xs ys : List A) (k : ℕ) (v : A) → slice_get xs k ≡ Some v → slice_get (xs ++ ys) k ≡ Some v
  get_left [] ys k v at = absurd cc
  get_left (x ∷ xs) ys zero v at = at
  get_left (x ∷ xs) ys (suc k) v at = get_left xs ys k v at

  get_right : {A : Type 0} (xs ys : List A) (k : ℕ) (v : A) → slice_get ys k ≡ Some v → (j : ℕ) × (slice_get (xs ++ ys) j ≡ Some v)
  get_right [] ys k v at = (k, at)
  get_right (x ∷ xs) ys k v at = let r = get_right xs ys k v at in (suc r.0, r.1)

  variant_at : (es : List InputSymbol) (ms : List Meaning) (s : ℕ) (e : InputSymbol) (m : Meaning) → slice_get es s ≡ Some e → slice_get ms s ≡ Some m → is_mismatch all e m ≡ true
      → (k : ℕ) × (slice_get (variants_among all es ms) k ≡ Some (variant e))
  variant_at [] ms s e m a b d = absurd cc
  variant_at (x ∷ xs) [] s e m a b d = absurd cc
  variant_at (x ∷ xs) (y ∷ ys) zero e m a b d =
      let same : x ≡ e = cc in
      let means : y ≡ m = cc in
      let rest = variants_among all xs ys in
      (0, ap (λ r. slice_get (cond r (variant x ∷ rest) rest) 0) (ap (λ x. is_mismatch all x y) same ∙ ap (is_mismatch all e) means ∙ d) ∙ ap (λ x. Some (variant x)) same)
  variant_at (x ∷ xs) (y ∷ ys) (suc s) e m a b d = by (variant_at xs ys s e m a b d) (is_mismatch all x y)
    where
      by : (k : ℕ) × (slice_get (variants_among all xs ys) k ≡ Some (variant e)) → (r : Bool) → (k : ℕ) × (slice_get (cond r (variant x ∷ variants_among all xs ys) (variants_among all xs ys)) k ≡ Some (variant e))
      by found true = (suc found.0, found.1)
      by found false = found

  pub variant_in : (rs : List Resolved) (e : InputSymbol) (m : Meaning) → IsSymbolOf rs e m → is_mismatch all e m ≡ true → (k : ℕ) × (slice_get (variants_of all rs) k ≡ Some (variant e))
  variant_in rs e m is d = from rs is.0 is.2 is.3 is.4 is.5
    where
      from : (rs : List Resolved) (i : ℕ) (r : Resolved) → slice_get rs i ≡ Some r → slice_get r.symbols is.1 ≡ Some e → slice_get r.meanings is.1 ≡ Some m → (k : ℕ) × (slice_get (variants_of all rs) k ≡ Some (variant e))
      from [] i r at a b = absurd cc
      from (x ∷ xs) zero r at a b =
          let same : x ≡ r = cc in
          let found = variant_at x.symbols x.meanings is.1 e m (ap (λ (r : Resolved). slice_get r.symbols is.1) same ∙ a) (ap (λ (r : Resolved). slice_get r.meanings is.1) same ∙ b) d in
          (found.0, get_left (variants_among all x.symbols x.meanings) (variants_of all xs) found.0 (variant e) found.1)
      from (x ∷ xs) (suc i) r at a b = let found = from xs i r at a b in get_right (variants_among all x.symbols x.meanings) (variants_of all xs) found.0 (variant e) found.1

  get_either : {A : Type 0} (xs ys : List A) (k : ℕ) (v : A) → slice_get (xs ++ ys) k ≡ Some v → ((j : ℕ) × (slice_get xs j ≡ Some v)) ⊎ ((j : ℕ) × (slice_get ys j ≡ Some v))
  get_either [] ys k v at = inr (k, at)
  get_either (x ∷ xs) ys zero v at = inl (zero, at)
  get_either {A} (x ∷ xs) ys (suc k) v at = by (get_either xs ys k v at)
    where
      by : ((j : ℕ) × (slice_get xs j ≡ Some v)) ⊎ ((j : ℕ) × (slice_get ys j ≡ Some v)) → ((j : ℕ) × (slice_get (x ∷ xs) j ≡ Some v)) ⊎ ((j : ℕ) × (slice_get ys j ≡ Some v))
      by (inl r) = inl (suc r.0, r.1)
      by (inr r) = inr r

  pub mismatch_entry : (e : InputSymbol) (m : Meaning) → is_mismatch all e m ≡ true → is_entry (variant e) ≡ true
  mismatch_entry e (here d) is = (and_both (is_some e.symbol.name) (not (is_local_definition e.symbol)) (and_both (is_entry e) (passes (λ a. mismatches a e) (judge all (name_of e))) is).0).1
  mismatch_entry e (imported k) is = absurd cc
  mismatch_entry e null is = absurd cc
  mismatch_entry e nothing is = absurd cc

  among_entry : (es : List InputSymbol) (ms : List Meaning) (k : ℕ) (v : InputSymbol) → slice_get (variants_among all es ms) k ≡ Some v → is_entry v ≡ true
  among_entry [] ms k v at = absurd cc
  among_entry (e ∷ es) [] k v at = absurd cc
  among_entry (e ∷ es) (m ∷ ms) k v at = by (is_mismatch all e m) refl k at (λ k at. among_entry es ms k v at)
    where
      by : (b : Bool) → is_mismatch all e m ≡ b → (k : ℕ) → slice_get (cond b (variant e ∷ variants_among all es ms) (variants_among all es ms)) k ≡ Some v
          → ((k : ℕ) → slice_get (variants_among all es ms) k ≡ Some v → is_entry v ≡ true) → is_entry v ≡ true
      by true is zero at later = let same : variant e ≡ v = cc in ap is_entry (sym same) ∙ mismatch_entry e m is
      by true is (suc k) at later = later k at
      by false is k at later = later k at

  among_all : (rs : List Resolved) (k : ℕ) (v : InputSymbol) → slice_get (variants_of all rs) k ≡ Some v → is_entry v ≡ true
  among_all [] k v at = absurd cc
  among_all (r ∷ rs) k v at = elim (get_either (variants_among all r.symbols r.meanings) (variants_of all rs) k v at) as (λ _. is_entry v ≡ true) [
    | inl a ↦ among_entry r.symbols r.meanings a.0 v a.1
    | inr a ↦ among_all rs a.0 v a.1
  ]

  -- A variant is an entry.
  pub variant_entry : (loose_calls : Bool) (rs : List Resolved) (k : ℕ) (v : InputSymbol) → slice_get (loose_variants loose_calls all rs) k ≡ Some v → is_entry v ≡ true
  variant_entry true rs k v at = among_all rs k v at
  variant_entry false rs k v at = absurd cc

-- ---- loosened parts stand as they stood

-- as the definition has a program before it is loosened
abbrev pub IsMeant : Program → Ref → Type 0
IsMeant p ref = IsSymbolOf p.resolved ref.entry ref.meaning

module _ (p : Program) where
  loose_place : (n : Named) → named_place (loose_named p.entries n) ≡ named_place n
  loose_place (a_symbol ref) = elim (loosened_or_not p.entries ref) as (λ _. named_place (a_symbol (loose_ref p.entries ref)) ≡ ref.place) [
    | inl is ↦ ap (λ (r : Ref). r.place) is.is
    | inr is ↦ ap (λ (r : Ref). r.place) is
  ]
  loose_place (a_type w) = refl

  loose_size : (n : Named) → named_size (loose_named p.entries n) ≡ named_size n
  loose_size (a_symbol ref) = elim (loosened_or_not p.entries ref) as (λ _. named_size (a_symbol (loose_ref p.entries ref)) ≡ named_size (a_symbol ref)) [
    | inl is ↦ ap (λ (r : Ref). named_size (a_symbol r)) is.is
    | inr is ↦ ap (λ (r : Ref). named_size (a_symbol r)) is
  ]
  loose_size (a_type w) = refl

  loose_windows : (from end : ℕ) (ns : List Named) → NamedStand from end ns → NamedStand from end (map (loose_named p.entries) ns)
  loose_windows from end [] is = is
  loose_windows from end (n ∷ ns) is =
      let at = loose_place n in
      let size = loose_size n in (
        subst (λ k. from ≤ k) (sym at) is.0,
        subst (λ k. NamedStand k end (map (loose_named p.entries) ns)) (sym (λ i. at i + size i)) (loose_windows (named_place n + named_size n) end ns is.1),
      )

  module _ (like : p.plan.loose_calls ≡ true) where
    variants_are : loose_variants p.plan.loose_calls p.entries p.resolved ≡ variants_of p.entries p.resolved
    variants_are = ap (λ b. loose_variants b p.entries p.resolved) like

    loose_meant : (ref : Ref) → IsMeant p ref → IsRefOf (loosened p) (loose_ref p.entries ref)
    loose_meant ref is = elim (loosened_or_not p.entries ref) as (λ _. IsRefOf (loosened p) (loose_ref p.entries ref)) [
      | inl l ↦
          let found = variant_in p.entries p.resolved ref.entry ref.meaning is l.differs in
          subst (IsRefOf (loosened p)) (sym l.is) (inr (refl, found.0, ap (λ vs. slice_get vs found.0) variants_are ∙ found.1))
      | inr l ↦ subst (IsRefOf (loosened p)) (sym l) (inl is)
    ]

    all_meant : (rs : List Ref) → All (IsMeant p) rs → All (IsRefOf (loosened p)) (map (loose_ref p.entries) rs)
    all_meant [] all = All-nil (IsRefOf (loosened p))
    all_meant (r ∷ rs) all =
        All-cons (IsRefOf (loosened p)) (loose_ref p.entries r) (map (loose_ref p.entries) rs) (loose_meant r (All-head (IsMeant p) r rs all)) (all_meant rs (All-tail (IsMeant p) r rs all))

    part_stands : (part : Part) → PartStandsBy p (IsMeant p) part → PartStands (loosened p) (loose_part p.entries part)
    part_stands part s = record {
      source = s.source;
      windows = elim s.windows as (λ _. ((part.chunk.input ≡ 0) × (part.chunk.kind ≡ 0)) ⊎ NamedStand 0 part.source.span.len (map (loose_named p.entries) part.named)) [
        | inl made ↦ inl made
        | inr stand ↦ inr (loose_windows 0 part.source.span.len part.named stand)
      ];
      align = s.align;
      refs = subst (All (IsRefOf (loosened p))) (sym (refs_loose p.entries part)) (all_meant (refs part) s.refs);
    }

  same_part : (part : Part) → PartStandsBy p (IsMeant p) part → PartStands (loosened p) part
  same_part part s = record {
    source = s.source;
    windows = s.windows;
    align = s.align;
    refs = all_strict (refs part) s.refs;
  }
    where
      all_strict : (rs : List Ref) → All (IsMeant p) rs → All (IsRefOf (loosened p)) rs
      all_strict [] all = All-nil (IsRefOf (loosened p))
      all_strict (r ∷ rs) all = All-cons (IsRefOf (loosened p)) r rs (inl (All-head (IsMeant p) r rs all)) (all_strict rs (All-tail (IsMeant p) r rs all))

  pub parts_stand : (parts : List Part) → All (PartStandsBy p (IsMeant p)) parts → All (PartStands (loosened p)) (loose_parts p.plan.loose_calls p.entries parts)
  parts_stand parts all = by p.plan.loose_calls refl
    where
      strict : (parts : List Part) → All (PartStandsBy p (IsMeant p)) parts → All (PartStands (loosened p)) parts
      strict [] all = All-nil (PartStands (loosened p))
      strict (x ∷ xs) all = All-cons (PartStands (loosened p)) x xs (same_part x (All-head (PartStandsBy p (IsMeant p)) x xs all)) (strict xs (All-tail (PartStandsBy p (IsMeant p)) x xs all))

      loose : p.plan.loose_calls ≡ true → (parts : List Part) → All (PartStandsBy p (IsMeant p)) parts → All (PartStands (loosened p)) (map (loose_part p.entries) parts)
      loose like [] all = All-nil (PartStands (loosened p))
      loose like (x ∷ xs) all =
          All-cons (PartStands (loosened p)) (loose_part p.entries x) (map (loose_part p.entries) xs) (part_stands like x (All-head (PartStandsBy p (IsMeant p)) x xs all)) (loose like xs (All-tail (PartStandsBy p (IsMeant p)) x xs all))

      by : (b : Bool) → p.plan.loose_calls ≡ b → All (PartStands (loosened p)) (loose_parts b p.entries parts)
      by true like = loose like parts all
      by false like = strict parts all
