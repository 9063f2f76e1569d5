-- Which candidate offers a name, and so which inputs a round adds.
use Rattle.std.proofs.Common.{◌≡◌, ℕ, ◌≤◌, ◌<◌, Bool, true, not, List, [], ◌∷◌, length, Option, Some, None, refl, sym, ap, subst, ◌∙◌, arith, inl, inr}
use Rattle.std.specs.Prelude.{AllPairs, Contains, find, option_map, ◌==◌}
use Rattle.std.proofs.lemmas.Bool.{cases_Bool, eqb-true, eq-eqb, ne_eqb}
use Rattle.std.proofs.lemmas.List.Elements.{All-contains, Contains-append_left, Contains-append_right, Contains-append_cases}
use Rattle.object_file.specs.wl_base.Choice.{has_name}
use Rattle.made_symbols.specs.declared.mode.Mode.{Mode}
use Rattle.round_rules.specs.Rounds.{Candidate, is_loaded, offering, is_just, names_for, inputs_of, next_adds}
use Rattle.round_rules.specs.RoundLaws.{inputs_in, next_round, NextIs, LeastOffers}
use Rattle.lib_rounds.proofs.Kept.{contains_head, contains_tail, contains_none, contains_cases, any_contains, was_kept, kept, contains_map, pairs_first, pairs_later}
use Rattle.lib_rounds.proofs.Ends.{wants, new_from, new_again}

-- ---- the first that passes

passing : (p : Candidate → Bool) (all : List Candidate) (input : ℕ) → option_map (λ (c : Candidate). c.input) (find p all) ≡ Some input → (c : Candidate) × Contains all c × (c.input ≡ input) × (p c ≡ true)
passing p [] input e = absurd cc
passing p (c ∷ cs) input e = elim (cases_Bool (p c)) [
  | inl is ↦ let same : c.input ≡ input = (let h = rw is at e in cc) in (c, contains_head c cs, same, is)
  | inr not_so ↦ let r = passing p cs input (rw not_so at e) in (r.0, contains_tail c cs r.0 r.1, r.2, r.3)
]

least_passes : (p : Candidate → Bool) (all : List Candidate) (input : ℕ) → AllPairs (λ a b. a < b) (inputs_in all) → option_map (λ (c : Candidate). c.input) (find p all) ≡ Some input → (c : Candidate) → Contains all c → p c ≡ true → input ≤ c.input
least_passes p [] input rise e c h t = absurd (contains_none c h)
least_passes p (d ∷ ds) input rise e c h t = elim (cases_Bool (p d)) [
  | inl is ↦
      let same : d.input ≡ input = (let h = rw is at e in cc) in
      elim (contains_cases d ds c h) [
        | inl one ↦ let i : d.input ≡ c.input = ap (λ (x : Candidate). x.input) one in omega (arith, same, i)
        | inr later ↦
            let above : d.input < c.input = All-contains (λ (b : ℕ). d.input < b) (inputs_in ds) c.input (pairs_first (λ (a b : ℕ). a < b) d.input (inputs_in ds) rise) (contains_map (λ (x : Candidate). x.input) ds c later) in
            omega (arith, same, above)
      ]
  | inr not_so ↦
      elim (contains_cases d ds c h) [
        | inl one ↦ let is : p d ≡ true = subst (λ (x : Candidate). p x ≡ true) (sym one) t in absurd cc
        | inr later ↦ least_passes p ds input (pairs_later (λ (a b : ℕ). a < b) d.input (inputs_in ds) rise) (rw not_so at e) c later t
      ]
]

pub least_offers : LeastOffers
least_offers all name input rise e =
    (passing (λ c. has_name c.offers name) all input e, least_passes (λ c. has_name c.offers name) all input rise e)

-- ---- the successor of a round

a_name : (names : List (List ℕ)) → not (length names == 0) ≡ true → (name : List ℕ) × Contains names name
a_name [] e = absurd cc
a_name (name ∷ names) e = (name, contains_head name names)

some_name : (names : List (List ℕ)) (name : List ℕ) → Contains names name → not (length names == 0) ≡ true
some_name [] name h = absurd (contains_none name h)
some_name (first ∷ names) name h = rw (ne_eqb (length (first ∷ names)) 0 (λ e. omega (arith, e))) refl

pub is_that : (k : ℕ) (o : Option ℕ) → is_just k o ≡ true → o ≡ Some k
is_that k None e = absurd cc
is_that k (Some j) e = ap Some (eqb-true j k e)

that_is : (k : ℕ) (o : Option ℕ) → o ≡ Some k → is_just k o ≡ true
that_is k None e = absurd cc
that_is k (Some j) e = let same : j ≡ k = cc in eq-eqb j k same

module _ (mode : Mode) (asked : List (List ℕ)) (all : List Candidate) (loaded : List ℕ) where
  abbrev Offered : ℕ → Type 0
  Offered input = (name : List ℕ) × Contains (wants mode asked all loaded) name × (offering all name ≡ Some input)

  why_added : (input : ℕ) → Contains (inputs_of (next_adds mode asked all loaded)) input → Offered input
  why_added input h =
      let n = new_from mode asked all loaded input h in
      let name = a_name (names_for all (wants mode asked all loaded) n.0) n.1.3 in
      let k = was_kept (λ name. is_just n.0.input (offering all name)) (wants mode asked all loaded) name.0 name.1 in
      (name.0, k.0, is_that n.0.input (offering all name.0) k.1 ∙ ap Some n.1.2)

  there : (input : ℕ) → Offered input → Contains (next_round mode asked all loaded) input
  there input o =
      let more : List ℕ = inputs_of (next_adds mode asked all loaded) in
      let c = passing (λ c. has_name c.offers o.0) all input o.2 in
      elim (cases_Bool (is_loaded loaded c.0)) [
        | inl is ↦ Contains-append_left loaded more input (subst (λ (i : ℕ). Contains loaded i) c.2 (any_contains c.0.input loaded is))
        | inr fresh ↦
            let k = kept (λ name. is_just c.0.input (offering all name)) (wants mode asked all loaded) o.0 o.1 (that_is c.0.input (offering all o.0) (o.2 ∙ ap Some (sym c.2))) in
            let t = some_name (names_for all (wants mode asked all loaded) c.0) o.0 k in
            Contains-append_right loaded more input (subst (λ (i : ℕ). Contains more i) c.2 (new_again mode asked all loaded c.0 c.1 fresh t))
      ]

pub next_is : NextIs
next_is mode asked all loaded input =
    let more : List ℕ = inputs_of (next_adds mode asked all loaded) in (
      λ h. elim (Contains-append_cases loaded more input h) [ inl before ↦ inl before | inr added ↦ inr (why_added mode asked all loaded input added) ],
      λ h. elim h [ inl before ↦ Contains-append_left loaded more input before | inr offered ↦ there mode asked all loaded input offered ],
    )
