-- References to a name that nothing defines say the same where one symbol stands for those of a run.
use Rattle.std.proofs.Common.{◌≡◌, inl, inr, ℕ, Bool, true, false, not, ◌||◌, ◌&&◌, cond, List, [], ◌∷◌, ◌++◌, map, filter, refl, sym, ap, subst, ◌∙◌}
use Rattle.std.specs.Prelude.{if◌then◌else◌, Option, Some, None, All}
use Rattle.std.specs.List.{list_any, list_all}
use Rattle.std.proofs.lemmas.List.{map-append}
use Rattle.std.proofs.lemmas.List.Elements.{All-head, All-tail, All-cons, filter-append}
use Rattle.std.proofs.lemmas.List.Folds.{list_any-append}
use Rattle.name_rules.specs.object_file.wl_base.Choice.{first_some}
use Rattle.name_rules.specs.object_file.linking_section.Flags.{is_weak, is_explicit}
use Rattle.name_rules.specs.Entries.{InputSymbol, ImportKey, name_of, is_named, named}
use Rattle.name_rules.specs.Meanings.{references, least_import, definitions, winner}
use Rattle.partial_laws.specs.Joining.{Joining, joined, Kept, explicit_of, any_strong}
use Rattle.partial_laws.specs.Opens.{StandsFor, AreStoodFor, Stays, AreAround}
use Rattle.partial_laws.proofs.Lists.{none_asked, filter_all}
use Rattle.partial_laws.proofs.Leasts.{least_none}
use Rattle.partial_laws.proofs.Winners.{named_joined}

abbrev or : Option ImportKey → Option ImportKey → Option ImportKey
or a b = first_some (a ∷ b ∷ [])

or_last : (b : Option ImportKey) → or None b ≡ b
or_last None = refl
or_last (Some k) = refl

or_first : (a : Option ImportKey) → or a None ≡ a
or_first None = refl
or_first (Some k) = refl

or_none : (a b : Option ImportKey) → or a b ≡ None → (a ≡ None) × (b ≡ None)
or_none None None e = (refl, refl)
or_none None (Some k) e = absurd cc
or_none (Some k) b e = absurd cc

least_append : (xs ys : List InputSymbol) → least_import (xs ++ ys) ≡ or (least_import xs) (least_import ys)
least_append [] ys = sym (or_last (least_import ys))
least_append (x ∷ xs) ys = by_import x.import (least_append xs ys)
  where
    by_import : (o : Option ImportKey) → least_import (xs ++ ys) ≡ or (least_import xs) (least_import ys)
        → first_some (o ∷ map (λ e. e.import) (xs ++ ys)) ≡ or (first_some (o ∷ map (λ e. e.import) xs)) (least_import ys)
    by_import (Some k) rest = refl
    by_import None rest = rest

explicit_append : (xs ys : List InputSymbol) → explicit_of (xs ++ ys) ≡ explicit_of xs ++ explicit_of ys
explicit_append xs ys = filter-append (λ r. is_explicit r.symbol) xs ys

-- ---- what a list of references says

-- Two lists say the same of imports and strength.
pub record SayAlike (xs ys : List InputSymbol) : Type 0 where
  pub explicit : least_import (explicit_of ys) ≡ least_import (explicit_of xs)
  pub least : least_import (explicit_of xs) ≡ None → least_import ys ≡ least_import xs
  pub strong : any_strong ys ≡ any_strong xs

alike_append : (as' xs bs ys : List InputSymbol) → SayAlike as' bs → SayAlike xs ys → SayAlike (as' ++ xs) (bs ++ ys)
alike_append as' xs bs ys p q = record {
  explicit =
      ap least_import (explicit_append bs ys) ∙ (least_append (explicit_of bs) (explicit_of ys)
      ∙ (ap (λ o. or o (least_import (explicit_of ys))) p.explicit ∙ (ap (or (least_import (explicit_of as'))) q.explicit
      ∙ sym (ap least_import (explicit_append as' xs) ∙ least_append (explicit_of as') (explicit_of xs)))));
  least = λ none.
      let both = or_none (least_import (explicit_of as')) (least_import (explicit_of xs)) (sym (ap least_import (explicit_append as' xs) ∙ least_append (explicit_of as') (explicit_of xs)) ∙ none) in
      least_append bs ys ∙ (ap (λ o. or o (least_import ys)) (p.least both.0) ∙ (ap (or (least_import as')) (q.least both.1) ∙ sym (least_append as' xs)));
  strong =
      list_any-append (λ r. not (is_weak r.symbol)) bs ys ∙ (ap (λ b. b || any_strong ys) p.strong ∙ (ap (λ b. any_strong as' || b) q.strong ∙ sym (list_any-append (λ r. not (is_weak r.symbol)) as' xs)));
}

module _ (j : Joining) where
  abbrev kept_moved : List InputSymbol → List InputSymbol
  kept_moved xs = map j.move (filter j.keep xs)

  kept_append : (xs ys : List InputSymbol) → kept_moved (xs ++ ys) ≡ kept_moved xs ++ kept_moved ys
  kept_append xs ys = ap (map j.move) (filter-append j.keep xs ys) ∙ map-append j.move (filter j.keep xs) (filter j.keep ys)

  -- those outside the run
  outside_alike : (xs : List InputSymbol) → All (Stays j) xs → SayAlike xs (kept_moved xs)
  outside_alike [] all = record { explicit = refl; least = λ none. refl; strong = refl }
  outside_alike (x ∷ xs) all =
      subst (λ ys. SayAlike (x ∷ xs) ys) (sym (kept_append (x ∷ []) xs))
      (alike_append (x ∷ []) xs (kept_moved (x ∷ [])) (kept_moved xs) (one (All-head (Stays j) x xs all)) (outside_alike xs (All-tail (Stays j) x xs all)))
    where
      one : Stays j x → SayAlike (x ∷ []) (kept_moved (x ∷ []))
      one stays =
          subst (λ ys. SayAlike (x ∷ []) ys) (sym (ap (λ (b : Bool). map j.move (if b then x ∷ [] else [])) stays.kept)) (record {
            explicit =
                ap (λ s. least_import (if is_explicit s then j.move x ∷ [] else [])) stays.symbol
                ∙ by_explicit (is_explicit x.symbol);
            least = λ none. ap (λ o. first_some (o ∷ [])) stays.import;
            strong = ap (λ s. not (is_weak s) || false) stays.symbol;
          })
        where
          by_explicit : (b : Bool) → least_import (if b then j.move x ∷ [] else []) ≡ least_import (if b then x ∷ [] else [])
          by_explicit true = ap (λ o. first_some (o ∷ [])) stays.import
          by_explicit false = refl

  all_any : (refs : List InputSymbol) → not (list_all (λ r. is_weak r.symbol) refs) ≡ any_strong refs
  all_any [] = refl
  all_any (r ∷ rs) = by_weak (is_weak r.symbol) (all_any rs)
    where
      by_weak : (b : Bool) → not (list_all (λ s. is_weak s.symbol) rs) ≡ any_strong rs → not (b && list_all (λ s. is_weak s.symbol) rs) ≡ (not b || any_strong rs)
      by_weak true rest = rest
      by_weak false rest = refl

  -- without one that has EXPLICIT_NAME
  none_explicit : (refs : List InputSymbol) → list_any (λ r. is_explicit r.symbol) refs ≡ false → explicit_of refs ≡ []
  none_explicit [] e = refl
  none_explicit (r ∷ rs) e = by_test (is_explicit r.symbol) e (none_explicit rs)
    where
      by_test : (b : Bool) → (b || list_any (λ s. is_explicit s.symbol) rs) ≡ false → (list_any (λ s. is_explicit s.symbol) rs ≡ false → explicit_of rs ≡ []) → cond b (r ∷ explicit_of rs) (explicit_of rs) ≡ []
      by_test true e rest = absurd cc
      by_test false e rest = rest e

  -- those of the run
  stood_alike : (refs : List InputSymbol) → AreStoodFor j refs → SayAlike refs (kept_moved refs)
  stood_alike refs (inl empty) = subst (λ rs. SayAlike rs (kept_moved rs)) (sym empty) (record { explicit = refl; least = λ none. refl; strong = refl })
  stood_alike refs (inr stands) =
      let e : InputSymbol = stands.0 in
      let s : StandsFor j refs e = stands.1 in
      subst (λ ys. SayAlike refs ys) (sym (ap (map j.move) s.only)) (record {
        explicit = ap (λ (b : Bool). least_import (if b then j.move e ∷ [] else [])) s.explicit ∙ by_any e s (list_any (λ r. is_explicit r.symbol) refs) refl;
        least = λ none. one_import (j.move e).import ∙ (s.import ∙ (ap (λ o. or o (least_import refs)) none ∙ or_last (least_import refs)));
        strong = or_false (not (is_weak (j.move e).symbol)) ∙ (ap not s.weak ∙ all_any refs);
      })
    where
      one_import : (o : Option ImportKey) → first_some (o ∷ []) ≡ o
      one_import None = refl
      one_import (Some k) = refl

      or_false : (b : Bool) → (b || false) ≡ b
      or_false true = refl
      or_false false = refl

      by_least : (e : InputSymbol) → StandsFor j refs e → list_any (λ r. is_explicit r.symbol) refs ≡ true → (o : Option ImportKey) → least_import (explicit_of refs) ≡ o → least_import (j.move e ∷ []) ≡ o
      by_least e s any (Some k) some = one_import (j.move e).import ∙ (s.import ∙ ap (λ o. or o (least_import refs)) some)
      by_least e s any None none = one_import (j.move e).import ∙ (s.import ∙ (ap (λ o. or o (least_import refs)) none ∙ (or_last (least_import refs) ∙ s.grounded any none)))

      by_any : (e : InputSymbol) → StandsFor j refs e → (b : Bool) → list_any (λ r. is_explicit r.symbol) refs ≡ b → least_import (if b then j.move e ∷ [] else []) ≡ least_import (explicit_of refs)
      by_any e s true any = by_least e s any (least_import (explicit_of refs)) refl
      by_any e s false any = ap least_import (sym (none_explicit refs any))

  -- ---- all of them

  module _ (front run back : List InputSymbol) (around : AreAround j front run back) where
    abbrev all_entries : List InputSymbol
    all_entries = front ++ (run ++ back)

    named_parts : (name : List ℕ) → named all_entries name ≡ named front name ++ (named run name ++ named back name)
    named_parts name = filter-append (is_named name) front (run ++ back) ∙ ap (λ ys. named front name ++ ys) (filter-append (is_named name) run back)

    pub named_alike : (name : List ℕ) → winner all_entries name ≡ None → SayAlike (named all_entries name) (kept_moved (named all_entries name))
    named_alike name none =
        let f : List InputSymbol = named front name in
        let r : List InputSymbol = named run name in
        let b : List InputSymbol = named back name in
        subst (λ xs. SayAlike xs (kept_moved xs)) (sym (named_parts name))
        (subst (λ ys. SayAlike (f ++ (r ++ b)) ys) (sym (kept_append f (r ++ b) ∙ ap (λ ys. kept_moved f ++ ys) (kept_append r b)))
        (alike_append f (r ++ b) (kept_moved f) (kept_moved r ++ kept_moved b) (outside_alike f (filter_all (Stays j) (is_named name) front around.before))
        (alike_append r b (kept_moved r) (kept_moved b) (stood_alike r (around.stood name none)) (outside_alike b (filter_all (Stays j) (is_named name) back around.behind)))))

-- ---- the references, where nothing defines the name

none_define : (xs : List InputSymbol) → filter (λ e. e.defines) xs ≡ [] → All (λ (e : InputSymbol). e.defines ≡ false) xs
none_define [] none = none_asked (λ (e : InputSymbol). e.defines ≡ false)
none_define (x ∷ xs) none = by_test x.defines refl none (none_define xs)
  where
    by_test : (b : Bool) → x.defines ≡ b → cond b (x ∷ filter (λ e. e.defines) xs) (filter (λ e. e.defines) xs) ≡ [] → (filter (λ e. e.defines) xs ≡ [] → All (λ (e : InputSymbol). e.defines ≡ false) xs)
        → All (λ (e : InputSymbol). e.defines ≡ false) (x ∷ xs)
    by_test true is e rest = absurd cc
    by_test false is e rest = All-cons (λ (e : InputSymbol). e.defines ≡ false) x xs is (rest e)

references_whole : (xs : List InputSymbol) → All (λ (e : InputSymbol). e.defines ≡ false) xs → references xs ≡ xs
references_whole [] all = refl
references_whole (x ∷ xs) all =
    rw (All-head (λ (e : InputSymbol). e.defines ≡ false) x xs all, references_whole xs (All-tail (λ (e : InputSymbol). e.defines ≡ false) x xs all)) refl

module _ (j : Joining) (S : InputSymbol → Type 0) (names : (e : InputSymbol) → Kept j S e → name_of (j.move e) ≡ name_of e)
    (defines : (e : InputSymbol) → Kept j S e → (j.move e).defines ≡ true → e.defines ≡ true)
    (front run back : List InputSymbol) (around : AreAround j front run back) (held : All S (front ++ (run ++ back))) where
  still_none : (xs : List InputSymbol) → All S xs → All (λ (e : InputSymbol). e.defines ≡ false) xs → All (λ (e : InputSymbol). e.defines ≡ false) (kept_moved j xs)
  still_none [] known all = none_asked (λ (e : InputSymbol). e.defines ≡ false)
  still_none (x ∷ xs) known all = by_keep (j.keep x) refl (still_none xs (All-tail S x xs known) (All-tail (λ (e : InputSymbol). e.defines ≡ false) x xs all))
    where
      not_defined : (b : Bool) → (j.move x).defines ≡ b → j.keep x ≡ true → b ≡ false
      not_defined true is kept = sym (defines x (record { symbol = All-head S x xs known; kept = kept }) is) ∙ All-head (λ (e : InputSymbol). e.defines ≡ false) x xs all
      not_defined false is kept = refl

      by_keep : (b : Bool) → j.keep x ≡ b → All (λ (e : InputSymbol). e.defines ≡ false) (kept_moved j xs) → All (λ (e : InputSymbol). e.defines ≡ false) (map j.move (cond b (x ∷ filter j.keep xs) (filter j.keep xs)))
      by_keep true kept rest = All-cons (λ (e : InputSymbol). e.defines ≡ false) (j.move x) (kept_moved j xs) (not_defined (j.move x).defines refl kept) rest
      by_keep false kept rest = rest

  pub references_alike : (name : List ℕ) → winner (front ++ (run ++ back)) name ≡ None
      → SayAlike (references (named (front ++ (run ++ back)) name)) (references (named (joined j (front ++ (run ++ back))) name))
  references_alike name none =
      let es : List InputSymbol = front ++ (run ++ back) in
      let ns : List InputSymbol = named es name in
      let known : All S ns = filter_all S (is_named name) es held in
      let undefined : All (λ (e : InputSymbol). e.defines ≡ false) ns = none_define ns (least_none (definitions es name) none) in
      subst (λ xs. SayAlike xs (references (named (joined j es) name))) (sym (references_whole ns undefined))
      (subst (λ ys. SayAlike ns ys) (sym (ap references (named_joined j S names name es held) ∙ references_whole (kept_moved j ns) (still_none ns known undefined)))
      (named_alike j front run back around name none))
