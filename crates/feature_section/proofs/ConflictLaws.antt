-- There is a conflict exactly where an object goes against another one.
use Rattle.std.proofs.Common.{◌≡◌, ℕ, suc, Bool, true, false, cond, not, ◌||◌, ◌&&◌, List, [], ◌∷◌, Option, Some, None, refl, sym, ap, ◌∙◌}
use Rattle.std.specs.Prelude.{is_some}
use Rattle.std.specs.declared.cmp.Ordering.{Ordering}
use Rattle.std.specs.declared.cmp.Ordering.TheVariants.{Less, Equal, Greater}
use Rattle.std.specs.Ordering.{match_ordering}
use Rattle.std.specs.List.{list_any}
use Rattle.std.specs.Map.{keys_of}
use Rattle.std.specs.BTreeSet.{insert_key}
use Rattle.std.specs.BTreeMap.{insert_entry}
use Rattle.feature_section.specs.declared.feature.Feature.{Feature}
use Rattle.feature_section.specs.declared.feature.FeatureMark.{FeatureMark}
use Rattle.feature_section.specs.declared.feature.FeatureMark.TheVariants.{Required, Disallowed}
use Rattle.feature_section.specs.declared.conflict.Saying.{Saying}
use Rattle.feature_section.specs.declared.conflict.Conflict.{Conflict}
use Rattle.feature_section.specs.Union.{name_cmp, is_name, is_among, is_used, uses, with_features}
use Rattle.feature_section.specs.Conflict.{is_mark, Sayings, said_at, said_also, said_from, said_by, conflict_at, first_of_two, used_against, lacking, object_conflict, conflict_from, first_conflict, says, goes_against}
use Rattle.feature_section.proofs.UnionLaws.{or_false, or_move, or_group, any_there, any_insert, features_used}

-- ---- the names of sayings

said_keys : (n : List ℕ) (s : Sayings) → is_some (said_at s n) ≡ is_among (keys_of s) n
said_keys n [] = refl
said_keys n (e ∷ s) = by (is_name n e.0) (said_keys n s)
  where
    by : (b : Bool) → is_some (said_at s n) ≡ is_among (keys_of s) n → is_some (cond b (Some e.1) (said_at s n)) ≡ (b || is_among (keys_of s) n)
    by true others = refl
    by false others = others

keys_insert : (k : List ℕ) (at : Saying) (s : Sayings) → keys_of (insert_entry name_cmp s k at) ≡ insert_key name_cmp (keys_of s) k
keys_insert k at [] = refl
keys_insert k at (e ∷ s) = by (name_cmp k e.0) (keys_insert k at s)
  where
    by : (r : Ordering) → keys_of (insert_entry name_cmp s k at) ≡ insert_key name_cmp (keys_of s) k
        → keys_of (match_ordering r ((k, at) ∷ e ∷ s) ((e.0, at) ∷ s) (e ∷ insert_entry name_cmp s k at)) ≡ match_ordering r (k ∷ e.0 ∷ keys_of s) (e.0 ∷ keys_of s) (e.0 ∷ insert_key name_cmp (keys_of s) k)
    by Less others = refl
    by Equal others = refl
    by Greater others = ap (λ (ks : List (List ℕ)). e.0 ∷ ks) others

any_also : (P : List ℕ → Bool) (k : List ℕ) (at : Saying) (s : Sayings) → list_any P (keys_of (said_also s k at)) ≡ (P k || list_any P (keys_of s))
any_also P k at s = by (is_some (said_at s k)) (said_keys k s)
  where
    by : (b : Bool) → b ≡ is_among (keys_of s) k → list_any P (keys_of (cond b s (insert_entry name_cmp s k at))) ≡ (P k || list_any P (keys_of s))
    by true e = any_there P k (keys_of s) (sym e)
    by false e = ap (list_any P) (keys_insert k at s) ∙ any_insert P k (keys_of s)

any_from : (P : List ℕ → Bool) (mark : FeatureMark) (object place : ℕ) (features : List Feature) (s : Sayings)
    → list_any P (keys_of (said_from mark object place s features)) ≡ (list_any P (keys_of s) || list_any (λ f. is_mark f.mark mark && P f.name) features)
any_from P mark object place [] s = or_false (list_any P (keys_of s))
any_from P mark object place (f ∷ features) s = by (is_mark f.mark mark) (any_from P mark object (suc place) features)
  where
    at : Saying
    at = record { object = object; place = place }

    others : Bool
    others = list_any (λ f. is_mark f.mark mark && P f.name) features

    by : (b : Bool) → ((t : Sayings) → list_any P (keys_of (said_from mark object (suc place) t features)) ≡ (list_any P (keys_of t) || others))
        → list_any P (keys_of (said_from mark object (suc place) (cond b (said_also s f.name at) s) features)) ≡ (list_any P (keys_of s) || ((b && P f.name) || others))
    by true rest = rest (said_also s f.name at) ∙ ap (λ (b : Bool). b || others) (any_also P f.name at s) ∙ or_move (P f.name) (list_any P (keys_of s)) others
    by false rest = rest s

any_by : (P : List ℕ → Bool) (mark : FeatureMark) (object : ℕ) (objects : List (List Feature)) (s : Sayings)
    → list_any P (keys_of (said_by mark object s objects)) ≡ (list_any P (keys_of s) || list_any (λ features. list_any (λ f. is_mark f.mark mark && P f.name) features) objects)
any_by P mark object [] s = or_false (list_any P (keys_of s))
any_by P mark object (features ∷ objects) s =
    any_by P mark (suc object) objects (said_from mark object 0 s features)
    ∙ ap (λ (b : Bool). b || list_any (λ features. list_any (λ f. is_mark f.mark mark && P f.name) features) objects) (any_from P mark object 0 features s)
    ∙ or_group (list_any P (keys_of s)) (list_any (λ f. is_mark f.mark mark && P f.name) features) (list_any (λ features. list_any (λ f. is_mark f.mark mark && P f.name) features) objects)

-- ---- whether there is a fault

first_some : (a b : Option Conflict) → is_some (first_of_two a b) ≡ (is_some a || is_some b)
first_some None b = refl
first_some (Some c) b = refl

used_some : (disallowed : Sayings) (object : ℕ) (features : List Feature) → is_some (used_against disallowed object features) ≡ list_any (λ f. is_used f.mark && is_some (said_at disallowed f.name)) features
used_some disallowed object [] = refl
used_some disallowed object (f ∷ features) =
    first_some (conflict_at object (cond (is_used f.mark) (said_at disallowed f.name) None)) (used_against disallowed object features)
    ∙ λ i. one (is_used f.mark) (said_at disallowed f.name) i || used_some disallowed object features i
  where
    one : (b : Bool) (at : Option Saying) → is_some (conflict_at object (cond b at None)) ≡ (b && is_some at)
    one true None = refl
    one true (Some at) = refl
    one false at = refl

lacking_some : (names : List (List ℕ)) (object : ℕ) (required : Sayings) → is_some (lacking names object required) ≡ list_any (λ n. not (is_among names n)) (keys_of required)
lacking_some names object [] = refl
lacking_some names object (e ∷ required) = by (is_among names e.0) (lacking_some names object required)
  where
    by : (b : Bool) → is_some (lacking names object required) ≡ list_any (λ n. not (is_among names n)) (keys_of required)
        → is_some (cond b (lacking names object required) (Some (record { object = object; against = e.1 }))) ≡ (not b || list_any (λ n. not (is_among names n)) (keys_of required))
    by true others = others
    by false others = refl

-- whether an object has a fault
abbrev has_fault : Sayings → Sayings → List Feature → Bool
has_fault disallowed required features =
    list_any (λ f. is_used f.mark && is_some (said_at disallowed f.name)) features
    || list_any (λ n. not (is_among (with_features [] features) n)) (keys_of required)

object_some : (disallowed required : Sayings) (object : ℕ) (features : List Feature) → is_some (object_conflict disallowed required object features) ≡ has_fault disallowed required features
object_some disallowed required object features =
    first_some (used_against disallowed object features) (lacking (with_features [] features) object required)
    ∙ λ i. used_some disallowed object features i || lacking_some (with_features [] features) object required i

from_some : (disallowed required : Sayings) (object : ℕ) (objects : List (List Feature)) → is_some (conflict_from disallowed required object objects) ≡ list_any (has_fault disallowed required) objects
from_some disallowed required object [] = refl
from_some disallowed required object (features ∷ objects) =
    first_some (object_conflict disallowed required object features) (conflict_from disallowed required (suc object) objects)
    ∙ λ i. object_some disallowed required object features i || from_some disallowed required (suc object) objects i

-- ---- the whole

disallowed_is : (objects : List (List Feature)) (n : List ℕ) → is_some (said_at (said_by Disallowed 0 [] objects) n) ≡ list_any (says Disallowed n) objects
disallowed_is objects n = said_keys n (said_by Disallowed 0 [] objects) ∙ any_by (is_name n) Disallowed 0 objects []

required_is : (objects : List (List Feature)) (features : List Feature)
    → list_any (λ n. not (is_among (with_features [] features) n)) (keys_of (said_by Required 0 [] objects)) ≡ list_any (λ other. list_any (λ f. is_mark f.mark Required && not (uses f.name features)) other) objects
required_is objects features =
    (λ i. list_any (λ n. not (features_used n features [] i)) (keys_of (said_by Required 0 [] objects)))
    ∙ any_by (λ n. not (uses n features)) Required 0 objects []

pub conflict_is : (objects : List (List Feature)) → is_some (first_conflict objects) ≡ list_any (goes_against objects) objects
unfolding first_conflict
conflict_is objects =
    from_some (said_by Disallowed 0 [] objects) (said_by Required 0 [] objects) 0 objects
    ∙ λ i. list_any (λ features. list_any (λ f. is_used f.mark && disallowed_is objects f.name i) features || required_is objects features i) objects
