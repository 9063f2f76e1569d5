-- What all rows of the table of options have.
use Rattle.std.proofs.Common.{◌≡◌, ℕ, Bool, true, false, not, cond, ◌&&◌, List, [], ◌∷◌, take, codes, Some, refl, sym, ◌∙◌}
use Rattle.std.proofs.lemmas.Slice.Eq.{bytes_eq-Decides}
use Rattle.std.specs.List.{list_all, list_any}
use Rattle.std.specs.Str.{bytes_eq}
use Rattle.link_words.specs.declared.kind.Kind.{Kind}
use Rattle.link_words.specs.declared.kind.Kind.TheVariants as kinds
use Rattle.link_words.specs.declared.options.Form.{Form}
use Rattle.link_words.specs.declared.options.Takes.{Takes}
use Rattle.link_words.specs.declared.options.Takes.TheVariants as takes
use Rattle.link_words.specs.declared.options.Rule.{Rule}
use Rattle.link_words.specs.Kinds.{same}
use Rattle.link_words.specs.Options.{options, row_of}
use Rattle.link_words.specs.Cut.{begins_with_dash, is_equals}

pub not_true : (b : Bool) → not b ≡ true → b ≡ false
not_true true e = sym e
not_true false e = refl

pub both : (a b : Bool) → (a && b) ≡ true → (a ≡ true) × (b ≡ true)
both true b e = (refl, e)
both false b e = absurd cc

pub row_has : (test : List ℕ × Rule → Bool) (rows : List (List ℕ × Rule)) (word : List ℕ) (rule : Rule) → list_all test rows ≡ true → row_of rows word ≡ Some rule → test (word, rule) ≡ true
row_has test [] word rule all e = absurd cc
row_has test (row ∷ rows) word rule all e = by (bytes_eq word row.0) refl (row_has test rows word rule (both (test row) (list_all test rows) all).1) e
  where
    by : (b : Bool) → bytes_eq word row.0 ≡ b → (row_of rows word ≡ Some rule → test (word, rule) ≡ true) → cond b (Some row.1) (row_of rows word) ≡ Some rule → test (word, rule) ≡ true
    by true is _ e =
        let w : word ≡ row.0 = (bytes_eq-Decides word row.0).0 is in
        let r : rule ≡ row.1 = cc in
        (λ j. test (w j, r j)) ∙ (both (test row) (list_all test rows) all).0
    by false _ rest e = rest e

-- an option begins with `-`
pub dashed : (word : List ℕ) (rule : Rule) → row_of options word ≡ Some rule → begins_with_dash word ≡ true
dashed word rule e = row_has (λ r. begins_with_dash r.0) options word rule refl e

-- it isn't `--`
pub not_dashes : (word : List ℕ) (rule : Rule) → row_of options word ≡ Some rule → bytes_eq word (codes "--") ≡ false
not_dashes word rule e = not_true _ (row_has (λ r. not (bytes_eq r.0 (codes "--"))) options word rule refl e)

-- it has no `=`
pub no_equals : (word : List ℕ) (rule : Rule) → row_of options word ≡ Some rule → list_any is_equals word ≡ false
no_equals word rule e = not_true _ (row_has (λ r. not (list_any is_equals r.0)) options word rule refl e)

-- and says something else than `--`
pub not_only : (word : List ℕ) (rule : Rule) → row_of options word ≡ Some rule → same rule.kind kinds.OnlyInputs ≡ false
not_only word rule e = not_true _ (row_has (λ r. not (same r.1.kind kinds.OnlyInputs)) options word rule refl e)

has_front : List ℕ → Takes → Bool
has_front word (takes.Long form) = bytes_eq (take 2 word) (codes "--")
has_front word other = true

-- a long option with a value begins with `--`
pub long_front : (word : List ℕ) (kind : Kind) (form : Form) → row_of options word ≡ Some (record { kind = kind; takes = takes.Long form }) → bytes_eq (take 2 word) (codes "--") ≡ true
unfolding has_front
long_front word kind form e = row_has (λ r. has_front r.0 r.1.takes) options word (record { kind = kind; takes = takes.Long form }) refl e
