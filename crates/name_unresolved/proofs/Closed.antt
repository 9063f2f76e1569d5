-- Where each symbol means something, no reference is open.
use Rattle.std.proofs.Common.{◌≡◌, ℕ, zero, suc, Bool, true, false, ◌&&◌, ◌∙◌, cond, List, [], ◌∷◌, filter, get_or, slice_get, Option, Some, None, refl, sym, ap}
use Rattle.std.specs.List.{list_all}
use Rattle.std.proofs.lemmas.Bool.{false≢true}
use Rattle.std.proofs.lemmas.Option.{get_or_from_slice_get}
use Rattle.name_meanings.specs.name_entries.object_file.declared.object.Object.{Object}
use Rattle.name_meanings.specs.name_entries.name_rules.declared.meaning.Meaning.{Meaning}
use Rattle.name_meanings.specs.name_entries.name_rules.declared.meaning.Meaning.TheVariants.{Here, Made, Import, Null, Nothing}
use Rattle.mark_bits.specs.declared.chunk.Chunk.{Chunk}
use Rattle.name_meanings.specs.Means.{row_of, means_something}
use Rattle.name_unresolved.specs.Refers.{SymbolAt}
use Rattle.name_unresolved.specs.Least.{least}
use Rattle.name_unresolved.specs.Unresolved.{is_nothing, is_open, open_refs, first_unresolved_of}

both : (a b : Bool) → (a && b) ≡ true → (a ≡ true) × (b ≡ true)
both true b e = (refl, e)
both false b e = (e, absurd (false≢true e))

-- an item of a list of which all pass
passes_at : {A : Type 0} (p : A → Bool) (xs : List A) (i : ℕ) (x : A) → list_all p xs ≡ true → slice_get xs i ≡ Some x → p x ≡ true
passes_at p [] i x all at = absurd cc
passes_at p (y ∷ ys) zero x all at = ap p (sym (get_or_from_slice_get (y ∷ ys) zero x x at)) ∙ (both (p y) (list_all p ys) all).0
passes_at p (y ∷ ys) (suc i) x all at = passes_at p ys i x (both (p y) (list_all p ys) all).1 at

-- a list of lists of which all pass; one that isn't there has no item
row_passes : {A : Type 0} (p : A → Bool) (rows : List (List A)) (i : ℕ) → list_all (list_all p) rows ≡ true → list_all p (get_or rows i []) ≡ true
row_passes p [] i all = refl
row_passes p (r ∷ rs) zero all = (both (list_all p r) (list_all (list_all p) rs) all).0
row_passes p (r ∷ rs) (suc i) all = row_passes p rs i (both (list_all p r) (list_all (list_all p) rs) all).1

none_kept : {A : Type 0} (p : A → Bool) → ((x : A) → p x ≡ false) → (xs : List A) → filter p xs ≡ []
none_kept p none [] = refl
none_kept p none (x ∷ xs) = ap (λ b. cond b (x ∷ filter p xs) (filter p xs)) (none x) ∙ none_kept p none xs

something : (m : Meaning) → means_something m ≡ true → is_nothing (Some m) ≡ false
something (Here input symbol) e = refl
something (Made number) e = refl
something (Import number) e = refl
something Null e = refl
something Nothing e = absurd (false≢true e)

not_open : (rows : List (List Meaning)) → list_all (list_all means_something) rows ≡ true → (s : SymbolAt) → is_open rows s ≡ false
not_open rows all s = by (slice_get (row_of rows s.0) s.1) refl
  where
    by : (o : Option Meaning) → slice_get (row_of rows s.0) s.1 ≡ o → is_nothing o ≡ false
    by None e = refl
    by (Some m) e = something m (passes_at means_something (row_of rows s.0) s.1 m (row_passes means_something rows s.0 all) e)

pub nothing_open : (objects : List Object) (rows : List (List Meaning)) (words : List ℕ) (chunks : List Chunk) → list_all (list_all means_something) rows ≡ true
    → None ≡ first_unresolved_of objects rows words chunks
unfolding first_unresolved_of
nothing_open objects rows words chunks all = sym (ap least (none_kept (is_open rows) (not_open rows all) _))
