-- The inputs among the items.
use Rattle.std.proofs.Common.{◌≡◌, ◌<◌, ◌≤◌, ◌+◌, ◌||◌, ℕ, Bool, true, false, cond, List, [], ◌∷◌, length, All, nat_lt, unwrap_or, arith, refl}
use Rattle.std.proofs.lemmas.Bool.Decides.{nat_tests}
use Rattle.std.proofs.lemmas.List.Elements.{All-nil, All-cons, All-head, All-tail}
use Rattle.link_plan.specs.declared.plan.InputWord.{InputWord}
use Rattle.link_words.specs.declared.kind.Kind.TheVariants.{Input, StartLib, EndLib, WholeArchive, NoWholeArchive}
use Rattle.link_words.specs.Items.{Said}
use Rattle.link_words.specs.Kinds.{same}
use Rattle.link_words.specs.Fields.{has, inputs, inputs_from, switch}

-- the modes behind an item
lazy_behind : Said → Bool → Bool
lazy_behind said lazy = unwrap_or (switch StartLib EndLib said) lazy

whole_behind : Said → Bool → Bool
whole_behind said whole = unwrap_or (switch WholeArchive NoWholeArchive said) whole

few : (b : Bool) (x : InputWord) (xs ys : List InputWord) (n : ℕ) → length xs ≤ n → length ys ≤ n → length (cond b (x ∷ xs) ys) ≤ n + 1
few true x xs ys n fewer _ = grind arith
few false x xs ys n _ fewer = grind arith

few_from : (items : List Said) (lazy whole : Bool) → length (inputs_from lazy whole items) ≤ length items
unfolding lazy_behind whole_behind
few_from [] lazy whole = omega arith
few_from (said ∷ items) lazy whole =
    let h = few (same said.kind Input) (record { place = said.at; lazy = lazy; whole = whole }) (inputs_from lazy whole items) (inputs_from (lazy_behind said lazy) (whole_behind said whole) items) (length items)
    (few_from items lazy whole) (few_from items (lazy_behind said lazy) (whole_behind said whole)) in
    omega (arith, h)

-- there are no more inputs than items
pub counted : (items : List Said) → length (inputs items) ≤ length items
counted items = few_from items false false

both : (bound : ℕ) (b : Bool) (x : InputWord) (xs ys : List InputWord) → x.place < bound → All (λ (i : InputWord). i.place < bound) xs → All (λ (i : InputWord). i.place < bound) ys
    → All (λ (i : InputWord). i.place < bound) (cond b (x ∷ xs) ys)
both bound true x xs ys here all _ = All-cons (λ (i : InputWord). i.place < bound) x xs here all
both bound false x xs ys here _ all = all

placed_from : (bound : ℕ) (items : List Said) (lazy whole : Bool) → All (λ (s : Said). s.at < bound) items → All (λ (i : InputWord). i.place < bound) (inputs_from lazy whole items)
unfolding lazy_behind whole_behind
placed_from bound [] lazy whole all = All-nil (λ (i : InputWord). i.place < bound)
placed_from bound (said ∷ items) lazy whole all =
    let rest = All-tail (λ (s : Said). s.at < bound) said items all in
    both bound (same said.kind Input) (record { place = said.at; lazy = lazy; whole = whole }) (inputs_from lazy whole items) (inputs_from (lazy_behind said lazy) (whole_behind said whole) items)
    (All-head (λ (s : Said). s.at < bound) said items all) (placed_from bound items lazy whole rest) (placed_from bound items (lazy_behind said lazy) (whole_behind said whole) rest)

-- inputs stand where their items do
pub placed : (bound : ℕ) (items : List Said) → All (λ (s : Said). s.at < bound) items → All (λ (i : InputWord). i.place < bound) (inputs items)
placed bound items all = placed_from bound items false false all

either : (b rest : Bool) (x : InputWord) (xs ys : List InputWord) → nat_lt 0 (length ys) ≡ rest → nat_lt 0 (length (cond b (x ∷ xs) ys)) ≡ (b || rest)
either true rest x xs ys _ = grind (arith, nat_tests)
either false rest x xs ys same = same

some_from : (items : List Said) (lazy whole : Bool) → nat_lt 0 (length (inputs_from lazy whole items)) ≡ has Input items
unfolding lazy_behind whole_behind
some_from [] lazy whole = refl
some_from (said ∷ items) lazy whole =
    either (same said.kind Input) (has Input items) (record { place = said.at; lazy = lazy; whole = whole }) (inputs_from lazy whole items) (inputs_from (lazy_behind said lazy) (whole_behind said whole) items)
    (some_from items (lazy_behind said lazy) (whole_behind said whole))

-- there are inputs where an item is one
pub some_input : (items : List Said) → nat_lt 0 (length (inputs items)) ≡ has Input items
some_input items = some_from items false false
