-- The words of an item, and then those of the items behind it.
use Rattle.std.proofs.Common.{◌≡◌, ◌<◌, ◌+◌, ℕ, Bool, IsTrue, List, ◌∷◌, length, get_or, drop, Option, Some, None, Err, sym, ap, ◌∙◌}
use Rattle.std.proofs.lemmas.List.{drop_more}
use Rattle.wl_outside.specs.Shelf.{Shown, Same, Grows}
use Rattle.driver_table.specs.declared.meaning.Meaning.{Meaning}
use Rattle.driver_table.specs.Items.{Said}
use Rattle.driver_table.specs.Cut.{behind}
use Rattle.driver_words.specs.Translated.{World}
use Rattle.driver_words.specs.Inputs.{given_by, inside_after, whole_after, and_then, inputs_from, outcome}
use Rattle.driver_words.proofs.Held.{still_tells}
use Rattle.driver_words.proofs.Steps.{Words, goes_on, is_refused}
use Rattle.driver_words.proofs.Worlds.{given_same}

first_is : (held : World) (folders : List (List ℕ)) (inside whole : Bool) (items : List Said) (i : ℕ) (said : Said) → i < length items → said ≡ get_or items i said
    → inputs_from held folders inside whole (drop i items)
    ≡ and_then (given_by held folders inside whole said.meaning said.value) (inputs_from held folders (inside_after inside said.meaning) (whole_after whole said.meaning) (drop (i + 1) items))
first_is held folders inside whole items i said below is =
    let one : drop i items ≡ said ∷ drop (i + 1) items = drop_more items i said below ∙ ap (λ (s : Said). s ∷ drop (i + 1) items) (sym is) in
    ap (λ (left : List Said). inputs_from held folders inside whole left) one

-- the item's words were put
pub is_put : (old mid : Shown) (folders : List (List ℕ)) (inside whole inside_now whole_now : Bool) (items : List Said) (i : ℕ) (said : Said) (words new : List (List ℕ)) (refusal : Option (List ℕ)) (all : Words)
    → i < length items → said ≡ get_or items i said → Same old mid → Grows old mid
    → (IsTrue old.tells → behind words (inputs_from old.held folders inside whole (drop i items)) ≡ all)
    → (IsTrue mid.tells → outcome refusal new ≡ behind words (given_by mid.held folders inside whole said.meaning said.value)) → refusal ≡ None
    → inside_now ≡ inside_after inside said.meaning → whole_now ≡ whole_after whole said.meaning
    → IsTrue old.tells → behind new (inputs_from old.held folders inside_now whole_now (drop (i + 1) items)) ≡ all
is_put old mid folders inside whole inside_now whole_now items i said words new refusal all below is same grows so_far put none inside_is whole_is tells =
    let given = given_by old.held folders inside whole said.meaning said.value in
    let left = drop (i + 1) items in
    let rest = inputs_from old.held folders (inside_after inside said.meaning) (whole_after whole said.meaning) left in
    let here : outcome None new ≡ behind words given =
    sym (ap (λ (o : Option (List ℕ)). outcome o new) none) ∙ put (still_tells old mid grows tells)
    ∙ ap (λ (r : Words). behind words r) (given_same old mid folders inside whole said.meaning said.value same tells) in
    ap (λ (b : Bool). behind new (inputs_from old.held folders b whole_now left)) inside_is
    ∙ ap (λ (b : Bool). behind new (inputs_from old.held folders (inside_after inside said.meaning) b left)) whole_is
    ∙ goes_on words new given rest here ∙ ap (λ (r : Words). behind words r) (sym (first_is old.held folders inside whole items i said below is)) ∙ so_far tells

-- the item was refused
pub was_refused : (old mid : Shown) (folders : List (List ℕ)) (inside whole : Bool) (items : List Said) (i : ℕ) (said : Said) (words new : List (List ℕ)) (refusal : Option (List ℕ)) (text : List ℕ) (all : Words)
    → i < length items → said ≡ get_or items i said → Same old mid → Grows old mid
    → (IsTrue old.tells → behind words (inputs_from old.held folders inside whole (drop i items)) ≡ all)
    → (IsTrue mid.tells → outcome refusal new ≡ behind words (given_by mid.held folders inside whole said.meaning said.value)) → refusal ≡ Some text
    → IsTrue old.tells → (let r : Words = Err text in r ≡ all)
was_refused old mid folders inside whole items i said words new refusal text all below is same grows so_far put some tells =
    let given = given_by old.held folders inside whole said.meaning said.value in
    let rest = inputs_from old.held folders (inside_after inside said.meaning) (whole_after whole said.meaning) (drop (i + 1) items) in
    let here : outcome (Some text) new ≡ behind words given =
    sym (ap (λ (o : Option (List ℕ)). outcome o new) some) ∙ put (still_tells old mid grows tells)
    ∙ ap (λ (r : Words). behind words r) (given_same old mid folders inside whole said.meaning said.value same tells) in
    is_refused text words new given rest here ∙ ap (λ (r : Words). behind words r) (sym (first_is old.held folders inside whole items i said below is)) ∙ so_far tells

-- what a meaning gives is what the item gives that has it
pub given_is : (held : World) (folders : List (List ℕ)) (inside whole : Bool) (m : Meaning) (said : Said) (words : List (List ℕ)) (all : Words) → m ≡ said.meaning
    → all ≡ behind words (given_by held folders inside whole m said.value) → all ≡ behind words (given_by held folders inside whole said.meaning said.value)
given_is held folders inside whole m said words all meant is = is ∙ ap (λ (k : Meaning). behind words (given_by held folders inside whole k said.value)) meant
