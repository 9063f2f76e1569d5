-- Items stand at the places of words.
use Rattle.std.proofs.Common.{◌≡◌, ◌<◌, ◌≤◌, ◌+◌, ℕ, List, [], ◌∷◌, ◌++◌, length, All, arith, subst, sym}
use Rattle.std.proofs.lemmas.Grind.{common_steps}
use Rattle.std.proofs.lemmas.List.Elements.{All-push}
use Rattle.link_words.specs.declared.cut.Next.{Next}
use Rattle.link_words.specs.Items.{Said}
use Rattle.link_words.specs.Cut.{WaitsBelow}

-- the items of words so far, and what waits for the next one
pub record ArePlaced (bound at : ℕ) (next : Next) (items : List Said) : Type 0 where
  pub count : length items ≤ at
  pub places : All (λ item. item.at < bound) items
  pub waits : WaitsBelow bound next

-- a word that says nothing yet
pub nothing : (bound at : ℕ) (next after : Next) (items now : List Said) → ArePlaced bound at next items → now ≡ items → WaitsBelow bound after → ArePlaced bound (at + 1) after now
nothing bound at next after items now placed is waits = subst (ArePlaced bound (at + 1) after) (sym is) (record {
  count = let h = placed.count in omega (arith, h);
  places = placed.places;
  waits = waits;
})

-- a word that says something
pub something : (bound at : ℕ) (next after : Next) (items now : List Said) (item : Said) → ArePlaced bound at next items → now ≡ items ++ item ∷ [] → item.at < bound → WaitsBelow bound after
    → ArePlaced bound (at + 1) after now
something bound at next after items now item placed is within waits = subst (ArePlaced bound (at + 1) after) (sym is) (record {
  count = let h = placed.count in grind (arith, common_steps, h);
  places = All-push (λ (i : Said). i.at < bound) items item placed.places within;
  waits = waits;
})
