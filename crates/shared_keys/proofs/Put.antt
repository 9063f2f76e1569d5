-- Steps of loops that put items behind others.
use Rattle.std.proofs.Common.{◌≡◌, ℕ, ◌+◌, ◌<◌, nat_eq, Bool, true, false, List, [], ◌∷◌, ◌++◌, map, filter, take, get_or, length, sym, ap, ◌∙◌, append_assoc}
use Rattle.std.proofs.lemmas.List.{map-append, take_more}
use Rattle.std.proofs.lemmas.List.Sums.{fold-append}
use Rattle.std.proofs.lemmas.List.Elements.{filter-append}
use Rattle.indexmap.specs.IndexSet.{insert_key, insert_all}
use Rattle.link_keys.specs.link_program.declared.keys.GotKey.{GotKey}
use Rattle.link_keys.specs.link_program.declared.keys.GlobalKey.{GlobalKey}
use Rattle.link_keys.specs.link_program.declared.keys.GlobalKey.TheVariants as globals
use Rattle.link_keys.specs.Lists.{numbers_below}
use Rattle.link_keys.proofs.Steps.{below_passes, below_fails}
use Rattle.shared_keys.specs.Lists.{is_own_cell, own_cells}

module _ (test : ℕ → Bool) (n : ℕ) (old now : List ℕ) (held : now ≡ insert_all nat_eq old (numbers_below test n)) where
  pub number_put : test n ≡ true → insert_key nat_eq now n ≡ insert_all nat_eq old (numbers_below test (n + 1))
  number_put is =
      ap (λ ns. insert_key nat_eq ns n) held
      ∙ sym (fold-append (insert_key nat_eq) old (numbers_below test n) (n ∷ []))
      ∙ ap (insert_all nat_eq old) (sym (below_passes test n is))

  pub number_kept : test n ≡ false → now ≡ insert_all nat_eq old (numbers_below test (n + 1))
  number_kept is = held ∙ ap (insert_all nat_eq old) (sym (below_fails test n is))

-- One cell more.
pub cells_more : (cells : List GotKey) (i : ℕ) (d : GotKey) → i < length cells → (old keys now : List GlobalKey) → keys ≡ old ++ own_cells (take i cells) → now ≡ keys ++ own_cells (get_or cells i d ∷ [])
    → now ≡ old ++ own_cells (take (i + 1) cells)
cells_more cells i d below old keys now held is =
    is ∙ ap (λ ks. ks ++ own_cells (get_or cells i d ∷ [])) held
    ∙ append_assoc old (own_cells (take i cells)) (own_cells (get_or cells i d ∷ []))
    ∙ ap (λ ks. old ++ ks)
    (sym (map-append globals.Got (filter is_own_cell (take i cells)) (filter is_own_cell (get_or cells i d ∷ [])))
    ∙ ap (map globals.Got) (sym (filter-append is_own_cell (take i cells) (get_or cells i d ∷ [])))
    ∙ ap own_cells (sym (take_more cells i d below)))
