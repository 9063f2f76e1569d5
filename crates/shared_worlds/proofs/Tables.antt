-- The tables pair: null, but for the link's functions from the table's base on.
use Rattle.std.proofs.Common.{◌≡◌, ℕ, zero, suc, ◌+◌, List, [], ◌∷◌, ◌++◌, length, map, Option, Some, None, Bool, true, false, refl, sym, ap, ◌∙◌, subst, inl, inr, take, drop, replicate, arith}
use Rattle.std.specs.Prelude.{◌==◌, cond, filter, slice_get}
use Rattle.std.proofs.lemmas.Bool.{ne_eqb}
use Rattle.std.proofs.lemmas.List.{length-map}
use Rattle.list_places.specs.Has.{Has}
use Rattle.list_places.proofs.Lists.{has_filter}
use Rattle.wasm_types.specs.declared.const_expr.ConstExpr.TheVariants as constants
use Rattle.run_rules.specs.declared.value.Value.{Value}
use Rattle.run_rules.specs.declared.value.Value.TheVariants.{I32}
use Rattle.run_rules.specs.Modules.{with_elements, offset_in, slots_at}
use Rattle.sim_laws.specs.Pairs.{Renaming, Calls, Both, Each}
use Rattle.made_symbols.specs.declared.mode.Mode.TheVariants.{Shared}
use Rattle.live_mark.specs.Live.{ReachedLaw}
use Rattle.name_rules.specs.Entries.{InputSymbol}
use Rattle.link_rules.specs.Program.{Program, Part}
use Rattle.link_rules.specs.Marks.{live, refs_of}
use Rattle.link_rules.specs.Keys.{FunctionKey, same_function, functions, function_number, slots, is_taken, takes_slot, ref_function}
use Rattle.link_rules.specs.Values.{Layout, slot_count}
use Rattle.link_rules.specs.Output.{layout, elements}
use Rattle.link_worlds.specs.Names.{function_place, FunctionGets}
use Rattle.link_worlds.proofs.Keys.{functions_same}
use Rattle.shared_types.specs.Linked.{SharedLinkedBy}
use Rattle.shared_worlds.specs.Names.{renaming}
use Rattle.shared_worlds.proofs.Lists.{itself}
use Rattle.shared_worlds.proofs.Applied.{each_append}
use Rattle.shared_worlds.proofs.Gets.{function_gets}

abbrev nulls : ℕ → List (Option ℕ)
nulls n = replicate n None

module _ (r : Renaming) where
  abbrev Pairs : List (Option ℕ) → List (Option ℕ) → Type 0
  Pairs xs ys = Each (Both (Calls r)) xs ys

  front_pairs : (k n : ℕ) → Pairs (take k (nulls n)) (take k (nulls n))
  front_pairs zero zero = tt
  front_pairs zero (suc n) = tt
  front_pairs (suc k) zero = tt
  front_pairs (suc k) (suc n) = (tt, front_pairs k n)

  all_pairs : (n : ℕ) → Pairs (nulls n) (nulls n)
  all_pairs zero = tt
  all_pairs (suc n) = (tt, all_pairs n)

  back_pairs : (k n : ℕ) → Pairs (drop k (nulls n)) (drop k (nulls n))
  back_pairs zero zero = tt
  back_pairs zero (suc n) = (tt, all_pairs n)
  back_pairs (suc k) zero = tt
  back_pairs (suc k) (suc n) = back_pairs k n

-- what one element writes from a base on
module _ (number : FunctionKey → ℕ) (firsts : List Value) (base : ℕ) (given : slice_get firsts 2 ≡ Some (I32 base)) where
  abbrev written_by : List FunctionKey → Bool → List (Option ℕ) → List (Option ℕ)
  written_by ks b slots = with_elements firsts (cond b [] (record { table = None; offset = constants.Get 2; functions = map number ks } ∷ [])) slots

  split : (k : ℕ) (xs : List (Option ℕ)) → take k xs ++ [] ++ drop k xs ≡ xs
  split zero [] = refl
  split zero (x ∷ xs) = refl
  split (suc k) [] = refl
  split (suc k) (x ∷ xs) = ap (λ ys. x ∷ ys) (split k xs)

  whole : (k : ℕ) (xs : List (Option ℕ)) → take k xs ++ [] ++ drop (k + 0) xs ≡ xs
  whole k xs = let z : k + 0 ≡ k = omega arith in ap (λ n. take k xs ++ [] ++ drop n xs) z ∙ split k xs

  written_is : (ks : List FunctionKey) (slots : List (Option ℕ)) → written_by ks (length ks == 0) slots ≡ take base slots ++ map Some (map number ks) ++ drop (base + length ks) slots
  written_is [] slots = sym (whole base slots)
  written_is (k ∷ ks) slots =
      let n = length (k ∷ ks) in
      ap (λ b. written_by (k ∷ ks) b slots) (ne_eqb n 0 (λ z. absurd (omega arith)))
      ∙ ap (λ o. slots_at (offset_in o) (map number (k ∷ ks)) slots) given
      ∙ ap (λ q. take base slots ++ map Some (map number (k ∷ ks)) ++ drop (base + q) slots) (length-map (k ∷ ks) number)

module _ (law : ReachedLaw) (p : Program) (exports : List InputSymbol) (lk : SharedLinkedBy p exports) where
  abbrev parts : List Part
  parts = live p exports

  abbrev lay : Layout
  lay = layout Shared p (live p exports) exports

  abbrev ren : Renaming
  ren = renaming p (layout Shared p (live p exports) exports)

  slot_listed : (k : FunctionKey) → Has (slots Shared parts (functions Shared p parts)) k → Has (functions Shared p parts) k
  unfolding slots
  slot_listed k h = (has_filter (is_taken (map ref_function (filter (takes_slot Shared) (refs_of parts)))) (functions Shared p parts) k h).0

  slots_pair : (ks : List FunctionKey) → ((k : FunctionKey) → Has ks k → Has (functions Shared p parts) k)
      → Pairs ren (map (function_place p) ks) (map Some (map (function_number lay.numbers) ks))
  slots_pair [] f = tt
  slots_pair (k ∷ ks) f =
      (one (function_place p k) (function_gets law p exports lk k (itself same_function functions_same (functions Shared p parts) k (f k (inl refl)))), slots_pair ks (λ j h. f j (inr h)))
    where
      one : (o : Option ℕ) → FunctionGets ren o (function_number lay.numbers k) → Both (Calls ren) o (Some (function_number lay.numbers k))
      one None h = absurd h
      one (Some f) h = h

  -- entry by entry, from so many nulls
  pub table_pairs : (firsts : List Value) (base n : ℕ) → slice_get firsts 2 ≡ Some (I32 base)
      → Pairs ren (take base (nulls n) ++ map (function_place p) lay.numbers.slots ++ drop (base + slot_count lay) (nulls n)) (with_elements firsts (elements Shared p parts exports lay) (nulls n))
  unfolding layout
  table_pairs firsts base n given =
      let ks = lay.numbers.slots in
      subst (Pairs ren (take base (nulls n) ++ map (function_place p) ks ++ drop (base + length ks) (nulls n))) (sym (written_is (function_number lay.numbers) firsts base given ks (nulls n)))
      (each_append (Both (Calls ren)) (take base (nulls n) ++ map (function_place p) ks) (drop (base + length ks) (nulls n)) (take base (nulls n) ++ map Some (map (function_number lay.numbers) ks)) (drop (base + length ks) (nulls n))
      (each_append (Both (Calls ren)) (take base (nulls n)) (map (function_place p) ks) (take base (nulls n)) (map Some (map (function_number lay.numbers) ks)) (front_pairs ren base n) (slots_pair ks slot_listed))
      (back_pairs ren (base + length ks) n))
