-- One custom section more, in the tables by place.
use Rattle.std.proofs.Common.{◌≡◌, ℕ, zero, suc, ◌≤◌, ◌+◌, ◌==◌, ◌<◌, List, [], ◌∷◌, ◌++◌, Bool, true, false, cond, refl, sym, ap, ◌∙◌, subst, length, map, filter, drop, replicate, get_or, slice_index_or, Option, Some, None}
use Rattle.std.specs.Prelude.{◌||◌, if◌then◌else◌}
use Rattle.std.specs.List.{list_any}
use Rattle.std.specs.Borrow.{Bor}
use Rattle.std.proofs.lemmas.List.{at_drop_more}
use Rattle.std.proofs.Math.ListN.{drop_of_length-le}
use Rattle.debug_rules.specs.Sections.{Custom, is_debug, is_relocs_for, payloads_for}
use Rattle.debug_rules.specs.Faults.{debug_places, relocs_in}
use Rattle.reloc_section.specs.declared.entry.Reloc.{Reloc}
use Rattle.linking_section.specs.declared.symbol.Symbol.{Symbol}
use Rattle.debug_out.specs.declared.refs.CustomRef.{CustomRef}
use Rattle.debug_out.specs.declared.refs.Payloads.{Payloads}
use Rattle.debug_out.specs.declared.refs.Payloads.TheVariants.{Nothing, One, More}
use Rattle.debug_out.specs.Refs.{custom_seen}
use Rattle.debug_out.specs.Targets.{targets, payloads_seen, two_at_most}

regrouped : (a b c : Bool) → ((a || b) || c) ≡ (a || (b || c))
regrouped true b c = refl
regrouped false b c = refl

places_step : (c : Custom) (cs : List Custom) (at : ℕ) (b : Bool) → is_debug c ≡ b
    → list_any (λ a. a == at) (debug_places (c ∷ cs)) ≡ (if b then ((c.at == at) || list_any (λ a. a == at) (debug_places cs)) else list_any (λ a. a == at) (debug_places cs))
places_step c cs at true is = ap (λ b. list_any (λ a. a == at) (map (λ (x : Custom). x.at) (cond b (c ∷ filter is_debug cs) (filter is_debug cs)))) is
places_step c cs at false is = ap (λ b. list_any (λ a. a == at) (map (λ (x : Custom). x.at) (cond b (c ∷ filter is_debug cs) (filter is_debug cs)))) is

module _ (all : List CustomRef) (i : ℕ) (d : CustomRef) (lt : i < length all) where
  -- a debug section more
  pub marked_more : (old new : List Bool) (whole : ℕ → Bool) → is_debug (custom_seen (get_or all i d)) ≡ true
      → ((k : ℕ) → slice_index_or new k false ≡ (slice_index_or old k false || ((get_or all i d).at == k)))
      → ((at : ℕ) → (slice_index_or old at false || list_any (λ a. a == at) (debug_places (map custom_seen (drop i all)))) ≡ whole at)
      → (at : ℕ) → (slice_index_or new at false || list_any (λ a. a == at) (debug_places (map custom_seen (drop (i + 1) all)))) ≡ whole at
  marked_more old new whole is put so_far at =
      let rest = list_any (λ a. a == at) (debug_places (map custom_seen (drop (i + 1) all))) in
      ap (λ b. b || rest) (put at)
      ∙ (regrouped (slice_index_or old at false) ((get_or all i d).at == at) rest
      ∙ (ap (λ b. slice_index_or old at false || b) (sym (places_step (custom_seen (get_or all i d)) (map custom_seen (drop (i + 1) all)) at true is))
      ∙ (sym (at_drop_more (λ (cs : List CustomRef). slice_index_or old at false || list_any (λ a. a == at) (debug_places (map custom_seen cs))) all i d lt)
      ∙ so_far at)))

  -- another section more
  pub unmarked_more : (old new : List Bool) (whole : ℕ → Bool) → is_debug (custom_seen (get_or all i d)) ≡ false → new ≡ old
      → ((at : ℕ) → (slice_index_or old at false || list_any (λ a. a == at) (debug_places (map custom_seen (drop i all)))) ≡ whole at)
      → (at : ℕ) → (slice_index_or new at false || list_any (λ a. a == at) (debug_places (map custom_seen (drop (i + 1) all)))) ≡ whole at
  unmarked_more old new whole is same so_far at =
      let rest = list_any (λ a. a == at) (debug_places (map custom_seen (drop (i + 1) all))) in
      ap (λ (bs : List Bool). slice_index_or bs at false || rest) same
      ∙ (ap (λ b. slice_index_or old at false || b) (sym (places_step (custom_seen (get_or all i d)) (map custom_seen (drop (i + 1) all)) at false is))
      ∙ (sym (at_drop_more (λ (cs : List CustomRef). slice_index_or old at false || list_any (λ a. a == at) (debug_places (map custom_seen cs))) all i d lt)
      ∙ so_far at))

payloads_step : (c : Custom) (cs : List Custom) (at : ℕ) (b : Bool) → is_relocs_for at c ≡ b
    → payloads_for at (c ∷ cs) ≡ (if b then c.content ∷ payloads_for at cs else payloads_for at cs)
payloads_step c cs at true is = ap (λ b. map (λ (x : Custom). x.content) (cond b (c ∷ filter (is_relocs_for at) cs) (filter (is_relocs_for at) cs))) is
payloads_step c cs at false is = ap (λ b. map (λ (x : Custom). x.content) (cond b (c ∷ filter (is_relocs_for at) cs) (filter (is_relocs_for at) cs))) is

module _ (all : List CustomRef) (i : ℕ) (d : CustomRef) (lt : i < length all) where
  -- a section more that holds relocations
  pub noted_more : (old new : List Payloads) (whole : ℕ → List (List ℕ)) (target : ℕ)
      → ((at : ℕ) → targets at (Some target) ≡ is_relocs_for at (custom_seen (get_or all i d)))
      → length new ≡ length old
      → ((k : ℕ) (more : List (List ℕ)) → k < length old → two_at_most (payloads_seen (slice_index_or new k Nothing) ++ more)
      ≡ two_at_most (payloads_seen (slice_index_or old k Nothing) ++ (if target == k then (get_or all i d).content.now ∷ more else more)))
      → ((at : ℕ) → at < length old → two_at_most (payloads_seen (slice_index_or old at Nothing) ++ payloads_for at (map custom_seen (drop i all))) ≡ whole at)
      → (at : ℕ) → at < length new → two_at_most (payloads_seen (slice_index_or new at Nothing) ++ payloads_for at (map custom_seen (drop (i + 1) all))) ≡ whole at
  noted_more old new whole target tells same put so_far at within =
      let c = custom_seen (get_or all i d) in
      let rest = map custom_seen (drop (i + 1) all) in
      let inside : at < length old = subst (λ n. at < n) same within in
      put at (payloads_for at rest) inside
      ∙ (ap (λ xs. two_at_most (payloads_seen (slice_index_or old at Nothing) ++ xs)) (sym (payloads_step c rest at (target == at) (sym (tells at))))
      ∙ (sym (at_drop_more (λ (cs : List CustomRef). two_at_most (payloads_seen (slice_index_or old at Nothing) ++ payloads_for at (map custom_seen cs))) all i d lt)
      ∙ so_far at inside))

  -- another section more
  pub passed_more : (old new : List Payloads) (whole : ℕ → List (List ℕ))
      → ((at : ℕ) → targets at None ≡ is_relocs_for at (custom_seen (get_or all i d)))
      → new ≡ old
      → ((at : ℕ) → at < length old → two_at_most (payloads_seen (slice_index_or old at Nothing) ++ payloads_for at (map custom_seen (drop i all))) ≡ whole at)
      → (at : ℕ) → at < length new → two_at_most (payloads_seen (slice_index_or new at Nothing) ++ payloads_for at (map custom_seen (drop (i + 1) all))) ≡ whole at
  passed_more old new whole tells same so_far at within =
      let c = custom_seen (get_or all i d) in
      let rest = map custom_seen (drop (i + 1) all) in
      let inside : at < length old = subst (λ (ps : List Payloads). at < length ps) same within in
      ap (λ (ps : List Payloads). two_at_most (payloads_seen (slice_index_or ps at Nothing) ++ payloads_for at rest)) same
      ∙ (ap (λ xs. two_at_most (payloads_seen (slice_index_or old at Nothing) ++ xs)) (sym (payloads_step c rest at false (sym (tells at))))
      ∙ (sym (at_drop_more (λ (cs : List CustomRef). two_at_most (payloads_seen (slice_index_or old at Nothing) ++ payloads_for at (map custom_seen cs))) all i d lt)
      ∙ so_far at inside))

-- what is kept of payloads is what is kept
pub kept_as_seen : (p : Payloads) → two_at_most (payloads_seen p ++ []) ≡ payloads_seen p
kept_as_seen Nothing = refl
kept_as_seen (One p) = refl
kept_as_seen More = refl

-- and it is enough for what is told of them
pub enough : (debug : List ℕ) (symbols : List Symbol) (len : ℕ) (ps : List (List ℕ)) → relocs_in debug symbols len (two_at_most ps) ≡ relocs_in debug symbols len ps
enough debug symbols len [] = refl
enough debug symbols len (p ∷ []) = refl
enough debug symbols len (p ∷ q ∷ more) = refl

pub told_by : (debug : List ℕ) (symbols : List Symbol) (len : ℕ) (found : Payloads) (ps : List (List ℕ)) (o : Option (List Reloc)) → payloads_seen found ≡ two_at_most ps
    → o ≡ relocs_in debug symbols len (payloads_seen found) → o ≡ relocs_in debug symbols len ps
told_by debug symbols len found ps o is told = told ∙ (ap (relocs_in debug symbols len) is ∙ enough debug symbols len ps)

-- ---- the last

or_false : (b : Bool) → b ≡ (b || false)
or_false true = refl
or_false false = refl

pub all_marked : (table : List Bool) (all : List CustomRef) (i : ℕ) → length all ≤ i
    → ((at : ℕ) → (slice_index_or table at false || list_any (λ a. a == at) (debug_places (map custom_seen (drop i all)))) ≡ list_any (λ a. a == at) (debug_places (map custom_seen all)))
    → (at : ℕ) → slice_index_or table at false ≡ list_any (λ a. a == at) (debug_places (map custom_seen all))
all_marked table all i le so_far at =
    or_false (slice_index_or table at false)
    ∙ (ap (λ (cs : List CustomRef). slice_index_or table at false || list_any (λ a. a == at) (debug_places (map custom_seen cs))) (sym (drop_of_length-le all le)) ∙ so_far at)

pub all_noted : (table : List Payloads) (all : List CustomRef) (i : ℕ) → length all ≤ i
    → ((at : ℕ) → at < length table → two_at_most (payloads_seen (slice_index_or table at Nothing) ++ payloads_for at (map custom_seen (drop i all))) ≡ two_at_most (payloads_for at (map custom_seen all)))
    → (at : ℕ) → at < length table → payloads_seen (slice_index_or table at Nothing) ≡ two_at_most (payloads_for at (map custom_seen all))
all_noted table all i le so_far at within =
    sym (kept_as_seen (slice_index_or table at Nothing))
    ∙ (ap (λ (cs : List CustomRef). two_at_most (payloads_seen (slice_index_or table at Nothing) ++ payloads_for at (map custom_seen cs))) (sym (drop_of_length-le all le)) ∙ so_far at within)
