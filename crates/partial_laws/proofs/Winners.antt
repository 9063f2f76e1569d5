-- Names have the same winners where one object stands for a run.
use Rattle.std.proofs.Common.{◌≡◌, ℕ, Bool, true, false, ◌&&◌, nat_lt, List, [], ◌∷◌, map, filter, refl, sym, ap, ◌∙◌}
use Rattle.std.specs.Prelude.{bytes_eq, if◌then◌else◌, Option, Some, None, option_map, All}
use Rattle.std.proofs.lemmas.List.Elements.{All-head, All-tail}
use Rattle.name_rules.specs.Entries.{InputSymbol, name_of, is_entry, is_named, named, same_entry}
use Rattle.name_rules.specs.Meanings.{entry_rank, lesser, least, definitions, winner}
use Rattle.link_rules.specs.Program.{is_that, is_winner, winners_of}
use Rattle.partial_laws.specs.Joining.{Joining, joined, Kept, IsJoining}
use Rattle.partial_laws.proofs.Lists.{filter_all, filter_kept, both_all, filter_of_map, filter_twice, filter_where}
use Rattle.partial_laws.proofs.Same.{name_equal}
use Rattle.partial_laws.proofs.Leasts.{least_among, least_kept, least_none}

-- What keeps the order of ranks keeps the least.
pub least_moved : (f : InputSymbol → InputSymbol) (P : InputSymbol → Type 0)
    → ((a b : InputSymbol) → P a → P b → nat_lt (entry_rank (f a)) (entry_rank (f b)) ≡ nat_lt (entry_rank a) (entry_rank b))
    → (xs : List InputSymbol) → All P xs → least (map f xs) ≡ option_map f (least xs)
least_moved f P order [] all = refl
least_moved f P order (x ∷ xs) all = ap (lesser (f x)) (least_moved f P order xs (All-tail P x xs all)) ∙ by_rest (least xs) refl
  where
    by_test : (w : InputSymbol) (b : Bool) → (if b then Some (f w) else Some (f x)) ≡ option_map f (if b then Some w else Some x)
    by_test w true = refl
    by_test w false = refl

    by_rest : (o : Option InputSymbol) → least xs ≡ o → lesser (f x) (option_map f o) ≡ option_map f (lesser x o)
    by_rest None none = refl
    by_rest (Some w) some =
        ap (λ (b : Bool). if b then Some (f w) else Some (f x)) (order w x (least_among P xs w (All-tail P x xs all) some) (All-head P x xs all))
        ∙ by_test w (nat_lt (entry_rank w) (entry_rank x))

both : (a b : Bool) → (a && b) ≡ true → a ≡ true
both true b e = refl
both false b e = absurd cc

both_too : (a b : Bool) → (a && b) ≡ true → b ≡ true
both_too true b e = e
both_too false b e = absurd cc

implied : (d k m : Bool) → (k ≡ true → m ≡ true → d ≡ true) → (d && (k && m)) ≡ (k && m)
implied d true true h = rw (h refl refl) refl
implied true true false h = refl
implied false true false h = refl
implied true false m h = refl
implied false false m h = refl

and_swap : (a b : Bool) → (a && b) ≡ (b && a)
and_swap true true = refl
and_swap true false = refl
and_swap false true = refl
and_swap false false = refl

module _ (j : Joining) (S : InputSymbol → Type 0) where
  pub all_kept : (xs : List InputSymbol) → All S xs → All (Kept j S) (filter j.keep xs)
  all_kept xs held = filter_kept S (Kept j S) j.keep (λ x s k. record { symbol = s; kept = k }) xs held

  -- The entries of a name, where what is kept keeps its name.
  pub named_joined : ((e : InputSymbol) → Kept j S e → name_of (j.move e) ≡ name_of e) → (name : List ℕ) (xs : List InputSymbol) → All S xs
      → named (joined j xs) name ≡ map j.move (filter j.keep (named xs name))
  named_joined stays name xs held =
      filter_of_map j.move (is_named name) (filter j.keep xs)
      ∙ ap (map j.move) (filter_where (λ x. is_named name (j.move x)) (is_named name) (Kept j S) (λ x k. ap (λ n. bytes_eq n name) (stays x k)) (filter j.keep xs) (all_kept xs held)
      ∙ (filter_twice (is_named name) j.keep xs ∙ (swap xs ∙ sym (filter_twice j.keep (is_named name) xs))))
    where
      swap : (ys : List InputSymbol) → filter (λ x. j.keep x && is_named name x) ys ≡ filter (λ x. is_named name x && j.keep x) ys
      swap [] = refl
      swap (y ∷ ys) = rw (and_swap (j.keep y) (is_named name y), swap ys) refl

module _ (j : Joining) (S : InputSymbol → Type 0) (es : List InputSymbol) (is : IsJoining j S es) (all : All S es) where
  -- those that are kept and define it there too
  abbrev stays : InputSymbol → Bool
  stays e = j.keep e && (j.move e).defines

  -- an entry of this name, kept and defined there too
  record Defined (name : List ℕ) (e : InputSymbol) : Type 0 where
    kept : Kept j S e
    entry : is_entry e ≡ true
    named : name_of e ≡ name
    defines : (j.move e).defines ≡ true

  named_all : (name : List ℕ) → All S (named es name)
  named_all name = filter_all S (is_named name) es all

  definitions_joined : (name : List ℕ) → definitions (joined j es) name ≡ map j.move (filter stays (definitions es name))
  definitions_joined name =
      let ns : List InputSymbol = named es name in
      ap (filter (λ e. e.defines)) (named_joined j S is.name name es all)
      ∙ (filter_of_map j.move (λ e. e.defines) (filter j.keep ns)
      ∙ ap (map j.move) (filter_twice (λ e. (j.move e).defines) j.keep ns
      ∙ sym (filter_twice stays (λ e. e.defines) ns
      ∙ filter_where (λ e. e.defines && stays e) stays S (λ e s. implied e.defines (j.keep e) (j.move e).defines (λ k m. is.defines e (record { symbol = s; kept = k }) m)) ns (named_all name))))

  -- an entry of this name
  record Named (name : List ℕ) (e : InputSymbol) : Type 0 where
    symbol : S e
    entry : is_entry e ≡ true
    named : name_of e ≡ name

  named_entries : (name : List ℕ) → All (Named name) (named es name)
  named_entries name =
      filter_kept (λ e. S e × (is_entry e ≡ true)) (Named name) (is_named name) (λ e b t. record { symbol = b.0; entry = b.1; named = name_equal (name_of e) name t })
      es (both_all S (λ (e : InputSymbol). is_entry e ≡ true) es all is.entries)

  stay_defined : (name : List ℕ) → All (Defined name) (filter stays (definitions es name))
  stay_defined name =
      filter_kept (Named name) (Defined name) stays
      (λ e n t. record { kept = record { symbol = n.symbol; kept = both (j.keep e) (j.move e).defines t }; entry = n.entry; named = n.named; defines = both_too (j.keep e) (j.move e).defines t })
      (definitions es name) (filter_all (Named name) (λ e. e.defines) (named es name) (named_entries name))

  winner_is : (w : InputSymbol) (name : List ℕ) → winner es name ≡ Some w → S w
  winner_is w name some = least_among S (definitions es name) w (filter_all S (λ e. e.defines) (named es name) (named_all name)) some

  -- The winner of a name.
  pub winner_moves : (name : List ℕ) → winner (joined j es) name ≡ option_map j.move (winner es name)
  winner_moves name =
      let ds : List InputSymbol = definitions es name in
      ap least (definitions_joined name)
      ∙ (least_moved j.move (Defined name) (λ a b p q. is.order a b p.kept q.kept p.entry q.entry (p.named ∙ sym q.named) p.defines q.defines) (filter stays ds) (stay_defined name)
      ∙ ap (option_map j.move) (by_least (least ds) refl))
    where
      by_least : (o : Option InputSymbol) → least (definitions es name) ≡ o → least (filter stays (definitions es name)) ≡ least (definitions es name)
      by_least None none =
          let empty : definitions es name ≡ [] = least_none (definitions es name) none in
          ap (λ ys. least (filter stays ys)) empty ∙ ap least (sym empty)
      by_least (Some w) some =
          least_kept stays (definitions es name) w some (rw (is.winner_kept name w some, is.winner_defines name w some) refl) ∙ sym some

  -- The winners of all names.
  pub winners_move : winners_of (joined j es) ≡ map j.move (winners_of es)
  unfolding winners_of
  winners_move =
      filter_of_map j.move (is_winner (joined j es)) (filter j.keep es)
      ∙ ap (map j.move) (filter_where (λ e. is_winner (joined j es) (j.move e)) (is_winner es) (Kept j S) same (filter j.keep es) (all_kept j S es all)
      ∙ (filter_twice (is_winner es) j.keep es ∙ filter_where (λ e. j.keep e && is_winner es e) (is_winner es) S kept es all))
    where
      is_that_one : (e : InputSymbol) → Kept j S e → (o : Option InputSymbol) → winner es (name_of e) ≡ o → is_that (j.move e) (option_map j.move o) ≡ is_that e o
      is_that_one e k None none = refl
      is_that_one e k (Some w) some = is.apart e w k (record { symbol = winner_is w (name_of e) some; kept = is.winner_kept (name_of e) w some })

      same : (e : InputSymbol) → Kept j S e → is_winner (joined j es) (j.move e) ≡ is_winner es e
      same e k =
          ap (λ n. is_that (j.move e) (winner (joined j es) n)) (is.name e k)
          ∙ (ap (is_that (j.move e)) (winner_moves (name_of e)) ∙ is_that_one e k (winner es (name_of e)) refl)

      won : (e : InputSymbol) → S e → (o : Option InputSymbol) → winner es (name_of e) ≡ o → (j.keep e && is_that e o) ≡ is_that e o
      won e s None none = and_swap (j.keep e) false
      won e s (Some w) some = by_test (same_entry e w) refl
        where
          by_test : (b : Bool) → same_entry e w ≡ b → (j.keep e && b) ≡ b
          by_test true t =
              let it : e ≡ w = is.one e w s (winner_is w (name_of e) some) t in
              rw (ap j.keep it ∙ is.winner_kept (name_of e) w some) refl
          by_test false t = and_swap (j.keep e) false

      kept : (e : InputSymbol) → S e → (j.keep e && is_winner es e) ≡ is_winner es e
      kept e s = won e s (winner es (name_of e)) refl
