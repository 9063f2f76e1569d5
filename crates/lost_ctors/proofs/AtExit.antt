-- The data tell of what is to be done at exit as the definition has it.
use Rattle.std.proofs.Common.{◌≡◌, ℕ, ◌==◌, Bool, true, false, not, cond, ◌&&◌, ◌||◌, List, [], ◌∷◌, slice_get, map, find, refl, sym, ap, subst, ◌∙◌, Option, Some, None, option_map, All, eq-eqb, ne_eqb}
use Rattle.std.specs.Prelude.{bytes_eq, codes, unwrap_or, option_and_then, IsSome}
use Rattle.std.specs.List.{list_any}
use Rattle.std.proofs.lemmas.Bool.{false_from_ne_true}
use Rattle.std.proofs.lemmas.List.Elements.{All-head, All-tail}
use Rattle.std.proofs.lemmas.Slice.Eq.{bytes_eq-Decides}
use Rattle.std.proofs.lemmas.Option.{same_Some}
use Rattle.link_marks.specs.link_program.wl_base.Names.{number_of}
use Rattle.link_marks.specs.link_program.linking_section.Flags.{is_weak, has_bit}
use Rattle.link_marks.specs.link_program.link_names.Numbered.{Held}
use Rattle.link_marks.specs.link_program.name_rules.Entries.{InputSymbol, ImportKey, name_of, is_named}
use Rattle.link_marks.specs.link_program.link_rules.Program as rules
use Rattle.link_marks.specs.link_program.link_rules.Program.{chunk_of}
use Rattle.link_marks.specs.link_program.link_rules.Marks as marks
use Rattle.link_marks.specs.link_program.link_rules.Marks.{strong_winner, loses_exits}
use Rattle.link_marks.specs.link_program.declared.program.Tables.{Tables}
use Rattle.link_marks.specs.link_program.Told.{told_winner, name_number}
use Rattle.link_marks.specs.link_program.Program.{AreTables}
use Rattle.link_marks.proofs.link_program_lemmas.name_entries_lemmas.Numbered.{named_by}
use Rattle.link_marks.specs.Seen.{number_in}
use Rattle.link_marks.proofs.Targets.{defined}
use Rattle.lost_ctors.specs.declared.alive.Alive.{Alive}
use Rattle.lost_ctors.specs.Alive.{alive_of, parts_of, AreAlive}
use Rattle.lost_ctors.specs.Exits.{strong_by, strong_seen, lives_with, is_live, lives_itself, exits_lost}
use Rattle.lost_ctors.proofs.Summed.{lives_any}
use Rattle.lost_ctors.proofs.Numbers.{is_own, some_of, own_lives}

no_name : IsSome {T = ℕ} None → ⊥
no_name h = cc

module _ (names : List (List ℕ)) where
  -- the number of a held name is this one where the name is
  number_is : (e : InputSymbol) (name : List ℕ) (n : ℕ) → Held names (name_of e) → number_of names name ≡ Some n → (name_number names e == n) ≡ is_named name e
  number_is e name n held at = by (number_of names (name_of e)) refl held
    where
      by : (o : Option ℕ) → number_of names (name_of e) ≡ o → IsSome o → (unwrap_or o 0 == n) ≡ is_named name e
      by None is some = absurd (no_name some)
      by (Some k) is some = same (bytes_eq (name_of e) name) refl
        where
          same : (b : Bool) → bytes_eq (name_of e) name ≡ b → (k == n) ≡ b
          same true is_so =
              let equal : name_of e ≡ name = (bytes_eq-Decides (name_of e) name).0 is_so in
              eq-eqb k n (same_Some k n (sym is ∙ ap (number_of names) equal ∙ at))
          same false not_so = ne_eqb k n (λ e'.
              let equal : name_of e ≡ name = same_Some (name_of e) name (sym (named_by names (name_of e) k is) ∙ ap (slice_get names) e' ∙ named_by names name n at) in
              let z : true ≡ false = sym ((bytes_eq-Decides (name_of e) name).1 equal) ∙ not_so in
              absurd (let f : ⊥ = cc in f))

  not_named : (e : InputSymbol) (name : List ℕ) → Held names (name_of e) → number_of names name ≡ None → is_named name e ≡ false
  not_named e name held none = false_from_ne_true (is_named name e) (λ is_so.
      let equal : name_of e ≡ name = (bytes_eq-Decides (name_of e) name).0 is_so in
      no_name (subst (λ (o : Option ℕ). IsSome o) (ap (number_of names) equal ∙ none) held))

  strong_none : (name : List ℕ) → number_of names name ≡ None → (es : List InputSymbol) → All (λ e. Held names (name_of e)) es → find (λ e. is_named name e && not (is_weak e.symbol)) es ≡ None
  strong_none name none [] all = refl
  strong_none name none (e ∷ es) all =
      ap (λ b. cond (b && not (is_weak e.symbol)) (Some e) (find (λ e. is_named name e && not (is_weak e.symbol)) es)) (not_named e name (All-head (λ e. Held names (name_of e)) e es all) none)
      ∙ strong_none name none es (All-tail (λ e. Held names (name_of e)) e es all)

  strong_some : (name : List ℕ) (n : ℕ) → number_of names name ≡ Some n → (es : List InputSymbol) → All (λ e. Held names (name_of e)) es
      → strong_by (map (told_winner names) es) n ≡ option_map (told_winner names) (find (λ e. is_named name e && not (is_weak e.symbol)) es)
  strong_some name n at [] all = refl
  strong_some name n at (e ∷ es) all =
      ap (λ b. cond (b && not (has_bit 0x01 e.symbol.flags)) (Some (told_winner names e)) (strong_by (map (told_winner names) es) n)) (number_is e name n (All-head (λ e. Held names (name_of e)) e es all) at)
      ∙ by (is_named name e && not (is_weak e.symbol)) (strong_some name n at es (All-tail (λ e. Held names (name_of e)) e es all))
    where
      by : (b : Bool) → strong_by (map (told_winner names) es) n ≡ option_map (told_winner names) (find (λ e. is_named name e && not (is_weak e.symbol)) es)
          → cond b (Some (told_winner names e)) (strong_by (map (told_winner names) es) n) ≡ option_map (told_winner names) (cond b (Some e) (find (λ e. is_named name e && not (is_weak e.symbol)) es))
      by true rest = refl
      by false rest = rest

  strong_is : (name : List ℕ) (es : List InputSymbol) → All (λ e. Held names (name_of e)) es
      → strong_seen names (map (told_winner names) es) name ≡ option_map (told_winner names) (find (λ e. is_named name e && not (is_weak e.symbol)) es)
  strong_is name es all = by (number_of names name) refl
    where
      by : (o : Option ℕ) → number_of names name ≡ o → option_and_then (strong_by (map (told_winner names) es)) o ≡ option_map (told_winner names) (find (λ e. is_named name e && not (is_weak e.symbol)) es)
      by None none = sym (ap (option_map (told_winner names)) (strong_none name none es all))
      by (Some n) at = strong_some name n at es all

module _ (names : List (List ℕ)) (imports : List ImportKey) (t : Tables) (p : rules.Program) (are : AreTables names imports t p)
    (numbers : List ℕ) (parts : List rules.Part) (is : map (slice_get p.parts) numbers ≡ map Some parts) (alive : List Alive) (column : AreAlive t numbers alive) where
  with_is : (o : Option InputSymbol) → lives_with alive (option_map (told_winner names) o) ≡ marks.lives_with parts o
  with_is None = refl
  with_is (Some e) = lives_any (alive_of alive e.input) (parts_of t e.input numbers) (column e.input) ∙ some_of names imports t p are e.input numbers parts is

  none_own : (ns : List ℕ) → false ≡ list_any (is_own names imports t p are None) ns
  none_own [] = refl
  none_own (n ∷ ns) = none_own ns

  live_is : (o : Option ℕ) → is_live numbers o ≡ list_any (is_own names imports t p are o) numbers
  live_is None = none_own numbers
  live_is (Some n) = refl

  itself_is : (o : Option InputSymbol) → lives_itself t.chunks numbers (option_map (told_winner names) o) ≡ marks.lives_itself parts o
  itself_is None = refl
  itself_is (Some e) =
      ap (is_live numbers) (defined t.chunks e) ∙ live_is (number_in t.chunks (chunk_of e)) ∙ own_lives names imports t p are (chunk_of e) numbers parts is

  pub exits_are : All (λ e. Held names (name_of e)) p.winners → exits_lost names t.winners t.chunks alive numbers ≡ loses_exits p parts
  exits_are held =
      let first = ap (lives_with alive) (ap (λ ws. strong_seen names ws (codes "__funcs_on_exit")) are.winners ∙ strong_is names (codes "__funcs_on_exit") p.winners held) ∙ with_is (strong_winner p (codes "__funcs_on_exit")) in
      let second = ap (lives_itself t.chunks numbers) (ap (λ ws. strong_seen names ws (codes "__stdio_exit")) are.winners ∙ strong_is names (codes "__stdio_exit") p.winners held) ∙ itself_is (strong_winner p (codes "__stdio_exit")) in
      λ i. first i || second i
