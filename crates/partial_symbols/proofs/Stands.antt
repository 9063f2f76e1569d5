-- Which symbols stand, by what is known of names, is what the definition says.
use Rattle.std.proofs.Common.{◌≡◌, ℕ, ◌==◌, Bool, true, false, not, ◌&&◌, List, get_or, Option, Some, None, option_map, refl, sym, ap, ◌∙◌}
use Rattle.std.specs.Prelude.{if◌then◌else◌}
use Rattle.link_program.specs.wl_base.Names.{number_of}
use Rattle.link_program.specs.linking_section.declared.symbol.SymbolKind.TheVariants.{Section}
use Rattle.link_program.specs.name_rules.Entries.{InputSymbol, is_entry, is_kind, name_of}
use Rattle.link_program.proofs.name_entries_lemmas.Numbers.{name_at}
use Rattle.link_program.specs.link_rules.Program.{Program, is_that}
use Rattle.partial_rules.specs.Partial as partial
use Rattle.partial_symbols.specs.declared.facts.Fact.{Fact}
use Rattle.partial_symbols.specs.Facts.{fact_of}
use Rattle.partial_symbols.specs.Standing.{Sight, is_at, column_at, is_referenced, stands_for, stands_by, stands}
use Rattle.partial_symbols.specs.Known.{entry_spot, IsSight}
use Rattle.partial_symbols.proofs.Held.{HeldWhere, numbered}

module _ (p : Program) (names : List (List ℕ)) (v : Sight) (is : IsSight p names v) where
  is_there : (f : Fact) (e : InputSymbol) → f.input ≡ e.input → f.place ≡ e.place → (o : Option InputSymbol) → is_at f (option_map entry_spot o) ≡ is_that e o
  is_there f e input place None = refl
  is_there f e input place (Some w) = λ i. (input i == w.input) && (place i == w.place)

  entry_stands : (object : ℕ) (e : InputSymbol) (n : ℕ) → number_of names (name_of e) ≡ Some n
      → stands_for v (fact_of names object e) n (get_or v.winners n None) ≡ partial.stands_for_name p e (partial.object_winner p (name_of e))
  entry_stands object e n found =
      let f : Fact = fact_of names object e in
      let at = name_at names (name_of e) n found in
      ap (stands_for v f n) (is.winner n (name_of e) at) ∙ by (partial.object_winner p (name_of e))
    where
      by : (o : Option InputSymbol) → stands_for v (fact_of names object e) n (option_map entry_spot o) ≡ partial.stands_for_name p e o
      by (Some w) = refl
      by None =
          let f : Fact = fact_of names object e in
          let at = name_at names (name_of e) n found in
          let a : is_at f (column_at v n).least ≡ is_that e (partial.least_in_object p (name_of e)) = ap (is_at f) (is.least n (name_of e) at) ∙ is_there f e refl refl (partial.least_in_object p (name_of e)) in
          let b : is_referenced v n ≡ partial.is_referenced p (name_of e) = is.referenced n (name_of e) at in
          λ i. a i && b i

  pub stands_seen : (object : ℕ) (e : InputSymbol) → HeldWhere names e → stands v (fact_of names object e) ≡ partial.stands p e
  stands_seen object e held = by (is_entry e) refl
    where
      by : (b : Bool) → is_entry e ≡ b → stands v (fact_of names object e) ≡ partial.stands p e
      by false is_not =
          ap (λ b. stands_by v (fact_of names object e) (if b then number_of names (name_of e) else None)) is_not
          ∙ sym (ap (λ b. if b then partial.stands_for_name p e (partial.object_winner p (name_of e)) else (e.defines && not (is_kind Section e))) is_not)
      by true is_one =
          let k = numbered names (name_of e) (held is_one) in
          ap (λ b. stands_by v (fact_of names object e) (if b then number_of names (name_of e) else None)) is_one
          ∙ (ap (stands_by v (fact_of names object e)) k.1
          ∙ (entry_stands object e k.0 k.1
          ∙ sym (ap (λ b. if b then partial.stands_for_name p e (partial.object_winner p (name_of e)) else (e.defines && not (is_kind Section e))) is_one)))
