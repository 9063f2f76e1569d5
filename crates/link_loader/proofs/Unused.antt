-- Where no symbol is imported by a name of which all entries are WEAK, no import is flagged.
use Rattle.std.proofs.Common.{◌≡◌, ℕ, zero, suc, Bool, true, List, [], ◌∷◌, ◌++◌, map, flat_map, fold, get_or, Option, Some, None, refl, sym, ap, ◌∙◌}
use Rattle.std.specs.Prelude.{if◌then◌else◌}
use Rattle.std.specs.List.{list_all}
use Rattle.std.proofs.lemmas.Bool.{and_parts}
use Rattle.link_program.specs.declared.symbol.Lead.{Lead}
use Rattle.link_program.specs.declared.symbol.Lead.TheVariants as leads
use Rattle.link_program.specs.declared.symbol.Symbol.{Symbol}
use Rattle.link_program.specs.declared.named.Named.{Named}
use Rattle.link_program.specs.declared.named.Named.TheVariants as names
use Rattle.link_program.specs.declared.program.Tables.{Tables}
use Rattle.link_program.specs.Look.{row_at}
use Rattle.link_program.specs.Seen.{no_symbol}
use Rattle.link_layout.specs.link_numbers.link_keys.Noted.{flagged}
use Rattle.link_loader.specs.Weak.{taken, weak_by, weak_use, part_uses, is_strong}
use Rattle.link_loader.proofs.Flagged.{folded}

module _ (strong : List Bool) (cells : List (Option ℕ)) where
  symbol_none : (kind at : ℕ) (s : Symbol) (l : Lead) (name : Option ℕ) → is_strong strong l name ≡ true → weak_by strong cells kind at s l name ≡ None
  symbol_none kind at s (leads.Here d) name is = refl
  symbol_none kind at s (leads.Import n) None is = refl
  symbol_none kind at s (leads.Import n) (Some k) is = ap (λ b. if b then None else taken cells kind at s n) is
  symbol_none kind at s leads.Null name is = refl
  symbol_none kind at s leads.Nothing name is = refl

  -- also where there is no symbol
  strong_at : (ss : List Symbol) → list_all (λ (s : Symbol). is_strong strong s.lead s.name) ss ≡ true → (n : ℕ) → is_strong strong (get_or ss n no_symbol).lead (get_or ss n no_symbol).name ≡ true
  strong_at [] all n = refl
  strong_at (s ∷ ss) all zero = (and_parts (is_strong strong s.lead s.name) (list_all (λ (s : Symbol). is_strong strong s.lead s.name) ss) all).0
  strong_at (s ∷ ss) all (suc n) = strong_at ss (and_parts (is_strong strong s.lead s.name) (list_all (λ (s : Symbol). is_strong strong s.lead s.name) ss) all).1 n

  module _ (ss : List Symbol) (all : list_all (λ (s : Symbol). is_strong strong s.lead s.name) ss ≡ true) where
    window_none : (x : Named) → weak_use strong cells ss x ≡ None
    window_none (names.Symbol kind place addend at) = symbol_none kind at (get_or ss at no_symbol) (get_or ss at no_symbol).lead (get_or ss at no_symbol).name (strong_at ss all at)
    window_none (names.Type place number) = refl

    row_none : (flags : List Bool) (row : List Named) → fold flagged flags (map (weak_use strong cells ss) row) ≡ flags
    row_none flags [] = refl
    row_none flags (x ∷ row) = ap (λ o. fold flagged (flagged flags o) (map (weak_use strong cells ss) row)) (window_none x) ∙ row_none flags row

-- nothing is flagged
pub none_used : (strong : List Bool) (cells : List (Option ℕ)) (t : Tables) (live : List ℕ) (flags : List Bool) → list_all (λ (s : Symbol). is_strong strong s.lead s.name) t.symbols ≡ true
    → flags ≡ fold flagged flags (flat_map (part_uses strong cells t) live)
none_used strong cells t [] flags all = refl
none_used strong cells t (n ∷ live) flags all =
    let mine = row_none strong cells t.symbols all flags (row_at t n) in
    let rest = none_used strong cells t live flags all in
    rest
    ∙ sym (folded flags (part_uses strong cells t n) (flat_map (part_uses strong cells t) live) ∙ ap (λ fs. fold flagged fs (flat_map (part_uses strong cells t) live)) mine)
