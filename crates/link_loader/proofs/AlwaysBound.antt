-- Where no window could ask for what a shared output doesn't have, by the symbols, none does.
use Rattle.std.proofs.Common.{◌≡◌, ℕ, zero, suc, ◌<◌, ◌==◌, ◌&&◌, ◌||◌, not, Bool, true, false, List, [], ◌∷◌, length, get_or, refl, sym, ap, ◌∙◌, arith}
use Rattle.std.specs.List.{list_all, All}
use Rattle.std.proofs.lemmas.Bool.{and_parts}
use Rattle.std.proofs.lemmas.List.Elements.{All-head, All-tail}
use Rattle.link_program.specs.wasm_types.declared.function.FuncType.{FuncType}
use Rattle.link_program.specs.reloc_section.declared.kinds.TheConstants as relocs
use Rattle.link_program.specs.declared.symbol.Lead.{Lead}
use Rattle.link_program.specs.declared.symbol.Lead.TheVariants as leads
use Rattle.link_program.specs.declared.symbol.Symbol.{Symbol}
use Rattle.link_program.specs.declared.named.Named.{Named}
use Rattle.link_program.specs.declared.named.Named.TheVariants as names
use Rattle.link_program.specs.declared.program.Tables.{Tables}
use Rattle.link_program.specs.Look.{row_at}
use Rattle.link_program.specs.Seen.{no_symbol, NamesOne}
use Rattle.link_loader.specs.Cells.{is_addressed}
use Rattle.link_loader.specs.Bound.{has_name, is_bound_by, is_bound, bound_part, is_always_bound}

either_so : (a b : Bool) → b ≡ true → a || b ≡ true
either_so true b is = refl
either_so false b is = is

by_lead : (kind : ℕ) (s : Symbol) (l : Lead) → is_always_bound s l ≡ true → is_bound_by kind s l ≡ true
by_lead kind s (leads.Here d) is = refl
by_lead kind s (leads.Import n) is = is
by_lead kind s leads.Null is = either_so (kind == relocs.FUNCTION_INDEX_LEB) (not (is_addressed s)) is
by_lead kind s leads.Nothing is = either_so (kind == relocs.FUNCTION_INDEX_LEB) (not (is_addressed s)) is

symbol_bound : (ss : List Symbol) → list_all (λ (s : Symbol). is_always_bound s s.lead) ss ≡ true → (n : ℕ) → n < length ss
    → is_always_bound (get_or ss n no_symbol) (get_or ss n no_symbol).lead ≡ true
symbol_bound [] all n below = absurd (omega (arith, below))
symbol_bound (s ∷ ss) all zero below = (and_parts (is_always_bound s s.lead) (list_all (λ (s : Symbol). is_always_bound s s.lead) ss) all).0
symbol_bound (s ∷ ss) all (suc n) below = symbol_bound ss (and_parts (is_always_bound s s.lead) (list_all (λ (s : Symbol). is_always_bound s s.lead) ss) all).1 n (omega (arith, below))

module _ (ss : List Symbol) (types : List FuncType) (all : list_all (λ (s : Symbol). is_always_bound s s.lead) ss ≡ true) where
  window_bound : (x : Named) → NamesOne ss types x → is_bound ss x ≡ true
  window_bound (names.Symbol kind place addend at) there = by_lead kind (get_or ss at no_symbol) (get_or ss at no_symbol).lead (symbol_bound ss all at there)
  window_bound (names.Type place number) there = refl

  both : (a b : Bool) → a ≡ true → b ≡ true → a && b ≡ true
  both true b p q = q
  both false b p q = absurd cc

  row_bound : (row : List Named) → All (NamesOne ss types) row → list_all (is_bound ss) row ≡ true
  row_bound [] there = refl
  row_bound (x ∷ row) there = both (is_bound ss x) (list_all (is_bound ss) row) (window_bound x (All-head (NamesOne ss types) x row there)) (row_bound row (All-tail (NamesOne ss types) x row there))

  abbrev There : List Named → Type 0
  There row = All (NamesOne ss types) row

  -- also where there is no part
  part_bound : (rows : List (List Named)) (n : ℕ) → All There rows → list_all (is_bound ss) (get_or rows n []) ≡ true
  part_bound [] n there = refl
  part_bound (row ∷ rows) zero there = row_bound row (All-head There row rows there)
  part_bound (row ∷ rows) (suc n) there = part_bound rows n (All-tail There row rows there)

  parts_bound : (rows : List (List Named)) (live : List ℕ) → All There rows → list_all (λ n. list_all (is_bound ss) (get_or rows n [])) live ≡ true
  parts_bound rows [] there = refl
  parts_bound rows (n ∷ live) there = both (list_all (is_bound ss) (get_or rows n [])) (list_all (λ m. list_all (is_bound ss) (get_or rows m [])) live) (part_bound rows n there) (parts_bound rows live there)

pub all_bound : (t : Tables) (live : List ℕ) → list_all (λ (s : Symbol). is_always_bound s s.lead) t.symbols ≡ true → All (λ row. All (NamesOne t.symbols t.types) row) t.named
    → true ≡ list_all (bound_part t) live
all_bound t live all there = sym (parts_bound t.symbols t.types all t.named live there)
