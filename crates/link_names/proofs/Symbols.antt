-- The number of a symbol.
use Rattle.std.proofs.Common.{◌≡◌, ℕ, ◌<◌, ◌==◌, List, [], length, true, false, sym, ap, ◌∙◌, Some, None, Result, Ok, Err, subst, arith}
use Rattle.std.specs.Prelude.{if◌then◌else◌}
use Rattle.std.proofs.lemmas.Bool.Decides.{nat_tests}
use Rattle.object_file.specs.linking_section.declared.symbol.Symbol.{Symbol}
use Rattle.object_file.specs.wl_base.Names.{Names, number_of}
use Rattle.object_file.specs.wl_base.declared.name_table.NameFault.{NameFault}
use Rattle.object_file.specs.wl_base.declared.name_table.NameFault.TheVariants.{TooMany, OutOfMemory}
use Rattle.link_names.specs.Numbered.{number_seen, symbol_number, is_entry_symbol, symbol_name}
use Rattle.link_names.specs.Interning.{more, Room, Gains, Takes, Tells, IsNumber, one, entry_name}

-- A symbol that is no entry has none, and nothing is gained.
pub no_entry : (s : Symbol) (t : Names) → is_entry_symbol s ≡ false → Room t → Takes (Tells symbol_number number_seen s) (let r : Result ℕ NameFault = Ok 4294967295 in r) t t (entry_name s)
no_entry s t none room =
    let names : entry_name s ≡ [] = ap (λ b. if b then one (symbol_name s) else []) none in (
      ((λ j. record { limit = t.limit; names = more t.names (sym names j) }), room),
      λ xs. sym (ap (λ b. if b then number_of (more t.names xs) (symbol_name s) else None) none),
    )

seen_below : (n : ℕ) → n < 4294967295 → number_seen n ≡ Some n
seen_below n small = let other : (n == 4294967295) ≡ false = grind (arith, nat_tests) in ap (λ b. if b then None else Some n) other

-- An entry has that of its name.
pub an_entry : (s : Symbol) (name : List ℕ) (r : Result ℕ NameFault) (old new : Names) → is_entry_symbol s ≡ true → symbol_name s ≡ name
    → Takes (IsNumber name) r old new (one name) → Takes (Tells symbol_number number_seen s) r old new (entry_name s)
an_entry s name (Ok n) old new is called told =
    let names : entry_name s ≡ one name = ap (λ b. if b then one (symbol_name s) else []) is ∙ ap one called in (
      subst (Gains old new) (sym names) told.0,
      λ xs. seen_below n told.1.0 ∙ told.1.1 xs ∙ sym (ap (λ b. if b then number_of (more new.names xs) (symbol_name s) else None) is ∙ ap (number_of (more new.names xs)) called),
    )
an_entry s name (Err TooMany) old new is called told =
    let names : entry_name s ≡ one name = ap (λ b. if b then one (symbol_name s) else []) is ∙ ap one called in
    subst (λ ys. old.limit < length (more old.names ys)) (sym names) told
an_entry s name (Err OutOfMemory) old new is called told = tt
