-- Each symbol of a resolution has a meaning.
use Rattle.std.proofs.Common.{◌≡◌, ℕ, zero, suc, ◌<◌, List, [], ◌∷◌, length, map, slice_get, get_or, refl, ap, ◌∙◌, arith, subst, Bool, ◌+◌}
use Rattle.std.specs.List.{AllZip}
use Rattle.std.specs.Option.{IsSome}
use Rattle.name_meanings.specs.name_entries.linking_section.declared.symbol.Symbol.{Symbol}
use Rattle.name_meanings.specs.name_entries.made_symbols.declared.mode.Mode.{Mode}
use Rattle.name_meanings.specs.name_entries.object_file.declared.object.Object.{Object}
use Rattle.name_meanings.specs.name_entries.name_rules.Entries.{InputSymbol, symbols_of, entries_from}
use Rattle.name_meanings.specs.name_entries.name_rules.Meanings.{meaning, resolve, resolved_in, uses_of, Resolved}
use Rattle.name_meanings.specs.Means.{Means, Answers, row_of, IsResolution}
use Rattle.name_unresolved.specs.Unresolved.{AreMeant}

some_at : {X : Type 0} (xs : List X) (i : ℕ) → i < length xs → IsSome (slice_get xs i)
some_at [] i below = absurd (omega arith)
some_at (x ∷ xs) zero below = refl
some_at (x ∷ xs) (suc i) below = some_at xs i (omega arith)

-- where a row is as long as the symbols, each has an answer
pub answered : {X Y : Type 0} (row : List X) (symbols : List Y) (i : ℕ) → length row ≡ length symbols → i < length symbols → IsSome (slice_get row i)
answered row symbols i same below = some_at row i (omega (arith, same, below))

zipped : {A B : Type 0} (R : A → B → Type 0) (xs : List A) (ys : List B) → AllZip R xs ys → length xs ≡ length ys
zipped R [] [] h = refl
zipped R [] (y ∷ ys) h = absurd h
zipped R (x ∷ xs) [] h = absurd h
zipped R (x ∷ xs) (y ∷ ys) h = ap suc (zipped R xs ys h.1)

entries_count : (objects : List Object) (o : Object) (place : ℕ) (ss : List Symbol) → length (entries_from objects o place ss) ≡ length ss
entries_count objects o place [] = refl
entries_count objects o place (s ∷ ss) = ap suc (entries_count objects o (place + 1) ss)

map_count : {A B : Type 0} (f : A → B) (xs : List A) → length (map f xs) ≡ length xs
map_count f [] = refl
map_count f (x ∷ xs) = ap suc (map_count f xs)

map_at : {A B : Type 0} (f : A → B) (xs : List A) (k : ℕ) (d : A) → get_or (map f xs) k (f d) ≡ f (get_or xs k d)
map_at f [] k d = refl
map_at f (x ∷ xs) zero d = refl
map_at f (x ∷ xs) (suc k) d = map_at f xs k d

pub are_meant : (mode : Mode) (allow : Bool) (all : List InputSymbol) (objects : List Object) (r : Answers)
    → IsResolution mode all r (resolve mode allow all objects) → AreMeant r.rows objects
unfolding resolve
are_meant mode allow all objects r is k d below =
    let uses = uses_of mode objects in
    let f = resolved_in mode uses allow all objects in
    let o = get_or objects k d in
    let at = is.meanings k (f d) (omega (arith, map_count f objects, below)) in
    let here = subst (λ (x : Resolved). AllZip (Means r.imports) (row_of r.rows x.object.input) x.meanings) (map_at f objects k d) at in
    zipped (Means r.imports) (row_of r.rows o.input) (map (meaning mode uses allow all) (symbols_of objects o)) here
    ∙ map_count (meaning mode uses allow all) (symbols_of objects o) ∙ entries_count objects o 0 o.symbols
