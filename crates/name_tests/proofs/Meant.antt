-- What the first symbol of an object means can be asked for.
use Rattle.std.proofs.Common.{◌≡◌, ℕ, ◌<◌, List, [], ◌∷◌, length, get_or, refl, sym, subst, arith}
use Rattle.std.specs.Prelude.{slice_get}
use Rattle.std.specs.Option.{IsSome}
use Rattle.name_entries.specs.object_file.declared.object.Object.{Object}
use Rattle.name_entries.specs.name_rules.declared.meaning.Meaning.{Meaning}
use Rattle.name_meanings.specs.Means.{row_of}
use Rattle.name_unresolved.specs.Unresolved.{AreMeant}

some_first : {X : Type 0} (xs : List X) → 0 < length xs → IsSome (slice_get xs 0)
some_first [] some = absurd (omega arith)
some_first (x ∷ xs) some = refl

pub first_is_meant : (rows : List (List Meaning)) (objects : List Object) (at : ℕ) (o : Object)
    → AreMeant rows objects → at < length objects → o ≡ get_or objects at o → 0 < length o.symbols → IsSome (slice_get (row_of rows o.input) 0)
first_is_meant rows objects at o meant below is some =
    let has = λ (z : Object). length (row_of rows z.input) ≡ length z.symbols in
    let same : length (row_of rows o.input) ≡ length o.symbols = subst has (sym is) (meant at o below) in
    some_first (row_of rows o.input) (omega (arith, same, some))
