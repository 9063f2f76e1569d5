-- What each worker knows of a layout is one fact.
use Rattle.std.proofs.Common.{List}
use Rattle.std.specs.List.{All}
use Rattle.std.proofs.Props.{props}
use Rattle.link_program.specs.wasm_types.declared.function.FuncType.{FuncType}
use Rattle.link_program.specs.declared.symbol.Symbol.{Symbol}
use Rattle.link_program.specs.declared.named.Named.{Named}
use Rattle.link_program.specs.declared.named.Named.TheVariants as names
use Rattle.link_program.specs.Seen.{NamesOne}

names_prop : (symbols : List Symbol) (types : List FuncType) (n : Named) → IsProp (NamesOne symbols types n)
names_prop symbols types (names.Symbol kind place addend symbol) = Prim.hlevel props
names_prop symbols types (names.Type place number) = Prim.hlevel props

pub rows_prop : (symbols : List Symbol) (types : List FuncType) (rows : List (List Named)) → IsProp (All (λ row. All (NamesOne symbols types) row) rows)
rows_prop symbols types rows = let one = names_prop symbols types in Prim.hlevel (props, one)
