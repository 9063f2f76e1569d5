-- What the numbers of a partial link's symbols tell of what windows name.
use Rattle.std.specs.Prelude.{◌≡◌, ℕ, false, slice_index_or}
use Rattle.link_program.specs.name_rules.Entries.{InputSymbol}
use Rattle.link_program.specs.name_rules.Meanings.{Meaning}
use Rattle.link_program.specs.link_rules.Program.{Program}
use Rattle.link_program.specs.declared.program.Program.{Program as Data}
use Rattle.link_program.specs.Told.{told_symbol}
use Rattle.link_program.specs.Seen.{no_symbol}
use Rattle.link_program.specs.Stand.{IsSymbolOf}
use Rattle.link_program.specs.made_symbols.declared.mode.Mode.TheVariants.{Plain}
use Rattle.link_program.specs.Program.{IsProgramOf}
use Rattle.partial_rules.specs.Partial.{symbol_number}
use Rattle.partial_symbols.specs.Standing.{Stood}
use Rattle.partial_symbols.specs.Known.{AreStanding}
use Rattle.partial_symbols.specs.Referring.{number_for}

-- Where the symbol at a place of the tables is that of an object's symbol, as it is of each window's, its number is the one that the
-- definition gives.
abbrev pub NumbersAre : Type 0
NumbersAre =
    (d : Data) (p : Program) → IsProgramOf Plain d p → p.plan.loose_calls ≡ false → (s : Stood) → AreStanding p d.names.now.names s
    → (k : ℕ) (e : InputSymbol) (m : Meaning) → IsSymbolOf p.resolved e m → slice_index_or d.tables.now.symbols k no_symbol ≡ told_symbol d.names.now.names d.resolution.now.imports e m
    → number_for s d.tables.now.symbols k ≡ symbol_number p e
