-- Worked rows: what a shared output exports besides, and what its code can't have.
use Rattle.std.specs.Prelude.{◌≡◌, ℕ, true, false, [], ◌∷◌, Some, None, refl, pos}
use Rattle.link_program.specs.linking_section.declared.symbol.Symbol.{Symbol}
use Rattle.link_program.specs.linking_section.declared.symbol.SymbolKind.TheVariants.{Function, Datum}
use Rattle.link_program.specs.name_rules.declared.meaning.Meaning.TheVariants as told
use Rattle.link_program.specs.declared.symbol.Lead.TheVariants as leads
use Rattle.link_program.specs.declared.symbol.Symbol.{Symbol as Seen}
use Rattle.link_program.specs.declared.symbol.Winner.{Winner}
use Rattle.link_program.specs.declared.named.Named.TheVariants as names
use Rattle.link_marks.specs.Due.{is_due, reads_own_cell}
use Rattle.link_marks.specs.Fixed.{fixed_by}

-- ---- exports: a function of the linker's, of the number 0 or 1

abbrev made : ℕ → Winner
made number = record { definition = record { input = 0; place = number; kind = Function; index = number; offset = 0 }; name = number; flags = 4 }

calls_exported : is_due [] true true false (made 0) ≡ true
calls_exported = refl

no_calls : is_due [] true false true (made 0) ≡ false
no_calls = refl

work_exported : is_due [] true false true (made 1) ≡ true
work_exported = refl

no_work : is_due [] true true false (made 1) ≡ false
no_work = refl

-- ---- work: a cell of an own datum is read, and one of an import isn't

abbrev own_datum : Seen
own_datum = record { kind = Datum; name = None; lead = leads.Here (record { input = 1; place = 0; kind = Datum; index = 0; offset = 0 }) }

abbrev foreign_datum : Seen
foreign_datum = record { kind = Datum; name = None; lead = leads.Import 0 }

own_cell : reads_own_cell (own_datum ∷ foreign_datum ∷ []) (names.Symbol 7 3 (pos 0) 0) ≡ true
own_cell = refl

foreign_cell : reads_own_cell (own_datum ∷ foreign_datum ∷ []) (names.Symbol 7 3 (pos 0) 1) ≡ false
foreign_cell = refl

called : reads_own_cell (own_datum ∷ []) (names.Symbol 0 3 (pos 0) 0) ≡ false
called = refl

-- ---- relocations of code: the symbol 5 of the input 2, an undefined datum

abbrev undefined_datum : Symbol
undefined_datum = record { kind = Datum; flags = 0x10; name = Some (0x78 ∷ []); index = 0; offset = 0; size = 0 }

-- an address as a constant, whatever the symbol means
absolute_fixed : fixed_by 2 5 4 (Some (told.Made 6)) (Some undefined_datum) ≡ Some (2, 5, 4)
absolute_fixed = refl

-- one from `__memory_base` on of what the link defines, and of what it imports
relative_own : fixed_by 2 5 11 (Some (told.Made 6)) (Some undefined_datum) ≡ None
relative_own = refl

relative_foreign : fixed_by 2 5 11 (Some (told.Import 0)) (Some undefined_datum) ≡ Some (2, 5, 11)
relative_foreign = refl

-- a call of it
call_free : fixed_by 2 5 0 (Some (told.Import 0)) (Some undefined_datum) ≡ None
call_free = refl
