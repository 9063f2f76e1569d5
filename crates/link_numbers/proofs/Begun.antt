-- What a program that is told gives.
use Rattle.std.proofs.Common.{◌≡◌, ℕ, ◌++◌, List, map, length, Option, Some, None, option_map, refl, Result, Ok, Err, ap, sym, subst, ◌∙◌}
use Rattle.std.specs.Prelude.{IfOk}
use Rattle.std.specs.List.{All}
use Rattle.std.proofs.lemmas.List.{length-map}
use Rattle.link_keys.specs.link_program.object_file.declared.object.Object.{Object}
use Rattle.link_keys.specs.link_program.wl_base.declared.layout_error.LayoutError.{LayoutError}
use Rattle.link_keys.specs.link_program.made_symbols.declared.mode.Mode.{Mode}
use Rattle.link_keys.specs.link_program.made_symbols.declared.mode.Mode.TheVariants.{Plain, Shared}
use Rattle.link_keys.specs.link_program.name_rules.Entries.{InputSymbol}
use Rattle.link_keys.specs.link_program.link_names.Numbered.{Numbered as Names, symbol_number}
use Rattle.link_keys.specs.link_program.name_entries.declared.lookups.Entries.{Entries}
use Rattle.link_keys.specs.link_program.name_entries.Fits.{FitsObjects}
use Rattle.link_keys.specs.link_program.table_layout.Slots.{table_overflow}
use Rattle.link_keys.specs.link_program.link_rules.Program as rules
use Rattle.link_keys.specs.link_program.link_rules.Marks.{refs_of}
use Rattle.link_keys.specs.link_program.link_rules.LinkOf.{asked_names}
use Rattle.link_keys.specs.link_program.link_rules.Keys.{numbers}
use Rattle.link_keys.specs.link_program.declared.program.Program.{Program}
use Rattle.link_keys.specs.link_program.declared.symbol.Winner.{Winner}
use Rattle.link_keys.specs.link_program.Told.{told_winner}
use Rattle.link_keys.specs.link_program.Keys.{told_function}
use Rattle.link_keys.specs.link_program.Program.{IsProgramOf}
use Rattle.link_keys.specs.link_program.Stand.{PartsStand}
use Rattle.link_keys.specs.link_program.Live.{AreLive, AllMeant}
use Rattle.link_numbers.specs.Numbered.{Numbered, IsNumbering, TellsOverflow, numbered}
use Rattle.link_keys.specs.link_program.declared.keys.GlobalKey.{GlobalKey}
use Rattle.shared_keys.specs.Cells.{OneEach}
use Rattle.shared_keys.specs.Lists.{globals_listed}
use Rattle.link_numbers.specs.Laws.{AreImported, TellsNumbers, KnowsRefOf}
use Rattle.link_numbers.specs.SharedNumbered.{shared_noted, all_functions, all_slots, all_types, shared_with, shared_numbered}
use Rattle.link_numbers.proofs.Whole.{Given, numbering_is, tells_numbers, knows_refs}
use Rattle.link_numbers.proofs.SharedWhole.{one_each, globals_are, slots_are as shared_slots_are, numbering_is as shared_numbering, tells_numbers as shared_tells, knows_refs as shared_knows}

-- The names have a row for each object.
pub a_row_each : (es : Entries) (n : Names) → FitsObjects es → es.names.now ≡ n → length n.symbols ≡ length es.objects.now
a_row_each es n f same =
    sym (ap (λ (x : Names). length x.symbols) same)
    ∙ ap (λ (rows : List (List (Option ℕ))). length rows) f.symbols
    ∙ length-map es.objects.now (λ (o : Object). map (symbol_number es.names.now.names) o.symbols)

module _ {mode : Mode} (d : Program) (p : rules.Program) (live : List ℕ) (parts : List rules.Part) (is : IsProgramOf mode d p) (stand : PartsStand p) (are : AreLive p live parts) (meant : AllMeant parts) where
  pub given_of : Given mode d.names.now.names (asked_names p.plan ++ p.plan.exports_if) d.resolution.now.imports d.tables.now d.names.now.symbols p live parts
  given_of = record {
    tables = is.tables;
    from = is.entries;
    means = is.resolved;
    order = is.order;
    apart = is.apart;
    variants = is.variants_are;
    all_imports = is.imports;
    numbers = is.numbers.symbols;
    are = are.are;
    stand = stand;
    meant = meant;
  }

module _ (d : Program) (p : rules.Program) (live : List ℕ) (parts : List rules.Part) (is : IsProgramOf Plain d p) (stand : PartsStand p) (are : AreLive p live parts) (meant : AllMeant parts) where
  -- The numbers that the data give, for these objects and exports.
  pub numbered_is : (objects : List Object) (exports : List Winner) (es : List InputSymbol) → objects ≡ d.objects.now → exports ≡ map (told_winner d.names.now.names) es
      → IsNumbering d.names.now.names d.resolution.now.imports d.tables.now.types p parts (numbered d.resolution.now.imports (length d.names.now.names) d.tables.now objects d.names.now.symbols exports live) (numbers Plain p parts es)
  numbered_is objects exports es same told =
      subst (λ os. IsNumbering d.names.now.names d.resolution.now.imports d.tables.now.types p parts (numbered d.resolution.now.imports (length d.names.now.names) d.tables.now os d.names.now.symbols exports live) (numbers Plain p parts es))
      (sym (same ∙ is.objects)) (numbering_is (given_of d p live parts is stand are meant) exports es told)

  pub overflow_is : (objects : List Object) (exports : List Winner) (es : List InputSymbol) → objects ≡ d.objects.now → exports ≡ map (told_winner d.names.now.names) es
      → table_overflow 1 (length (numbered d.resolution.now.imports (length d.names.now.names) d.tables.now objects d.names.now.symbols exports live).slots) ≡ table_overflow (numbers Plain p parts es).first_slot (length (numbers Plain p parts es).slots)
  overflow_is objects exports es same told =
      let n = numbered_is objects exports es same told in
      ap (table_overflow 1) (ap length n.slots ∙ length-map (numbers Plain p parts es).slots (told_function d.names.now.names d.resolution.now.imports))

  pub told_numbers : (objects : List Object) (exports : List Winner) (es : List InputSymbol) → objects ≡ d.objects.now → exports ≡ map (told_winner d.names.now.names) es
      → (n : Numbered) → n ≡ numbered d.resolution.now.imports (length d.names.now.names) d.tables.now objects d.names.now.symbols exports live
      → IsNumbering d.names.now.names d.resolution.now.imports d.tables.now.types p parts n (numbers Plain p parts es)
  told_numbers objects exports es same told n given =
      subst (λ (n : Numbered). IsNumbering d.names.now.names d.resolution.now.imports d.tables.now.types p parts n (numbers Plain p parts es)) (sym given) (numbered_is objects exports es same told)

  pub told_overflow : (objects : List Object) (exports : List Winner) (es : List InputSymbol) → objects ≡ d.objects.now → exports ≡ map (told_winner d.names.now.names) es
      → {A : Type 0} (r : Result A LayoutError) → TellsOverflow r (table_overflow 1 (length (numbered d.resolution.now.imports (length d.names.now.names) d.tables.now objects d.names.now.symbols exports live).slots))
      → TellsOverflow r (table_overflow (numbers Plain p parts es).first_slot (length (numbers Plain p parts es).slots))
  told_overflow objects exports es same told r tells = subst (λ (end : Option ℕ). TellsOverflow r end) (overflow_is objects exports es same told) tells

-- ---- by a mode that is known

module _ (mode : Mode) (d : Program) (p : rules.Program) (live : List ℕ) (parts : List rules.Part) (is : IsProgramOf mode d p) (stand : PartsStand p) (are : AreLive p live parts) (meant : AllMeant parts)
    (objects : List Object) (exports : List Winner) (es : List InputSymbol) (same : objects ≡ d.objects.now) (told : exports ≡ map (told_winner d.names.now.names) es) where
  pub plain_numbers : mode ≡ Plain → (n : Numbered) → n ≡ numbered d.resolution.now.imports (length d.names.now.names) d.tables.now objects d.names.now.symbols exports live → IsNumbering d.names.now.names d.resolution.now.imports d.tables.now.types p parts n (numbers mode p parts es)
  plain_numbers plain n given =
      subst (λ m. IsNumbering d.names.now.names d.resolution.now.imports d.tables.now.types p parts n (numbers m p parts es)) (sym plain)
      (told_numbers d p live parts (subst (λ m. IsProgramOf m d p) plain is) stand are meant objects exports es same told n given)

  -- What is answered: the numbers, and that the imported globals of a shared output are among the imports.
  pub record Gives (r : Result Numbered LayoutError) : Type 0 where
    pub gives : IfOk r (λ n. IsNumbering d.names.now.names d.resolution.now.imports d.tables.now.types p parts n (numbers mode p parts es))
    pub held : IfOk r (λ _. AreImported mode d.resolution.now.imports p parts)

  pub plain_given : mode ≡ Plain → (r : Result Numbered LayoutError) → IfOk r (λ n. n ≡ numbered d.resolution.now.imports (length d.names.now.names) d.tables.now objects d.names.now.symbols exports live) → Gives r
  plain_given plain (Ok n) given = record { gives = plain_numbers plain n given; held = subst (λ m. AreImported m d.resolution.now.imports p parts) (sym plain) tt }
  plain_given plain (Err e) given = record { gives = tt; held = tt }

  pub plain_overflow : mode ≡ Plain → {A : Type 0} (r : Result A LayoutError)
      → TellsOverflow r (table_overflow 1 (length (numbered d.resolution.now.imports (length d.names.now.names) d.tables.now objects d.names.now.symbols exports live).slots))
      → TellsOverflow r (table_overflow (numbers mode p parts es).first_slot (length (numbers mode p parts es).slots))
  plain_overflow plain r tells =
      subst (λ m. TellsOverflow r (table_overflow (numbers m p parts es).first_slot (length (numbers m p parts es).slots))) (sym plain)
      (told_overflow d p live parts (subst (λ m. IsProgramOf m d p) plain is) stand are meant objects exports es same told r tells)

  shared_given : mode ≡ Shared → IsProgramOf Shared d p
  shared_given shared = subst (λ m. IsProgramOf m d p) shared is

  pub one_each_import : mode ≡ Shared → OneEach d.resolution.now.imports
  one_each_import shared = one_each (given_of d p live parts (shared_given shared) stand are meant)

  -- What the numbers of a shared output are, and that its imported globals are among the imports.
  pub record IsShared (n : Numbered) : Type 0 where
    pub gives : IsNumbering d.names.now.names d.resolution.now.imports d.tables.now.types p parts n (numbers mode p parts es)
    pub held : AreImported mode d.resolution.now.imports p parts

  pub shared_are : mode ≡ Shared → (n : Numbered) → shared_numbered d objects exports live ≡ Some n → IsShared n
  shared_are shared n given =
      by (globals_listed d.names.now.names d.resolution.now.imports d.resolution.now.made d.tables.now live exports (shared_noted d live)) refl given
    where
      g : Given Shared d.names.now.names (asked_names p.plan ++ p.plan.exports_if) d.resolution.now.imports d.tables.now d.names.now.symbols p live parts
      g = given_of d p live parts (shared_given shared) stand are meant

      by : (o : Option (List GlobalKey)) → globals_listed d.names.now.names d.resolution.now.imports d.resolution.now.made d.tables.now live exports (shared_noted d live) ≡ o
          → option_map (shared_with d (all_functions d live (shared_noted d live)) (all_slots d live (shared_noted d live)) (all_types d objects live (shared_noted d live))) o ≡ Some n → IsShared n
      by None listed e = absurd cc
      by (Some gs) listed e =
          let is_n : shared_with d (all_functions d live (shared_noted d live)) (all_slots d live (shared_noted d live)) (all_types d objects live (shared_noted d live)) gs ≡ n = cc in
          let globals = globals_are g d.resolution.now.made (shared_given shared).resolution.made exports es told gs listed in
          let whole = shared_numbering g es gs globals.are in
          record {
            gives = subst (λ m. IsNumbering d.names.now.names d.resolution.now.imports d.tables.now.types p parts n (numbers m p parts es)) (sym shared)
                (subst (λ x. IsNumbering d.names.now.names d.resolution.now.imports d.tables.now.types p parts x (numbers Shared p parts es))
                (ap (λ os. shared_with d (all_functions d live (shared_noted d live)) (all_slots d live (shared_noted d live)) (all_types d os live (shared_noted d live)) gs) (sym (same ∙ (shared_given shared).objects)) ∙ is_n)
                whole);
            held = subst (λ m. AreImported m d.resolution.now.imports p parts) (sym shared) globals.held;
          }

  pub shared_given_all : mode ≡ Shared → (r : Result Numbered LayoutError) → IfOk r (λ n. shared_numbered d objects exports live ≡ Some n) → Gives r
  shared_given_all shared (Ok n) given = let x = shared_are shared n given in record { gives = x.gives; held = x.held }
  shared_given_all shared (Err e) given = record { gives = tt; held = tt }

  pub shared_overflow : mode ≡ Shared → {A : Type 0} (r : Result A LayoutError) → TellsOverflow r (table_overflow 0 (length (all_slots d live (shared_noted d live))))
      → TellsOverflow r (table_overflow (numbers mode p parts es).first_slot (length (numbers mode p parts es).slots))
  shared_overflow shared r tells =
      subst (λ m. TellsOverflow r (table_overflow (numbers m p parts es).first_slot (length (numbers m p parts es).slots))) (sym shared)
      (subst (TellsOverflow r) (ap (λ ss. table_overflow 0 (length ss)) (shared_slots_are (given_of d p live parts (shared_given shared) stand are meant))
      ∙ ap (table_overflow 0) (length-map (numbers Shared p parts es).slots (told_function d.names.now.names d.resolution.now.imports))) tells)

-- ---- the laws, of any mode

pub numbers_told : (mode : Mode) (d : Program) (p : rules.Program) (live : List ℕ) (parts : List rules.Part) (es : List InputSymbol) → IsProgramOf mode d p → PartsStand p → AreLive p live parts → AllMeant parts
    → AreImported mode d.resolution.now.imports p parts → TellsNumbers d.names.now.names d.resolution.now.imports (numbers mode p parts es)
numbers_told Plain d p live parts es is stand are meant held = tells_numbers (given_of d p live parts is stand are meant) es
numbers_told Shared d p live parts es is stand are meant held = shared_tells (given_of d p live parts is stand are meant) es held

pub refs_known : (mode : Mode) (d : Program) (p : rules.Program) (live : List ℕ) (parts : List rules.Part) → IsProgramOf mode d p → PartsStand p → AreLive p live parts → AllMeant parts
    → All (KnowsRefOf mode d.names.now.names d.resolution.now.imports) (refs_of parts)
refs_known Plain d p live parts is stand are meant = knows_refs (given_of d p live parts is stand are meant)
refs_known Shared d p live parts is stand are meant = shared_knows (given_of d p live parts is stand are meant)
