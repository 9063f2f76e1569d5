-- Symbols of objects, one row behind another.
use Rattle.std.proofs.Common.{◌≡◌, ℕ, ◌+◌, ◌<◌, ◌≤◌, ◌∙◌, List, [], ◌∷◌, ◌++◌, ap, sym, subst, arith, Some, length, take, drop, get_or, append_assoc}
use Rattle.std.specs.Prelude.{flat_map, slice_get}
use Rattle.std.proofs.lemmas.List.{take_all, take_more, append-nil}
use Rattle.std.proofs.Math.Seq.{take-append_seam}
use Rattle.std.proofs.lemmas.Grind.{flat_map-append}
use Rattle.std.proofs.lemmas.List.Folds.{flat_map-map}
use Rattle.std.proofs.lemmas.Option.{slice_get-get_or}
use Rattle.name_entries.specs.object_file.declared.object.Object.{Object}
use Rattle.name_entries.specs.name_rules.Entries.{InputSymbol, symbols_of}
use Rattle.name_entries.specs.View.{rows_of}
use Rattle.name_meanings.specs.declared.columns.Column.{Column}
use Rattle.name_meanings.specs.Columns.{AreColumns, all_symbols}

-- the first symbol of some
pub with_first : (row : List InputSymbol) → 0 < length row → InputSymbol
with_first [] within = absurd (omega arith)
with_first (e ∷ es) within = e

-- ---- what holds of all symbols so far, symbol by symbol and object by object

pub symbol_step : (Old New : List InputSymbol → Type 0) (row : List InputSymbol) (p : ℕ) (seen : List InputSymbol) → p < length row
    → ((before : List InputSymbol) (e : InputSymbol) → slice_get row p ≡ Some e → Old before → New (before ++ e ∷ []))
    → Old (seen ++ take p row) → New (seen ++ take (p + 1) row)
symbol_step Old New row p seen within step before =
    let some : 0 < length row = omega arith in
    let d : InputSymbol = with_first row some in
    let after = step (seen ++ take p row) (get_or row p d) (slice_get-get_or row p d within) before in
    subst New (append_assoc seen (take p row) (get_or row p d ∷ []) ∙ ap (λ es. seen ++ es) (sym (take_more row p d within))) after

pub row_end : (P : List InputSymbol → Type 0) (row : List InputSymbol) (p : ℕ) (seen : List InputSymbol) → length row ≤ p → P (seen ++ take p row) → P (seen ++ row)
row_end P row p seen past before = subst (λ es. P (seen ++ es)) (take_all p row past) before

abbrev together : List (List InputSymbol) → List InputSymbol
together rows = flat_map (λ r. r) rows

together_more : (rows : List (List InputSymbol)) (i : ℕ) → i < length rows → together (take (i + 1) rows) ≡ together (take i rows) ++ get_or rows i []
together_more rows i within =
    ap together (take_more rows i [] within) ∙ flat_map-append (λ (r : List InputSymbol). r) (take i rows) (get_or rows i [] ∷ [])
    ∙ ap (λ r. together (take i rows) ++ r) (append-nil (get_or rows i []))

pub object_step : (Old New : List InputSymbol → Type 0) (rows : List (List InputSymbol)) (i : ℕ) → i < length rows
    → ((seen : List InputSymbol) → Old seen → New (seen ++ get_or rows i [])) → Old (together (take i rows)) → New (together (take (i + 1) rows))
object_step Old New rows i within step before = subst New (sym (together_more rows i within)) (step (together (take i rows)) before)

pub rows_end : (P : List InputSymbol → Type 0) (objects : List Object) (i : ℕ) → length (rows_of objects) ≤ i → P (together (take i (rows_of objects))) → P (all_symbols objects)
rows_end P objects i past before = subst P (ap together (take_all i (rows_of objects) past) ∙ flat_map-map (λ (r : List InputSymbol). r) (symbols_of objects) objects) before

-- ---- columns

pub symbol_more : (names : List (List ℕ)) (objects : List Object) (row : List InputSymbol) (p : ℕ) (old new : List Column) (seen : List InputSymbol) → p < length row
    → ((before : List InputSymbol) (e : InputSymbol) → slice_get row p ≡ Some e → AreColumns names objects before old → AreColumns names objects (before ++ e ∷ []) new)
    → AreColumns names objects (seen ++ take p row) old → AreColumns names objects (seen ++ take (p + 1) row) new
symbol_more names objects row p old new seen within step before = symbol_step (λ es. AreColumns names objects es old) (λ es. AreColumns names objects es new) row p seen within step before

pub row_whole : (names : List (List ℕ)) (objects : List Object) (row : List InputSymbol) (p : ℕ) (seen : List InputSymbol) (columns : List Column) → length row ≤ p
    → AreColumns names objects (seen ++ take p row) columns → AreColumns names objects (seen ++ row) columns
row_whole names objects row p seen columns past before = row_end (λ es. AreColumns names objects es columns) row p seen past before

pub object_more : (names : List (List ℕ)) (objects : List Object) (rows : List (List InputSymbol)) (i : ℕ) (old new : List Column) → i < length rows
    → ((seen : List InputSymbol) → AreColumns names objects seen old → AreColumns names objects (seen ++ get_or rows i []) new)
    → AreColumns names objects (together (take i rows)) old → AreColumns names objects (together (take (i + 1) rows)) new
object_more names objects rows i old new within step before = object_step (λ es. AreColumns names objects es old) (λ es. AreColumns names objects es new) rows i within step before

pub rows_whole : (names : List (List ℕ)) (objects : List Object) (i : ℕ) (columns : List Column) → length (rows_of objects) ≤ i
    → AreColumns names objects (together (take i (rows_of objects))) columns → AreColumns names objects (all_symbols objects) columns
rows_whole names objects i columns past before = rows_end (λ es. AreColumns names objects es columns) objects i past before

-- what a list holds after its slice was written
pub written : (names : List (List ℕ)) (objects : List Object) (seen : List InputSymbol) (len : ℕ) (items new : List Column) → len ≡ length items → length items ≡ length names
    → AreColumns names objects seen new → AreColumns names objects seen (take len (new ++ drop (length new) items))
written names objects seen len items new counted named after =
    let same : len ≡ length new = counted ∙ named ∙ sym after.count in
    subst (λ cs. AreColumns names objects seen cs) (sym (ap (λ n. take n (new ++ drop (length new) items)) same ∙ take-append_seam new (drop (length new) items))) after
