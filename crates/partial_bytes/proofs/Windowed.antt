-- The parts of a program with empty windows.
use Rattle.std.proofs.Common.{◌≡◌, ℕ, List, [], ◌∷◌, length, map, refl, sym, ap, ◌∙◌, subst}
use Rattle.std.specs.Prelude.{All}
use Rattle.std.specs.List.{AllByRecursion}
use Rattle.std.proofs.lemmas.List.Elements.{All-from_recursion, recursion_from_All}
use Rattle.reloc_apply.specs.declared.window.Patch.{Patch}
use Rattle.reloc_apply.specs.Windows.{filled}
use Rattle.reloc_apply.specs.Apart.{LiesIn}
use Rattle.reloc_section.specs.declared.entry.Reloc.{Reloc}
use Rattle.link_rules.specs.Program.{Program, Part as ProgramPart, Named, a_symbol, a_type}
use Rattle.link_rules.specs.Values.{part_bytes}
use Rattle.partial_rules.specs.Relocatable.{Windowed}
use Rattle.partial_rules.specs.Partial.{empty_window, named_reloc, windowed}
use Rattle.partial_bytes.specs.declared.tree.Part.{Part}
use Rattle.partial_bytes.specs.Relocs.{relocs_of}
use Rattle.partial_bytes.specs.Told.{empty_of, part_with, part_told, AreRows, RowsAreWindowed, RowsFit, PartFits, WindowsLie}

-- ---- one part

windows_told : (p : Program) (ns : List Named) → map empty_of (map (named_reloc p) ns) ≡ map empty_window ns
windows_told p [] = refl
windows_told p (a_symbol ref ∷ ns) = ap (λ (zs : List Patch). empty_window (a_symbol ref) ∷ zs) (windows_told p ns)
windows_told p (a_type w ∷ ns) = ap (λ (zs : List Patch). empty_window (a_type w) ∷ zs) (windows_told p ns)

part_windowed : (p : Program) (part : ProgramPart) → part_with (map (named_reloc p) part.named) (part_bytes p part) ≡ windowed p part
part_windowed p part =
    ap (λ (zs : List Patch). record { bytes = filled zs (part_bytes p part); relocs = map (named_reloc p) part.named }) (windows_told p part.named)

module _ (p : Program) (part : ProgramPart) (row : Part) (relocs : (relocs_of row) ≡ map (named_reloc p) part.named) (bytes : row.bytes.now ≡ part_bytes p part) where
  row_windowed : part_told row ≡ windowed p part
  row_windowed = (λ i. part_with (relocs i) (bytes i)) ∙ part_windowed p part

  row_fits : WindowsLie p part → PartFits row
  row_fits lie =
      let windows : map empty_of (relocs_of row) ≡ map empty_window part.named = ap (λ (xs : List Reloc). map empty_of xs) relocs ∙ windows_told p part.named in
      subst (λ (ws : List Patch). All (LiesIn (length row.bytes.now)) ws) (sym windows)
      (subst (λ (zs : List ℕ). All (LiesIn (length zs)) (map empty_window part.named)) (sym bytes) lie)

-- ---- all parts

first_is : {A : Type 0} {x y : A} {xs ys : List A} → x ∷ xs ≡ y ∷ ys → x ≡ y
first_is e = cc

rest_is : {A : Type 0} {x y : A} {xs ys : List A} → x ∷ xs ≡ y ∷ ys → xs ≡ ys
rest_is e = cc

more_rows : (p : Program) (part : ProgramPart) (parts : List ProgramPart) (row : Part) (rows : List Part) → AreRows p (part ∷ parts) (row ∷ rows) → AreRows p parts rows
more_rows p part parts row rows h = record { relocs = rest_is h.relocs; bytes = rest_is h.bytes }

pub rows_windowed : RowsAreWindowed
rows_windowed p [] [] h = refl
rows_windowed p [] (row ∷ rows) h = absurd (let e = h.bytes in cc)
rows_windowed p (part ∷ parts) [] h = absurd (let e = h.bytes in cc)
rows_windowed p (part ∷ parts) (row ∷ rows) h =
    let first = row_windowed p part row (first_is h.relocs) (first_is h.bytes) in
    let rest = rows_windowed p parts rows (more_rows p part parts row rows h) in
    λ i. first i ∷ rest i

by_recursion : (p : Program) (parts : List ProgramPart) (rows : List Part) → AreRows p parts rows → AllByRecursion (WindowsLie p) parts → AllByRecursion PartFits rows
by_recursion p [] [] h lie = tt
by_recursion p [] (row ∷ rows) h lie = absurd (let e = h.bytes in cc)
by_recursion p (part ∷ parts) [] h lie = absurd (let e = h.bytes in cc)
by_recursion p (part ∷ parts) (row ∷ rows) h lie =
    (row_fits p part row (first_is h.relocs) (first_is h.bytes) lie.0, by_recursion p parts rows (more_rows p part parts row rows h) lie.1)

pub rows_fit : RowsFit
rows_fit p parts rows h lie = All-from_recursion PartFits rows (by_recursion p parts rows h (recursion_from_All (WindowsLie p) parts lie))
