-- The parts and the calls of one object more.
use Rattle.std.proofs.Common.{◌≡◌, ℕ, suc, ◌+◌, ◌-◌, ◌≤◌, ◌<◌, ◌∙◌, List, [], ◌∷◌, ◌++◌, refl, ap, sym, subst, arith, Option, Some, None, length, drop}
use Rattle.std.specs.Prelude.{slice_get}
use Rattle.std.proofs.lemmas.List.{append-nil}
use Rattle.link_program.specs.object_file.declared.object.Object.{Object}
use Rattle.link_program.specs.name_entries.declared.parts.ObjectParts.{ObjectParts}
use Rattle.program_tables.specs.declared.inits.InitCall.{InitCall}
use Rattle.program_tables.specs.declared.pieces.Piece.{Piece}
use Rattle.program_tables.specs.declared.view.Lookups.{Lookups}
use Rattle.program_tables.specs.Views.{View, view_at, view_with}
use Rattle.program_tables.specs.Rows.{rows_in, rows_of_view, rows_from}
use Rattle.program_tables.specs.Inits.{calls_of, calls_upto}
use Rattle.program_tables.specs.Gains.{Gains}
use Rattle.program_tables.proofs.Growing.{gains_more}

with_object : (l : Lookups) (i : ℕ) (o : Option Object) (p : Option ObjectParts) (v : View) → view_with l i o p ≡ Some v → o ≡ Some v.object
with_object l i (Some o) (Some p) v is = ap (λ (x : Option View). option_object x) is
  where
    option_object : Option View → Option Object
    option_object None = None
    option_object (Some x) = Some x.object
with_object l i (Some o) None v is = absurd cc
with_object l i None p v is = absurd cc

pub view_object : (l : Lookups) (i : ℕ) (v : View) → view_at l i ≡ Some v → slice_get l.entries.objects.now i ≡ Some v.object
view_object l i v is = with_object l i (slice_get l.entries.objects.now i) (slice_get l.entries.parts.now i) v is

-- ---- rows

pub none_gained : (l : Lookups) (from : ℕ) (piece : Piece) → Gains (rows_from l from (from - from)) piece piece
none_gained l from piece =
    let none : from - from ≡ 0 = omega arith in
    subst (λ (n : ℕ). Gains (rows_from l from n) piece piece) (sym none) (record { parts = sym (append-nil piece.parts); named = sym (append-nil piece.named) })

pub object_gained : (l : Lookups) (from n : ℕ) (v : View) (first old new : Piece) → from ≤ n → view_at l n ≡ Some v → Gains (rows_from l from (n - from)) first old → Gains (rows_in v) old new
    → Gains (rows_from l from (n + 1 - from)) first new
object_gained l from n v first old new le at before gains =
    let place : from + (n - from) ≡ n = omega (arith, le) in
    let count : suc (n - from) ≡ n + 1 - from = omega (arith, le) in
    subst (λ (k : ℕ). Gains (rows_from l from k) first new) count
    (gains_more (rows_from l from (n - from)) (rows_of_view (view_at l (from + (n - from)))) first old new before
    (subst (λ o. Gains (rows_of_view o) old new) (sym at ∙ ap (view_at l) (sym place)) gains))

-- ---- calls

pub calls_more : (l : Lookups) (n : ℕ) (old new : List InitCall) → old ≡ calls_upto l n → new ≡ old ++ calls_of l n → new ≡ calls_upto l (n + 1)
calls_more l n old new before pushed = pushed ∙ ap (λ x. x ++ calls_of l n) before ∙ ap (calls_upto l) (let e : suc n ≡ n + 1 = omega arith in e)
