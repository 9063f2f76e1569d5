-- What a measure tells of the length.
use Rattle.std.proofs.Common.{◌≡◌, ℕ, ◌-◌, ◌<◌, ◌^◌, List, refl, sym, ap, ◌∙◌, subst, arith, Bool, true, false, nat_lt, min, Option, Some, None, if◌then◌else◌, Result, Ok, Err, ℤ, pos}
use Rattle.std.specs.Prelude.{int_lt}
use Rattle.std.proofs.lemmas.Bool.{ltb-true, ltb-false}
use Rattle.link_program.specs.wl_base.Choice.{given}
use Rattle.link_program.specs.wl_base.Answers.{Answers}
use Rattle.link_program.specs.wl_base.declared.span.Span.{Span}
use Rattle.link_program.specs.wl_base.declared.fault.Fault.{Fault}
use Rattle.link_program.specs.wl_base.declared.fault.Fault.TheVariants as faults
use Rattle.link_program.specs.wl_base.declared.fault.What.{What}
use Rattle.link_program.specs.wl_base.declared.fault.What.TheVariants.{OutputLength}
use Rattle.link_program.specs.wl_base.declared.layout_error.LayoutError.{LayoutError}
use Rattle.link_program.specs.wl_base.declared.layout_error.LayoutError.TheVariants.{Overflow, OutOfMemory}
use Rattle.link_program.specs.image_emit.declared.tree.Image.{Image}
use Rattle.link_program.specs.image_emit.declared.measuring.Measured.{Measured}
use Rattle.link_program.specs.image_emit.Bytes.{tree_of}
use Rattle.link_program.specs.image_emit.Measures.{LieIn, image_measure, measure_of}
use Rattle.link_program.specs.image_emit.Pieces.{code_place, source_places}
use Rattle.link_program.proofs.image_emit_lemmas.Emitted.{files_measure}
use Rattle.link_output.specs.Written.{Measures, output_len, is_exact}

abbrev answer_by : Bool → ℕ → Option Span → List ℕ → Result Measured LayoutError
answer_by b len code places = if b then Err (Overflow OutputLength (pos (min len (2 ^ 63 - 1)))) else Ok (record { len = len; code = code; places = places })

abbrev told : Bool → ℕ → Option Fault
told b len = given b (faults.Overflow OutputLength (pos len))

-- the answers, as they are compared
abbrev Same : Result Measured LayoutError → Result Measured LayoutError → Type 0
Same (Ok a) (Ok b) = b ≡ a
Same (Err (Overflow w n)) (Err (Overflow v m)) = (w ≡ v) × (n ≡ m)
Same (Err OutOfMemory) (Err OutOfMemory) = Unit {0}
Same a b = ⊥

same : (a b : Result Measured LayoutError) → a ≡ b → Same a b
same a b e = subst (Same a) e (itself a)
  where
    itself : (a : Result Measured LayoutError) → Same a a
    itself (Ok a) = refl
    itself (Err (Overflow w n)) = (refl, refl)
    itself (Err OutOfMemory) = tt

not_long : (len n : ℕ) → n ≡ len → nat_lt (2 ^ 31 - 1) len ≡ false → n < 2 ^ 31
not_long len n is e = omega (arith, is, ltb-false (2 ^ 31 - 1) len e)

ok_by : (b : Bool) (len : ℕ) (code : Option Span) (places : List ℕ) (m : Measured) → nat_lt (2 ^ 31 - 1) len ≡ b → answer_by b len code places ≡ Ok m
    → (m.places ≡ places) × (told b len ≡ None) × (m.len < 2 ^ 31) × (m.code ≡ code)
ok_by true len code places m is e = absurd (same (answer_by true len code places) (Ok m) e)
ok_by false len code places m is e =
    let both : m ≡ record { len = len; code = code; places = places } = same (answer_by false len code places) (Ok m) e in
    (ap (λ x. x.places) both, refl, not_long len m.len (ap (λ x. x.len) both) is, ap (λ x. x.code) both)

short : (len : ℕ) → int_lt (pos (min len (2 ^ 63 - 1))) (pos (2 ^ 63 - 1)) ≡ true → min len (2 ^ 63 - 1) ≡ len
short len e = omega (arith, ltb-true (min len (2 ^ 63 - 1)) (2 ^ 63 - 1) e)

err_by : (b : Bool) (len : ℕ) (code : Option Span) (places : List ℕ) (what : What) (needed : ℤ) → int_lt needed (pos (2 ^ 63 - 1)) ≡ true → answer_by b len code places ≡ Err (Overflow what needed)
    → told b len ≡ Some (faults.Overflow what needed)
err_by false len code places what needed small e = absurd (same (answer_by false len code places) (Err (Overflow what needed)) e)
err_by true len code places what needed small e =
    let both = same (answer_by true len code places) (Err (Overflow what needed)) e in
    let is : min len (2 ^ 63 - 1) ≡ len = short len (subst (λ z. int_lt z (pos (2 ^ 63 - 1)) ≡ true) (sym both.1) small) in
    ap (λ n. Some (faults.Overflow OutputLength (pos n))) (sym is) ∙ ap (λ w. Some (faults.Overflow w (pos (min len (2 ^ 63 - 1))))) both.0 ∙ ap (λ z. Some (faults.Overflow what z)) both.1

pub measures : (files : List (List ℕ)) (i : Image) (r : Result Measured LayoutError) → LieIn files i → Answers r (image_measure i) → is_exact r ≡ true → Measures r files i
measures files i (Ok m) lie e exact =
    let is : measure_of (tree_of files i) ≡ Ok m = files_measure files i lie ∙ e in
    let all = ok_by (nat_lt (2 ^ 31 - 1) (output_len files i)) (output_len files i) (code_place (tree_of files i)) (source_places (tree_of files i)) m refl is in
    (e, all.0, all.1, all.2, all.3)
measures files i (Err (Overflow what needed)) lie e exact =
    err_by (nat_lt (2 ^ 31 - 1) (output_len files i)) (output_len files i) (code_place (tree_of files i)) (source_places (tree_of files i)) what needed exact (files_measure files i lie ∙ e)
measures files i (Err OutOfMemory) lie e exact = tt
