-- No segment lies outside exactly where all segments fit.
use Rattle.std.proofs.Common.{◌≡◌, ℕ, ◌+◌, ◌*◌, Bool, true, false, ◌&&◌, List, [], ◌∷◌, length, None, refl, ap, ◌∙◌}
use Rattle.std.specs.Prelude.{◌↔◌}
use Rattle.std.specs.List.{list_all}
use Rattle.wasm_module.specs.declared.structure.Module.{Module}
use Rattle.run_rules.specs.declared.session.Session.{Session}
use Rattle.run_rules.specs.Modules.{module_firsts, element_fits, segment_fits, least_of, fits_session}
use Rattle.run_modules.specs.Fits.{first_not, or_next, table_in, pages_in, first_outside, all_elements_fit, all_segments_fit}
use Rattle.run_modules.proofs.Seen.{elements_fit, segments_fit}

both : (p q : Bool) → p && q ≡ true → (p ≡ true) × (q ≡ true)
both true q e = (refl, e)
both false q e = absurd cc

both_too : (p q : Bool) → p ≡ true → q ≡ true → p && q ≡ true
both_too p q e f = rw (e, f) refl

all_pass : {A : Type 0} (test : A → Bool) (n : ℕ) (xs : List A) → list_all test xs ≡ true → first_not test n xs ≡ None
all_pass test n [] h = refl
all_pass test n (x ∷ xs) h =
    let two = both (test x) (list_all test xs) h in
    rw two.0 (all_pass test (n + 1) xs two.1)

there : (s : Session) (m : Module) → first_outside s m ≡ None → fits_session s m ≡ true
unfolding fits_session
there s m h =
    both_too (all_elements_fit (module_firsts s m) m) (all_segments_fit s (module_firsts s m) m)
    (elements_fit s m (module_firsts s m) refl h) (segments_fit s m (module_firsts s m) refl h)

back : (s : Session) (m : Module) → fits_session s m ≡ true → first_outside s m ≡ None
unfolding first_outside fits_session
back s m h =
    let two = both (all_elements_fit (module_firsts s m) m) (all_segments_fit s (module_firsts s m) m) h in
    ap (λ o. or_next o (first_not (segment_fits (module_firsts s m) (65536 * pages_in s m)) (length m.elements) m.data_segments))
    (all_pass (element_fits (module_firsts s m) (least_of (table_in m))) 0 m.elements two.0)
    ∙ all_pass (segment_fits (module_firsts s m) (65536 * pages_in s m)) (length m.elements) m.data_segments two.1

pub fits_law : (s : Session) (m : Module) → (first_outside s m ≡ None) ↔ (fits_session s m ≡ true)
fits_law s m = (there s m, back s m)
