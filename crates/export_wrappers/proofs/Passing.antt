-- What is passed over is what was read.
use Rattle.std.proofs.Common.{◌≡◌, ℕ, ◌-◌, Bool, true, false, cond, List, [], ◌∷◌, ◌++◌, length, Result, Ok, refl, sym, ap, subst, ◌∙◌}
use Rattle.std.specs.Prelude.{drop}
use Rattle.std.proofs.lemmas.List.{append-nil}
use Rattle.wasm_module.specs.wasm_instr.wasm_grammar.declared.fault.Stop.{Stop}
use Rattle.wasm_module.specs.wasm_instr.wasm_grammar.Grammar.{SpellsMany}
use Rattle.wasm_module.specs.wasm_instr.wasm_grammar.Readers.{Takes, IsReader}
use Rattle.wasm_module.specs.wasm_instr.wasm_grammar.Reading.{Read, ◌>>=◌, u32_at, part_at, vector_at, ended, whole, sized_at}
use Rattle.wasm_module.specs.wasm_instr.wasm_grammar.ReaderLaws.{ok_is, bind_ok, many_found, part_found, part_again, regrouped}
use Rattle.wasm_module.specs.wasm_instr.declared.body.Body.{Body}
use Rattle.wasm_module.specs.wasm_instr.Bodies.{body_at}
use Rattle.wasm_module.specs.wasm_instr.BodyLaws.{body_found, body_again}
use Rattle.wasm_module.specs.Sections.{begins, customs_at, section_at, next_at}
use Rattle.wasm_module.specs.ModuleReading.{code_at}
use Rattle.export_wrappers.specs.Cuts.{section_end_at, past_at, Codes, sized_codes_at, codes_at}
use Rattle.export_wrappers.specs.Written.{SpellsCode}
use Rattle.export_wrappers.proofs.Walks.{step}

ok_same : {A : Type 0} {x y : A} → x ≡ y → (let r : Result A Stop = Ok x in r ≡ Ok y)
ok_same e = cc

first_same : {A B : Type 0} {x y : A} (z : B) → x ≡ y → ◌≡◌ {A = A × B} (x, z) (y, z)
first_same z e = cc

-- a choice that is made alike in both
alike : {A B : Type 0} (q : Bool) (a b : Result A Stop) (c d : Result B Stop) (x : A) (y : B) → (a ≡ Ok x → c ≡ Ok y) → (b ≡ Ok x → d ≡ Ok y) → cond q a b ≡ Ok x → cond q c d ≡ Ok y
alike true a b c d x y f g e = f e
alike false a b c d x y f g e = g e

sized_end : {A : Type 0} (read : Read A) (end : ℕ) (bytes : List ℕ) (s : A × List ℕ) → sized_at read end bytes ≡ Ok s → (part_at end bytes >>= λ part. Ok part.1) ≡ Ok s.1
unfolding sized_at
sized_end {A} read end bytes s =
    step (part_at end bytes) _ s (λ part part_is.
    step (whole read (end - length part.1) part.0) _ s (λ x x_is done.
    rw part_is (ok_same (ap (λ (p : A × List ℕ). p.1) (ok_is done)))))

section_end : {A : Type 0} (id : ℕ) (absent : A) (read : Read A) (end : ℕ) (bytes : List ℕ) (s : A × List ℕ) → section_at id absent read end bytes ≡ Ok s → section_end_at id end bytes ≡ Ok s.1
unfolding section_at section_end_at
section_end {A} id absent read end bytes s =
    alike (begins id bytes) (sized_at read end (drop 1 bytes)) (Ok (absent, bytes)) (part_at end (drop 1 bytes) >>= λ part. Ok part.1) (Ok bytes) s s.1 (sized_end read end (drop 1 bytes) s)
    (λ e. ok_same (ap (λ (p : A × List ℕ). p.1) (ok_is e)))

-- a section, and the custom sections behind it
pub split : {A : Type 0} (id : ℕ) (absent : A) (read : Read A) (end : ℕ) (bytes : List ℕ) (x : A) (rest : List ℕ) → next_at id absent read end bytes ≡ Ok (x, rest)
    → (mid : List ℕ) × (section_at id absent read end bytes ≡ Ok (x, mid)) × (customs_at (length mid) end mid ≡ Ok rest)
unfolding next_at
split {A} id absent read end bytes x rest =
    step (section_at id absent read end bytes) _ (x, rest) (λ s s_is.
    step (customs_at (length s.1) end s.1) _ (x, rest) (λ after after_is done.
    let same : ◌≡◌ {A = A × List ℕ} (s.0, after) (x, rest) = ok_is done in
    (s.1, s_is ∙ ok_same (first_same s.1 (ap (λ (p : A × List ℕ). p.0) same)), after_is ∙ ok_same (ap (λ (p : A × List ℕ). p.1) same))))

pub passed : {A : Type 0} (id : ℕ) (absent : A) (read : Read A) (end : ℕ) (bytes : List ℕ) (x : A) (rest : List ℕ) → next_at id absent read end bytes ≡ Ok (x, rest) → past_at id end bytes ≡ Ok rest
unfolding past_at
passed id absent read end bytes x rest e =
    let s = split id absent read end bytes x rest e in
    rw (section_end id absent read end bytes (x, s.0) s.1) s.2

-- ---- the code section

pub code_reader : IsReader SpellsCode code_at
unfolding code_at
code_reader = record {
  found = λ end bytes x rest e.
      let a = bind_ok (part_at end bytes) _ (x, rest) e in
      let b = bind_ok (body_at a.0.0) _ (x, rest) a.2 in
      let front = part_found end bytes a.0.0 a.0.1 a.1 in
      let s = front.spells in
      let taken : Takes (SpellsCode b.0) bytes a.0.1 = record { text = front.text; spells = (s.0, a.0.0, s.2, body_found a.0.0 b.0 b.1, s.4 ∙ ap (λ (t : List ℕ). s.0 ++ t) s.3); parts = front.parts } in
      subst (λ (p : Body × List ℕ). Takes (SpellsCode p.0) bytes p.1) (ok_is b.2) taken;
  again = λ end x text rest s. rw (regrouped s.0 s.1 text rest s.4, part_again end s.0 s.1 rest s.2, body_again s.1 x s.3) refl;
}

-- the bodies, and how they are kept
pub record AreCodes (bodies : List Body) (k : Codes) : Type 0 where
  pub count : length bodies ≡ k.0
  pub codes : SpellsMany SpellsCode bodies k.1

all_taken : (bodies : List Body) (bytes rest : List ℕ) → Takes (SpellsMany SpellsCode bodies) bytes rest → rest ≡ [] → SpellsMany SpellsCode bodies bytes
all_taken bodies bytes rest t none = subst (SpellsMany SpellsCode bodies) (sym (t.parts ∙ ap (λ (r : List ℕ). t.text ++ r) none ∙ append-nil t.text)) t.spells

ended_ok : {A : Type 0} (end : ℕ) (x y : A) (rest : List ℕ) → ended end x rest ≡ Ok y → (rest ≡ []) × (x ≡ y)
ended_ok end x y [] e = (refl, ok_is e)
ended_ok end x y (b ∷ rest) e = absurd cc

sized_codes : (end : ℕ) (bytes : List ℕ) (s : List Body × List ℕ) → sized_at (vector_at code_at) end bytes ≡ Ok s → (k : Codes) × (sized_codes_at end bytes ≡ Ok k) × AreCodes s.0 k × (k.2 ≡ s.1)
unfolding sized_at whole vector_at sized_codes_at
sized_codes end bytes s =
    step (part_at end bytes) _ s (λ part part_is.
    step (whole (vector_at code_at) (end - length part.1) part.0) _ s (λ bodies bodies_is done.
    step (vector_at code_at (end - length part.1) part.0) _ bodies (λ v v_is last.
    step (u32_at (end - length part.1) part.0) _ v (λ count count_is many.
    let found = many_found SpellsCode code_at code_reader count.0 (end - length part.1) count.1 v.0 v.1 many in
    let over = ended_ok (end - length part.1) v.0 bodies v.1 last in
    let is : (k : Codes) × (sized_codes_at end bytes ≡ Ok k) × AreCodes v.0 k × (k.2 ≡ part.1) =
    ((count.0, count.1, part.1), rw (part_is, count_is) refl, record { count = found.1; codes = all_taken v.0 count.1 v.1 found.0 over.0 }, refl) in
    subst (λ (p : List Body × List ℕ). (k : Codes) × (sized_codes_at end bytes ≡ Ok k) × AreCodes p.0 k × (k.2 ≡ p.1)) (ok_is done)
    (subst (λ (bs : List Body). (k : Codes) × (sized_codes_at end bytes ≡ Ok k) × AreCodes bs k × (k.2 ≡ part.1)) over.1 is)) v_is) bodies_is))

pub coded : (end : ℕ) (bytes : List ℕ) (s : List Body × List ℕ) → section_at 10 [] (vector_at code_at) end bytes ≡ Ok s → (k : Codes) × (codes_at end bytes ≡ Ok k) × AreCodes s.0 k × (k.2 ≡ s.1)
unfolding section_at codes_at
coded end bytes s = by_case (begins 10 bytes)
  where
    by_case : (q : Bool) → cond q (sized_at (vector_at code_at) end (drop 1 bytes)) (Ok ([], bytes)) ≡ Ok s → (k : Codes) × (cond q (sized_codes_at end (drop 1 bytes)) (Ok (0, [], bytes)) ≡ Ok k) × AreCodes s.0 k × (k.2 ≡ s.1)
    by_case true e = sized_codes end (drop 1 bytes) s e
    by_case false e =
        subst (λ (p : List Body × List ℕ). (k : Codes) × (◌≡◌ {A = Result Codes Stop} (Ok (0, [], bytes)) (Ok k)) × AreCodes p.0 k × (k.2 ≡ p.1)) (ok_is e)
        ((0, [], bytes), refl, record { count = refl; codes = refl }, refl)
