-- Lists by the numbers of names that are changed one place after another: what stands at a place is what the items of that number give.
use Rattle.std.proofs.Common.{◌≡◌, ℕ, ◌<◌, ◌==◌, Bool, true, false, ◌&&◌, ◌||◌, List, [], ◌∷◌, fold, length, get_or, set, replicate, find, Option, Some, None, option_map, refl, sym, ap, subst, ◌∙◌, arith, length-set, get_or-set_same, get_or-set_other}
use Rattle.std.specs.Prelude.{if◌then◌else◌, cond}
use Rattle.std.specs.Option.{option_or}
use Rattle.std.specs.List.{list_any}
use Rattle.std.proofs.lemmas.Bool.Decides.{nat_tests}
use Rattle.std.proofs.lemmas.List.{length-replicate, get_or-replicate}
use Rattle.link_program.specs.wl_base.Choice.{given}
use Rattle.link_program.specs.name_entries.View.{is_number}
use Rattle.partial_symbols.specs.Columns.{changed_at}

or_false : (b : Bool) → b ≡ (b || false)
or_false true = refl
or_false false = refl

or_assoc : (a b c : Bool) → ((a || b) || c) ≡ (a || (b || c))
or_assoc true b c = refl
or_assoc false b c = refl

pub or_none : {A : Type 0} (o : Option A) → o ≡ option_or o None
or_none None = refl
or_none (Some a) = refl

module _ {C F : Type 0} (empty : C) (num : F → Option ℕ) (step : F → C → C) where
  abbrev pub noted : List C → F → List C
  noted cs f = changed_at empty (step f) cs (num f)

  changed_length : (h : C → C) (cs : List C) (o : Option ℕ) → length (changed_at empty h cs o) ≡ length cs
  changed_length h cs None = refl
  changed_length h cs (Some n) = length-set cs n (h (get_or cs n empty))

  changed_cell : (h : C → C) (cs : List C) (o : Option ℕ) (i : ℕ) → i < length cs → get_or (changed_at empty h cs o) i empty ≡ (if is_number i o then h (get_or cs i empty) else get_or cs i empty)
  changed_cell h cs None i lt = refl
  changed_cell h cs (Some n) i lt = by (n == i) refl
    where
      by : (b : Bool) → (n == i) ≡ b → get_or (set cs n (h (get_or cs n empty))) i empty ≡ (if b then h (get_or cs i empty) else get_or cs i empty)
      by true is =
          let same : n ≡ i = grind (arith, nat_tests) in
          ap (λ k. get_or (set cs k (h (get_or cs k empty))) i empty) same ∙ get_or-set_same cs i (h (get_or cs i empty)) empty lt
      by false is =
          let apart : i ≡ n → ⊥ = λ e. let back : n ≡ i = sym e in grind (arith, nat_tests) in
          get_or-set_other cs n i (h (get_or cs n empty)) empty apart

  -- ---- the first item that passes

  module _ {X : Type 0} (shown : C → Option X) (test : F → Bool) (value : F → X) (steps : (f : F) (c : C) → shown (step f c) ≡ option_or (shown c) (given (test f) (value f))) where
    abbrev pub passes : ℕ → F → Bool
    passes i f = is_number i (num f) && test f

    one_first : (c : Option X) (f : F) (b t : Bool) (r : Option F)
        → option_or (if b then option_or c (given t (value f)) else c) (option_map value r) ≡ option_or c (option_map value (cond (b && t) (Some f) r))
    one_first (Some x) f true true r = refl
    one_first (Some x) f true false r = refl
    one_first (Some x) f false t r = refl
    one_first None f true true r = refl
    one_first None f true false r = refl
    one_first None f false t r = refl

    shown_cell : (cs : List C) (f : F) (i : ℕ) → i < length cs → (b : Bool) → is_number i (num f) ≡ b
        → shown (get_or (noted cs f) i empty) ≡ (if b then option_or (shown (get_or cs i empty)) (given (test f) (value f)) else shown (get_or cs i empty))
    shown_cell cs f i lt true is = ap shown (changed_cell (step f) cs (num f) i lt ∙ ap (λ b. if b then step f (get_or cs i empty) else get_or cs i empty) is) ∙ steps f (get_or cs i empty)
    shown_cell cs f i lt false is = ap shown (changed_cell (step f) cs (num f) i lt ∙ ap (λ b. if b then step f (get_or cs i empty) else get_or cs i empty) is)

    pub firsts : (cs : List C) (fs : List F) (i : ℕ) → i < length cs
        → shown (get_or (fold noted cs fs) i empty) ≡ option_or (shown (get_or cs i empty)) (option_map value (find (passes i) fs))
    firsts cs [] i lt = or_none (shown (get_or cs i empty))
    firsts cs (f ∷ fs) i lt =
        let within : i < length (noted cs f) = subst (λ n. i < n) (sym (changed_length (step f) cs (num f))) lt in
        firsts (noted cs f) fs i within
        ∙ (ap (λ o. option_or o (option_map value (find (passes i) fs))) (shown_cell cs f i lt (is_number i (num f)) refl)
        ∙ one_first (shown (get_or cs i empty)) f (is_number i (num f)) (test f) (find (passes i) fs))

    -- of a list in which nothing stood
    pub firsts_of : (n : ℕ) (fs : List F) (i : ℕ) → shown empty ≡ None → i < n → shown (get_or (fold noted (replicate n empty) fs) i empty) ≡ option_map value (find (passes i) fs)
    firsts_of n fs i none lt =
        let within : i < length (replicate n empty) = subst (λ m. i < m) (sym (length-replicate n empty)) lt in
        firsts (replicate n empty) fs i within
        ∙ ap (λ o. option_or o (option_map value (find (passes i) fs))) (ap shown (get_or-replicate n i empty empty lt) ∙ none)

  -- ---- whether one passes

  module _ (shown : C → Bool) (test : F → Bool) (steps : (f : F) (c : C) → shown (step f c) ≡ (shown c || test f)) where
    abbrev pub holds : ℕ → F → Bool
    holds i f = is_number i (num f) && test f

    flag_cell : (cs : List C) (f : F) (i : ℕ) → i < length cs → (b : Bool) → is_number i (num f) ≡ b → shown (get_or (noted cs f) i empty) ≡ (shown (get_or cs i empty) || (b && test f))
    flag_cell cs f i lt true is = ap shown (changed_cell (step f) cs (num f) i lt ∙ ap (λ b. if b then step f (get_or cs i empty) else get_or cs i empty) is) ∙ steps f (get_or cs i empty)
    flag_cell cs f i lt false is = ap shown (changed_cell (step f) cs (num f) i lt ∙ ap (λ b. if b then step f (get_or cs i empty) else get_or cs i empty) is) ∙ or_false (shown (get_or cs i empty))

    pub flags : (cs : List C) (fs : List F) (i : ℕ) → i < length cs → shown (get_or (fold noted cs fs) i empty) ≡ (shown (get_or cs i empty) || list_any (holds i) fs)
    flags cs [] i lt = or_false (shown (get_or cs i empty))
    flags cs (f ∷ fs) i lt =
        let within : i < length (noted cs f) = subst (λ n. i < n) (sym (changed_length (step f) cs (num f))) lt in
        flags (noted cs f) fs i within
        ∙ (ap (λ b. b || list_any (holds i) fs) (flag_cell cs f i lt (is_number i (num f)) refl)
        ∙ or_assoc (shown (get_or cs i empty)) (is_number i (num f) && test f) (list_any (holds i) fs))

    pub flags_of : (n : ℕ) (fs : List F) (i : ℕ) → shown empty ≡ false → i < n → shown (get_or (fold noted (replicate n empty) fs) i empty) ≡ list_any (holds i) fs
    flags_of n fs i none lt =
        let within : i < length (replicate n empty) = subst (λ m. i < m) (sym (length-replicate n empty)) lt in
        flags (replicate n empty) fs i within
        ∙ ap (λ b. b || list_any (holds i) fs) (ap shown (get_or-replicate n i empty empty lt) ∙ none)
