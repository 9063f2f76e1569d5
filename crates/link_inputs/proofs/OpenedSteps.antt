-- Files that are opened one after another.
use Rattle.std.proofs.Common.{◌≡◌, ◌∙◌, ◌+◌, ◌<◌, ◌≤◌, ℕ, List, [], ◌∷◌, ◌++◌, length, drop, Result, Ok, Err, refl, sym, ap, get_or}
use Rattle.std.proofs.lemmas.List.{drop_more, drop_all, append_assoc, append-nil}
use Rattle.link_program.specs.wl_base.Choice.{◌>>=◌}
use Rattle.link_program.specs.wl_base.declared.fault.Fault.{Fault}
use Rattle.link_inputs.specs.declared.opening.OpenFile.{OpenFile}
use Rattle.link_inputs.specs.Opened.{opened_file, opened_from}

-- what is opened, behind what was opened before
abbrev pub onto : List OpenFile → Result (List OpenFile) Fault → Result (List OpenFile) Fault
onto before r = r >>= λ os. Ok (before ++ os)

next_of : ℕ → List ℕ → Result (List OpenFile) Fault → Result (List OpenFile) Fault
next_of at b rest = opened_file at b >>= λ o. rest >>= λ os. Ok (o ∷ os)

at_next : (at : ℕ) (files : List (List ℕ)) (b : List ℕ) → at < length files → b ≡ get_or files at b
    → opened_from at (drop at files) ≡ (opened_file at b >>= λ o. opened_from (at + 1) (drop (at + 1) files) >>= λ os. Ok (o ∷ os))
at_next at files b lt is =
    ap (opened_from at) (drop_more files at b lt)
    ∙ ap (λ (x : List ℕ). opened_file at x >>= λ o. opened_from (at + 1) (drop (at + 1) files) >>= λ os. Ok (o ∷ os)) (sym is)

pub starts : (r : Result (List OpenFile) Fault) → onto [] r ≡ r
starts (Ok os) = refl
starts (Err f) = refl

put_on : (before : List OpenFile) (o : OpenFile) (r : Result (List OpenFile) Fault) → onto (before ++ o ∷ []) r ≡ onto before (r >>= λ os. Ok (o ∷ os))
put_on before o (Ok os) = ap (λ (xs : List OpenFile). let y : Result (List OpenFile) Fault = Ok xs in y) (append_assoc before (o ∷ []) os)
put_on before o (Err f) = refl

pub goes_on : (before : List OpenFile) (at : ℕ) (files : List (List ℕ)) (b : List ℕ) (o : OpenFile) (total : Result (List OpenFile) Fault)
    → at < length files → b ≡ get_or files at b → opened_file at b ≡ Ok o
    → onto before (opened_from at (drop at files)) ≡ total → onto (before ++ o ∷ []) (opened_from (at + 1) (drop (at + 1) files)) ≡ total
goes_on before at files b o total lt is read so_far =
    put_on before o (opened_from (at + 1) (drop (at + 1) files))
    ∙ ap (onto before) (sym (at_next at files b lt is ∙ ap (λ (r : Result OpenFile Fault). r >>= λ o. opened_from (at + 1) (drop (at + 1) files) >>= λ os. Ok (o ∷ os)) read))
    ∙ so_far

pub fails_at : (before : List OpenFile) (at : ℕ) (files : List (List ℕ)) (b : List ℕ) (f : Fault) (total : Result (List OpenFile) Fault)
    → at < length files → b ≡ get_or files at b → opened_file at b ≡ Err f
    → onto before (opened_from at (drop at files)) ≡ total → total ≡ Err f
fails_at before at files b f total lt is read so_far =
    sym so_far
    ∙ ap (onto before) (at_next at files b lt is ∙ ap (λ (r : Result OpenFile Fault). r >>= λ o. opened_from (at + 1) (drop (at + 1) files) >>= λ os. Ok (o ∷ os)) read)

pub is_done : (before : List OpenFile) (at : ℕ) (files : List (List ℕ)) (total : Result (List OpenFile) Fault) → length files ≤ at
    → onto before (opened_from at (drop at files)) ≡ total → total ≡ Ok before
is_done before at files total le so_far =
    sym so_far ∙ ap (λ (bs : List (List ℕ)). onto before (opened_from at bs)) (drop_all at files le)
    ∙ ap (λ (xs : List OpenFile). let y : Result (List OpenFile) Fault = Ok xs in y) (append-nil before)
