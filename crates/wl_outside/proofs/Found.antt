-- The newest content of a name.
use Rattle.std.proofs.Common.{◌≡◌, ◌≢◌, ℕ, ◌+◌, ◌<◌, List, [], ◌∷◌, ◌++◌, length, take, get_or, Bool, true, false, Option, Some, None, refl, ap, ◌∙◌, sym}
use Rattle.std.specs.Prelude.{if◌then◌else◌}
use Rattle.std.specs.Str.{bytes_eq}
use Rattle.std.proofs.lemmas.Slice.Eq.{bytes_eq-Decides}
use Rattle.std.proofs.lemmas.List.{take_more}
use Rattle.wl_outside.specs.declared.held.Held.{Held}
use Rattle.wl_outside.specs.MemShelf.{found, newer}

-- what one file gives for a name
abbrev pub given : Held → List ℕ → Option (List ℕ)
given file name = if bytes_eq file.name name then Some file.bytes else None

newer_assoc : (x y z : Option (List ℕ)) → newer (newer x y) z ≡ newer x (newer y z)
newer_assoc (Some x) y z = refl
newer_assoc None y z = refl

newer_none : (x : Option (List ℕ)) → newer x None ≡ x
newer_none (Some x) = refl
newer_none None = refl

-- one more file
pub found_push : (files : List Held) (file : Held) (name : List ℕ)
    → found (files ++ file ∷ []) name ≡ newer (given file name) (found files name)
found_push [] file name = sym (newer_none (given file name))
found_push (x ∷ xs) file name =
    ap (λ o. newer o (given x name)) (found_push xs file name) ∙ newer_assoc (given file name) (found xs name) (given x name)

given_same : (file : Held) (name : List ℕ) → bytes_eq file.name name ≡ true → given file name ≡ Some file.bytes
given_same file name e = rw e refl

given_other : (file : Held) (name : List ℕ) → bytes_eq file.name name ≡ false → given file name ≡ None
given_other file name e = rw e refl

false_from : (b : Bool) → (b ≡ true → ⊥) → b ≡ false
false_from true n = absurd (n refl)
false_from false n = refl

pub found_same : (files : List Held) (file : Held) (n : List ℕ) → file.name ≡ n → found (files ++ file ∷ []) n ≡ Some file.bytes
found_same files file n e =
    found_push files file n
    ∙ ap (λ o. newer o (found files n)) (given_same file n ((bytes_eq-Decides file.name n).1 e))

pub found_other : (files : List Held) (file : Held) (n : List ℕ) → n ≢ file.name → found (files ++ file ∷ []) n ≡ found files n
found_other files file n differs =
    found_push files file n
    ∙ ap (λ o. newer o (found files n)) (given_other file n (false_from (bytes_eq file.name n) (λ e. differs (sym ((bytes_eq-Decides file.name n).0 e)))))

-- the files up to one more
pub found_more_same : (files : List Held) (i : ℕ) (file : Held) (n : List ℕ) → i < length files → file ≡ get_or files i file → bytes_eq file.name n ≡ true
    → found (take (i + 1) files) n ≡ Some file.bytes
found_more_same files i file n h is e =
    ap (λ fs. found fs n) (take_more files i file h ∙ ap (λ f. take i files ++ f ∷ []) (sym is))
    ∙ found_push (take i files) file n ∙ ap (λ o. newer o (found (take i files) n)) (given_same file n e)

pub found_more_other : (files : List Held) (i : ℕ) (file : Held) (n : List ℕ) → i < length files → file ≡ get_or files i file → bytes_eq file.name n ≡ false
    → found (take (i + 1) files) n ≡ found (take i files) n
found_more_other files i file n h is e =
    ap (λ fs. found fs n) (take_more files i file h ∙ ap (λ f. take i files ++ f ∷ []) (sym is))
    ∙ found_push (take i files) file n ∙ ap (λ o. newer o (found (take i files) n)) (given_other file n e)
