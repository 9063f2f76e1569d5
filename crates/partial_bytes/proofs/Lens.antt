-- Where the bytes of parts begin, and how long the entries of each are, one part more.
use Rattle.std.proofs.Common.{◌≡◌, ℕ, zero, suc, ◌+◌, ◌<◌, List, [], ◌∷◌, ◌++◌, length, drop, get_or, refl, sym, ap, ◌∙◌, arith, append_assoc}
use Rattle.std.proofs.lemmas.List.{at_drop_more, drop_more, length-drop}
use Rattle.wl_each.specs.Items.{items_from}
use Rattle.partial_bytes.specs.declared.tree.Part.{Part}
use Rattle.partial_bytes.specs.declared.part.PartKind.{PartKind}
use Rattle.partial_bytes.specs.Measured.{entries_len, froms_at, entry_lens, len_there}
use Rattle.partial_bytes.specs.Written.{head_len}

-- ---- lists that are used up

cons_parts : (x y : ℕ) (xs ys : List ℕ) → x ∷ xs ≡ y ∷ ys → (x ≡ y) × (xs ≡ ys)
cons_parts x y xs ys e = (ap (λ (zs : List ℕ). get_or zs 0 0) e, ap (λ (zs : List ℕ). drop 1 zs) e)

there : (lens : List ℕ) (i x : ℕ) (rest : List ℕ) → drop i lens ≡ x ∷ rest → i < length lens
there lens i x rest e = omega (arith, length-drop i lens, ap (λ (zs : List ℕ). length zs) e)

next : (lens : List ℕ) (i x : ℕ) (rest : List ℕ) → drop i lens ≡ x ∷ rest → (get_or lens i 0 ≡ x) × (drop (i + 1) lens ≡ rest)
next lens i x rest e = cons_parts (get_or lens i 0) x (drop (i + 1) lens) rest (sym (drop_more lens i 0 (there lens i x rest e)) ∙ e)

-- ---- one part more

module _ (kind : PartKind) (ps : List Part) (i : ℕ) (d : Part) (lt : i < length ps) (at from end : ℕ)
    (begins : from ≡ at + head_len kind (get_or ps i d)) (ends : end ≡ from + length (get_or ps i d).bytes.now) where
  stop : at + head_len kind (get_or ps i d) + length (get_or ps i d).bytes.now ≡ end
  stop = omega (arith, begins, ends)

  pub lens_more : (lens : List ℕ) → drop i lens ≡ entry_lens kind at (drop i ps)
      → (get_or lens i 0 ≡ entries_len from (get_or ps i d)) × (drop (i + 1) lens ≡ entry_lens kind end (drop (i + 1) ps))
  lens_more lens so_far =
      let p : Part = get_or ps i d in
      let rest : List Part = drop (i + 1) ps in
      let here : drop i lens ≡ entry_lens kind at (p ∷ rest) = so_far ∙ at_drop_more (λ (xs : List Part). entry_lens kind at xs) ps i d lt in
      let both = next lens i (entries_len (at + head_len kind p) p) (entry_lens kind (at + head_len kind p + length p.bytes.now) rest) here in (
        both.0 ∙ ap (λ n. entries_len n p) (sym begins),
        both.1 ∙ ap (λ n. entry_lens kind n rest) stop,
      )

  pub froms_more : (froms new whole : List ℕ) → new ≡ froms ++ from ∷ [] → froms ++ froms_at kind at (drop i ps) ≡ whole → new ++ froms_at kind end (drop (i + 1) ps) ≡ whole
  froms_more froms new whole put so_far =
      let p : Part = get_or ps i d in
      let rest : List Part = drop (i + 1) ps in
      (λ j. put j ++ froms_at kind (sym stop j) rest)
      ∙ ap (λ n. (froms ++ n ∷ []) ++ froms_at kind (at + head_len kind p + length p.bytes.now) rest) begins
      ∙ behind froms (at + head_len kind p) (froms_at kind (at + head_len kind p + length p.bytes.now) rest)
      ∙ sym (at_drop_more (λ (xs : List Part). froms ++ froms_at kind at xs) ps i d lt)
      ∙ so_far
    where
      behind : (xs : List ℕ) (y : ℕ) (zs : List ℕ) → (xs ++ y ∷ []) ++ zs ≡ xs ++ y ∷ zs
      behind xs y zs = simp append_assoc

-- ---- all parts, each by itself

-- from item to item of a list
shifted : (item other : ℕ → ℕ) (at by count : ℕ) → ((k : ℕ) → item (k + by) ≡ other k) → items_from item (at + by) count ≡ items_from other at count
shifted item other at by zero same = refl
shifted item other at by (suc count) same =
    let place : at + by + 1 ≡ at + 1 + by = omega arith in
    ap (λ (xs : List ℕ). item (at + by) ∷ xs) (ap (λ (k : ℕ). items_from item k count) place ∙ shifted item other (at + 1) by count same)
    ∙ ap (λ (x : ℕ). x ∷ items_from other (at + 1) count) (same at)

pub lens_told : (kind : PartKind) (at : ℕ) (ps : List Part) → items_from (len_there ps (froms_at kind at ps)) 0 (length ps) ≡ entry_lens kind at ps
lens_told kind at [] = refl
lens_told kind at (p ∷ ps) =
    let from : ℕ = at + head_len kind p in
    let froms : List ℕ = froms_at kind (from + length p.bytes.now) ps in
    let later : (k : ℕ) → len_there (p ∷ ps) (from ∷ froms) (k + 1) ≡ len_there ps froms k = λ k. let next : k + 1 ≡ suc k = omega arith in ap (λ (n : ℕ). len_there (p ∷ ps) (from ∷ froms) n) next in
    ap (λ (ns : List ℕ). entries_len from p ∷ ns)
    (shifted (len_there (p ∷ ps) (from ∷ froms)) (len_there ps froms) 0 1 (length ps) later ∙ lens_told kind (from + length p.bytes.now) ps)
