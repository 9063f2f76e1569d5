use Rattle.std.proofs.Common.{◌≡◌, ◌≢◌, ℕ, zero, suc, ◌<◌, List, [], ◌∷◌, length, get_or, refl, sym, arith, rules, below_more, get_or-set_other, get_or-set_same}
use Rattle.std.specs.Mem.Slots.{slots_items, slots_counts}
use mathlib.Core.Option.{some, some-ne-none, some-injective}
use lib.ListN.{get_elem?}
use Rattle.mark_bits.proofs.bits.copy_words.Goals as goal

read : (l : List ℕ) (i a : ℕ) → get_elem? l i ≡ some a → get_or l i 0 ≡ a
read [] i a e = absurd (some-ne-none a (sym e))
read (x ∷ xs) zero a e = some-injective x a e
read (x ∷ xs) (suc i) a e = read xs i a e

same_items : (xs ys : List ℕ) → length xs ≡ length ys → ((k : ℕ) → k < length xs → get_or xs k 0 ≡ get_or ys k 0) → xs ≡ ys
same_items [] [] l h = refl
same_items [] (y ∷ ys) l h = absurd (omega arith)
same_items (x ∷ xs) [] l h = absurd (omega arith)
same_items (x ∷ xs) (y ∷ ys) l h = let head = h 0 (omega arith) in let rest = same_items xs ys (omega arith) (λ k b. h (suc k) (omega arith)) in λ i. head i ∷ rest i

pub loop-i-preserved : goal.loop-i-preserved
loop-i-preserved c =
    below_more _ _
    (λ k h. let ne : k ≢ c.loop-i.i = omega arith in rw get_or-set_other (c.loop-i.invariant k h))
    (let lt : c.loop-i.i < length c.loop-i.words = omega arith in rw get_or-set_same (sym (read (slots_items c.args.closed.now.words) c.loop-i.i c.word.result c.word.ensures)))

pub returns : goal.returns
returns c =
    let long = c.requires.1 in
    let counts = slots_counts c.args.closed.now.words in
    let end = c.loop-i-test.false in
    let same : length c.loop-i.words ≡ length c.args.words.now = search rules in
    same_items c.loop-i.words (slots_items c.args.closed.now.words) (omega arith) (λ k b. c.loop-i.invariant k (omega arith))
