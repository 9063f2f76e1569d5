-- Sources that are divided among workers, and what these write.
use Rattle.std.proofs.Common.{◌≡◌, ℕ, zero, suc, ◌+◌, ◌-◌, ◌<◌, ◌≤◌, List, [], ◌∷◌, ◌++◌, length, take, drop, slice_get, Option, Some, None, Ok, Err, Result, refl, sym, ap, subst, ◌∙◌, arith}
use Rattle.std.specs.Prelude.{slice_range, slice_set, IfSome, IfOk}
use Rattle.std.proofs.Math.Seq.{take-add, take-length}
use Rattle.std.proofs.lemmas.List.{drop-drop}
use Rattle.std.proofs.lemmas.Grind.{flat_map-append}
use Rattle.std.proofs.lemmas.Option.{same_Some, slice_get_within}
use Rattle.link_program.specs.wl_base.declared.layout_error.LayoutError.{LayoutError}
use Rattle.link_program.specs.wl_base.declared.memory.OutOfMemory.{OutOfMemory}
use Rattle.link_program.specs.wl_fan.Slices.{piece, Works}
use Rattle.link_program.specs.reloc_apply.declared.window.Patch.{Patch}
use Rattle.link_program.specs.reloc_apply.declared.window.Patches.{Patches}
use Rattle.wl_rows.specs.Ranges.{first_at, Rising}
use Rattle.wl_rows.proofs.Cuts.{first_past}
use Rattle.link_layout.specs.declared.gathering.Source.{Source}
use Rattle.link_layout.specs.Seen.{Looked}
use Rattle.link_layout.specs.Put.{written_on, written_of}
use Rattle.link_layout.specs.Sources.{source_windows, windows_of}
use Rattle.link_layout.specs.Parts.{sources_in, IsWritten, IsFirst, AreWritten, AreJoined}
use Rattle.link_layout.proofs.Patched.{put_both, put_alone}

-- ---- ranges

range_append : {X : Type 0} (xs : List X) (i j k : ℕ) → i ≤ j → j ≤ k → slice_range xs i k ≡ slice_range xs i j ++ slice_range xs j k
range_append xs i j k a b =
    let count : k - i ≡ j - i + (k - j) = omega (arith, a, b) in
    let place : i + (j - i) ≡ j = omega (arith, a) in
    ap (λ (n : ℕ). take n (drop i xs)) count ∙ (take-add (j - i) (k - j) (drop i xs)
    ∙ ap (λ rest. take (j - i) (drop i xs) ++ take (k - j) rest) (drop-drop (j - i) i xs ∙ ap (λ (n : ℕ). drop n xs) place))

range_all : {X : Type 0} (xs : List X) (n : ℕ) → n ≡ length xs → slice_range xs 0 n ≡ xs
range_all xs n is = let e : n - 0 ≡ length xs = omega (arith, is) in ap (λ (m : ℕ). take m xs) e ∙ take-length xs

-- ---- slots that are put together

module _ (k : Looked) (sources : List Source) (cuts : List ℕ) (count : ℕ) where
  -- What so many workers wrote is put together, and what the others wrote is in what is left of the slots.
  pub record Joining (worker : ℕ) (left : List (Option Patches)) (all : Patches) : Type 0 where
    pub done : IsWritten k (slice_range sources 0 (first_at cuts count worker)) all
    pub rest : (i : ℕ) (p : Patches) → slice_get left i ≡ Some (Some p) → IsWritten k (sources_in sources cuts count (worker + i)) p

  pub begun : (slots left : List (Option Patches)) (none : Patches) → left ≡ slots → none.patches ≡ [] → AreWritten k sources cuts count slots → Joining 0 left none
  begun slots left none same is made = record {
    done = ap (λ (ps : List Patch). let r : Result (List Patch) LayoutError = Ok ps in r) (sym is);
    rest = λ i p at.
        let e : i ≡ 0 + i = omega arith in
        subst (λ (w : ℕ). IsWritten k (sources_in sources cuts count w) p) e (made.each i p (sym (ap (λ (ss : List (Option Patches)). slice_get ss i) same) ∙ at));
  }

  pub joined_more : (worker : ℕ) (before left : List (Option Patches)) (one old new : Patches) → Rising cuts count → before ≡ Some one ∷ left → new.patches ≡ old.patches ++ one.patches
      → Joining worker before old → Joining (worker + 1) left new
  joined_more worker before left one old new rising is both so_far =
      let none : worker + 0 ≡ worker = omega arith in
      let own = subst (λ (w : ℕ). IsWritten k (sources_in sources cuts count w) one) none (so_far.rest 0 one (ap (λ (ss : List (Option Patches)). slice_get ss 0) is)) in
      let a = first_at cuts count worker in
      let b = first_at cuts count (worker + 1) in
      let front = slice_range sources 0 a in
      let windows : windows_of k (slice_range sources 0 b) ≡ windows_of k front ++ windows_of k (slice_range sources a b) =
      ap (windows_of k) (range_append sources 0 a b (omega arith) (rising worker (worker + 1) (omega arith)))
      ∙ flat_map-append (source_windows k) front (slice_range sources a b) in
      record {
        done = ap (λ ws. written_on k.mode [] ws) windows ∙ put_both k.mode (windows_of k front) (windows_of k (slice_range sources a b)) old.patches one.patches so_far.done own
            ∙ ap (λ (ps : List Patch). let r : Result (List Patch) LayoutError = Ok ps in r) (sym both);
        rest = λ i p at.
            let e : worker + suc i ≡ worker + 1 + i = omega arith in
            subst (λ (w : ℕ). IsWritten k (sources_in sources cuts count w) p) e
            (so_far.rest (suc i) p (ap (λ (ss : List (Option Patches)). slice_get ss (suc i)) is ∙ at));
      }

  pub joined_all : (worker : ℕ) (left : List (Option Patches)) (all : Patches) → worker ≡ length cuts + 1 → count ≡ length sources → Joining worker left all → IsWritten k sources all
  joined_all worker left all e whole so_far =
      let end : first_at cuts count worker ≡ count = ap (first_at cuts count) e ∙ first_past cuts count in
      subst (λ (ss : List Source). IsWritten k ss all) (ap (slice_range sources 0) end ∙ range_all sources count whole) so_far.done

  -- what the workers tell of their slots, of all slots
  one_slot : (slots : List (Option Patches)) (w : ℕ) (s : Option Patches) → slice_get slots w ≡ Some s → slice_get (piece (λ (n : ℕ). n) 0 w slots) 0 ≡ Some s
  one_slot slots w s at =
      let from : w - 0 ≡ w = omega arith in
      let long : w + 1 - 0 - (w - 0) ≡ suc zero = omega arith in
      ap (λ (n : ℕ). slice_get (take n (drop (w - 0) slots)) 0) long ∙ ap (λ (n : ℕ). slice_get (take (suc zero) (drop n slots)) 0) from ∙ first slots w at
    where
      first : (ss : List (Option Patches)) (i : ℕ) → slice_get ss i ≡ Some s → slice_get (take (suc zero) (drop i ss)) 0 ≡ Some s
      first [] i e = absurd (let lt = slice_get_within [] i s e in omega (arith, lt))
      first (x ∷ ss) zero e = e
      first (x ∷ ss) (suc i) e = first ss i e

  pub all_made : (old new : List (Option Patches)) → length new ≡ length cuts + 1
      → Works (λ w old new. IsFirst k (sources_in sources cuts count w) new) (λ w. w) 0 (length cuts + 1) old new → AreWritten k sources cuts count new
  all_made old new many works = record {
    many = many;
    each = λ w p at.
        let lt = slice_get_within new w (Some p) at in
        works w (omega arith) (omega (arith, lt, many)) p (one_slot new w (Some p) at);
  }

-- what a worker made is put into its slot
pub made_here : (k : Looked) (sources : List Source) (old : List (Option Patches)) (now : Option Patches) → 0 < length old → IfSome now (IsWritten k sources) → IsFirst k sources (slice_set old 0 now)
made_here k sources [] now some is p at = absurd (omega (arith, some))
made_here k sources (x ∷ xs) now some is p at =
    let own : now ≡ Some p = same_Some now (Some p) at in
    subst (λ (o : Option Patches). IfSome o (IsWritten k sources)) own is

-- a list that is written back whole
pub whole_back : {X : Type 0} (n : ℕ) (new rest : List X) → n ≡ length new → take n (new ++ rest) ≡ new
whole_back zero [] rest e = refl
whole_back (suc n) [] rest e = absurd (omega (arith, e))
whole_back zero (x ∷ new) rest e = absurd (omega (arith, e))
whole_back {X} (suc n) (x ∷ new) rest e = ap (λ (xs : List X). let ys : List X = x ∷ xs in ys) (whole_back n new rest (omega (arith, e)))

-- where all slots are put together, all windows are written
pub all_joined : (k : Looked) (sources : List Source) (cuts : List ℕ) (count workers : ℕ) (slots : List (Option Patches)) (r : Result (Option Patches) OutOfMemory) → workers ≡ length cuts + 1
    → count ≡ length sources → Rising cuts count → AreWritten k sources cuts count slots → IfOk r (λ all. IfSome all (AreJoined workers slots))
    → IfOk r (λ all. IfSome all (λ pieces. written_of k.mode (windows_of k sources) ≡ Ok pieces))
all_joined k sources cuts count workers slots (Ok (Some all)) many whole rising made joined = put_alone k.mode (windows_of k sources) all.patches (joined k sources cuts count many whole rising made)
all_joined k sources cuts count workers slots (Ok None) many whole rising made joined = tt
all_joined k sources cuts count workers slots (Err e) many whole rising made joined = tt
