-- What workers tell of runs of parts, put together.
use Rattle.std.proofs.Common.{◌≡◌, ℕ, zero, suc, ◌+◌, ◌-◌, ◌<◌, ◌≤◌, Bool, true, false, List, [], ◌∷◌, length, take, drop, Option, Some, None, Result, Ok, Err, refl, ap, subst, sym, ◌∙◌, arith}
use Rattle.std.specs.Prelude.{slice_get, slice_set, nat_lt, nat_le, IfOk}
use Rattle.std.proofs.lemmas.Bool.{ltb-true, ltb-false, leb-true, leb-false}
use Rattle.std.proofs.lemmas.Option.{same_Some, slice_get_within}
use Rattle.wasm_module.specs.wasm_instr.declared.body.Body.{Body}
use Rattle.wasm_module.specs.declared.fault.ModuleFault.{ModuleFault}
use Rattle.wasm_module.specs.declared.fault.ModuleFault.TheVariants.{NotModule, OutOfMemory}
use Rattle.wl_fan.specs.Slices.{piece, Works}
use Rattle.wl_rows.specs.Ranges.{first_at, Rising}
use Rattle.wl_rows.proofs.Cuts.{first_past}
use Rattle.valid_bodies.specs.declared.types.Context.{Context}
use Rattle.valid_bodies.specs.First.{TypedAt, IsFirstIn}
use Rattle.valid_bodies.specs.Shares.{AreTold as AreTyped, first_told}
use Rattle.valid_bodies.proofs.Shares.{first_of_runs}
use Rattle.module_front.specs.Front.{bodies_of}
use Rattle.output_check.specs.Told.{IsRead, AreRead, TellsAt, TellsRun, IsTold, AreTold, Finds, earlier, merged}
use Rattle.output_check.proofs.OneByOne.{all_read, as_many}

abbrev Told : Type 0
Told = Result (Option ℕ) ModuleFault

-- ---- slots

one_slot : {X : Type 0} (xs : List X) (k : ℕ) (x : X) → slice_get xs k ≡ Some x → slice_get (piece (λ (n : ℕ). n) 0 k xs) 0 ≡ Some x
one_slot {X} xs k x at =
    let from : k - 0 ≡ k = omega arith in
    let long : k + 1 - 0 - (k - 0) ≡ suc zero = omega arith in
    ap (λ (n : ℕ). slice_get (take n (drop (k - 0) xs)) 0) long ∙ ap (λ (n : ℕ). slice_get (take (suc zero) (drop n xs)) 0) from ∙ front xs k at
  where
    front : (ys : List X) (i : ℕ) → slice_get ys i ≡ Some x → slice_get (take (suc zero) (drop i ys)) 0 ≡ Some x
    front [] i e = absurd (let lt = slice_get_within [] i x e in omega (arith, lt))
    front (y ∷ ys) zero e = e
    front (y ∷ ys) (suc i) e = front ys i e

-- ---- what is told in order

-- none has failed
all_ok : (first : Option ℕ) (slots : List Told) (found : Option ℕ) → merged first slots ≡ Ok found → (k : ℕ) → k < length slots → (x : Option ℕ) × (slice_get slots k ≡ Some (Ok x))
all_ok first [] found e k below = absurd (omega (arith, below))
all_ok first (Ok x ∷ slots) found e zero below = (x, refl)
all_ok first (Ok x ∷ slots) found e (suc k) below = all_ok (earlier first x) slots found e k (omega (arith, below))
all_ok first (Err d ∷ slots) found e k below = absurd cc

-- one has failed
one_failed : (first : Option ℕ) (slots : List Told) (d : ModuleFault) → merged first slots ≡ Err d → (k : ℕ) × (slice_get slots k ≡ Some (Err d))
one_failed first [] d e = absurd cc
one_failed first (Ok x ∷ slots) d e = let more = one_failed (earlier first x) slots d e in (suc more.0, more.1)
one_failed first (Err c ∷ slots) d e = let same : c ≡ d = cc in (0, ap (λ (f : ModuleFault). Some (Err f)) same)

-- behind one that was found nothing is looked at
kept : (at : ℕ) (slots : List Told) (found : Option ℕ) → merged (Some at) slots ≡ Ok found → found ≡ Some at
kept at [] found e = cc
kept at (Ok x ∷ slots) found e = kept at slots found e
kept at (Err d ∷ slots) found e = absurd cc

first_is : (slots : List Told) (found : Option ℕ) → merged None slots ≡ Ok found → Ok found ≡ first_told slots
first_is [] found e = sym e
first_is (Ok None ∷ slots) found e = first_is slots found e
first_is (Ok (Some at) ∷ slots) found e = ap (λ (o : Option ℕ). Ok o) (kept at slots found e)
first_is (Err d ∷ slots) found e = absurd cc

module _ (c : Context) (functions : List ℕ) (parts : List (List ℕ)) where
  -- ---- a run

  -- no part
  pub none_yet : (from : ℕ) → AreRead c functions parts from from None
  none_yet from = record { read = λ k above below. absurd (omega (arith, above, below)); typed = λ bodies e k above below. absurd (omega (arith, above, below)) }

  typed_too : (from at : ℕ) (first : Option ℕ) (bodies : List Body) → from ≤ at → IsFirstIn c functions bodies from at first → TypedAt c functions bodies at → IsFirstIn c functions bodies from (at + 1) first
  typed_too from at None bodies le all typed = λ k above below. one k above (nat_lt k at) refl below
    where
      one : (k : ℕ) → from ≤ k → (b : Bool) → nat_lt k at ≡ b → k < at + 1 → TypedAt c functions bodies k
      one k above true e below = all k above (ltb-true k at e)
      one k above false e below =
          let no = ltb-false k at e in
          let same : at ≡ k = omega (arith, no, below) in
          subst (λ (n : ℕ). TypedAt c functions bodies n) same typed
  typed_too from at (Some k) bodies le is typed = let below = is.1 in (is.0, omega (arith, below), is.2, is.3)

  untyped_now : (from at : ℕ) (first : Option ℕ) (bodies : List Body) → from ≤ at → IsFirstIn c functions bodies from at first → (TypedAt c functions bodies at → ⊥) → IsFirstIn c functions bodies from (at + 1) (earlier first (Some at))
  untyped_now from at None bodies le all never = (le, omega arith, all, never)
  untyped_now from at (Some k) bodies le is never = let below = is.1 in (is.0, omega (arith, below), is.2, is.3)

  read_too : (from at : ℕ) (first : Option ℕ) → AreRead c functions parts from at first → IsRead (slice_get parts at) → (k : ℕ) → from ≤ k → k < at + 1 → IsRead (slice_get parts k)
  read_too from at first are now k above below = one (nat_lt k at) refl
    where
      one : (b : Bool) → nat_lt k at ≡ b → IsRead (slice_get parts k)
      one true e = are.read k above (ltb-true k at e)
      one false e =
          let no = ltb-false k at e in
          let same : at ≡ k = omega (arith, no, below) in
          subst (λ (n : ℕ). IsRead (slice_get parts n)) same now

  -- a body that has a typing
  pub goes_on : (from at : ℕ) (first : Option ℕ) (so : Bool) → from ≤ at → so ≡ true → AreRead c functions parts from at first → TellsAt c functions parts at (Ok so) → AreRead c functions parts from (at + 1) first
  goes_on from at first true le is are tells = record {
    read = read_too from at first are tells.0;
    typed = λ bodies e. typed_too from at first bodies le (are.typed bodies e) (tells.1 bodies e);
  }
  goes_on from at first false le is are tells = absurd cc

  -- one that has none
  pub comes_to : (from at : ℕ) (first : Option ℕ) (so : Bool) → from ≤ at → so ≡ false → AreRead c functions parts from at first → TellsAt c functions parts at (Ok so) → AreRead c functions parts from (at + 1) (earlier first (Some at))
  comes_to from at first true le is are tells = absurd cc
  comes_to from at first false le is are tells = record {
    read = read_too from at first are tells.0;
    typed = λ bodies e. untyped_now from at first bodies le (are.typed bodies e) (tells.1 bodies e);
  }

  -- a whole run; one that ends before it begins has no part
  pub is_done : (from to at : ℕ) (first : Option ℕ) → to ≤ at → (from ≤ to → at ≤ to) → (to < from → first ≡ None) → AreRead c functions parts from at first → AreRead c functions parts from to first
  is_done from to at first le ends none are = by_length (nat_le from to) refl
    where
      by_length : (b : Bool) → nat_le from to ≡ b → AreRead c functions parts from to first
      by_length true e =
          let same : at ≡ to = omega (arith, le, ends (leb-true from to e)) in
          subst (λ (n : ℕ). AreRead c functions parts from n first) same are
      by_length false e =
          let short : to < from = leb-false from to e in
          subst (AreRead c functions parts from to) (sym (none short)) (record { read = λ k above below. absurd (omega (arith, above, below, short)); typed = λ bodies e k above below. absurd (omega (arith, above, below, short)) })

  -- ---- slots

  -- what a worker tells, in its slot
  pub told_here : (from to : ℕ) (old : List Told) (now : Told) → TellsRun c functions parts from to now → IsTold c functions parts from to (slice_set old 0 now)
  told_here from to [] now tells told at = absurd cc
  told_here from to (x ∷ xs) now tells told at = subst (TellsRun c functions parts from to) (same_Some now told at) tells

  -- what the workers tell in their slots, in all slots
  pub all_told : (cuts : List ℕ) (count : ℕ) (old new : List Told) → length old ≡ length cuts + 1 → length new ≡ length old
      → Works (λ k (before after : List Told). IsTold c functions parts (first_at cuts count k) (first_at cuts count (k + 1)) after) (λ k. k) 0 (length cuts + 1) old new → AreTold c functions parts cuts count new
  all_told cuts count old new long same works = record {
    long = same ∙ long;
    each = λ k told at.
        let lt = slice_get_within new k told at in
        works k (omega arith) (omega (arith, lt, long, same)) told (one_slot new k told at);
  }

  -- ---- all runs

  module _ (cuts : List ℕ) (count : ℕ) (rising : Rising cuts count) (whole : count ≡ length parts) (slots : List Told) (are : AreTold c functions parts cuts count slots) where
    abbrev start : ℕ → ℕ
    start k = first_at cuts count k

    run_read : (found : Option ℕ) → merged None slots ≡ Ok found → (k : ℕ) → k ≤ length cuts → (j : ℕ) → start k ≤ j → j < start (k + 1) → IsRead (slice_get parts j)
    run_read found e k le j above below =
        let long = are.long in
        let ok = all_ok None slots found e k (omega (arith, long, le)) in
        let run : AreRead c functions parts (start k) (start (k + 1)) ok.0 = are.each k (Ok ok.0) ok.1 in
        run.read j above below

    one_more : (k j : ℕ) (b : Bool) → nat_lt j (start k) ≡ b → (j < start k → IsRead (slice_get parts j)) → (start k ≤ j → IsRead (slice_get parts j)) → IsRead (slice_get parts j)
    one_more k j true lt before here = before (ltb-true j (start k) lt)
    one_more k j false e before here = here (ltb-false j (start k) e)

    before_run : (found : Option ℕ) → merged None slots ≡ Ok found → (k : ℕ) → k ≤ length cuts + 1 → (j : ℕ) → j < start k → IsRead (slice_get parts j)
    before_run found e zero le j below = absurd (omega (arith, below))
    before_run found e (suc k) le j below =
        let next : suc k ≡ k + 1 = omega arith in
        one_more k j (nat_lt j (start k)) refl (λ before. before_run found e k (omega (arith, le)) j before)
        (λ above. run_read found e k (omega (arith, le)) j above (subst (λ (n : ℕ). j < start n) next below))

    every_read : (found : Option ℕ) → merged None slots ≡ Ok found → (j : ℕ) → j < length parts → IsRead (slice_get parts j)
    every_read found e j below =
        let past : start (length cuts + 1) ≡ count = first_past cuts count in
        before_run found e (length cuts + 1) (omega arith) j (omega (arith, below, past, whole))

    are_typed : (bodies : List Body) → bodies_of parts ≡ Ok bodies → AreTyped c functions bodies cuts count slots
    are_typed bodies e = record { long = are.long; each = λ k told at. of_run k told (are.each k told at) }
      where
        of_run : (k : ℕ) (told : Told) → TellsRun c functions parts (start k) (start (k + 1)) told → IfOk told (λ found. IsFirstIn c functions bodies (start k) (start (k + 1)) found)
        of_run k (Ok found) run = run.typed bodies e
        of_run k (Err d) run = tt

    pub found_by_runs : (r : Told) → r ≡ merged None slots → Finds c functions parts r
    found_by_runs (Ok found) is =
        let read = all_read parts (every_read found (sym is)) in
        let many = as_many parts read.0 read.1 in
        (read.0, read.1, first_of_runs c functions read.0 cuts count rising (whole ∙ many) slots (Ok found) (are_typed read.0 read.1) (first_is slots found (sym is)))
    found_by_runs (Err NotModule) is =
        let one = one_failed None slots NotModule (sym is) in
        are.each one.0 (Err NotModule) one.1
    found_by_runs (Err OutOfMemory) is = tt
