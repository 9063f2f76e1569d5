-- Two machines over paired worlds go together.
use Rattle.std.proofs.Common.{◌≡◌, ℕ, zero, suc, List, [], ◌∷◌, ◌++◌, length, map, Option, Some, None, Bool, true, false, refl, sym, ap, ◌∙◌, subst}
use Rattle.std.specs.Prelude.{slice_get, slice_set, reverse, take, drop, nat_le, if◌then◌else◌, ◌&&◌, bytes_eq}
use Rattle.std.proofs.Common.{⊎_elim, arith}
use Rattle.std.proofs.lemmas.Bool.Decides.{eqb_tells}
use Rattle.wasm_types.specs.declared.function.FuncType.{FuncType}
use Rattle.wasm_types.specs.Same.{same_type}
use Rattle.wasm_instr.specs.declared.instr.Instr.{Instr}
use Rattle.run_rules.specs.declared.value.Value.{Value}
use Rattle.run_rules.specs.declared.value.Value.TheVariants.{I32, I64, F32, F64}
use Rattle.run_rules.specs.declared.trace.Event.{Event}
use Rattle.run_rules.specs.declared.trace.Event.TheVariants.{Stuck, StepsSpent}
use Rattle.run_rules.specs.declared.op.Mark.{Mark}
use Rattle.run_rules.specs.declared.op.Op.{Op}
use Rattle.run_rules.specs.declared.op.Op.TheVariants.{Own, OpenBlock, CallTo, CallThrough, ReadCell, WriteCell, Number, Absent}
use Rattle.run_rules.specs.declared.world.Source.{Source}
use Rattle.run_rules.specs.declared.world.Source.TheVariants.{Nowhere, Host, Code}
use Rattle.run_rules.specs.declared.world.Function.{Function}
use Rattle.run_rules.specs.declared.world.Target.{Target}
use Rattle.run_rules.specs.declared.world.Target.TheVariants.{ToFunction, ToCell, ToNumber, Elsewhere}
use Rattle.run_rules.specs.declared.world.Exported.{Exported}
use Rattle.run_rules.specs.declared.world.World.{World}
use Rattle.run_rules.specs.declared.state.Frame.{Frame}
use Rattle.run_rules.specs.declared.state.Inner.{Inner}
use Rattle.run_rules.specs.declared.state.State.{State}
use Rattle.run_rules.specs.declared.state.How.{How}
use Rattle.run_rules.specs.declared.state.How.TheVariants.{GoesOn, CallOver, Halts}
use Rattle.run_rules.specs.declared.session.Call.{Call}
use Rattle.run_rules.specs.declared.session.Session.{Session}
use Rattle.run_rules.specs.Control.{mark}
use Rattle.run_rules.specs.Own.{Turn, Goes, Leaves, Traps, Ends, own, open_block}
use Rattle.run_rules.specs.Steps.{Step, Names, Cells, stepped, told, ended, left_to, turned, have_types, replied, asking, into, call_as, joined, function_at, call, checked_as, checked, entry, call_in, call_through, pushed, read_cell, written_cell, write_cell, carried_out, in_source, in_function, running, step}
use Rattle.run_rules.specs.Runs.{shown, export_value, export_values, closing, halted, takes, first_of, matched, called, hosted, begin_as, begin_function, begin_found, begin, Ran, Over, Closed, drive, play, trace_of}
use Rattle.sim_laws.specs.Pairs.{Renaming, Calls, Both, Each, OpPairs, SourcePairs, FunctionPairs, TargetPairs, ExportPairs, WorldPairs, CellsPair, Alike}

-- what pairs at each place
get_each : {A B : Type 0} (R : A → B → Type 0) (xs : List A) (ys : List B) (k : ℕ) → Each R xs ys → Both R (slice_get xs k) (slice_get ys k)
get_each R [] [] k h = tt
get_each R (x ∷ xs) (y ∷ ys) zero h = h.0
get_each R (x ∷ xs) (y ∷ ys) (suc k) h = get_each R xs ys k h.1
get_each R [] (y ∷ ys) k h = absurd h
get_each R (x ∷ xs) [] k h = absurd h

-- an element that is written, and each other
set_same : {X : Type 0} (xs : List X) (k : ℕ) (x y : X) → slice_get xs k ≡ Some x → slice_get (slice_set xs k y) k ≡ Some y
set_same [] k x y h = absurd (grind arith)
set_same (z ∷ xs) zero x y h = refl
set_same (z ∷ xs) (suc k) x y h = set_same xs k x y h

set_other : {X : Type 0} (xs : List X) (k j : ℕ) (y : X) → (j ≡ k → ⊥) → slice_get (slice_set xs k y) j ≡ slice_get xs j
set_other [] k j y h = refl
set_other (z ∷ xs) zero zero y h = absurd (h refl)
set_other (z ∷ xs) zero (suc j) y h = refl
set_other (z ∷ xs) (suc k) zero y h = refl
set_other (z ∷ xs) (suc k) (suc j) y h = set_other xs k j y (λ e. h (ap suc e))

-- both elements, where one is there
value_there : (o : Option (Option Value)) (v : Value) → joined o ≡ Some v → o ≡ Some (Some v)
value_there None v h = absurd (grind arith)
value_there (Some o) v h = ap Some h

module _ (r : Renaming) where
  -- instructions that pair leave one mark
  mark_alike : (a b : Op) → OpPairs r a b → mark a ≡ mark b
  mark_alike (Own x) (Own y) h = ap (λ z. mark (Own z)) h
  mark_alike (OpenBlock op t) (OpenBlock op' u) h = refl
  mark_alike (CallTo f) (CallTo g) h = refl
  mark_alike (CallThrough t) (CallThrough u) h = refl
  mark_alike (Number n) (Number k) h = refl
  mark_alike (Number n) (ReadCell d) h = refl
  mark_alike (ReadCell c) (ReadCell d) h = refl
  mark_alike (WriteCell c) (WriteCell d) h = refl
  mark_alike Absent Absent h = refl
  mark_alike _ _ h = absurd h

  marks_alike : (xs ys : List Op) → Each (OpPairs r) xs ys → map mark xs ≡ map mark ys
  marks_alike [] [] h = refl
  marks_alike (x ∷ xs) (y ∷ ys) h =
      ap (λ m. m ∷ map mark xs) (mark_alike x y h.0) ∙ ap (λ ms. mark y ∷ ms) (marks_alike xs ys h.1)
  marks_alike [] (y ∷ ys) h = absurd h
  marks_alike (x ∷ xs) [] h = absurd h

  -- steps that pair
  record Steps (a b : Step) : Type 0 where
    state : Alike r a.state b.state
    how : a.how ≡ b.how

  alike : (ns ns' : Names) (cs cs' : Cells) (i : Inner) (h : How) → Each (Calls r) ns ns' → CellsPair r cs cs' → Steps (stepped ns cs i h) (stepped ns' cs' i h)
  alike ns ns' cs cs' i h n c = record { state = record { names = n; cells = c; inner = refl }; how = refl }

  either : (b : Bool) (x y x' y' : Step) → Steps x x' → Steps y y' → Steps (if b then x else y) (if b then x' else y')
  either true x y x' y' p q = p
  either false x y x' y' p q = q

  rest_alike : (ns ns' : Names) → Each (Calls r) ns ns' → Each (Calls r) (drop 1 ns) (drop 1 ns')
  rest_alike [] [] h = tt
  rest_alike (f ∷ ns) (g ∷ ns') h = h.1
  rest_alike [] (g ∷ ns') h = absurd h
  rest_alike (f ∷ ns) [] h = absurd h

  left_alike : (fs : List Frame) (ns ns' : Names) (cs cs' : Cells) (i : Inner) (vs : List Value) → Each (Calls r) ns ns' → CellsPair r cs cs' → Steps (left_to fs ns cs i vs) (left_to fs ns' cs' i vs)
  left_alike [] ns ns' cs cs' i vs n c = alike _ _ _ _ _ _ tt c
  left_alike (f ∷ fs) ns ns' cs cs' i vs n c = alike _ _ _ _ _ _ (rest_alike ns ns' n) c

  module _ (w m : World) (wm : WorldPairs r w m) where
    -- one write to a cell and to the one that it is renamed to
    cells_set : (cs cs' : Cells) (x d : ℕ) (old v : Value) → CellsPair r cs cs' → r.cell x ≡ Some d → slice_get cs x ≡ Some (Some old) → CellsPair r (slice_set cs x (Some v)) (slice_set cs' d (Some v))
    cells_set cs cs' x d old v c xd h = record { renamed = renamed; constant = constant }
      where
        there : slice_get cs' d ≡ Some (Some old)
        there = sym (c.renamed x d xd) ∙ h

        same : (y e : ℕ) → y ≡ x → r.cell y ≡ Some e → slice_get (slice_set cs x (Some v)) y ≡ slice_get (slice_set cs' d (Some v)) e
        same y e yx ye =
            let de : e ≡ d = grind arith in
            ap (λ k. slice_get (slice_set cs x (Some v)) k) yx ∙ set_same cs x (Some old) (Some v) h
            ∙ sym (ap (λ k. slice_get (slice_set cs' d (Some v)) k) de ∙ set_same cs' d (Some old) (Some v) there)

        other : (y e : ℕ) → (y ≡ x → ⊥) → r.cell y ≡ Some e → slice_get (slice_set cs x (Some v)) y ≡ slice_get (slice_set cs' d (Some v)) e
        other y e yx ye =
            set_other cs x y (Some v) yx ∙ c.renamed y e ye
            ∙ sym (set_other cs' d e (Some v) (λ ed. yx (wm.apart y x d (ye ∙ ap Some ed) xd)))

        renamed : (y e : ℕ) → r.cell y ≡ Some e → slice_get (slice_set cs x (Some v)) y ≡ slice_get (slice_set cs' d (Some v)) e
        renamed y e ye = ⊎_elim (λ t. same y e t.1 ye) (λ t. other y e t.1 ye) (eqb_tells y x)

        constant : (e u : ℕ) → r.constant e ≡ Some u → slice_get (slice_set cs' d (Some v)) e ≡ Some (Some (I32 u))
        constant e u k =
            set_other cs' d e (Some v) (λ ed. let f = wm.free x d xd in let k' = ap r.constant ed in cc)
            ∙ c.constant e u k

  turned_alike : (ns ns' : Names) (cs cs' : Cells) (i : Inner) (t : Turn) → Each (Calls r) ns ns' → CellsPair r cs cs' → Steps (turned ns cs i t) (turned ns' cs' i t)
  turned_alike ns ns' cs cs' i (Goes j) n c = alike _ _ _ _ _ _ n c
  turned_alike ns ns' cs cs' i (Leaves vs) n c = left_alike i.below _ _ _ _ i vs n c
  turned_alike ns ns' cs cs' i (Traps k) n c = alike _ _ _ _ _ _ tt c
  turned_alike ns ns' cs cs' i (Ends e) n c = alike _ _ _ _ _ _ tt c

  -- under the same cells and names from here on
  module _ (s : Session) (ns ns' : Names) (cs cs' : Cells) (i : Inner) (n : Each (Calls r) ns ns') (c : CellsPair r cs cs') where
    stuck : Steps (ended cs i Stuck) (ended cs' i Stuck)
    stuck = alike _ _ _ _ _ _ tt c

    into_alike : (h h' : ℕ) (t : FuncType) (args vs : List Value) (a b : Source) → Calls r h h' → SourcePairs r a b → Steps (into s h ns cs i t args vs a) (into s h' ns' cs' i t args vs b)
    into_alike h h' t args vs Nowhere Nowhere hh p = stuck
    into_alike h h' t args vs (Host m x) (Host m' x') hh p =
        subst (λ q. Steps (into s h ns cs i t args vs (Host m x)) (into s h' ns' cs' i t args vs (Host m' q))) p.1
        (subst (λ q. Steps (into s h ns cs i t args vs (Host m x)) (into s h' ns' cs' i t args vs (Host q x))) p.0
        (turned_alike ns ns' cs cs' (asking i m x (reverse args)) (replied t (asking i m x (reverse args)) vs (slice_get s.answers i.answered)) n c))
    into_alike h h' t args vs (Code ls code) (Code ls' code') hh p =
        subst (λ q. Steps (into s h ns cs i t args vs (Code ls code)) (into s h' ns' cs' i t args vs (Code q code'))) p.0
        (alike _ _ _ _ _ _ (hh, n) c)
    into_alike h h' t args vs Nowhere (Host m x) hh p = absurd p
    into_alike h h' t args vs Nowhere (Code m x) hh p = absurd p
    into_alike h h' t args vs (Host m x) Nowhere hh p = absurd p
    into_alike h h' t args vs (Host m x) (Code ls code) hh p = absurd p
    into_alike h h' t args vs (Code ls code) Nowhere hh p = absurd p
    into_alike h h' t args vs (Code ls code) (Host m x) hh p = absurd p

    call_as_alike : (h h' : ℕ) (vs : List Value) (t : FuncType) (a b : Source) → Calls r h h' → SourcePairs r a b → Steps (call_as s h ns cs i vs t a) (call_as s h' ns' cs' i vs t b)
    call_as_alike h h' vs t a b hh p =
        either (nat_le (length t.params) (length vs)) _ _ _ _ (into_alike h h' t (take (length t.params) vs) (drop (length t.params) vs) a b hh p) stuck

    call_alike : (h h' : ℕ) (vs : List Value) (a b : Option Function) → Calls r h h' → Both (FunctionPairs r) a b → Steps (call s h ns cs i vs a) (call s h' ns' cs' i vs b)
    call_alike h h' vs None None hh p = stuck
    call_alike h h' vs (Some a) (Some b) hh p =
        subst (λ k. Steps (call s h ns cs i vs (Some a)) (call_as s h' ns' cs' i vs k b.source)) p.kind
        (call_as_alike h h' vs a.kind a.source b.source hh p.source)
    call_alike h h' vs None (Some b) hh p = absurd p
    call_alike h h' vs (Some a) None hh p = absurd p

    checked_alike : (h h' : ℕ) (t : FuncType) (vs : List Value) (a b : Option Function) → Calls r h h' → Both (FunctionPairs r) a b → Steps (checked s h ns cs i t vs a) (checked s h' ns' cs' i t vs b)
    checked_alike h h' t vs None None hh p = stuck
    checked_alike h h' t vs (Some a) (Some b) hh p =
        subst (λ k. Steps (checked s h ns cs i t vs (Some a)) (checked_as s h' ns' cs' i t vs k b.source)) p.kind
        (either (same_type a.kind t) _ _ _ _ (call_as_alike h h' vs a.kind a.source b.source hh p.source) (alike _ _ _ _ _ _ tt c))
    checked_alike h h' t vs None (Some b) hh p = absurd p
    checked_alike h h' t vs (Some a) None hh p = absurd p

    module _ (w m : World) (wm : WorldPairs r w m) where
      entry_alike : (t : FuncType) (vs : List Value) (a b : Option (Option ℕ)) → Both (Both (Calls r)) a b → Steps (entry w s ns cs i t vs a) (entry m s ns' cs' i t vs b)
      entry_alike t vs None None p = alike _ _ _ _ _ _ tt c
      entry_alike t vs (Some None) (Some None) p = alike _ _ _ _ _ _ tt c
      entry_alike t vs (Some (Some h)) (Some (Some h')) p = checked_alike h h' t vs _ _ p (wm.functions h h' p)
      entry_alike t vs None (Some b) p = absurd p
      entry_alike t vs (Some a) None p = absurd p
      entry_alike t vs (Some None) (Some (Some h)) p = absurd p
      entry_alike t vs (Some (Some h)) (Some None) p = absurd p

      call_in_alike : (t : FuncType) (xs ys : List (Option ℕ)) (vs : List Value) → Each (Both (Calls r)) xs ys → Steps (call_in w s ns cs i t xs vs) (call_in m s ns' cs' i t ys vs)
      call_in_alike t xs ys (I32 k ∷ vs) h = entry_alike t vs _ _ (get_each (Both (Calls r)) xs ys k h)
      call_in_alike t xs ys (I64 k ∷ vs) h = stuck
      call_in_alike t xs ys (F32 k ∷ vs) h = stuck
      call_in_alike t xs ys (F64 k ∷ vs) h = stuck
      call_in_alike t xs ys [] h = stuck

      through_alike : (t : FuncType) (a b : Option (List (Option ℕ))) → Both (Each (Both (Calls r))) a b → Steps (call_through w s ns cs i t a) (call_through m s ns' cs' i t b)
      through_alike t None None h = stuck
      through_alike t (Some xs) (Some ys) h = call_in_alike t xs ys i.frame.values h
      through_alike t None (Some ys) h = absurd h
      through_alike t (Some xs) None h = absurd h

      pushed_alike : (o : Option Value) → Steps (pushed ns cs i o) (pushed ns' cs' i o)
      pushed_alike None = stuck
      pushed_alike (Some v) = alike _ _ _ _ _ _ n c

      read_alike : (x d : ℕ) → r.cell x ≡ Some d → Steps (read_cell ns cs i x) (read_cell ns' cs' i d)
      read_alike x d xd =
          subst (λ o. Steps (read_cell ns cs i x) (pushed ns' cs' i (joined o))) (c.renamed x d xd) (pushed_alike (joined (slice_get cs x)))

      written_alike : (x d : ℕ) (o : Option Value) (vs : List Value) → r.cell x ≡ Some d → joined (slice_get cs x) ≡ o → Steps (written_cell ns cs i x o vs) (written_cell ns' cs' i d o vs)
      written_alike x d None vs xd e = stuck
      written_alike x d (Some old) [] xd e = stuck
      written_alike x d (Some old) (v ∷ vs) xd e =
          alike _ _ _ _ _ _ n (cells_set w m wm cs cs' x d old v c xd (value_there (slice_get cs x) old e))

      write_alike : (x d : ℕ) (vs : List Value) → r.cell x ≡ Some d → Steps (write_cell ns cs i x vs) (write_cell ns' cs' i d vs)
      write_alike x d vs xd =
          subst (λ o. Steps (write_cell ns cs i x vs) (written_cell ns' cs' i d (joined o) vs)) (c.renamed x d xd)
          (written_alike x d (joined (slice_get cs x)) vs xd refl)

      -- an instruction that asks nothing, whichever it is
      own_alike : (x y : Instr) → x ≡ y → Steps (turned ns cs i (own w.memory s i x)) (turned ns' cs' i (own m.memory s i y))
      own_alike x y h =
          subst (λ t. Steps (turned ns cs i (own w.memory s i x)) (turned ns' cs' i t))
          (ap (λ k. own k s i x) wm.memory ∙ ap (λ z. own m.memory s i z) h)
          (turned_alike ns ns' cs cs' i (own w.memory s i x) n c)

      block_alike : (ms ms' : List Mark) (op op' : ℕ) (t u : FuncType) → ms ≡ ms' → op ≡ op' → t ≡ u → Steps (turned ns cs i (open_block i ms op t)) (turned ns' cs' i (open_block i ms' op' u))
      block_alike ms ms' op op' t u e p q =
          subst (λ z. Steps (turned ns cs i (open_block i ms op t)) (turned ns' cs' i z))
          (ap (λ z. open_block i z op t) e ∙ ap (λ z. open_block i ms' z t) p ∙ ap (λ z. open_block i ms' op' z) q)
          (turned_alike ns ns' cs cs' i (open_block i ms op t) n c)

      number_alike : (k d : ℕ) → r.constant d ≡ Some k → Steps (pushed ns cs i (Some (I32 k))) (read_cell ns' cs' i d)
      number_alike k d h = subst (λ o. Steps (pushed ns cs i (Some (I32 k))) (pushed ns' cs' i (joined o))) (sym (c.constant d k h)) (pushed_alike (Some (I32 k)))

      op_alike : (ms ms' : List Mark) (a b : Op) → ms ≡ ms' → OpPairs r a b → Steps (carried_out w s ms ns cs i (Some a)) (carried_out m s ms' ns' cs' i (Some b))
      op_alike ms ms' (Own x) (Own y) e h = own_alike x y h
      op_alike ms ms' (OpenBlock op t) (OpenBlock op' u) e h = block_alike ms ms' op op' t u e h.0 h.1
      op_alike ms ms' (CallTo x) (CallTo y) e h = call_alike x y i.frame.values _ _ h (wm.functions x y h)
      op_alike ms ms' (CallThrough t) (CallThrough u) e h =
          subst (λ k. Steps (call_through w s ns cs i t w.table) (call_through m s ns' cs' i k m.table)) h (through_alike t w.table m.table wm.table)
      op_alike ms ms' (ReadCell x) (ReadCell d) e h = read_alike x d h
      op_alike ms ms' (WriteCell x) (WriteCell d) e h = write_alike x d i.frame.values h
      op_alike ms ms' (Number k) (Number k') e h = subst (λ z. Steps (pushed ns cs i (Some (I32 k))) (pushed ns' cs' i (Some (I32 z)))) h (pushed_alike (Some (I32 k)))
      op_alike ms ms' (Number k) (ReadCell d) e h = number_alike k d h
      op_alike ms ms' Absent Absent e h = stuck
      op_alike ms ms' _ _ e h = absurd h

      placed_alike : (ms ms' : List Mark) (a b : Option Op) → ms ≡ ms' → Both (OpPairs r) a b → Steps (carried_out w s ms ns cs i a) (carried_out m s ms' ns' cs' i b)
      placed_alike ms ms' None None e h = stuck
      placed_alike ms ms' (Some a) (Some b) e h = op_alike ms ms' a b e h
      placed_alike ms ms' None (Some b) e h = absurd h
      placed_alike ms ms' (Some a) None e h = absurd h

      source_alike : (a b : Source) → SourcePairs r a b → Steps (in_source w s ns cs i a) (in_source m s ns' cs' i b)
      source_alike (Code ls code) (Code ls' code') p =
          placed_alike _ _ _ _ (marks_alike code code' p.1) (get_each (OpPairs r) code code' i.frame.place p.1)
      source_alike Nowhere Nowhere p = stuck
      source_alike (Host x y) (Host x' y') p = stuck
      source_alike Nowhere (Host x y) p = absurd p
      source_alike Nowhere (Code x y) p = absurd p
      source_alike (Host x y) Nowhere p = absurd p
      source_alike (Host x y) (Code ls code) p = absurd p
      source_alike (Code ls code) Nowhere p = absurd p
      source_alike (Code ls code) (Host x y) p = absurd p

      function_alike : (a b : Option Function) → Both (FunctionPairs r) a b → Steps (in_function w s ns cs i a) (in_function m s ns' cs' i b)
      function_alike None None p = stuck
      function_alike (Some a) (Some b) p = source_alike a.source b.source p.source
      function_alike None (Some b) p = absurd p
      function_alike (Some a) None p = absurd p

  module _ (w m : World) (wm : WorldPairs r w m) (s : Session) where
    running_alike : (ns ns' : Names) → Each (Calls r) ns ns' → Both (FunctionPairs r) (running w ns) (running m ns')
    running_alike [] [] n = tt
    running_alike (f ∷ ns) (g ∷ ns') n = wm.functions f g n.0
    running_alike [] (g ∷ ns') n = absurd n
    running_alike (f ∷ ns) [] n = absurd n

    step_in_alike : (ns ns' : Names) (cs cs' : Cells) (i : Inner) → Each (Calls r) ns ns' → CellsPair r cs cs' → Steps (in_function w s ns cs i (running w ns)) (in_function m s ns' cs' i (running m ns'))
    step_in_alike ns ns' cs cs' i n c = function_alike s ns ns' cs cs' i n c w m wm _ _ (running_alike ns ns' n)

    -- one step
    step_alike : (a b : State) → Alike r a b → Steps (step w s a) (step m s b)
    unfolding step
    step_alike a b h =
        subst (λ x. Steps (in_function w s a.names a.cells a.inner (running w a.names)) (in_function m s b.names b.cells x (running m b.names))) h.inner
        (step_in_alike a.names b.names a.cells b.cells a.inner h.names h.cells)

    shown_alike : (cs cs' : Cells) (x y : List ℕ) (a b : Target) → CellsPair r cs cs' → x ≡ y → TargetPairs r a b → export_value cs x a ≡ export_value cs' y b
    shown_alike cs cs' x y (ToFunction f) (ToFunction g) c e t = refl
    shown_alike cs cs' x y (ToCell p) (ToCell q) c e t =
        ap (λ o. shown x (joined o)) (c.renamed p q t) ∙ ap (λ z. shown z (joined (slice_get cs' q))) e
    shown_alike cs cs' x y (ToNumber k) (ToNumber k') c e t =
        ap (λ z. shown x (Some (I32 z))) t ∙ ap (λ z. shown z (Some (I32 k'))) e
    shown_alike cs cs' x y (ToNumber k) (ToCell q) c e t =
        ap (λ z. shown z (Some (I32 k))) e ∙ sym (ap (λ o. shown y (joined o)) (c.constant q k t))
    shown_alike cs cs' x y Elsewhere Elsewhere c e t = refl
    shown_alike cs cs' x y _ _ c e t = absurd t

    exports_alike : (cs cs' : Cells) (xs ys : List Exported) → CellsPair r cs cs' → Each (ExportPairs r) xs ys → export_values cs xs ≡ export_values cs' ys
    exports_alike cs cs' [] [] c h = refl
    exports_alike cs cs' (x ∷ xs) (y ∷ ys) c h =
        ap (λ vs. vs ++ export_values cs xs) (shown_alike cs cs' x.name y.name x.target y.target c h.0.name h.0.target)
        ∙ ap (λ vs. export_value cs' y.name y.target ++ vs) (exports_alike cs cs' xs ys c h.1)
    exports_alike cs cs' [] (y ∷ ys) c h = absurd h
    exports_alike cs cs' (x ∷ xs) [] c h = absurd h

    closing_alike : (a b : State) → Alike r a b → closing w a ≡ closing m b
    closing_alike a b h =
        ap (λ i. record { events = i.events; memory = i.memory; globals = export_values a.cells w.exports }) h.inner
        ∙ ap (λ g. record { events = b.inner.events; memory = b.inner.memory; globals = g }) (exports_alike a.cells b.cells w.exports m.exports h.cells wm.exports)

    halted_alike : (a b : State) (e : Event) → Alike r a b → halted w a e ≡ halted m b e
    halted_alike a b e h = closing_alike _ _ (record { names = h.names; cells = h.cells; inner = ap (λ i. told i e) h.inner })

    -- runs that pair
    Rans : Ran → Ran → Type 0
    Rans (Over a n) (Over b k) = Alike r a b × (n ≡ k)
    Rans (Closed a) (Closed b) = a ≡ b
    Rans _ _ = ⊥

    drive_alike : (n : ℕ) (a b : State) (h : How) → Alike r a b → Rans (drive w s n a h) (drive m s n b h)
    unfolding drive Rans
    drive_alike n a b CallOver p = (p, refl)
    drive_alike n a b (Halts e) p = halted_alike a b e p
    drive_alike zero a b GoesOn p = halted_alike a b StepsSpent p
    drive_alike (suc n) a b GoesOn p =
        let q = step_alike a b p in
        subst (λ h. Rans (drive w s n (step w s a).state (step w s a).how) (drive m s n (step m s b).state h)) q.how
        (drive_alike n (step w s a).state (step m s b).state (step w s a).how q.state)

    takes_alike : (vs : List Value) (a b : Option Function) → Both (FunctionPairs r) a b → takes vs a ≡ takes vs b
    takes_alike vs None None h = refl
    takes_alike vs (Some a) (Some b) h = ap (λ (t : FuncType). have_types vs t.params) h.kind
    takes_alike vs None (Some b) h = absurd h
    takes_alike vs (Some a) None h = absurd h

    chosen_alike : (b : Bool) (f g : ℕ) (x y : Option ℕ) → Calls r f g → Both (Calls r) x y → Both (Calls r) (first_of b f x) (first_of b g y)
    chosen_alike true f g x y p q = p
    chosen_alike false f g x y p q = q

    target_alike : (c : Call) (b : Bool) (x y : Target) (p q : Option ℕ) → TargetPairs r x y → Both (Calls r) p q → Both (Calls r) (matched w c b x p) (matched m c b y q)
    target_alike c b (ToFunction f) (ToFunction g) p q t h =
        subst (λ k. Both (Calls r) (matched w c b (ToFunction f) p) (first_of (b && k) g q)) (takes_alike c.args _ _ (wm.functions f g t))
        (chosen_alike (b && takes c.args (function_at w f)) f g p q t h)
    target_alike c b (ToCell f) (ToCell g) p q t h = h
    target_alike c b (ToNumber f) (ToNumber g) p q t h = h
    target_alike c b (ToNumber f) (ToCell g) p q t h = h
    target_alike c b Elsewhere Elsewhere p q t h = h
    target_alike c b _ _ p q t h = absurd t

    called_alike : (c : Call) (xs ys : List Exported) → Each (ExportPairs r) xs ys → Both (Calls r) (called w c xs) (called m c ys)
    called_alike c [] [] h = tt
    called_alike c (x ∷ xs) (y ∷ ys) h =
        subst (λ z. Both (Calls r) (called w c (x ∷ xs)) (matched m c (bytes_eq z c.name) y.target (called m c ys))) h.0.name
        (target_alike c (bytes_eq x.name c.name) x.target y.target _ _ h.0.target (called_alike c xs ys h.1))
    called_alike c [] (y ∷ ys) h = absurd h
    called_alike c (x ∷ xs) [] h = absurd h

    hosted_alike : (cs cs' : Cells) (i : Inner) (t : Turn) → CellsPair r cs cs' → Steps (hosted cs i t) (hosted cs' i t)
    hosted_alike cs cs' i (Goes j) c = left_alike [] [] [] cs cs' j j.frame.values tt c
    hosted_alike cs cs' i (Leaves vs) c = alike _ _ _ _ _ _ tt c
    hosted_alike cs cs' i (Traps k) c = alike _ _ _ _ _ _ tt c
    hosted_alike cs cs' i (Ends e) c = alike _ _ _ _ _ _ tt c

    begin_as_alike : (f g : ℕ) (cs cs' : Cells) (i : Inner) (c : Call) (t : FuncType) (a b : Source) → Calls r f g → CellsPair r cs cs' → SourcePairs r a b → Steps (begin_as s f cs i c t a) (begin_as s g cs' i c t b)
    begin_as_alike f g cs cs' i c t Nowhere Nowhere fg p h = alike _ _ _ _ _ _ tt p
    begin_as_alike f g cs cs' i c t (Host x y) (Host x' y') fg p h =
        subst (λ q. Steps (begin_as s f cs i c t (Host x y)) (begin_as s g cs' i c t (Host x' q))) h.1
        (subst (λ q. Steps (begin_as s f cs i c t (Host x y)) (begin_as s g cs' i c t (Host q y))) h.0
        (hosted_alike cs cs' (asking i x y c.args) (replied t (asking i x y c.args) [] (slice_get s.answers i.answered)) p))
    begin_as_alike f g cs cs' i c t (Code ls code) (Code ls' code') fg p h =
        subst (λ q. Steps (begin_as s f cs i c t (Code ls code)) (begin_as s g cs' i c t (Code q code'))) h.0
        (alike _ _ _ _ _ _ (fg, tt) p)
    begin_as_alike f g cs cs' i c t Nowhere (Host x y) fg p h = absurd h
    begin_as_alike f g cs cs' i c t Nowhere (Code x y) fg p h = absurd h
    begin_as_alike f g cs cs' i c t (Host x y) Nowhere fg p h = absurd h
    begin_as_alike f g cs cs' i c t (Host x y) (Code ls code) fg p h = absurd h
    begin_as_alike f g cs cs' i c t (Code ls code) Nowhere fg p h = absurd h
    begin_as_alike f g cs cs' i c t (Code ls code) (Host x y) fg p h = absurd h

    begin_function_alike : (f g : ℕ) (cs cs' : Cells) (i : Inner) (c : Call) (a b : Option Function) → Calls r f g → CellsPair r cs cs' → Both (FunctionPairs r) a b → Steps (begin_function s f cs i c a) (begin_function s g cs' i c b)
    begin_function_alike f g cs cs' i c None None fg p h = alike _ _ _ _ _ _ tt p
    begin_function_alike f g cs cs' i c (Some a) (Some b) fg p h =
        subst (λ k. Steps (begin_function s f cs i c (Some a)) (begin_as s g cs' i c k b.source)) h.kind
        (begin_as_alike f g cs cs' i c a.kind a.source b.source fg p h.source)
    begin_function_alike f g cs cs' i c None (Some b) fg p h = absurd h
    begin_function_alike f g cs cs' i c (Some a) None fg p h = absurd h

    begin_found_alike : (cs cs' : Cells) (i : Inner) (c : Call) (x y : Option ℕ) → CellsPair r cs cs' → Both (Calls r) x y → Steps (begin_found w s cs i c x) (begin_found m s cs' i c y)
    begin_found_alike cs cs' i c None None p h = alike _ _ _ _ _ _ tt p
    begin_found_alike cs cs' i c (Some f) (Some g) p h = begin_function_alike f g cs cs' i c _ _ h p (wm.functions f g h)
    begin_found_alike cs cs' i c None (Some g) p h = absurd h
    begin_found_alike cs cs' i c (Some f) None p h = absurd h

    begin_alike : (a b : State) (c : Call) → Alike r a b → Steps (begin w s a c) (begin m s b c)
    unfolding begin
    begin_alike a b c h =
        subst (λ i. Steps (begin w s a c) (begin_found m s b.cells i c (called m c m.exports))) h.inner
        (begin_found_alike a.cells b.cells a.inner c _ _ h.cells (called_alike c w.exports m.exports wm.exports))

    play_alike : (cs : List Call) (a b : Ran) → Rans a b → play w s cs a ≡ play m s cs b
    unfolding play Rans
    play_alike cs (Closed a) (Closed b) h = h
    play_alike [] (Over a n) (Over b k) h = closing_alike a b h.0
    play_alike (c ∷ cs) (Over a n) (Over b k) h =
        let q = begin_alike a b c h.0 in
        play_alike cs _ _
        (subst (λ x. Rans (drive w s n (begin w s a c).state (begin w s a c).how) (drive m s x (begin m s b c).state (begin m s b c).how)) h.1
        (subst (λ x. Rans (drive w s n (begin w s a c).state (begin w s a c).how) (drive m s n (begin m s b c).state x)) q.how
        (drive_alike n (begin w s a c).state (begin m s b c).state (begin w s a c).how q.state)))
    play_alike cs (Closed a) (Over b k) h = absurd h
    play_alike cs (Over a n) (Closed b) h = absurd h

pub lockstep_law : (r : Renaming) (w m : World) (s : Session) (a b : State) (n : ℕ) → WorldPairs r w m → Alike r a b → trace_of w s a n ≡ trace_of m s b n
unfolding Rans
lockstep_law r w m s a b n wm h = play_alike r w m wm s s.calls (Over a n) (Over b n) (h, refl)
