-- What is read has a typing.
use Rattle.std.proofs.Common.{◌≡◌, ℕ, List, [], ◌∷◌, ◌++◌, Option, Some, None, Bool, true, false, refl, sym, ap, ◌∙◌, subst, ◌⊎◌, inl, inr}
use Rattle.std.specs.Prelude.{reverse, option_and_then, if◌then◌else◌, slice_get, ◌&&◌}
use Rattle.std.proofs.lemmas.List.{reverse-append, reverse-reverse, append_assoc, append-nil}
use Rattle.std.proofs.lemmas.Option.{option_and_then_some}
use Rattle.std.proofs.lemmas.Grind.{reverse_onto}
use Rattle.wasm_types.specs.declared.value.ValType.{ValType}
use Rattle.wasm_types.specs.declared.value.ValType.TheVariants.{I32}
use Rattle.valid_rules.specs.declared.types.Operand.{Operand}
use Rattle.valid_rules.specs.declared.types.Operand.TheVariants.{Known}
use Rattle.wasm_types.specs.declared.function.FuncType.{FuncType}
use Rattle.valid_rules.specs.declared.types.Opener.{Opener}
use Rattle.valid_rules.specs.declared.types.Opener.TheVariants.{Block, Loop, If}
use Rattle.valid_rules.specs.declared.types.Shape.{Shape}
use Rattle.valid_rules.specs.declared.types.Shape.TheVariants.{Typed, Drops, Selects, Leaves, Branches, BranchesIf, BranchesBy, Opens, Else, End, Untyped}
use Rattle.valid_rules.specs.declared.types.Frame.{Frame}
use Rattle.valid_rules.specs.Leads.{Labels, known, Leads, nothing, follows, above, typed, drops, selects, leaves, branches, branches_if, branches_by, blocks, loops, either, or_not, IsTyped}
use Rattle.valid_rules.specs.Reading.{take_all, taken, put, take_any, selected, fit, arity, labels, with_operands, entered, used, cut, over, pushed, closes_as, parted_as, asks, step, read, whole}
use Rattle.valid_rules.proofs.Fitting.{Fits, matches_itself, take_back, fits_itself, known_reverse, put_back, any_back, selected_back, empties_back, some_is, no_some}
use Rattle.valid_rules.proofs.Branching.{Branch, branch_back, true_both}

-- What a frame's code has behind it: the rest of its block, and what comes behind that.
record Begun (ls : Labels) (unreachable : Bool) (operands : List Operand) (results : List ValType) (End : List Shape → Type 0) (is : List Shape) : Type 0 where
  types : List Operand
  fits : Fits unreachable operands types
  body : List Shape
  tail : List Shape
  splits : is ≡ body ++ tail
  leads : Leads ls body (reverse types) (known results)
  ends : End tail

-- the end, and what comes behind
record Ends (Next : List Shape → Type 0) (is : List Shape) : Type 0 where
  after : List Shape
  splits : is ≡ End ∷ after
  next : Next after

record EndsBare (ls : Labels) (t : FuncType) (Next : List Shape → Type 0) (is : List Shape) : Type 0 where
  after : List Shape
  splits : is ≡ End ∷ after
  leads : Leads ls [] (known t.params) (known t.results)
  next : Next after

record EndsElse (ls : Labels) (t : FuncType) (Next : List Shape → Type 0) (is : List Shape) : Type 0 where
  other : List Shape
  after : List Shape
  splits : is ≡ Else ∷ other ++ End ∷ after
  leads : Leads ls other (known t.params) (known t.results)
  next : Next after

abbrev Tail : Opener → FuncType → Labels → (List Shape → Type 0) → List Shape → Type 0
Tail Block t ls Next is = Ends Next is
Tail Loop t ls Next is = Ends Next is
Tail If t ls Next is = EndsBare ls t Next is ⊎ EndsElse ls t Next is

-- The code closes these frames, the innermost with `extra` operands on its own.
abbrev Rest : List Operand → List Frame → List Shape → Type 0
Rest extra [] is = is ≡ []
Rest extra (f ∷ fs) is =
    Begun (labels (f ∷ fs)) f.unreachable (extra ++ f.operands) f.kind.results
    (Tail f.opener f.kind (labels (f ∷ fs)) (λ js. Rest (known (reverse f.kind.results)) fs js)) is

if_some : {A P : Type 0} (b : Bool) (x y : A) → (if b then Some x else None) ≡ Some y → (b ≡ true → Some x ≡ Some y → P) → P
if_some true x y e k = k refl e
if_some false x y e k = no_some y e

if_then : {A P : Type 0} (b : Bool) (o : Option A) (y : A) → (if b then o else None) ≡ Some y → (b ≡ true → o ≡ Some y → P) → P
if_then true o y e k = k refl e
if_then false o y e k = no_some y e

unturned : (ts : List ValType) (u : List Operand) → reverse (known (reverse ts) ++ u) ≡ reverse u ++ known ts
unturned ts u = reverse-append (known (reverse ts)) u ∙ ap (λ x. reverse u ++ reverse x) (known_reverse ts) ∙ ap (λ x. reverse u ++ x) (reverse-reverse (known ts))

-- one instruction before the rest
record Before (ls : Labels) (d : Bool) (vs : List Operand) (w : List Shape) (b : List Operand) : Type 0 where
  types : List Operand
  fits : Fits d vs types
  leads : Leads ls w (reverse types) (reverse b)

module _ (ls : Labels) (d d' : Bool) (vs vs' : List Operand) (rs : List ValType) (T : List Shape → Type 0) where
  before : (w is : List Shape) → ((b : List Operand) → Fits d' vs' b → Before ls d vs w b) → Begun ls d' vs' rs T is → Begun ls d vs rs T (w ++ is)
  before w is k r =
      let m = k r.types r.fits in
      record {
        types = m.types;
        fits = m.fits;
        body = w ++ r.body;
        tail = r.tail;
        splits = ap (λ x. w ++ x) r.splits ∙ sym (append_assoc w r.body r.tail);
        leads = follows m.leads r.leads;
        ends = r.ends;
      }

module _ (ls : Labels) (d : Bool) (vs ws : List Operand) where
  -- takes these and puts those
  used_before : (w : List Shape) (ts rs : List ValType) → take_all d (reverse ts) vs ≡ Some ws → Leads ls w (known ts) (known rs) →
      (b : List Operand) → Fits d (put rs ws) b → Before ls d vs w b
  used_before w ts rs e p b h =
      let q = put_back d (reverse rs) ws b h in
      record {
        types = known (reverse ts) ++ q.below;
        fits = take_back d (reverse ts) vs ws q.below e q.fits;
        leads =
            subst (λ x. Leads ls w x (reverse b)) (sym (unturned ts q.below))
            (subst (λ x. Leads ls w (reverse q.below ++ known ts) x) (sym (ap reverse q.is ∙ unturned rs q.below))
            (above (reverse q.below) p));
      }

  -- takes these, and leads to anything
  cut_before : (w : List Shape) (ts : List ValType) → take_all d (reverse ts) vs ≡ Some ws → ((a b : List Operand) → Leads ls w (a ++ known ts) b) →
      (b : List Operand) → Before ls d vs w b
  cut_before w ts e p b =
      record {
        types = known (reverse ts) ++ ws;
        fits = take_back d (reverse ts) vs ws ws e (fits_itself d ws);
        leads = subst (λ x. Leads ls w x (reverse b)) (sym (unturned ts ws)) (p (reverse ws) (reverse b));
      }

Back : List Frame → Frame → Shape → List Shape → Type 0
Back fs f i is = (gs : List Frame) → step fs f i ≡ Some gs → Rest [] gs is → Rest [] (f ∷ fs) (i ∷ is)

module _ (fs : List Frame) (f : Frame) (is : List Shape) where
  used_back : (i : Shape) (ts rs : List ValType) (gs : List Frame) → Leads (labels (f ∷ fs)) (i ∷ []) (known ts) (known rs) → used fs f ts rs ≡ Some gs → Rest [] gs is → Rest [] (f ∷ fs) (i ∷ is)
  used_back i ts rs gs p e r =
      option_and_then_some (λ vs. Some (with_operands f (put rs vs) ∷ fs)) (taken f ts) gs e (λ ws we ge.
      before (labels (f ∷ fs)) f.unreachable f.unreachable f.operands (put rs ws) _ _ (i ∷ []) is
      (used_before (labels (f ∷ fs)) f.unreachable f.operands ws (i ∷ []) ts rs we p)
      (some_is (λ x. Rest [] x is) (with_operands f (put rs ws) ∷ fs) gs ge r))

  cut_back : (i : Shape) (ts : List ValType) (gs : List Frame) → ((a b : List Operand) → Leads (labels (f ∷ fs)) (i ∷ []) (a ++ known ts) b) → cut fs f ts ≡ Some gs → Rest [] gs is → Rest [] (f ∷ fs) (i ∷ is)
  cut_back i ts gs p e r =
      option_and_then_some (λ vs. Some (record f { operands = []; unreachable = true } ∷ fs)) (taken f ts) gs e (λ ws we ge.
      before (labels (f ∷ fs)) f.unreachable true f.operands [] _ _ (i ∷ []) is
      (λ b h. cut_before (labels (f ∷ fs)) f.unreachable f.operands ws (i ∷ []) ts we p b)
      (some_is (λ x. Rest [] x is) (record f { operands = []; unreachable = true } ∷ fs) gs ge r))

  drops_back : (gs : List Frame) → step fs f Drops ≡ Some gs → Rest [] gs is → Rest [] (f ∷ fs) (Drops ∷ is)
  unfolding step
  drops_back gs e r =
      option_and_then_some (λ p. Some (with_operands f p.1 ∷ fs)) (take_any f.unreachable f.operands) gs e (λ p pe ge.
      before (labels (f ∷ fs)) f.unreachable f.unreachable f.operands p.1 _ _ (Drops ∷ []) is
      (λ b h. record {
        types = p.0 ∷ b;
        fits = any_back f.unreachable f.operands p p.0 b pe (matches_itself p.0) h;
        leads =
            subst (λ x. Leads (labels (f ∷ fs)) (Drops ∷ []) x (reverse b)) (sym (reverse_onto b p.0 []))
            (subst (λ x. Leads (labels (f ∷ fs)) (Drops ∷ []) (reverse b ++ p.0 ∷ []) x) (append-nil (reverse b))
            (above (reverse b) drops));
      })
      (some_is (λ x. Rest [] x is) (with_operands f p.1 ∷ fs) gs ge r))

  selects_before : (ws vs : List Operand) → take_all f.unreachable (I32 ∷ []) f.operands ≡ Some ws → selected f.unreachable ws ≡ Some vs →
      (b : List Operand) → Fits f.unreachable vs b → Before (labels (f ∷ fs)) f.unreachable f.operands (Selects ∷ []) b
  selects_before ws vs we ve b h =
      let q = selected_back f.unreachable ws vs b ve h in
      record {
        types = Known I32 ∷ q.kind ∷ q.kind ∷ q.below;
        fits = take_back f.unreachable (I32 ∷ []) f.operands ws (q.kind ∷ q.kind ∷ q.below) we q.fits;
        leads =
            subst (λ x. Leads (labels (f ∷ fs)) (Selects ∷ []) x (reverse b)) (sym (reverse_onto q.below q.kind (q.kind ∷ Known I32 ∷ [])))
            (subst (λ x. Leads (labels (f ∷ fs)) (Selects ∷ []) (reverse q.below ++ q.kind ∷ q.kind ∷ Known I32 ∷ []) x) (sym (ap reverse q.is ∙ reverse_onto q.below q.kind []))
            (above (reverse q.below) selects));
      }

  selects_back : (gs : List Frame) → step fs f Selects ≡ Some gs → Rest [] gs is → Rest [] (f ∷ fs) (Selects ∷ is)
  unfolding step
  selects_back gs e r =
      option_and_then_some (λ vs. option_and_then (λ ws. Some (with_operands f ws ∷ fs)) (selected f.unreachable vs)) (taken f (I32 ∷ [])) gs e (λ ws we e1.
      option_and_then_some (λ x. Some (with_operands f x ∷ fs)) (selected f.unreachable ws) gs e1 (λ vs ve ge.
      before (labels (f ∷ fs)) f.unreachable f.unreachable f.operands vs _ _ (Selects ∷ []) is (selects_before ws vs we ve)
      (some_is (λ x. Rest [] x is) (with_operands f vs ∷ fs) gs ge r)))

  branches_by_before : (l : ℕ) (ks : List ℕ) (ws : List Operand) → take_all f.unreachable (I32 ∷ []) f.operands ≡ Some ws → Branch f.unreachable ws (labels (f ∷ fs)) (l ∷ ks) →
      (b : List Operand) → Before (labels (f ∷ fs)) f.unreachable f.operands (BranchesBy ks l ∷ []) b
  branches_by_before l ks ws we m b =
      record {
        types = Known I32 ∷ reverse (m.below ++ m.types);
        fits = take_back f.unreachable (I32 ∷ []) f.operands ws (reverse (m.below ++ m.types)) we m.fits;
        leads =
            subst (λ x. Leads (labels (f ∷ fs)) (BranchesBy ks l ∷ []) x (reverse b))
            (sym (reverse_onto (reverse (m.below ++ m.types)) (Known I32) [] ∙ ap (λ x. x ++ Known I32 ∷ []) (reverse-reverse (m.below ++ m.types))))
            (branches_by m.below m.types m.takes);
      }

  branches_by_back : (l : ℕ) (ks : List ℕ) (gs : List Frame) → step fs f (BranchesBy ks l) ≡ Some gs → Rest [] gs is → Rest [] (f ∷ fs) (BranchesBy ks l ∷ is)
  unfolding step
  branches_by_back l ks gs e r =
      let ls = labels (f ∷ fs) in
      option_and_then_some
      (λ vs. if fit f.unreachable vs ls (arity (slice_get ls l)) (l ∷ ks) then Some (record f { operands = []; unreachable = true } ∷ fs) else None)
      (taken f (I32 ∷ [])) gs e (λ ws we e1.
      if_some (fit f.unreachable ws ls (arity (slice_get ls l)) (l ∷ ks)) (record f { operands = []; unreachable = true } ∷ fs) gs e1 (λ fe ge.
      before ls f.unreachable true f.operands [] _ _ (BranchesBy ks l ∷ []) is
      (λ b h. branches_by_before l ks ws we (branch_back f.unreachable ws ls (arity (slice_get ls l)) l ks fe) b)
      (some_is (λ x. Rest [] x is) (record f { operands = []; unreachable = true } ∷ fs) gs ge r)))

  -- an instruction that opens, and its block
  opened_back : (o : Opener) (t : FuncType) (ws : List Operand) (w after : List Shape) → taken f (asks o t) ≡ Some ws → Leads (labels (f ∷ fs)) w (known (asks o t)) (known t.results) →
      Rest (known (reverse t.results)) (with_operands f ws ∷ fs) after → Opens o t ∷ is ≡ w ++ after → Rest [] (f ∷ fs) (Opens o t ∷ is)
  opened_back o t ws w after we p r e =
      subst (λ x. Rest [] (f ∷ fs) x) (sym e)
      (before (labels (f ∷ fs)) f.unreachable f.unreachable f.operands (put t.results ws) _ _ w after
      (used_before (labels (f ∷ fs)) f.unreachable f.operands ws w (asks o t) t.results we p) r)

-- at a block's start its operands stand for its parameters alone
started : (ts : List ValType) (b : List Operand) → Fits false (put ts []) b → b ≡ known (reverse ts) ++ []
started ts b h = let q = put_back false (reverse ts) [] b h in q.is ∙ ap (λ x. known (reverse ts) ++ x) (bare q.below q.fits)
  where
    bare : (u : List Operand) → Fits false [] u → u ≡ []
    bare [] h = refl
    bare (x ∷ u) h = absurd h

from_start : (ls : Labels) (is : List Shape) (ts rs : List ValType) (b : List Operand) → Fits false (put ts []) b → Leads ls is (reverse b) (known rs) → Leads ls is (known ts) (known rs)
from_start ls is ts rs b h p = subst (λ x. Leads ls is x (known rs)) (ap reverse (started ts b h) ∙ unturned ts []) p

if_back : (fs : List Frame) (f : Frame) (is : List Shape) (t : FuncType) (ws : List Operand) → taken f (asks If t) ≡ Some ws →
    (r : Rest [] (entered If t ∷ with_operands f ws ∷ fs) is) → Tail If t (t.results ∷ labels (f ∷ fs)) (λ js. Rest (known (reverse t.results)) (with_operands f ws ∷ fs) js) r.tail →
    Rest [] (f ∷ fs) (Opens If t ∷ is)
if_back fs f is t ws we r (inl m) =
    opened_back fs f is If t ws (Opens If t ∷ r.body ++ End ∷ []) m.after we (or_not (from_start _ r.body t.params t.results r.types r.fits r.leads) m.leads) m.next
    (ap (λ x. Opens If t ∷ x) (r.splits ∙ ap (λ x. r.body ++ x) m.splits ∙ sym (append_assoc r.body (End ∷ []) m.after)))
if_back fs f is t ws we r (inr m) =
    opened_back fs f is If t ws (Opens If t ∷ r.body ++ Else ∷ m.other ++ End ∷ []) m.after we (either (from_start _ r.body t.params t.results r.types r.fits r.leads) m.leads) m.next
    (ap (λ x. Opens If t ∷ x)
    (r.splits ∙ ap (λ x. r.body ++ x) m.splits ∙ sym (append_assoc r.body (Else ∷ m.other) (End ∷ m.after))
    ∙ sym (append_assoc (r.body ++ Else ∷ m.other) (End ∷ []) m.after)))

opens_back : (fs : List Frame) (f : Frame) (is : List Shape) (o : Opener) (t : FuncType) (ws : List Operand) → taken f (asks o t) ≡ Some ws →
    Rest [] (entered o t ∷ with_operands f ws ∷ fs) is → Rest [] (f ∷ fs) (Opens o t ∷ is)
opens_back fs f is Block t ws we r =
    opened_back fs f is Block t ws (Opens Block t ∷ r.body ++ End ∷ []) r.ends.after we (blocks (from_start _ r.body t.params t.results r.types r.fits r.leads)) r.ends.next
    (ap (λ x. Opens Block t ∷ x) (r.splits ∙ ap (λ x. r.body ++ x) r.ends.splits ∙ sym (append_assoc r.body (End ∷ []) r.ends.after)))
opens_back fs f is Loop t ws we r =
    opened_back fs f is Loop t ws (Opens Loop t ∷ r.body ++ End ∷ []) r.ends.after we (loops (from_start _ r.body t.params t.results r.types r.fits r.leads)) r.ends.next
    (ap (λ x. Opens Loop t ∷ x) (r.splits ∙ ap (λ x. r.body ++ x) r.ends.splits ∙ sym (append_assoc r.body (End ∷ []) r.ends.after)))
opens_back fs f is If t ws we r = if_back fs f is t ws we r r.ends

-- a block that is over
over_types : (f : Frame) → over f ≡ true → Fits f.unreachable f.operands (known (reverse f.kind.results) ++ [])
over_types f e = take_back f.unreachable (reverse f.kind.results) f.operands [] [] (empties_back (taken f f.kind.results) e) (fits_itself f.unreachable [])

ended : (ls : Labels) (rs : List ValType) → Leads ls [] (reverse (known (reverse rs) ++ [])) (known rs)
ended ls rs = subst (λ x. Leads ls [] x (known rs)) (sym (unturned rs [])) nothing

closes_back : (fs : List Frame) (o : Opener) (t : FuncType) (vs : List Operand) (d : Bool) (is : List Shape) → over (record { opener = o; kind = t; operands = vs; unreachable = d }) ≡ true → closes_as o t ≡ true →
    Rest (known (reverse t.results)) fs is → Rest [] (record { opener = o; kind = t; operands = vs; unreachable = d } ∷ fs) (End ∷ is)
closes_back fs Block t vs d is e k r =
    record {
      types = known (reverse t.results) ++ [];
      fits = over_types (record { opener = Block; kind = t; operands = vs; unreachable = d }) e;
      body = [];
      tail = End ∷ is;
      splits = refl;
      leads = ended _ t.results;
      ends = record { after = is; splits = refl; next = r };
    }
closes_back fs Loop t vs d is e k r =
    record {
      types = known (reverse t.results) ++ [];
      fits = over_types (record { opener = Loop; kind = t; operands = vs; unreachable = d }) e;
      body = [];
      tail = End ∷ is;
      splits = refl;
      leads = ended _ t.results;
      ends = record { after = is; splits = refl; next = r };
    }
closes_back fs If t vs d is e k r =
    record {
      types = known (reverse t.results) ++ [];
      fits = over_types (record { opener = If; kind = t; operands = vs; unreachable = d }) e;
      body = [];
      tail = End ∷ is;
      splits = refl;
      leads = ended _ t.results;
      ends = inl (record { after = is; splits = refl; leads = from_start _ [] t.params t.results _ (over_types (entered Block t) k) (ended _ t.results); next = r });
    }

pushed_rest : (rs : List ValType) (fs : List Frame) (is : List Shape) → Rest [] (pushed rs fs) is → Rest (known (reverse rs)) fs is
pushed_rest rs [] is r = r
pushed_rest rs (g ∷ fs) is r = r

parts_back : (fs gs : List Frame) (o : Opener) (t : FuncType) (vs : List Operand) (d : Bool) (is : List Shape) → over (record { opener = o; kind = t; operands = vs; unreachable = d }) ≡ true →
    parted_as fs o t ≡ Some gs → Rest [] gs is → Rest [] (record { opener = o; kind = t; operands = vs; unreachable = d } ∷ fs) (Else ∷ is)
parts_back fs gs Block t vs d is e k r = no_some gs k
parts_back fs gs Loop t vs d is e k r = no_some gs k
parts_back fs gs If t vs d is e k r =
    let m = some_is (λ x. Rest [] x is) (entered Block t ∷ fs) gs k r in
    record {
      types = known (reverse t.results) ++ [];
      fits = over_types (record { opener = If; kind = t; operands = vs; unreachable = d }) e;
      body = [];
      tail = Else ∷ is;
      splits = refl;
      leads = ended _ t.results;
      ends = inr (record {
        other = m.body;
        after = m.ends.after;
        splits = ap (λ x. Else ∷ x) (m.splits ∙ ap (λ x. m.body ++ x) m.ends.splits);
        leads = from_start _ m.body t.params t.results m.types m.fits m.leads;
        next = m.ends.next;
      });
    }

step_back : (fs gs : List Frame) (f : Frame) (i : Shape) (is : List Shape) → step fs f i ≡ Some gs → Rest [] gs is → Rest [] (f ∷ fs) (i ∷ is)
unfolding step
step_back fs gs f (Typed t) is e r = used_back fs f is (Typed t) t.params t.results gs typed e r
step_back fs gs f Drops is e r = drops_back fs f is gs e r
step_back fs gs f Selects is e r = selects_back fs f is gs e r
step_back fs gs f (Leaves ts) is e r = cut_back fs f is (Leaves ts) ts gs (λ a b. leaves a) e r
step_back fs gs f (Branches l) is e r =
    option_and_then_some (λ ts. cut fs f ts) (slice_get (labels (f ∷ fs)) l) gs e (λ ts te ce. cut_back fs f is (Branches l) ts gs (λ a b. branches a ts te) ce r)
step_back fs gs f (BranchesIf l) is e r =
    option_and_then_some (λ ts. used fs f (ts ++ I32 ∷ []) ts) (slice_get (labels (f ∷ fs)) l) gs e (λ ts te ue. used_back fs f is (BranchesIf l) (ts ++ I32 ∷ []) ts gs (branches_if ts te) ue r)
step_back fs gs f (BranchesBy ks l) is e r = branches_by_back fs f is l ks gs e r
step_back fs gs f (Opens o t) is e r =
    option_and_then_some (λ vs. Some (entered o t ∷ with_operands f vs ∷ fs)) (taken f (asks o t)) gs e (λ ws we ge.
    opens_back fs f is o t ws we (some_is (λ x. Rest [] x is) (entered o t ∷ with_operands f ws ∷ fs) gs ge r))
step_back fs gs f Else is e r = if_then (over f) (parted_as fs f.opener f.kind) gs e (λ oe pe. parts_back fs gs f.opener f.kind f.operands f.unreachable is oe pe r)
step_back fs gs f End is e r =
    if_some (over f && closes_as f.opener f.kind) (pushed f.kind.results fs) gs e (λ be ge.
    let b = true_both (over f) (closes_as f.opener f.kind) be in
    closes_back fs f.opener f.kind f.operands f.unreachable is b.0 b.1 (pushed_rest f.kind.results fs is (some_is (λ x. Rest [] x is) (pushed f.kind.results fs) gs ge r)))
step_back fs gs f Untyped is e r = no_some gs e

abbrev NoFrames : List Frame → Type 0
NoFrames [] = Unit {0}
NoFrames (f ∷ fs) = ⊥

rest : (fs : List Frame) (is : List Shape) → read fs is ≡ Some [] → Rest [] fs is
unfolding read
rest [] [] e = refl
rest (f ∷ fs) [] e = absurd (some_is NoFrames (f ∷ fs) [] e tt)
rest [] (i ∷ is) e = no_some [] e
rest (f ∷ fs) (i ∷ is) e = option_and_then_some (λ gs. read gs is) (step fs f i) [] e (λ gs se re. step_back fs gs f i is se (rest gs is re))

pub sound_body : (results : List ValType) (code : List Shape) → read (whole results ∷ []) code ≡ Some [] → IsTyped results code
sound_body results code e =
    let r = rest (whole results ∷ []) code e in
    record {
      body = r.body;
      ends = r.splits ∙ ap (λ x. r.body ++ x) (r.ends.splits ∙ ap (λ x. End ∷ x) r.ends.next);
      leads = from_start _ r.body [] results r.types r.fits r.leads;
    }
