-- What has a typing is read.
use Rattle.std.proofs.Common.{◌≡◌, List, [], ◌∷◌, ◌++◌, Some, None, Bool, true, false, refl, sym, ap, ◌∙◌, subst}
use Rattle.std.specs.Prelude.{reverse, option_and_then, if◌then◌else◌, slice_get, ◌&&◌}
use Rattle.std.proofs.lemmas.List.{reverse-append, append_assoc, append-nil}
use Rattle.std.proofs.lemmas.Option.{option_and_then_some}
use Rattle.wasm_types.specs.declared.value.ValType.{ValType}
use Rattle.wasm_types.specs.declared.value.ValType.TheVariants.{I32}
use Rattle.valid_rules.specs.declared.types.Operand.{Operand}
use Rattle.valid_rules.specs.declared.types.Operand.TheVariants.{Known}
use Rattle.wasm_types.specs.declared.function.FuncType.{FuncType}
use Rattle.valid_rules.specs.declared.types.Opener.{Opener}
use Rattle.valid_rules.specs.declared.types.Opener.TheVariants.{Block, Loop, If}
use Rattle.valid_rules.specs.declared.types.Shape.{Shape}
use Rattle.valid_rules.specs.declared.types.Shape.TheVariants.{Typed, Drops, Selects, Leaves, Branches, BranchesIf, BranchesBy, Opens, Else, End}
use Rattle.valid_rules.specs.declared.types.Frame.{Frame}
use Rattle.valid_rules.specs.Leads.{Every, Takes, Labels, known, Leads, nothing, follows, above, weaker, typed, drops, selects, leaves, branches, branches_if, branches_by, blocks, loops, either, or_not, IsTyped}
use Rattle.valid_rules.specs.Reading.{taken, put, selected, fit, arity, labels, Read, with_operands, entered, used, cut, over, pushed, closes_as, asks, step, read, whole}
use Rattle.valid_rules.proofs.Fitting.{Fits, Taken, take_fits, fits_itself, fits_on, each_reverse, each_above, turned, put_fits, any_fits, selected_fits, empties_fits, some_is, no_some}
use Rattle.valid_rules.proofs.Branching.{branch_fits}

-- Reading goes on in the frame, at operands that stand for these.
pub record Goes (o : Read) (fs : List Frame) (f : Frame) (b : List Operand) : Type 0 where
  pub operands : List Operand
  pub unreachable : Bool
  pub reads : o ≡ Some (record f { operands = operands; unreachable = unreachable } ∷ fs)
  pub fits : Fits unreachable operands (reverse b)

read_append : (fs gs : List Frame) (is js : List Shape) → read fs is ≡ Some gs → read fs (is ++ js) ≡ read gs js
unfolding read
read_append fs gs [] js e = some_is (λ x. read x js ≡ read gs js) fs gs e refl
read_append [] gs (i ∷ is) js e = no_some gs e
read_append (f ∷ fs) gs (i ∷ is) js e =
    option_and_then_some (λ hs. read hs is) (step fs f i) gs e (λ hs se re. ap (option_and_then (λ x. read x (is ++ js))) se ∙ read_append hs gs is js re)

one : (fs : List Frame) (f : Frame) (i : Shape) (b : List Operand) → Goes (step fs f i) fs f b → Goes (read (f ∷ fs) (i ∷ [])) fs f b
unfolding read
one fs f i b g = record { operands = g.operands; unreachable = g.unreachable; reads = ap (option_and_then (λ x. read x [])) g.reads; fits = g.fits }

module _ (fs : List Frame) (f : Frame) (u : List Operand) where
  take : (ts : List ValType) → Fits f.unreachable f.operands (reverse (u ++ known ts)) → Taken f.unreachable (taken f ts) (reverse u)
  take ts h = take_fits f.unreachable (reverse ts) f.operands (reverse u) (subst (λ x. Fits f.unreachable f.operands x) (turned u ts) h)

  set : (rs : List ValType) (vs : List Operand) → Fits f.unreachable vs (reverse u) → Fits f.unreachable (put rs vs) (reverse (u ++ known rs))
  set rs vs h = subst (λ x. Fits f.unreachable (put rs vs) x) (sym (turned u rs)) (put_fits f.unreachable (reverse rs) vs (reverse u) h)

  used_goes : (ts rs : List ValType) → Fits f.unreachable f.operands (reverse (u ++ known ts)) → Goes (used fs f ts rs) fs f (u ++ known rs)
  used_goes ts rs h =
      let t = take ts h in
      record {
        operands = put rs t.left;
        unreachable = f.unreachable;
        reads = ap (option_and_then (λ vs. Some (with_operands f (put rs vs) ∷ fs))) t.is;
        fits = set rs t.left t.fits;
      }

  cut_goes : (ts : List ValType) (b : List Operand) → Fits f.unreachable f.operands (reverse (u ++ known ts)) → Goes (cut fs f ts) fs f b
  cut_goes ts b h =
      let t = take ts h in
      record { operands = []; unreachable = true; reads = ap (option_and_then (λ vs. Some (record f { operands = []; unreachable = true } ∷ fs))) t.is; fits = tt }

  -- an instruction that opens, up to its end
  open_goes : (o : Opener) (t : FuncType) (xs : List Shape) → Fits f.unreachable f.operands (reverse (u ++ known (asks o t))) →
      ((left : List Operand) → read (entered o t ∷ with_operands f left ∷ fs) xs ≡ Some (pushed t.results (with_operands f left ∷ fs))) →
      Goes (read (f ∷ fs) (Opens o t ∷ xs)) fs f (u ++ known t.results)
  unfolding read step
  open_goes o t xs h k =
      let w = take (asks o t) h in
      record {
        operands = put t.results w.left;
        unreachable = f.unreachable;
        reads = ap (λ x. option_and_then (λ gs. read gs xs) (option_and_then (λ vs. Some (entered o t ∷ with_operands f vs ∷ fs)) x)) w.is ∙ k w.left;
        fits = set t.results w.left w.fits;
      }

is_over : (f : Frame) → Fits f.unreachable f.operands (reverse (known f.kind.results)) → over f ≡ true
is_over f h = empties_fits f.unreachable (taken f f.kind.results) (take [] f [] f.kind.results h)

close_goes : (fs : List Frame) (f : Frame) → Fits f.unreachable f.operands (reverse (known f.kind.results)) → closes_as f.opener f.kind ≡ true →
    read (f ∷ fs) (End ∷ []) ≡ Some (pushed f.kind.results fs)
unfolding read step
close_goes fs f h k =
    ap (λ b. option_and_then (λ gs. read gs []) (if b && closes_as f.opener f.kind then Some (pushed f.kind.results fs) else None)) (is_over f h)
    ∙ ap (λ b. option_and_then (λ gs. read gs []) (if b then Some (pushed f.kind.results fs) else None)) k

part_goes : (fs : List Frame) (t : FuncType) (vs : List Operand) (d : Bool) (js : List Shape) → Fits d vs (reverse (known t.results)) →
    read (record { opener = If; kind = t; operands = vs; unreachable = d } ∷ fs) (Else ∷ js) ≡ read (entered Block t ∷ fs) js
unfolding read step
part_goes fs t vs d js h =
    ap (λ b. option_and_then (λ gs. read gs js) (if b then Some (entered Block t ∷ fs) else None)) (is_over (record { opener = If; kind = t; operands = vs; unreachable = d }) h)

start_fits : (t : FuncType) → Fits false (put t.params []) (reverse ([] ++ known t.params))
start_fits t = subst (λ x. Fits false (put t.params []) x) (sym (turned [] t.params)) (fits_itself false (put t.params []))

abbrev head_over : List Frame → Bool
head_over [] = true
head_over (f ∷ fs) = over f

pub complete : (ls : Labels) (is : List Shape) (a b : List Operand) → Leads ls is a b → (fs : List Frame) (f : Frame) (u : List Operand) → ls ≡ labels (f ∷ fs) →
    Fits f.unreachable f.operands (reverse (u ++ a)) → Goes (read (f ∷ fs) is) fs f (u ++ b)
unfolding read step
complete ls is a b nothing fs f u e h = record { operands = f.operands; unreachable = f.unreachable; reads = refl; fits = h }
complete ls is a b (follows {is = xs} {js = ys} {b = m} p q) fs f u e h =
    let g = complete ls xs a m p fs f u e h in
    let k = complete ls ys m b q fs (record f { operands = g.operands; unreachable = g.unreachable }) u e g.fits in
    record { operands = k.operands; unreachable = k.unreachable; reads = read_append (f ∷ fs) _ xs ys g.reads ∙ k.reads; fits = k.fits }
complete ls is a b (above {a = a'} {b = b'} w p) fs f u e h =
    subst (λ x. Goes (read (f ∷ fs) is) fs f x) (append_assoc u w b')
    (complete ls is a' b' p fs f (u ++ w) e (subst (λ x. Fits f.unreachable f.operands (reverse x)) (sym (append_assoc u w a')) h))
complete ls is a b (weaker {b = m} p k) fs f u e h =
    let g = complete ls is a m p fs f u e h in
    record { operands = g.operands; unreachable = g.unreachable; reads = g.reads; fits = fits_on g.unreachable g.operands (reverse (u ++ m)) (reverse (u ++ b)) g.fits (each_reverse (u ++ m) (u ++ b) (each_above u m b k)) }
complete ls is a b (typed {t = t}) fs f u e h = one fs f (Typed t) _ (used_goes fs f u t.params t.results h)
complete ls is a b (leaves {ts = ts} w) fs f u e h =
    one fs f (Leaves ts) _ (cut_goes fs f (u ++ w) ts (u ++ b) (subst (λ x. Fits f.unreachable f.operands (reverse x)) (sym (append_assoc u w (known ts))) h))
complete ls is a b (branches {l = l} w ts g) fs f u e h =
    one fs f (Branches l) _
    (subst (λ o. Goes (option_and_then (λ x. cut fs f x) o) fs f (u ++ b)) (sym (subst (λ x. slice_get x l ≡ Some ts) e g))
    (cut_goes fs f (u ++ w) ts (u ++ b) (subst (λ x. Fits f.unreachable f.operands (reverse x)) (sym (append_assoc u w (known ts))) h)))
complete ls is a b (branches_if {l = l} ts g) fs f u e h =
    one fs f (BranchesIf l) _
    (subst (λ o. Goes (option_and_then (λ x. used fs f (x ++ I32 ∷ []) x) o) fs f (u ++ b)) (sym (subst (λ x. slice_get x l ≡ Some ts) e g))
    (used_goes fs f u (ts ++ I32 ∷ []) ts h))
complete ls is a b (branches_by {ks = ks} {l = l} w ts k) fs f u e h =
    let ls' = labels (f ∷ fs) in
    let t = take_fits f.unreachable (I32 ∷ []) f.operands (reverse (u ++ (w ++ ts)))
    (subst (λ x. Fits f.unreachable f.operands x) (ap reverse (sym (append_assoc u (w ++ ts) (Known I32 ∷ []))) ∙ reverse-append (u ++ (w ++ ts)) (Known I32 ∷ [])) h) in
    let k' = subst (λ x. Every (Takes x ts) (l ∷ ks)) e k in
    let fit' = branch_fits f.unreachable t.left ls' (u ++ w) ts l ks (subst (λ x. Fits f.unreachable t.left (reverse x)) (sym (append_assoc u w ts)) t.fits) k' in
    one fs f (BranchesBy ks l) _
    (record {
      operands = [];
      unreachable = true;
      reads =
          ap (option_and_then (λ vs. if fit f.unreachable vs ls' (arity (slice_get ls' l)) (l ∷ ks) then Some (record f { operands = []; unreachable = true } ∷ fs) else None)) t.is
          ∙ ap (λ x. if x then Some (record f { operands = []; unreachable = true } ∷ fs) else None) fit';
      fits = tt;
    })
complete ls is a b (drops {t = t}) fs f u e h =
    let p = any_fits f.unreachable f.operands t (reverse u) (subst (λ x. Fits f.unreachable f.operands x) (reverse-append u (t ∷ [])) h) in
    one fs f Drops _
    (record {
      operands = p.taken.1;
      unreachable = f.unreachable;
      reads = ap (option_and_then (λ p. Some (with_operands f p.1 ∷ fs))) p.is;
      fits = subst (λ x. Fits f.unreachable p.taken.1 (reverse x)) (sym (append-nil u)) p.fits;
    })
complete ls is a b (selects {t = t}) fs f u e h =
    let c = take_fits f.unreachable (I32 ∷ []) f.operands (t ∷ t ∷ reverse u) (subst (λ x. Fits f.unreachable f.operands x) (reverse-append u (t ∷ t ∷ Known I32 ∷ [])) h) in
    let p = selected_fits f.unreachable c.left t (reverse u) c.fits in
    one fs f Selects _
    (record {
      operands = p.left;
      unreachable = f.unreachable;
      reads =
          ap (option_and_then (λ vs. option_and_then (λ ws. Some (with_operands f ws ∷ fs)) (selected f.unreachable vs))) c.is
          ∙ ap (option_and_then (λ ws. Some (with_operands f ws ∷ fs))) p.is;
      fits = subst (λ x. Fits f.unreachable p.left x) (sym (reverse-append u (t ∷ []))) p.fits;
    })
complete ls is a b (blocks {t = t} {is = xs} p) fs f u e h =
    open_goes fs f u Block t (xs ++ End ∷ []) h (λ left.
    let g = complete (t.results ∷ ls) xs (known t.params) (known t.results) p (with_operands f left ∷ fs) (entered Block t) [] (ap (λ x. t.results ∷ x) e) (start_fits t) in
    read_append (entered Block t ∷ with_operands f left ∷ fs) _ xs (End ∷ []) g.reads
    ∙ close_goes (with_operands f left ∷ fs) (record { opener = Block; kind = t; operands = g.operands; unreachable = g.unreachable }) g.fits refl)
complete ls is a b (loops {t = t} {is = xs} p) fs f u e h =
    open_goes fs f u Loop t (xs ++ End ∷ []) h (λ left.
    let g = complete (t.params ∷ ls) xs (known t.params) (known t.results) p (with_operands f left ∷ fs) (entered Loop t) [] (ap (λ x. t.params ∷ x) e) (start_fits t) in
    read_append (entered Loop t ∷ with_operands f left ∷ fs) _ xs (End ∷ []) g.reads
    ∙ close_goes (with_operands f left ∷ fs) (record { opener = Loop; kind = t; operands = g.operands; unreachable = g.unreachable }) g.fits refl)
complete ls is a b (either {t = t} {is = xs} {js = ys} p q) fs f u e h =
    open_goes fs f u If t ((xs ++ Else ∷ ys) ++ End ∷ []) h (λ left.
    let g = complete (t.results ∷ ls) xs (known t.params) (known t.results) p (with_operands f left ∷ fs) (entered If t) [] (ap (λ x. t.results ∷ x) e) (start_fits t) in
    let k = complete (t.results ∷ ls) ys (known t.params) (known t.results) q (with_operands f left ∷ fs) (entered Block t) [] (ap (λ x. t.results ∷ x) e) (start_fits t) in
    read_append (entered If t ∷ with_operands f left ∷ fs) _ (xs ++ Else ∷ ys) (End ∷ [])
    (read_append (entered If t ∷ with_operands f left ∷ fs) _ xs (Else ∷ ys) g.reads ∙ part_goes (with_operands f left ∷ fs) t g.operands g.unreachable ys g.fits ∙ k.reads)
    ∙ close_goes (with_operands f left ∷ fs) (record { opener = Block; kind = t; operands = k.operands; unreachable = k.unreachable }) k.fits refl)
complete ls is a b (or_not {t = t} {is = xs} p q) fs f u e h =
    open_goes fs f u If t (xs ++ End ∷ []) h (λ left.
    let g = complete (t.results ∷ ls) xs (known t.params) (known t.results) p (with_operands f left ∷ fs) (entered If t) [] (ap (λ x. t.results ∷ x) e) (start_fits t) in
    let k = complete (t.results ∷ ls) [] (known t.params) (known t.results) q (with_operands f left ∷ fs) (entered Block t) [] (ap (λ x. t.results ∷ x) e) (start_fits t) in
    read_append (entered If t ∷ with_operands f left ∷ fs) _ xs (End ∷ []) g.reads
    ∙ close_goes (with_operands f left ∷ fs) (record { opener = If; kind = t; operands = g.operands; unreachable = g.unreachable }) g.fits
    (some_is (λ gs. head_over gs ≡ true) (entered Block t ∷ with_operands f left ∷ fs) _ k.reads (is_over (record { opener = Block; kind = t; operands = k.operands; unreachable = k.unreachable }) k.fits)))

pub complete_body : (results : List ValType) (code : List Shape) → IsTyped results code → read (whole results ∷ []) code ≡ Some []
complete_body results code p =
    let g = complete (results ∷ []) p.body [] (known results) p.leads [] (whole results) [] refl tt in
    ap (read (whole results ∷ [])) p.ends
    ∙ read_append (whole results ∷ []) _ p.body (End ∷ []) g.reads
    ∙ close_goes [] (record { opener = Block; kind = record { params = []; results = results }; operands = g.operands; unreachable = g.unreachable }) g.fits refl
