-- Names that are offered to a table, one after another.
use Rattle.std.proofs.Common.{◌≡◌, ℕ, zero, suc, ◌+◌, ◌==◌, ◌<◌, ◌≤◌, true, false, List, [], ◌∷◌, ◌++◌, map, fold, length, drop, set, get_or, slice_get, Some, refl, sym, ap, ◌∙◌, arith, eqb-true}
use Rattle.std.proofs.lemmas.List.{at_drop_more, at_drop_all, drop-drop, get_or-map, map-set, set_past, length-map}
use Rattle.std.proofs.lemmas.List.Sums.{fold-append}
use Rattle.std.proofs.lemmas.Option.{slice_get-get_or}
use Rattle.link_program.specs.object_file.declared.object.Object.{Object}
use Rattle.link_program.specs.object_file.Spaces.{function_imports}
use Rattle.link_program.specs.linking_section.declared.symbol.Symbol as object_symbols
use Rattle.link_program.specs.declared.symbol.Symbol.{Symbol}
use Rattle.link_program.specs.declared.keys.FunctionKey.{FunctionKey}
use Rattle.function_names.specs.Names.{or_name}
use Rattle.names_out.specs.declared.labels.Label.{Label}
use Rattle.names_out.specs.Told.{label_seen, offer_at, offers_told, offers_rows, taken_by, taking}

-- ---- one name

pub kept : (xs ys : List ℕ) → (length xs == 0) ≡ false → xs ≡ or_name xs ys
kept [] ys some = absurd cc
kept (x ∷ xs) ys some = refl

pub replaced : (xs ys zs : List ℕ) → (length xs == 0) ≡ true → zs ≡ ys → zs ≡ or_name xs ys
replaced [] ys zs none is = is
replaced (x ∷ xs) ys zs none is = absurd (let e = eqb-true (length (x ∷ xs)) 0 none in omega (arith, e))

pub taken_there : (old : List Label) (at : ℕ) (d x : Label) (name : List ℕ) → at < length old → label_seen x ≡ or_name (label_seen (get_or old at d)) name
    → map label_seen (set old at x) ≡ taken_by (map label_seen old) (Some at) name
taken_there old at d x name lt is =
    map-set label_seen old at x
    ∙ ap (λ y. set (map label_seen old) at y) (is ∙ ap (λ z. or_name z name) (sym (get_or-map label_seen old at d [] lt)))

pub taken_past : (old : List Label) (at : ℕ) (name : List ℕ) → length old ≤ at → map label_seen old ≡ taken_by (map label_seen old) (Some at) name
taken_past old at name le =
    let long = length-map old label_seen in
    sym (set_past (map label_seen old) at (or_name (get_or (map label_seen old) at []) name) (omega (arith, long, le)))

-- ---- those of an object

head : (ls : List Symbol) (n : ℕ) → slice_get ls n ≡ slice_get (drop n ls) 0
head [] zero = refl
head [] (suc n) = refl
head (l ∷ ls) zero = refl
head (l ∷ ls) (suc n) = head ls n

module _ (fs : List FunctionKey) (input imported : ℕ) where
  pub offered_more : (ss : List object_symbols.Symbol) (ls : List Symbol) (at : ℕ) → at < length ss → (now new whole : List (List ℕ))
      → new ≡ taking now (offer_at fs input imported (slice_get ss at) (slice_get ls at))
      → fold taking now (offers_told fs input imported (drop at ss) (drop at ls)) ≡ whole
      → fold taking new (offers_told fs input imported (drop (at + 1) ss) (drop (at + 1) ls)) ≡ whole
  offered_more [] ls at lt now new whole is so_far = absurd (omega (arith, lt))
  offered_more (x ∷ xs) ls at lt now new whole is so_far =
      let ss : List object_symbols.Symbol = x ∷ xs in
      let first = slice_get-get_or ss at x lt in
      let lead = head ls at in
      let rest : drop (at + 1) ls ≡ drop 1 (drop at ls) = sym (drop-drop 1 at ls) in
      let same : new ≡ taking now (offer_at fs input imported (Some (get_or ss at x)) (slice_get (drop at ls) 0)) = is ∙ (λ i. taking now (offer_at fs input imported (first i) (lead i))) in
      (λ i. fold taking (same i) (offers_told fs input imported (drop (at + 1) ss) (rest i)))
      ∙ (sym (at_drop_more (λ (ys : List object_symbols.Symbol). fold taking now (offers_told fs input imported ys (drop at ls))) ss at x lt) ∙ so_far)

  pub offered_all : (ss : List object_symbols.Symbol) (ls : List Symbol) (at : ℕ) → length ss ≤ at → (now whole : List (List ℕ))
      → fold taking now (offers_told fs input imported (drop at ss) ls) ≡ whole → now ≡ whole
  offered_all ss ls at le now whole so_far = sym (at_drop_all (λ (ys : List object_symbols.Symbol). fold taking now (offers_told fs input imported ys ls)) ss at le) ∙ so_far

-- ---- those of objects

pub rows_more : (fs : List FunctionKey) (os : List Object) (i : ℕ) (o : Object) → i < length os → o ≡ get_or os i o → (now new whole : List (List ℕ)) (left next : List Symbol)
    → new ≡ fold taking now (offers_told fs o.input (length (function_imports o)) o.symbols left) → next ≡ drop (length o.symbols) left
    → fold taking now (offers_rows fs (drop i os) left) ≡ whole → fold taking new (offers_rows fs (drop (i + 1) os) next) ≡ whole
rows_more fs os i o lt item now new whole left next is behind so_far =
    (λ k. fold taking (is k) (offers_rows fs (drop (i + 1) os) (behind k)))
    ∙ (sym (fold-append taking now (offers_told fs o.input (length (function_imports o)) o.symbols left) (offers_rows fs (drop (i + 1) os) (drop (length o.symbols) left)))
    ∙ (ap (λ (x : Object). fold taking now (offers_rows fs (x ∷ drop (i + 1) os) left)) item
    ∙ (sym (at_drop_more (λ (ys : List Object). fold taking now (offers_rows fs ys left)) os i o lt) ∙ so_far)))

pub rows_all : (fs : List FunctionKey) (os : List Object) (i : ℕ) → length os ≤ i → (now whole : List (List ℕ)) (left : List Symbol)
    → fold taking now (offers_rows fs (drop i os) left) ≡ whole → now ≡ whole
rows_all fs os i le now whole left so_far = sym (at_drop_all (λ (ys : List Object). fold taking now (offers_rows fs ys left)) os i le) ∙ so_far
