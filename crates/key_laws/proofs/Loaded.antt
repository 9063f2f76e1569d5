-- Of loaded objects no two entries are the same, so no winner is exported twice; and no two parts are one, live or dead.
use Rattle.std.proofs.Common.{◌≡◌, ℕ, ◌+◌, ◌<◌, ◌≤◌, List, [], ◌∷◌, map, Bool, true, false, refl, sym, ap, ◌∙◌, inl, inr, arith}
use Rattle.std.specs.Prelude.{◌==◌, cond, filter, flat_map}
use Rattle.std.proofs.lemmas.Bool.{and_parts, eqb-true}
use Rattle.list_places.specs.Has.{Has, Apart}
use Rattle.list_places.proofs.Lists.{has_filter, has_flat, apart_append, apart_filter}
use Rattle.linking_section.specs.declared.symbol.Symbol.{Symbol}
use Rattle.made_symbols.specs.Made.{MadeSymbol, made}
use Rattle.made_symbols.specs.declared.mode.Mode.TheVariants.{Plain}
use Rattle.object_file.specs.declared.object.Object.{Object}
use Rattle.name_entries.specs.View.{InputsRise}
use Rattle.name_rules.specs.Entries.{InputSymbol, entries_from, symbols_of, made_from, entries, is_entry, same_entry}
use Rattle.name_rules.specs.Meanings.{Resolved, resolved_in, resolve, no_uses}
use Rattle.round_rules.specs.Rounds.{Candidate}
use Rattle.link_plan.specs.declared.plan.Plan.{Plan}
use Rattle.link_rules.specs.Program.{Program, Part, program_of, strict_program, winners_of, is_winner, parts_of, init_calls}
use Rattle.live_mark.specs.Live.{is_among, reached}
use Rattle.link_rules.specs.Marks.{exported, is_exported_by, live, picked, targets, root_places}
use Rattle.link_worlds.specs.Sound.{same_part}
use Rattle.link_facts.proofs.Symbols.{above, positive}
use Rattle.link_facts.proofs.Parts.{parts_apart}
use Rattle.link_facts.proofs.Loosened.{loosened_apart}
use Rattle.key_laws.specs.Differ.{KeysDiffer}
use Rattle.key_laws.proofs.Lists.{all_differ}

-- ---- entries, by input and place

made_at : (place : ℕ) (ms : List MadeSymbol) (e : InputSymbol) → Has (made_from place ms) e → (place ≤ e.place) × (e.input ≡ 0)
made_at place [] e h = absurd h
made_at place (m ∷ ms) e (inl q) = let z : place ≡ e.place = ap (λ (w : InputSymbol). w.place) q in (omega (arith, z), sym (ap (λ (w : InputSymbol). w.input) q))
made_at place (m ∷ ms) e (inr h) = let r = made_at (place + 1) ms e h in (omega (arith, r.0), r.1)

made_apart : (place : ℕ) (ms : List MadeSymbol) → Apart same_entry (made_from place ms)
made_apart place [] = tt
made_apart place (m ∷ ms) = (
  λ y h t.
      let r = made_at (place + 1) ms y h in
      let z : place ≡ y.place = eqb-true place y.place (and_parts (0 == y.input) (place == y.place) t).1 in
      omega (arith, r.0, z),
  made_apart (place + 1) ms,
)

module _ (objects : List Object) where
  symbol_at : (o : Object) (place : ℕ) (ss : List Symbol) (e : InputSymbol) → Has (entries_from objects o place ss) e → (place ≤ e.place) × (e.input ≡ o.input)
  symbol_at o place [] e h = absurd h
  symbol_at o place (s ∷ ss) e (inl q) = let z : place ≡ e.place = ap (λ (w : InputSymbol). w.place) q in (omega (arith, z), sym (ap (λ (w : InputSymbol). w.input) q))
  symbol_at o place (s ∷ ss) e (inr h) = let r = symbol_at o (place + 1) ss e h in (omega (arith, r.0), r.1)

  symbols_apart : (o : Object) (place : ℕ) (ss : List Symbol) → Apart same_entry (entries_from objects o place ss)
  symbols_apart o place [] = tt
  symbols_apart o place (s ∷ ss) = (
    λ y h t.
        let r = symbol_at o (place + 1) ss y h in
        let z : place ≡ y.place = eqb-true place y.place (and_parts (o.input == y.input) (place == y.place) t).1 in
        omega (arith, r.0, z),
    symbols_apart o (place + 1) ss,
  )

  of_object : (os : List Object) (e : InputSymbol) → Has (flat_map (symbols_of objects) os) e → (o : Object) × Has os o × (e.input ≡ o.input)
  of_object os e h = let r = has_flat (symbols_of objects) os e h in (r.0, r.1, (symbol_at r.0 0 r.0.symbols e r.2).1)

  all_symbols_apart : (last : ℕ) (os : List Object) → InputsRise last os → Apart same_entry (flat_map (symbols_of objects) os)
  all_symbols_apart last [] rise = tt
  all_symbols_apart last (o ∷ os) rise =
      apart_append same_entry (symbols_of objects o) (flat_map (symbols_of objects) os) (symbols_apart o 0 o.symbols) (all_symbols_apart o.input os rise.2)
      (λ x y h k t.
      let a = (symbol_at o 0 o.symbols x h).1 in
      let b = of_object os y k in
      let c : x.input ≡ y.input = eqb-true x.input y.input (and_parts (x.input == y.input) (x.place == y.place) t).0 in
      let q : o.input < b.0.input = above o.input os rise.2 b.0 b.1 in
      omega (arith, a, b.2, c, q))

  entries_apart : InputsRise 0 objects → Apart same_entry (entries Plain objects)
  unfolding entries
  entries_apart rise =
      apart_append same_entry (made_from 0 (made Plain)) (filter is_entry (flat_map (symbols_of objects) objects)) (made_apart 0 (made Plain))
      (apart_filter same_entry is_entry (flat_map (symbols_of objects) objects) (all_symbols_apart 0 objects rise))
      (λ x y h k t.
      let a = (made_at 0 (made Plain) x h).1 in
      let b = of_object objects y (has_filter is_entry (flat_map (symbols_of objects) objects) y k).0 in
      let c : x.input ≡ y.input = eqb-true x.input y.input (and_parts (x.input == y.input) (x.place == y.place) t).0 in
      positive objects rise b.0 b.1 (sym b.2 ∙ sym c ∙ a))

-- ---- live parts

picked_has : (marked : List ℕ) (at : ℕ) (xs : List Part) (x : Part) → Has (picked marked at xs) x → Has xs x
picked_has marked at [] x h = h
picked_has marked at (y ∷ ys) x h = onto (is_among marked at) h (picked_has marked (at + 1) ys x)
  where
    onto : (b : Bool) → Has (cond b (y ∷ picked marked (at + 1) ys) (picked marked (at + 1) ys)) x → (Has (picked marked (at + 1) ys) x → Has ys x) → Has (y ∷ ys) x
    onto true (inl e) f = inl e
    onto true (inr h) f = inr (f h)
    onto false h f = inr (f h)

picked_apart : (marked : List ℕ) (at : ℕ) (xs : List Part) → Apart same_part xs → Apart same_part (picked marked at xs)
picked_apart marked at [] a = tt
picked_apart marked at (x ∷ xs) a = onto (is_among marked at) (picked_apart marked (at + 1) xs a.1)
  where
    onto : (b : Bool) → Apart same_part (picked marked (at + 1) xs) → Apart same_part (cond b (x ∷ picked marked (at + 1) xs) (picked marked (at + 1) xs))
    onto true r = (λ y h. a.0 y (picked_has marked (at + 1) xs y h), r)
    onto false r = r

live_apart : (p : Program) (exports : List InputSymbol) → Apart same_part p.parts → Apart same_part (live p exports)
unfolding live
live_apart p exports a = picked_apart (reached (targets p) (root_places p exports)) 0 p.parts a

-- ---- the program of loaded objects

module _ (plan : Plan) (files : List (List ℕ)) (all : List Candidate) (objects : List Object) (rise : InputsRise 0 objects) where
  abbrev p : Program
  p = program_of Plain plan files all objects

  exports_apart : Apart same_entry (exported Plain p)
  unfolding exported program_of winners_of
  exports_apart =
      let es = entries Plain objects in
      apart_filter same_entry (is_exported_by plan) (winners_of es) (apart_filter same_entry (is_winner es) es (entries_apart objects rise))

  program_apart : Apart same_part p.parts
  unfolding program_of resolve parts_of
  program_apart =
      let q = strict_program Plain plan files all objects in
      let res : Object → Resolved = λ o. resolved_in Plain no_uses plan.allow_undefined (entries Plain objects) objects o in
      loosened_apart q (parts_apart all objects res (λ o. refl) (init_calls (map res objects)) rise)

pub keys_differ : KeysDiffer
keys_differ plan files all objects rise =
    let p = program_of Plain plan files all objects in
    let x = exported Plain p in
    all_differ p (live p x) (live_apart p x (program_apart plan files all objects rise)) x (exports_apart plan files all objects rise)
