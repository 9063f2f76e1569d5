-- The parts of the later link are alike to those of the whole one.
use Rattle.std.proofs.Common.{◌≡◌, ◌<◌, ◌==◌, Bool, true, false, not, List, [], ◌∷◌, ◌++◌, map, inl, inr, ⊎_elim, refl, sym, ap, ◌∙◌, subst, arith}
use Rattle.std.specs.Prelude.{◌⊎◌, if◌then◌else◌, nat_le, slice_get, pos, Option, Some, None, option_map, filter_map, flat_map, All}
use Rattle.std.specs.List.{cons_option}
use Rattle.list_places.specs.Has.{Has}
use Rattle.list_places.proofs.Lists.{has_either, has_filter, has_pick, has_map, has_flat, some_is}
use Rattle.name_rules.specs.object_file.reloc_section.declared.entry.Reloc.{Reloc}
use Rattle.name_rules.specs.object_file.linking_section.declared.init.InitFunc.{InitFunc}
use Rattle.made_symbols.specs.declared.mode.Mode.TheVariants.{Plain}
use Rattle.made_symbols.specs.Made.{made}
use Rattle.name_rules.specs.object_file.declared.object.Object.{Object}
use Rattle.name_rules.specs.Entries.{InputSymbol}
use Rattle.name_rules.specs.Meanings.{Meaning, Resolved}
use Rattle.link_rules.specs.Program.{Part, a_symbol, Ref, named_type, types_named, ref_to, ref_in, window_named, InitCall, init_call, is_skipped, init_calls_in, insert_call, by_priority, init_calls, made_parts_from, kept_in}
use Rattle.partial_laws.specs.Inputs.{whole_objects, later_objects}
use Rattle.partial_laws.proofs.Instance.{all_from_has}
use Rattle.partial_parts_laws.specs.Linked.{Linked, program, whole_program}
use Rattle.partial_parts_laws.specs.Alike.{PartsAreAlike}
use Rattle.partial_parts_laws.proofs.Zips.{indexed_all}
use Rattle.partial_parts_laws.proofs.Parts.{make_function, make_segment, make_global, res, own_parts, object_parts, parts_are, function_parts, segment_parts, global_parts, of_three}
use Rattle.partial_parts_laws.proofs.Calls.{calls_are_alike}
use Rattle.partial_parts_laws.proofs.Sides.{function_sides, segment_sides, global_sides, held_sides}

-- ---- init functions are called

insert_has : (c : InitCall) (ds : List InitCall) (x : InitCall) → Has (insert_call c ds) x → (c ≡ x) ⊎ Has ds x
insert_has c [] x (inl e) = inl e
insert_has c [] x (inr h) = absurd h
insert_has c (d ∷ ds) x has = by_test (nat_le c.priority d.priority) has (insert_has c ds x)
  where
    by_test : (b : Bool) → Has (if b then c ∷ d ∷ ds else d ∷ insert_call c ds) x → (Has (insert_call c ds) x → (c ≡ x) ⊎ Has ds x) → (c ≡ x) ⊎ Has (d ∷ ds) x
    by_test true (inl e) rest = inl e
    by_test true (inr h) rest = inr h
    by_test false (inl e) rest = inr (inl e)
    by_test false (inr h) rest = ⊎_elim (λ e. inl e) (λ k. inr (inr k)) (rest h)

pub sorted_has : (cs : List InitCall) (x : InitCall) → Has (by_priority cs) x → Has cs x
sorted_has [] x has = has
sorted_has (c ∷ cs) x has = ⊎_elim (λ e. inl e) (λ h. inr (sorted_has cs x h)) (insert_has c (by_priority cs) x has)

call_kind : (r : Resolved) (i : InitFunc) (c : InitCall) → init_call r i ≡ Some c → c.ref.kind ≡ 0
call_kind r i c e = by_parts (slice_get r.symbols i.symbol) (slice_get r.meanings i.symbol) e
  where
    by_parts : (x : Option InputSymbol) (m : Option Meaning) → option_map (λ (ref : Ref). record { priority = i.priority; ref = ref }) (ref_to 0 0 (pos 0) x m) ≡ Some c → c.ref.kind ≡ 0
    by_parts (Some s) (Some m) h = ap (λ (d : InitCall). d.ref.kind) (sym (some_is (record { priority = i.priority; ref = record { place = 0; kind = 0; addend = pos 0; entry = s; meaning = m } }) c h))
    by_parts (Some s) None h = absurd cc
    by_parts None m h = absurd cc

pub calls_kind : (rs : List Resolved) → All (λ (ref : Ref). ref.kind ≡ 0) (init_calls rs)
unfolding init_calls
calls_kind rs = all_from_has (λ (ref : Ref). ref.kind ≡ 0) (map (λ (c : InitCall). c.ref) (by_priority (flat_map init_calls_in rs))) (λ ref has.
    let m = has_map (λ (c : InitCall). c.ref) (by_priority (flat_map init_calls_in rs)) ref has in
    let f = has_flat init_calls_in rs m.0 (sorted_has (flat_map init_calls_in rs) m.0 m.1) in
    let g = has_filter (λ c. not (is_skipped c)) (filter_map (init_call f.0) f.0.object.inits) m.0 f.2 in
    let k = has_pick (init_call f.0) f.0.object.inits m.0 g.0 in
    ap (λ (r : Ref). r.kind) (sym m.2) ∙ call_kind f.0 k.0 m.0 k.2)

-- ---- kinds of parts, and the types that they name

module _ (l : Linked) (objects : List Object) (strict : l.plan.loose_calls ≡ false) where
  record Plainly (x : Part) : Type 0 where
    low : x.chunk.kind < 3
    untyped : (x.chunk.kind == 0) ≡ false → types_named x ≡ []

  none_typed : (r : Resolved) (ws : List Reloc) → filter_map named_type (filter_map (λ w. window_named r w) ws) ≡ []
  none_typed r [] = refl
  none_typed r (w ∷ ws) = by_ref (ref_in r w.offset w.kind w.index w.addend) (none_typed r ws)
    where
      by_ref : (x : Option Ref) → filter_map named_type (filter_map (λ y. window_named r y) ws) ≡ [] → filter_map named_type (cons_option (option_map a_symbol x) (filter_map (λ y. window_named r y) ws)) ≡ []
      by_ref None rest = rest
      by_ref (Some ref) rest = rest

  own_plain : (calls : List Ref) (x : Part) → Has (made_parts_from calls 0 (made Plain)) x → Plainly x
  own_plain calls x (inl e) = subst Plainly e (record { low = omega arith; untyped = λ z. absurd cc })
  own_plain calls x (inr (inl e)) = subst Plainly e (record { low = omega arith; untyped = λ z. refl })
  own_plain calls x (inr (inr (inl e))) = subst Plainly e (record { low = omega arith; untyped = λ z. refl })
  own_plain calls x (inr (inr (inr (inl e)))) = subst Plainly e (record { low = omega arith; untyped = λ z. refl })
  own_plain calls x (inr (inr (inr (inr has)))) = absurd has

  plainly : (x : Part) → Has (program l objects).parts x → Plainly x
  plainly x has =
      ⊎_elim (λ own. own_plain (init_calls (program l objects).resolved) x own)
      (λ rest. let f = has_flat (object_parts l objects) objects x rest in
      let g = has_filter (λ (y : Part). kept_in objects f.0 y.chunk) (function_parts l objects f.0 ++ segment_parts l objects f.0 ++ global_parts l objects f.0) x f.2 in
      of_three (function_parts l objects f.0) (segment_parts l objects f.0) (global_parts l objects f.0) x g.0
      (λ h. indexed_all Plainly (make_function l objects f.0) (λ n y. record { low = omega arith; untyped = λ z. absurd cc }) 0 f.0.functions x h)
      (λ h. indexed_all Plainly (make_segment l objects f.0) (λ n y. record { low = omega arith; untyped = λ z. none_typed (res l objects f.0) y.windows }) 0 f.0.segments x h)
      (λ h. indexed_all Plainly (make_global l objects f.0) (λ n y. record { low = omega arith; untyped = λ z. refl }) 0 f.0.globals x h))
      (has_either (own_parts l objects) (flat_map (object_parts l objects) objects) x (subst (λ xs. Has xs x) (parts_are l objects strict) has))

  pub all_low : All (λ (x : Part). x.chunk.kind < 3) (program l objects).parts
  all_low = all_from_has (λ (x : Part). x.chunk.kind < 3) (program l objects).parts (λ x has. (plainly x has).low)

  pub all_untyped : All (λ (x : Part). (x.chunk.kind == 0) ≡ false → types_named x ≡ []) (program l objects).parts
  all_untyped = all_from_has (λ (x : Part). (x.chunk.kind == 0) ≡ false → types_named x ≡ []) (program l objects).parts (λ x has. (plainly x has).untyped)

pub parts_are_alike : PartsAreAlike
parts_are_alike run os ls s = record {
  functions = held_sides run os ls s (calls_are_alike run os ls s) 0 (function_sides run os ls s (calls_are_alike run os ls s) kinds);
  segments = held_sides run os ls s (calls_are_alike run os ls s) 1 (segment_sides run os ls s (calls_are_alike run os ls s) kinds);
  globals = held_sides run os ls s (calls_are_alike run os ls s) 2 (global_sides run os ls s (calls_are_alike run os ls s) kinds);
  few = all_low ls.whole (whole_objects os) s.strict;
  few_too = all_low ls.after (later_objects run os) s.strict_after;
  untyped = all_untyped ls.whole (whole_objects os) s.strict;
  untyped_too = all_untyped ls.after (later_objects run os) s.strict_after;
}
  where
    kinds : All (λ (ref : Ref). ref.kind ≡ 0) (init_calls (whole_program run os ls).resolved)
    kinds = calls_kind (whole_program run os ls).resolved
