use Rattle.std.proofs.Common.{◌≡◌, ◌<◌, ◌≤◌, ℕ, List, [], ◌∷◌, Some, arith, refl, sym, subst, length, take}
use Rattle.std.specs.Prelude.{slice_get}
use Rattle.std.proofs.lemmas.List.{take_all}
use Rattle.program_tables.specs.link_program.wl_base.Names.{number_of}
use Rattle.link_names.specs.Interning.{more}
use Rattle.program_tables.proofs.Lists.{at_take}
use Rattle.program_tables.proofs.Steps.{read_at}
use Rattle.loose_calls.specs.Interned.{Adds}
use Rattle.loose_calls.proofs.Behind.{Now, one_more, none_yet, split_at, stays_on, all_interned}
use Rattle.loose_calls.proofs.interning.intern_all.Goals as goal

pub loop-variant-init : goal.loop-variant-init
loop-variant-init c = record {
  stands = none_yet c.args.names.now.names c.args.variants.now _ c.new.ensures c.new-2.ensures;
  stays = record { made = refl; symbols = refl; groups = refl };
}

pub loop-variant-preserved : goal.loop-variant-preserved
loop-variant-preserved c =
    let vs = c.args.variants.now in
    let old = c.args.names.now.names in
    let new = c.number_of.new.names.names in
    let i = c.loop-variant.variant-index in
    let v = c.variant-item.result in
    let n = c.in_ok-number.number in
    let within : i < length vs = omega arith in
    let at : slice_get vs i ≡ Some v = read_at vs i v within c.variant-item.is in
    let split = split_at vs i v at in
    let added : new ≡ more c.loop-variant.names.names (v.name ∷ []) =
    subst (λ (x : List ℕ). new ≡ more c.loop-variant.names.names (x ∷ [])) c.as_slice.ensures c.in_ok-number.ensures.names in
    let numbered : number_of new v.name ≡ Some n = subst (λ (x : List ℕ). number_of new x ≡ Some n) c.as_slice.ensures c.in_ok-number.ensures.number in
    let low : length old ≤ n = omega (arith, c.count-base.ensures, c.in_ok-number.ensures.behind) in
    let adds : Adds v n (length old) c.loop-variant.interned c.add.new.self =
    subst (λ b. Adds v n b c.loop-variant.interned c.add.new.self) c.count-base.ensures c.in_ok-add.ensures in
    record {
      stands = subst (λ ws. Now old vs ws new c.add.new.self) (sym (at_take vs i v at))
          (one_more old vs (take i vs) split.0 v c.loop-variant.names.names new n c.loop-variant.interned c.add.new.self split.1 c.loop-variant.invariant.stands added numbered low adds);
      stays = stays_on c.args.names.now c.loop-variant.names c.number_of.new.names c.loop-variant.invariant.stays c.in_ok-number.ensures.stays;
    }

pub returns : goal.returns
returns c =
    let vs = c.args.variants.now in
    let past : length vs ≤ c.loop-variant.variant-index = omega arith in
    all_interned c.args.names.now c.loop-variant.names vs c.loop-variant.interned (subst (λ ws. Now c.args.names.now.names vs ws c.loop-variant.names.names c.loop-variant.interned) (take_all c.loop-variant.variant-index vs past) c.loop-variant.invariant.stands)
    c.loop-variant.invariant.stays c.count.result c.count.ensures (omega arith)
