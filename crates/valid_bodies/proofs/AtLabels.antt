-- What labels take, by the blocks that are open on one stack.
use Rattle.std.proofs.Common.{◌≡◌, ℕ, List, length, Option, Some, None, Bool, false, sym, ap, ◌∙◌}
use Rattle.std.specs.Prelude.{slice_get}
use Rattle.wasm_types.specs.declared.value.ValType.{ValType}
use Rattle.valid_rules.specs.declared.types.Frame.{Frame}
use Rattle.valid_rules.specs.Reading.{arity, fits}
use Rattle.valid_bodies.specs.declared.blocks.Block.{Block}
use Rattle.valid_bodies.specs.declared.blocks.Outer.{Outer}
use Rattle.valid_bodies.specs.Layer.{Layer}
use Rattle.valid_bodies.specs.Blocks.{label_in, blocks_in, labels_in, frames}
use Rattle.valid_bodies.specs.Steps.{label_arity, label_fits}
use Rattle.valid_bodies.proofs.Keeping.{labels_are, label_there, label_lacks}

module _ (ts : List ValType) (inner : Option Block) (os : List Outer) (l : Layer) (shown : List Frame) (is : frames ts inner os l ≡ shown) where
  shown_as : (i : Option Block) → inner ≡ i → shown ≡ frames ts i os l
  shown_as i here = sym is ∙ ap (λ (i : Option Block). frames ts i os l) here

  pub none_takes : (k : ℕ) → inner ≡ None → 0 ≡ label_arity shown k
  none_takes k here = sym (ap (λ fs. label_arity fs k) (shown_as None here))

  pub none_fits : (n k : ℕ) → inner ≡ None → false ≡ label_fits shown n k
  none_fits n k here = sym (ap (λ fs. label_fits fs n k) (shown_as None here))

  module _ (b : Block) (here : inner ≡ Some b) where
    taking : (k : ℕ) → label_arity shown k ≡ arity (slice_get (labels_in ts b os) k)
    taking k = ap (λ fs. label_arity fs k) (shown_as (Some b) here) ∙ ap (λ ls. arity (slice_get ls k)) (labels_are ts b os l.own l.below)

    pub lacks_takes : (k : ℕ) → slice_get (blocks_in b os) k ≡ None → 0 ≡ label_arity shown k
    lacks_takes k e = sym (taking k ∙ ap arity (label_lacks ts b os k e))

    pub there_takes : (k : ℕ) (target : Block) (takes : List ValType) → slice_get (blocks_in b os) k ≡ Some target → takes ≡ label_in ts target → length takes ≡ label_arity shown k
    there_takes k target takes e is_takes = ap length is_takes ∙ sym (taking k ∙ ap arity (label_there ts b target os k e))

    pub as_fits : (n k : ℕ) (so : Bool) → so ≡ fits b.unreachable l.own n (slice_get (labels_in ts b os) k) → so ≡ label_fits shown n k
    as_fits n k so e =
        e ∙ sym (ap (λ fs. label_fits fs n k) (shown_as (Some b) here) ∙ ap (λ ls. fits b.unreachable l.own n (slice_get ls k)) (labels_are ts b os l.own l.below))
