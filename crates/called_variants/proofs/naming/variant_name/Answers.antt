use Rattle.std.proofs.Common.{◌∷◌, ◌++◌, ◌∙◌, map}
use Rattle.link_keys.specs.link_program.wasm_types.Types.{val_byte}
use Rattle.called_variants.proofs.NameBytes.{all_marked}
use Rattle.called_variants.proofs.naming.variant_name.Goals as goal

pub returns : goal.returns
returns c =
    all_marked c.new-bytes.result c.add_types.new.bytes c.add_types-2.new.bytes c.push.new.self c.extend_from_slice.new.self (map val_byte c.as_slice.result.now) (map val_byte c.as_slice-2.result.now) c.args.name.now
    c.new-bytes.ensures c.in_ok-add_types.ensures c.in_ok-add_types-2.ensures c.in_ok-push.ensures.ok c.in_ok-extend_from_slice.ensures.ok
    ∙ (λ i. 255 ∷ map val_byte (c.as_slice.ensures i) ++ 255 ∷ map val_byte (c.as_slice-2.ensures i) ++ 255 ∷ c.args.name.now)
