use Rattle.std.proofs.Common.{rules, ◌≡◌, ◌∙◌, ap, length}
use Rattle.link_output.proofs.Writes.{front_is}
use Rattle.link_output.proofs.writing.write.Goals as goal

pub returns-clause-is : goal.returns-clause-is
returns-clause-is g c =
    let same : c.from_vec.result ≡ c.put.new.out = c.from_vec.ensures ∙ front_is c.in_ok-bytes.bytes.len c.put.new.out c.in_ok-bytes.bytes.items (c.put.ensures.len ∙ search rules) in
    same ∙ c.put.ensures.bytes

pub returns-clause-len : goal.returns-clause-len
returns-clause-len g c =
    let same : c.from_vec.result ≡ c.put.new.out = c.from_vec.ensures ∙ front_is c.in_ok-bytes.bytes.len c.put.new.out c.in_ok-bytes.bytes.items (c.put.ensures.len ∙ search rules) in
    ap length same ∙ c.put.ensures.len ∙ search rules
