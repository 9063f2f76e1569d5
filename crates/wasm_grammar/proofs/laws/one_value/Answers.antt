use Rattle.wasm_grammar.specs.ReaderLaws.{one_value}
use Rattle.wasm_grammar.proofs.laws.one_value.Goals as goal

pub returns : goal.returns
returns g c = one_value g.T.Form.spells g.T.Form.read_at g.met.T.Form.exact
