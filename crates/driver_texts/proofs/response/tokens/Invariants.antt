use Rattle.std.proofs.Common.{◌≡◌, drop}
use Rattle.driver_texts.specs.Tokens.{read_all, tokens_of}
use Rattle.driver_texts.proofs.response.tokens.Given as goal

abbrev pub invariant-loop-b : goal.invariant-loop-b
invariant-loop-b l = read_all l.reading (drop l.b-index l.text) ≡ tokens_of l.text
