use Rattle.std.proofs.Common.{ap, get_or}
use Rattle.program_tables.proofs.loose.Loose.none.Goals as goal

pub returns : goal.returns
returns c = λ mode allow names imports objects. record { called = λ n e at. ap (λ l. get_or l n n) c.new.ensures; symbols = c.new-2.ensures; types = c.new-3.ensures }
