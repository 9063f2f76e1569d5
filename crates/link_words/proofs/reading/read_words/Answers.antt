use Rattle.std.proofs.Common.{sym}
use Rattle.link_words.proofs.Whole.{stands_alone, has_input, has_output, is_no_case}
use Rattle.link_words.proofs.reading.read_words.Goals as goal

pub returns-clause-case : goal.returns-clause-case
returns-clause-case c = stands_alone c.as_slice-items.result.now c.in_ok-items.stop c.in_ok-plan-in-None.field-0 (sym c.in-None.ensures) c.in_ok-plan-in-None.ensures.plan

pub returns-clause-input : goal.returns-clause-input
returns-clause-input c = has_input c.as_slice-items.result.now c.in_ok-items.stop c.in_ok-plan-in-None.field-0 (sym c.in-None.ensures) c.in_ok-plan-in-None.ensures.plan

pub returns-clause-output : goal.returns-clause-output
returns-clause-output c = has_output c.as_slice-items.result.now c.in_ok-items.stop c.in_ok-plan-in-None.field-0 (sym c.in-None.ensures) c.in_ok-plan-in-None.ensures.plan

pub returns-clause-partial : goal.returns-clause-partial
returns-clause-partial c = is_no_case c.as_slice-items.result.now c.in_ok-items.stop c.in_ok-plan-in-None.field-0 (sym c.in-None.ensures) c.in_ok-plan-in-None.ensures.plan
