use Rattle.std.proofs.Common.{◌≤◌, subst, sym, take, length}
use Rattle.std.specs.Prelude.{All}
use Rattle.std.specs.Char.{is_ascii_digit}
use Rattle.std.proofs.lemmas.List.Sums.{prefix_len-le-length}
use Rattle.lib_index.specs.Archive.{IsDigit}
use Rattle.lib_index.proofs.Digits.{digits_pass}
use Rattle.lib_index.proofs.header.digits_in.Goals as goal

pub returns-clause-within : goal.returns-clause-within
returns-clause-within c = subst (λ n. n ≤ length c.args.field.now) (sym c.count_digits.ensures) (prefix_len-le-length is_ascii_digit c.args.field.now)

pub returns-clause-digits : goal.returns-clause-digits
returns-clause-digits c = subst (λ n. All IsDigit (take n c.args.field.now)) (sym c.count_digits.ensures) (digits_pass c.args.field.now)
