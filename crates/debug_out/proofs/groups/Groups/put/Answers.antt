use Rattle.std.proofs.Common.{◌≡◌, ℕ, ◌==◌, ◌∙◌, sym, subst, rules}
use Rattle.std.specs.Prelude.{◌&&◌}
use Rattle.wl_base.specs.Choice.{given}
use Rattle.debug_rules.specs.Joined.{place_at}
use Rattle.debug_out.specs.Grouped.{or_else}
use Rattle.debug_out.proofs.Begins.{put_grouped}
use Rattle.debug_out.proofs.groups.Groups.put.Goals as goal

pub returns : goal.returns
returns c = λ ds has.
    let place : c.from.result ≡ c.args.d.now.at = search rules in
    put_grouped c.args.names.now.names c.args.self.now (record { members = c.put_member.new.members; lengths = c.put_length.new.lengths; rows = c.put_begin.new.rows })
    ds c.args.d.now c.in-Some.n _ c.in_ok-begin.begin (sym c.find.ensures ∙ c.in-Some.is)
    c.in_ok-put_member.ensures.within c.in_ok-put_member.ensures.put c.in_ok-begin.ensures.within c.in_ok-begin.ensures.put
    (search rules) c.in_ok-begin.ensures.was
    (subst (λ (a : ℕ). (o k : ℕ) → place_at c.put_begin.new.rows.items o k ≡ or_else (place_at c.args.self.now.rows.items o k) (given ((c.args.d.now.object == o) && (a == k)) c.in_ok-begin.begin))
    place c.in_ok-put_begin.ensures) has
