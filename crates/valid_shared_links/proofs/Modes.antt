-- A link of either mode: its plan asks for a plain output or for a shared one, and each has its law.
use Rattle.std.proofs.Common.{◌≡◌, ℕ, List, length, refl, sym, ap, subst, Bool, true, false, if◌then◌else◌}
use Rattle.std.specs.Prelude.{unwrap_or, Ok}
use Rattle.round_rules.specs.Rounds.{load}
use Rattle.link_plan.specs.declared.plan.Plan.{Plan}
use Rattle.link_plan.specs.Plan.{IsPlan}
use Rattle.made_symbols.specs.declared.mode.Mode.TheVariants.{Plain, Shared}
use Rattle.link_rules.specs.ModeOf.{mode_of, plain_mode}
use Rattle.link_rules.specs.LinkOf.{asked_names, link_of}
use Rattle.output_check.specs.Check.{IsValidOutput}
use Rattle.valid_links.specs.Links.{LinksAreValid}
use Rattle.valid_shared_links.specs.Links.{AllValid, SharedLinksAreValid, AllLinksAreValid}

shared_mode : (plan : Plan) → plan.shared ≡ true → mode_of plan ≡ Shared
unfolding mode_of
shared_mode plan shared = ap (λ shared. if shared then Shared else Plain) shared

by_mode : LinksAreValid → SharedLinksAreValid → (shared : Bool) (plan : Plan) (files : List (List ℕ)) (bytes : List ℕ) → plan.shared ≡ shared
    → IsPlan plan → length files ≡ unwrap_or plan.make_case (length plan.inputs) → AllValid plan files → link_of plan files ≡ Ok bytes → IsValidOutput bytes
by_mode plain_law shared_law true plan files bytes asked is long valid e = shared_law plan files bytes long (shared_mode plan asked) valid e
by_mode plain_law shared_law false plan files bytes asked is long valid e =
    plain_law plan files bytes is long asked
    (λ all objects found loaded. valid all objects found (subst (λ mode. load mode (asked_names plan) all ≡ Ok objects) (sym (plain_mode plan asked)) loaded)) e

pub all_links_law : LinksAreValid → SharedLinksAreValid → AllLinksAreValid
all_links_law plain_law shared_law plan files bytes is long valid e = by_mode plain_law shared_law plan.shared plan files bytes refl is long valid e
