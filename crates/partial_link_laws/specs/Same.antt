-- The law in one equation: the link with one object in the place of a run is the link of all inputs, where that gives an output.
use Rattle.std.specs.Prelude.{◌≡◌, ℕ, List, ◌∷◌, ◌++◌, Ok}
use Rattle.link_plan.specs.declared.plan.Plan.{Plan}
use Rattle.link_rules.specs.LinkOf.{link_of}
use Rattle.partial_rules.specs.PartialLink.{partial_of}
use Rattle.partial_laws.specs.PartialThenLink.{Cut, run_plan, later_plan, Premises}

-- So it runs alike under every session.
abbrev pub LinksAreOne : Type 0
LinksAreOne =
    (plan : Plan) (files : List (List ℕ)) (c : Cut plan files) (r bytes : List ℕ)
    → partial_of (run_plan plan files c) c.middle ≡ Ok r → link_of plan files ≡ Ok bytes → Premises plan files c r
    → link_of (later_plan plan files c) (c.front ++ r ∷ c.back) ≡ link_of plan files
