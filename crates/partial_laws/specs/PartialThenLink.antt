-- A partial link of a run of neighbouring inputs, and the link of what it makes in their place, gives what one link of all gives: the law, and
-- what it asks for.
use Rattle.std.specs.Prelude.{◌≡◌, ℕ, ◌<◌, ◌^◌, false, List, ◌∷◌, ◌++◌, length, IsTrue, None, Ok}
use Rattle.link_plan.specs.declared.plan.Plan.{Plan}
use Rattle.link_plan.specs.declared.plan.InputWord.{InputWord}
use Rattle.link_rules.specs.ModeOf.{IsPlain}
use Rattle.link_rules.specs.Candidates.{total_len, plain_word}
use Rattle.link_rules.specs.LinkOf.{the_readers, link_of}
use Rattle.partial_rules.specs.PartialLink.{bare, partial_of}
use Rattle.partial_laws.specs.Premises.{program_by, holds, is_uniform, is_grounded, inits_stand, explicit_agree, groups_agree}

-- A cut of the inputs of a plan in three, the middle one not empty.
pub record Cut (plan : Plan) (files : List (List ℕ)) : Type 0 where
  pub before : List InputWord
  pub run : List InputWord
  pub behind : List InputWord
  pub front : List (List ℕ)
  pub middle : List (List ℕ)
  pub back : List (List ℕ)
  pub words : plan.inputs ≡ before ++ run ++ behind
  pub files_are : files ≡ front ++ middle ++ back
  pub as_many_front : length before ≡ length front
  pub as_many_middle : length run ≡ length middle
  pub as_many_back : length behind ≡ length back
  pub some : 0 < length run

abbrev pub with_inputs : Plan → List InputWord → Plan
with_inputs plan inputs = record plan { inputs = inputs }

-- The plan of the run alone, and the plan with one object in its place.
abbrev pub run_plan : (plan : Plan) (files : List (List ℕ)) → Cut plan files → Plan
run_plan plan files c = with_inputs plan c.run

abbrev pub later_plan : (plan : Plan) (files : List (List ℕ)) → Cut plan files → Plan
later_plan plan files c = with_inputs plan (c.before ++ plain_word ∷ c.behind)

-- The output is plain and no case is generated. The law doesn't speak of a compiler driver's words: there lost constructors are judged object by
-- object, so one object in the place of several may lose what they didn't; nor of calls by another type than a definition has.
pub record PlainWords (plan : Plan) : Type 0 where
  pub plain : IsPlain plan
  pub no_case : plan.make_case ≡ None
  pub no_driver : plan.like_lld ≡ false
  pub strict : plan.loose_calls ≡ false

pub record Premises (plan : Plan) (files : List (List ℕ)) (c : Cut plan files) (r : List ℕ) : Type 0 where
  pub words : PlainWords plan
  pub uniform : IsTrue (holds is_uniform (program_by the_readers (bare (run_plan plan files c)) c.middle))
  pub grounded : IsTrue (holds is_grounded (program_by the_readers (bare (run_plan plan files c)) c.middle))
  pub inits : IsTrue (holds inits_stand (program_by the_readers (bare (run_plan plan files c)) c.middle))
  pub explicit : IsTrue (holds explicit_agree (program_by the_readers plan files))
  pub groups : IsTrue (holds groups_agree (program_by the_readers plan files))
  -- the limits: all else is less than in the whole link
  pub short : total_len (c.front ++ r ∷ c.back) < 2 ^ 32

abbrev pub PartialThenLink : Type 0
PartialThenLink =
    (plan : Plan) (files : List (List ℕ)) (c : Cut plan files) (r bytes : List ℕ)
    → partial_of (run_plan plan files c) c.middle ≡ Ok r
    → link_of plan files ≡ Ok bytes
    → Premises plan files c r
    → link_of (later_plan plan files c) (c.front ++ r ∷ c.back) ≡ Ok bytes
