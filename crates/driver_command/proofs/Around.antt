-- A link shows what it shows whatever was asked of the shelf before it or is asked behind it.
use Rattle.std.proofs.Common.{◌≡◌, ◌⊎◌, inl, inr, ℕ, Bool, true, false, List, [], Option, Some, None, IsTrue, Result, Ok, Err, refl, sym, ap, subst, ◌∙◌, arith}
use Rattle.std.specs.Prelude.{IfOk, IfSome, IsSomeAnd}
use Rattle.std.specs.Option.{option_map}
use Rattle.wl_base.specs.declared.fault.Fault.{Fault}
use Rattle.wl_base.specs.declared.usage.Usage.{Usage as UsageFault}
use Rattle.wl_outside.specs.Shelf.{Shown, Same, SameBut, Grows, Holds, Torn, LoadFailed, SaveFailed}
use Rattle.link_plan.specs.declared.plan.Plan.{Plan}
use Rattle.link_words.specs.Words.{word}
use Rattle.link_command.specs.declared.asked.Asked.{Asked}
use Rattle.link_command.specs.declared.status.Status.{Status}
use Rattle.link_command.specs.declared.status.Status.TheVariants.{Linked, Refused, Usage, ReadFault, WriteFault, NoMemory}
use Rattle.link_command.specs.Command.{planned, Shows, LinkIs, IsTold, LoadsWork, SaveWorks, Saved, SavedRuns, Cut, contents, input_names, taken, files_of}
use Rattle.link_command.specs.Telling.{AreMismatches, TellsBy, Tells, WouldTell}
use Rattle.link_command.specs.mismatch_rules.declared.mismatch.Mismatch.{Mismatch}
use Rattle.driver_command.specs.Linked.{LinksBy, LinksAs}

pub tells_on : (old new : Shown) → Grows old new → IsTrue old.tells → IsTrue new.tells
tells_on old new grows told = subst IsTrue (sym grows.tells) told

pub tells_back : (old new : Shown) → Grows old new → IsTrue new.tells → IsTrue old.tells
tells_back old new grows told = subst IsTrue grows.tells told

pub held_same : (old new : Shown) → Same old new → IsTrue old.tells → new.held ≡ old.held
held_same old new same told = λ i n. same told n i

pub grows_all : (old mid new : Shown) → Grows old mid → Grows mid new → Grows old new
grows_all old mid new first later = record {
  tells = later.tells ∙ first.tells;
  loads = λ name. let a = first.loads name in let b = later.loads name in omega (arith, a, b);
  saves = λ name. let a = first.saves name in let b = later.saves name in omega (arith, a, b);
}

pub same_all : (old mid new : Shown) → Grows old mid → Same old mid → Same mid new → Same old new
same_all old mid new grows first later = λ told n. later (tells_on old mid grows told) n ∙ first told n

-- a function on what is there
on_ok : {A E : Type 0} (P Q : A → Type 0) (r : Result A E) → ((x : A) → P x → Q x) → IfOk r P → IfOk r Q
on_ok P Q (Ok x) f p = f x p
on_ok P Q (Err e) f p = p

-- ---- before the link

module _ (before mid after : Shown) (grows : Grows before mid) (same : Same before mid) (own : List (List ℕ)) where
  pub told_in : (case : Option ℕ) → IsTold case before → IsTold case mid
  told_in (Some n) told = told
  told_in None told = tells_on before mid grows told

  pub files_in : (case : Option ℕ) (plan : Plan) → IsTold case before → files_of case mid own plan ≡ files_of case before own plan
  files_in (Some n) plan told = refl
  files_in None plan told = ap (λ (held : List ℕ → Option (List ℕ)). option_map (taken plan.like_lld) (contents held (input_names own plan))) (held_same before mid same told)

  link_back : (plan : Plan) (said : Result (List ℕ) Fault) → IsTold plan.make_case before → LinkIs mid own plan said → LinkIs before own plan said
  link_back plan said told h = record { files = h.files; held = sym (files_in plan.make_case plan told) ∙ h.held; link = h.link }

  link_in : (plan : Plan) (said : Result (List ℕ) Fault) → IsTold plan.make_case before → LinkIs before own plan said → LinkIs mid own plan said
  link_in plan said told h = record { files = h.files; held = files_in plan.make_case plan told ∙ h.held; link = h.link }

  load_back : (name : List ℕ) → LoadFailed mid after name → LoadFailed before after name
  load_back name failed = let a = grows.loads name in omega (arith, a, failed)

  save_back : (name : List ℕ) → SaveFailed mid after name → SaveFailed before after name
  save_back name failed = let a = grows.saves name in omega (arith, a, failed)

  but_back : (name : List ℕ) → SameBut name mid after → SameBut name before after
  but_back name but = λ told n other. but (tells_on before mid grows told) n other ∙ same told n

  saved_back : (output : Option (List ℕ)) (bytes : List ℕ) → Saved mid after output bytes → Saved before after output bytes
  saved_back None bytes saved = same_all before mid after grows same saved
  saved_back (Some output) bytes saved = (saved.0, but_back output saved.1)

  torn_back : (name bytes : List ℕ) → Torn mid after name bytes → Torn before after name bytes
  torn_back name bytes torn = λ told. elim (torn (tells_on before mid grows told)) [ inl old ↦ inl (old ∙ same told name) | inr new ↦ inr new ]

  cut_back : (output : Option (List ℕ)) (bytes : List ℕ) → Cut mid after output bytes → Cut before after output bytes
  cut_back None bytes cut = same_all before mid after grows same cut
  cut_back (Some output) bytes cut = (torn_back output bytes cut.0, but_back output cut.1)

  failed_back : (output : Option (List ℕ)) → IsSomeAnd output (λ o. SaveFailed mid after o) → IsSomeAnd output (λ o. SaveFailed before after o)
  failed_back None failed = failed
  failed_back (Some output) failed = save_back output failed

  shows_back : (status : Status) (plan : Plan) → Shows status mid after own plan → Shows status before after own plan
  shows_back Linked plan h = λ told.
      let p = h (told_in plan.make_case told) in (p.0, link_back plan (Ok p.0) told p.1, saved_back plan.output p.0 p.2)
  shows_back (Refused fault) plan h =
      (λ told. link_back plan (Err fault) told (h.0 (told_in plan.make_case told)), same_all before mid after grows same h.1)
  shows_back (Usage u) plan h = h
  shows_back (ReadFault k) plan h = (h.0, load_back (word own k) h.1, same_all before mid after grows same h.2)
  shows_back WriteFault plan h = (
    λ told. let p = h.0 (told_in plan.make_case told) in (p.0, link_back plan (Ok p.0) told p.1, cut_back plan.output p.0 p.2),
    failed_back plan.output h.1,
  )
  shows_back NoMemory plan h = same_all before mid after grows same h

  runs_back : (plan : Plan) → IsTold plan.make_case before → SavedRuns mid after own plan → SavedRuns before after own plan
  runs_back plan told h = record {
    files = h.files;
    held = sym (files_in plan.make_case plan told) ∙ h.held;
    bytes = h.bytes;
    saved = saved_back plan.output h.bytes h.saved;
    runs = h.runs;
  }

  mismatches_back : (plan : Plan) (told : List Mismatch) → (IsTold plan.make_case mid → AreMismatches mid own plan told) → IsTold plan.make_case before → AreMismatches before own plan told
  mismatches_back plan told are t =
      let h = are (told_in plan.make_case t) in record { files = h.files; held = sym (files_in plan.make_case plan t) ∙ h.held; are = h.are }

  tells_back_by : (status : Status) (plan : Plan) (told : List Mismatch) → TellsBy status mid own plan told → TellsBy status before own plan told
  tells_back_by Linked plan told h = mismatches_back plan told h
  tells_back_by (Refused fault) plan told h = mismatches_back plan told h
  tells_back_by (Usage u) plan told h = h
  tells_back_by (ReadFault k) plan told h = h
  tells_back_by WriteFault plan told h = mismatches_back plan told h
  tells_back_by NoMemory plan told h = h

  pub tells_after : (said : Result Plan UsageFault) (status : Status) (told : List Mismatch) → Tells said status mid own told → Tells said status before own told
  tells_after (Ok plan) status told h = tells_back_by status plan told h
  tells_after (Err u) status told h = h

  loads_in : (plan : Plan) → LoadsWork before after own plan → LoadsWork mid after own plan
  loads_in plan work = λ k among failed. work k among (load_back (word own k) failed)

  save_in : (output : Option (List ℕ)) → IfSome output (λ o. SaveFailed before after o → ⊥) → IfSome output (λ o. SaveFailed mid after o → ⊥)
  save_in None work = work
  save_in (Some output) work = λ failed. work (save_back output failed)

  pub links_after : (loose : Bool) (asked : Asked) (status : Status) → LinksBy loose asked status mid after own → LinksBy loose asked status before after own
  links_after loose asked status h = record {
    usage = λ u is. let p = h.usage u is in (p.0, same_all before mid after grows same p.1);
    cause = on_ok (λ plan. Shows status mid after own plan) (λ plan. Shows status before after own plan) (planned true loose asked own) (shows_back status) h.cause;
    memory = λ is. same_all before mid after grows same (h.memory is);
    runs = λ plan is linked told. runs_back plan told (h.runs plan is linked (told_in plan.make_case told));
    is_usage = h.is_usage;
    is_refused = λ plan fault is told link work.
        h.is_refused plan fault is (told_in plan.make_case told) (link_in plan (Err fault) told link) (loads_in plan work);
    is_linked = λ plan bytes is told link work save.
        h.is_linked plan bytes is (told_in plan.make_case told) (link_in plan (Ok bytes) told link) (loads_in plan work) (save_in plan.output save);
  }

  would_back_by : (said : Result Plan UsageFault) (told : List Mismatch) → IfOk said (λ plan. IsTold plan.make_case mid → AreMismatches mid own plan told)
      → IfOk said (λ plan. IsTold plan.make_case before → AreMismatches before own plan told)
  would_back_by (Ok plan) told h = mismatches_back plan told h
  would_back_by (Err u) told h = tt

  pub would_back : (asked : Asked) (told : List Mismatch) → WouldTell asked mid own told → WouldTell asked before own told
  would_back asked told h = would_back_by (planned true true asked own) told h

  pub links_as_after : (fatal : Bool) (asked : Asked) (status : Status) → LinksAs fatal asked status mid after own → LinksAs fatal asked status before after own
  links_as_after false asked status h = links_after true asked status h
  links_as_after true asked status h =
      elim h [ inl strict ↦ inl (links_after false asked status strict) | inr loose ↦ inr (would_back asked [] loose.0, links_after true asked status loose.1) ]

-- ---- behind the link

module _ (before mid after : Shown) (first : Grows before mid) (grows : Grows mid after) (same : Same mid after) (own : List (List ℕ)) where
  load_on : (name : List ℕ) → LoadFailed before mid name → LoadFailed before after name
  load_on name failed = let a = grows.loads name in omega (arith, a, failed)

  save_on : (name : List ℕ) → SaveFailed before mid name → SaveFailed before after name
  save_on name failed = let a = grows.saves name in omega (arith, a, failed)

  same_on : Same before mid → Same before after
  same_on so_far = same_all before mid after first so_far same

  but_on : (name : List ℕ) → SameBut name before mid → SameBut name before after
  but_on name but = λ told n other. same (tells_on before mid first told) n ∙ but told n other

  holds_on : (name bytes : List ℕ) → Holds mid name bytes → Holds after name bytes
  holds_on name bytes holds = λ told. let t = tells_back mid after grows told in same t name ∙ holds t

  saved_on : (output : Option (List ℕ)) (bytes : List ℕ) → Saved before mid output bytes → Saved before after output bytes
  saved_on None bytes saved = same_on saved
  saved_on (Some output) bytes saved = (holds_on output bytes saved.0, but_on output saved.1)

  torn_on : (name bytes : List ℕ) → Torn before mid name bytes → Torn before after name bytes
  torn_on name bytes torn = λ told.
      let here = same (tells_on before mid first told) name in
      elim (torn told) [ inl old ↦ inl (here ∙ old) | inr new ↦ inr (new.0, here ∙ new.1) ]

  cut_on : (output : Option (List ℕ)) (bytes : List ℕ) → Cut before mid output bytes → Cut before after output bytes
  cut_on None bytes cut = same_on cut
  cut_on (Some output) bytes cut = (torn_on output bytes cut.0, but_on output cut.1)

  failed_on : (output : Option (List ℕ)) → IsSomeAnd output (λ o. SaveFailed before mid o) → IsSomeAnd output (λ o. SaveFailed before after o)
  failed_on None failed = failed
  failed_on (Some output) failed = save_on output failed

  shows_on : (status : Status) (plan : Plan) → Shows status before mid own plan → Shows status before after own plan
  shows_on Linked plan h = λ told. let p = h told in (p.0, p.1, saved_on plan.output p.0 p.2)
  shows_on (Refused fault) plan h = (h.0, same_on h.1)
  shows_on (Usage u) plan h = h
  shows_on (ReadFault k) plan h = (h.0, load_on (word own k) h.1, same_on h.2)
  shows_on WriteFault plan h = (λ told. let p = h.0 told in (p.0, p.1, cut_on plan.output p.0 p.2), failed_on plan.output h.1)
  shows_on NoMemory plan h = same_on h

  runs_on : (plan : Plan) → SavedRuns before mid own plan → SavedRuns before after own plan
  runs_on plan h = record { files = h.files; held = h.held; bytes = h.bytes; saved = saved_on plan.output h.bytes h.saved; runs = h.runs }

  loads_so_far : (plan : Plan) → LoadsWork before after own plan → LoadsWork before mid own plan
  loads_so_far plan work = λ k among failed. work k among (load_on (word own k) failed)

  save_so_far : (output : Option (List ℕ)) → IfSome output (λ o. SaveFailed before after o → ⊥) → IfSome output (λ o. SaveFailed before mid o → ⊥)
  save_so_far None work = work
  save_so_far (Some output) work = λ failed. work (save_on output failed)

  pub links_before : (loose : Bool) (asked : Asked) (status : Status) → LinksBy loose asked status before mid own → LinksBy loose asked status before after own
  links_before loose asked status h = record {
    usage = λ u is. let p = h.usage u is in (p.0, same_on p.1);
    cause = on_ok (λ plan. Shows status before mid own plan) (λ plan. Shows status before after own plan) (planned true loose asked own) (shows_on status) h.cause;
    memory = λ is. same_on (h.memory is);
    runs = λ plan is linked told. runs_on plan (h.runs plan is linked told);
    is_usage = h.is_usage;
    is_refused = λ plan fault is told link work. h.is_refused plan fault is told link (loads_so_far plan work);
    is_linked = λ plan bytes is told link work save. h.is_linked plan bytes is told link (loads_so_far plan work) (save_so_far plan.output save);
  }

  pub links_as_before : (fatal : Bool) (asked : Asked) (status : Status) → LinksAs fatal asked status before mid own → LinksAs fatal asked status before after own
  links_as_before false asked status h = links_before true asked status h
  links_as_before true asked status h = elim h [ inl strict ↦ inl (links_before false asked status strict) | inr loose ↦ inr (loose.0, links_before true asked status loose.1) ]
