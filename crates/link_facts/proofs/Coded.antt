-- The functions of objects are bodies with their references.
use Rattle.std.proofs.Common.{◌≡◌, ℕ, zero, suc, ◌+◌, List, [], ◌∷◌, length, map, Option, Some, None, Bool, refl, sym, ap, ◌∙◌, subst, inl, inr, arith}
use Rattle.std.specs.Prelude.{slice_get, slice_index_or, filter_map, option_map, IsTrue, ℤ}
use Rattle.std.specs.List.{All, cons_option}
use Rattle.std.proofs.lemmas.Option.{slice_get-map}
use Rattle.std.proofs.lemmas.Bool.{false≢true}
use Rattle.list_places.specs.Has.{Has}
use Rattle.list_places.proofs.Lists.{has_at, all_has}
use Rattle.linking_section.specs.declared.symbol.Symbol.{Symbol}
use Rattle.body_windows.specs.declared.immediate.Immediate.{Immediate}
use Rattle.body_windows.specs.Immediates.{immediates, may_stand, needs_window}
use Rattle.body_windows.specs.declared.operand.Operand.{Operand}
use Rattle.body_windows.specs.declared.operand.Operand.TheVariants as operands
use Rattle.object_columns.specs.declared.functions.FunctionDef.{FunctionDef}
use Rattle.object_parts.specs.Sections.{bytes_in}
use Rattle.object_parts.specs.Spans.{LiesIn}
use Rattle.object_file.specs.declared.object.Object.{Object}
use Rattle.object_file.specs.Bodies.{IsOperandOf, AreOperandsOf, BodyStands}
use Rattle.object_file.specs.Sound.{Sound as ObjectSound, OperandNames, IsNamedBy, is_code_type}
use Rattle.round_rules.specs.Rounds.{Candidate}
use Rattle.made_symbols.specs.declared.mode.Mode.{Mode}
use Rattle.name_rules.specs.Entries.{InputSymbol, entry_in, entries_from, symbols_of}
use Rattle.name_rules.specs.Meanings.{Meaning, Resolved, Uses, resolved_in, meaning}
use Rattle.output_module.specs.link_rules.Program.{Program, Ref, Named, a_symbol, ref_to, ref_in, operand_named, function_part, span_in}
use Rattle.output_module.specs.link_rules.Values.{part_bytes}
use Rattle.image_emit.specs.Bytes.{file_part}
use Rattle.wasm_instr.specs.Bodies.{SpellsBody}
use Rattle.output_module.specs.Filled.{StandsOn, AllStandOn, names_in}
use Rattle.output_module.specs.Outputs.{IsCoded}
use Rattle.link_facts.specs.Facts.{IsFrom, bytes_of}
use Rattle.link_facts.proofs.Bytes.{part_in}

named_listed : (objects : List Object) (o : Object) (place : ℕ) (ss : List Symbol) (k : ℕ) (s : Symbol) → slice_get ss k ≡ Some s → (e : InputSymbol) × (slice_get (entries_from objects o place ss) k ≡ Some e)
named_listed objects o place [] k s h = absurd (grind arith)
named_listed objects o place (y ∷ ys) zero s h = (entry_in objects o place y, refl)
named_listed objects o place (y ∷ ys) (suc k) s h = named_listed objects o (place + 1) ys k s h

module _ (mode : Mode) (uses : Uses) (allow : Bool) (es : List InputSymbol) (objects : List Object) (o : Object) where
  abbrev res : Resolved
  res = resolved_in mode uses allow es objects o

  abbrev mean : InputSymbol → Meaning
  mean = meaning mode uses allow es

  named_there : (kind symbol : ℕ) (x : Option Symbol) → slice_get o.symbols symbol ≡ x → IsNamedBy kind x → (e : InputSymbol) × (slice_get (symbols_of objects o) symbol ≡ Some e)
  named_there kind symbol None q n = absurd n
  named_there kind symbol (Some s) q n = named_listed objects o 0 o.symbols symbol s q

  no_type : (kind : ℕ) → IsTrue (is_code_type kind) → kind ≡ 6 → ⊥
  no_type kind t z = false≢true (subst (λ k. IsTrue (is_code_type k)) z t)

  ref_there : (place kind symbol : ℕ) (addend : ℤ) → IsNamedBy kind (slice_get o.symbols symbol) → (ref : Ref) × (ref_in res place kind symbol addend ≡ Some ref) × (ref.place ≡ place) × (ref.kind ≡ kind)
  ref_there place kind symbol addend n =
      let e = named_there kind symbol (slice_get o.symbols symbol) refl n in
      let m : slice_get (map mean (symbols_of objects o)) symbol ≡ Some (mean e.0) = slice_get-map mean (symbols_of objects o) symbol ∙ ap (option_map mean) e.1 in (
        record { place = place; kind = kind; addend = addend; entry = e.0; meaning = mean e.0 },
        ap (λ x. ref_to place kind addend x (slice_get (map mean (symbols_of objects o)) symbol)) e.1 ∙ ap (ref_to place kind addend (Some e.0)) m,
        refl,
        refl,
      )

  stands_on : (i : Immediate) (x : Operand) → IsOperandOf i x → OperandNames o x → StandsOn i (operand_named res x)
  stands_on i operands.Number s n = s
  stands_on i (operands.Symbol kind place symbol addend) s n =
      let r = ref_there place kind symbol addend n.1 in
      subst (StandsOn i) (sym (ap (option_map a_symbol) r.1)) (r.2 ∙ s.0, s.1, subst (λ k. IsTrue (may_stand k i.kind)) (sym r.3) s.2, λ z. no_type kind n.0 (sym r.3 ∙ z))
  stands_on i (operands.TypeRef place index) s n = s
  stands_on i operands.TableZero s n = ap needs_window s

  all_stand : (is : List Immediate) (xs : List Operand) → AreOperandsOf is xs → ((x : Operand) → Has xs x → OperandNames o x) → AllStandOn is (map (operand_named res) xs)
  all_stand [] [] s n = tt
  all_stand [] (x ∷ xs) s n = absurd s
  all_stand (i ∷ is) [] s n = absurd s
  all_stand (i ∷ is) (x ∷ xs) s n = (stands_on i x s.0 (n x (inl refl)), all_stand is xs s.1 (λ y h. n y (inr h)))

  named_same : {A : Type 0} (f : A → Option Named) (xs : List A) → filter_map f xs ≡ names_in (map f xs)
  named_same f [] = refl
  named_same f (x ∷ xs) = onto (f x) (named_same f xs)
    where
      onto : (y : Option Named) → filter_map f xs ≡ names_in (map f xs) → cons_option y (filter_map f xs) ≡ cons_option y (names_in (map f xs))
      onto None h = h
      onto (Some n) h = ap (λ ns. n ∷ ns) h

  -- the bytes of a function in its object are those of its part
  pub bytes_are : (p : Program) (all : List Candidate) (k : ℕ) (f : FunctionDef) → slice_get o.functions k ≡ Some f → (from : IsFrom p.files all o) → ObjectSound (length (bytes_of p.files from.candidate)) o
      → bytes_in (bytes_of p.files from.candidate) f.span ≡ part_bytes p (function_part all objects res k f)
  bytes_are p all k f at from sound =
      let lies = all_has (λ (f : FunctionDef). LiesIn (length (bytes_of p.files from.candidate)) f.span) o.functions sound.bodies f (has_at o.functions k f at) in
      let c = from.candidate in
      part_in f.span.start f.span.len c.len c.start (slice_index_or p.files c.file []) lies ∙ ap (λ d. file_part p.files (span_in d f.span)) (sym from.found)

  pub coded_at : (p : Program) (all : List Candidate) (k : ℕ) (f : FunctionDef) → slice_get o.functions k ≡ Some f → (from : IsFrom p.files all o) → ObjectSound (length (bytes_of p.files from.candidate)) o
      → BodyStands (bytes_of p.files from.candidate) f → IsCoded p (function_part all objects res k f)
  coded_at p all k f at from sound b =
      let names = all_has (λ (f : FunctionDef). All (OperandNames o) f.operands) o.functions sound.operand_names f (has_at o.functions k f at) in
      record {
        body = b.body;
        stands = map (operand_named res) f.operands;
        spelled = subst (SpellsBody b.body) (bytes_are p all k f at from sound) b.spelled;
        on = all_stand (immediates b.body.code) f.operands b.operands (λ x h. all_has (OperandNames o) f.operands names x h);
        named = named_same (operand_named res) f.operands;
      }
