-- Each kept definition of the program of a shared output has a part.
use Rattle.std.proofs.Common.{◌≡◌, ℕ, List, ◌++◌, map, Some, None, Bool, true, false, refl, sym, ap, ◌∙◌, subst, inl, inr, ⊎_elim, arith}
use Rattle.std.specs.Prelude.{◌⊎◌, ◌==◌, cond}
use Rattle.list_places.specs.Has.{Has}
use Rattle.list_places.proofs.Lists.{has_left, has_right, flat_has, map_has, some_is}
use Rattle.linking_section.specs.declared.symbol.SymbolKind.{SymbolKind}
use Rattle.linking_section.specs.declared.symbol.SymbolKind.TheVariants.{Function, Datum, GlobalVar, Section, Table}
use Rattle.object_file.specs.declared.object.Object.{Object}
use Rattle.object_file.specs.Sound.{Sound as ObjectSound}
use Rattle.made_symbols.specs.Made.{made}
use Rattle.made_symbols.specs.declared.mode.Mode.TheVariants.{Shared}
use Rattle.mark_bits.specs.declared.chunk.Chunk.{Chunk}
use Rattle.name_rules.specs.Entries.{InputSymbol, made_from}
use Rattle.name_rules.specs.Meanings.{Resolved}
use Rattle.round_rules.specs.Rounds.{Candidate}
use Rattle.shared_links.specs.link_program.name_entries.View.{InputsRise}
use Rattle.link_rules.specs.Program.{Part, Ref, parts_in, made_parts_from, made_kind, chunk_at, chunk_by, chunk_of}
use Rattle.shared_links.specs.link_worlds.Sound.{PartOf}
use Rattle.shared_links.proofs.link_facts_lemmas.Symbols.{of_input, positive}
use Rattle.shared_links.proofs.link_facts_lemmas.Parts.{MadeAs, object_parts, made_or_object, known_kept}
use Rattle.shared_links.proofs.shared_laws_lemmas.Meant.{made_input}
use Rattle.shared_facts.proofs.Entries.{Known, made_part_of}

-- a chunk is of the symbol's input
chunk_input : (e : InputSymbol) (k : SymbolKind) (c : Chunk) → chunk_by e k ≡ Some c → c.input ≡ e.input
chunk_input e Function c h = sym (ap (λ (c : Chunk). c.input) (some_is (chunk_at e.input 0 e.index) c h))
chunk_input e Datum c h = by (e.input == 0) h
  where
    by : (b : Bool) → cond b None (Some (chunk_at e.input 1 e.index)) ≡ Some c → c.input ≡ e.input
    by true h = absurd (grind arith)
    by false h = sym (ap (λ (c : Chunk). c.input) (some_is (chunk_at e.input 1 e.index) c h))
chunk_input e GlobalVar c h = sym (ap (λ (c : Chunk). c.input) (some_is (chunk_at e.input 2 e.index) c h))
chunk_input e Section c h = absurd (grind arith)
chunk_input e Table c h = absurd (grind arith)

module _ (all : List Candidate) (objects : List Object) (res : Object → Resolved) (same : (o : Object) → (res o).object ≡ o) (calls : List Ref)
    (rise : InputsRise 0 objects) (sound : (o : Object) → Has objects o → (size : ℕ) × ObjectSound size o) where
  abbrev pub shared_parts : List Part
  shared_parts = made_parts_from calls 0 (made Shared) ++ object_parts all objects res same calls objects

  of_linker : (c : Chunk) → PartOf (made_parts_from calls 0 (made Shared)) c → PartOf shared_parts c
  of_linker c o = record { part = o.part; there = has_left (made_parts_from calls 0 (made Shared)) (object_parts all objects res same calls objects) o.part o.there; chunk = o.chunk }

  linkers : (e : InputSymbol) → Has (made_from 0 (made Shared)) e → (k : SymbolKind) → e.symbol.kind ≡ k → (c : Chunk) → chunk_by e k ≡ Some c → PartOf shared_parts c
  linkers e h Function q c t = subst (PartOf shared_parts) (some_is (chunk_at e.input 0 e.index) c t) (of_linker (chunk_at e.input 0 e.index) (made_part_of calls 0 (made Shared) e 0 h (ap made_kind q)))
  linkers e h Datum q c t = absurd (let z : (e.input == 0) ≡ true = ap (λ n. n == 0) (made_input 0 (made Shared) e h) in no (e.input == 0) z t)
    where
      no : (b : Bool) → b ≡ true → cond b None (Some (chunk_at e.input 1 e.index)) ≡ Some c → ⊥
      no true z t = absurd (grind arith)
      no false z t = absurd (grind arith)
  linkers e h GlobalVar q c t = subst (PartOf shared_parts) (some_is (chunk_at e.input 2 e.index) c t) (of_linker (chunk_at e.input 2 e.index) (made_part_of calls 0 (made Shared) e 2 h (ap made_kind q)))
  linkers e h Section q c t = absurd (grind arith)
  linkers e h Table q c t = absurd (grind arith)

  -- a part of a plain output that is an object's is one of a shared output too
  pub kept : (e : InputSymbol) → Known objects rise e → e.defines ≡ true → (c : Chunk) → chunk_of e ≡ Some c → PartOf shared_parts c
  kept e (inl h) d c t = linkers e h e.symbol.kind refl c t
  kept e (inr x) d c t =
      let w = known_kept all objects res same calls rise sound e (inr x) d c t in
      let i : w.part.chunk.input ≡ x.object.input = ap (λ (c : Chunk). c.input) w.chunk ∙ chunk_input e e.symbol.kind c t ∙ of_input objects e x in
      ⊎_elim
      (λ (m : MadeAs calls w.part). absurd (positive objects rise x.object x.there (sym i ∙ ap (λ (y : Part). y.chunk.input) m.is)))
      (λ b. record {
        part = w.part;
        there = has_right (made_parts_from calls 0 (made Shared)) (object_parts all objects res same calls objects) w.part
            (flat_has (parts_in all objects) (map res objects) (res b.0) w.part (map_has res objects b.0 b.1) b.2);
        chunk = w.chunk;
      })
      (made_or_object all objects res same calls w.part w.there)
