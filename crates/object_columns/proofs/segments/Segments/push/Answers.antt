use Rattle.std.proofs.Common.{◌∙◌, ◌++◌, ◌∷◌, [], ap}
use Rattle.body_windows.specs.wasm_instr.wl_base.declared.span.Span.{Span}
use Rattle.object_columns.specs.declared.segments.SegmentDef.{SegmentDef}
use Rattle.object_columns.specs.declared.segments.SegmentRow.{SegmentRow}
use Rattle.object_columns.specs.Columns.{joined_three, segment_of}
use Rattle.object_columns.specs.Seen.{segment_seen}
use Rattle.object_columns.proofs.Joined.{three_more}
use Rattle.object_columns.proofs.segments.Segments.push.Goals as goal

pub returns-in-Ok-clause-ok : goal.returns-in-Ok-clause-ok
returns-in-Ok-clause-ok c =
    let o = c.self.inside in
    let s = c.args.segment in
    let row : SegmentRow = record { span = c.in_ok-span.span; align = s.align; flags = s.flags } in
    let of : Span → SegmentDef = λ span. record { span = span; info = record { name = s.name.now; align = s.align; flags = s.flags }; windows = s.windows.now } in
    ap (λ xs. joined_three segment_of xs c.push-2.new.self c.push-3.new.self) c.in_ok-push.ensures.ok
    ∙ ap (λ ys. joined_three segment_of (o.rows ++ row ∷ []) ys c.push-3.new.self) c.in_default.ensures.ok
    ∙ ap (joined_three segment_of (o.rows ++ row ∷ []) (o.names ++ s.name.now ∷ [])) c.in-Ok.ensures.ok
    ∙ three_more segment_of o.rows o.names o.windows row s.name.now s.windows.now c.self.invariant.0 c.self.invariant.1
    ∙ ap (λ span. joined_three segment_of o.rows o.names o.windows ++ of span ∷ []) c.in_ok-span.ensures
    ∙ ap (λ list. list ++ segment_seen s ∷ []) c.self.view_is
