use Rattle.std.proofs.Common.{Some, ◌∙◌, sym, ap}
use Rattle.std.specs.Prelude.{slice_get, option_copied}
use Rattle.body_windows.specs.wasm_instr.wl_base.declared.span.Span.{Span}
use Rattle.object_columns.specs.declared.segments.SegmentDef.{SegmentDef}
use Rattle.object_columns.specs.Columns.{segment_of}
use Rattle.object_columns.proofs.Joined.{three_at, three_none_first, three_none_second, three_none_third}
use Rattle.object_columns.proofs.segments.Segments.get.Goals as goal

pub returns-in_default : goal.returns-in_default
returns-in_default c =
    let o = c.self.inside in
    sym (three_none_first segment_of o.rows o.names o.windows c.args.at (sym c.get.ensures ∙ ap option_copied c.in_default.is)) ∙ ap (λ list. slice_get list c.args.at) c.self.view_is

pub returns-in_default-get : goal.returns-in_default-get
returns-in_default-get c =
    let o = c.self.inside in
    sym (three_none_second segment_of o.rows o.names o.windows c.args.at (sym c.get-2.ensures ∙ ap option_copied c.in_default-get.is)) ∙ ap (λ list. slice_get list c.args.at) c.self.view_is

pub returns-in_default-get-2 : goal.returns-in_default-get-2
returns-in_default-get-2 c =
    let o = c.self.inside in
    sym (three_none_third segment_of o.rows o.names o.windows c.args.at (sym c.get-3.ensures ∙ ap option_copied c.in_default-get-2.is)) ∙ ap (λ list. slice_get list c.args.at) c.self.view_is

pub returns : goal.returns
returns c =
    let o = c.self.inside in
    let of : Span → SegmentDef = λ span. record { span = span; info = record { name = c.in-Some-get.name.now; align = c.in-Some.row.now.align; flags = c.in-Some.row.now.flags }; windows = c.in-Some-get-2.windows.now } in
    ap (λ span. Some (of span)) c.span.ensures
    ∙ sym (three_at segment_of o.rows o.names o.windows c.args.at c.in-Some.row.now c.in-Some-get.name.now c.in-Some-get-2.windows.now (sym c.get.ensures ∙ ap option_copied c.in-Some.is) (sym c.get-2.ensures ∙ ap option_copied c.in-Some-get.is) (sym c.get-3.ensures ∙ ap option_copied c.in-Some-get-2.is))
    ∙ ap (λ list. slice_get list c.args.at) c.self.view_is
