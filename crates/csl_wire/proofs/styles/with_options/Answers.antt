use Rattle.std.proofs.Common.{◌≡◌, sym}
use Rattle.serde_json.specs.View.{view}
use Rattle.csl_wire.proofs.NodesRead.{layout_read}
use Rattle.csl_wire.proofs.styles.with_options.Goals as goal

pub returns-clause-layout : goal.returns-clause-layout
returns-clause-layout c =
    rw (sym c.in_ok-form.ensures.reader, sym c.in_ok-form.ensures.value) (layout_read c.in_ok-form.form.reader.marks (view c.in_ok-form.form.value.now)
    c.in_ok-delimiter.delimiter c.in_ok-formatting.formatting c.in_ok-elements.elements
    c.in_ok-delimiter.ensures.read c.in_ok-formatting.ensures c.in_ok-elements.ensures)
