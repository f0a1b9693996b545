use Rattle.std.proofs.Common.{◌≡◌, sym, map}
use Rattle.serde_json.specs.View.{view}
use Rattle.csl_wire.proofs.NodesRead.{name_read}
use Rattle.csl_wire.proofs.name_parts.name.Goals as goal

pub returns : goal.returns
returns c =
    rw (sym c.in_ok-form.ensures.value) (name_read c.args.reader.marks (view c.in_ok-form.form.value.now)
    c.in_ok-options.options c.in_ok-formatting.formatting c.in_ok-parts.parts
    (map view c.in_ok-items.items.now)
    c.in_ok-options.ensures c.in_ok-formatting.ensures c.in_ok-items.ensures
    (rw c.in_ok-parts.ensures.ok at c.name_parts.ensures))
