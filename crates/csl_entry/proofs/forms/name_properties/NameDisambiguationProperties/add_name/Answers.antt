use Rattle.std.proofs.Common.{◌∙◌, ap, length, arith}
use Rattle.csl_entry.specs.NameProperties.{first_shown}
use Rattle.csl_entry.proofs.FormLists.{changed_at, long_enough}
use Rattle.csl_entry.proofs.forms.name_properties.NameDisambiguationProperties.add_name.Goals as goal

pub show_first-requires : goal.show_first-requires
show_first-requires c =
    let long = long_enough c.args.num c.args.self.now.name_forms.items c.in-Some.place c.index_mut.result.now c.in-Some.ensures c.index_mut.ensures.value in
    omega (arith, long.1, ap length c.deref_mut.ensures.value)

pub returns-clause-shown : goal.returns-clause-shown
returns-clause-shown c =
    let v = c.index_mut.result.now in
    let change = first_shown c.args.self.now.default_name_form c.args.num in
    let long = long_enough c.args.num c.args.self.now.name_forms.items c.in-Some.place v c.in-Some.ensures c.index_mut.ensures.value in
    changed_at c.args.self.now _ c.in-Some.place v change c.show_first.new.forms c.in-Some.ensures long.0 c.index_mut.ensures.value
    (omega (arith, c.show_first.auto.forms, c.deref_mut.ensures.len))
    (c.show_first.ensures ∙ ap change c.deref_mut.ensures.value)
