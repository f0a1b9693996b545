use Rattle.std.proofs.Common.{rules, ◌≡◌, None, sym, subst}
use Rattle.csl_wire_list.specs.Works.{index_at, names_of, AreIndices}
use Rattle.csl_wire_list.specs.declared.works.NamedWork.{NamedWork}
use Rattle.csl_wire_list.proofs.Names.{indexed_before, name_added, name_found, name_there, one_more_indexed}
use Rattle.csl_wire_list.proofs.works.WorksSoFar.index_of.Goals as goal

pub returns-in-Some-clause-index : goal.returns-in-Some-clause-index
returns-in-Some-clause-index c = name_found (names_of c.args.self.now.works.items) c.args.self.now.indices c.args.name.now c.in-Some.index.now c.args.self.now.indexed (sym c.in-Some.ensures.value)

pub returns-in-Some-clause-names : goal.returns-in-Some-clause-names
returns-in-Some-clause-names c = name_there c.args.self.now.works.items c.args.name.now c.args.self.now.indices c.in-Some.index.now c.args.self.now.indexed (sym c.in-Some.ensures.value)

pub invariant_of-self : goal.invariant_of-self
invariant_of-self c = record {
  indexed = subst (λ works. AreIndices (names_of works) c.args.self.now.indices) (sym c.in_err-push.ensures.items) c.args.self.now.indexed;
}

pub invariant_of-self-in-Ok : goal.invariant_of-self-in-Ok
invariant_of-self-in-Ok c =
    let work : NamedWork = record { name = c.args.name; first = c.args.first } in
    let absent : index_at c.args.self.now.indices c.args.name.now ≡ None = search rules in
    record { indexed = one_more_indexed c.args.self.now.works c.push.new.self work c.len-index.result c.args.self.now.indices c.insert.new.self c.args.self.now.indexed absent c.len-index.ensures c.in_ok-push.ensures.items c.in-Ok.ensures.updates }

pub invariant_of-self-in-Err : goal.invariant_of-self-in-Err
invariant_of-self-in-Err c =
    let work : NamedWork = record { name = c.args.name; first = c.args.first } in
    record { indexed = indexed_before c.args.self.now.works c.push.new.self c.truncate.new.self work c.len-index.result c.args.self.now.indices c.insert.new.self c.args.self.now.indexed c.len-index.ensures c.in_ok-push.ensures.items c.truncate.ensures.items c.in-Err.ensures.err }

pub returns-in-Ok-clause-names : goal.returns-in-Ok-clause-names
returns-in-Ok-clause-names c =
    let work : NamedWork = record { name = c.args.name; first = c.args.first } in
    let absent : index_at c.args.self.now.indices c.args.name.now ≡ None = search rules in
    name_added c.args.self.now.works c.push.new.self work c.args.self.now.indices c.args.self.now.indexed absent c.in_ok-push.ensures.items
