use Rattle.std.proofs.Common.{rules}
use Rattle.csl_wire_list.specs.Works.{names_of}
use Rattle.csl_wire_list.proofs.Longer.{names_more, one_citation_more}
use Rattle.csl_wire_list.proofs.citations.citations.Goals as goal

pub loop-place-preserved : goal.loop-place-preserved
loop-place-preserved c =
    let before = names_of c.loop-place.works.works.items in
    let after = names_of c.citation-read.new.works.works.items in
    let read = (rw c.in_ok-within.ensures.ok at c.citation-read.ensures.citation) in
    let named = (rw c.in_ok-within.ensures.ok at c.citation-read.ensures.names) in
    record {
      read = rw c.in_ok-push.ensures.items (one_citation_more c.args.values.now c.loop-place.place _ before after c.loop-place.citations.items c.in_ok-within.field-0 c.loop-place-test.true (search rules) named c.loop-place.invariant.read read);
      names = names_more (names_of c.args.works.now.works.items) c.args.values.now c.loop-place.place _ before after c.loop-place-test.true (search rules) c.loop-place.invariant.names named;
    }
