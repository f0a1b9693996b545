use Rattle.csl_render.proofs.plan.next_plan.Goals as goal

pub returns-in-Some-clause-next : goal.returns-in-Some-clause-next
returns-in-Some-clause-next g c f fs h = c.next.ensures.next f fs (rw c.in-Some.is at h)

pub returns-in-Some-clause-rest : goal.returns-in-Some-clause-rest
returns-in-Some-clause-rest g c f fs h = c.next.ensures.rest f fs (rw c.in-Some.is at h)
