use Rattle.tvarchula.proofs.filling.tv_fill_roots.Goals as goal

pub returns : goal.returns
returns c = record { job = c.fill_roots.result; answer = c.plain.ensures; result = c.fill_roots.ensures }
