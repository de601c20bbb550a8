use Rattle.halves_step.proofs.place.peel_at.Goals as goal

pub peel_in-requires : goal.peel_in-requires
peel_in-requires c = rw c.in-First.is at c.requires

pub peel_in-requires-in-Second : goal.peel_in-requires-in-Second
peel_in-requires-in-Second c = rw c.in-Second.is at c.requires

pub returns-in-First : goal.returns-in-First
returns-in-First c = rw c.in-First.is c.peel_in.ensures

pub returns-in-Second : goal.returns-in-Second
returns-in-Second c = rw c.in-Second.is c.peel_in-in-Second.ensures
